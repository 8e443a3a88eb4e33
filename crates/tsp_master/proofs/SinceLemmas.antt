-- Samples of a going round are of exchanges that began after the last Correct.
use Rattle.std.proofs.Common.{◌≡◌, true, List, [], ◌∷◌, Some, inl, inr, ap}
use Rattle.tsp_rules.specs.Values.{PeerId}
use Rattle.tsp_base.specs.Words.{Past, Seen, plain, correct_place, Within, Sampled, best, is_going, started}
use Rattle.tsp_base.proofs.PlaceLemmas.{Within_through}
use Rattle.tsp_master.specs.declared.master.Master.{Master}
use Rattle.tsp_master.specs.MasterStands.{IsLeftAlone, IsSinceCorrect, MasterStands}

-- an earlier place is one without ports too
Within_plain : (s t : List Seen) → Within s t → Within (plain s) (plain t)
Within_plain s [] e = ap plain e
Within_plain s (l ∷ t) (inl e) = inl (ap plain e)
Within_plain s (l ∷ t) (inr w) = inr (Within_plain s t w)

pub since_correct : (past : Past) (m : Master) (p : PeerId) (s : Sampled) → MasterStands past m → is_going past.seen ≡ true → IsLeftAlone past.seen →
    best p past.seen ≡ Some s → IsSinceCorrect p s past.seen
since_correct past m p s h goes alone e =
    let r = (h.going goes).recent p s e in
    record {
      taken = r.taken;
      before = r.before;
      place_is = r.place_is;
      post = r.post;
      older = r.older;
      exchange_is = r.exchange_is;
      since = Within_through (correct_place (plain past.seen)) (plain (started past.seen)) (plain r.older) alone
          (Within_plain (started past.seen) r.older r.since);
    }
