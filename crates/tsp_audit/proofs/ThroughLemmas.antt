-- What is found of a claimed history, event by event.
use Rattle.std.proofs.Common.{sym, ap, subst, arith, inl, inr, ◌⊎◌, ◌≡◌, ◌<◌, ◌≤◌, ◌+◌, ℕ, List, [], ◌∷◌, length, refl, None, Some, take}
use Rattle.std.proofs.lemmas.Bool.{cases_lt}
use Rattle.tsp_audit.specs.declared.{remembered.Remembered.Remembered, verdict.Failure.Failure}
use Rattle.tsp_audit.specs.{Ends.AreDated, Looking.Grown, Looking.Looks, Remembered.RememberedStands, Settings.HasClocks, Settings.Timely}
use Rattle.tsp_audit.specs.{Verdicts.AllHold, Verdicts.IsFound, Verdicts.IsFoundOfAll, declared.premises.Premises.Premises}
use Rattle.tsp_audit.proofs.EventLemmas.{found_more, grown_claims, holds_none, joins_within}
use Rattle.tsp_audit.proofs.{JudgeLemmas.prefix_is, NumberedLemmas.AllName}
use Rattle.tsp_promises.{proofs.shared.EverywhereLemmas.Everywhere_within, specs.Setting.Setting}
use Rattle.tsp_base.specs.Words.{HeaderValue, Line, Within}
use Rattle.tsp_base.proofs.PlaceLemmas.{Within_all, Within_length, Within_through}
use Rattle.tsp_claims.specs.ClaimedHistory.{Claim, claimed, events_of, posts_of, step_of}
use Rattle.tsp_claims.specs.Listed.{NamesNode, booted}
use Rattle.tsp_history.{proofs.NoteLemmas.length_history, specs.Histories.history_of, specs.declared.line.HistoryLine.HistoryLine}
use Rattle.tsp_run.specs.Run.{event_at}

-- the history up to an event is a place of the whole
pub claims_within : (header : HeaderValue) (s t : List Claim) → Within s t → Within (claimed header s) (claimed header t)
claims_within header s [] w = subst (λ (k : List Claim). Within (claimed header k) []) (sym w) refl
claims_within header s (c ∷ t) (inl e) = subst (λ (k : List Claim). Within (claimed header s) (claimed header k)) e (Within_all (claimed header s))
claims_within header s (c ∷ t) (inr w) =
    Within_through (claimed header s) (claimed header t) (claimed header (c ∷ t)) (claims_within header s t w)
    (joins_within header (step_of header (posts_of header t) (booted (events_of t)) c.event c.acts) c.acts (claimed header t))

pub dated_named : (count : ℕ) (told : List Claim) → AreDated count told → AllName count told
dated_named count [] dated = tt
dated_named count (c ∷ before) dated = (dated.0.1, dated_named count before dated.1)

pub dated_timely : (header : HeaderValue) (told : List Claim) → AreDated (length header.nodes) told → Timely (claimed header told)
dated_timely header [] dated = tt
dated_timely header (c ∷ before) dated = (grown_claims header before c dated.0.0 (dated_timely header before dated.1) (dated_named (length header.nodes) (c ∷
    before) dated)).timely

-- a history grows by the next event
pub grown_next : (header : HeaderValue) (told : List Claim) (c : Claim) (before : List Claim) → AreDated (length header.nodes) told → Within (c ∷ before) told →
    Grown (length header.nodes) (claimed header before) (claimed header (c ∷ before)) (length (claimed header before))
grown_next header told c before dated place =
    let up : AreDated (length header.nodes) (c ∷ before) = Everywhere_within (λ (k : Claim) (s : List Claim). (event_at k.event ≤ 1000000000000000) ×
    NamesNode (length header.nodes) k.event) (c ∷ before) told dated place in
    grown_claims header before c up.0.0 (dated_timely header before up.1) (dated_named (length header.nodes) (c ∷ before) up)

-- the lines up to the end of an event are its history
pub upto_is : (header : HeaderValue) (told upto : List Claim) (ns : List HistoryLine) (end : ℕ) → history_of ns ≡ claimed header told → Within upto told → end ≡
    length (claimed header upto) → history_of (take end ns) ≡ claimed header upto
upto_is header told upto ns end is place end_is =
    prefix_is ns (claimed header upto) end (subst (λ (h : List Line). Within (claimed header upto) h) (sym is) (claims_within header upto told place))
    (sym end_is)

pub upto_below : (header : HeaderValue) (told upto : List Claim) (ns : List HistoryLine) (end : ℕ) → history_of ns ≡ claimed header told → Within upto told →
    end ≡ length (claimed header upto) → end ≤ length ns
upto_below header told upto ns end is place end_is =
    omega (
      arith,
      end_is,
      Within_length (claimed header upto) (claimed header told) (claims_within header upto told place),
      length_history ns,
      ap (λ (h : List Line). length h) is,
    )

-- a place as long as the whole is the whole
pub whole_place : (told before : List Claim) → Within before told → length told ≤ length before → before ≡ told
whole_place [] before w le = w
whole_place (c ∷ t) before (inl e) le = e
whole_place (c ∷ t) before (inr w) le = let bad : ⊥ = omega (arith, le, Within_length before t w) in absurd bad

-- the claim that comes after some
pub record Next (told before : List Claim) : Type 0 where
  pub claim : Claim
  pub place : Within (claim ∷ before) told

next_of : (c : Claim) (t before : List Claim) → Within before t → (length before < length t → Next t before) → (length before < length t) ⊎
    (length t ≤ length before) → Next (c ∷ t) before
next_of c t before w more (inl lt) = let n = more lt in record { claim = n.claim; place = inr n.place }
next_of c t before w more (inr le) = record { claim = c; place = inl (ap (λ (k : List Claim). c ∷ k) (whole_place t before w le)) }

pub next_place : (told before : List Claim) → Within before told → length before < length told → Next told before
next_place [] before w less = let bad : ⊥ = omega (arith, less) in absurd bad
next_place (c ∷ t) before (inl e) less = let bad : ⊥ = omega (arith, less, ap (λ (k : List Claim). length k) e) in absurd bad
next_place (c ∷ t) before (inr w) less = next_of c t before w (λ lt. next_place t before w lt) (cases_lt (length before) (length t))

none_place : (told : List Claim) → Within [] told
none_place [] = refl
none_place (c ∷ t) = inr (none_place t)

-- so many events were looked at, up to so many lines, and nothing fails of them
pub record Reached (premises : Premises) (header : HeaderValue) (told : List Claim) (i from : ℕ) (notes : Remembered) : Type 0 where
  pub before : List Claim
  pub place : Within before told
  pub count : length before ≡ i
  pub from_is : from ≡ length (claimed header before)
  pub holds : (setting : Setting) → HasClocks header setting → AllHold premises setting header before
  pub notes_are : RememberedStands premises header (claimed header before) notes

pub reached_none : (premises : Premises) (header : HeaderValue) (told : List Claim) (notes : Remembered) → RememberedStands premises header [] notes →
    Reached premises header told 0 0 notes
reached_none premises header told notes stand = record {
  before = [];
  place = none_place told;
  count = refl;
  from_is = refl;
  holds = λ setting has. holds_none premises setting header;
  notes_are = stand;
}

-- nothing fails of the next event either
pub reached_next : (premises : Premises) (header : HeaderValue) (told : List Claim) (i from end : ℕ) (old new : Remembered) →
    (r : Reached premises header told i from old) → (n : Next told r.before) → end ≡ length (claimed header (n.claim ∷ r.before)) →
    Looks premises header (n.claim ∷ r.before) (claimed header r.before) new None → Reached premises header told (i + 1) end new
reached_next premises header told i from end old new r n end_is looks = record {
  before = n.claim ∷ r.before;
  place = n.place;
  count = (let many = r.count in omega (arith, many));
  from_is = end_is;
  holds = λ setting has. found_more premises header n.claim r.before None None new r.holds looks setting has;
  notes_are = looks.0;
}

-- the first failure up to an event is the first of all
found_through : (premises : Premises) (setting : Setting) (header : HeaderValue) (told upto : List Claim) (f : Failure) → Within upto told →
    IsFound premises setting header upto (Some f) → IsFound premises setting header told (Some f)
found_through premises setting header told upto f w first =
    record {
      claim = first.claim;
      before = first.before;
      place = Within_through (first.claim ∷ first.before) upto told first.place w;
      event_is = first.event_is;
      fails = first.fails;
      earlier = first.earlier;
    }

-- something fails of the next event
pub reached_failure : (premises : Premises) (header : HeaderValue) (told : List Claim) (i from : ℕ) (old new : Remembered) (f : Failure) →
    (r : Reached premises header told i from old) → (n : Next told r.before) →
    Looks premises header (n.claim ∷ r.before) (claimed header r.before) new (Some f) → IsFoundOfAll premises header told new (Some f)
reached_failure premises header told i from old new f r n looks = record {
  found_is = λ setting has. found_through premises setting header told (n.claim ∷
      r.before) f n.place (found_more premises header n.claim r.before None (Some f) new r.holds looks setting has);
  notes_are = λ none. (let bad : ⊥ = cc in absurd bad);
}

-- all events were looked at
pub reached_all : (premises : Premises) (header : HeaderValue) (told : List Claim) (i from : ℕ) (notes : Remembered) → length told ≤ i →
    Reached premises header told i from notes → IsFoundOfAll premises header told notes None
reached_all premises header told i from notes past r =
    let whole : r.before ≡ told = whole_place told r.before r.place (let many = r.count in omega (arith, past, many)) in
    record {
      found_is = λ setting has. subst (λ (s : List Claim). AllHold premises setting header s) whole (r.holds setting has);
      notes_are = λ none. subst (λ (s : List Claim). RememberedStands premises header (claimed header s) notes) whole r.notes_are;
    }
