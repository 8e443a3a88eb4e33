-- Dates and LOOPs. A follower passes a client's date on to its master, which sets it. Then either another date comes in the master's next life,
-- or one in forged octets, after which the first is set again. And a LOOP comes back: node 1 leads on both of its ports, node 2 passes its LOOP on
-- to the network that it shares with node 3, and that one back.
use Rattle.std.proofs.Common.{sym, ap, arith, subst, inl, inr, true≢false, eq-eqb, cond, ◌∙◌, ◌≡◌, ◌≢◌, ◌≤◌, ◌==◌, ◌<◌, Bool, ℕ, ◌+◌, ◌-◌, ◌-ℤ◌, Option, None}
use Rattle.std.proofs.Common.{Some, true, false, ℤ, pos, negsuc, List, [], ◌∷◌, refl}
use Rattle.tsp_rules.specs.Values.{Took, Post, Become, Correct, Acked, Ring, Back, Window, Elect, Message, Good, Ack, Date, DateAck, SetDateReq, LoopKind, Hops}
use Rattle.tsp_rules.specs.Values.{Nothing, TimeBody, PeerId, Peer, Stranger, Loose, Follow, Candidate, Master, DATEHOLD}
use Rattle.tsp_base.specs.Words.{Acts, Came, Did, Handed, Here, Turned, Line, MessageValue, Seen, Setup, Dating, Receives, is_date_request, last_date, plain}
use Rattle.tsp_base.specs.Words.{role, sets_date, taken, target, time_in, of, view, peer_of}
use Rattle.tsp_promises.proofs.witness.Histories.{does, line, msg, named_msg, on, skip, skipped, step_at, still}
use Rattle.tsp_promises.proofs.witness.HistoriesFit.{Stage, after, at, stages_fit, skip_fits, ◌also◌, boots, turns, takes, hands, stands, wins, all_finished}
use Rattle.tsp_promises.specs.{CorrectFits.ByDate, CorrectFits.WhyCorrect, Uses.DateUse, Uses.DatedUse, Uses.ForgedDate, Uses.LoopUse}
use Rattle.tsp_promises.specs.{DateFits.AnswersPassedOn, Fits.Fits, Fits.node_of, Looped.LoopPost, Once.ActsOn, Once.OfSend}
use Rattle.tsp_promises.{proofs.witness.StepChecks.port0, proofs.witness.StepChecks.port1, specs.Premises.NamesApart}
use Rattle.tsp_promises.proofs.{witness.Debts.debts, witness.Debts.did_in, witness.Debts.heard_in, witness.Debts.not_same, witness.Debts.rest_of}
use Rattle.tsp_promises.proofs.{witness.WitnessUse.led, witness.WitnessUse.lead}
use Rattle.tsp_promises.proofs.{witness.PremiseChecks.few_by, witness.PremiseChecks.kept_by, witness.PremiseChecks.life_by, witness.PremiseChecks.words_by}
use Rattle.tsp_promises.proofs.{witness.Spots.spot}

-- whether the date that was set last has another number
abbrev is_new : Option Dating → ℕ → Bool
is_new None n = true
is_new (Some d) n = cond (d.number == n) false true

-- what is asked then
not_again : {p q : PeerId} {n at : ℕ} (seen : List Seen) → is_new (last_date p seen) n ≡ true → (d : Dating) → Peer p ≡ Peer q →
    last_date q seen ≡ Some d → d.number ≡ n → d.at + DATEHOLD ≤ at
not_again {p} {q} {n} seen new d from is same =
    let own : q ≡ p = cc in
    let k : is_new (Some d) n ≡ true = subst (λ z. is_new z n ≡ true) (ap (λ r. last_date r seen) (sym own) ∙ is) new in
    absurd (true≢false (sym (subst (λ b. cond b false true ≡ true) (eq-eqb d.number n same) k)))

-- a Correct that takes a date which node 1 passes on
by_date : {setup : Setup} {here : Did} {before : List Seen} {amount : ℤ} → before ≡ Here (did_in before) ∷ rest_of before →
    (did_in before).deed ≡ Acts (Took (Peer (peer_of 1)) (Good (Message (heard_in (taken before))))) →
    sets_date (heard_in (taken before)).kind ≡ true → role before ≡ Master →
    amount ≡ time_in (heard_in (taken before)).body -ℤ target (plain before) here.tick →
    is_new (last_date (peer_of 1) before) (heard_in (taken before)).number ≡ true → WhyCorrect setup here before amount
by_date {before = before} is deed kind leads amount_is new = ByDate (record {
  from = Peer (peer_of 1);
  message = _;
  took = _;
  past = _;
  is = is;
  deed = deed;
  kind = kind;
  leads = leads;
  amount_is = amount_is;
  again = λ p d from request last same. not_again before new d from last same;
})

abbrev dating_in : Option Dating → Dating
dating_in None = record { at = 0; number = 0 }
dating_in (Some d) = d

-- its answer
date_acks : {here : Did} {before : List Seen} {p : PeerId} {number : ℕ} → Receives before p (Message (heard_in (taken before))) →
    is_date_request (heard_in (taken before)).kind ≡ true → (heard_in (taken before)).number ≡ number →
    last_date p before ≡ Some (dating_in (last_date p before)) → (dating_in (last_date p before)).number ≡ number →
    here.tick < (dating_in (last_date p before)).at + DATEHOLD → AnswersPassedOn here before p number
date_acks {before = before} took kind number last same fresh = record {
  message = heard_in (taken before);
  took = took;
  kind = kind;
  number_is = number;
  last = _;
  last_is = last;
  same = same;
  fresh = fresh;
}

abbrev passing_steps : List Stage
passing_steps =
    turns (at 305000000 1 0) (Become (Follow (peer_of 0)) ∷ []) ∷
    hands (at 310000000 1 0) Stranger (Message (msg Date 5 (TimeBody (pos 600000000)))) (Post Stranger (Message (named_msg 1 Ack 5 Nothing)) ∷
    Post (Peer (peer_of 0)) (Message (msg SetDateReq 32777 (TimeBody (pos 600000000)))) ∷ []) ∷
    takes (at 310000001 0 0) 1 1 (Message (msg SetDateReq 32777 (TimeBody (pos 600000000)))) (Correct (pos 289999999) true (pos 600000000) ∷
    Post (Peer (peer_of 1)) (Message (msg DateAck 32777 Nothing)) ∷ []) ∷
    takes (at 310000002 1 0) 2 0 (Message (msg DateAck 32777 Nothing)) (Acked (peer_of 0) ∷ []) ∷
    hands (at 312000000 0 0) (Peer (peer_of 1)) (Message (msg SetDateReq 100 (TimeBody (pos 500000000)))) (Correct (negsuc 101999998) true (pos 500000000) ∷
    Post (Peer (peer_of 1)) (Message (msg DateAck 100 Nothing)) ∷ []) ∷
    takes (at 314000000 0 0) 1 1 (Message (msg SetDateReq 32777 (TimeBody (pos 600000000)))) (Correct (pos 98000000) true (pos 600000000) ∷
    Post (Peer (peer_of 1)) (Message (msg DateAck 32777 Nothing)) ∷ []) ∷
    []

-- the history after so many steps
abbrev passing : ℕ → List Line
passing k = after (k - 5) passing_steps (lead 5)

passing_fits : Fits (still false) (passing 11)
passing_fits = stages_fit false 6 passing_steps (lead 5) led refl (search (debts, by_date, date_acks))

dates : Fits (still false) (passing 9)
dates = skip_fits false 8 (passing 11) passing_fits

abbrev renewed_steps : List Stage
renewed_steps =
    boots 400000000 0 8 ∷
    stands (at 700000000 0 0) ∷
    wins (at 705000000 0 0) ∷
    hands (at 710000000 1 0) Stranger (Message (msg Date 6 (TimeBody (pos 900000000)))) (Post Stranger (Message (named_msg 1 Ack 6 Nothing)) ∷
    Post (Peer (peer_of 0)) (Message (msg SetDateReq 32778 (TimeBody (pos 900000000)))) ∷ []) ∷
    takes (at 710000001 0 0) 4 1 (Message (msg SetDateReq 32778 (TimeBody (pos 900000000)))) (Correct (pos 189999999) true (pos 900000000) ∷
    Post (Peer (peer_of 1)) (Message (msg DateAck 32778 Nothing)) ∷ []) ∷
    takes (at 710000002 1 0) 5 0 (Message (msg DateAck 32778 Nothing)) (Acked (peer_of 0) ∷ []) ∷
    []

abbrev passes : Line
passes = does 310000000 1 Handed (Post (Peer (peer_of 0)) (Message (msg SetDateReq 32777 (TimeBody (pos 600000000)))))

abbrev dates_at : ActsOn (does 310000001 0 (Came 1) (Correct (pos 289999999) true (pos 600000000))) (skip 2 (passing 8)) passes (skip 1 (passing 7))
dates_at = record {
  amount = pos 289999999;
  stepped = true;
  shown = pos 600000000;
  correct = refl;
  brings = record {
    place = skipped 2 (skip 2 (passing 8));
    cause = refl;
    message = msg SetDateReq 32777 (TimeBody (pos 600000000));
    deed = refl;
  };
  took = refl;
}

abbrev dated_again : ActsOn (does 314000000 0 (Came 1) (Correct (pos 98000000) true (pos 600000000))) (skip 2 (passing 11)) passes (skip 1 (passing 7))
dated_again = record {
  amount = pos 98000000;
  stepped = true;
  shown = pos 600000000;
  correct = refl;
  brings = record {
    place = skipped 13 (skip 2 (passing 11));
    cause = refl;
    message = msg SetDateReq 32777 (TimeBody (pos 600000000));
    deed = refl;
  };
  took = refl;
}

sends : OfSend 0 passes (skip 1 (passing 7)) passes.did (view port0 (of 1 (skip 1 (passing 7))))
sends = record { message = msg SetDateReq 32777 (TimeBody (pos 600000000)); deed = refl; numbered = refl; is = refl }

abbrev resends : Line
resends = does 710000000 1 Handed (Post (Peer (peer_of 0)) (Message (msg SetDateReq 32778 (TimeBody (pos 900000000)))))

-- a date is passed on, set and acknowledged, and in the master's next life another
pub date_use : DateUse
date_use = record {
  history = kept_by false (after 6 renewed_steps (passing 9)) (stages_fit false 6 renewed_steps (passing 9) dates refl
      (search (debts, by_date, date_acks))) refl refl refl refl;
  later = record {
    correct = spot 4 (after 6 renewed_steps (passing 9)) refl;
    post = resends;
    older = skip 1 (after 4 renewed_steps (passing 9));
    acts = record {
      amount = pos 189999999;
      stepped = true;
      shown = pos 900000000;
      correct = refl;
      brings = record {
        place = skipped 2 (skip 2 (after 5 renewed_steps (passing 9)));
        cause = refl;
        message = msg SetDateReq 32778 (TimeBody (pos 900000000));
        deed =
            refl;
      };
      took = refl;
    };
    kind = refl;
  };
  first = record {
    correct = spot 19 (skip 5 (after 6 renewed_steps (passing 9))) refl;
    post = passes;
    older = skip 1 (passing 7);
    acts = dates_at;
    kind =
        refl;
  };
  node = refl;
  booted = omega arith;
}

-- with forged octets one is set twice
pub forged_date : ForgedDate
forged_date = record {
  setting = still false;
  world = passing 11;
  fits = passing_fits;
  finished = all_finished false (passing 11) refl;
  life = life_by (passing 11) refl;
  words = words_by (passing 11) refl;
  twice = λ h.
      h.1.0 passes (does 310000001 0 (Came 1) (Correct (pos 289999999) true (pos 600000000))) passes (skip 1 (passing 7))
      (skip 2 (passing 8))
      (skip 1 (passing 7)) passes.did (view port0 (of 1 (skip 1 (passing 7)))) dated_again refl (skipped 10 (skip 2 (passing 11)))
      dates_at sends sends;
}

-- the first date is set, and acknowledged to the one who passed it on
pub dated_use : DatedUse
dated_use = record {
  history = kept_by false (passing 9) dates refl refl refl refl;
  few = few_by (passing 9) refl;
  acked = spot 0 (passing 9) refl;
  correct = spot 3 (skip 1 (passing 9)) refl;
  amount = pos 289999999;
  stepped = true;
  shown = pos 600000000;
  corrects = refl;
  from = Peer (peer_of 1);
  message = msg SetDateReq 32777 (TimeBody (pos 600000000));
  took = refl;
  sets = refl;
  peer = peer_of 0;
  ends = refl;
  first = _;
  older = _;
  is_open = refl;
  date = msg SetDateReq 32777 (TimeBody (pos 600000000));
  posts = refl;
  kind = refl;
  same = refl;
}

-- a LOOP of node 1 from its port 0, with so many hops
abbrev pub loop_with : ℕ → MessageValue
loop_with hops = record { kind = LoopKind; number = 0; body = Hops hops; name = 1 ∷ [] }

names_differ : (x y : ℕ) → x < y → y ∷ [] ≢ x ∷ []
names_differ x y l e = let same : y ≡ x = cc in not_same x y l (sym same)

-- in these settings each node has a name of its own
pub names_by : (strict : Bool) (h : List Line) → NamesApart (still strict) h
names_by strict [] = tt
names_by strict (l ∷ t) = (
  λ other older w e. let named : node_of other ∷ [] ≡ node_of l ∷ [] = e in let same : node_of other ≡ node_of l = cc in same,
  names_by strict t,
)

abbrev circle_steps : List Stage
circle_steps =
    boots 0 1 7 ∷
    boots 0 2 9 ∷
    boots 0 3 11 ∷
    record {
      step = step_at 300000000 1 Turned;
      acts = on port0 (Ring Elect) ∷ on port0 (Become Candidate) ∷ on port0 (Back (peer_of 1)) ∷
          on port1 (Ring Elect) ∷ on port1 (Become Candidate) ∷ on port1 (Back (peer_of 1)) ∷ [];
    } ∷
    record {
      step = step_at 305000000 1 Turned;
      acts = on port0 (Ring Window) ∷ on port0 (Become Master) ∷ on port1 (Ring Window) ∷ on port1 (Become Master) ∷
          [];
    } ∷
    turns (at 310000000 1 0) (Post (Peer (peer_of 2)) (Message (loop_with 10)) ∷ []) ∷
    record {
      step = step_at 310000001 2 (Came 0);
      acts = on port0 (Took (Peer (peer_of 1)) (Good (Message (loop_with 10)))) ∷
          on port1 (Post (Peer (peer_of 3)) (Message (loop_with 9))) ∷ [];
    } ∷
    record {
      step = step_at 310000002 3 (Came 1);
      acts = on port1 (Took (Peer (peer_of 2)) (Good (Message (loop_with 9)))) ∷
          on port0 (Post (Peer (peer_of 1)) (Message (loop_with 8))) ∷ [];
    } ∷
    takes (at 310000003 1 1) 2 3 (Message (loop_with 8)) (Become Loose ∷ []) ∷
    []

-- the history after so many steps
abbrev circle : ℕ → List Line
circle k = after k circle_steps []

circle_fits : Fits (still false) (circle 9)
circle_fits =
    stages_fit false 9 circle_steps [] tt refl ((search debts) also (search debts) also (search debts) also (search debts) also
    (search debts) also (search debts) also (
      search debts,
      (
        (
          refl,
          record {
            rested = inl (omega arith);
            fits = inr (record {
              from = peer_of 1;
              message = loop_with 10;
              took = refl;
              kind = refl;
              name = refl;
              number = refl;
              other = λ e. names_differ 1 2 (omega arith) (sym e);
              left = 9;
              came = refl;
              goes = refl;
              few = omega arith;
            });
          },
        ),
        tt,
      ),
    ) also (
      search debts,
      (
        (
          refl,
          record {
            rested = inl (omega arith);
            fits = inr (record {
              from = peer_of 2;
              message = loop_with 9;
              took = refl;
              kind = refl;
              name = refl;
              number = refl;
              other = λ e. names_differ 1 3 (omega arith) (sym e);
              left = 8;
              came = refl;
              goes = refl;
              few = omega arith;
            });
          },
        ),
        tt,
      ),
    ) also
    (search debts, ((refl, λ leads. record { from = peer_of 3; message = loop_with 8; took = refl; kind = refl; name = refl; number = omega arith }), tt)) also
    tt)

abbrev sets_out : LoopPost
sets_out = record {
  post = does 310000000 1 Turned (Post (Peer (peer_of 2)) (Message (loop_with 10)));
  older = skip 1 (circle 6);
  to = peer_of 2;
  message = loop_with 10;
  deed = refl;
  kind = refl;
  hops = 10;
  hops_is = refl;
}

abbrev goes_on : LoopPost
goes_on = record {
  post = line (step_at 310000001 2 (Came 0)) port1 (Post (Peer (peer_of 3)) (Message (loop_with 9)));
  older = skip 1 (circle 7);
  to = peer_of 3;
  message = loop_with 9;
  deed = refl;
  kind = refl;
  hops = 9;
  hops_is = refl;
}

abbrev comes_back : LoopPost
comes_back = record {
  post = does 310000002 3 (Came 1) (Post (Peer (peer_of 1)) (Message (loop_with 8)));
  older = skip 1 (circle 8);
  to = peer_of 1;
  message = loop_with 8;
  deed = refl;
  kind = refl;
  hops = 8;
  hops_is = refl;
}

pub loop_use : LoopUse
loop_use = record {
  history = kept_by false (circle 9) circle_fits refl refl refl refl;
  names = names_by false (circle 9);
  loose = spot 0 (circle 9) refl;
  deed = refl;
  leads = refl;
  gives_up = record {
    last = comes_back;
    rest = goes_on ∷ (sets_out ∷ []);
    takes = record { brings = record { place = skipped 2 (skip 1 (circle 9)); cause = refl; message = loop_with 8; deed = refl }; took = refl };
    chain = (
      record { brings = record { place = skipped 2 (skip 1 (circle 8)); cause = refl; message = loop_with 9; deed = refl }; took = refl },
      (
        refl,
        (record { brings = record { place = skipped 2 (skip 1 (circle 7)); cause = refl; message = loop_with 10; deed = refl }; took = refl }, (refl, refl)),
      ),
    );
    sent = ((λ e. not_same 1 3 (omega arith) (sym e)), ((λ e. not_same 1 2 (omega arith) (sym e)), (refl, omega arith)));
  };
  by_two = refl;
  lower = port0;
  is_lower = omega arith;
  leads_lower = refl;
}
