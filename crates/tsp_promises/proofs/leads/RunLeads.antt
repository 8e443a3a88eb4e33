-- Steps follow one another, and each deed of them fits.
use Rattle.std.proofs.Common.{sym, subst, inl, inr, ap, arith, true≢false, ◌∙◌, ◌≡◌, ◌≤◌, ℕ, ◌+◌, Bool, true, false, List, [], ◌∷◌, None, refl}
use Rattle.tsp_base.specs.Words.{Step, Seen, Here, Past, plain, Leads, boot_tick, role, grown, in_step, puts, ◌followed_by◌, arms, is_among, Setup}
use Rattle.tsp_promises.specs.StepFacts.{StepEnds, is_unbacked, owes, unacknowledged, unheeded}
use Rattle.tsp_rules.specs.Values.{Boot, Become, Arm, Quiet, Starting, PeerId, Follow, QUIET}
use Rattle.tsp_rules.specs.CommonRows.{boots}
use Rattle.tsp_promises.specs.PortFits.{PortFits, setup_in}
use Rattle.tsp_promises.specs.Runs.{Makes, Boots, Answers as Answering, row_of, Happening, ran, last_tick, Ordered, RulesFit}
use Rattle.tsp_promises.proofs.leads.Known.{KnowsOf, Ended, Fresh, Rests}
use Rattle.tsp_promises.proofs.leads.Leaves.{made, none-some, none_among, nil_cons, some_same}
use Rattle.tsp_promises.proofs.{leads.AnswerLeads.answers_lead, leads.HeedLeads.answers_heed, leads.HeedLeads.untaken_heeds}

-- a step of a port at rest may end
pub ends_of : {x : ℕ} {past : Past} → Ended x past → StepEnds (setup_in past) past.seen
ends_of h = record {
  backs = h.0.backs;
  heeds = h.1;
  follows = h.0.follows;
  acknowledged = h.0.paid;
  exchanges = λ p counter request older e. let asked = h.0.knows.round.exchanges p counter _ older e in
      record { corrects = asked.corrects refl; lives = asked.life refl };
}

-- a port whose node boots now
pub record Booting (x : ℕ) (past : Past) : Type 0 where
  pub fresh : Fresh x past
  pub starts : role past.seen ≡ Starting
  pub boot_is : boot_tick (plain past.seen) ≡ x

pub booted : (x : ℕ) (past : Past) → Fresh x past → Booting x (grown x past (Boot ∷ []))
booted x past h = record {
  fresh = made Boot h.own tt h.fits
      (record {
        times = record {
          boot_le = omega arith;
          last_le = omega arith;
          boot_is = refl;
          start_le = λ start idle e. nil_cons (Here start) idle e;
          next = λ at e. none-some at e;
        };
        quiet = record {
          rested = inl (record { starts = refl; unsearched = refl; unelected = refl; unresolved = refl; unsent = λ p. refl });
          silent = λ at e. none-some at e;
        };
        vote = record { stands = λ e. let bad : ⊥ = cc in absurd bad; windows = λ at e. none-some at e; votes = λ p e. absurd (true≢false (sym e)) };
        round = record {
          rounds = λ at e. none-some at e;
          probing = λ at e. none-some at e;
          closes = λ calm at e. none-some at e;
          exchanges = λ p i s older e. nil_cons s older e;
        };
      })
      (λ e. absurd (true≢false (sym e))) h.backs h.owed h.paid h.acting_is h.took;
  starts = refl;
  boot_is = refl;
}

pub quiets : (x : ℕ) (past : Past) → Booting x past → Booting x (grown x past (Become Starting ∷ Arm Quiet (x + QUIET) ∷ []))
quiets x past b =
    let h = b.fresh in
    let k = h.knows in
    let boot = b.boot_is in
    record {
      fresh = made {past = grown x past (Become Starting ∷ [])} (Arm Quiet (x + QUIET)) h.own tt (tt, h.fits)
          (record {
            times = record {
              boot_le = k.times.boot_le;
              last_le = k.times.last_le;
              boot_is = k.times.boot_is;
              start_le = k.times.start_le;
              next = λ at e. none-some at e;
            };
            quiet = record {
              rested = inl (record { starts = refl; unsearched = refl; unelected = refl; unresolved = refl; unsent = λ p. refl });
              silent = λ at e. (refl, let is = some_same (x + QUIET) at e in omega (arith, is, boot));
            };
            vote = record { stands = λ e. let bad : ⊥ = cc in absurd bad; windows = λ at e. none-some at e; votes = λ p e. absurd (true≢false (sym e)) };
            round = record {
              rounds = λ at e. none-some at e;
              probing = λ at e. none-some at e;
              closes = λ calm at e. none-some at e;
              exchanges = λ p i s older e. nil_cons s older e;
            };
          })
          (λ e. absurd (true≢false (sym e))) h.backs h.owed h.paid h.acting_is h.took;
      starts = refl;
      boot_is = b.boot_is;
    }

pub boot_rests : (x : ℕ) (past : Past) → Booting x past → Rests x past
boot_rests x past b = let h = b.fresh in record { fits = h.fits; knows = h.knows; backs = h.backs; follows = λ p e. none_among p h.owed e; paid = h.paid }

-- a boot keeps what is known of a port, and heeds what its step takes, which is nothing
pub boots_lead : Leads Fresh boots Ended
unfolding boots puts arms ◌followed_by◌
boots_lead = record {
  run = λ x past h. (
    boot_rests x (grown x past (boots x past)) (quiets x (grown x past (Boot ∷ [])) (booted x past h)),
    untaken_heeds past.peers past.seen h.took.0,
  );
}

-- what is known of a port is known later too
pub knows_later : {stirred : Bool} (x y : ℕ) (own : PeerId) (seen : List Seen) → x ≤ y → KnowsOf stirred x own seen → KnowsOf stirred y own seen
knows_later x y own seen later k = record {
  times = record {
    boot_le = (let b = k.times.boot_le in omega (arith, b, later));
    last_le = (let b = k.times.last_le in omega (arith, b, later));
    boot_is = k.times.boot_is;
    start_le = λ start idle e. (let b = k.times.start_le start idle e in omega (arith, b, later));
    next = k.times.next;
  };
  quiet = record { rested = elim k.quiet.rested [ inl e ↦ inl e | inr r ↦ inr (omega (arith, r, later)) ]; silent = k.quiet.silent };
  vote = record {
    stands = λ e. let s = k.vote.stands e in let long = s.0 in (omega (arith, long, later), λ t i. let q = s.1 t i in omega (arith, q, later));
    windows = k.vote.windows;
    votes = k.vote.votes;
  };
  round = k.round;
}

-- a step begins at a later tick
pub begins_fresh : (step : Step) (x y : ℕ) (past : Past) → x ≤ y → past.own.0 ≡ step.node → Ended x past → Fresh y (in_step step y past)
begins_fresh step x y past later own h = record {
  own = own;
  fits = (ends_of h, h.0.fits);
  knows = knows_later x y past.own past.seen later h.0.knows;
  rested = λ e. absurd (true≢false (sym e));
  backs = refl;
  owed = refl;
  paid = refl;
  acting_is = refl;
  took = (refl, refl);
}

pub row_leads : (m : Makes) → Leads Fresh (row_of m) Ended
row_leads Boots = boots_lead
row_leads (Answering g) = record { run = λ x past h. ((answers_lead g).run x past h, (answers_heed g).run x past h) }

pub ended_later : (x y : ℕ) (past : Past) → x ≤ y → Ended x past → Ended y past
ended_later x y past later e = let h = e.0 in (
  record {
    fits = h.fits;
    knows = knows_later x y past.own past.seen later h.knows;
    backs = h.backs;
    follows = h.follows;
    paid = h.paid;
  },
  e.1,
)

-- what is known is known of another past of a port that is set up alike and has seen the same
rests_seen : (x : ℕ) (past now : Past) → past.own ≡ now.own → setup_in past ≡ setup_in now → past.seen ≡ now.seen → Rests x past → Rests x now
rests_seen x past now own setup seen h = record {
  fits = subst (λ s. PortFits s now.seen) setup (subst (λ z. PortFits (setup_in past) z) seen h.fits);
  knows = subst (λ o. KnowsOf false x o now.seen) own (subst (λ z. KnowsOf false x past.own z) seen h.knows);
  backs = subst (λ z. is_unbacked z ≡ false) seen h.backs;
  follows = subst (λ z. (p : PeerId) → is_among p (owes z) ≡ true → role z ≡ Follow p) seen h.follows;
  paid = subst (λ z. unacknowledged z ≡ None) seen h.paid;
}

-- so that has ended its step too
pub ended_seen : (x : ℕ) (past now : Past) → past.own ≡ now.own → setup_in past ≡ setup_in now → past.seen ≡ now.seen → Ended x past → Ended x now
ended_seen x past now own setup seen e = (
  rests_seen x past now own setup seen e.0,
  subst (λ (s : Setup). unheeded s.peers now.seen ≡
      None) setup (subst (λ z. unheeded past.peers z ≡ None) seen e.1),
)

-- a port that has done nothing
pub nothing_done : (x : ℕ) (past : Past) → Ended x (record past { seen = [] })
nothing_done x past = (
  record {
    fits = tt;
    knows = record {
      times = record {
        boot_le = omega arith;
        last_le = omega arith;
        boot_is = refl;
        start_le = λ start idle e. nil_cons (Here start) idle e;
        next = λ at e. none-some at e;
      };
      quiet = record {
        rested = inl (record { starts = refl; unsearched = refl; unelected = refl; unresolved = refl; unsent = λ p. refl });
        silent = λ at e. none-some at e;
      };
      vote = record { stands = λ e. let bad : ⊥ = cc in absurd bad; windows = λ at e. none-some at e; votes = λ p e. absurd (true≢false (sym e)) };
      round = record {
        rounds = λ at e. none-some at e;
        probing = λ at e. none-some at e;
        closes = λ calm at e. none-some at e;
        exchanges = λ p i s older e. nil_cons s older e;
      };
    };
    backs = refl;
    follows = λ p e. none_among p refl e;
    paid = refl;
  },
  refl,
)

-- and owes nothing
pub nothing_ends : (setup : Setup) → StepEnds setup []
nothing_ends setup = record {
  backs = refl;
  heeds = refl;
  follows = λ p e. none_among p refl e;
  acknowledged = refl;
  exchanges = λ p i s older e. nil_cons (Here s) older e;
}

own_ran : (hs : List Happening) (past : Past) → (ran hs past).own ≡ past.own
own_ran [] past = refl
own_ran (h ∷ before) past = own_ran before past

setup_ran : (hs : List Happening) (past : Past) → setup_in (ran hs past) ≡ setup_in past
setup_ran [] past = refl
setup_ran (h ∷ before) past = setup_ran before past

ran_rests : (past : Past) (hs : List Happening) → past.seen ≡ [] → Ordered past.own.0 hs → Ended (last_tick hs) (ran hs past)
ran_rests past [] e o = subst (λ s. Ended 0 (record past { seen = s })) (sym e) (nothing_done 0 past)
ran_rests past (h ∷ before) e o =
    let own : (ran before past).own.0 ≡ h.step.node = ap (λ (p : PeerId). p.0) (own_ran before past) ∙ sym o.1 in
    (row_leads h.makes).run h.tick (in_step h.step h.tick (ran before past)) (begins_fresh h.step (last_tick before) h.tick (ran before past) o.0 own
    (ran_rests past before e o.2))

-- a port that runs by the rules owes nothing
pub rules_fit : RulesFit
rules_fit past hs e o =
    let r = ran_rests past hs e o in
    (subst (λ s. PortFits s (ran hs past).seen) (setup_ran hs past) r.0.fits, subst (λ s. StepEnds s (ran hs past).seen) (setup_ran hs past) (ends_of r))
