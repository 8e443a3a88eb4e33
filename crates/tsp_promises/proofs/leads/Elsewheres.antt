-- What is known of a port while another port of its node acts.
use Rattle.std.proofs.Common.{sym, subst, arith, true≢false, ◌≡◌, ℕ, Bool, true, false, List, [], ◌∷◌, Option, None, refl, inl, inr, ◌⊎◌, if◌then◌else◌}
use Rattle.std.proofs.Common.{append-nil, ◌∙◌, ◌++◌, Some, is_some}
use Rattle.std.proofs.lemmas.Bool.{or_parts, and_parts}
use Rattle.tsp_rules.specs.Values.{Act, Boot, Took, Post, Abandon, Correct, Stranger}
use Rattle.tsp_rules.specs.RoundRows.{is_correct, corrects, abandons, abandons_going, upsetting}
use Rattle.tsp_rules.proofs.{Asides.all_aside, Asides.aside, FewActs.is_calm_act, FewActs.is_calm, NodeRowLemmas.Bootless}
use Rattle.tsp_base.specs.Words.{Past, Received, armed, grown, Leads, Row, either_by, reading, is_going, nothing, puts}
use Rattle.tsp_base.proofs.RowLemmas.{added_append}
use Rattle.tsp_promises.proofs.leads.Known.{KnowsOf, FreshIn, OpenIn, RestsIn, Rests}
use Rattle.tsp_promises.proofs.leads.Leaves.{stir_round, with_round, abandon, calmed, abandoned}

-- whether an act elsewhere leaves all alone that is known of a port: it is no boot, and no correction
abbrev pub is_apart : Act → Bool
is_apart Boot = false
is_apart (Correct amount stepped shown) = false
is_apart _ = true

-- so does a taking for what the port's own step has taken
abbrev pub is_still : Act → Bool
is_still (Took from t) = false
is_still a = is_apart a

-- a port that may be stirred
pub stirring : (x : ℕ) (past : Past) → {stirred : Bool} → KnowsOf stirred x past.own past.seen → KnowsOf true x past.own past.seen
stirring x past k = with_round k (stir_round k.round)

-- a correction elsewhere stirs it
knows_moved : (x : ℕ) (past : Past) (a : Act) → is_correct a ≡ true → KnowsOf true x past.own past.seen → KnowsOf true x past.own (aside x past a).seen
knows_moved x past (Correct amount stepped shown) e k = record {
  times = record { boot_le = k.times.boot_le; last_le = omega arith; boot_is = k.times.boot_is; start_le = k.times.start_le; next = k.times.next };
  quiet = k.quiet;
  vote = k.vote;
  round = stir_round k.round;
}
knows_moved x past _ e k = absurd (true≢false (sym e))

-- how a port stands, stirred or not, which other ports' acts keep
pub record Family (S : Bool → ℕ → Past → Type 0) : Type 0 where
  pub still : {stirred : Bool} (x : ℕ) (past : Past) (a : Act) → is_still a ≡ true → S stirred x past → S stirred x (aside x past a)
  pub moved : (x : ℕ) (past : Past) (a : Act) → is_correct a ≡ true → S true x past → S true x (aside x past a)
  pub weaken : (x : ℕ) (past : Past) → S false x past → S true x past
  pub abandons : {stirred : Bool} (x : ℕ) (past : Past) → S stirred x past → S false x (grown x past (Abandon ∷ []))
  pub shut : {stirred : Bool} (x : ℕ) (past : Past) → (armed past.seen).close ≡ None → S stirred x past → S false x past

still_apart : (a : Act) → is_still a ≡ true → is_apart a ≡ true
still_apart (Took from t) e = refl
still_apart _ e = e

fresh_aside : {stirred : Bool} (x : ℕ) (past : Past) (a : Act) → is_still a ≡ true → FreshIn stirred x past → FreshIn stirred x (aside x past a)
fresh_aside x past Boot e h = absurd (true≢false (sym e))
fresh_aside x past (Took from t) e h = absurd (true≢false (sym e))
fresh_aside x past (Correct amount stepped shown) e h = absurd (true≢false (sym e))
fresh_aside x past _ e h = record {
  own = h.own;
  fits = h.fits;
  knows = h.knows;
  rested = h.rested;
  backs = h.backs;
  owed = h.owed;
  paid = h.paid;
  acting_is = h.acting_is;
  took = h.took;
}

fresh_moved : (x : ℕ) (past : Past) (a : Act) → is_correct a ≡ true → FreshIn true x past → FreshIn true x (aside x past a)
fresh_moved x past (Correct amount stepped shown) e h = record {
  own = h.own;
  fits = h.fits;
  knows = knows_moved x past (Correct amount stepped shown) e h.knows;
  rested = h.rested;
  backs = h.backs;
  owed = h.owed;
  paid = h.paid;
  acting_is = h.acting_is;
  took = h.took;
}
fresh_moved x past _ e h = absurd (true≢false (sym e))

-- before its turn
pub fresh_family : Family FreshIn
fresh_family = record {
  still = fresh_aside;
  moved = fresh_moved;
  weaken = λ x past h. record {
    own = h.own;
    fits = h.fits;
    knows = stirring x past h.knows;
    rested = h.rested;
    backs = h.backs;
    owed = h.owed;
    paid = h.paid;
    acting_is = h.acting_is;
    took = h.took;
  };
  abandons = λ x past h. abandon h;
  shut = λ x past e h. record {
    own = h.own;
    fits = h.fits;
    knows = calmed x past.own past.seen e h.knows;
    rested = h.rested;
    backs = h.backs;
    owed = h.owed;
    paid = h.paid;
    acting_is = h.acting_is;
    took = h.took;
  };
}

open_aside : {stirred : Bool} {T : Option Received → Option Received → Type 0} (x : ℕ) (past : Past) (a : Act) → is_still a ≡ true → OpenIn stirred T x past →
    OpenIn stirred T x (aside x past a)
open_aside x past Boot e h = absurd (true≢false (sym e))
open_aside x past (Took from t) e h = absurd (true≢false (sym e))
open_aside x past (Correct amount stepped shown) e h = absurd (true≢false (sym e))
open_aside x past _ e h = record { own = h.own; fits = h.fits; knows = h.knows; backs = h.backs; owed = h.owed; paid = h.paid; took = h.took }

open_moved : {T : Option Received → Option Received → Type 0} (x : ℕ) (past : Past) (a : Act) → is_correct a ≡ true → OpenIn true T x past →
    OpenIn true T x (aside x past a)
open_moved x past (Correct amount stepped shown) e h = record {
  own = h.own;
  fits = h.fits;
  knows = knows_moved x past (Correct amount stepped shown) e h.knows;
  backs = h.backs;
  owed = h.owed;
  paid = h.paid;
  took = h.took;
}
open_moved x past _ e h = absurd (true≢false (sym e))

-- after its turn
pub open_family : {T : Option Received → Option Received → Type 0} → Family (λ stirred. OpenIn stirred T)
open_family = record {
  still = open_aside;
  moved = open_moved;
  weaken = λ x past h. record { own = h.own; fits = h.fits; knows = stirring x past h.knows; backs = h.backs; owed = h.owed; paid = h.paid; took = h.took };
  abandons = λ x past h. record {
    own = h.own;
    fits = (tt, h.fits);
    knows = abandoned x past h.knows;
    backs = h.backs;
    owed = h.owed;
    paid = h.paid;
    took = h.took;
  };
  shut = λ x past e h. record {
    own = h.own;
    fits = h.fits;
    knows = calmed x past.own past.seen e h.knows;
    backs = h.backs;
    owed = h.owed;
    paid = h.paid;
    took = h.took;
  };
}

pub rests_aside : {stirred : Bool} (x : ℕ) (past : Past) (a : Act) → is_apart a ≡ true → RestsIn stirred x past → RestsIn stirred x (aside x past a)
rests_aside x past Boot e h = absurd (true≢false (sym e))
rests_aside x past (Correct amount stepped shown) e h = absurd (true≢false (sym e))
rests_aside x past _ e h = record { fits = h.fits; knows = h.knows; backs = h.backs; follows = h.follows; paid = h.paid }

rests_moved : (x : ℕ) (past : Past) (a : Act) → is_correct a ≡ true → RestsIn true x past → RestsIn true x (aside x past a)
rests_moved x past (Correct amount stepped shown) e h = record {
  fits = h.fits;
  knows = knows_moved x past (Correct amount stepped shown) e h.knows;
  backs = h.backs;
  follows = h.follows;
  paid = h.paid;
}
rests_moved x past _ e h = absurd (true≢false (sym e))

-- at the end of the step; a taking elsewhere changes nothing then
pub rests_family : Family RestsIn
rests_family = record {
  still = λ x past a e h. rests_aside x past a (still_apart a e) h;
  moved = rests_moved;
  weaken = λ x past h. record { fits = h.fits; knows = stirring x past h.knows; backs = h.backs; follows = h.follows; paid = h.paid };
  abandons = λ x past h. record { fits = (tt, h.fits); knows = abandoned x past h.knows; backs = h.backs; follows = h.follows; paid = h.paid };
  shut = λ x past e h. record { fits = h.fits; knows = calmed x past.own past.seen e h.knows; backs = h.backs; follows = h.follows; paid = h.paid };
}

-- calm acts
calm_apart : (strange moving : Bool) (a : Act) → is_calm_act strange moving a ≡ true → is_correct a ≡ false → is_still a ≡ true
calm_apart strange moving Boot e n = e
calm_apart strange moving (Took from t) e n = e
calm_apart strange moving (Correct amount stepped shown) e n = absurd (true≢false n)
calm_apart strange moving _ e n = refl

pub calm_correct : (strange : Bool) (a : Act) → is_calm_act strange false a ≡ true → is_correct a ≡ false
calm_correct strange (Correct amount stepped shown) e = absurd (true≢false (sym e))
calm_correct strange _ e = refl

pub calm_bootless : (strange moving : Bool) (acts : List Act) → is_calm strange moving acts ≡ true → Bootless acts
calm_bootless strange moving [] e = tt
calm_bootless strange moving (a ∷ rest) e = let both = and_parts (is_calm_act strange moving a) (is_calm strange moving rest) e in
    (λ is. true≢false (sym (subst (λ b. is_calm_act strange moving b ≡ true) is both.0)), calm_bootless strange moving rest both.1)

-- calm acts without a correction are calm where the clock may not be moved
still_calm : (strange : Bool) (a : Act) → is_calm_act strange true a ≡ true → is_correct a ≡ false → is_calm_act strange false a ≡ true
still_calm strange (Correct amount stepped shown) e n = absurd (true≢false n)
still_calm strange Boot e n = e
still_calm strange (Took from t) e n = e
still_calm strange (Post Stranger datagram) e n = e
still_calm strange _ e n = refl

pub calm_still : (strange : Bool) (acts : List Act) → is_calm strange true acts ≡ true → corrects acts ≡ false → is_calm strange false acts ≡ true
calm_still strange [] e n = refl
calm_still strange (a ∷ rest) e n =
    let both = and_parts (is_calm_act strange true a) (is_calm strange true rest) e in
    let none = or_parts (is_correct a) (corrects rest) n in
    rw (still_calm strange a both.0 none.0) (calm_still strange rest both.1 none.1)

module _ {S : Bool → ℕ → Past → Type 0} (family : Family S) where
  -- calm acts elsewhere that don't move the clock
  pub kept_aside : (strange : Bool) {stirred : Bool} (x : ℕ) (past : Past) (acts : List Act) → is_calm strange false acts ≡ true → S stirred x past →
      S stirred x (all_aside x past acts)
  kept_aside strange x past [] e h = h
  kept_aside strange x past (a ∷ rest) e h =
      let both = and_parts (is_calm_act strange false a) (is_calm strange false rest) e in
      kept_aside strange x (aside x past a) rest both.1 (family.still x past a (calm_apart strange false a both.0 (calm_correct strange a both.0)) h)

  step_moved : (strange : Bool) (x : ℕ) (past : Past) (a : Act) → is_calm_act strange true a ≡ true → (b : Bool) → is_correct a ≡ b → S true x past →
      S true x (aside x past a)
  step_moved strange x past a e true c h = family.moved x past a c h
  step_moved strange x past a e false c h = family.still x past a (calm_apart strange true a e c) h

  -- calm acts elsewhere, of which some may move it
  pub moved_aside : (strange : Bool) (x : ℕ) (past : Past) (acts : List Act) → is_calm strange true acts ≡ true → S true x past →
      S true x (all_aside x past acts)
  moved_aside strange x past [] e h = h
  moved_aside strange x past (a ∷ rest) e h =
      let both = and_parts (is_calm_act strange true a) (is_calm strange true rest) e in
      moved_aside strange x (aside x past a) rest both.1 (step_moved strange x past a both.0 (is_correct a) refl h)

-- rows after which a port rests, or is stirred since they corrected the clock

-- a port after these acts: it rests, or it is stirred, since they set a date
abbrev pub Upset : Bool → ℕ → Past → List Act → Type 0
Upset dates x past acts = Rests x (grown x past acts) ⊎ ((dates ≡ true) × (corrects acts ≡ true) × RestsIn true x (grown x past acts))

-- where a row leads that may set a date while a round goes on
pub record Upsets (dates : Bool) (P : ℕ → Past → Type 0) (row : Row) : Type 0 where
  pub run : (x : ℕ) (past : Past) → P x past → Upset dates x past (row x past)

pub upsets_of : {dates : Bool} {P : ℕ → Past → Type 0} {row : Row} → Leads P row Rests → Upsets dates P row
upsets_of l = record { run = λ x past h. inl (l.run x past h) }

pub upsets_from : {dates : Bool} {P Q : ℕ → Past → Type 0} {row : Row} → ((x : ℕ) (past : Past) → P x past → Q x past) → Upsets dates Q row → Upsets dates P row
upsets_from k u = record { run = λ x past h. u.run x past (k x past h) }

pub upsets_either : {dates : Bool} {P : ℕ → Past → Type 0} (test : ℕ → Past → Bool) (r s : Row) → Upsets dates (λ x past. P x past × (test x past ≡ true)) r →
    Upsets dates (λ x past. P x past × (test x past ≡ false)) s → Upsets dates P (either_by test r s)
unfolding either_by
upsets_either test r s u v = record { run = λ x past h. by_case r s x past (test x past) (λ e. u.run x past (h, e)) (λ e. v.run x past (h, e)) } where
  by_case : {dates : Bool} (r s : Row) (x : ℕ) (past : Past) (b : Bool) → (b ≡ true → Upset dates x past (r x past)) →
      (b ≡ false → Upset dates x past (s x past)) →
      Upset dates x past (if b then r x past else s x past)
  by_case r s x past true f g = f refl
  by_case r s x past false f g = g refl

pub upsets_reading : {dates : Bool} {A : Type 0} {P : ℕ → Past → Type 0} (fact : ℕ → Past → A) (rows : A → Row) →
    ((a : A) → Upsets dates (λ x past. P x past × (fact x past ≡ a)) (rows a)) → Upsets dates P (reading fact rows)
unfolding reading
upsets_reading fact rows k = record { run = λ x past h. (k (fact x past)).run x past (h, refl) }

-- a row that sets no date leads to rest
pub upsets_never : {P : ℕ → Past → Type 0} {row : Row} → Upsets false P row → Leads P row Rests
upsets_never u = record {
  run = λ x past h. elim (u.run x past h) [
    | inl r ↦ r
    | inr s ↦ absurd (true≢false (sym s.0))
  ];
}

-- how a port that was stirred comes to rest: its round is given up, where one goes on
pub shut_of : (o : Option ℕ) → is_some o ≡ false → o ≡ None
shut_of None e = refl
shut_of (Some at) e = absurd (true≢false e)

-- a port at the end of its step gives its round up, where one goes on
pub rests_abandon : {stirred : Bool} (x : ℕ) (past : Past) → RestsIn stirred x past → Rests x (grown x past (abandons_going x past))
unfolding abandons_going either_by abandons puts nothing
rests_abandon x past h = by_case (is_going past.seen) refl where
  by_case : (b : Bool) → is_going past.seen ≡ b → Rests x (grown x past (if b then Abandon ∷ [] else []))
  by_case true e = record { fits = (tt, h.fits); knows = abandoned x past h.knows; backs = h.backs; follows = h.follows; paid = h.paid }
  by_case false e = record {
    fits = h.fits;
    knows = calmed x past.own past.seen (shut_of (armed past.seen).close e) h.knows;
    backs = h.backs;
    follows = h.follows;
    paid = h.paid;
  }

-- a row after which the port's own round is given up, where it has corrected the clock
pub upsetting_lead : {dates : Bool} {P : ℕ → Past → Type 0} (row : Row) → Upsets dates P row → Leads P (upsetting row) Rests
unfolding upsetting
upsetting_lead row u = record { run = λ x past h. ended x past (u.run x past h) (corrects (row x past)) refl } where
  ended : {dates : Bool} (x : ℕ) (past : Past) → Upset dates x past (row x past) → (b : Bool) → corrects (row x past) ≡ b →
      Rests x (grown x past (row x past ++ (if b then abandons_going x (grown x past (row x past)) else [])))
  ended x past (inl r) true e = rw added_append (rests_abandon x (grown x past (row x past)) r)
  ended x past (inl r) false e = subst (λ acts. Rests x (grown x past acts)) (sym (append-nil (row x past))) r
  ended x past (inr s) true e = rw added_append (rests_abandon x (grown x past (row x past)) s.2)
  ended x past (inr s) false e = absurd (true≢false (sym s.1 ∙ e))
