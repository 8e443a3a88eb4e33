-- A whole step takes nothing but what it is given, puts few acts, and posts to a stranger only where it is given a stranger's datagram.
use Rattle.std.proofs.Common.{sym, subst, ap, arith, true≢false, append_assoc, append-nil, length-append, ◌∙◌, ◌≡◌, ◌≤◌, ℕ, ◌+◌, ◌*◌, Bool, true, false}
use Rattle.std.proofs.Common.{if◌then◌else◌, List, [], ◌∷◌, ◌++◌, length, All, refl}
use Rattle.std.proofs.lemmas.{Bool.and_parts, List.Elements.All-nil, List.Elements.All-cons, List.Elements.All-append}
use Rattle.tsp_rules.specs.Values.{Act, Took, Post, Message, Stamp, Taken, Good, Bad, Place, Stranger, Request, Reply}
use Rattle.tsp_base.specs.Words.{Past, Row, grown, nothing, puts, ◌followed_by◌, either_by}
use Rattle.tsp_rules.specs.Answers.{due_alarms, handles, takes, Turn, Got, input_row, answers}
use Rattle.tsp_rules.specs.{Guards.is_own, RoundRows.corrects, RoundRows.abandons_going, RoundRows.upsetting, SendRows.due_sends}
use Rattle.tsp_rules.specs.Strangers.{is_stranger, IsKnown, StrangersAreAnswered}
use Rattle.tsp_rules.proofs.FewActs.{Calm, is_calm_act, is_calm, calm_append, calm_nothing, calm_none, calm_then, calm_either, calm_more}
use Rattle.tsp_rules.proofs.{BuiltAnswers.Owes, BuiltAnswers.built_handles, BuiltAnswers.taken_sorts, BuiltRounds.built_abandons_going}
use Rattle.tsp_rules.proofs.{CalmAlarms.calm_due_alarms, CalmAlarms.calm_due_sends, Emits.Moving, Emits.is_in, Unchanged.place_unchanged}
use Rattle.tsp_rules.proofs.CalmBuilt.{answers_owed, calm_moving, calm_unmoving}

-- whether what was taken is a message
abbrev pub is_message : Taken → Bool
is_message (Good (Message m)) = true
is_message _ = false

calm_owed : (strange : Bool) (t : Taken) → Owes (answers_owed strange) t
calm_owed strange (Bad fault) = tt
calm_owed strange (Good (Message m)) = (tt, tt)
calm_owed strange (Good (Stamp (Request word counter))) = tt
calm_owed strange (Good (Stamp (Reply r))) = tt

pub calm_handles : (steer charge : Bool) (from : Place) (t : Taken) → Calm (is_stranger from) true 2 5 (handles steer charge from t)
calm_handles steer charge from t = calm_moving (built_handles steer charge from t (place_unchanged from) (λ e. e) (calm_owed (is_stranger from) t))

unmoving_stamps : (t : Taken) → is_message t ≡ false → is_in Moving (taken_sorts t) ≡ false
unmoving_stamps (Good (Message m)) e = absurd (true≢false e)
unmoving_stamps _ e = refl

-- stamps, and octets that are no datagram, never move the clock
pub calm_stamps : (steer charge : Bool) (from : Place) (t : Taken) → is_message t ≡ false → Calm (is_stranger from) false 2 5 (handles steer charge from t)
calm_stamps steer charge from t e = calm_unmoving (unmoving_stamps t e) (built_handles steer charge from t (place_unchanged from) (λ e. e)
    (calm_owed (is_stranger from) t))

pub calm_abandons_going : {strange moving : Bool} → Calm strange moving 0 1 abandons_going
calm_abandons_going = calm_unmoving refl built_abandons_going

-- acts that begin with the taking, and are calm after it
pub record TakesFirst (moving : Bool) (from : Place) (t : Taken) (most : ℕ) (acts : List Act) : Type 0 where
  pub after : List Act
  pub is : acts ≡ Took from t ∷ after
  pub calm : is_calm (is_stranger from) moving after ≡ true
  pub few : length after ≤ most

-- a row that takes first, and puts at most k acts for each peer and c besides after that
pub record Taking (moving : Bool) (from : Place) (t : Taken) (k c : ℕ) (row : Row) : Type 0 where
  pub run : (x : ℕ) (past : Past) → TakesFirst moving from t (k * length past.peers + c) (row x past)

pub taking : {moving : Bool} (from : Place) (t : Taken) (k c : ℕ) (handled : Row) → Calm (is_stranger from) moving k c handled →
    Taking moving from t k c (puts (Took from t) followed_by either_by (is_own from) nothing handled)
unfolding ◌followed_by◌ puts
taking from t k c handled p = record {
  run = λ x past.
      let row = calm_either k c (is_own from) nothing handled (calm_none k c) p in
      record { after = _; is = refl; calm = row.calm x (grown x past (Took from t ∷ [])); few = row.few x (grown x past (Took from t ∷ [])) };
}

-- the round may be given up after it
pub taking_upsetting : (from : Place) (t : Taken) (k c : ℕ) (row : Row) → Taking true from t k c row → Taking true from t k (c + 1) (upsetting row)
unfolding upsetting
taking_upsetting from t k c row p = record { run = λ x past. ended x past (p.run x past) (corrects (row x past)) } where
  ended : (x : ℕ) (past : Past) → TakesFirst true from t (k * length past.peers + c) (row x past) → (b : Bool) →
      TakesFirst true from t (k * length past.peers + (c + 1)) (row x past ++ (if b then abandons_going x (grown x past (row x past)) else []))
  ended x past f false = record { after = f.after; is = append-nil (row x past) ∙ f.is; calm = f.calm; few = (let few = f.few in omega (arith, few)) }
  ended x past f true =
      let more = calm_abandons_going {strange = is_stranger from} {moving = true} in
      let acts = abandons_going x (grown x past (row x past)) in
      let whole = length-append f.after acts in
      let few = f.few in
      let zero : 0 * length past.peers ≡ 0 = grind arith in
      record {
        after = f.after ++ acts;
        is = subst (λ z. row x past ++ acts ≡ z ++ acts) f.is refl;
        calm = calm_append (is_stranger from) true f.after acts f.calm (more.calm x (grown x past (row x past)));
        few = omega (arith, more.few x (grown x past (row x past)), whole, few, zero);
      }

-- a step in which nothing is given takes nothing
pub calm_turn : {strange : Bool} → Calm strange true 18 32 (answers Turn)
unfolding answers input_row
calm_turn = calm_more (2 + (16 + 0)) (0 + (32 + 0)) 18 32 (due_sends followed_by (due_alarms followed_by nothing)) (omega arith) (omega arith)
    (calm_then 2 0 16 32 due_sends (due_alarms followed_by nothing) calm_due_sends (calm_then 16 32 0 0 due_alarms nothing calm_due_alarms calm_nothing))

-- the acts of a step that is given a datagram: calm ones, the taking, and calm ones
pub record TakesOnce (from : Place) (t : Taken) (peers : ℕ) (acts : List Act) : Type 0 where
  pub before : List Act
  pub after : List Act
  pub is : acts ≡ before ++ Took from t ∷ after
  pub calm_before : is_calm (is_stranger from) true before ≡ true
  pub calm_after : is_calm (is_stranger from) true after ≡ true
  pub few : length acts ≤ 20 * peers + 39

-- a step that takes after calm rows
pub takes_between : (from : Place) (t : Taken) (sends alarms input : Row) → Calm (is_stranger from) true 2 0 sends → Calm (is_stranger from) true 16 32 alarms →
    Taking true from t 2 6 input → (x : ℕ) (past : Past) →
    TakesOnce from t (length past.peers) ((sends followed_by (alarms followed_by input)) x past)
unfolding ◌followed_by◌
takes_between from t sends alarms input send_calm alarm_calm taken x past =
    let sent = sends x past in
    let first = grown x past sent in
    let rung = alarms x first in
    let second = grown x first rung in
    let rest = input x second in
    let f = taken.run x second in
    let one = length-append rung rest in
    let two = length-append sent (rung ++ rest) in
    let same : length rest ≡ length (Took from t ∷ f.after) = ap length f.is in
    record {
      before = sent ++ rung;
      after = f.after;
      is = subst (λ z. sent ++ (rung ++ rest) ≡ sent ++ (rung ++ z)) f.is refl ∙ sym (append_assoc sent rung (Took from t ∷ f.after));
      calm_before = calm_append (is_stranger from) true sent rung (send_calm.calm x past) (alarm_calm.calm x first);
      calm_after = f.calm;
      few = omega (arith, send_calm.few x past, alarm_calm.few x first, f.few, one, two, same);
    }

pub takes_once : (from : Place) (t : Taken) (x : ℕ) (past : Past) → TakesOnce from t (length past.peers) (answers (Got from t) x past)
unfolding answers input_row takes
takes_once from t = takes_between from t due_sends due_alarms (upsetting (puts (Took from t) followed_by either_by (is_own from) nothing
    (handles true true from t))) calm_due_sends calm_due_alarms
    (taking_upsetting from t 2 5 _ (taking from t 2 5 (handles true true from t) (calm_handles true true from t)))

-- calm acts are known
known_act : (strange moving : Bool) (a : Act) → is_calm_act strange moving a ≡ true → IsKnown strange a
known_act strange moving (Post Stranger datagram) e = e
known_act strange moving _ e = tt

pub known_calm : (strange moving : Bool) (acts : List Act) → is_calm strange moving acts ≡ true → All (IsKnown strange) acts
known_calm strange moving [] e = All-nil (IsKnown strange)
known_calm strange moving (a ∷ acts) e = let both = and_parts (is_calm_act strange moving a) (is_calm strange moving acts) e in
    All-cons (IsKnown strange) a acts (known_act strange moving a both.0) (known_calm strange moving acts both.1)

-- what a step takes once is known
pub known_once : (from : Place) (t : Taken) (peers : ℕ) (acts : List Act) → TakesOnce from t peers acts → All (IsKnown (is_stranger from)) acts
known_once from t peers acts o =
    let known = IsKnown (is_stranger from) in
    subst (λ z. All known z) (sym o.is) (All-append known o.before (Took from t ∷ o.after) (known_calm (is_stranger from) true o.before o.calm_before)
    (All-cons known (Took from t) o.after tt (known_calm (is_stranger from) true o.after o.calm_after)))

pub strangers_answered : StrangersAreAnswered
strangers_answered Turn x past = known_calm false true (answers Turn x past) (calm_turn.calm x past)
strangers_answered (Got from t) x past = known_once from t (length past.peers) (answers (Got from t) x past) (takes_once from t x past)
