-- What corrects a clock and is no date is taken by a follower, which stays one.
use Rattle.std.proofs.Common.{ap, inl, inr, true≢false, ◌≡◌, ◌⊎◌, ℕ, ◌==◌, ℤ, Bool, true, false, if◌then◌else◌, List, [], ◌∷◌, ◌++◌, refl}
use Rattle.std.proofs.lemmas.Bool.{and_parts, or_parts}
use Rattle.tsp_rules.specs.Values.{Act, Took, Message, Taken, Good, Kind, AdjTime, Date, DateAck, DateReq, LoopKind, Msite, MsiteReq, SetDate, SetDateReq}
use Rattle.tsp_rules.specs.Values.{SetTime, Test, TraceOff, TraceOn, PeerId, Place, Peer, Stranger, Role, Starting, Follow, Candidate, Master}
use Rattle.tsp_rules.specs.Answers.{says_in, peer_says, from_peer, handles_kind, is_left, handles, takes}
use Rattle.tsp_rules.{specs.CandidateRows.candidate_takes, proofs.BuiltAnswers.built_date_acked, specs.MasterRows.master_takes}
use Rattle.tsp_rules.{proofs.Emits.Sort, proofs.Emits.Moving, proofs.Emits.is_in, specs.ClockRows.adjusts, specs.ClockRows.sets}
use Rattle.tsp_rules.proofs.{CalmSteps.calm_stamps, CalmSteps.is_message, FewActs.Calm, FewActs.is_calm_act, FewActs.is_calm}
use Rattle.tsp_rules.proofs.BuiltRoles.{built_master_takes, built_acks_repeat, built_slave_takes_kind, built_candidate_takes}
use Rattle.tsp_rules.proofs.{Built.Built, Unchanged.place_unchanged, Unchanged.unchanged, CalmBuilt.answers_owed, CalmBuilt.calm_unmoving}
use Rattle.tsp_rules.specs.CommonRows.{arms_elect}
use Rattle.tsp_rules.specs.{RoundRows.corrects, RoundRows.is_correct, Guards.role_at, Guards.is_heard, Guards.is_own, Guards.is_follow}
use Rattle.tsp_rules.specs.SlaveRows.{slave_takes, slave_takes_kind, from_master, adjtime_of, settime_of, takes_amount, takes_value, confirms, acks_repeat}
use Rattle.tsp_rules.proofs.BuiltShared.{built_names_master, built_says_master, built_tests, built_traces}
use Rattle.tsp_base.specs.Words.{Past, MessageValue, role, Row, grown, nothing, puts, ◌followed_by◌, either_by, reading, arms, posts, sets_date, time_in}
use Rattle.tsp_promises.proofs.leads.Elsewheres.{calm_correct}

-- acts that don't correct the clock
pub record Still (row : Row) : Type 0 where
  pub run : (x : ℕ) (past : Past) → corrects (row x past) ≡ false

still_acts : (strange : Bool) (acts : List Act) → is_calm strange false acts ≡ true → corrects acts ≡ false
still_acts strange [] e = refl
still_acts strange (a ∷ rest) e =
    let both = and_parts (is_calm_act strange false a) (is_calm strange false rest) e in rw (calm_correct strange a both.0) (still_acts strange rest both.1)

pub still_calm : (strange : Bool) (k c : ℕ) (row : Row) → Calm strange false k c row → Still row
still_calm strange k c row p = record { run = λ x past. still_acts strange (row x past) (p.calm x past) }

corrects_append : (xs ys : List Act) → corrects xs ≡ false → corrects ys ≡ false → corrects (xs ++ ys) ≡ false
corrects_append [] ys e f = f
corrects_append (a ∷ xs) ys e f = let both = or_parts (is_correct a) (corrects xs) e in rw both.0 (corrects_append xs ys both.1 f)

still_nothing : Still nothing
unfolding nothing
still_nothing = record { run = λ x past. refl }

still_then : (r s : Row) → Still r → Still s → Still (r followed_by s)
unfolding ◌followed_by◌
still_then r s p q = record { run = λ x past. corrects_append (r x past) (s x (grown x past (r x past))) (p.run x past) (q.run x (grown x past (r x past))) }

still_either : (test : ℕ → Past → Bool) (r s : Row) → Still r → Still s → Still (either_by test r s)
unfolding either_by
still_either test r s p q = record {
  run = λ x past. elim (test x past) as (λ b. corrects (if b then r x past else s x past) ≡ false) [
    | true ↦
        p.run x past
    | false ↦ q.run x past
  ];
}

still_made : {sorts : List Sort} {k c : ℕ} {r r' : Row} → is_in Moving sorts ≡ false → Built unchanged (answers_owed true) sorts k c r r' → Still r
still_made none d = still_calm true _ _ _ (calm_unmoving none d)

-- acts after a past that don't correct the clock, or leave a follower a follower
abbrev pub SteadyAfter : ℕ → Past → List Act → Type 0
SteadyAfter x past acts = (corrects acts ≡ false) ⊎ (is_follow (role (grown x past acts).seen) ≡ true)

pub record Steady (P : ℕ → Past → Type 0) (row : Row) : Type 0 where
  pub run : (x : ℕ) (past : Past) → P x past → SteadyAfter x past (row x past)

abbrev Any : ℕ → Past → Type 0
Any x past = Unit {0}

steady_still : {P : ℕ → Past → Type 0} (row : Row) → Still row → Steady P row
steady_still row s = record { run = λ x past h. inl (s.run x past) }

steady_either : {P : ℕ → Past → Type 0} (test : ℕ → Past → Bool) (r s : Row) → Steady P r → Steady P s → Steady P (either_by test r s)
unfolding either_by
steady_either test r s p q = record {
  run = λ x past h. elim (test x past) as (λ b. SteadyAfter x past (if b then r x past else s x past)) [
    | true ↦
        p.run x past h
    | false ↦ q.run x past h
  ];
}

steady_role : {P : ℕ → Past → Type 0} (rows : Role → Row) → ((r : Role) → Steady (λ x past. P x past × (role_at x past ≡ r)) (rows r)) →
    Steady P (reading role_at rows)
unfolding reading
steady_role rows k = record { run = λ x past h. (k (role_at x past)).run x past (h, refl) }

-- whether the port follows somebody
abbrev Follows : ℕ → Past → Type 0
Follows x past = is_follow (role past.seen) ≡ true

steady_adjtime : (p : PeerId) (number : ℕ) (amount : ℤ) → Steady Follows (adjtime_of p number amount)
unfolding adjtime_of confirms adjusts arms_elect ◌followed_by◌ reading arms posts
steady_adjtime p number amount = steady_either (takes_amount number amount) (adjusts amount followed_by confirms p number) (acks_repeat p number)
    (record { run = λ x past h. inr h }) (steady_still (acks_repeat p number) (still_made refl (built_acks_repeat p number tt tt)))

steady_settime : (p : PeerId) (number : ℕ) (value : ℤ) → Steady Follows (settime_of p number value)
unfolding settime_of confirms sets arms_elect ◌followed_by◌ reading arms posts
steady_settime p number value = steady_either (takes_value number value) (sets value followed_by confirms p number) (acks_repeat p number)
    (record { run = λ x past h. inr h }) (steady_still (acks_repeat p number) (still_made refl (built_acks_repeat p number tt tt)))

steady_from : (p : PeerId) (row : Row) → Steady Follows row → (r : Role) → Steady (λ x past. Unit {0} × (role_at x past ≡ r)) (from_master p row r)
unfolding from_master
steady_from p row k (Follow q) = elim (q.0 == p.0) as (λ b. Steady (λ x past. Unit {0} × (role_at x past ≡ Follow q)) (if b then row else nothing))
    [ true ↦ record { run = λ x past h. k.run x past (ap (λ (a : Role). is_follow a) h.1) } | false ↦ steady_still nothing still_nothing ]
steady_from p row k _ = steady_still nothing still_nothing

steady_slave : (p : PeerId) (m : MessageValue) (k : Kind) → Steady Any (slave_takes_kind p m k)
unfolding slave_takes_kind
steady_slave p m AdjTime = steady_role (from_master p (adjtime_of p m.number (time_in m.body))) (steady_from p (adjtime_of p m.number (time_in m.body))
    (steady_adjtime p m.number (time_in m.body)))
steady_slave p m SetTime = steady_role (from_master p (settime_of p m.number (time_in m.body))) (steady_from p (settime_of p m.number (time_in m.body))
    (steady_settime p m.number (time_in m.body)))
steady_slave p m k = steady_still _ (still_made refl (built_slave_takes_kind p m k tt tt))

steady_in : (p : PeerId) (m : MessageValue) (r : Role) → Steady Any (says_in p m r)
unfolding says_in slave_takes candidate_takes master_takes
steady_in p m Starting = steady_still nothing still_nothing
steady_in p m Candidate = steady_still _ (still_made refl (built_candidate_takes p m tt tt))
steady_in p m Master = steady_still _ (still_made refl (built_master_takes p m tt tt))
steady_in p m _ = steady_slave p m m.kind

steady_says : (m : MessageValue) (p : PeerId) → Steady Any (peer_says m p)
unfolding peer_says
steady_says m p = steady_role (says_in p m) (λ r. record { run = λ x past h. (steady_in p m r).run x past tt })

steady_peer : (from : Place) (row : PeerId → Row) → ((p : PeerId) → Steady Any (row p)) → Steady Any (from_peer from row)
unfolding from_peer
steady_peer (Peer p) row k = steady_either (is_heard p) (row p) nothing (k p) (steady_still nothing still_nothing)
steady_peer Stranger row k = steady_still nothing still_nothing

-- what is done with a message that sets no date
steady_kind : (from : Place) (m : MessageValue) (k : Kind) → sets_date k ≡ false → Steady Any (handles_kind true from m k)
unfolding handles_kind
steady_kind from m Msite e = steady_still _ (still_made refl (built_names_master from m.number (place_unchanged from) (λ e. refl) tt))
steady_kind from m MsiteReq e = steady_still _ (still_made refl (built_says_master from m.number (place_unchanged from) (λ e. refl) tt))
steady_kind from m TraceOn e = steady_still _ (still_made refl (built_traces from m.number (place_unchanged from) (λ e. refl) tt true))
steady_kind from m TraceOff e = steady_still _ (still_made refl (built_traces from m.number (place_unchanged from) (λ e. refl) tt false))
steady_kind from m Test e = steady_still _ (still_made refl (built_tests from m.number (place_unchanged from) (λ e. refl) tt))
steady_kind from m Date e = absurd (true≢false e)
steady_kind from m SetDate e = absurd (true≢false e)
steady_kind from m DateReq e = absurd (true≢false e)
steady_kind from m SetDateReq e = absurd (true≢false e)
steady_kind from m DateAck e = steady_peer from _ (λ p. steady_still _ (still_made refl (built_date_acked m p tt)))
steady_kind from m LoopKind e = steady_still nothing still_nothing
steady_kind from m _ e = steady_peer from (peer_says m) (steady_says m)

-- a message that sets no date is taken
pub steady_takes : (from : Place) (m : MessageValue) → sets_date m.kind ≡ false → Steady Any (takes true true from (Good (Message m)))
unfolding takes handles ◌followed_by◌ puts
steady_takes from m e =
    let handled = steady_either (is_left true m.kind) nothing (handles_kind true from m m.kind) (steady_still nothing still_nothing)
    (steady_kind from m m.kind e) in
    let row = steady_either (is_own from) nothing (either_by (is_left true m.kind) nothing (handles_kind true from m m.kind))
    (steady_still nothing still_nothing) handled in
    record { run = λ x past h. row.run x (grown x past (Took from (Good (Message m)) ∷ [])) tt }

still_took : (from : Place) (t : Taken) → Still (puts (Took from t))
unfolding puts
still_took from t = record { run = λ x past. refl }

-- what is no message never corrects the clock
pub still_takes : (from : Place) (t : Taken) → is_message t ≡ false → Still (takes true true from t)
unfolding takes
still_takes from t e = still_then (puts (Took from t)) _ (still_took from t)
    (still_either (is_own from) nothing (handles true true from t) still_nothing (still_calm _ 2 5 (handles true true from t) (calm_stamps true true from t e)))
