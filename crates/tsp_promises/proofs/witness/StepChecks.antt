-- What a step owes at its end, read from a history by computing.
use Rattle.std.proofs.Common.{sym, ap, arith, subst, eqb-true, true≢false, ◌∙◌, ◌≡◌, ◌==◌, ◌||◌, ◌&&◌, nat_lt, cond, Bool, true, false, ℕ, zero, suc}
use Rattle.std.proofs.Common.{if◌then◌else◌, List, [], ◌∷◌, Option, None, Some, is_some, refl}
use Rattle.std.proofs.lemmas.Bool.{ltb-true, and_parts}
use Rattle.tsp_promises.proofs.{promised.SendProof.if_nil, leads.Leaves.none_among, leads.Leaves.nil_cons}
use Rattle.tsp_promises.specs.StepFacts.{StepEnds, is_unbacked, owes, unacknowledged, unheeded}
use Rattle.tsp_rules.specs.Values.{Boot, Post, Become, Arm, Ring, Late, Abandon, Correct, Sample, CloseAlarm, Stamp, PeerId, Peer, Port, Role, Follow, Request}
use Rattle.tsp_rules.proofs.GuardFacts.{same_peer}
use Rattle.tsp_base.specs.Words.{Begins, Acts, Deed, Did, Line, Seen, Here, Elsewhere, plain, view, seen_as, is_shared, is_among, role, exchange}
use Rattle.tsp_base.specs.Words.{exchange_after, Setup, Undisturbed}

abbrev asks_after : Deed → Bool → Bool
asks_after (Acts Boot) was = false
asks_after (Acts (Become r)) was = false
asks_after (Acts (Arm CloseAlarm at)) was = false
asks_after (Acts (Ring CloseAlarm)) was = false
asks_after (Acts (Post (Peer q) (Stamp (Request word counter)))) was = true
asks_after _ was = was

-- whether an exchange may be open
abbrev asks : List Seen → Bool
asks [] = false
asks (Here d ∷ before) = asks_after d.deed (asks before)
asks (Elsewhere d ∷ before) = asks before

abbrev rests_after : Deed → Bool → Bool → Bool
rests_after (Acts Boot) asking was = true
rests_after (Acts (Become r)) asking was = true
rests_after (Acts (Arm CloseAlarm at)) asking was = true
rests_after (Acts (Ring CloseAlarm)) asking was = true
rests_after (Acts (Correct amount stepped shown)) asking was = if asking then false else was
rests_after _ asking was = was

abbrev rests_elsewhere : Deed → Bool → Bool → Bool
rests_elsewhere (Acts Boot) asking was = false
rests_elsewhere (Acts (Correct amount stepped shown)) asking was = if asking then false else was
rests_elsewhere _ asking was = was

-- whether the clock has rested since an exchange that may be open was begun
abbrev rests : List Seen → Bool
rests [] = true
rests (Here d ∷ before) = rests_after d.deed (asks before) (rests before)
rests (Elsewhere d ∷ before) = rests_elsewhere d.deed (asks before) (rests before)

if_none : (b : Bool) (was : List Seen) → was ≡ [] → cond b [] was ≡ []
if_none true was e = refl
if_none false was e = e

none_deed : (p : PeerId) (c : ℕ) (deed : Deed) (here before : List Seen) → (asks before ≡ false → exchange p c before ≡ []) → asks_after deed (asks before) ≡
    false → exchange_after p c deed here (exchange p c before) ≡ []
none_deed p c (Acts Boot) here before h e = refl
none_deed p c (Acts (Become r)) here before h e = refl
none_deed p c (Acts (Arm CloseAlarm at)) here before h e = refl
none_deed p c (Acts (Ring CloseAlarm)) here before h e = refl
none_deed p c (Acts (Late CloseAlarm)) here before h e = refl
none_deed p c (Acts Abandon) here before h e = refl
none_deed p c (Acts (Post (Peer q) (Stamp (Request word counter)))) here before h e = absurd (true≢false e)
none_deed p c (Acts (Sample q counter diff err ticket)) here before h e = if_none ((q.0 == p.0) && (counter == c)) (exchange p c before) (h e)
none_deed p c _ here before h e = h e

-- where none may be open, none is
none_open : (p : PeerId) (c : ℕ) (seen : List Seen) → asks seen ≡ false → exchange p c seen ≡ []
none_open p c [] e = refl
none_open p c (Elsewhere d ∷ before) e = none_open p c before e
none_open p c (Here d ∷ before) e = none_deed p c d.deed (Here d ∷ before) before (none_open p c before) e

abbrev Quiet : PeerId → ℕ → List Seen → Type 0
Quiet p c seen = (request : Did) (older : List Seen) → exchange p c seen ≡ Here request ∷ older → Undisturbed (plain older) (plain seen)

no_open : (p : PeerId) (c : ℕ) (before : List Seen) (request : Did) (older : List Seen) (asking was : Bool) → (asking ≡ false → exchange p c before ≡ []) →
    (if asking then false else was) ≡ true → exchange p c before ≡ Here request ∷ older → ⊥
no_open p c before request older true was h e open_is = true≢false (sym e)
no_open p c before request older false was h e open_is = nil_cons (Here request) older (sym (h refl) ∙ open_is)

quiet_post : (d : Did) (before : List Seen) (request : Did) (older was : List Seen) (b : Bool) →
    (was ≡ Here request ∷ older → Undisturbed (plain older) (plain before)) → cond b (Here d ∷ before) was ≡ Here request ∷ older →
    Undisturbed (plain older) (plain before)
quiet_post d before request older was true h e = let same : before ≡ older = cc in
    subst (λ z. Undisturbed (plain z) (plain before)) same (record { corrects = refl; lives = refl })
quiet_post d before request older was false h e = h e

quiet_deed : (p : PeerId) (c : ℕ) (d : Did) (deed : Deed) (before : List Seen) → deed ≡ d.deed → (rests before ≡ true → Quiet p c before) →
    rests_after deed (asks before) (rests before) ≡ true → (request : Did) (older : List Seen) →
    exchange_after p c deed (Here d ∷ before) (exchange p c before) ≡ Here request ∷ older → Undisturbed (plain older) (plain (Here d ∷ before))
quiet_deed p c d (Acts Boot) before is h r request older e = nil_cons (Here request) older e
quiet_deed p c d (Acts (Become role)) before is h r request older e = nil_cons (Here request) older e
quiet_deed p c d (Acts (Arm CloseAlarm at)) before is h r request older e = nil_cons (Here request) older e
quiet_deed p c d (Acts (Ring CloseAlarm)) before is h r request older e = nil_cons (Here request) older e
quiet_deed p c d (Acts (Late CloseAlarm)) before is h r request older e = nil_cons (Here request) older e
quiet_deed p c d (Acts Abandon) before is h r request older e = nil_cons (Here request) older e
quiet_deed p c d (Acts (Correct amount stepped shown)) before is h r request older e =
    absurd (no_open p c before request older (asks before) (rests before) (none_open p c before) r e)
quiet_deed p c d (Acts (Post (Peer q) (Stamp (Request word counter)))) before is h r request older e =
    let u = quiet_post d before request older (exchange p c before) ((q.0 == p.0) && (counter == c)) (h r request older) e in
    record { corrects = u.corrects ∙ rw (sym is) refl; lives = u.lives ∙ rw (sym is) refl }
quiet_deed p c d (Acts (Sample q counter diff err ticket)) before is h r request older e =
    let u = h r request older (if_nil ((q.0 == p.0) && (counter == c)) (exchange p c before) (Here request) older e) in
    record { corrects = u.corrects ∙ rw (sym is) refl; lives = u.lives ∙ rw (sym is) refl }
quiet_deed p c d _ before is h r request older e = let u = h r request older e in record {
  corrects = u.corrects ∙ rw (sym is) refl;
  lives = u.lives ∙
      rw (sym is) refl;
}

quiet_elsewhere : (p : PeerId) (c : ℕ) (d : Did) (deed : Deed) (before : List Seen) → deed ≡ d.deed → (rests before ≡ true → Quiet p c before) →
    rests_elsewhere deed (asks before) (rests before) ≡ true → (request : Did) (older : List Seen) →
    exchange p c before ≡ Here request ∷ older → Undisturbed (plain older) (plain (Elsewhere d ∷ before))
quiet_elsewhere p c d (Acts Boot) before is h r request older e = absurd (true≢false (sym r))
quiet_elsewhere p c d (Acts (Correct amount stepped shown)) before is h r request older e =
    absurd (no_open p c before request older (asks before) (rests before) (none_open p c before) r e)
quiet_elsewhere p c d _ before is h r request older e = let u = h r request older e in record {
  corrects = u.corrects ∙ rw (sym is) refl;
  lives = u.lives ∙
      rw (sym is) refl;
}

quiet : (p : PeerId) (c : ℕ) (seen : List Seen) → rests seen ≡ true → Quiet p c seen
quiet p c [] r request older e = nil_cons (Here request) older e
quiet p c (Here d ∷ before) r request older e = quiet_deed p c d d.deed before refl (quiet p c before) r request older e
quiet p c (Elsewhere d ∷ before) r request older e = quiet_elsewhere p c d d.deed before refl (quiet p c before) r request older e

abbrev met : List PeerId → Role → Bool
met [] r = true
met (p ∷ rest) (Follow q) = (q.0 == p.0) && met rest (Follow q)
met (p ∷ rest) _ = false

met_by : (ps : List PeerId) (r : Role) → met ps r ≡ true → (p : PeerId) → is_among p ps ≡ true → r ≡ Follow p
met_by [] r m p e = absurd (true≢false (sym e))
met_by (x ∷ rest) (Follow q) m p e =
    let both = and_parts (q.0 == x.0) (met rest (Follow q)) m in
    by_case (x.0 == p.0) refl (same_peer q x both.0) (met_by rest (Follow q) both.1 p) e
  where
    by_case : (b : Bool) → (x.0 == p.0) ≡ b → q ≡ x → (is_among p rest ≡ true → Follow q ≡ Follow p) → (b || is_among p rest) ≡ true → Follow q ≡ Follow p
    by_case true same one others i = ap Follow (one ∙ same_peer x p same)
    by_case false other one others i = others i
met_by (x ∷ rest) _ m p e = absurd (true≢false (sym m))

not_so : (b : Bool) → cond b false true ≡ true → b ≡ false
not_so true e = absurd (true≢false (sym e))
not_so false e = refl

none_such : {A : Type 0} (o : Option A) → cond (is_some o) false true ≡ true → o ≡ None
none_such None e = refl
none_such (Some a) e = absurd (true≢false (sym e))

-- whether all is paid that a port owes at a step's end
abbrev pub paid : List PeerId → List Seen → Bool
paid peers seen = cond (is_some (unheeded peers seen)) false true && (cond (is_unbacked seen) false true &&
    (met (owes seen) (role seen) && (cond (is_some (unacknowledged seen)) false true && rests seen)))

paid_ends : (setup : Setup) (seen : List Seen) → paid setup.peers seen ≡ true → StepEnds setup seen
paid_ends setup seen e =
    let h = and_parts (cond (is_some (unheeded setup.peers seen)) false true) (cond (is_unbacked seen) false true &&
    (met (owes seen) (role seen) && (cond (is_some (unacknowledged seen)) false true && rests seen))) e in
    let a = and_parts (cond (is_unbacked seen) false true) (met (owes seen) (role seen) && (cond (is_some (unacknowledged seen)) false true && rests seen)) h.1
    in
    let b = and_parts (met (owes seen) (role seen)) (cond (is_some (unacknowledged seen)) false true && rests seen) a.1 in
    let c = and_parts (cond (is_some (unacknowledged seen)) false true) (rests seen) b.1 in
    record {
      backs = not_so (is_unbacked seen) a.0;
      heeds = none_such (unheeded setup.peers seen) h.0;
      follows = met_by (owes seen) (role seen) b.0;
      acknowledged = none_such (unacknowledged seen) c.0;
      exchanges = λ p i. quiet p i seen c.1;
    }

-- lines on ports 0 and 1 alone
abbrev pub on_two : List Line → Bool
on_two [] = true
on_two (l ∷ t) = nat_lt l.port.0 2 && on_two t

-- what a port sees where nothing is done on it
pub record Empty (seen : List Seen) : Type 0 where
  pub backs : is_unbacked seen ≡ false
  pub none : owes seen ≡ []
  pub heeded : unacknowledged seen ≡ None
  pub untaken : (peers : List PeerId) → unheeded peers seen ≡ None
  pub shut : (p : PeerId) (c : ℕ) → exchange p c seen ≡ []

-- a port that its node doesn't have sees marks and boots alone
pub far_deed : (b : Bool) (d : Did) (deed : Deed) (seen : List Seen) → deed ≡ d.deed → (false || is_shared deed) ≡ b → Empty seen → Empty (seen_as b d ∷ seen)
far_deed true d Begins seen is e h = record {
  backs = rw (sym is) refl;
  none = rw (sym is) refl;
  heeded = rw (sym is) refl;
  untaken = λ peers. rw (sym is) refl;
  shut = λ p c. rw (sym is) (h.shut p c);
}
far_deed true d (Acts Boot) seen is e h = record {
  backs = rw (sym is) h.backs;
  none = rw (sym is) h.none;
  heeded = rw (sym is) h.heeded;
  untaken = λ peers. rw (sym is) (h.untaken peers);
  shut = λ p c. rw (sym is) refl;
}
far_deed true d _ seen is e h = let bad : ⊥ = cc in absurd bad
far_deed false d deed seen is e h = record { backs = h.backs; none = h.none; heeded = h.heeded; untaken = h.untaken; shut = h.shut }

other_port : (l k : ℕ) → nat_lt l 2 ≡ true → (b : Bool) → (l == suc (suc k)) ≡ b → b ≡ false
other_port l k e true i = (let a = ltb-true l 2 e in let c = eqb-true l (suc (suc k)) i in absurd (omega arith))
other_port l k e false i = refl

far : (q : Port) (k : ℕ) (own : List Line) → q.0 ≡ suc (suc k) → on_two own ≡ true → Empty (view q own)
far q k [] is e = record { backs = refl; none = refl; heeded = refl; untaken = λ peers. refl; shut = λ p c. refl }
far q k (l ∷ own) is e =
    let a = and_parts (nat_lt l.port.0 2) (on_two own) e in
    let other : (l.port.0 == q.0) ≡ false = ap (λ n. l.port.0 == n) is ∙ other_port l.port.0 k a.0 (l.port.0 == suc (suc k)) refl in
    rw other (far_deed (false || is_shared l.did.deed) l.did l.did.deed (view q own) refl refl (far q k own is a.1))

abbrev pub port0 : Port
port0 = record { 0 = 0 }

abbrev pub port1 : Port
port1 = record { 0 = 1 }

-- whether all is paid that a node owes at a step's end, with these peers on each port
abbrev pub settled : (Port → List PeerId) → List Line → Bool
settled peers own = on_two own && (paid (peers port0) (view port0 own) && paid (peers port1) (view port1 own))

pub far_ends : (setup : Setup) (seen : List Seen) → Empty seen → StepEnds setup seen
far_ends setup seen h = record {
  backs = h.backs;
  heeds = h.untaken setup.peers;
  follows = λ p e. none_among p h.none e;
  acknowledged = h.heeded;
  exchanges = λ p c request older e. nil_cons (Here request) older (sym (h.shut p c) ∙ e);
}

pub settled_ends : (setups : Port → Setup) (own : List Line) → settled (λ q. (setups q).peers) own ≡ true → (q : Port) → StepEnds (setups q) (view q own)
settled_ends setups own e q =
    let a = and_parts (on_two own) (paid (setups port0).peers (view port0 own) && paid (setups port1).peers (view port1 own)) e in
    let b = and_parts (paid (setups port0).peers (view port0 own)) (paid (setups port1).peers (view port1 own)) a.1 in
    by_port a.0 b.0 b.1 q.0 refl
  where
    by_port : on_two own ≡ true → paid (setups port0).peers (view port0 own) ≡ true → paid (setups port1).peers (view port1 own) ≡ true → (k : ℕ) → q.0 ≡ k →
        StepEnds (setups q) (view q own)
    by_port two zero_is one_is zero is = subst (λ z. StepEnds (setups z) (view z own)) (ap (λ k. let r : Port = record { 0 = k } in r) (sym is))
        (paid_ends (setups port0) (view port0 own) zero_is)
    by_port two zero_is one_is (suc zero) is = subst (λ z. StepEnds (setups z) (view z own)) (ap (λ k. let r : Port = record { 0 = k } in r) (sym is))
        (paid_ends (setups port1) (view port1 own) one_is)
    by_port two zero_is one_is (suc (suc k)) is = far_ends (setups q) (view q own) (far q k own is two)
