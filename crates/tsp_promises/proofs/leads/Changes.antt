-- What changes of the role, backings and takings make of what is known of a port.
use Rattle.std.proofs.Common.{sym, ap, inl, inr, ◌∙◌, eq-eqb, true≢false, ◌≡◌, ◌≢◌, ◌≤◌, ℕ, ◌+◌, ◌==◌, Bool, true, false, if◌then◌else◌, List, [], ◌∷◌, Option}
use Rattle.std.proofs.Common.{None, Some, refl, ◌⊎◌}
use Rattle.tsp_rules.specs.Values.{Alarm, Took, Post, Become, Back, Quit, Message, Taken, PeerId, Place, Peer, Role, Loose, Follow, Candidate, Master}
use Rattle.tsp_rules.specs.Values.{ELECT_MIN, QUIET, Act, Ring, Late, Quiet, Window, Elect, Search, Round, Probe, CloseAlarm, ResolveAlarm, Starting}
use Rattle.tsp_rules.proofs.{Asides.now, CalmAlarms.moves_by}
use Rattle.tsp_base.specs.Words.{Did, Acts, Seen, Here, Past, plain, MessageValue, boot_tick, Received, Said, role, held, armed, acting, said, taken, grown}
use Rattle.tsp_base.specs.Words.{heard}
use Rattle.tsp_promises.proofs.leads.Leaves.{made, nil_cons, none-some, now_rested, then_seen, with_quiet, with_round, with_times, with_vote}
use Rattle.tsp_promises.proofs.leads.Known.{TimesOf, VotesOf, RoundsOf, KnowsOf, During, Open, Sleeps, OpenIn, Untaken, Free}
use Rattle.tsp_promises.specs.StepFacts.{acked_by, is_ack, is_answered, is_unbacked, owes, owes_after, unacknowledged}
use Rattle.tsp_promises.specs.{HoldFits.BackFits, HoldFits.LeadFits, HoldFits.YieldFits, DeedFits.MessageFits, DeedFits.ActFits}
use Rattle.tsp_promises.{specs.PortFits.PortFits, specs.PortFits.setup_in, proofs.shared.StrangerFacts.unanswered, specs.QuitFits.QuitFits}

-- what alarms make of what is known of a port

-- the quiet time is over for a port that isn't Starting
pub rested_of : {r : Role} {search elect resolve : Option ℕ} {to : PeerId → List Seen} (x boot : ℕ) → Sleeps r search elect resolve to ⊎ (boot + QUIET ≤ x) →
    r ≢ Starting → boot + QUIET ≤ x
rested_of x boot (inl s) n = absurd (n s.starts)
rested_of x boot (inr h) n = h

pub open_of : {stirred awake acts : Bool} {T : Option Received → Option Received → Type 0} {x : ℕ} {past : Past} → During stirred awake false [] acts T x past →
    OpenIn stirred T x past
open_of h = record { own = h.own; fits = h.fits; knows = h.knows; backs = h.backs; owed = h.owed; paid = h.paid; took = h.took }

-- the quiet time is found to be over
pub wake : {stirred awake owing acts : Bool} {follow : List PeerId} {T : Option Received → Option Received → Type 0} {x : ℕ} {past : Past} →
    boot_tick (plain past.seen) + QUIET ≤ x → During stirred awake owing follow acts T x past → During stirred true owing follow acts T x past
wake r h = record {
  own = h.own;
  fits = h.fits;
  knows = h.knows;
  rested = λ e. r;
  backs = h.backs;
  owed = h.owed;
  paid = h.paid;
  acting_is = h.acting_is;
  took = h.took;
}

pub forget : {stirred awake owing acts : Bool} {follow : List PeerId} {T : Option Received → Option Received → Type 0} {x : ℕ} {past : Past} →
    During stirred awake owing follow acts T x past → During stirred false owing follow acts T x past
forget h = record {
  own = h.own;
  fits = h.fits;
  knows = h.knows;
  rested = λ e. let bad : ⊥ = cc in absurd bad;
  backs = h.backs;
  owed = h.owed;
  paid = h.paid;
  acting_is = h.acting_is;
  took = h.took;
}

-- an alarm that is off owes nothing
no_window : (x : ℕ) (past : Past) → VotesOf x past.own past.seen → VotesOf x past.own (then_seen x past (Ring Window))
no_window x past v = record { stands = v.stands; windows = λ n e. none-some n e; votes = v.votes }

no_round : (x : ℕ) (past : Past) → TimesOf x past.seen → TimesOf x (then_seen x past (Ring Round))
no_round x past k = record { boot_le = k.boot_le; last_le = k.last_le; boot_is = k.boot_is; start_le = k.start_le; next = λ n e. none-some n e }

unled : (x : ℕ) (past : Past) → RoundsOf false past.seen → RoundsOf false (then_seen x past (Ring Round))
unled x past k = record { rounds = λ n e. none-some n e; probing = k.probing; closes = k.closes; exchanges = k.exchanges }

module _ {x : ℕ} {past : Past} where
  rang : (a : Act) → ActFits (setup_in past) a (now x past a) past.seen → KnowsOf false x past.own (then_seen x past a) →
      boot_tick (plain (then_seen x past a)) + QUIET ≤ x → is_unbacked (then_seen x past a) ≡ false → owes (then_seen x past a) ≡ [] →
      unacknowledged (then_seen x past a) ≡ None → acting (then_seen x past a) ≡ true →
      Untaken (taken (then_seen x past a)) (heard (plain (then_seen x past a))) → Open x past → Free Untaken x (grown x past (a ∷ []))
  rang a f k r b w u c t h = made a h.own f h.fits k (λ e. r) b w u c t

  -- no other alarm than a Close ends a round: it has rung in time
  pub ring : (a : Alarm) → moves_by a ≡ false → boot_tick (plain past.seen) + QUIET ≤ x → Open x past → Free Untaken x (grown x past (Ring a ∷ []))
  ring Quiet e r h = rang (Ring Quiet) tt (with_quiet h.knows (record { rested = inr r; silent = λ n e. none-some n e })) r h.backs h.owed h.paid refl h.took h
  ring Search e r h = rang (Ring Search) tt (with_quiet h.knows (now_rested r h.knows.quiet)) r h.backs h.owed h.paid refl h.took h
  ring Elect e r h = rang (Ring Elect) tt (with_quiet h.knows (now_rested r h.knows.quiet)) r h.backs h.owed h.paid refl h.took h
  ring ResolveAlarm e r h = rang (Ring ResolveAlarm) tt (with_quiet h.knows (now_rested r h.knows.quiet)) r h.backs h.owed h.paid refl h.took h
  ring Window e r h = rang (Ring Window) tt (with_vote h.knows (no_window x past h.knows.vote)) r h.backs h.owed h.paid refl h.took h
  ring Round e r h = rang (Ring Round) tt (with_round (with_times h.knows (no_round x past h.knows.times))
      (unled x past h.knows.round)) r h.backs h.owed h.paid refl h.took h
  ring Probe e r h =
      let k = h.knows.round in
      rang (Ring Probe) tt (with_round h.knows (record { rounds = k.rounds; probing = λ n e. none-some n e; closes = k.closes; exchanges = k.exchanges }))
      r h.backs h.owed h.paid refl h.took h
  ring CloseAlarm e r h = absurd (true≢false e)

  -- or it comes late
  pub late : (a : Alarm) → moves_by a ≡ false → boot_tick (plain past.seen) + QUIET ≤ x → Open x past → Free Untaken x (grown x past (Late a ∷ []))
  late Quiet e r h = rang (Late Quiet) tt (with_quiet h.knows (record { rested = inr r; silent = λ n e. none-some n e })) r h.backs h.owed h.paid refl h.took h
  late Search e r h = rang (Late Search) tt (with_quiet h.knows (now_rested r h.knows.quiet)) r h.backs h.owed h.paid refl h.took h
  late Elect e r h = rang (Late Elect) tt (with_quiet h.knows (now_rested r h.knows.quiet)) r h.backs h.owed h.paid refl h.took h
  late ResolveAlarm e r h = rang (Late ResolveAlarm) tt (with_quiet h.knows (now_rested r h.knows.quiet)) r h.backs h.owed h.paid refl h.took h
  late Window e r h = rang (Late Window) tt (with_vote h.knows (no_window x past h.knows.vote)) r h.backs h.owed h.paid refl h.took h
  late Round e r h = rang (Late Round) tt (with_round (with_times h.knows (no_round x past h.knows.times))
      (unled x past h.knows.round)) r h.backs h.owed h.paid refl h.took h
  late Probe e r h =
      let k = h.knows.round in
      rang (Late Probe) tt (with_round h.knows (record { rounds = k.rounds; probing = λ n e. none-some n e; closes = k.closes; exchanges = k.exchanges }))
      r h.backs h.owed h.paid refl h.took h
  late CloseAlarm e r h = absurd (true≢false e)

  pub ring_close : (armed past.seen).probe ≡ None → boot_tick (plain past.seen) + QUIET ≤ x → Open x past → Free Untaken x (grown x past (Ring CloseAlarm ∷ []))
  ring_close unprobed r h = let k = h.knows in rang (Ring CloseAlarm) tt (record {
    times = k.times;
    quiet = k.quiet;
    vote = k.vote;
    round = record {
      rounds = k.round.rounds;
      probing = λ n e. none-some n (sym unprobed ∙ e);
      closes = λ calm n e. none-some n e;
      exchanges = λ p i s older e. nil_cons s older e;
    };
  }) r h.backs h.owed h.paid refl h.took h

  pub late_close : (armed past.seen).probe ≡ None → boot_tick (plain past.seen) + QUIET ≤ x → Open x past → Free Untaken x (grown x past (Late CloseAlarm ∷ []))
  late_close unprobed r h = let k = h.knows in rang (Late CloseAlarm) tt (record {
    times = k.times;
    quiet = k.quiet;
    vote = k.vote;
    round = record {
      rounds = k.round.rounds;
      probing = λ n e. none-some n (sym unprobed ∙ e);
      closes = λ calm n e. none-some n e;
      exchanges = λ p i s older e. nil_cons s older e;
    };
  }) r h.backs h.owed h.paid refl h.took h

-- a change of the role turns all alarms off, and ends all sends
pub knows_become : {stirred : Bool} (x : ℕ) (past : Past) (r : Role) → TimesOf x past.seen → boot_tick (plain past.seen) + QUIET ≤ x →
    (r ≡ Candidate → (boot_tick (plain past.seen) + ELECT_MIN ≤ x) × ((t : ℕ) → (held past.seen).quit ≡ Some t → t + ELECT_MIN ≤ x)) →
    KnowsOf stirred x past.own (then_seen x past (Become r))
knows_become x past r times rested stands = record {
  times = record { boot_le = times.boot_le; last_le = times.last_le; boot_is = times.boot_is; start_le = times.start_le; next = λ n e. none-some n e };
  quiet = record { rested = inr rested; silent = λ n e. none-some n e };
  vote = record { stands = stands; windows = λ n e. none-some n e; votes = λ p e. absurd (true≢false (sym e)) };
  round = record {
    rounds = λ n e. none-some n e;
    probing = λ n e. none-some n e;
    closes = λ calm n e. none-some n e;
    exchanges = λ p i s older e. nil_cons s older e;
  };
}

either_false : (b : Bool) → (if b then false else false) ≡ false
either_false true = refl
either_false false = refl

module _ {stirred owing acts : Bool} {follow : List PeerId} {T : Option Received → Option Received → Type 0} {x : ℕ} {past : Past} where
  pub become_loose : (role past.seen ≡ Master → YieldFits (setup_in past) past.seen) → During stirred true owing follow acts T x past →
      During stirred true owing follow acts T x (grown x past (Become Loose ∷ []))
  become_loose f h = made (Become Loose) h.own f h.fits (knows_become x past Loose h.knows.times (h.rested refl) (λ e. let bad : ⊥ = cc in absurd bad)) h.rested
      h.backs h.owed h.paid h.acting_is h.took

  pub become_candidate : boot_tick (plain past.seen) + ELECT_MIN ≤ x → ((t : ℕ) → (held past.seen).quit ≡ Some t → t + ELECT_MIN ≤ x) →
      During stirred true owing follow acts T x past → During stirred true true follow acts T x (grown x past (Become Candidate ∷ []))
  become_candidate long quit h = made (Become Candidate) h.own tt h.fits (knows_become x past Candidate h.knows.times (h.rested refl) (λ e. (long, quit)))
      h.rested refl h.owed h.paid h.acting_is h.took

  pub become_master : LeadFits (setup_in past) (now x past (Become Master)) past.seen → During stirred true owing follow acts T x past →
      During stirred true owing follow acts T x (grown x past (Become Master ∷ []))
  become_master f h = made (Become Master) h.own f h.fits (knows_become x past Master h.knows.times (h.rested refl) (λ e. let bad : ⊥ = cc in absurd bad))
      h.rested h.backs h.owed h.paid h.acting_is h.took

module _ {stirred awake acts : Bool} {follow : List PeerId} {T : Option Received → Option Received → Type 0} {x : ℕ} {past : Past} where
  -- a port that has just become a candidate backs itself
  pub back_own : (armed past.seen).window ≡ None → BackFits (now x past (Back past.own)) past.seen past.own → During stirred awake true follow acts T x past →
      During stirred awake false follow acts T x (grown x past (Back past.own ∷ []))
  back_own shut f h =
      let k = h.knows in
      let same : (past.own.0 == past.step.node) ≡ true = eq-eqb past.own.0 past.step.node h.own in
      made (Back past.own) h.own f h.fits
      (with_vote k (record { stands = k.vote.stands; windows = λ n e. none-some n (sym shut ∙ e); votes = k.vote.votes }))
      h.rested (rw same refl) h.owed h.paid h.acting_is h.took

  -- a port that isn't a candidate backs another
  pub back_other : (p : PeerId) → role past.seen ≢ Candidate → BackFits (now x past (Back p)) past.seen p → During stirred awake false follow acts T x past →
      During stirred awake false follow acts T x (grown x past (Back p ∷ []))
  back_other p other f h =
      let k = h.knows in
      made (Back p) h.own f h.fits
      (with_vote k (record { stands = k.vote.stands; windows = λ n e. absurd (other (k.vote.windows n e).stands); votes = k.vote.votes }))
      h.rested (rw h.backs (either_false (p.0 == past.step.node))) h.owed h.paid h.acting_is h.took

-- a port that took a QUIT, which it acknowledges or has acknowledged, or is about to follow
pub record Quitting (due : Option Said) (follow : List PeerId) (T : Option Received → Option Received → Type 0) (x : ℕ) (past : Past) : Type 0 where
  pub own : past.own.0 ≡ past.step.node
  pub fits : PortFits (setup_in past) past.seen
  pub times : TimesOf x past.seen
  pub rested : boot_tick (plain past.seen) + QUIET ≤ x
  pub backs : is_unbacked past.seen ≡ false
  pub owed : owes past.seen ≡ follow
  pub paid : unacknowledged past.seen ≡ due
  pub acting_is : acting past.seen ≡ true
  pub took : T (taken past.seen) (heard (plain past.seen))

-- a port in its role
pub record FreeIn (follow : List PeerId) (T : Option Received → Option Received → Type 0) (r : Role) (x : ℕ) (past : Past) : Type 0 where
  pub free : During false true false follow true T x past
  pub role_is : role past.seen ≡ r

-- an ACK of its number ends it
acked_here : (p : PeerId) (m ack : MessageValue) → is_ack ack.kind ≡ true → ack.number ≡ m.number → acked_by p ack (Some (record { from = p; message = m })) ≡
    None
acked_here p m ack kind number =
    let same : (p.0 == p.0) ≡ true = eq-eqb p.0 p.0 refl in
    let count : (ack.number == m.number) ≡ true = eq-eqb ack.number m.number number in
    rw (same, kind, count) refl

module _ {follow : List PeerId} {T : Option Received → Option Received → Type 0} {x : ℕ} {past : Past} where
  pub quitting_of : During false true false follow true T x past → Quitting None follow T x past
  quitting_of h = record {
    own = h.own;
    fits = h.fits;
    times = h.knows.times;
    rested = h.rested refl;
    backs = h.backs;
    owed = h.owed;
    paid = h.paid;
    acting_is = h.acting_is;
    took = h.took;
  }

  pub quit_taken : (p : PeerId) (due : Option Said) (then_follow : List PeerId) → QuitFits past.seen p → said (taken past.seen) ≡ due →
      owes_after (Acts (Quit p)) (role past.seen) (owes past.seen) ≡ then_follow → During false true false follow true T x past →
      Quitting due then_follow T x (grown x past (Quit p ∷ []))
  quit_taken p due then_follow f says e h = record {
    own = h.own;
    fits = (f, h.fits);
    times = h.knows.times;
    rested = h.rested refl;
    backs = h.backs;
    owed = e;
    paid = says;
    acting_is = h.acting_is;
    took = h.took;
  }

  -- its ACK
  pub quit_acked : (p : PeerId) (m ack : MessageValue) → is_ack ack.kind ≡ true → ack.number ≡ m.number →
      MessageFits (setup_in past) ack.kind (now x past (Post (Peer p) (Message ack))) past.seen p ack →
      Quitting (Some (record { from = p; message = m })) follow T x past → Quitting None follow T x (grown x past (Post (Peer p) (Message ack) ∷ []))
  quit_acked p m ack kind number f h = record {
    own = h.own;
    fits = (record { rested = inl h.rested; fits = f }, h.fits);
    times = h.times;
    rested = h.rested;
    backs = h.backs;
    owed = h.owed;
    paid = ap (acked_by p ack) h.paid ∙ acked_here p m ack kind number;
    acting_is = h.acting_is;
    took = h.took;
  }

  pub become_follow : (p : PeerId) → Quitting None follow T x past → FreeIn follow T (Follow p) x (grown x past (Become (Follow p) ∷ []))
  become_follow p h = record {
    free = made (Become (Follow p)) h.own tt h.fits (knows_become x past (Follow p) h.times h.rested (λ e. let bad : ⊥ = cc in absurd bad)) (λ e. h.rested)
        h.backs h.owed h.paid h.acting_is h.took;
    role_is = refl;
  }

-- what a step took here
abbrev pub Is : Place → Taken → Option Received → Option Received → Type 0
Is from t here anywhere = here ≡ Some (record { from = from; taken = t })

-- a port that has just taken a datagram, and may be in its quiet time or not
pub record JustTook (awake : Bool) (from : Place) (t : Taken) (x : ℕ) (past : Past) : Type 0 where
  pub free : During false awake false [] true (Is from t) x past
  pub took : Did
  pub rest : List Seen
  pub is : past.seen ≡ Here took ∷ rest
  pub deed : took.deed ≡ Acts (Took from t)
  pub unanswered : is_answered past.seen ≡ false

pub take : (from : Place) (t : Taken) {x : ℕ} {past : Past} → Open x past → JustTook false from t x (grown x past (Took from t ∷ []))
take from t {x = x} {past = past} h = record {
  free = made {x = x} {past = past} (Took from t) h.own h.took.1 h.fits h.knows (λ e. let bad : ⊥ = cc in absurd bad) h.backs h.owed h.paid refl refl;
  took = now x past (Took from t);
  rest = past.seen;
  is = refl;
  deed = refl;
  unanswered = unanswered (setup_in past) past.seen h.fits h.took.0;
}
