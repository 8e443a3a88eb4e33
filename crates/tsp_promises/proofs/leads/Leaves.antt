-- What single acts make of what is known of a port.
use Rattle.std.proofs.Common.{sym, ap, subst, arith, inr, ◌∙◌, true≢false, ◌≡◌, ◌≤◌, ℕ, ◌+◌, ◌==◌, ◌&&◌, ◌||◌, ℤ, Bool, true, false, if◌then◌else◌, cond, List}
use Rattle.std.proofs.Common.{[], ◌∷◌, Option, None, Some, refl}
use Rattle.tsp_rules.specs.Values.{Role, Act, Arm, Backer, Abandon, Close, Correct, Sample, Acked, Gave, Join, Leave, Rival, Trace, Window, Elect, Search}
use Rattle.tsp_rules.specs.Values.{Round, Probe, CloseAlarm, ResolveAlarm, PeerId, Master, CLOSE, PROBE, QUIET, ROUND}
use Rattle.tsp_base.specs.Words.{Did, Seen, Here, Past, plain, boot_tick, is_among, Received, role, armed, acting, taken, backers, held, stood, exchange}
use Rattle.tsp_base.specs.Words.{probes, started, grown, open_to, message_at, heard}
use Rattle.tsp_rules.proofs.{Asides.now, GuardFacts.same_peer}
use Rattle.tsp_promises.specs.{AckFits.AckedFits, CorrectFits.CorrectFits, DeedFits.ActFits, HoldFits.BackerFits, MeasureFits.SampleFits}
use Rattle.tsp_promises.specs.StepFacts.{is_unbacked, owes, unacknowledged}
use Rattle.tsp_promises.specs.{PortFits.PortFits, PortFits.setup_in, RoundFits.CloseFits}
use Rattle.tsp_promises.proofs.leads.Known.{Asked, Probing, Candidature, asks_vote, Knows, KnowsOf, During, Quiets, Rounds, Votes}

-- what a port has seen when it is done
abbrev pub then_seen : ℕ → Past → Act → List Seen
then_seen x past a = Here (now x past a) ∷ past.seen

pub none-some : {A : Type 0} {B : Type 0} (a : A) → None ≡ Some a → B
none-some a e = let bad : ⊥ = cc in absurd bad

pub none_among : {B : Type 0} {ps : List PeerId} (p : PeerId) → ps ≡ [] → is_among p ps ≡ true → B
none_among p e i = absurd (true≢false (sym i ∙ ap (is_among p) e))

pub nil_cons : {B : Type 0} (s : Seen) (older : List Seen) → [] ≡ s ∷ older → B
nil_cons s older e = let bad : ⊥ = cc in absurd bad

pub some_same : {A : Type 0} (a b : A) → Some a ≡ Some b → a ≡ b
some_same a b e = cc

-- an exchange that is open after a sample was open before
kept_asked : {B : Type 0} (b : Bool) (was : List Seen) (s : Seen) (older : List Seen) → (was ≡ s ∷ older → B) → (if b then [] else was) ≡ s ∷ older → B
kept_asked true was s older old e = nil_cons s older e
kept_asked false was s older old e = old e

-- a vote that is asked for after a send has ended was asked for before
kept_vote : {B : Type 0} (b : Bool) (was : List Seen) → (asks_vote (message_at was) ≡ true → B) → asks_vote (message_at (cond b [] was)) ≡ true → B
kept_vote true was old e = absurd (true≢false (sym e))
kept_vote false was old e = old e

-- a peer that is asked isn't the new backer, whose send has ended
new_backer : (p q : PeerId) (was : List Seen) (bs : List PeerId) → (q ≡ p → was ≡ []) → asks_vote (message_at was) ≡ true → is_among q bs ≡ false → (b : Bool) →
    (p.0 == q.0) ≡ b → (b || is_among q bs) ≡ false
new_backer p q was bs ended e old true same = absurd (true≢false (sym (subst (λ place. asks_vote (message_at place) ≡ true) (ended (sym (same_peer p q same)))
    e)))
new_backer p q was bs ended e old false same = old

-- an exchange of a port that is stirred now, and its round
pub stir : {stirred : Bool} {close : Option ℕ} {nc nl nd nm w : ℕ} {s : Seen} {older : List Seen} → Asked stirred close nc nl w s older →
    Asked true close nd nm w s older
stir a = record {
  post = a.post;
  is = a.is;
  at = a.at;
  goes = a.goes;
  word_is = a.word_is;
  corrects = λ calm. absurd (true≢false calm);
  life = λ calm. absurd (true≢false calm);
}

pub stir_round : {stirred : Bool} {last last' nc nd nl nm w n : ℕ} {r : Role} {probe close round : Option ℕ} {st : List Seen} {ex : PeerId → ℕ → List Seen} →
    Rounds stirred last r probe close round n st nc nl w ex → Rounds true last' r probe close round n st nd nm w ex
stir_round h = record {
  rounds = h.rounds;
  probing = h.probing;
  closes = λ calm. absurd (true≢false calm);
  exchanges = λ p i s older e. stir (h.exchanges p i s older e);
}

-- what is known of a port with one part of it anew
pub with_times : {A B C D E : Type 0} → Knows A B C D → E → Knows E B C D
with_times k e = record { times = e; quiet = k.quiet; vote = k.vote; round = k.round }

pub with_quiet : {A B C D E : Type 0} → Knows A B C D → E → Knows A E C D
with_quiet k e = record { times = k.times; quiet = e; vote = k.vote; round = k.round }

pub with_vote : {A B C D E : Type 0} → Knows A B C D → E → Knows A B E D
with_vote k e = record { times = k.times; quiet = k.quiet; vote = e; round = k.round }

pub with_round : {A B C D E : Type 0} → Knows A B C D → E → Knows A B C E
with_round k e = record { times = k.times; quiet = k.quiet; vote = k.vote; round = e }

-- the quiet time is over
pub now_rested : {x boot : ℕ} {r : Role} {quiet search elect resolve search' elect' resolve' : Option ℕ} {to to' : PeerId → List Seen} → boot + QUIET ≤ x →
    Quiets x boot r quiet search elect resolve to → Quiets x boot r quiet search' elect' resolve' to'
now_rested rested q = record { rested = inr rested; silent = q.silent }

-- other votes are asked for, or given
pub with_votes : {x boot : ℕ} {own : PeerId} {r : Role} {window quit : Option ℕ} {back : Option (ℕ × PeerId)} {st : List Seen} {to to' : PeerId → List Seen}
    {bs bs' : List PeerId} →
    Votes x boot own r window quit back st to bs → ((p : PeerId) → asks_vote (message_at (to' p)) ≡ true → is_among p bs' ≡ false) →
    Votes x boot own r window quit back st to' bs'
with_votes v votes = record { stands = v.stands; windows = v.windows; votes = votes }

pub made : {stirred awake owing acts : Bool} {follow : List PeerId} {T : Option Received → Option Received → Type 0} {x : ℕ} {past : Past} (a : Act) →
    past.own.0 ≡ past.step.node → ActFits (setup_in past) a (now x past a) past.seen → PortFits (setup_in past) past.seen →
    KnowsOf stirred x past.own (then_seen x past a) → (awake ≡ true → boot_tick (plain (then_seen x past a)) + QUIET ≤ x) → is_unbacked (then_seen x past a) ≡
    owing → owes (then_seen x past a) ≡ follow → unacknowledged (then_seen x past a) ≡ None → acting (then_seen x past a) ≡ acts →
    T (taken (then_seen x past a)) (heard (plain (then_seen x past a))) →
    During stirred awake owing follow acts T x (grown x past (a ∷ []))
made a own f fits knows rested backs owed paid acting_is took = record {
  own = own;
  fits = (f, fits);
  knows = knows;
  rested = rested;
  backs = backs;
  owed = owed;
  paid = paid;
  acting_is = acting_is;
  took = took;
}

-- without a round nothing stirs a port
pub calmed : {stirred now : Bool} (x : ℕ) (own : PeerId) (seen : List Seen) → (armed seen).close ≡ None → KnowsOf stirred x own seen → KnowsOf now x own seen
calmed x own seen shut k = with_round k (record {
  rounds = k.round.rounds;
  probing = k.round.probing;
  closes = λ calm at e. none-some at (sym shut ∙ e);
  exchanges = λ p i s older e. let asked = k.round.exchanges p i s older e in none-some asked.at (sym shut ∙ asked.goes);
})

-- an Abandon ends the round
pub abandoned : {stirred : Bool} (x : ℕ) (past : Past) → KnowsOf stirred x past.own past.seen → KnowsOf false x past.own (then_seen x past Abandon)
abandoned x past k = with_round k (record {
  rounds = k.round.rounds;
  probing = λ at e. none-some at e;
  closes = λ calm at e. none-some at e;
  exchanges = λ p i s older e. nil_cons s older e;
})

-- a round that has just begun isn't later than now, and is so long before the next
begins_now : {x : ℕ} (d start : Did) (rest idle : List Seen) → Here d ∷ rest ≡ Here start ∷ idle → d.tick ≤ x → start.tick ≤ x
begins_now {x = x} d start rest idle e h = let same : d ≡ start = cc in subst (λ (z : Did). z.tick ≤ x) same h

begins_then : (d start : Did) (rest idle : List Seen) (n : ℕ) → Here d ∷ rest ≡ Here start ∷ idle → d.tick + ROUND ≡ n → start.tick + ROUND ≤ n
begins_then d start rest idle n e h = let same : d ≡ start = cc in subst (λ (z : Did). z.tick + ROUND ≤ n) same (omega (arith, h))

-- acts that change nothing that is known
module _ {stirred awake owing acts : Bool} {follow : List PeerId} {T : Option Received → Option Received → Type 0} {x : ℕ} {past : Past} where
  pub join : (p : PeerId) → During stirred awake owing follow acts T x past → During stirred awake owing follow acts T x (grown x past (Join p ∷ []))
  join p h = made (Join p) h.own tt h.fits h.knows h.rested h.backs h.owed h.paid h.acting_is h.took

  pub leave : (p : PeerId) → During stirred awake owing follow acts T x past → During stirred awake owing follow acts T x (grown x past (Leave p ∷ []))
  leave p h = made (Leave p) h.own tt h.fits h.knows h.rested h.backs h.owed h.paid h.acting_is h.took

  pub rival : (p : PeerId) → During stirred awake owing follow acts T x past → During stirred awake owing follow acts T x (grown x past (Rival p ∷ []))
  rival p h = made (Rival p) h.own tt h.fits h.knows h.rested h.backs h.owed h.paid h.acting_is h.took

  pub trace : (on : Bool) → During stirred awake owing follow acts T x past → During stirred awake owing follow acts T x (grown x past (Trace on ∷ []))
  trace on h = made (Trace on) h.own tt h.fits h.knows h.rested h.backs h.owed h.paid h.acting_is h.took

  pub close_act : (count : ℕ) (lo size mean : ℤ) → CloseFits (now x past (Close count lo size mean)) past.seen →
      During stirred awake owing follow acts T x past → During stirred awake owing follow acts T x (grown x past (Close count lo size mean ∷ []))
  close_act count lo size mean f h = made (Close count lo size mean) h.own f h.fits h.knows h.rested h.backs h.owed h.paid h.acting_is h.took

-- acts of a port whose quiet time is over
module _ {stirred owing acts : Bool} {follow : List PeerId} {T : Option Received → Option Received → Type 0} {x : ℕ} {past : Past} where
  pub arm_search : (at : ℕ) → During stirred true owing follow acts T x past → During stirred true owing follow acts T x (grown x past (Arm Search at ∷ []))
  arm_search at h = made (Arm Search at) h.own tt h.fits (with_quiet h.knows
      (now_rested (h.rested refl) h.knows.quiet)) h.rested h.backs h.owed h.paid h.acting_is h.took

  pub arm_elect : (at : ℕ) → During stirred true owing follow acts T x past → During stirred true owing follow acts T x (grown x past (Arm Elect at ∷ []))
  arm_elect at h = made (Arm Elect at) h.own tt h.fits (with_quiet h.knows
      (now_rested (h.rested refl) h.knows.quiet)) h.rested h.backs h.owed h.paid h.acting_is h.took

  pub arm_resolve : (at : ℕ) → During stirred true owing follow acts T x past → During stirred true owing follow acts T x (grown x past (Arm ResolveAlarm at ∷
      []))
  arm_resolve at h = made (Arm ResolveAlarm at) h.own tt h.fits (with_quiet h.knows
      (now_rested (h.rested refl) h.knows.quiet)) h.rested h.backs h.owed h.paid h.acting_is h.took

  pub gave : (p : PeerId) → During stirred true owing follow acts T x past → During stirred true owing follow acts T x (grown x past (Gave p ∷ []))
  gave p h =
      let k = h.knows in
      let vote = with_votes k.vote (λ q e. kept_vote (p.0 == q.0) (open_to q past.seen) (k.vote.votes q) e) in
      made (Gave p) h.own tt h.fits (with_quiet (with_vote k vote) (now_rested (h.rested refl) k.quiet)) h.rested h.backs h.owed h.paid h.acting_is h.took

  pub acked : (p : PeerId) → AckedFits past.seen p → During stirred true owing follow acts T x past →
      During stirred true owing follow acts T x (grown x past (Acked p ∷ []))
  acked p f h =
      let k = h.knows in
      let vote = with_votes k.vote (λ q e. kept_vote (p.0 == q.0) (open_to q past.seen) (k.vote.votes q) e) in
      made (Acked p) h.own f h.fits (with_quiet (with_vote k vote) (now_rested (h.rested refl) k.quiet)) h.rested h.backs h.owed h.paid h.acting_is h.took

  pub backer : (p : PeerId) → BackerFits (setup_in past) (now x past (Backer p)) past.seen p → open_to p past.seen ≡ [] →
      During stirred true owing follow acts T x past → During stirred true owing follow acts T x (grown x past (Backer p ∷ []))
  backer p f ended h =
      let k = h.knows in
      made (Backer p) h.own f h.fits
      (with_vote k (with_votes k.vote (λ q e.
      new_backer p q (open_to q past.seen) (backers past.seen) (λ s. subst (λ r. open_to r past.seen ≡ []) (sym s) ended) e (k.vote.votes q e)
      (p.0 == q.0) refl)))
      h.rested h.backs h.owed h.paid h.acting_is h.took

module _ {stirred awake owing acts : Bool} {follow : List PeerId} {T : Option Received → Option Received → Type 0} {x : ℕ} {past : Past} where
  pub arm_window : (at : ℕ) → Candidature past.own at (role past.seen) (held past.seen).back (stood past.seen) →
      During stirred awake owing follow acts T x past → During stirred awake owing follow acts T x (grown x past (Arm Window at ∷ []))
  arm_window at c h =
      let k = h.knows in
      made (Arm Window at) h.own tt h.fits
      (with_vote k (record {
        stands = k.vote.stands;
        windows = λ n e. subst (λ i. Candidature past.own i (role past.seen) (held past.seen).back (stood past.seen)) (some_same at n e) c;
        votes = k.vote.votes;
      }))
      h.rested h.backs h.owed h.paid h.acting_is h.took

  pub arm_round : (at : ℕ) → role past.seen ≡ Master → ((start : Did) (idle : List Seen) → started past.seen ≡ Here start ∷ idle → start.tick + ROUND ≤ at) →
      During stirred awake owing follow acts T x past → During stirred awake owing follow acts T x (grown x past (Arm Round at ∷ []))
  arm_round at r spaced h =
      let k = h.knows in
      made (Arm Round at) h.own tt h.fits
      (with_round (with_times k (record {
        boot_le = k.times.boot_le;
        last_le = k.times.last_le;
        boot_is = k.times.boot_is;
        start_le = k.times.start_le;
        next = λ n e start idle is. subst (λ i. start.tick + ROUND ≤ i) (some_same at n e) (spaced start idle is);
      })) (record { rounds = λ n e. r; probing = k.round.probing; closes = k.round.closes; exchanges = k.round.exchanges }))
      h.rested h.backs h.owed h.paid h.acting_is h.took

  pub arm_probe : (at : ℕ) → Probing at (armed past.seen).close (probes past.seen) → During stirred awake owing follow acts T x past →
      During stirred awake owing follow acts T x (grown x past (Arm Probe at ∷ []))
  arm_probe at p h =
      let k = h.knows in
      made (Arm Probe at) h.own tt h.fits
      (with_round k (record {
        rounds = k.round.rounds;
        probing = λ n e. subst (λ i. Probing i (armed past.seen).close (probes past.seen)) (some_same at n e) p;
        closes = k.round.closes;
        exchanges = k.round.exchanges;
      }))
      h.rested h.backs h.owed h.paid h.acting_is h.took

  -- a round begins with its two alarms, ROUND after the last one; the next one is put off already
  pub arm_round_alarms : role past.seen ≡ Master → ((start : Did) (idle : List Seen) → started past.seen ≡ Here start ∷ idle → start.tick + ROUND ≤ x) →
      (armed past.seen).round ≡ Some (x + ROUND) → During stirred awake owing follow acts T x past →
      During stirred awake owing follow acts T x (grown x past (Arm Probe (x + PROBE) ∷ Arm CloseAlarm (x + CLOSE) ∷ []))
  arm_round_alarms leads spaced put_off h =
      let k = h.knows in record {
        own = h.own;
        fits = (record { spaced = spaced }, (tt, h.fits));
        knows = record {
          times = record {
            boot_le = k.times.boot_le;
            last_le = k.times.last_le;
            boot_is = k.times.boot_is;
            start_le = λ start idle e. begins_now (now x past (Arm CloseAlarm (x + CLOSE))) start _ idle e (omega arith);
            next = λ n e start idle is. begins_then (now x past (Arm CloseAlarm (x + CLOSE))) start _ idle n is (some_same (x + ROUND) n (sym put_off ∙ e));
          };
          quiet = k.quiet;
          vote = k.vote;
          round = record {
            rounds = k.round.rounds;
            probing = λ n e. let is = some_same (x + PROBE) n e in record { until = x + CLOSE; goes = refl; soon = omega (arith, is); few = omega arith };
            closes = λ calm n e. let is = some_same (x + CLOSE) n e in record {
              leads = leads;
              start = now x past (Arm CloseAlarm (x + CLOSE));
              idle = then_seen x past (Arm Probe (x + PROBE));
              start_is = refl;
              at_is = sym is;
              last_le = k.times.last_le;
              corrects = refl;
              life = refl;
            };
            exchanges = λ p i s older e. nil_cons s older e;
          };
        };
        rested = h.rested;
        backs = h.backs;
        owed = h.owed;
        paid = h.paid;
        acting_is = h.acting_is;
        took = h.took;
      }

  -- a round is given up, and with it all that stirs the port
  pub abandon : During stirred awake owing follow acts T x past → During false awake owing follow acts T x (grown x past (Abandon ∷ []))
  abandon h = made Abandon h.own tt h.fits (abandoned x past h.knows) h.rested h.backs h.owed h.paid h.acting_is h.took

  -- the clock is corrected, and a round may go on
  pub correct_stirring : (amount : ℤ) (stepped : Bool) (shown : ℤ) → CorrectFits (setup_in past) (now x past (Correct amount stepped shown)) past.seen amount
      stepped shown → During stirred awake owing follow acts T x past → During true awake owing follow acts T x (grown x past (Correct amount stepped shown ∷
      []))
  correct_stirring amount stepped shown f h =
      let k = h.knows in
      made (Correct amount stepped shown) h.own f h.fits
      (with_round (with_times k (record
      { boot_le = k.times.boot_le; last_le = omega arith; boot_is = k.times.boot_is; start_le = k.times.start_le; next = k.times.next }))
      (stir_round k.round))
      h.rested h.backs h.owed h.paid h.acting_is h.took

  -- the same without a round
  pub correct : (amount : ℤ) (stepped : Bool) (shown : ℤ) → (armed past.seen).close ≡ None →
      CorrectFits (setup_in past) (now x past (Correct amount stepped shown)) past.seen amount stepped shown → During stirred awake owing follow acts T x past →
      During stirred awake owing follow acts T x (grown x past (Correct amount stepped shown ∷ []))
  correct amount stepped shown idle f h =
      let k = correct_stirring amount stepped shown f h in
      made (Correct amount stepped shown) h.own f h.fits (calmed x past.own (then_seen x past (Correct amount stepped shown)) idle k.knows) h.rested h.backs
      h.owed h.paid h.acting_is h.took

  pub sample : (p : PeerId) (counter : ℕ) (diff err : ℤ) (number : ℕ) → SampleFits (now x past (Sample p counter diff err number)) past.seen p counter diff err
      number → During stirred awake owing follow acts T x past → During stirred awake owing follow acts T x (grown x past (Sample p counter diff err number ∷
      []))
  sample p counter diff err number f h =
      let k = h.knows in
      made (Sample p counter diff err number) h.own f h.fits
      (with_round k (record {
        rounds = k.round.rounds;
        probing = k.round.probing;
        closes = k.round.closes;
        exchanges = λ q i s older e. kept_asked ((p.0 == q.0) && (counter == i)) (exchange q i past.seen) s older (k.round.exchanges q i s older) e;
      }))
      h.rested h.backs h.owed h.paid h.acting_is h.took
