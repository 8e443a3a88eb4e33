-- How a round begins and goes on.
use Rattle.std.proofs.Common.{◌≡◌, ℕ, ◌+◌, ◌*◌, ◌<◌, ◌≤◌, nat_lt, true, false, [], ◌∷◌, Option, Some, None, refl, sym, ◌∙◌, ap, arith}
use Rattle.std.proofs.lemmas.Bool.{false≢true, leb-true, Decides.nat_tests}
use Rattle.tsp_rules.specs.Values.{Act, Datagram, Place, Post, Become, Arm, Ring, Late, Probe, CloseAlarm, Follow, Master, CLOSE, PROBE}
use Rattle.tsp_base.specs.Words.{Past, Keeps, armed, is_going, is_starting, probes, arms, grown, puts, ◌followed_by◌}
use Rattle.tsp_rules.{proofs.Emits.Posting, proofs.Emits.is_in, proofs.Emits.sort_of, specs.Guards.is_met, specs.Guards.is_over}
use Rattle.tsp_measure.specs.{Measures.Measured, Measures.best_of, Rounds.IsNothing, Rounds.pending_at}
use Rattle.tsp_measure.specs.Slaves.{ChangesAll, peers_of, unmeasures}
use Rattle.tsp_master.specs.{MasterStands.MasterStands, MasterStands.IsProbing, declared.master.Master.Master as MasterStruct}

-- a round begins
pub MasterStands_begins_round : (x : ℕ) (past : Past) (old new : MasterStruct) → ChangesAll unmeasures old.slaves new.slaves → peers_of new.slaves ≡
    peers_of old.slaves → IsNothing new.rounds → new.rounds.asked ≡ old.rounds.asked → new.rounds.probes ≡ 0 → MasterStands past old →
    MasterStands (grown x past ((arms Probe PROBE followed_by arms CloseAlarm CLOSE) x past)) new
unfolding arms ◌followed_by◌
MasterStands_begins_round x past old new change ps none asked_is zero h = record {
  peers = ps ∙ h.peers;
  entries = λ q. change q ∙ ap unmeasures (h.entries q);
  asked_is = asked_is ∙ h.asked_is;
  going = λ g. record {
    requests = λ p c. ap (λ (m : Measured). pending_at c m.pending) (sym (none p.0));
    samples = λ p. ap (λ (m : Measured). best_of m.samples) (sym (none p.0));
    probes_is = zero;
    opened = λ p c post older e. let bad : ⊥ = cc in absurd bad;
    recent = λ p s e. let bad : ⊥ = cc in absurd bad;
  };
  idle = λ g. absurd (false≢true (sym g));
  probing = λ at e. (refl, omega arith, λ close f. let a : x + PROBE ≡ at = cc in let b : x + CLOSE ≡ close = cc in omega (arith, a, b));
  empty = λ other p. ((h.empty other p).0, refl);
}

-- a further probe is put off
pub MasterStands_arms_probe : (x : ℕ) (past : Past) (m : MasterStruct) → is_going past.seen ≡ true → probes past.seen < 3 →
    ((close : ℕ) → (armed past.seen).close ≡ Some close → x + 8000000 ≤ close + 2000000 * probes past.seen) → MasterStands past m →
    MasterStands (grown x past (arms Probe PROBE x past)) m
unfolding arms
MasterStands_arms_probe x past m goes more early h = record {
  peers = h.peers;
  entries = h.entries;
  asked_is = h.asked_is;
  going = λ g. let r = h.going g in record { requests = r.requests; samples = r.samples; probes_is = r.probes_is; opened = r.opened; recent = r.recent };
  idle = h.idle;
  probing = λ at e. (goes, more, λ close f. let a : x + PROBE ≡ at = cc in omega (arith, a, early close f));
  empty = h.empty;
}

-- an alarm that is due is armed, and one that is in time is met soon enough
pub over_some : (o : Option ℕ) (x : ℕ) → is_over o x ≡ true → (at : ℕ) × (o ≡ Some at)
over_some None x e = absurd (false≢true e)
over_some (Some at) x e = (at, refl)

pub over_low : (o : Option ℕ) (x at : ℕ) → is_over o x ≡ true → o ≡ Some at → at ≤ x
over_low None x at e f = absurd (false≢true e)
over_low (Some k) x at e f = let same : k ≡ at = cc in let low = leb-true k x e in omega (arith, same, low)

pub met_some : (o : Option ℕ) (x at : ℕ) → is_met o x ≡ true → o ≡ Some at → x ≤ at + 1000000
met_some None x at e f = absurd (false≢true e)
met_some (Some k) x at e f = let same : k ≡ at = cc in let low = leb-true x (k + 1000000) e in omega (arith, same, low)

-- a probe that rings in time comes well before the close
pub rings_early : (x at : ℕ) (past : Past) → IsProbing at past.seen → x ≤ at + 1000000 → (close : ℕ) → (armed past.seen).close ≡ Some close →
    x + 8000000 ≤ close + 2000000 * (probes past.seen + 1)
rings_early x at past p low close e = omega (arith, p.2 close e)

pub no_more : (n : ℕ) → 3 ≤ n → nat_lt n 3 ≡ false
no_more n h = grind (arith, nat_tests)

-- posts leave a round going that begins
abbrev Goes : Past → Unit {0} → Type 0
Goes past state = is_going past.seen ≡ true

abbrev Begins : Past → Unit {0} → Type 0
Begins past state = is_starting past.seen ≡ true

-- what posts keep is kept by each act that may only be one
kept_posting : {P : Past → Unit {0} → Type 0} → ((to : Place) (d : Datagram) → Keeps P (puts (Post to d))) →
    (a : Act) → is_in (sort_of a) (Posting ∷ []) ≡ true → Keeps P (puts a)
kept_posting post (Post to d) e = post to d
kept_posting post (Become Master) e = absurd (false≢true e)
kept_posting post (Become (Follow p)) e = absurd (false≢true e)
kept_posting post (Become _) e = absurd (false≢true e)
kept_posting post (Arm Probe at) e = absurd (false≢true e)
kept_posting post (Arm CloseAlarm at) e = absurd (false≢true e)
kept_posting post (Arm _ at) e = absurd (false≢true e)
kept_posting post (Ring Probe) e = absurd (false≢true e)
kept_posting post (Ring CloseAlarm) e = absurd (false≢true e)
kept_posting post (Ring _) e = absurd (false≢true e)
kept_posting post (Late Probe) e = absurd (false≢true e)
kept_posting post (Late CloseAlarm) e = absurd (false≢true e)
kept_posting post (Late _) e = absurd (false≢true e)
kept_posting post _ e = absurd (false≢true e)

pub goes_posting : (a : Act) → is_in (sort_of a) (Posting ∷ []) ≡ true → Keeps Goes (puts a)
unfolding puts
goes_posting = kept_posting (λ to d x past s h. h)

pub begins_posting : (a : Act) → is_in (sort_of a) (Posting ∷ []) ≡ true → Keeps Begins (puts a)
unfolding puts
begins_posting = kept_posting (λ to d x past s h. h)
