-- What a close reads, and what it does to each measured peer.
use Rattle.std.proofs.Common.{◌≡◌, ℕ, ◌+◌, ◌<◌, ◌≤◌, ◌&&◌, nat_le, Bool, true, false, if◌then◌else◌, List, [], ◌∷◌, ◌++◌, length, map, get_or, Option, Some}
use Rattle.std.proofs.Common.{None, ℤ, pos, refl, ◌∙◌, ap, subst, arith}
use Rattle.std.{proofs.lemmas.Bool.le-leb, proofs.lemmas.List.get_or_default, proofs.lemmas.List.map-append, specs.Option.option_map}
use Rattle.tsp_rules.{specs.Values.Correct, specs.Values.Leave, specs.Values.Placed, specs.Values.PeerId, specs.Values.Port, proofs.Parts.Performs_part}
use Rattle.tsp_base.specs.Words.{Performs, armed, Past, either_by, for_each, grown, nothing, puts, ◌followed_by◌, Estimate, Sampled, best, estimate_of}
use Rattle.tsp_base.specs.Words.{is_going, IsAscending}
use Rattle.tsp_group.specs.declared.group.Group.{Group}
use Rattle.tsp_rules.specs.{ClockRows.adjusts, ClockRows.can_adjust, ClockRows.is_step, Guards.is_over}
use Rattle.tsp_acks.{proofs.StandsLemmas.Stands_idle, specs.declared.station.Station.Station}
use Rattle.tsp_clock.specs.{ClockStands.ClockStands, Clocks.ClockValue}
use Rattle.tsp_rules.specs.RoundRows.{Standing, abandons, closes_with, corrects, corrects_peer, diff_before, mean_by, moves, estimates, is_near, near_diffs}
use Rattle.tsp_rules.specs.RoundRows.{round_at, standing}
use Rattle.tsp_measure.specs.{Slaves.Changes, Slaves.entry_of, Slaves.leaves, Slaves.peers_of, declared.sample.TimedSample.TimedSample}
use Rattle.tsp_measure.specs.{Rounds.RoundsValue, Rounds.estimate_in, Rounds.timed_of, declared.entry.Entry.Entry}
use Rattle.tsp_base.proofs.AscendingLemmas.{Rise_peers}
use Rattle.tsp_master.specs.Closing.{estimate_with, measured_of, round_of, standing_with, standings_of}
use Rattle.tsp_master.specs.{MasterStands.LeadStands, MasterStands.MasterStands, declared.master.Master.Master}
use Rattle.tsp_master.proofs.{AskLemmas.filter_more, AskLemmas.filter_past, AskLemmas.measured_is, MasterLemmas.MasterStands_aside}
use Rattle.tsp_master.proofs.{PhaseLemmas.over_low, PhaseLemmas.over_some, TableLemmas.MasterStands_changed, TableLemmas.leaves_after}
use Rattle.tsp_rules.proofs.{BuiltRounds.built_corrects_by, Emits.Emits, Emits.Emits_each, EmitsStill.corrects_none, EmitsStill.still_sorts}
use Rattle.tsp_rules.proofs.EmitsBuilt.{emits_built, nothing_measured}

-- one estimate more
near_diffs_more : (rs : List Standing) (s : Standing) → near_diffs (rs ++ s ∷ []) ≡ near_diffs rs ++ diff_before s.best []
near_diffs_more [] s = refl
near_diffs_more (r ∷ rs) s = by_best r.best (near_diffs_more rs s) where
  by_near : (b : Bool) (z : ℤ) → near_diffs (rs ++ s ∷ []) ≡ near_diffs rs ++ diff_before s.best [] →
      (if b then z ∷ near_diffs (rs ++ s ∷ []) else near_diffs (rs ++ s ∷ [])) ≡ (if b then z ∷ near_diffs rs else near_diffs rs) ++ diff_before s.best []
  by_near true z e = ap (λ zs. z ∷ zs) e
  by_near false z e = e

  by_best : (o : Option Estimate) → near_diffs (rs ++ s ∷ []) ≡ near_diffs rs ++ diff_before s.best [] → diff_before o (near_diffs (rs ++ s ∷ [])) ≡
      diff_before o (near_diffs rs) ++ diff_before s.best []
  by_best None e = e
  by_best (Some b) e = by_near (is_near b.diff) b.diff e

pub standings_more : (es : List Entry) (v : RoundsValue) (ps : List PeerId) (p : PeerId) → (entry_of es p).measured ≡ true → standings_of es v (ps ++ p ∷ []) ≡
    standings_of es v ps ++ standing_with v p ∷ []
standings_more es v ps p m = ap (map (standing_with v)) (filter_more (λ (q : PeerId). (entry_of es q).measured) ps p m) ∙
    map-append (standing_with v) (measured_of es ps) (p ∷ [])

pub standings_past : (es : List Entry) (v : RoundsValue) (ps : List PeerId) (p : PeerId) → (entry_of es p).measured ≡ false → standings_of es v (ps ++ p ∷ []) ≡
    standings_of es v ps
standings_past es v ps p m = ap (map (standing_with v)) (filter_past (λ (q : PeerId). (entry_of es q).measured) ps p m)

pub estimates_more : (es : List Entry) (v : RoundsValue) (ps : List PeerId) (p : PeerId) → (entry_of es p).measured ≡ true →
    estimates (standings_of es v (ps ++ p ∷ [])) ≡ estimates (standings_of es v ps) ++ diff_before (estimate_with v p) []
estimates_more es v ps p m = ap estimates (standings_more es v ps p m) ∙ ap (λ zs. pos 0 ∷ zs) (near_diffs_more (standings_of es v ps) (standing_with v p))

pub one-estimate : (o : Option Estimate) → length (diff_before o []) ≤ 1
one-estimate None = omega arith
one-estimate (Some b) = by_test (is_near b.diff) where
  by_test : (t : Bool) → length (if t then b.diff ∷ [] else []) ≤ 1
  by_test true = omega arith
  by_test false = omega arith

-- what a best sample says, as the past and the exchanges have it
estimate_timed : (o : Option Sampled) → estimate_of o ≡ option_map (λ (t : TimedSample). estimate_in t.sample) (option_map timed_of o)
estimate_timed None = refl
estimate_timed (Some s) = refl

pub estimate-sample : (o : Option TimedSample) → option_map (λ (t : TimedSample). estimate_in t.sample) o ≡
    option_map estimate_in (option_map (λ (t : TimedSample). t.sample) o)
estimate-sample None = refl
estimate-sample (Some t) = refl

map_same : (f g : PeerId → Standing) → ((p : PeerId) → f p ≡ g p) → (ps : List PeerId) → map f ps ≡ map g ps
map_same f g same [] = refl
map_same f g same (p ∷ ps) = ap (λ s. s ∷ map f ps) (same p) ∙ ap (λ ss. g p ∷ ss) (map_same f g same ps)

-- what a round has come to, as the master has it
pub round_is : (x : ℕ) (past : Past) (m : Master) → is_going past.seen ≡ true → MasterStands past m → round_at x past ≡ round_of m.slaves m.rounds
round_is x past m goes h =
    ap (map (standing past.seen)) (measured_is x past m h)
    ∙ map_same (standing past.seen) (standing_with m.rounds)
    (λ p. ap (λ o. record { peer = p; best = o }) (estimate_timed (best p past.seen) ∙
    ap (option_map (λ (t : TimedSample). estimate_in t.sample)) ((h.going goes).samples p)))
    (measured_of m.slaves (peers_of m.slaves))

-- a peer leaves
pub MasterStands_leaves : (p : PeerId) (x : ℕ) (past : Past) (old new : Master) → Changes p leaves old.slaves new.slaves → peers_of new.slaves ≡
    peers_of old.slaves → new.rounds ≡ old.rounds → MasterStands past old → MasterStands (grown x past (Leave p ∷ [])) new
MasterStands_leaves p x past old new change ps rs h = MasterStands_changed p leaves (Leave p) x past old new refl (λ e j m. (refl, refl))
    (leaves_after p past x) change ps rs h

-- the entries of later peers stay
pub later_same : (ps : List PeerId) (n : ℕ) (p : PeerId) (first old new : List Entry) → IsAscending ps → get_or ps n p ≡ p →
    ((q : PeerId) → (q.0 ≡ p.0 → ⊥) → entry_of new q ≡ entry_of old q) →
    ((k : ℕ) (d : PeerId) → n ≤ k → k < length ps → entry_of old (get_or ps k d) ≡ entry_of first (get_or ps k d)) → (k : ℕ) (d : PeerId) → n + 1 ≤ k →
    k < length ps → entry_of new (get_or ps k d) ≡ entry_of first (get_or ps k d)
later_same ps n p first old new up here others same k d low high =
    let apart : p.0 < (get_or ps k p).0 = omega (arith, (Rise_peers ps up).at n k p (omega arith) high, ap (λ (t : PeerId). t.0) here) in
    let is : get_or ps k d ≡ get_or ps k p = get_or_default ps k d p high in
    others (get_or ps k d) (λ e. omega (arith, apart, ap (λ (t : PeerId). t.0) is, e)) ∙ same k d (omega arith) high

-- rows for equal values
pub corrects_with : {S T : Type 0} {P : Past → S → Type 0} {Q : Past → T → Type 0} {x : ℕ} {port : Port} {before : S} {after : T} {old new : List Placed}
    (mean : ℤ) (p : PeerId) {v w : RoundsValue} → v ≡ w →
    Performs P Q (corrects_peer mean (standing_with v p)) x port before after old new →
    Performs P Q (corrects_peer mean (standing_with w p)) x port before after old new
corrects_with {P = P} {Q = Q} {x = x} {port = port} {before = before} {after = after} {old = old} {new = new} mean p e d =
    subst (λ r. Performs P Q (corrects_peer mean (standing_with r p)) x port before after old new) e d

pub closes_same : {S T : Type 0} {P : Past → S → Type 0} {Q : Past → T → Type 0} {x : ℕ} {port : Port} {before : S} {after : T} {old new : List Placed}
    (own : Bool) {g h : Group} (round : List Standing) → g ≡ h →
    Performs P Q (closes_with own g round) x port before after old new → Performs P Q (closes_with own h round) x port before after old new
closes_same {P = P} {Q = Q} {x = x} {port = port} {before = before} {after = after} {old = old} {new = new} own round e d =
    subst (λ k. Performs P Q (closes_with own k round) x port before after old new) e d

pub each_same : {S T : Type 0} {P : Past → S → Type 0} {Q : Past → T → Type 0} {x : ℕ} {port : Port} {before : S} {after : T} {old new : List Placed} (mean : ℤ)
    {es fs : List Entry} {v w : RoundsValue} → es ≡ fs → v ≡ w →
    Performs P Q (for_each (corrects_peer mean) (round_of es v)) x port before after old new →
    Performs P Q (for_each (corrects_peer mean) (round_of fs w)) x port before after old new
each_same {P = P} {Q = Q} {x = x} {port = port} {before = before} {after = after} {old = old} {new = new} mean {fs = fs} {v = v} e f d =
    subst (λ r. Performs P Q (for_each (corrects_peer mean) (round_of fs r)) x port before after old new) f
    (subst (λ k. Performs P Q (for_each (corrects_peer mean) (round_of k v)) x port before after old new) e d)

-- the clock is moved, or stays
pub Performs_moves : (amount : ℤ) {x : ℕ} {port : Port} (m : Master) (st : Station) {clock moved : ClockValue} {old new : List Placed} →
    Performs ClockStands ClockStands (adjusts amount) x port clock moved old new →
    Performs LeadStands LeadStands (adjusts amount) x port (record { master = m; station = st; clock = clock }) (record {
      master = m;
      station = st;
      clock = moved;
    }) old new
unfolding adjusts puts
Performs_moves amount {x = x} m st d = Performs_part d (λ past h. h.clock) (λ past h s. record {
  master = MasterStands_aside (Correct amount (is_step amount) _) x past m m refl refl refl h.master.entries h.master.empty h.master;
  station = Stands_idle (Correct amount (is_step amount) _) refl x past st h.station;
  acted = h.acted;
  clock = s;
})

-- where Close is due and Probe isn't, no probe is to come
pub no_probe : (x : ℕ) (past : Past) (m : Master) → is_over (armed past.seen).probe x ≡ false → is_over (armed past.seen).close x ≡ true → MasterStands past m →
    (armed past.seen).probe ≡ None
no_probe x past m off due h = by_probe (armed past.seen).probe refl off where
  close : (at : ℕ) × ((armed past.seen).close ≡ Some at)
  close = over_some (armed past.seen).close x due

  low : close.0 ≤ x
  low = over_low (armed past.seen).close x close.0 due close.1

  by_probe : (o : Option ℕ) → (armed past.seen).probe ≡ o → is_over o x ≡ false → (armed past.seen).probe ≡ None
  by_probe None e f = e
  by_probe (Some at) e f =
      let p = h.probing at e in
      let early = p.2 close.0 close.1 in
      let over : nat_le at x ≡ true = le-leb at x (omega (arith, early, low, p.1)) in
      let bad : ⊥ = cc in
      absurd bad

peer_still : (mean : ℤ) (s : Standing) → Emits still_sorts (corrects_peer mean s)
unfolding corrects_peer
peer_still mean s = emits_built refl (built_corrects_by mean s.peer tt s.best (nothing_measured mean s.best))

-- a close corrects where the clock can be moved and the port leads it
pub corrects_closes : (own : Bool) (g : Group) (round : List Standing) (x : ℕ) (past : Past) (can : Bool) → can_adjust (mean_by own g) x past ≡ can →
    corrects (closes_with own g round x past) ≡ (can && own)
unfolding closes_with either_by puts ◌followed_by◌ abandons moves adjusts nothing
corrects_closes true g round x past true e = rw e refl
corrects_closes false g round x past true e =
    rw e (corrects_none (for_each (corrects_peer (pos 0)) round x _) ((Emits_each {sorts = still_sorts} (corrects_peer (pos 0)) round (peer_still (pos 0))).only
    x _))
corrects_closes own g round x past false e = rw e refl

-- a round goes on whose close is due
pub goes_where : (x : ℕ) (past : Past) → is_over (armed past.seen).close x ≡ true → is_going past.seen ≡ true
goes_where x past due = let close = over_some (armed past.seen).close x due in rw close.1 refl
