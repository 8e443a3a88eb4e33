-- How one peer after the other is asked.
use Rattle.std.proofs.Common.{◌≡◌, ℕ, suc, ◌+◌, ◌%◌, ◌^◌, ◌<◌, ◌≤◌, ◌==◌, ◌&&◌, Bool, true, false, if◌then◌else◌, cond, List, [], ◌∷◌, ◌++◌, length, take}
use Rattle.std.proofs.Common.{get_or, eqb-true, ℤ, refl, sym, ◌∙◌, ap, subst, arith}
use Rattle.std.{proofs.Math.Seq.take-suc, proofs.lemmas.List.get_or_default, specs.List.filter}
use Rattle.tsp_rules.specs.Values.{Act, Post, Placed, Stamp, PeerId, Peer, Port, Request}
use Rattle.tsp_base.specs.Words.{Past, Seen, plain, target, word, Performs, in_table, asked, is_measured, is_starting, grown, placed, is_acknowledged}
use Rattle.tsp_base.specs.Words.{last_number, last_post, IsAscending}
use Rattle.tsp_rules.specs.{Guards.table_at, RoundRows.asks, RoundRows.measured_at}
use Rattle.tsp_base.proofs.{AscendingLemmas.Rise_peers, SendLemmas.seen_act}
use Rattle.tsp_acks.{proofs.StandsLemmas.Stands_stamp, specs.Stands.StationStands, specs.declared.station.Station.Station}
use Rattle.tsp_clock.specs.{ClockStands.ClockStands, Clocks.ClockValue, Clocks.target_of}
use Rattle.tsp_measure.specs.{Measures.begun, Rounds.RoundsValue, Rounds.Starts, Rounds.measured_with, declared.entry.Entry.Entry}
use Rattle.tsp_measure.specs.Slaves.{entry_of, peers_of, Changes, measures}
use Rattle.tsp_master.specs.MasterStands.{LeadStands, MasterStands, ProbesStands, StartsStands, entry_at}
use Rattle.tsp_master.specs.{Closing.measured_of, declared.master.Master.Master}
use Rattle.tsp_master.proofs.{RoundLemmas.MasterStands_asks, TableLemmas.EntriesAfter_changed, TableLemmas.target_is}

-- those of some peers that have joined
abbrev pub joined_of : List Entry → List PeerId → List PeerId
joined_of es ps = filter (λ (p : PeerId). (entry_of es p).joined) ps

-- one peer more of a filter, or none
pub filter_more : (test : PeerId → Bool) (ps : List PeerId) (p : PeerId) → test p ≡ true → filter test (ps ++ p ∷ []) ≡ filter test ps ++ p ∷ []
filter_more test [] p t = rw t refl
filter_more test (q ∷ ps) p t = by_test (test q) (filter_more test ps p t) where
  by_test : (b : Bool) → filter test (ps ++ p ∷ []) ≡ filter test ps ++ p ∷ [] → cond b (q ∷ filter test (ps ++ p ∷ [])) (filter test (ps ++ p ∷ [])) ≡
      cond b (q ∷ filter test ps) (filter test ps) ++ p ∷ []
  by_test true e = ap (λ qs. q ∷ qs) e
  by_test false e = e

pub filter_past : (test : PeerId → Bool) (ps : List PeerId) (p : PeerId) → test p ≡ false → filter test (ps ++ p ∷ []) ≡ filter test ps
filter_past test [] p t = rw t refl
filter_past test (q ∷ ps) p t = by_test (test q) (filter_past test ps p t) where
  by_test : (b : Bool) → filter test (ps ++ p ∷ []) ≡ filter test ps → cond b (q ∷ filter test (ps ++ p ∷ [])) (filter test (ps ++ p ∷ [])) ≡
      cond b (q ∷ filter test ps) (filter test ps)
  by_test true e = ap (λ qs. q ∷ qs) e
  by_test false e = e

pub filter_same : (test other : PeerId → Bool) → ((p : PeerId) → test p ≡ other p) → (ps : List PeerId) → filter test ps ≡ filter other ps
filter_same test other same [] = refl
filter_same test other same (p ∷ ps) = ap (λ b. cond b (p ∷ filter test ps) (filter test ps)) (same p) ∙
    ap (λ qs. cond (other p) (p ∷ qs) qs) (filter_same test other same ps)

-- what a post of a request is, as the station and the master have it
asks_is : (p : PeerId) (x : ℕ) (past : Past) (m : Master) (st : Station) → StationStands past st → MasterStands past m → asks p x past ≡
    Post (Peer p) (Stamp (Request st.me.word m.rounds.asked)) ∷ []
unfolding asks
asks_is p x past m st s h = ap (λ w. Post (Peer p) (Stamp (Request w (asked past.seen % 2 ^ 64))) ∷ []) (sym s.word) ∙
    ap (λ k. Post (Peer p) (Stamp (Request st.me.word k)) ∷ []) (sym h.asked_is)

-- the request that was begun, as the past has its word and the target
starts_is : (p : PeerId) (x : ℕ) (past : Past) (st : Station) (clock : ClockValue) (old new : RoundsValue) → StationStands past st → ClockStands past clock →
    Starts p st.me.word (target_of clock x) old new → Starts p (word (plain past.seen)) (target (plain past.seen) x) old new
starts_is p x past st clock old new s k starts =
    subst (λ t. Starts p (word (plain past.seen)) t old new) (sym (target_is x past clock k)) (subst (λ w. Starts p w (target_of clock x) old new) s.word
    starts)

abbrev asked_act : PeerId → Past → Act
asked_act p past = Post (Peer p) (Stamp (Request (word (plain past.seen)) (asked past.seen % 2 ^ 64)))

-- what stands after a request
lead_asks : (p : PeerId) (x : ℕ) (past : Past) (old new : Master) (st : Station) (clock : ClockValue) →
    LeadStands past (record { master = old; station = st; clock = clock }) → MasterStands (grown x past (asked_act p past ∷ [])) new →
    LeadStands (grown x past (asked_act p past ∷ [])) (record { master = new; station = st; clock = clock })
lead_asks p x past old new st clock h m = record {
  master = m;
  station = Stands_stamp (Peer p) (Request (word (plain past.seen)) (asked past.seen % 2 ^ 64)) x past st h.station;
  acted = h.acted;
  clock = record { offset_is = h.clock.offset_is; rest_is = h.clock.rest_is; at_is = h.clock.at_is; ticket_is = h.clock.ticket_is };
}

-- an entry with another mark
abbrev marked : PeerId → List Seen → Bool → Entry
marked q seen m = record {
  peer = q;
  joined = in_table q seen;
  measured = m;
  posted = last_post q seen;
  number = last_number q seen;
  acked = is_acknowledged q seen;
}

-- a measured peer stays measured
asks_measured : (p q : PeerId) (past : Past) (x : ℕ) → is_measured p past.seen ≡ true → entry_at q (seen_act past.step x (asked_act p past) ∷ past.seen) ≡
    entry_at q past.seen
asks_measured p q past x m = ap (marked q past.seen) (by_test (p.0 == q.0) (is_starting past.seen) refl) where
  by_test : (b s : Bool) → (p.0 == q.0) ≡ b → (if b && s then true else is_measured q past.seen) ≡ is_measured q past.seen
  by_test true true e = let it : p ≡ q = ap (λ n. record { 0 = n }) (eqb-true p.0 q.0 e) in sym m ∙ ap (λ t. is_measured t past.seen) it
  by_test true false e = refl
  by_test false s e = refl

-- a peer that is asked while a round begins is measured
asks_starting : (p q : PeerId) (past : Past) (x : ℕ) → is_starting past.seen ≡ true → entry_at q (seen_act past.step x (asked_act p past) ∷ past.seen) ≡
    (if p.0 == q.0 then measures (entry_at q past.seen) else entry_at q past.seen)
asks_starting p q past x s = ap (λ k. marked q past.seen (if (p.0 == q.0) && k then true else is_measured q past.seen)) s ∙ by_test (p.0 == q.0) where
  by_test : (b : Bool) → marked q past.seen (if b && true then true else is_measured q past.seen) ≡
      (if b then measures (entry_at q past.seen) else entry_at q past.seen)
  by_test true = refl
  by_test false = refl

-- a measured peer is asked at a probe
pub Performs_probes : (p : PeerId) {x : ℕ} {port : Port} (old new : Master) (st : Station) (clock : ClockValue) {earlier later : List Placed} →
    (entry_of old.slaves p).measured ≡ true → new.slaves ≡ old.slaves → Starts p st.me.word (target_of clock x) old.rounds new.rounds →
    later ≡ earlier ++ placed port (Post (Peer p) (Stamp (Request st.me.word old.rounds.asked)) ∷ []) →
    Performs (ProbesStands x) (ProbesStands x) (asks p) x port (record { master = old; station = st; clock = clock }) (record {
      master = new;
      station = st;
      clock = clock;
    }) earlier later
unfolding asks
Performs_probes p {x = x} {port = port} old new st clock {earlier = earlier} m ss starts put = record {
  acts = λ past h. put ∙ ap (λ acts. earlier ++ placed port acts) (sym (asks_is p x past old st h.stands.station h.stands.master));
  stands = λ past h.
      let same : (q : PeerId) → entry_at q (seen_act past.step x (asked_act p past) ∷ past.seen) ≡ entry_at q past.seen =
      λ q. asks_measured p q past x (ap (λ (e : Entry). e.measured) (sym (h.stands.master.entries p)) ∙ m) in
      record {
        stands = lead_asks p x past old new st clock h.stands (MasterStands_asks p x past old new h.goes (starts_is p x past st clock old.rounds new.rounds
            h.stands.station h.stands.clock starts) (ap peers_of ss)
            (λ q. ap (λ es. entry_of es q) ss ∙ h.stands.master.entries q ∙ sym (same q))
            (λ other q. let e = h.stands.master.empty other q in (ap (λ (k : Entry). k.joined) (same q) ∙ e.0, ap (λ (k : Entry). k.measured) (same q) ∙ e.1))
            h.stands.master);
        goes = h.goes;
        early = h.early;
      };
}

-- a slave is asked, and measured from now on, while a round begins
pub Performs_starts : (p : PeerId) {x : ℕ} {port : Port} (old new : Master) (st : Station) (clock : ClockValue) {earlier later : List Placed} →
    (entry_of old.slaves p).joined ≡ true → Changes p measures old.slaves new.slaves → peers_of new.slaves ≡ peers_of old.slaves →
    Starts p st.me.word (target_of clock x) old.rounds new.rounds → later ≡ earlier ++
    placed port (Post (Peer p) (Stamp (Request st.me.word old.rounds.asked)) ∷ []) →
    Performs StartsStands StartsStands (asks p) x port (record { master = old; station = st; clock = clock }) (record {
      master = new;
      station = st;
      clock = clock;
    }) earlier later
unfolding asks
Performs_starts p {x = x} {port = port} old new st clock {earlier = earlier} j change ps starts put = record {
  acts = λ past h. put ∙ ap (λ acts. earlier ++ placed port acts) (sym (asks_is p x past old st h.stands.station h.stands.master));
  stands = λ past h. record {
    stands = lead_asks p x past old new st clock h.stands (MasterStands_asks p x past old new h.goes (starts_is p x past st clock old.rounds new.rounds
        h.stands.station h.stands.clock starts) ps
        (EntriesAfter_changed p measures past x (asked_act p past) old new (λ q. asks_starting p q past x h.starts) change h.stands.master.entries)
        (λ other q. let none = (h.stands.master.empty other p).0 in let is : in_table p past.seen ≡
        true = ap (λ (e : Entry). e.joined) (sym (h.stands.master.entries p)) ∙ j in let bad : ⊥ = cc in absurd bad) h.stands.master);
    goes = h.goes;
    starts = h.starts;
  };
}

-- one peer more of those so far
pub take_more : (ps : List PeerId) (n : ℕ) (p : PeerId) → n < length ps → get_or ps n p ≡ p → take (n + 1) ps ≡ take n ps ++ p ∷ []
take_more ps n p h here = let one : n + 1 ≡ suc n = omega arith in ap (λ k. take k ps) one ∙ take-suc ps n p h ∙ ap (λ q. take n ps ++ q ∷ []) here

-- what is measured with later peers stays
pub later_few : (ps : List PeerId) (n most : ℕ) (p : PeerId) (old new : RoundsValue) (word : ℕ) (a : ℤ) → IsAscending ps → get_or ps n p ≡ p →
    Starts p word a old new → ((k : ℕ) (d : PeerId) → n ≤ k → k < length ps → begun (measured_with old (get_or ps k d)) ≤ most) →
    (k : ℕ) (d : PeerId) → n + 1 ≤ k → k < length ps → begun (measured_with new (get_or ps k d)) ≤ most
later_few ps n most p old new word a up here s few k d low high =
    let apart : p.0 < (get_or ps k p).0 = omega (arith, (Rise_peers ps up).at n k p (omega arith) high, ap (λ (t : PeerId). t.0) here) in
    let same : get_or ps k d ≡ get_or ps k p = get_or_default ps k d p high in
    let other : (get_or ps k d).0 ≡ p.0 → ⊥ = λ e. omega (arith, apart, ap (λ (t : PeerId). t.0) same, e) in
    rw (s.others (get_or ps k d) other) (few k d (omega arith) high)

-- the measured peers and the slaves, as the table has them
pub measured_is : (x : ℕ) (past : Past) (m : Master) → MasterStands past m → measured_at x past ≡ measured_of m.slaves (peers_of m.slaves)
measured_is x past m h =
    ap (filter (λ (p : PeerId). is_measured p past.seen)) (sym h.peers) ∙ filter_same (λ (p : PeerId). is_measured p past.seen)
    (λ (p : PeerId). (entry_of m.slaves p).measured) (λ p. ap (λ (e : Entry). e.measured) (sym (h.entries p))) (peers_of m.slaves)

pub joined_is : (x : ℕ) (past : Past) (m : Master) → MasterStands past m → table_at x past ≡ joined_of m.slaves (peers_of m.slaves)
joined_is x past m h =
    ap (filter (λ (p : PeerId). in_table p past.seen)) (sym h.peers) ∙ filter_same (λ (p : PeerId). in_table p past.seen)
    (λ (p : PeerId). (entry_of m.slaves p).joined) (λ p. ap (λ (e : Entry). e.joined) (sym (h.entries p))) (peers_of m.slaves)

-- who is a slave stays, whoever is measured
pub joined_kept : (p : PeerId) (old new : List Entry) → Changes p measures old new → (q : PeerId) → (entry_of new q).joined ≡ (entry_of old q).joined
joined_kept p old new change q = ap (λ (e : Entry). e.joined) (change q) ∙ by_test (p.0 == q.0) (entry_of old q) where
  by_test : (b : Bool) (e : Entry) → (if b then measures e else e).joined ≡ e.joined
  by_test true e = refl
  by_test false e = refl
