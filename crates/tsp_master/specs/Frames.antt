-- What the contracts of a master's calls share.
use Rattle.std.specs.Prelude.{◌≡◌, ◌≤◌, ℕ, length}
use Rattle.tsp_rules.specs.Values.{PeerId}
use Rattle.tsp_acks.specs.Calls.{Contains, IsTick}
use Rattle.tsp_measure.specs.Slaves.{entry_of, peers_of}
use Rattle.tsp_master.specs.{MasterStands.LeadState, declared.master.Master.Master}

-- how many peers a master has
abbrev pub peer_count : Master → ℕ
peer_count m = length (peers_of m.slaves)

-- a master may send something to a peer at a tick: the clock was set no later, and the peer is one of the port's, which the table has
pub record MayServe (p : PeerId) (x : ℕ) (lead : LeadState) : Type 0 where
  pub tick : IsTick x
  pub later : lead.clock.at ≤ x
  pub same : peers_of lead.master.slaves ≡ lead.station.peers
  pub peer : Contains lead.station.peers p

-- only what the table has of this peer may change
pub record ChangesOnly (p : PeerId) (old new : Master) : Type 0 where
  pub peers : peers_of new.slaves ≡ peers_of old.slaves
  pub rounds : new.rounds ≡ old.rounds
  pub others : (q : PeerId) → (q.0 ≡ p.0 → ⊥) → entry_of new.slaves q ≡ entry_of old.slaves q
