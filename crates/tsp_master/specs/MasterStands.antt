-- What a master's table, its rounds and its last corrections stand for.
use Rattle.std.specs.Prelude.{◌∷◌, ◌≡◌, ◌≢◌, ℕ, ◌+◌, ◌*◌, ◌%◌, ◌^◌, ◌<◌, ◌≤◌, true, false, List, None, Some}
use Rattle.std.specs.Option.{option_map}
use Rattle.tsp_rules.specs.Values.{PeerId, Master}
use Rattle.tsp_base.specs.Words.{Past, Seen, plain, correct_place, Within, role, acting, armed, in_table, Sampled, asked, best, exchange, is_going, is_measured}
use Rattle.tsp_base.specs.Words.{is_starting, probes, request_open, started, is_acknowledged, last_number, last_post}
use Rattle.tsp_acks.specs.{Stands.StationStands, declared.station.Station.Station}
use Rattle.tsp_clock.specs.{ClockStands.ClockStands, Clocks.ClockValue}
use Rattle.tsp_measure.specs.{Measures.best_of, Slaves.entry_of, Slaves.peers_of, declared.entry.Entry.Entry}
use Rattle.tsp_measure.specs.Rounds.{RoundsValue, measured_with, pending_at, timed_of}
use Rattle.tsp_master.specs.declared.master.Master.{Master as MasterStruct}

-- what the past comes to with a peer
abbrev pub entry_at : PeerId → List Seen → Entry
entry_at p seen = record {
  peer = p;
  joined = in_table p seen;
  measured = is_measured p seen;
  posted = last_post p seen;
  number = last_number p seen;
  acked = is_acknowledged p seen;
}

-- a sample is of an exchange whose request stands after this place
pub record IsOfRound (p : PeerId) (s : Sampled) (start : List Seen) : Type 0 where
  pub taken : Seen
  pub before : List Seen
  pub place_is : s.place ≡ taken ∷ before
  pub post : Seen
  pub older : List Seen
  pub exchange_is : exchange p s.counter before ≡ post ∷ older
  pub since : Within start older

-- the exchanges are those of the going round, and each was begun after its start
pub record RoundStands (seen : List Seen) (rounds : RoundsValue) : Type 0 where
  pub requests : (p : PeerId) (c : ℕ) → request_open p c seen ≡ pending_at c (measured_with rounds p).pending
  pub samples : (p : PeerId) → option_map timed_of (best p seen) ≡ best_of (measured_with rounds p).samples
  pub probes_is : rounds.probes ≡ probes seen
  pub opened : (p : PeerId) (c : ℕ) (post : Seen) (older : List Seen) → exchange p c seen ≡ post ∷ older → Within (started seen) older
  pub recent : (p : PeerId) (s : Sampled) → best p seen ≡ Some s → IsOfRound p s (started seen)

-- a probe that is to come at this tick is one of the three of the going round, and comes well before its close: each comes at most
-- PROBE and SLACK after the one before
abbrev pub IsProbing : ℕ → List Seen → Type 0
IsProbing at seen = (is_going seen ≡ true) × (probes seen < 3) × ((close : ℕ) → (armed seen).close ≡ Some close → at + 7000000 ≤ close + 2000000 * probes seen)

-- the master is what its port's past comes to, whatever the role: of the exchanges while a round goes on
pub record MasterStands (past : Past) (master : MasterStruct) : Type 0 where
  pub peers : peers_of master.slaves ≡ past.peers
  pub entries : (p : PeerId) → entry_of master.slaves p ≡ entry_at p past.seen
  pub asked_is : master.rounds.asked ≡ asked past.seen % 2 ^ 64
  pub going : is_going past.seen ≡ true → RoundStands past.seen master.rounds
  pub idle : is_going past.seen ≡ false → (p : PeerId) (c : ℕ) → request_open p c past.seen ≡ None
  pub probing : (at : ℕ) → (armed past.seen).probe ≡ Some at → IsProbing at past.seen
  pub empty : role past.seen ≢ Master → (p : PeerId) → (in_table p past.seen ≡ false) × (is_measured p past.seen ≡ false)

-- a master, its station and the clock
pub record LeadState : Type 0 where
  pub master : MasterStruct
  pub station : Station
  pub clock : ClockValue

-- these three
abbrev pub lead_of : MasterStruct → Station → ClockValue → LeadState
lead_of master station clock = record { master = master; station = station; clock = clock }

-- each of the three is what the past comes to, whether the step has acted or not
pub record RingStands (past : Past) (lead : LeadState) : Type 0 where
  pub master : MasterStands past lead.master
  pub station : StationStands past lead.station
  pub clock : ClockStands past lead.clock

-- the same, in a step that has acted
pub record LeadStands (past : Past) (lead : LeadState) : Type 0 where
  pub master : MasterStands past lead.master
  pub station : StationStands past lead.station
  pub acted : acting past.seen ≡ true
  pub clock : ClockStands past lead.clock

-- the same, while a round goes on
pub record GoingStands (past : Past) (lead : LeadState) : Type 0 where
  pub stands : LeadStands past lead
  pub goes : is_going past.seen ≡ true

-- the same, while a probe asks: the next one would still come well before the close
pub record ProbesStands (x : ℕ) (past : Past) (lead : LeadState) : Type 0 where
  pub stands : LeadStands past lead
  pub goes : is_going past.seen ≡ true
  pub early : (close : ℕ) → (armed past.seen).close ≡ Some close → x + 8000000 ≤ close + 2000000 * probes past.seen

-- the same, while a round begins
pub record StartsStands (past : Past) (lead : LeadState) : Type 0 where
  pub stands : LeadStands past lead
  pub goes : is_going past.seen ≡ true
  pub starts : is_starting past.seen ≡ true

-- a master and its station, whatever the port's role
pub record OwnState : Type 0 where
  pub master : MasterStruct
  pub station : Station

-- both are what the past comes to
pub record OwnStands (past : Past) (own : OwnState) : Type 0 where
  pub master : MasterStands past own.master
  pub station : StationStands past own.station

-- a sample is of an exchange whose request stands after the last Correct of the node
pub record IsSinceCorrect (p : PeerId) (s : Sampled) (seen : List Seen) : Type 0 where
  pub taken : Seen
  pub before : List Seen
  pub place_is : s.place ≡ taken ∷ before
  pub post : Seen
  pub older : List Seen
  pub exchange_is : exchange p s.counter before ≡ post ∷ older
  pub since : Within (correct_place (plain seen)) (plain older)

-- no Correct of the node stands after the start of the last round
abbrev pub IsLeftAlone : List Seen → Type 0
IsLeftAlone seen = Within (correct_place (plain seen)) (plain (started seen))
