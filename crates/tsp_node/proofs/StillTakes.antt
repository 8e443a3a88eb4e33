-- What a port takes that never corrects its clock, and what stands where something was taken.
use Rattle.std.proofs.Common.{◌∙◌, ap, ◌≡◌, List, [], ◌∷◌, Some, refl}
use Rattle.tsp_rules.specs.Values.{Message, Good, Ack, PeerId, Place, Peer, Stranger, Role, Starting}
use Rattle.tsp_base.specs.Words.{Past, MessageValue, Received, Row, nothing, taken, reading}
use Rattle.tsp_rules.specs.{Answers.from_peer, Answers.peer_says, Answers.says_in, Guards.is_heard, Guards.role_at}
use Rattle.tsp_rules.proofs.Emits.{Sort, Acking, Emits, Emits_either, Emits_nothing, Emits_reading}
use Rattle.tsp_slave.specs.SlaveStands.{IsMessageFrom, SlaveStands, slave}
use Rattle.tsp_date.specs.DateStands.{DateStands, date_state}
use Rattle.tsp_rules.proofs.{BuiltShared.built_acknowledges, EmitsBuilt.emits_built}
use Rattle.tsp_node.{proofs.HearLemmas.says_ack, specs.NodeStands.PortTook, specs.NodeStands.PortValue}

peer_emits : {sorts : List Sort} (from : Place) (row : PeerId → Row) → ((p : PeerId) → Emits sorts (row p)) → Emits sorts (from_peer from row)
unfolding from_peer
peer_emits (Peer p) row k = Emits_either (is_heard p) (row p) nothing (k p) Emits_nothing
peer_emits Stranger row k = Emits_nothing

ack_in : (p : PeerId) (m : MessageValue) (r : Role) → m.kind ≡ Ack → Emits (Acking ∷ []) (says_in p m r)
unfolding says_in
ack_in p m Starting e = Emits_nothing
ack_in p m r e = rw (says_ack p m r e refl) (emits_built refl (built_acknowledges p m.number tt))

-- an ACK
pub emits_ack : (from : Place) (m : MessageValue) → m.kind ≡ Ack → Emits (Acking ∷ []) (from_peer from (peer_says m))
unfolding peer_says
emits_ack from m e = peer_emits from (λ p. reading role_at (says_in p m)) (λ p. Emits_reading role_at (says_in p m) (λ r. ack_in p m r e))

-- what the port's slave has, where this was taken
pub took_slave : (r : Received) (past : Past) (v : PortValue) → PortTook r past v → SlaveStands past (slave v.station v.last v.clock (taken past.seen))
took_slave r past v h = record { station = h.stands.station; last = h.stands.last; clock = h.stands.clock; took = refl }

-- and its dates
pub took_dates : (r : Received) (past : Past) (v : PortValue) → PortTook r past v →
    DateStands past (date_state v.dates v.master v.station v.last v.clock (taken past.seen))
took_dates r past v h = record {
  dates = h.stands.dates;
  master = h.stands.master;
  station = h.stands.station;
  last = h.stands.last;
  clock = h.stands.clock;
  took = refl;
}

-- who sent the message that was taken
pub took_of : (from : Place) (p : PeerId) (m : MessageValue) (past : Past) (v : PortValue) → from ≡ Peer p →
    PortTook (record { from = from; taken = Good (Message m) }) past v → IsMessageFrom p m (taken past.seen)
took_of from p m past v is h = h.took ∙ ap (λ f. Some (record { from = f; taken = Good (Message m) })) is
