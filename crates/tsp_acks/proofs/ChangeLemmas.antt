-- Calls that change nothing but sends, one after the other.
use Rattle.std.proofs.Common.{◌∙◌}
use Rattle.tsp_acks.specs.{Changes.ChangesSends, declared.station.Station.Station}

pub ChangesSends_then : {first middle last : Station} → ChangesSends first middle → ChangesSends middle last → ChangesSends first last
ChangesSends_then a b = record {
  me = b.me ∙ a.me;
  role = b.role ∙ a.role;
  hold = b.hold ∙ a.hold;
  alarms = b.alarms ∙ a.alarms;
  backers = b.backers ∙ a.backers;
  peers = b.peers ∙ a.peers;
}
