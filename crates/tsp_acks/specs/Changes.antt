-- What a call leaves unchanged.
use Rattle.std.specs.Prelude.{◌≡◌}
use Rattle.tsp_acks.specs.declared.station.Station.{Station}

-- who the node is here and its peers are unchanged
pub record IsSamePort (before after : Station) : Type 0 where
  pub me : after.me ≡ before.me
  pub peers : after.peers ≡ before.peers

-- everything but the open sends and their count is unchanged
pub record ChangesSends (before after : Station) : Type 0 where
  pub me : after.me ≡ before.me
  pub role : after.role ≡ before.role
  pub hold : after.hold ≡ before.hold
  pub alarms : after.alarms ≡ before.alarms
  pub backers : after.backers ≡ before.backers
  pub peers : after.peers ≡ before.peers
