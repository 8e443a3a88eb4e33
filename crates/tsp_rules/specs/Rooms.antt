-- How much room a step takes.
use Rattle.std.specs.Prelude.{ℕ, ◌+◌, ◌*◌}

-- how many acts a step may put on a port with so many peers: 20 for each peer and 80 more by due sends and alarms, 3 for each peer and 24 more by the input,
-- and the rest is spare
abbrev pub room_for : ℕ → ℕ
room_for peers = 24 * peers + 256
