-- What the beginning and the end of a round owe to their port's past.
use Rattle.std.specs.Prelude.{◌≡◌, ◌≤◌, ◌+◌, ℤ, true, List, ◌∷◌, map, filter}
use Rattle.tsp_rules.specs.Values.{Ring, CloseAlarm, PeerId, Master, CLOSE, ROUND, SLACK, SPAN}
use Rattle.tsp_base.specs.Words.{Acts, Did, Seen, Here, plain, role, is_going, is_measured, started, Setup, Undisturbed}
use Rattle.tsp_group.specs.Groups.{group_of, mean_of}
use Rattle.tsp_rules.specs.RoundRows.{estimates, standing}

-- the measured peers of a port with this setup, ascending
abbrev pub measured_peers : Setup → List Seen → List PeerId
measured_peers setup seen = filter (λ p. is_measured p seen) setup.peers

-- the estimates of the port's round, in microseconds: 0 for its own clock, and the diff of the best sample of each
-- measured peer, where its magnitude is less than FAR
abbrev pub estimates_at : Setup → List Seen → List ℤ
estimates_at setup seen = estimates (map (standing seen) (measured_peers setup seen))

-- the mean, rounded down, of the largest group of them: those from one of the values to SPAN above it
abbrev pub group_mean : Setup → List Seen → ℤ
group_mean setup seen = mean_of (group_of SPAN (estimates_at setup seen))

-- a round begins at least ROUND ticks after the last one that began on its port since the boot
pub record StartFits (here : Did) (before : List Seen) : Type 0 where
  pub spaced : (start : Did) (idle : List Seen) → started before ≡ Here start ∷ idle → start.tick + ROUND ≤ here.tick

-- a Close is a master's. It stands right after the Ring of the alarm Close, CLOSE ticks after the round began or up to
-- SLACK later; and since the round began the node neither booted nor corrected its clock
pub record CloseFits (here : Did) (before : List Seen) : Type 0 where
  pub leads : role before ≡ Master
  pub ring : Did
  pub past : List Seen
  pub is : before ≡ Here ring ∷ past
  pub rings : ring.deed ≡ Acts (Ring CloseAlarm)
  pub going : is_going past ≡ true
  pub start : Did
  pub idle : List Seen
  pub start_is : started before ≡ Here start ∷ idle
  pub over : start.tick + CLOSE ≤ here.tick
  pub soon : here.tick ≤ start.tick + (CLOSE + SLACK)
  pub undisturbed : Undisturbed (plain idle) (plain before)
