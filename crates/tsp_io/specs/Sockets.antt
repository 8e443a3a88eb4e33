-- What a socket waits for, and what it throws away.
use Rattle.std.specs.Prelude.{ℕ, ℤ, pos, List, ◌++◌, ◌+◌, ◌-◌, ◌<◌, ◌≤◌, max, Bool, false, nat_lt, None, Some, Option}
use Rattle.std.specs.Net.SockAddr.{family_and_port, in_storage}
use Rattle.tsp_io.specs.declared.addr.Addr.{Addr}

-- an address as the system gets it: the octets of C's `sockaddr_in` for IPv4, and zeros behind them
abbrev pub sockaddr_of : Addr → List ℕ
sockaddr_of addr = in_storage (family_and_port 2 addr.port ++ addr.ip)

-- the flags of a send that fails at once if there is no room, and raises no signal: MSG_DONTWAIT and MSG_NOSIGNAL
abbrev pub at_once : ℤ
at_once = pos 16448

-- a wait that is set for a receive of at most `wait` microseconds: at least one, not more than that, and less than a
-- millisecond below it
pub record IsWaitFor (wait set : ℕ) : Type 0 where
  pub positive : 0 < set
  pub within : set ≤ max wait 1
  pub near : wait ≤ set + 999

-- whether a receive that was to wait so long ended more than a second later than that after the last one had ended, in
-- microseconds; false if one of the two ends isn't known
abbrev pub is_late : Option ℕ → Option ℕ → ℕ → Bool
is_late (Some ended) (Some now) wait = nat_lt (wait + 1000000) (now - ended)
is_late None now wait = false
is_late (Some ended) None wait = false
