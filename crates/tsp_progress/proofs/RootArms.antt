-- What a change of the role, and an alarm that one role arms, make of such a port.
use Rattle.std.proofs.Common.{◌≡◌, ℕ, Bool, true, List, [], ◌∷◌}
use Rattle.tsp_rules.specs.Values.{Become, Arm, Quiet, Search, Elect, Window, ResolveAlarm, Round}
use Rattle.tsp_rules.specs.Values.{Role, Follow}
use Rattle.tsp_base.specs.Words.{Acts, Did, Past, Seen, grown, role}
use Rattle.tsp_rules.specs.{CommonRows.is_idle, Guards.is_master, Guards.is_starting_role}
use Rattle.tsp_progress.specs.{Calling.CallFits, Calling.TookSome, Calling.is_call, Heeds.is_loose}
use Rattle.tsp_progress.specs.{AlarmsFit.is_candidate}
use Rattle.tsp_progress.proofs.RootState.{In, RootEnd, Rooted, Waits}
use Rattle.tsp_progress.proofs.RootState.{none_armed}

-- who follows p was called by it
abbrev pub Follows : Role → List Seen → Type 0
Follows (Follow p) before = TookSome is_call p before
Follows _ before = Unit {0}

calls_of : (r : Role) (before : List Seen) → Follows r before → (d : Did) → CallFits (Acts (Become r)) d before
calls_of (Follow p) before h d = h
calls_of _ before h d = tt

-- a change of the role
pub becomes : (ok : Role → Bool) (r : Role) → ok r ≡ true → (x : ℕ) (past : Past) → Rooted past.seen → RootEnd (role past.seen) r past.seen →
    Follows r past.seen → In ok x (grown x past (Become r ∷ []))
becomes ok r e x past h d called = (
  record {
    owed = (d, h.owed);
    calls = (calls_of r past.seen called _, h.calls);
    quiet = λ a. none_armed a;
    search = λ a. none_armed a;
    elect = λ a. none_armed a;
    window = λ a. none_armed a;
    resolve = λ a. none_armed a;
    round = λ a. none_armed a;
    sends = λ p s. none_armed s;
    asks = λ p s. none_armed s;
  },
  e,
)

-- alarms that one role arms

pub arm_quiet : (at x : ℕ) (past : Past) → In is_starting_role x past → In is_starting_role x (grown x past (Arm Quiet at ∷ []))
arm_quiet at x past h = let k = h.0 in (
  record {
    owed = (tt, k.owed);
    calls = (tt, k.calls);
    quiet = λ a. h.1;
    search = k.search;
    elect = k.elect;
    window = k.window;
    resolve = k.resolve;
    round = k.round;
    sends = k.sends;
    asks = k.asks;
  },
  h.1,
)

pub arm_search : (at x : ℕ) (past : Past) → In is_loose x past → In is_loose x (grown x past (Arm Search at ∷ []))
arm_search at x past h = let k = h.0 in (
  record {
    owed = (tt, k.owed);
    calls = (tt, k.calls);
    quiet = k.quiet;
    search = λ a. h.1;
    elect = k.elect;
    window = k.window;
    resolve = k.resolve;
    round = k.round;
    sends = k.sends;
    asks = k.asks;
  },
  h.1,
)

pub arm_elect : (at x : ℕ) (past : Past) → In is_idle x past → Waits x past → In is_idle x (grown x past (Arm Elect at ∷ []))
arm_elect at x past h waits = let k = h.0 in (
  record {
    owed = (tt, k.owed);
    calls = (waits, k.calls);
    quiet = k.quiet;
    search = k.search;
    elect = λ a. h.1;
    window = k.window;
    resolve = k.resolve;
    round = k.round;
    sends = k.sends;
    asks = k.asks;
  },
  h.1,
)

pub arm_window : (at x : ℕ) (past : Past) → In is_candidate x past → In is_candidate x (grown x past (Arm Window at ∷ []))
arm_window at x past h = let k = h.0 in (
  record {
    owed = (tt, k.owed);
    calls = (tt, k.calls);
    quiet = k.quiet;
    search = k.search;
    elect = k.elect;
    window = λ a. h.1;
    resolve = k.resolve;
    round = k.round;
    sends = k.sends;
    asks = k.asks;
  },
  h.1,
)

pub arm_resolve : (at x : ℕ) (past : Past) → In is_master x past → In is_master x (grown x past (Arm ResolveAlarm at ∷ []))
arm_resolve at x past h = let k = h.0 in (
  record {
    owed = (tt, k.owed);
    calls = (tt, k.calls);
    quiet = k.quiet;
    search = k.search;
    elect = k.elect;
    window = k.window;
    resolve = λ a. h.1;
    round = k.round;
    sends = k.sends;
    asks = k.asks;
  },
  h.1,
)

pub arm_round : (at x : ℕ) (past : Past) → In is_master x past → In is_master x (grown x past (Arm Round at ∷ []))
arm_round at x past h = let k = h.0 in (
  record {
    owed = (tt, k.owed);
    calls = (tt, k.calls);
    quiet = k.quiet;
    search = k.search;
    elect = k.elect;
    window = k.window;
    resolve = k.resolve;
    round = λ a. h.1;
    sends = k.sends;
    asks = k.asks;
  },
  h.1,
)
