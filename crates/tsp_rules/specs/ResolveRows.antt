-- How a master finds its rivals and sends them away.
use Rattle.std.specs.Prelude.{ℕ, Bool, not, ◌&&◌}
use Rattle.tsp_rules.specs.Values.{Ring, Late, Rival, ResolveAlarm, QuitKind, ResolveKind, PeerId, WINDOW}
use Rattle.tsp_rules.specs.{SendRows.begins, Guards.is_in_time, Guards.is_armed, Guards.is_rival_at, Guards.rivals_at}
use Rattle.tsp_base.specs.Words.{Past, Row, nothing, puts, ◌followed_by◌, either_by, reading, for_each, arms, posts_to_others}

-- a master asks all peers who else is master, unless it is asking already
unfoldable pub resolves : Row
resolves = either_by (is_armed ResolveAlarm) nothing (arms ResolveAlarm WINDOW followed_by posts_to_others ResolveKind 0)

abbrev pub is_new_rival : PeerId → ℕ → Past → Bool
is_new_rival p x past = is_armed ResolveAlarm x past && not (is_rival_at p x past)

-- p answers that it is a master
unfoldable pub finds_rival : PeerId → Row
finds_rival p = either_by (is_new_rival p) (puts (Rival p)) nothing

-- a QUIT begins to each rival, ascending
unfoldable pub quits_rivals : Row
quits_rivals = reading rivals_at (for_each (begins QuitKind))

-- the time for answers is over
unfoldable pub resolve_rings : Row
resolve_rings = either_by (is_in_time ResolveAlarm) (puts (Ring ResolveAlarm) followed_by quits_rivals) (puts (Late ResolveAlarm))
