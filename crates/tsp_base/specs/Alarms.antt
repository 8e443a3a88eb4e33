-- The alarms of a port: the word of each, and what it is armed for.
use Rattle.std.specs.Prelude.{ℕ, List, Option, None, Some, min, codes, get_or}
use Rattle.tsp_base.specs.declared.alarm.Alarm.{Alarm}
use Rattle.tsp_base.specs.declared.alarm.Alarm.TheVariants.{Quiet, Search, Elect, Window, Probe, Close, Resolve, Round}

-- the word of an alarm
abbrev pub alarm_word : Alarm → List ℕ
alarm_word Quiet = codes "quiet"
alarm_word Search = codes "search"
alarm_word Elect = codes "elect"
alarm_word Window = codes "window"
alarm_word Probe = codes "probe"
alarm_word Close = codes "close"
alarm_word Resolve = codes "resolve"
alarm_word Round = codes "round"

-- what each alarm is armed for
pub record Deadlines : Type 0 where
  pub quiet : Option ℕ
  pub search : Option ℕ
  pub elect : Option ℕ
  pub window : Option ℕ
  pub probe : Option ℕ
  pub close : Option ℕ
  pub resolve : Option ℕ
  pub round : Option ℕ

-- the deadlines in an array of them, by alarm
abbrev pub deadlines_in : List (Option ℕ) → Deadlines
deadlines_in xs = record {
  quiet = get_or xs 0 None;
  search = get_or xs 1 None;
  elect = get_or xs 2 None;
  window = get_or xs 3 None;
  probe = get_or xs 4 None;
  close = get_or xs 5 None;
  resolve = get_or xs 6 None;
  round = get_or xs 7 None;
}

-- what one alarm is armed for
abbrev pub deadline : Deadlines → Alarm → Option ℕ
deadline d Quiet = d.quiet
deadline d Search = d.search
deadline d Elect = d.elect
deadline d Window = d.window
deadline d Probe = d.probe
deadline d Close = d.close
deadline d Resolve = d.resolve
deadline d Round = d.round

-- the deadlines with another one for this alarm
abbrev pub with_deadline : Deadlines → Alarm → Option ℕ → Deadlines
with_deadline d Quiet at = record d { quiet = at }
with_deadline d Search at = record d { search = at }
with_deadline d Elect at = record d { elect = at }
with_deadline d Window at = record d { window = at }
with_deadline d Probe at = record d { probe = at }
with_deadline d Close at = record d { close = at }
with_deadline d Resolve at = record d { resolve = at }
with_deadline d Round at = record d { round = at }

-- no alarm is armed
abbrev pub none_armed : Deadlines
none_armed =
    record { quiet = None; search = None; elect = None; window = None; probe = None; close = None; resolve = None; round = None }

-- the earlier of two deadlines, of which either may be missing
abbrev pub earlier : Option ℕ → Option ℕ → Option ℕ
earlier None b = b
earlier (Some x) None = Some x
earlier (Some x) (Some y) = Some (min x y)

-- the earliest of all deadlines
abbrev pub least_deadline : Deadlines → Option ℕ
least_deadline d =
    earlier (earlier (earlier d.quiet d.search) (earlier d.elect d.window)) (earlier (earlier d.probe d.close) (earlier d.resolve d.round))
