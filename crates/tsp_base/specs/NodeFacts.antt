-- Facts of a node, read off its deeds on all its ports. Each fact has a function that says, by cases of a deed, how that deed changes it.
use Rattle.std.specs.Prelude.{ℕ, ◌+◌, ◌-◌, ◌/◌, ◌%◌, ℤ, pos, negsuc, ◌+ℤ◌, ◌-ℤ◌, neg_ℤ, Bool, true, false, if◌then◌else◌, List, [], ◌∷◌, Option, None, Some}
use Rattle.tsp_base.specs.declared.act.Act.TheVariants.{Boot, Correct, Trace}
use Rattle.tsp_base.specs.{History.Cause, History.Booted, History.Deed, History.Acts, History.Did, declared.constants.TheConstants.SLEW}

-- the true time of the last deed
abbrev pub time_of : List Did → ℕ
time_of [] = 0
time_of (d ∷ before) = d.step.at

-- the tick of the last deed
abbrev pub tick_of : List Did → ℕ
tick_of [] = 0
tick_of (d ∷ before) = d.tick

abbrev pub up_after : Deed → Bool → Bool
up_after (Acts Boot) was = true
up_after _ was = was

-- whether the node has booted
abbrev pub up : List Did → Bool
up [] = false
up (d ∷ before) = up_after d.deed (up before)

abbrev pub lives_after : Deed → ℕ → ℕ
lives_after (Acts Boot) n = n + 1
lives_after _ n = n

-- how often the node has booted
abbrev pub lives : List Did → ℕ
lives [] = 0
lives (d ∷ before) = lives_after d.deed (lives before)

abbrev pub word_after : Deed → Cause → ℕ → ℕ
word_after (Acts Boot) (Booted word wall) was = word
word_after _ cause was = was

-- the word of the last boot
abbrev pub word : List Did → ℕ
word [] = 0
word (d ∷ before) = word_after d.deed d.step.cause (word before)

abbrev pub wall_after : Deed → Cause → ℤ → ℤ
wall_after (Acts Boot) (Booted word wall) was = wall
wall_after _ cause was = was

-- the wall clock at the last boot
abbrev pub wall : List Did → ℤ
wall [] = pos 0
wall (d ∷ before) = wall_after d.deed d.step.cause (wall before)

-- a number that each boot sets anew
abbrev pub boot_after : Deed → ℕ → ℕ → ℕ
boot_after (Acts Boot) new was = new
boot_after _ new was = was

-- the tick of the last boot
abbrev pub boot_tick : List Did → ℕ
boot_tick [] = 0
boot_tick (d ∷ before) = boot_after d.deed d.tick (boot_tick before)

-- the wall clock at the last boot less the tick then: a clock that is never corrected shows its ticks and this
abbrev pub base : List Did → ℤ
base ds = wall ds -ℤ pos (boot_tick ds)

abbrev pub corrects_after : Deed → ℕ → ℕ
corrects_after (Acts Boot) n = 0
corrects_after (Acts (Correct amount stepped shown)) n = n + 1
corrects_after _ n = n

-- the corrections since the boot
abbrev pub corrects : List Did → ℕ
corrects [] = 0
corrects (d ∷ before) = corrects_after d.deed (corrects before)

abbrev pub all_corrects_after : Deed → ℕ → ℕ
all_corrects_after (Acts (Correct amount stepped shown)) n = n + 1
all_corrects_after _ n = n

-- the corrections of all lives
abbrev pub all_corrects : List Did → ℕ
all_corrects [] = 0
all_corrects (d ∷ before) = all_corrects_after d.deed (all_corrects before)

-- the number that the next correction is to have
abbrev pub ticket : List Did → ℕ
ticket ds = (word ds + corrects ds) % 32768

abbrev pub moved_after : Deed → ℤ → ℤ
moved_after (Acts Boot) z = pos 0
moved_after (Acts (Correct amount stepped shown)) z = z +ℤ amount
moved_after _ z = z

-- the amounts of the corrections since the boot
abbrev pub moved : List Did → ℤ
moved [] = pos 0
moved (d ∷ before) = moved_after d.deed (moved before)

-- the clock's target at a tick: the wall clock at the boot, the ticks since, and the amounts of all corrections
abbrev pub target : List Did → ℕ → ℤ
target ds x = (base ds +ℤ moved ds) +ℤ pos x

abbrev pub last_correct_after : Deed → ℕ → ℕ → ℕ
last_correct_after (Acts Boot) x was = x
last_correct_after (Acts (Correct amount stepped shown)) x was = x
last_correct_after _ x was = was

-- the tick of the last correction since the boot, or of the boot where there was none
abbrev pub last_correct : List Did → ℕ
last_correct [] = 0
last_correct (d ∷ before) = last_correct_after d.deed d.tick (last_correct before)

abbrev pub correct_place_after : Deed → List Did → List Did → List Did
correct_place_after (Acts Boot) here was = []
correct_place_after (Acts (Correct amount stepped shown)) here was = here
correct_place_after _ here was = was

-- the place of the last correction since the boot: its line and the lines before it; empty where there was none
abbrev pub correct_place : List Did → List Did
correct_place [] = []
correct_place (d ∷ before) = correct_place_after d.deed (d ∷ before) (correct_place before)

abbrev pub tick_in : List Did → Option ℕ
tick_in [] = None
tick_in (d ∷ before) = Some d.tick

-- the tick of the last correction since the boot, if there was one
abbrev pub correct_tick : List Did → Option ℕ
correct_tick ds = tick_in (correct_place ds)

-- an amount, moved towards zero by n and not past it
abbrev pub eased : ℤ → ℕ → ℤ
eased (pos m) n = pos (m - n)
eased (negsuc m) n = neg_ℤ (pos (m + 1 - n))

abbrev pub rest_after : Deed → ℤ → ℤ → ℤ
rest_after (Acts Boot) left was = pos 0
rest_after (Acts (Correct amount stepped shown)) left was = if stepped then pos 0 else left +ℤ amount
rest_after _ left was = was

-- what is still to be slewed right after the last correction: none after a step, else what was left before it and its amount
abbrev pub rest : List Did → ℤ
rest [] = pos 0
rest (d ∷ before) = rest_after d.deed (eased (rest before) ((d.tick - last_correct before) / SLEW)) (rest before)

-- what is still to be slewed at a tick: a microsecond less for each 200 ticks since the last correction
abbrev pub rest_at : List Did → ℕ → ℤ
rest_at ds x = eased (rest ds) ((x - last_correct ds) / SLEW)

-- the value that the clock shows at a tick: the target less what is still to be slewed
abbrev pub shown : List Did → ℕ → ℤ
shown ds x = target ds x -ℤ rest_at ds x

abbrev pub tracing_after : Deed → Bool → Bool
tracing_after (Acts Boot) was = false
tracing_after (Acts (Trace on)) was = on
tracing_after _ was = was

-- whether the trace is on: what the last Trace since the boot says, and off before any
abbrev pub tracing : List Did → Bool
tracing [] = false
tracing (d ∷ before) = tracing_after d.deed (tracing before)
