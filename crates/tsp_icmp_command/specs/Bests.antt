-- Each clock's best difference, their group, and the corrections to its mean.
use Rattle.std.specs.Prelude.{◌≡◌, ◌<◌, ◌≤◌, ℕ, ◌-◌, ℤ, pos, ◌*ℤ◌, ◌-ℤ◌, List, [], ◌∷◌, ◌++◌, Bool, true, not, ◌&&◌, nat_lt, if◌then◌else◌, map, flat_map}
use Rattle.std.specs.Prelude.{decimal, codes, Option, None, Some}
use Rattle.std.specs.List.{All, filter, filter_map, fold}
use Rattle.std.specs.{Fmt.signed_decimal, Str.bytes_eq}
use Rattle.tsp_group.specs.{Groups.group_of, Groups.mean_of, declared.group.Group.Group}
use Rattle.tsp_lines.specs.Lines.{close}
use Rattle.tsp_script.specs.Texts.{space}
use Rattle.tsp_icmp_command.specs.{Findings.finding_of, declared.exchange.Exchange.Exchange, declared.finding.Finding.Finding}
use Rattle.tsp_icmp_command.specs.declared.finding.Finding.TheVariants.{Unlike, NoTime, Late, Apart}

-- a clock's difference in milliseconds, and the round trip that it took
pub record BestValue : Type 0 where
  pub name : List ℕ
  pub diff : ℤ
  pub trip : ℕ

-- two differences are of one clock
abbrev pub is_same_clock : BestValue → BestValue → Bool
is_same_clock a b = bytes_eq a.name b.name

-- of two differences of one clock the one with the shorter round trip, and the earlier where they are equal; of different clocks the earlier
abbrev pub of_shorter_trip : BestValue → BestValue → BestValue
of_shorter_trip earlier later = if is_same_clock earlier later && nat_lt later.trip earlier.trip then later else earlier

-- each clock's difference with the shortest round trip, the first of them, in the order of the clocks' first differences
abbrev pub bests : List BestValue → List BestValue
bests [] = []
bests (first ∷ later) = fold of_shorter_trip first later ∷ filter (λ b. not (is_same_clock first b)) (bests later)

-- the clock's earlier differences took a longer round trip, and its later ones one at least as long
pub record IsBestDifference (all : List BestValue) (b : BestValue) : Type 0 where
  pub earlier : List BestValue
  pub later : List BestValue
  pub whole : all ≡ earlier ++ b ∷ later
  pub first : All (λ m. is_same_clock b m ≡ true → b.trip < m.trip) earlier
  pub least : All (λ m. is_same_clock b m ≡ true → b.trip ≤ m.trip) later

-- the best so far, with one more difference
abbrev pub note : List BestValue → BestValue → List BestValue
note [] later = later ∷ []
note (b ∷ all) later = if is_same_clock b later then of_shorter_trip b later ∷ all else b ∷ note all later

-- the difference that a finding gives
abbrev pub difference_in : List ℕ → Finding → Option BestValue
difference_in name Unlike = None
difference_in name NoTime = None
difference_in name Late = None
difference_in name (Apart a) = Some (record { name = name; diff = a.diff; trip = a.trip })

-- the differences that exchanges give
abbrev pub differences : List Exchange → List BestValue
differences exchanges = filter_map (λ e. difference_in e.name (finding_of e)) exchanges

-- the difference that one more exchange gives, if it gives one, beside the best so far
abbrev pub with_difference : List BestValue → Option BestValue → List BestValue
with_difference all None = all
with_difference all (Some later) = note all later

-- a difference in microseconds
abbrev pub micros_of : BestValue → ℤ
micros_of b = pos 1000 *ℤ b.diff

-- the largest group of the own clock, whose difference is 0, and of these, within 20,000 microseconds
abbrev pub group_in : List BestValue → Group
group_in all = group_of 20000 (pos 0 ∷ map micros_of all)

-- the line of a group
abbrev pub group_line : Group → List ℕ
group_line g = codes "group " ++ decimal g.count ++ space ++ signed_decimal g.lo ++ space ++ signed_decimal g.width ++ space ++ signed_decimal (mean_of g)

-- the line of the correction that takes a clock to the mean
abbrev pub correct_line : ℤ → BestValue → List ℕ
correct_line mean b = codes "correct " ++ b.name ++ space ++ signed_decimal (mean -ℤ micros_of b)

-- the best of each clock so far, and how many more lines are allowed
pub record TallyValue : Type 0 where
  pub bests : List BestValue
  pub left : ℕ

-- the tally after one exchange more
abbrev pub tally_with : TallyValue → Exchange → TallyValue
tally_with t e = record { bests = with_difference t.bests (difference_in e.name (finding_of e)); left = t.left - 1 }

-- the lines of the corrections to a mean
abbrev pub corrections : ℤ → List BestValue → List ℕ
corrections mean all = flat_map (λ b. close (correct_line mean b)) all

-- the lines of a group and of the corrections to its mean
abbrev pub summary_of : Group → List BestValue → List ℕ
summary_of g all = close (group_line g) ++ corrections (mean_of g) all

-- the lines of the group of these, and of the corrections to its mean
abbrev pub group_lines : List BestValue → List ℕ
group_lines all = summary_of (group_in all) all
