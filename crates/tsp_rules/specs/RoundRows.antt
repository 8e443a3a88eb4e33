-- A master's rounds: what it asks, what it learns, and how it closes.
use Rattle.std.specs.Prelude.{ℕ, ◌%◌, ◌^◌, ◌==◌, nat_lt, nat_abs, ℤ, pos, ◌-ℤ◌, int_lt, Bool, true, false, ◌||◌, if◌then◌else◌, List, [], ◌∷◌, ◌++◌, map}
use Rattle.std.specs.Prelude.{filter, Option, None, Some}
use Rattle.tsp_rules.specs.Values.{Act, Post, Ring, Late, Abandon, Close, Correct, Sample, Leave, Round, Probe, CloseAlarm, Stamp, MasterUp, PeerId, Peer}
use Rattle.tsp_rules.specs.Values.{Request, CLOSE, FAR, PROBE, ROUND, SPAN, WAIT}
use Rattle.tsp_base.specs.Words.{Past, Seen, plain, word, Estimate, OpenRequest, asked, estimate, is_measured, probes, request_open, Row, grown, nothing, puts}
use Rattle.tsp_base.specs.Words.{◌followed_by◌, either_by, reading, for_each, arms, posts_to_others, ReplyValue, sample_diff, sample_err}
use Rattle.tsp_rules.specs.{ClockRows.can_adjust, ClockRows.adjusts, SendRows.begins_adjtime, SendRows.begins_settime}
use Rattle.tsp_group.specs.{Groups.group_of, Groups.mean_of, declared.group.Group.Group}
use Rattle.tsp_rules.specs.Guards.{is_going_at, is_in_time, target_at, table_at}

-- a stamp request to p: the node's word, and a counter that counts the port's requests
unfoldable pub asks : PeerId → Row
asks p x past = Post (Peer p) (Stamp (Request (word (plain past.seen)) (asked past.seen % 2 ^ 64))) ∷ []

-- a stamp request to each slave, ascending
unfoldable pub asks_slaves : Row
asks_slaves = reading table_at (for_each asks)

-- a round begins, and the alarm of the next one is armed
unfoldable pub round_begins : Row
round_begins = arms Round ROUND followed_by (arms Probe PROBE followed_by (arms CloseAlarm CLOSE followed_by
    (posts_to_others MasterUp 0 followed_by asks_slaves)))

-- a round begins, unless it has to wait for that of another port of the node
unfoldable pub begins_or_waits : Bool → Row
begins_or_waits true = arms Round WAIT
begins_or_waits false = round_begins

unfoldable pub round_rings : Bool → Row
round_rings wait = either_by (is_in_time Round) (puts (Ring Round) followed_by begins_or_waits wait) (puts (Late Round) followed_by arms Round ROUND)

-- the measured peers, ascending
abbrev pub measured_at : ℕ → Past → List PeerId
measured_at x past = filter (λ p. is_measured p past.seen) past.peers

-- a stamp request to each measured peer, ascending
unfoldable pub asks_measured : Row
asks_measured = reading measured_at (for_each asks)

-- whether this was not yet the round's last probe
abbrev pub has_more : ℕ → Past → Bool
has_more x past = nat_lt (probes past.seen) 3

unfoldable pub arms_next : Row
arms_next = either_by has_more (arms Probe PROBE) nothing

-- the round is given up
unfoldable pub abandons : Row
abandons = puts Abandon

unfoldable pub probe_rings : Row
probe_rings = either_by (is_in_time Probe) (puts (Ring Probe) followed_by (asks_measured followed_by arms_next)) (puts (Late Probe) followed_by abandons)

abbrev pub request_at : PeerId → ℕ → ℕ → Past → Option OpenRequest
request_at p counter x past = request_open p counter past.seen

-- the sample that a reply gives: the clock's target was the first value when its request was posted, and is the second now
abbrev pub sample_of : PeerId → ReplyValue → ℤ → ℤ → Act
sample_of p r a d = Sample p r.counter (sample_diff a r.reading d) (sample_err a d) r.ticket

unfoldable pub samples_request : PeerId → ReplyValue → Option OpenRequest → Row
samples_request p r None = nothing
samples_request p r (Some q) = if q.word == r.word then reading target_at (λ d. puts (sample_of p r q.target d)) else nothing

-- a stamp reply of p gives a sample, where it answers an open exchange
unfoldable pub samples : PeerId → ReplyValue → Row
samples p r = reading (request_at p r.counter) (samples_request p r)

-- a measured peer and what its best sample says
pub record Standing : Type 0 where
  pub peer : PeerId
  pub best : Option Estimate

abbrev pub standing : List Seen → PeerId → Standing
standing seen p = record { peer = p; best = estimate p seen }

-- the result of a round: each measured peer with its best sample, ascending
abbrev pub round_at : ℕ → Past → List Standing
round_at x past = map (standing past.seen) (measured_at x past)

-- whether a difference is averaged
abbrev pub is_near : ℤ → Bool
is_near diff = int_lt (pos (nat_abs diff)) FAR

abbrev pub diff_before : Option Estimate → List ℤ → List ℤ
diff_before None diffs = diffs
diff_before (Some b) diffs = if is_near b.diff then b.diff ∷ diffs else diffs

-- the differences that are averaged
abbrev pub near_diffs : List Standing → List ℤ
near_diffs [] = []
near_diffs (s ∷ rest) = diff_before s.best (near_diffs rest)

-- the estimates of a round: 0 for the own clock, and the differences of the others
abbrev pub estimates : List Standing → List ℤ
estimates round = pos 0 ∷ near_diffs round

unfoldable pub corrects_by : ℤ → PeerId → Option Estimate → Row
corrects_by mean p None = puts (Leave p)
corrects_by mean p (Some b) = if is_near b.diff then begins_adjtime p b.ticket (mean -ℤ b.diff) else begins_settime p b.ticket

-- a measured peer is corrected, or leaves where it never answered
unfoldable pub corrects_peer : ℤ → Standing → Row
corrects_peer mean s = corrects_by mean s.peer s.best

-- the mean by which a close corrects: the group's, or 0 where another port of the node leads its clock
abbrev pub mean_by : Bool → Group → ℤ
mean_by true g = mean_of g
mean_by false g = pos 0

-- the group's act, with that mean
abbrev pub close_act : Bool → Group → Act
close_act own g = Close g.count g.lo g.width (mean_by own g)

-- the own clock is moved, where this port leads it
unfoldable pub moves : Bool → ℤ → Row
moves true mean = adjusts mean
moves false mean = nothing

-- the round closes with this group: the own clock is moved by the mean, and then each measured peer is corrected, ascending
unfoldable pub closes_with : Bool → Group → List Standing → Row
closes_with own g round = either_by (can_adjust (mean_by own g))
    (puts (close_act own g) followed_by (moves own (mean_by own g) followed_by for_each (corrects_peer (mean_by own g)) round))
    abandons

unfoldable pub closes : Bool → List Standing → Row
closes own round = puts (Ring CloseAlarm) followed_by closes_with own (group_of SPAN (estimates round)) round

-- a round's Close: the result of the round is taken before the first act
unfoldable pub close_rings : Bool → Row
close_rings own = either_by (is_in_time CloseAlarm) (reading round_at (closes own)) (puts (Late CloseAlarm) followed_by abandons)

-- the round is given up, where one goes on
unfoldable pub abandons_going : Row
abandons_going = either_by is_going_at abandons nothing

-- whether an act corrects the clock
abbrev pub is_correct : Act → Bool
is_correct (Correct amount stepped shown) = true
is_correct _ = false

-- whether acts correct the clock
abbrev pub corrects : List Act → Bool
corrects [] = false
corrects (a ∷ rest) = is_correct a || corrects rest

-- a row; where it has corrected the clock, the port's own round is then given up
unfoldable pub upsetting : Row → Row
upsetting r x past = r x past ++ (if corrects (r x past) then abandons_going x (grown x past (r x past)) else [])
