-- What the clocks of some nodes show at one time, once their corrections are slewed.
use Rattle.std.specs.Prelude.{◌≡◌, ◌<◌, ℕ, ◌-◌, ◌*◌, ℤ, pos, ◌+ℤ◌, ◌-ℤ◌, Bool, List, length, get_or, MatchBool, Some}
use Rattle.tsp_audit.specs.{declared.round_correction.RoundCorrection.RoundCorrection, declared.round_correction.NodeState.NodeState}
use Rattle.tsp_audit.specs.{Agreeing.AllBounded, Agreeing.IsAtPlace, Agreeing.err_less, Agreeing.shown_by, declared.shown.Standing.Standing}
use Rattle.tsp_base.specs.Words.{HeaderValue, width}
use Rattle.tsp_history.specs.Clocks.{IsSumOf}

-- by how much a clock that a round corrected may be wrong at true time t: the error of the reading, less what is to
-- spare, and twice the drift since
abbrev pub reach_at : HeaderValue → ℕ → ℕ → RoundCorrection → ℤ
reach_at header t spare c = err_less spare c +ℤ pos (2 * width header.drift (t - c.at))

-- this is what the clock of node n, of which this is remembered, shows at true time t, and from where to where it may be
-- wrong with so much to spare, where a round corrected it
pub record StandsAs (header : HeaderValue) (t spare n : ℕ) (a : NodeState) (s : Standing) : Type 0 where
  pub clock_is : IsSumOf 4294967295 a.moved → s.clock ≡ shown_by header n a.moved t
  pub low_is : (c : RoundCorrection) → a.from_round ≡ Some c → s.low ≡ s.clock -ℤ reach_at header t spare c
  pub high_is : (c : RoundCorrection) → a.from_round ≡ Some c → s.high ≡ s.clock +ℤ reach_at header t spare c

-- the same of each node
abbrev pub AllStand : HeaderValue → ℕ → ℕ → List NodeState → List Standing → Type 0
AllStand header t spare states stand = (k : ℕ) (a : NodeState) (s : Standing) → IsAtPlace states k a → k < length stand →
    StandsAs header t spare k a (get_or stand k s)

-- whether a fact holds
abbrev pub IsWhether : Bool → Type 0 → Type 0
IsWhether b P = MatchBool b P (P → ⊥)

-- P holds of a schedule's header, a true time and what is to spare, where the clocks of these nodes stand so then, and
-- this is node n
abbrev pub OfNode : List NodeState → List Standing → ℕ → NodeState → (HeaderValue → ℕ → ℕ → Type 0) → Type 0
OfNode states stand n a P = (header : HeaderValue) (at spare : ℕ) → AllStand header at spare states stand → IsAtPlace states n a → AllBounded states →
    P header at spare

-- P holds of a header, a true time, what is to spare and the numbers of two nodes, of which this is remembered, where
-- their clocks stand so then
abbrev pub OfPair : NodeState → Standing → NodeState → Standing → (HeaderValue → ℕ → ℕ → ℕ → ℕ → Type 0) → Type 0
OfPair a own b other P =
    (header : HeaderValue) (at spare first second : ℕ) → StandsAs header at spare first a own → StandsAs header at spare second b other →
    IsSumOf 4294967295 a.moved → IsSumOf 4294967295 b.moved → P header at spare first second
