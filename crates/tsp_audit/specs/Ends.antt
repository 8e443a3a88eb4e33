-- Where the lines of each event end in a claimed history, of which the newest claim is the first.
use Rattle.std.specs.Prelude.{◌≡◌, ◌≤◌, ℕ, List, ◌∷◌, length, get_or}
use Rattle.tsp_base.specs.Words.{HeaderValue, Within}
use Rattle.tsp_promises.specs.Everywhere.{Everywhere}
use Rattle.tsp_claims.specs.{ClaimedHistory.Claim, ClaimedHistory.claimed, Listed.NamesNode}
use Rattle.tsp_run.specs.Run.{event_at}

-- each event stands at a true time of a schedule, at most 10^15 microseconds, and its node is one of so many
abbrev pub AreDated : ℕ → List Claim → Type 0
AreDated nodes = Everywhere (λ c before. (event_at c.event ≤ 1000000000000000) × NamesNode nodes c.event)

-- so many lines of the history stand up to the end of each event, which are given oldest first
pub record EndsAt (header : HeaderValue) (claims : List Claim) (ends : List ℕ) : Type 0 where
  pub many : length ends ≡ length claims
  pub end_is : (c : Claim) (before : List Claim) → Within (c ∷ before) claims → get_or ends (length before) 0 ≡ length (claimed header (c ∷ before))
