-- What is told of a link and a ticker before a call and after it.
use Rattle.std.specs.Prelude.{◌≡◌, ◌≤◌, ℕ, List, Option, Some}
use Rattle.tsp_io.specs.{Links.Arrival, Links.Tried, declared.link.Link.Ghosts as LinkOf, declared.ticker.Ticker.Ghosts as TickerOf}
use Rattle.tsp_query.specs.{Arrivals.all_but_first, Ends.WaitsSeconds}

-- this holds of what a link and a ticker tell: of the arrivals to come, the sends that were tried, the number of calls,
-- the readings to come, and the last one
abbrev pub HoldsOf : {L T : Type 0} {A : Type 1} → LinkOf L → TickerOf T → (Option (List Arrival) → Option (List Tried) → Option ℕ → Option (List ℕ) → ℕ → A) →
    L → T → A
HoldsOf links tickers fact link ticker = fact (links.arrivals link) (links.tried link) (links.calls link) (tickers.readings ticker) (tickers.last ticker)

-- the wall clock was read right after the first tick, if it is told which ticks come
abbrev pub ReadsWall : {T : Type 0} → TickerOf T → T → T → Type 0
ReadsWall tickers before now = (readings : List ℕ) → tickers.readings before ≡ Some readings → tickers.left_at_wall now ≡ Some (Some (all_but_first readings))

-- the link is bound as before, the wall clock wasn't read, and the tick didn't go back
pub record KeepsOn {L T : Type 0} (links : LinkOf L) (tickers : TickerOf T) (link : L) (ticker : T) (link_now : L) (ticker_now : T) : Type 0 where
  pub binds : links.binds link_now ≡ links.binds link
  pub walled : tickers.left_at_wall ticker_now ≡ tickers.left_at_wall ticker
  pub last : tickers.last ticker ≤ tickers.last ticker_now

-- each receive of a question waited a second, the link is bound as before, the wall clock was read right after the first
-- tick, and the tick didn't go back
pub record AsksOnce {L T : Type 0} (links : LinkOf L) (tickers : TickerOf T) (link : L) (ticker : T) (link_now : L) (ticker_now : T) : Type 0 where
  pub waits : WaitsSeconds (links.waits link) (links.waits link_now)
  pub binds : links.binds link_now ≡ links.binds link
  pub walled : ReadsWall tickers ticker ticker_now
  pub last : tickers.last ticker ≤ tickers.last ticker_now
