-- What is known of the outside of a command: of a link, a ticker and a sink.
use Rattle.std.specs.Prelude.{◌≡◌, ◌⊎◌, ◌<◌, ℕ, ℤ, Bool, List, ◌++◌, length, Option, Some}
use Rattle.tsp_io.specs.{Counts.one_more, Links.Arrival, Links.Binding, Links.Tried, Streams.Grows, declared.link.Link.Ghosts as LinkOf}
use Rattle.tsp_io.specs.{Boards.Mark, declared.origin.Origin.Origin}
use Rattle.tsp_io.specs.declared.{sink.Sink.Ghosts as SinkOf, ticker.Ticker.Ghosts as TickerOf}
use Rattle.tsp_query.specs.Ends.{Outside, KnowsExactly}

-- a ticker's board: whether there is one, from where programs count its ticks, how long after a reading a moment is, what was
-- written, and what reads will give; each of the last four is None if it isn't told
pub record Paged : Type 0 where
  pub boarded : Bool
  pub origin : Option (Option Origin)
  pub delay : Option ℕ
  pub marks : Option (List Mark)
  pub views : Option (List Mark)

abbrev pub paged : {T : Type 0} → TickerOf T → T → Paged
paged tickers ticker = record {
  boarded = tickers.boarded ticker;
  origin = tickers.origin_is ticker;
  delay = tickers.delay_is ticker;
  marks = tickers.marks ticker;
  views = tickers.views ticker;
}

-- what they hold, each part None if it isn't told
pub record Observed : Type 0 where
  pub arrivals : Option (List Arrival)
  pub tried : Option (List Tried)
  pub calls : Option ℕ
  pub readings : Option (List ℕ)
  pub last : ℕ
  pub wall : Option ℤ
  pub word : Option ℕ
  pub written : Option (List ℕ)
  pub binds : Option (List Binding)
  pub waits : Option (List ℕ)
  pub left_at_wall : Option (Option (List ℕ))
  pub page : Paged

-- what a sink, a link and a ticker hold at a moment
abbrev pub observed : {K L T : Type 0} → SinkOf K → LinkOf L → TickerOf T → K → L → T → Observed
observed sinks links tickers sink link ticker = record {
  arrivals = links.arrivals link;
  tried = links.tried link;
  calls = links.calls link;
  readings = tickers.readings ticker;
  last = tickers.last ticker;
  wall = tickers.wall_is ticker;
  word = tickers.word_is ticker;
  written = sinks.written sink;
  binds = links.binds link;
  waits = links.waits link;
  left_at_wall = tickers.left_at_wall ticker;
  page = paged tickers ticker;
}

-- all of it is told: of the link and the ticker this outside, this wall clock (microseconds since 1970), this word, and
-- these octets written
pub record Knows (o : Outside) (wall : ℤ) (word : ℕ) (written : List ℕ) (t : Observed) : Type 0 where
  pub tells : KnowsExactly o t.arrivals t.tried t.calls t.readings t.last
  pub wall_is : t.wall ≡ Some wall
  pub word_is : t.word ≡ Some word
  pub written_is : t.written ≡ Some written

-- the outside after a bind was tried, whether it failed or not
abbrev pub after_bind : Outside → Outside
after_bind o = record o { calls = one_more o.calls }

-- of this text the beginning was written, and not all
abbrev pub IsCutShort : List ℕ → Option (List ℕ) → Option (List ℕ) → Type 0
IsCutShort text written now = (part : List ℕ) × (rest : List ℕ) × (0 < length rest) × (text ≡ part ++ rest) × Grows written now part

-- a command was to write a text and then end as `meant`: it did so, or a write failed or it ran out of memory, and then
-- only the beginning of the text was written
abbrev pub WritesBeginning : {E : Type 0} → List ℕ → E → E → E → Option (List ℕ) → Option (List ℕ) → E → Type 0
WritesBeginning text meant fault memory written now end = ((end ≡ meant) × Grows written now text) ⊎
    (((end ≡ fault) ⊎ (end ≡ memory)) × IsCutShort text written now)
