use Rattle.std.proofs.Common.{◌≡◌, ◌≤◌, ◌-◌}
use Rattle.tsp_query.specs.{Arrivals.first_answer, Arrivals.asked_from, Ends.Outside, Ends.KnowsExactly, Ends.WaitsSeconds}
use Rattle.tsp_query.specs.Ends.{heard_times}
use Rattle.tsp_query.proofs.ask.listen.Given as goal

abbrev pub invariant-loop : goal.invariant-loop
invariant-loop g l =
    ((o : Outside) → KnowsExactly o (g.L.Link.arrivals l.fn.link) (g.L.Link.tried l.fn.link) (g.L.Link.calls l.fn.link) (g.T.Ticker.readings l.fn.ticker)
    (g.T.Ticker.last l.fn.ticker)
    → KnowsExactly (heard_times l.counter o) (g.L.Link.arrivals l.link) (g.L.Link.tried l.link) (g.L.Link.calls l.link) (g.T.Ticker.readings l.ticker)
    (g.T.Ticker.last l.ticker)
    × (first_answer l.question o.arrivals ≡ asked_from l.question l.counter (8 - l.counter) (heard_times l.counter o).arrivals))
    × (g.L.Link.faults l.link ≡ g.L.Link.faults l.fn.link) × (g.L.Link.send_faults l.link ≡ g.L.Link.send_faults l.fn.link) ×
    (g.T.Ticker.last l.fn.ticker ≤ g.T.Ticker.last l.ticker)
    × WaitsSeconds (g.L.Link.waits l.fn.link) (g.L.Link.waits l.link) × (g.L.Link.binds l.link ≡ g.L.Link.binds l.fn.link) ×
    (g.T.Ticker.left_at_wall l.ticker ≡ g.T.Ticker.left_at_wall l.fn.ticker)
