-- The node, the counters and the outside are where so many turns have brought them.
use Rattle.std.proofs.Common.{◌≡◌, ◌≤◌, ◌*◌, ℕ, Option, List, Some, None, false}
use Rattle.tsp_gateway.specs.{GatewayStands.clock_at, Rooms.ports_in, Rooms.room_of_ports}
use Rattle.tsp_daemon.specs.{Ends.IsAt, Ends.Lives, Sessions.Session, Sessions.after_turns, Sessions.Rises, Waits.NotesWaits}
use Rattle.tsp_io.specs.{Boards.Mark, declared.origin.Origin.Origin}
use Rattle.tsp_query.specs.Outside.{paged}
use Rattle.tsp_daemon.specs.Pages.{AreReads, moment_after, page_from}
use Rattle.tsp_daemon.proofs.PageLemmas.{IsMarked}
use Rattle.tsp_daemon.proofs.serve.serve.Given as goal

abbrev pub invariant-loop : goal.invariant-loop
invariant-loop g l = record {
  at : (s : Session) → IsAt s l.fn.gateway l.initial.counters (g.L.Link.arrivals l.fn.link) (g.L.Link.tried l.fn.link) (g.L.Link.calls l.fn.link)
      (g.T.Ticker.readings l.fn.ticker) (g.T.Ticker.last l.fn.ticker) (g.K.Sink.written l.fn.sink) →
      IsAt (after_turns l.counter s) l.gateway l.counters (g.L.Link.arrivals l.link) (g.L.Link.tried l.link) (g.L.Link.calls l.link)
      (g.T.Ticker.readings l.ticker) (g.T.Ticker.last l.ticker) (g.K.Sink.written l.sink);
  waits : (s : Session) → IsAt s l.fn.gateway l.initial.counters (g.L.Link.arrivals l.fn.link) (g.L.Link.tried l.fn.link) (g.L.Link.calls l.fn.link)
      (g.T.Ticker.readings l.fn.ticker) (g.T.Ticker.last l.fn.ticker) (g.K.Sink.written l.fn.sink) →
      NotesWaits s l.counter (g.L.Link.waits l.fn.link) (g.L.Link.waits l.link);
  rises : (s : Session) → IsAt s l.fn.gateway l.initial.counters (g.L.Link.arrivals l.fn.link) (g.L.Link.tried l.fn.link) (g.L.Link.calls l.fn.link)
      (g.T.Ticker.readings l.fn.ticker) (g.T.Ticker.last l.fn.ticker) (g.K.Sink.written l.fn.sink) →
      Rises l.counter s;
  marks : (left : List Mark) → AreReads left (g.T.Ticker.views l.ticker) → (views : List Mark) × AreReads views (g.T.Ticker.views l.fn.ticker) ×
      ((s : Session) (origin : Option Origin) (delay : ℕ) → IsAt s l.fn.gateway l.initial.counters (g.L.Link.arrivals l.fn.link)
      (g.L.Link.tried l.fn.link) (g.L.Link.calls l.fn.link) (g.T.Ticker.readings l.fn.ticker) (g.T.Ticker.last l.fn.ticker) (g.K.Sink.written l.fn.sink) →
      g.T.Ticker.origin_is l.fn.ticker ≡ Some origin → g.T.Ticker.delay_is l.fn.ticker ≡ Some delay →
      IsMarked delay l.counter s (page_from (g.T.Ticker.boarded l.fn.ticker) origin s.past (moment_after delay s.outside.last)) origin views l.page left
      (paged g.T.Ticker l.fn.ticker) (paged g.T.Ticker l.ticker));
  boarded : g.T.Ticker.boarded l.ticker ≡ g.T.Ticker.boarded l.fn.ticker;
  delay : g.T.Ticker.delay_is l.ticker ≡ g.T.Ticker.delay_is l.fn.ticker;
  alone : g.T.Ticker.boarded l.fn.ticker ≡ false → (l.page ≡ None) × (g.T.Ticker.origin_is l.ticker ≡ g.T.Ticker.origin_is l.fn.ticker) ×
      (g.T.Ticker.views l.ticker ≡ g.T.Ticker.views l.fn.ticker);
  binds : g.L.Link.binds l.link ≡ g.L.Link.binds l.fn.link;
  walled : g.T.Ticker.left_at_wall l.ticker ≡ g.T.Ticker.left_at_wall l.fn.ticker;
  lives : Lives l.gateway;
  clock : clock_at l.gateway ≤ g.T.Ticker.last l.ticker;
  turns : l.counters.turns ≡ l.counter;
  posts : l.counters.posts ≤ l.counter * room_of_ports (ports_in l.fn.gateway);
  ports : ports_in l.gateway ≡ ports_in l.fn.gateway;
  size : l.room.acts ≡ room_of_ports (ports_in l.gateway);
  faults : g.L.Link.faults l.link ≡ g.L.Link.faults l.fn.link;
  send_faults : g.L.Link.send_faults l.fn.link ≤ g.L.Link.send_faults l.link;
  writes : g.K.Sink.faults l.sink ≡ g.K.Sink.faults l.fn.sink;
  last : g.T.Ticker.last l.fn.ticker ≤ g.T.Ticker.last l.ticker;
}
