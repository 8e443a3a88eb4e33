-- What was tried, and how many sends that were, and what is still to be tried.
use Rattle.std.proofs.Common.{◌≡◌, ◌≤◌, ◌+◌, ◌++◌, List, drop, length}
use Rattle.tsp_io.specs.Links.{Tried}
use Rattle.tsp_daemon.specs.{Ends.TriesAll, Posts.sends_of}
use Rattle.tsp_daemon.proofs.sends.send_all.Given as goal

abbrev pub invariant-loop-placed : goal.invariant-loop-placed
invariant-loop-placed g l = record {
  tried : (done : List Tried) × TriesAll done (g.L.Link.tried l.initial.link) (g.L.Link.tried l.link) ×
      (sends_of l.acts ≡ done ++ sends_of (drop l.placed-index l.acts));
  count : length (sends_of l.acts) ≡ l.count + length (sends_of (drop l.placed-index l.acts));
  few : l.count ≤ l.placed-index;
  arrivals : g.L.Link.arrivals l.link ≡ g.L.Link.arrivals l.initial.link;
  calls : g.L.Link.calls l.link ≡ g.L.Link.calls l.initial.link;
  stranger : g.L.Link.stranger l.link ≡ g.L.Link.stranger l.initial.link;
  binds : g.L.Link.binds l.link ≡ g.L.Link.binds l.initial.link;
  waits : g.L.Link.waits l.link ≡ g.L.Link.waits l.initial.link;
  faults : g.L.Link.faults l.link ≡ g.L.Link.faults l.initial.link;
  send_faults : g.L.Link.send_faults l.initial.link ≤ g.L.Link.send_faults l.link;
}
