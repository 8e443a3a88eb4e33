-- Only a peer is heard.
use Rattle.std.proofs.Common.{sym, ◌∙◌}
use Rattle.tsp_rules.specs.DateRows.{date_acked}
use Rattle.tsp_date.proofs.DateLemmas.{Performs_heard, Performs_stranger, Performs_unheard}
use Rattle.tsp_date.proofs.pass.hear_end.Goals as goal

pub returns-then-hears-clause-row : goal.returns-then-hears-clause-row
returns-then-hears-clause-row g c x s =
    rw c.in-Peer.is (Performs_heard c.in-Peer.p (date_acked c.args.m.now) (sym c.hears.ensures ∙ c.if-hears.true) (c.end.ensures.row x s))

pub returns-else-hears-clause-row : goal.returns-else-hears-clause-row
returns-else-hears-clause-row g c x s =
    rw c.in-Peer.is (Performs_unheard c.in-Peer.p (date_acked c.args.m.now) (sym c.hears.ensures ∙ c.if-hears.false))

pub returns-in-Stranger-clause-row : goal.returns-in-Stranger-clause-row
returns-in-Stranger-clause-row g c x s = rw c.in-Stranger.is (Performs_stranger (date_acked c.args.m.now))
