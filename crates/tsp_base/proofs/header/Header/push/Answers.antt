use Rattle.std.proofs.Common.{rules}
use Rattle.tsp_base.proofs.HeaderLemmas.{IsHeader_maybe}
use Rattle.tsp_base.proofs.header.Header.push.Goals as goal

pub invariant_of-self : goal.invariant_of-self
invariant_of-self c =
    rw c.push.ensures.items
    (IsHeader_maybe _ (record {
      drift = c.self.inside.drift;
      strict = c.self.inside.strict;
      nodes = c.self.inside.nodes.items;
      nets = c.self.inside.nets.items;
    }) c.args.line c.self.invariant (search rules) (search rules) (search rules))
