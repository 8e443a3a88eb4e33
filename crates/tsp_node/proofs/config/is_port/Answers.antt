-- Few enough, ascending, and the own number among them.
use Rattle.std.proofs.Common.{◌∙◌, sym, ◌≡◌}
use Rattle.tsp_base.specs.Words.{is_among}
use Rattle.tsp_node.proofs.ConfigLemmas.{list_any_is_among}
use Rattle.tsp_node.proofs.config.is_port.Goals as goal

pub returns : goal.returns
returns c =
    let among : c.contains.result ≡ is_among c.args.own c.args.peers.now = c.contains.ensures.value ∙ list_any_is_among c.args.own c.args.peers.now in (
      λ e. record { peers = record { few = c.if-peers-gt1000.false; ascending = c.is_ascending.ensures.0 c.if-not-is_ascending.false }; own = sym among ∙ e },
      λ p. among ∙ p.own,
    )
