use Rattle.std.proofs.Common.{◌+◌, ◌∙◌, ap, sym, arith, length}
use Rattle.tsp_history.{proofs.NoteLemmas.length_history, proofs.NoteLemmas.more_small, specs.Histories.history_of}
use Rattle.tsp_history.proofs.notes.note_behind.Goals as goal

pub node_after-requires : goal.node_after-requires
node_after-requires c = record {
  moved = more_small (length (history_of c.args.lines.now)) 4294967294 c.node_at.result.clock.moved (omega (
    arith,
    length_history c.args.lines.now,
    c.requires.few,
  )) c.node_at.ensures.small;
  lives = omega (arith, length_history c.args.lines.now, c.requires.few, c.node_at.ensures.counts.few_lives);
  corrects = omega (arith, length_history c.args.lines.now, c.requires.few, c.node_at.ensures.counts.few_corrects);
}

pub returns : goal.returns
returns c = record {
  posted_is = ap (λ k. k + c.posts.result) c.posted_in.ensures.posted ∙ sym (c.posts.ensures.posted (history_of c.args.lines.now));
  few = omega (arith, length_history c.args.lines.now, c.posted_in.ensures.few, c.posts.ensures.few);
  node = c.node_after.ensures (history_of c.args.lines.now) c.node_at.ensures;
  port = c.port_after.ensures (history_of c.args.lines.now) c.port_at.ensures;
}
