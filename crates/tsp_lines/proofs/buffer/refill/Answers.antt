use Rattle.std.proofs.Common.{arith}
use Rattle.tsp_lines.proofs.Feeds.{read_behind_held}
use Rattle.tsp_lines.proofs.buffer.refill.Goals as goal

pub returns-clause-read : goal.returns-clause-read
returns-clause-read g c =
    read_behind_held _ _ _ _ _ _ _ c.read_behind.ensures.read (omega (
      arith,
      c.read_behind.ensures.most,
      c.requires.room,
      c.read_behind.auto.buf,
      c.move_front.auto.buf,
    )) c.read_behind.ensures.held c.move_front.ensures
