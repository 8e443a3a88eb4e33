use Rattle.std.proofs.Common.{append_assoc}
use Rattle.tsp_script.proofs.acts.append_post.Goals as goal

pub returns : goal.returns
returns c = simp (
  c.append_datagram.ensures.text,
  c.append-3.ensures,
  c.append_place.ensures.text,
  c.append-2.ensures,
  c.append_number.ensures.text,
  c.append.ensures,
  append_assoc,
)
