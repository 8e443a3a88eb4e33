use Rattle.std.proofs.Common.{◌<◌, arith, length, ap, ◌∙◌, None}
use Rattle.tsp_sends.proofs.SendsLemmas.{peers_of_fill, none_in_empty, empty_more, length_fill}
use Rattle.tsp_sends.proofs.sends.Sends.clear.Goals as goal

pub loop-place-preserved : goal.loop-place-preserved
loop-place-preserved c =
    let inside : c.loop-place.place < length c.loop-place.self = omega (
      arith,
      c.loop-place-test.true,
      c.len-place-end.ensures,
      ap length c.self.view_is,
      c.loop-place.invariant.many,
    ) in
    record {
      peers = peers_of_fill c.loop-place.self c.end.new.self c.loop-place.place None c.end.ensures ∙ c.loop-place.invariant.peers;
      many = length_fill c.loop-place.self c.end.new.self c.loop-place.place None c.end.ensures ∙ c.loop-place.invariant.many;
      empty = empty_more c.loop-place.self c.end.new.self c.loop-place.place inside c.end.ensures c.loop-place.invariant.empty;
    }

pub returns-clause-sends : goal.returns-clause-sends
returns-clause-sends c = λ p. none_in_empty c.loop-place.self p (λ k d h. c.loop-place.invariant.empty k d (omega (
  arith,
  c.loop-place-test.false,
  c.len-place-end.ensures,
  ap length c.self.view_is,
  c.loop-place.invariant.many,
)) h)
