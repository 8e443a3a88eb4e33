-- What is handed over is what is read from the request's octets.
use Rattle.std.proofs.Common.{arith, sym, ◌∙◌}
use Rattle.tsp_script.specs.Storms.{request_octets}
use Rattle.tsp_storm.proofs.Requests.{request_octets_holds, request_read}
use Rattle.tsp_storm.proofs.making.occur_request.Goals as goal

pub returns : goal.returns
returns c = c.hand.ensures (request_octets c.args.word) (request_octets_holds c.args.word) (request_read c.args.word (omega (arith, c.ranges.word.fits)) ∙
    sym (c.taken.ensures ∙ c.put_stamp.ensures))
