use Rattle.std.proofs.Common.{arith}
use Rattle.tsp_script.proofs.MessageLines.{request_found}
use Rattle.tsp_script.proofs.message_reader.read_request.Goals as goal

pub returns-clause-found : goal.returns-clause-found
returns-clause-found c =
    request_found c.args.line.now _ c.in_ok-word.word c.in_ok-counter.counter c.in_ok-word.ensures.found.0 (omega arith) c.in_ok-word.ensures.found.1
    c.in_ok-counter.ensures.found
