use Rattle.std.proofs.Common.{◌∙◌, refl, sym}
use Rattle.tsp_script.proofs.MessageLines.{request_reads, reply_reads, message_reads, line_found}
use Rattle.tsp_script.proofs.message_reader.read_message.Goals as goal

pub returns-then-is_same-clause-found : goal.returns-then-is_same-clause-found
returns-then-is_same-clause-found c = line_found c.read_request.result c.args.line.now _ _ _ c.cut.ensures.word c.cut.ensures.rest c.if-is_same.ensures
    c.read_request.ensures.found

pub returns-then-is_same-2-clause-found : goal.returns-then-is_same-2-clause-found
returns-then-is_same-2-clause-found c = line_found c.read_reply.result c.args.line.now _ _ _ c.cut.ensures.word c.cut.ensures.rest c.if-is_same-2.ensures
    c.read_reply.ensures.found

pub returns-clause-found : goal.returns-clause-found
returns-clause-found c = line_found c.read_plain.result c.args.line.now _ _ _ c.cut.ensures.word c.cut.ensures.rest refl c.read_plain.ensures.found

pub returns-then-is_same-clause-reads : goal.returns-then-is_same-clause-reads
returns-then-is_same-clause-reads c = λ d h e.
    request_reads c.args.line.now d c.read_request.result h e (sym c.cut.ensures.word ∙ c.if-is_same.ensures)
    (λ word counter a b f. c.read_request.ensures.reads word counter a b (c.cut.ensures.rest ∙ f))

pub returns-then-is_same-2-clause-reads : goal.returns-then-is_same-2-clause-reads
returns-then-is_same-2-clause-reads c = λ d h e.
    reply_reads c.args.line.now d c.read_reply.result h e (sym c.cut.ensures.word ∙ c.if-is_same-2.ensures)
    (λ r a b v f. c.read_reply.ensures.reads r a b v (c.cut.ensures.rest ∙ f))

pub returns-clause-reads : goal.returns-clause-reads
returns-clause-reads c = λ d h e.
    message_reads c.args.line.now d c.read_plain.result h e (λ w. c.if-is_same.ensures (c.cut.ensures.word ∙ w))
    (λ w. c.if-is_same-2.ensures (c.cut.ensures.word ∙ w))
    (λ m v w f. c.read_plain.ensures.reads m v (c.cut.ensures.word ∙ w) (c.cut.ensures.rest ∙ f))
