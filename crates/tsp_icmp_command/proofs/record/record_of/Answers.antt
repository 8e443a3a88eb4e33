use Rattle.std.proofs.Common.{◌∙◌, sym, ap, subst, arith, length}
use Rattle.tsp_script.specs.{Schedules.IsHost, Words.first_word, Words.after_word}
use Rattle.tsp_icmp_command.proofs.RecordLemmas.{length_first_word, length_after_word, HasWords_IsRecord, IsRecord_words, MatchOption_none}
use Rattle.tsp_icmp_command.specs.Records.{SaysInHex}
use Rattle.tsp_icmp_command.proofs.record.record_of.Goals as goal

pub returns-in_err-name : goal.returns-in_err-name
returns-in_err-name c = MatchOption_none c.from_residual.result _ _ c.from_residual.ensures (λ r h.
    let host : IsHost c.cut.result.0.now = subst IsHost (sym (c.cut.ensures.word ∙ (HasWords_IsRecord _ r h).name)) h.name in
    let e = c.in_err-name.ensures.reads host in cc)

pub message_in-requires : goal.message_in-requires
message_in-requires c = omega (
  arith,
  ap length c.cut-2.ensures.word,
  ap length c.cut.ensures.rest,
  length_first_word c.cut.result.1.now,
  length_after_word c.args.line.now,
)

pub message_in-requires-2 : goal.message_in-requires-2
message_in-requires-2 c = omega (
  arith,
  ap length c.cut-3.ensures.word,
  ap length c.cut-2.ensures.rest,
  ap length c.cut.ensures.rest,
  length_first_word c.cut-2.result.1.now,
  length_after_word c.cut.result.1.now,
  length_after_word c.args.line.now,
)

pub returns-in_err-request : goal.returns-in_err-request
returns-in_err-request c = MatchOption_none c.from_residual-in_err-request.result _ _ c.from_residual-in_err-request.ensures (λ r h.
    c.in_err-request.ensures r.request (subst (λ w. SaysInHex w r.request) (sym (c.cut-2.ensures.word ∙ ap first_word c.cut.ensures.rest))
    (HasWords_IsRecord _ r h).request))

pub returns-in_err-reply : goal.returns-in_err-reply
returns-in_err-reply c = MatchOption_none c.from_residual-in_err-reply.result _ _ c.from_residual-in_err-reply.ensures (λ r h.
    c.in_err-reply.ensures r.reply (subst (λ w. SaysInHex w r.reply) (sym (c.cut-3.ensures.word ∙
    ap first_word (c.cut-2.ensures.rest ∙ ap after_word c.cut.ensures.rest))) (HasWords_IsRecord _ r h).reply))

pub returns-in_err-arrival : goal.returns-in_err-arrival
returns-in_err-arrival c = MatchOption_none c.from_residual-in_err-arrival.result _ _ c.from_residual-in_err-arrival.ensures (λ r h.
    c.in_err-arrival.ensures r.arrival h.arrival (c.cut-3.ensures.rest ∙ ap after_word (c.cut-2.ensures.rest ∙ ap after_word c.cut.ensures.rest) ∙
    (HasWords_IsRecord _ r h).arrival))

pub returns : goal.returns
returns c =
    let two = c.cut-2.ensures.rest ∙ ap after_word c.cut.ensures.rest in
    IsRecord_words c.args.line.now _ c.requires c.in_ok-name.ensures.range c.in_ok-arrival.ensures.0 (record {
      name = sym c.cut.ensures.word ∙ sym c.in_ok-name.ensures.same;
      request = subst (λ w. SaysInHex w c.in_ok-request.request) (c.cut-2.ensures.word ∙ ap first_word c.cut.ensures.rest) c.in_ok-request.ensures;
      reply = subst (λ w. SaysInHex w c.in_ok-reply.reply) (c.cut-3.ensures.word ∙ ap first_word two) c.in_ok-reply.ensures;
      arrival = sym (c.cut-3.ensures.rest ∙ ap after_word two) ∙ c.in_ok-arrival.ensures.1;
    })
