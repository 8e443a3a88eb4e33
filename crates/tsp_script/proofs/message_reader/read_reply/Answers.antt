use Rattle.std.proofs.Common.{◌++◌, ◌∷◌, List, ℕ, ap, arith, decimal, sym, ◌∙◌, rules}
use Rattle.std.{proofs.lemmas.Int.to_z-of_z, specs.Fmt.signed_decimal, specs.Int.w64, specs.Int.RustNames.FitsSigned}
use mir.Val.{to_z, of_z}
use Rattle.tsp_base.specs.Words.{ReplyValue}
use Rattle.tsp_script.proofs.{MessageLines.reply_found, Outcomes.if_some_then}
use Rattle.tsp_script.proofs.message_reader.read_reply.Goals as goal

-- what follows the word and the ticket
abbrev behind_word : ReplyValue → List ℕ
behind_word r = decimal r.counter ++ 32 ∷ signed_decimal r.reading

abbrev behind_ticket : ReplyValue → List ℕ
behind_ticket r = decimal r.word ++ 32 ∷ behind_word r

pub returns-in_err-ticket-clause-reads : goal.returns-in_err-ticket-clause-reads
returns-in_err-ticket-clause-reads c = λ r h k i e. absurd (c.in_err-ticket.ensures.reads r.ticket (behind_ticket r) (omega (arith, i.small)) e)

pub returns-in_err-word-clause-reads : goal.returns-in_err-word-clause-reads
returns-in_err-word-clause-reads c = λ r h k i e.
    let a = c.in_ok-ticket.ensures.reads r.ticket (behind_ticket r) (omega (arith, i.small)) e in
    absurd (c.in_err-word.ensures.reads r.word (behind_word r) h a.1)

pub returns-in_err-counter-clause-reads : goal.returns-in_err-counter-clause-reads
returns-in_err-counter-clause-reads c = λ r h k i e.
    let a = c.in_ok-ticket.ensures.reads r.ticket (behind_ticket r) (omega (arith, i.small)) e in
    let b = c.in_ok-word.ensures.reads r.word (behind_word r) h a.1 in
    absurd (c.in_err-counter.ensures.reads r.counter (signed_decimal r.reading) k b.1)

pub returns-clause-found : goal.returns-clause-found
returns-clause-found c =
    let fits : FitsSigned w64 c.in_ok-reading.reading = search rules in
    let same = to_z-of_z w64 c.in_ok-reading.reading fits in
    let r : ReplyValue = record {
      ticket = c.in_ok-ticket.ticket;
      word = c.in_ok-word.word;
      counter = c.in_ok-counter.counter;
      reading = to_z w64 (of_z w64 c.in_ok-reading.reading);
    } in
    if_some_then c.reply_of.result
    (λ d h. rw h.1 (reply_found c.args.line.now _ _ _ r c.in_ok-word.ensures.found.0 c.in_ok-counter.ensures.found.0 h.0 c.in_ok-ticket.ensures.found.1
    c.in_ok-word.ensures.found.1 c.in_ok-counter.ensures.found.1 (c.in_ok-reading.ensures.found ∙ ap signed_decimal (sym same))))
    c.reply_of.ensures.found
