use Rattle.std.proofs.Common.{◌≡◌, ◌∙◌, ap, sym, arith, ◌++◌, Some, true}
use Rattle.tsp_base.specs.{Words.MessageValue, Words.body_fits, declared.datagram.Datagram.TheVariants.Message, declared.kind.Kind.Kind}
use Rattle.tsp_script.proofs.{KindWords.kind_word_injective, MessageLines.plain_found}
use Rattle.tsp_script.{proofs.Outcomes.none_not_some, proofs.Outcomes.some_injective, specs.Texts.body_text, specs.Texts.name_text}
use Rattle.tsp_codec.proofs.OneReading.{message_parts}
use Rattle.tsp_script.proofs.message_reader.read_plain.Goals as goal

pub returns-in_default-clause-reads : goal.returns-in_default-clause-reads
returns-in_default-clause-reads c = λ m h w e.
    let k = kind_word_injective _ _ (sym c.in_ok-kind.ensures.found ∙ w) in
    let n = c.in_ok-number.ensures.reads m.number (body_text m.body ++ name_text m.name) (omega (arith, h.number)) e in
    let fits : body_fits c.in_ok-kind.kind m.body ≡ true = ap (λ (x : Kind). body_fits x m.body) k ∙ h.fits in
    absurd (c.in_default.ensures.reads m.body (name_text m.name) h.body fits n.1)

pub returns-in_err-name-clause-reads : goal.returns-in_err-name-clause-reads
returns-in_err-name-clause-reads c = λ m h w e.
    let k = kind_word_injective _ _ (sym c.in_ok-kind.ensures.found ∙ w) in
    let n = c.in_ok-number.ensures.reads m.number (body_text m.body ++ name_text m.name) (omega (arith, h.number)) e in
    let fits : body_fits c.in_ok-kind.kind m.body ≡ true = ap (λ (x : Kind). body_fits x m.body) k ∙ h.fits in
    let b = c.in-Some.ensures.reads m.body (name_text m.name) h.body fits n.1 in
    absurd (none_not_some _ (c.in_err-name.ensures.reads m.name h.name h.octets b.1))

pub returns-clause-found : goal.returns-clause-found
returns-clause-found c =
    let n = c.in_ok-number-2.ensures.same in
    plain_found c.args.word.now c.args.line.now _ _ c.in_ok-kind.kind _ _ _ c.in_ok-message.message c.in_ok-kind.ensures.found n.1 c.in-Some.ensures.found.0
    c.in-Some.ensures.found.1 c.in_ok-name.ensures.found
    (rw n.0 c.in_ok-number.ensures.found.1) c.in-Some.ensures.found.2 c.in_ok-message.ensures.value

pub returns-clause-reads : goal.returns-clause-reads
returns-clause-reads c = λ m h w e.
    let k = kind_word_injective _ _ (sym c.in_ok-kind.ensures.found ∙ w) in
    let n = c.in_ok-number.ensures.reads m.number (body_text m.body ++ name_text m.name) (omega (arith, h.number)) e in
    let fits : body_fits c.in_ok-kind.kind m.body ≡ true = ap (λ (x : Kind). body_fits x m.body) k ∙ h.fits in
    let b = c.in-Some.ensures.reads m.body (name_text m.name) h.body fits n.1 in
    let s = some_injective _ _ (c.in_ok-name.ensures.reads m.name h.name h.octets b.1) in
    let z = some_injective _ _ (c.in_ok-number-2.ensures.fits (rw n.0 h.number)) in
    let made = c.in_ok-message.ensures.value ∙ message_parts _ _ _ _ m k (z ∙ n.0) b.0 s in
    ap (λ (x : MessageValue). Some (Message x)) made

pub returns-in_err-message-clause-reads : goal.returns-in_err-message-clause-reads
returns-in_err-message-clause-reads c = λ m h w e.
    let k = kind_word_injective _ _ (sym c.in_ok-kind.ensures.found ∙ w) in
    let n = c.in_ok-number.ensures.reads m.number (body_text m.body ++ name_text m.name) (omega (arith, h.number)) e in
    let fits : body_fits c.in_ok-kind.kind m.body ≡ true = ap (λ (x : Kind). body_fits x m.body) k ∙ h.fits in
    let b = c.in-Some.ensures.reads m.body (name_text m.name) h.body fits n.1 in
    let good : body_fits c.in_ok-kind.kind c.in-Some.body ≡ true = rw b.0 fits in
    let some = c.in_err-message.ensures.variant.1 good in absurd (cc)
