use Rattle.std.proofs.Common.{◌≡◌, ◌∙◌, ◌++◌, ◌∷◌, List, ℕ, refl, ap, Ok, Err, decimal}
use Rattle.tsp_base.specs.declared.act.Act.TheVariants.{Post}
use Rattle.tsp_script.specs.{Texts.message_text, Traces.place_text}
use Rattle.tsp_script.proofs.act_parts.read_post.Goals as goal

pub returns-in_err-to-clause-reads : goal.returns-in_err-to-clause-reads
returns-in_err-to-clause-reads c = λ number to d h p i e.
    let n = c.in_ok-number.ensures.reads number (place_text to ++ 32 ∷ message_text d) h e in
    absurd (c.in_err-to.ensures.reads to (message_text d) p n.1)

pub returns-in-Ok-clause-reads : goal.returns-in-Ok-clause-reads
returns-in-Ok-clause-reads c = λ number to d h p i e.
    let n = c.in_ok-number.ensures.reads number (place_text to ++ 32 ∷ message_text d) h e in
    let w = c.in_ok-to.ensures.reads to (message_text d) p n.1 in
    let s : Ok c.in-Ok.datagram ≡ Ok d = c.in-Ok.ensures.one d i w.1 in
    let same : c.in-Ok.datagram ≡ d = cc in
    (n.0, ap (λ x. Post x c.in-Ok.datagram) w.0 ∙ ap (λ x. Post to x) same)

pub returns-in-Err-clause-reads : goal.returns-in-Err-clause-reads
returns-in-Err-clause-reads c = λ number to d h p i e.
    let n = c.in_ok-number.ensures.reads number (place_text to ++ 32 ∷ message_text d) h e in
    let w = c.in_ok-to.ensures.reads to (message_text d) p n.1 in
    let s : Err c.in-Err.field-0 ≡ Ok d = c.in-Err.ensures.one d i w.1 in
    cc

pub returns-in-Ok-clause-found : goal.returns-in-Ok-clause-found
returns-in-Ok-clause-found c = (
  refl,
  c.in_ok-number.ensures.found.1 ∙ ap (λ (r : List ℕ). decimal c.in_ok-number.number ++ 32 ∷
      r) (c.in_ok-to.ensures.found.1 ∙ rw c.in-Ok.ensures.reads.1 refl),
)
