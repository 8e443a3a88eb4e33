use Rattle.std.proofs.Common.{◌≡◌, ◌∙◌, refl, sym, ap, ℕ, List, inl, inr, rules, IsSomeAnd}
use Rattle.tsp_base.specs.declared.act.Act.{Act}
use Rattle.tsp_script.specs.{Traces.act_text, Verbs.verb_word, Verbs.verb_of, Verbs.rest_of_act, Words.first_word, Words.after_word}
use Rattle.tsp_script.proofs.ActTexts.{post_case, other_case, post_differs, act_splits, joined_found, lone_case, not_lone}
use Rattle.tsp_script.proofs.Outcomes.{some_injective, none_not_some, if_some_then}
use Rattle.tsp_script.proofs.act_reader.read_act.Goals as goal

word_is : (text word : List ℕ) (number : ℕ) (a : Act) → word ≡ first_word text → text ≡ act_text number a → word ≡ verb_word (verb_of a)
word_is text word number a w e = w ∙ ap (λ t. first_word t) e ∙ (act_splits number a).0

rest_is : (text rest : List ℕ) (number : ℕ) (a : Act) → rest ≡ after_word text → text ≡ act_text number a → rest ≡ rest_of_act number a
rest_is text rest number a r e = r ∙ ap (λ t. after_word t) e ∙ (act_splits number a).1

pub returns-in_err-verb-clause-reads : goal.returns-in_err-verb-clause-reads
returns-in_err-verb-clause-reads c = λ number a is n e. absurd (none_not_some (verb_of a)
    (c.in_err-verb.ensures.reads (verb_of a) (word_is c.args.text.now c.in-Some.word.now number a c.in-Some.ensures.found.0 e)))

pub returns-in-Post-clause-reads : goal.returns-in-Post-clause-reads
returns-in-Post-clause-reads c = λ number a is n e.
    let verb = some_injective _ _ (c.in_ok-verb.ensures.reads (verb_of a) (word_is c.args.text.now c.in-Some.word.now number a c.in-Some.ensures.found.0 e)) in
    post_case (λ k x. IsSomeAnd c.read_post.result (λ r. (r.0 ≡ k) × (r.1 ≡ x))) c.in-Some.rest.now number a is n (sym c.in-Post.is ∙
    verb) (rest_is c.args.text.now c.in-Some.rest.now number a c.in-Some.ensures.found.1 e)
    (λ to d h p i t. c.read_post.ensures.reads number to d h p i t)

pub returns-in_err-read_lone-clause-reads : goal.returns-in_err-read_lone-clause-reads
returns-in_err-read_lone-clause-reads c = λ number a is n e.
    absurd (lone_case (λ k x. ⊥) c.args.text.now number a n c.in_default.ensures.none e (λ b. none_not_some _ (c.in_err-read_lone.ensures.boot b))
    (λ b. none_not_some _ (c.in_err-read_lone.ensures.abandon b)))

pub returns-in_default-clause-reads : goal.returns-in_default-clause-reads
returns-in_default-clause-reads c = λ number a is n e.
    lone_case (λ k x. (0 ≡ k) × (c.in_ok-read_lone.field-0 ≡ x)) c.args.text.now number a n c.in_default.ensures.none e
    (λ b. (refl, some_injective _ _ (c.in_ok-read_lone.ensures.boot b)))
    (λ b. (refl, some_injective _ _ (c.in_ok-read_lone.ensures.abandon b)))

pub returns-in-Post-clause-found : goal.returns-in-Post-clause-found
returns-in-Post-clause-found c =
    if_some_then c.read_post.result
    (λ r h. joined_found c.args.text.now c.in-Some.word.now c.in-Some.rest.now c.in_ok-verb.verb r.0 r.1 c.in-Some.ensures.found.2 c.in_ok-verb.ensures.found
    (c.in-Post.is ∙ h.0, h.1) (λ b. post_differs _ c.in-Post.is (inl b)) (λ b. post_differs _ c.in-Post.is (inr b)))
    c.read_post.ensures.found

pub returns-in_err-read_silent-in_default-2 : goal.returns-in_err-read_silent-in_default-2
returns-in_err-read_silent-in_default-2 c = record {
  reads = λ number a is n e.
      let verb = some_injective _ _ (c.in_ok-verb.ensures.reads (verb_of a) (word_is c.args.text.now c.in-Some.word.now number a c.in-Some.ensures.found.0 e))
      in
      let other = other_case c.in-Some.rest.now number a n (λ p. c.in_default-2.not-Post (verb ∙ sym p)) (rest_is c.args.text.now c.in-Some.rest.now number a
      c.in-Some.ensures.found.1 e) in
      let long = not_lone c.args.text.now c.in-Some.word.now c.in-Some.rest.now c.in_ok-verb.verb number a verb e c.in-Some.ensures.found.2 in
      absurd (none_not_some a (c.in_err-read_silent-in_default-2.ensures.reads a is c.in_default-2.not-Post long.0 long.1 verb other.1));
  found = search rules;
  range = search rules;
}

pub returns-in_ok-read_silent-in_default-2 : goal.returns-in_ok-read_silent-in_default-2
returns-in_ok-read_silent-in_default-2 c = record {
  reads = λ number a is n e.
      let verb = some_injective _ _ (c.in_ok-verb.ensures.reads (verb_of a) (word_is c.args.text.now c.in-Some.word.now number a c.in-Some.ensures.found.0 e))
      in
      let other = other_case c.in-Some.rest.now number a n (λ p. c.in_default-2.not-Post (verb ∙ sym p)) (rest_is c.args.text.now c.in-Some.rest.now number a
      c.in-Some.ensures.found.1 e) in
      let long = not_lone c.args.text.now c.in-Some.word.now c.in-Some.rest.now c.in_ok-verb.verb number a verb e c.in-Some.ensures.found.2 in
      (sym other.0, some_injective _ _ (c.in_ok-read_silent-in_default-2.ensures.reads a is c.in_default-2.not-Post long.0 long.1 verb other.1));
  found =
      let read = c.in_ok-read_silent-in_default-2.ensures in
      joined_found c.args.text.now c.in-Some.word.now c.in-Some.rest.now c.in_ok-verb.verb 0 c.in_ok-read_silent-in_default-2.field-0 c.in-Some.ensures.found.2
      c.in_ok-verb.ensures.found read.found.0 read.apart.0 read.apart.1;
  range = c.in_ok-read_silent-in_default-2.ensures.found.1;
}
