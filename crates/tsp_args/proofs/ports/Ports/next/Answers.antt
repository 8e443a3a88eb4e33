use Rattle.tsp_args.proofs.WordLemmas.{words_next}
use Rattle.tsp_args.proofs.ports.Ports.next.Goals as goal

pub returns-clause-words : goal.returns-clause-words
returns-clause-words c = rw (
  c.in_ok-push.ensures.items,
  c.replace-last.ensures.value,
  c.replace-last.ensures.after,
  c.new.ensures.items,
  ← c.self.view_is,
) (words_next (λ v. v.items) c.self.inside.done.items c.self.inside.last)
