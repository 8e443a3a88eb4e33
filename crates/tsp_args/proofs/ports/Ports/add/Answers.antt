use Rattle.tsp_args.proofs.WordLemmas.{peer_words_add}
use Rattle.tsp_args.proofs.ports.Ports.add.Goals as goal

pub returns-clause-words : goal.returns-clause-words
returns-clause-words c = rw (c.in_ok-push.ensures.items, ← c.self.view_is) (peer_words_add _ c.self.inside.last.items c.args.peer)
