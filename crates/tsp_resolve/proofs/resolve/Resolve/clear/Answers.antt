-- Nobody is marked any more.
use Rattle.std.proofs.Common.{◌∙◌, ap, [], ◌∷◌, length, refl}
use Rattle.std.proofs.lemmas.List.{length-replicate}
use Rattle.tsp_rules.specs.Values.{Become}
use Rattle.tsp_resolve.specs.Marked.{marked}
use Rattle.tsp_resolve.proofs.{MarkedLemmas.marked_none, ResolveLemmas.ResolveStands_changed, ResolveLemmas.become_rivalless}
use Rattle.tsp_resolve.proofs.resolve.Resolve.clear.Goals as goal

pub returns-clause-none : goal.returns-clause-none
returns-clause-none c peers = ap (marked peers) c.clear.ensures ∙ marked_none peers _

pub returns-clause-stands : goal.returns-clause-stands
returns-clause-stands c x past role h =
    ResolveStands_changed x past (Become role ∷ []) c.args.self.now (record { marks = c.clear.new.self }) (become_rivalless role, tt) refl
    (ap length c.clear.ensures ∙ length-replicate _ _) (λ peers. ap (marked peers) c.clear.ensures ∙ marked_none peers _) h
