-- A slot without a send stays as it is.
use Rattle.std.proofs.Common.{◌≡◌, ◌∙◌, None, get_or, set, refl, sym, ap}
use Rattle.std.proofs.lemmas.List.{set-get_or}
use Rattle.tsp_sends.proofs.HeldLemmas.{slot_is, no_kind}
use Rattle.tsp_sends.proofs.sends.Sends.end.Goals as goal

pub returns-in-None : goal.returns-in-None
returns-in-None c d =
    let kind = rw c.self.view_is at (c.kind.ensures d) in
    let none : (get_or c.args.self.now c.args.place d).sending ≡ None = no_kind (get_or c.args.self.now c.args.place d).sending (sym kind ∙ c.in-None.is) in
    sym (set-get_or c.args.self.now c.args.place d) ∙ ap (set c.args.self.now c.args.place) (slot_is (get_or c.args.self.now c.args.place d) _ None refl none)
