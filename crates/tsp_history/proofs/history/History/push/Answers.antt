use Rattle.std.proofs.Common.{◌∙◌, ◌∷◌, [], ap, sym, subst}
use Rattle.tsp_history.specs.{Growing.HistoryValue, Histories.history_of, Histories.line_of, Notes.NoteIs, Notes.Told}
use Rattle.tsp_history.proofs.{HistoryLemmas.noted_append, NoteLemmas.told_push}
use Rattle.tsp_history.proofs.history.History.push.Goals as goal

pub invariant_of-self : goal.invariant_of-self
invariant_of-self c =
    subst (λ ns. Told ns) (sym c.push_reserved.ensures.items)
    (told_push c.self.inside.lines.items _ c.self.invariant (subst (λ ns. NoteIs (line_of c.args.line) (history_of ns) c.note_behind-note.result)
    c.as_slice.ensures.value c.note_behind-note.ensures))

pub returns-clause-history : goal.returns-clause-history
returns-clause-history c =
    ap (λ ns. history_of ns) c.push_reserved.ensures.items ∙ noted_append [] c.self.inside.lines.items (_ ∷ [])
    ∙ ap (λ (v : HistoryValue). line_of c.args.line ∷ history_of v.lines) c.self.view_is
