use Rattle.std.proofs.Common.{◌≡◌, ◌<◌, ◌+◌, ℕ, true, false, rules, arith, sym, ◌∙◌, subst, subst₂, inl, inr, List, ◌∷◌, length, take, get_or}
use Rattle.tsp_rules.specs.Values.{Port}
use Rattle.tsp_base.specs.Words.{Line, of, view}
use Rattle.tsp_promises.specs.StepFacts.{is_unbacked}
use Rattle.tsp_history.specs.{Histories.line_of, Histories.history_of, declared.line.HistoryLine.HistoryLine}
use Rattle.tsp_audit.{proofs.BackLemmas.neither, proofs.BackLemmas.unbacked_more, specs.Backing.concerns, specs.Backing.is_stand}
use Rattle.tsp_history.proofs.HistoryLemmas.{history_more}
use Rattle.tsp_audit.proofs.backing.settles.Goals as goal
use Rattle.tsp_audit.proofs.backing.settles.Goals.{else-stands-via-then-stands+else-is_unbacked_at, else-stands-via-else-stands}

pub loop-i-preserved : goal.loop-i-preserved
loop-i-preserved c old n q meant e =
    let line : HistoryLine = c.index-lines-i.result in
    let lines : List HistoryLine = c.args.lines.now in
    let i : ℕ = c.loop-i.i in
    let here : get_or lines i line ≡ line = search rules in
    let lt : i < length lines = omega arith in
    let more : history_of (take (i + 1) lines) ≡ line_of line ∷ history_of (take i lines) = history_more lines i line lt here in
    elim (unbacked_more (line_of line) (history_of (take i lines)) n q (subst (λ (h : List Line). is_unbacked (view q (of n h)) ≡ true) more e)) [
      | inl k ↦ c.loop-i.invariant old n q meant k
      | inr k ↦
          let node : line.node ≡ n = k.node in
          let port : line.port ≡ q = k.port in
          let backed : is_unbacked (view line.port (of line.node (history_of lines))) ≡ false =
          elim c.else-stands.branch [
            | else-stands-via-then-stands+else-is_unbacked_at w ↦ sym w.is_unbacked_at.ensures ∙ w.if-is_unbacked_at.false
            | else-stands-via-else-stands w ↦
                absurd (neither (is_stand (line_of line)) (concerns c.args.node line.node) c.stands.result c.stands.ensures w.if-stands.false k.is
                (subst (λ (m : ℕ). concerns c.args.node m ≡ true) (sym node) meant))
          ] in
          subst₂ (λ (m : ℕ) (p : Port). is_unbacked (view p (of m (history_of lines))) ≡ false) node port backed
    ]
