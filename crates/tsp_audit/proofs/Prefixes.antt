-- The history of some lines, and of those before them.
use Rattle.std.proofs.Common.{sym, ap, subst, ◌∙◌, take, drop, get_or, ◌≡◌, ◌<◌, ◌≤◌, ◌+◌, ℕ, List, [], ◌∷◌, length}
use Rattle.std.proofs.lemmas.List.{take-append-drop}
use Rattle.tsp_promises.{proofs.shared.EverywhereLemmas.Everywhere_at, proofs.shared.EverywhereLemmas.Everywhere_within, specs.Everywhere.Everywhere}
use Rattle.tsp_base.{proofs.PlaceLemmas.Within_all, proofs.PlaceLemmas.Within_tail, specs.Words.Line, specs.Words.Within}
use Rattle.tsp_history.specs.{Histories.line_of, Histories.noted_after, Histories.history_of, declared.line.HistoryLine.HistoryLine}
use Rattle.tsp_history.proofs.HistoryLemmas.{Within_noted, history_more, noted_append}
use Rattle.tsp_audit.specs.Settings.{Timely}

noted_within : (h : List Line) (xs : List HistoryLine) → Within h (noted_after h xs)
noted_within h [] = Within_all h
noted_within h (n ∷ xs) = Within_tail (line_of n) h (noted_after (line_of n ∷ h) xs) (noted_within (line_of n ∷ h) xs)

-- the history of the first lines is a place of the whole
pub history_within : (ns : List HistoryLine) (i : ℕ) → Within (history_of (take i ns)) (history_of ns)
history_within ns i = subst (λ ms. Within (history_of (take i ns)) ms) (sym (noted_append [] (take i ns) (drop i ns)) ∙ ap history_of (take-append-drop i ns))
    (noted_within (history_of (take i ns)) (drop i ns))

-- true times of a schedule are so in the first lines
pub timely_first : (ns : List HistoryLine) (i : ℕ) → Timely (history_of ns) → Timely (history_of (take i ns))
timely_first ns i timely = Everywhere_within (λ l before. l.did.step.at ≤ 1000000000000000) _ (history_of ns) timely (history_within ns i)

-- what holds everywhere holds at a line
pub at_line : (P : Line → List Line → Type 0) (ns : List HistoryLine) (i : ℕ) (n : HistoryLine) → i < length ns → get_or ns i n ≡ n →
    Everywhere P (history_of ns) → P (line_of n) (history_of (take i ns))
at_line P ns i n lt is e = Everywhere_at P (line_of n) (history_of (take i ns)) (history_of ns) e (Within_noted ns i n lt is)

-- what holds of the first lines and of the next one
pub one-more : (P : Line → List Line → Type 0) (ns : List HistoryLine) (i : ℕ) (n : HistoryLine) → i < length ns → get_or ns i n ≡ n →
    P (line_of n) (history_of (take i ns)) → Everywhere P (history_of (take i ns)) → Everywhere P (history_of (take (i + 1) ns))
one-more P ns i n lt is p e = subst (λ h. Everywhere P h) (sym (history_more ns i n lt is)) (p, e)
