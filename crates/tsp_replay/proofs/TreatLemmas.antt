-- How the treatment of a line comes out.
use Rattle.std.proofs.Common.{sym, ap, ◌∙◌, inl, inr, subst, ◌≡◌, ℕ, List, [], ◌∷◌, ◌++◌, reverse, refl, Option}
use Rattle.tsp_lines.specs.declared.treatment.Stop.TheVariants.{Bad, Limit, WriteFault, OutOfMemory}
use Rattle.tsp_lines.specs.{Meanings.Goes, Meanings.StopsAt, Outputs.Hands, declared.treatment.Stop.Stop}
use Rattle.tsp_lines.proofs.Outputs.{Hands_nil}
use Rattle.tsp_replay.specs.{Meaning.replaying, Meaning.Replays, Schedules.Reaches, Traces.lines_text, Traces.written_at}
use Rattle.tsp_schedule.specs.{Schedules.Progress, declared.stage.Stage.Stage}
use Rattle.tsp_replay.proofs.{Places.StageStands, Places.Advances, Places.Halts, TraceLemmas.reverse_more, TraceLemmas.written_at_more}
use Rattle.tsp_replay.specs.{Stages.ReplayStands, Stages.told_at, Stages.HandsBeginning, declared.replayed.Replayed.Replayed}

accepted : (lines : List (List ℕ)) (text line : List ℕ) (p : Progress) (next : Stage Replayed) → Reaches (reverse lines) p → text ≡ written_at p →
    Advances p line next → Replays (lines ++ line ∷ []) (text ++ lines_text (told_at next))
accepted lines text line p next reaches text_is a = (
  a.to,
  subst (λ ls. Reaches ls a.to) (sym (reverse_more lines line)) (p, reaches, a.goes),
  ap (λ t. t ++ lines_text (told_at next)) text_is ∙ sym (written_at_more p line a.to next a.goes a.stands_for),
)

stands_more : (lines : List (List ℕ)) (line : List ℕ) (next : Stage Replayed) → ((q : Progress) → Reaches (reverse lines) q → Advances q line next) →
    ReplayStands next (lines ++ line ∷ [])
stands_more lines line next advances r reaches = one (subst (λ ls. Reaches ls r) (reverse_more lines line) reaches) where
  one : Reaches (line ∷ reverse lines) r → StageStands r next
  one h = let a = advances h.0 h.1 in subst (λ q. StageStands q next) (sym (a.only r h.2)) a.stands_for

-- an accepted line whose output was handed over
pub Goes_advances : (lines : List (List ℕ)) (text line : List ℕ) (p : Progress) (next : Stage Replayed) (written now : Option (List ℕ)) (held keeps : List ℕ) →
    Reaches (reverse lines) p → text ≡ written_at p →
    ((q : Progress) → Reaches (reverse lines) q → Advances q line next) → Hands written held now keeps (lines_text (told_at next)) →
    Goes replaying (ReplayStands next) lines text line written held now keeps
Goes_advances lines text line p next written now held keeps reaches text_is advances hands = (
  lines_text (told_at next),
  hands,
  accepted lines text line p next reaches text_is (advances p reaches),
  stands_more lines line next advances,
)

-- an accepted line whose output was not handed over whole
pub StopsAt_untold : (lines : List (List ℕ)) (text line : List ℕ) (p : Progress) (next : Stage Replayed) (written now : Option (List ℕ)) (held keeps : List ℕ)
    (stop : Stop) → Reaches (reverse lines) p → text ≡ written_at p →
    Advances p line next → HandsBeginning (lines_text (told_at next)) written held now keeps stop →
    StopsAt replaying lines text line written held now keeps stop
StopsAt_untold lines text line p next written now held keeps (Bad cause) reaches text_is a h = absurd h
StopsAt_untold lines text line p next written now held keeps Limit reaches text_is a h = absurd h
StopsAt_untold lines text line p next written now held keeps _ reaches text_is a h =
    (h.0, h.3, inr (h.1, subst (λ more. Replays (lines ++ line ∷ []) (text ++ more)) h.2 (accepted lines text line p next reaches text_is a)))

-- a line that isn't accepted
pub StopsAt_halts : (lines : List (List ℕ)) (text line : List ℕ) (p : Progress) (written : Option (List ℕ)) (held : List ℕ) (stop : Stop) →
    Reaches (reverse lines) p → Halts p line stop → StopsAt replaying lines text line written held written held stop
StopsAt_halts lines text line p written held WriteFault reaches h = absurd h
StopsAt_halts lines text line p written held OutOfMemory reaches h = ([], Hands_nil written held, inl refl)
StopsAt_halts lines text line p written held _ reaches h = (Hands_nil written held, (p, reaches, h))
