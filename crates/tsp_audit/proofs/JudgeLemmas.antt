-- Which part fails, and what the newest event changes.
use Rattle.std.proofs.Common.{◌-◌, sym, ap, ◌∙◌, arith, inl, inr, take, ◌≡◌, ◌<◌, ◌≤◌, ℕ, Bool, true, false, List, [], ◌∷◌, length, refl, MatchBool, Option}
use Rattle.std.proofs.lemmas.List.{length-take}
use Rattle.tsp_audit.specs.{Agreeing.Numbered, Judged.FailsNow, Judged.JudgesParts, Looking.Grown, Settings.HasClocks, Settings.Timely}
use Rattle.tsp_audit.specs.Parts.{Acting, ActsOnce, Agreeing, AllKeep, Backing, PartHolds, Leading, Measuring, Part, part_number}
use Rattle.tsp_history.{proofs.NoteLemmas.length_history, specs.Histories.history_of, specs.declared.line.HistoryLine.HistoryLine}
use Rattle.tsp_audit.{proofs.Prefixes.history_within, specs.declared.premises.Premises.Premises}
use Rattle.tsp_base.specs.Words.{HeaderValue, Line, Within}
use Rattle.tsp_promises.specs.{OneBack.OneBack, OnlyMaster.OnlyMaster, Setting.Setting}
use Rattle.tsp_base.proofs.PlaceLemmas.{Within_comparable, Within_length}
use Rattle.tsp_audit.specs.{Remembered.HasLineRoom, Remembered.RememberedStands, declared.remembered.Remembered.Remembered}

-- a part fails, and those before it hold
pub fails : (premises : Premises) (setting : Setting) (h : List Line) (p : Part) → (12 < part_number p → OneBack h) → (13 < part_number p → OnlyMaster h) →
    (14 < part_number p → ActsOnce premises setting h) → (15 < part_number p → PartHolds premises setting Measuring h) → (16 < part_number p → ⊥) →
    (PartHolds premises setting p h → ⊥) → FailsNow premises setting h (part_number p)
fails premises setting h p back lead act measure none bad = record { part = p; number_is = refl; fails = bad; lesser = lesser } where
  lesser : (q : Part) → part_number q < part_number p → PartHolds premises setting q h
  lesser Backing lt = back lt
  lesser Leading lt = lead lt
  lesser Acting lt = act lt
  lesser Measuring lt = measure lt
  lesser Agreeing lt = absurd (none lt)

pub all_keep : (premises : Premises) (setting : Setting) (h : List Line) → OneBack h → OnlyMaster h → ActsOnce premises setting h →
    PartHolds premises setting Measuring h → PartHolds premises setting Agreeing h → AllKeep premises setting h
all_keep premises setting h back lead act measure agree Backing = back
all_keep premises setting h back lead act measure agree Leading = lead
all_keep premises setting h back lead act measure agree Acting = act
all_keep premises setting h back lead act measure agree Measuring = measure
all_keep premises setting h back lead act measure agree Agreeing = agree

-- what is asked only where something is kept
pub if_kept : (b : Bool) (K P Q : Type 0) → K → (Q → MatchBool b P (P → ⊥)) → (K → Q) → MatchBool b (K → P) ((K → P) → ⊥)
if_kept true K P Q k m old = λ x. m (old k)
if_kept false K P Q k m old = λ g. m (old k) (g k)

pub same_length : (s t : List Line) → Within s t → length s ≡ length t → s ≡ t
same_length s [] w e = w
same_length s (l ∷ t) (inl e) long = e
same_length s (l ∷ t) (inr w) long = let bad : ⊥ = omega (arith, Within_length s t w, long) in absurd bad

-- the first lines are the history that was there before
pub prefix_is : (ns : List HistoryLine) (h : List Line) (from : ℕ) → Within h (history_of ns) → length h ≡ from → history_of (take from ns) ≡ h
prefix_is ns h from w long =
    let le : from ≤ length ns = omega (arith, Within_length h (history_of ns) w, length_history ns, long) in
    let taken : length (history_of (take from ns)) ≡ from = omega (arith, length_history (take from ns), length-take from ns) in
    elim (Within_comparable (history_of (take from ns)) h (history_of ns) (history_within ns from) w) [
      | inl v ↦ same_length (history_of (take from ns)) h v (taken ∙ sym long)
      | inr v ↦ sym (same_length h (history_of (take from ns)) v (long ∙ sym taken))
    ]

-- what is judged of noted lines is judged of the history that they are
pub looked : (premises : Premises) (header : HeaderValue) (ns : List HistoryLine) (w h : List Line) (from : ℕ) (notes : Remembered) (r : Option ℕ) →
    history_of ns ≡ w → Grown (length header.nodes) h w from → HasLineRoom (length w - from) notes → RememberedStands premises header h notes →
    ((setting : Setting) → HasClocks header setting → Timely (history_of ns) → Numbered (length header.nodes) (history_of ns) →
    HasLineRoom (length ns - from) notes → RememberedStands premises header (history_of (take from ns)) notes →
    AllKeep premises setting (history_of (take from ns)) → JudgesParts premises setting (history_of ns) r) →
    (setting : Setting) → HasClocks header setting → AllKeep premises setting h → JudgesParts premises setting w r
looked premises header ns w h from notes r is grown room stand f setting has keeps =
    let first = prefix_is ns h from (rw (← is) at grown.within) grown.long in
    rw (← is) (f setting has (rw (← is) at grown.timely) (rw (← is) at grown.numbered) (rw (← is, length_history ns) at room) (rw (← first) at stand)
    (rw (← first) at keeps))

pub looked_notes : (premises : Premises) (header : HeaderValue) (ns : List HistoryLine) (w h : List Line) (from : ℕ) (notes new : Remembered) →
    history_of ns ≡ w → Grown (length header.nodes) h w from → HasLineRoom (length w - from) notes → RememberedStands premises header h notes →
    (HasLineRoom (length ns - from) notes → RememberedStands premises header (history_of (take from ns)) notes →
    RememberedStands premises header (history_of ns) new) → RememberedStands premises header w new
looked_notes premises header ns w h from notes new is grown room stand f =
    let first = prefix_is ns h from (rw (← is) at grown.within) grown.long in
    rw (← is) (f (rw (← is, length_history ns) at room) (rw (← first) at stand))

-- the newest event begins no later than the history ends
pub begins_within : (ns : List HistoryLine) (count : ℕ) (w h : List Line) (from : ℕ) → history_of ns ≡ w → Grown count h w from → from ≤ length ns
begins_within ns count w h from is grown = omega (arith, Within_length h w grown.within, grown.long, length_history ns, ap (λ (x : List Line). length x) is)
