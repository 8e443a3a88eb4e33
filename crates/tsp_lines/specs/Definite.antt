-- Meanings for which an input has at most one answer.
use Rattle.std.specs.Prelude.{◌≡◌, ℕ, List, [], ◌∷◌, ◌++◌}
use Rattle.tsp_lines.specs.Meanings.{Meaning}

-- after any lines, at most one thing can come of the next line or of the end, with one output or one cause
pub record IsDefinite (m : Meaning) : Type 0 where
  -- lines have one output
  pub one_output : (lines : List (List ℕ)) (text other : List ℕ) → m.accepts lines text → m.accepts lines other → text ≡ other
  -- a line is accepted only after accepted lines that allow a further line, and its output follows theirs
  pub before : (lines : List (List ℕ)) (line text : List ℕ) → m.accepts (lines ++ line ∷ []) text → (¬ m.full lines) ×
      ((front : List ℕ) × (more : List ℕ) × m.accepts lines front × (text ≡ front ++ more))
  -- an accepted line isn't refused, and passes no limit
  pub not_refused : (lines : List (List ℕ)) (line text cause : List ℕ) → m.accepts (lines ++ line ∷ []) text → m.refuses lines line cause → ⊥
  pub not_limited : (lines : List (List ℕ)) (line text : List ℕ) → m.accepts (lines ++ line ∷ []) text → m.limits lines line → ⊥
  -- a refused line has one cause, and passes no limit
  pub one_cause : (lines : List (List ℕ)) (line cause other : List ℕ) → m.refuses lines line cause → m.refuses lines line other → cause ≡ other
  pub refused_within : (lines : List (List ℕ)) (line cause : List ℕ) → m.refuses lines line cause → m.limits lines line → ⊥
  -- the output of the input's end is one, and so is the cause for which the input may not end
  pub one_end : (lines : List (List ℕ)) (more other : List ℕ) → m.ends lines more → m.ends lines other → more ≡ other
  pub one_lack : (lines : List (List ℕ)) (cause other : List ℕ) → m.lacks lines cause → m.lacks lines other → cause ≡ other
  pub ended_whole : (lines : List (List ℕ)) (more cause : List ℕ) → m.ends lines more → m.lacks lines cause → ⊥
