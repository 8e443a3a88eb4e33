-- Laws of the first line of octets.
use Rattle.std.proofs.Common.{◌≡◌, ℕ, ◌<◌, ◌≤◌, ◌-◌, List, [], ◌∷◌, ◌++◌, sym, ap, ◌∙◌, subst, append_assoc, length, take, drop, length-append, arith}
use Rattle.std.proofs.Math.Seq.{take-append_seam}
use Rattle.tsp_lines.specs.Lines.{IsAhead, IsFront, line_ahead}

-- a line at the front is the first
pub line_ahead_front : (octets line : List ℕ) (count : ℕ) → IsFront octets count line → line ≡ line_ahead octets count
line_ahead_front octets line count f =
    let n : count - 1 ≡ length line = omega (arith, f.1) in
    let e : octets ≡ line ++ (10 ∷ drop count octets) = f.2 ∙ append_assoc line (10 ∷ []) (drop count octets) in
    sym (take-append_seam line (10 ∷ drop count octets)) ∙ (ap (λ l. take (length line) l) (sym e) ∙ ap (λ k. take k octets) (sym n))

pub IsAhead_front : (octets line : List ℕ) (count : ℕ) → IsFront octets count line → IsAhead octets count
IsAhead_front octets line count f = subst (λ l. IsFront octets count l) (line_ahead_front octets line count f) f

-- it has at least its line feed, and is within the octets
pub ahead_within : (octets : List ℕ) (count : ℕ) → IsAhead octets count → (0 < count) × (count ≤ length octets)
ahead_within octets count f =
    let line = line_ahead octets count in
    let e : length octets ≡ length ((line ++ 10 ∷ []) ++ drop count octets) = ap length f.2 in
    (omega (arith, f.1), omega (arith, f.1, e, length-append (line ++ 10 ∷ []) (drop count octets), length-append line (10 ∷ [])))
