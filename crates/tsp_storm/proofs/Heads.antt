-- The lines that a generator gives can join a header.
use Rattle.std.proofs.Common.{arith, ap, ◌∙◌, ◌≡◌, ◌≢◌, ℕ, ◌*◌, ◌<◌, ◌≤◌, ◌/◌, ◌^◌, length, [], ◌∷◌, ◌++◌, suc, false, Err, nat_abs, pos, ◌-ℤ◌, refl}
use Rattle.std.proofs.lemmas.{Int.ints, Nat.mod_below}
use Rattle.tsp_base.specs.declared.header.HeaderFault.TheVariants.{Full, Rate, Wall, OutOfMemory}
use Rattle.tsp_rules.specs.Values.{NodeLine}
use Rattle.tsp_base.specs.{Words.HeaderValue, Words.Pushes, declared.header.HeaderFault.HeaderFault}
use Rattle.tsp_storm.specs.Schedules.{after_lines, storm_lines}
use Rattle.tsp_script.specs.Storms.{StormValue, moved, drawn, storm_line}

near : (d b : ℕ) → d ≤ 2 * b → nat_abs (pos d -ℤ pos b) ≤ b
near d b h = omega (arith, ints)

-- a drawn rate keeps the drift
pub rate_near : (v : StormValue) → nat_abs (storm_line v).rate ≤ 100
rate_near v = near (drawn 201 (moved v)) 100 (omega (arith, mod_below ((moved v).state / 2 ^ 33) 201 (omega arith)))

-- a drawn wall clock is near 0
pub wall_near : (v : StormValue) → nat_abs (storm_line v).wall ≤ 1000000
wall_near v = near (drawn 2000001 (moved (moved v))) 1000000 (omega (arith, mod_below ((moved (moved v)).state / 2 ^ 33) 2000001 (omega arith)))

-- only memory can be lacking
pub joins_header : (old new : HeaderValue) (v : StormValue) (f : HeaderFault) → old.drift ≡ 100 → length old.nodes < 64 → f ≢ OutOfMemory →
    Pushes old (storm_line v) (Err f) new → ⊥
joins_header old new v Full d few n p = omega (arith, p.0, few)
joins_header old new v Rate d few n p = omega (arith, p.1, d, rate_near v)
joins_header old new v Wall d few n p = omega (arith, p.2, wall_near v)
joins_header old new v OutOfMemory d few n p = n refl
joins_header old new v _ d few n p = p

-- a header with one line more
pub header_more : (old new : HeaderValue) (line : NodeLine) (v w : StormValue) (n : ℕ) → new ≡ record old { nodes = old.nodes ++ line ∷ [] } → old ≡
    record { drift = 100; strict = false; nodes = storm_lines n v; nets = [] } → line ≡ storm_line w → w ≡ after_lines n v →
    new ≡ record { drift = 100; strict = false; nodes = storm_lines (suc n) v; nets = [] }
header_more old new line v w n is was next at =
    is ∙ ap (λ (h : HeaderValue). record h { nodes = h.nodes ++ line ∷ [] }) was ∙
    ap (λ (l : NodeLine). record { drift = 100; strict = false; nodes = storm_lines n v ++ l ∷ []; nets = [] }) (next ∙
    ap (λ (u : StormValue). storm_line u) at)
