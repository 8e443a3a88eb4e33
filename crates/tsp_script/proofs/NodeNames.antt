-- The name of a node of a generated schedule.
use Rattle.std.proofs.Common.{◌≡◌, ℕ, ◌<◌, ◌^◌, List, ◌∷◌, zero, suc, Err, subst, arith, Contains, decimal}
use Rattle.tsp_base.specs.{Words.NameGives, declared.name.NameFault.NameFault}
use Rattle.tsp_base.specs.declared.name.NameFault.TheVariants.{TooLong, HasNul}
use Rattle.tsp_script.proofs.{Cuts.no_nul_decimal, Lengths.number_length}

letter_no_nul : (digits : List ℕ) → ¬ Contains digits 0 → ¬ Contains (110 ∷ digits) 0
letter_no_nul digits n (zero, h, e) = cc
letter_no_nul digits n (suc k, h, e) = n (k, omega (arith, h), e)

name_fits : (number : ℕ) (fault : NameFault) → number < 2 ^ 64 → NameGives (Err fault) (110 ∷ decimal number) → ⊥
name_fits number TooLong h g = omega (arith, g, number_length number h)
name_fits number HasNul h g = letter_no_nul (decimal number) (no_nul_decimal number h) g.1

-- `n` and a number make a name
pub node_name_fits : (number : ℕ) (octets : List ℕ) (fault : NameFault) → octets ≡ 110 ∷ decimal number → number < 2 ^ 64 → NameGives (Err fault) octets → ⊥
node_name_fits number octets fault is h g = name_fits number fault h (subst (λ o. NameGives (Err fault) o) is g)
