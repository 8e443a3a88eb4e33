-- Reading a list of equals.
use Rattle.std.proofs.Common.{◌≡◌, ℕ, Some, slice_get, replicate, sym, ◌∙◌, arith}
use Rattle.std.proofs.lemmas.{List.get_or-replicate, List.length-replicate, Option.slice_get_within, Option.get_or_from_slice_get}

-- all that stands in a list of equals is equal
pub slice_get_replicate : {X : Type 0} (n k : ℕ) (a x : X) → slice_get (replicate n a) k ≡ Some x → x ≡ a
slice_get_replicate n k a x is =
    let within = slice_get_within (replicate n a) k x is in
    let len = length-replicate n a in
    sym (get_or_from_slice_get (replicate n a) k x a is) ∙ get_or-replicate n k a a (omega (arith, within, len))
