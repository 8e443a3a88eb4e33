use Rattle.std.proofs.Common.{◌≡◌, ◌++◌, List, ℕ, length, flat_map}
use Rattle.hex.specs.Hex.{IsBytes}
use Rattle.tsp_base.specs.Words.{IsName}
use Rattle.tsp_script.{proofs.NameTexts.Left, specs.Texts.escaped, specs.Texts.name_text}
use Rattle.tsp_script.proofs.names.unescaped.Given as goal

abbrev pub invariant-loop-rest : goal.invariant-loop-rest
invariant-loop-rest l = IsBytes l.octets.items
    × (l.fn.text ≡ flat_map escaped l.octets.items ++ l.rest)
    × ((name : List ℕ) → IsName name → IsBytes name → l.fn.text ≡ name_text name → Left name l.octets.items l.rest)

abbrev pub decreases-loop-rest : goal.decreases-loop-rest
decreases-loop-rest l = length l.rest
