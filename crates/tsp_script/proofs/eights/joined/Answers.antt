use Rattle.std.proofs.Common.{refl}
use Rattle.tsp_script.proofs.Digits.{joined_value}
use Rattle.tsp_script.proofs.eights.joined.Goals as goal

pub returns : goal.returns
returns c = λ a b d e f g h i a' b' d' e' f' g' h' i' is. joined_value a b d e f g h i c.args.word _ _ a' b' d' e' f' g' h' i' is refl refl
