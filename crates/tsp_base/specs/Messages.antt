-- Bodies and messages.
use Rattle.std.specs.Prelude.{Bool, not, ◌&&◌, ℕ, List}
use Rattle.tsp_base.specs.{Kinds.carries_time, Kinds.carries_hops, declared.kind.Kind.Kind, declared.message.Body.Body}
use Rattle.tsp_base.specs.declared.message.Body.TheVariants.{Nothing, Time, Hops}

-- the body is the one that the kind carries
unfoldable pub body_fits : Kind → Body → Bool
body_fits kind (Time _) = carries_time kind
body_fits kind (Hops _) = carries_hops kind
body_fits kind Nothing = not (carries_time kind) && not (carries_hops kind)

-- a message as its readers see it
pub record MessageValue : Type 0 where
  pub kind : Kind
  pub number : ℕ
  pub body : Body
  pub name : List ℕ
