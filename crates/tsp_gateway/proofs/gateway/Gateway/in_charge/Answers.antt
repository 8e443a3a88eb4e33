-- The one, or else the other.
use Rattle.std.proofs.Common.{◌≡◌, ◌∙◌, false, refl, sym, true, ◌||◌, Bool}
use Rattle.std.proofs.lemmas.Bool.{or_left}
use Rattle.tsp_gateway.proofs.gateway.Gateway.in_charge.Goals as goal

or-second : (a b : Bool) → a ≡ false → (a || b) ≡ b
or-second true b e = let bad : ⊥ = cc in absurd bad
or-second false b e = refl

pub returns-then-steers : goal.returns-then-steers
returns-then-steers c x past h = c.if-steers.true ∙ sym (or_left _ _ (sym (c.steers.ensures x past h) ∙ c.if-steers.true))

pub returns-else-steers : goal.returns-else-steers
returns-else-steers c x past h = c.leads_clock.ensures x past h ∙ sym (or-second _ _ (sym (c.steers.ensures x past h) ∙ c.if-steers.false))
