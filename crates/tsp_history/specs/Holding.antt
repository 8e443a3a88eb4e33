-- How far Backs of one port for different candidates lie apart.
use Rattle.std.specs.Prelude.{◌≡◌, ◌≤◌, ◌⊎◌, ℕ, ◌+◌}
use Rattle.tsp_base.specs.declared.place.{PeerId.PeerId, Port.Port}
use Rattle.tsp_promises.specs.Fits.{node_of}
use Rattle.tsp_base.specs.{Words.Acts, Words.Line, declared.act.Act.TheVariants.Back, declared.constants.TheConstants.HOLD}

-- an earlier line is no Back of this port for another candidate, or stands HOLD ticks before
abbrev pub HoldsApart : ℕ → Port → ℕ → PeerId → Line → Type 0
HoldsApart n q x p other = (c : PeerId) → node_of other ≡ n → other.port ≡ q → other.did.deed ≡ Acts (Back c) → (c ≡ p) ⊎ (other.did.tick + HOLD ≤ x)
