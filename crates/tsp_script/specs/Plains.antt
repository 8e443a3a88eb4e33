-- Lines of events without octets.
use Rattle.tsp_base.specs.declared.plain.Plain.{Plain, TheVariants.Boot as PlainBoot}

-- a node looks at its timers, or a datagram is taken
abbrev pub IsTurnOrTake : Plain → Type 0
IsTurnOrTake (PlainBoot at node word) = ⊥
IsTurnOrTake _ = Unit {0}
