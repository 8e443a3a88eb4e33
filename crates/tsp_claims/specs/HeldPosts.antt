-- Claimed posts that are held.
use Rattle.std.specs.Prelude.{Option, None, Some}
use Rattle.tsp_base.specs.declared.act.Act.{Act, TheVariants.Boot}

-- the act, where there is one
abbrev pub act_in : Option Act → Act
act_in None = Boot
act_in (Some act) = act
