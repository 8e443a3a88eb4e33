-- Questions of one port about the others.
use Rattle.std.specs.Prelude.{Bool}
use Rattle.tsp_rules.specs.GateRows.{any_port, follows_on, goes_on, leads_on, lower_ports, other_ports}
use Rattle.tsp_rules.specs.{NodeRows.NodePast, Values.Port}
use Rattle.tsp_gateway.specs.declared.leading.Asked.{Asked, TheVariants.Follows, TheVariants.Leads, TheVariants.Goes}

-- whether a port follows, is a master, or has a round going
abbrev pub asked_on : Asked → NodePast → Port → Bool
asked_on Follows past q = follows_on past q
asked_on Leads past q = leads_on past q
asked_on Goes past q = goes_on past q

-- the same of any port below q, and of any port but q
abbrev pub any_lower : Asked → Port → NodePast → Bool
any_lower asked q past = any_port (asked_on asked past) (lower_ports q past)

abbrev pub any_other : Asked → Port → NodePast → Bool
any_other asked q past = any_port (asked_on asked past) (other_ports q past)
