-- How a row over a node's ports is made, once for each row: of rows of single ports, and of the words that such rows are put together with.
use Rattle.std.specs.Prelude.{◌≡◌, ℕ, ◌+◌, ◌*◌, nat_le, Bool, true, ◌&&◌, if◌then◌else◌, List, []}
use Rattle.tsp_base.specs.Words.{Row}
use Rattle.tsp_rules.specs.{GateRows.other_ports, GateRows.ports_from, GateRows.stirred_ports, Values.Kind, Values.Port}
use Rattle.tsp_rules.specs.NodeRows.{NodePast, NodeRow, nothing_at_all, on, ◌and_then◌, for_ports, stirring}
use Rattle.tsp_rules.proofs.{Built.Built, Emits.Sort, RowCodes.Owed, Unchanged.unchanged}

-- nothing is known of a port
abbrev pub AnyPort : Port → Type 0
AnyPort q = Unit {0}

-- ports that rows go through
pub data PortsOf : (NodePast → List Port) → Type 0 where
  EachPort : PortsOf (λ past. ports_from 0 past.ports)
  OtherPorts : (q : Port) → PortsOf (other_ports q)
  StirredPorts : (q : Port) (kind : Kind) → PortsOf (stirred_ports q kind)

-- a row over at most four ports, of at most k acts for each peer and c besides; `has` is what is known of a port that the node has
pub data BuiltAll (o : Owed) (has : Port → Type 0) : ℕ → ℕ → NodeRow → Type 1 where
  EmptyAll : {k c : ℕ} → BuiltAll o has k c nothing_at_all
  On : {sorts : List Sort} {k c : ℕ} {row row' : Row} (q : Port) → has q → Built unchanged o sorts k c row row' → BuiltAll o has k c (on q row)
  ThenAll : {j b k c : ℕ} {r s : NodeRow} → BuiltAll o has j b r → BuiltAll o has k c s → BuiltAll o has (j + k) (b + c) (r and_then s)
  -- the row is chosen by a fact of which something is known
  ReadingAll : {k c : ℕ} {A : Type 0} {rows : A → NodeRow} (known : A → Type 0) (fact : ℕ → NodePast → A) → ((x : ℕ) (past : NodePast) → known (fact x past)) →
      ((a : A) → known a → BuiltAll o has k c (rows a)) → BuiltAll o has k c (λ x past. rows (fact x past) x past)
  WhereAll : {k c : ℕ} {row : NodeRow} (test : NodePast → Bool) → BuiltAll o has k c row → BuiltAll o has k c (λ x past. if test past then row x past else [])
  ForPorts : {k c : ℕ} {ports : NodePast → List Port} {row : Port → NodeRow} → PortsOf ports → ((q : Port) → has q → BuiltAll o has k c (row q)) →
      BuiltAll o has (k * 4) (c * 4) (λ x past. for_ports row (ports past) x past)
  StirringAll : {sorts : List Sort} {k c : ℕ} {ports : NodePast → List Port} {row row' : Row} (q : Port) → has q → PortsOf ports →
      Built unchanged o sorts k c row row' → BuiltAll o has k (c + 4) (λ x past. stirring q (ports past) row x past)
  MoreAll : {j b k c : ℕ} {row : NodeRow} → BuiltAll o has j b row → (nat_le j k && nat_le b c) ≡ true → BuiltAll o has k c row
