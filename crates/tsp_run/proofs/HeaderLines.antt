-- The nodes of a header.
use Rattle.std.proofs.Common.{sym, subst, arith, inl, inr, ℕ, ◌≤◌, length, nat_abs}
use Rattle.std.proofs.lemmas.{Bool.cases_lt, List.get_or_past, List.Elements.All-weaker}
use Rattle.tsp_rules.specs.Values.{NodeLine}
use Rattle.tsp_base.specs.Words.{HeaderValue, IsHeader, IsName, KeepsDrift}
use Rattle.tsp_promises.proofs.leads.SoundFacts.{no_name}
use Rattle.tsp_run.specs.{Clocked.IsSetUp, Setup.node_line, Setup.nobody}

-- no node's clock passes the drift
pub rate_node_line : (header : HeaderValue) → IsHeader header → (n : ℕ) → nat_abs (node_line header n).rate ≤ header.drift
rate_node_line header is n = elim (cases_lt n (length header.nodes)) [
  | inl within ↦ (is.kept n nobody within).rate
  | inr past ↦ subst (λ (l : NodeLine). nat_abs l.rate ≤ header.drift) (sym (get_or_past header.nodes n nobody past)) (omega arith)
]

-- the header of a schedule sets its nodes up
pub set_up_of : (header : HeaderValue) → IsHeader header → IsSetUp header
set_up_of header is = record {
  small = is.small;
  named = All-weaker (KeepsDrift header.drift) (λ (line : NodeLine). IsName line.name) (λ line kept. kept.name) header.nodes is.kept;
  nets_are = is.nets_are;
  few_ports = is.few_ports;
}

-- each node has a name
pub name_node_line : (header : HeaderValue) → IsSetUp header → (n : ℕ) → IsName (node_line header n).name
name_node_line header is n = elim (cases_lt n (length header.nodes)) [
  | inl within ↦ is.named n nobody within
  | inr past ↦ subst (λ (l : NodeLine). IsName l.name) (sym (get_or_past header.nodes n nobody past)) no_name
]
