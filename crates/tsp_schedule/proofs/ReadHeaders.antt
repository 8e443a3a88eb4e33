-- The header of lines that are a schedule's keeps its ranges.
use Rattle.std.proofs.Common.{◌≡◌, ℕ, ◌≤◌, length, ap, inl, inr, List, [], ◌∷◌, ◌++◌, length-append, sym, subst, arith, ◌==◌, Bool, true, false, if◌then◌else◌}
use Rattle.std.proofs.lemmas.List.Elements.{All-push}
use Rattle.tsp_base.specs.{Words.HeaderValue, Words.IsHeader, Words.KeepsDrift, declared.event.Event.Event}
use Rattle.tsp_base.{proofs.HeaderLemmas.IsHeader_joined, specs.declared.header.NodeLine.NodeLine}
use Rattle.tsp_schedule.specs.Schedules.{Progress, Untitled, Titled, Drifted, Heading, Running, Ended, Takes, TakesNet, new_header, RunsOn, GoesOn, Reaches}
use Rattle.tsp_schedule.specs.Refusing.{Refusing}

-- the header that was read so far keeps its ranges
abbrev pub KeepsHeader : Progress → Type 0
KeepsHeader (Drifted drift) = drift ≤ 1000
KeepsHeader (Heading header) = IsHeader header
KeepsHeader (Running header events) = IsHeader header
KeepsHeader (Ended header events) = IsHeader header
KeepsHeader _ = Unit {0}

no_nodes : (drift : ℕ) (strict : Bool) → drift ≤ 1000 → IsHeader (new_header drift strict)
no_nodes drift strict small = record {
  small = small;
  few = omega arith;
  kept = λ k d h. absurd (omega (arith, h));
  few_nets = omega arith;
  nets_are = λ k d h. absurd (omega (arith, h));
  few_ports = λ n. omega arith;
}

one_node : (header : HeaderValue) (node : NodeLine) → IsHeader header → Takes header node → IsHeader (record header { nodes = header.nodes ++ node ∷ [] })
one_node header node h t = record {
  small = h.small;
  few = omega (arith, t.few, length-append header.nodes (node ∷ []));
  kept = All-push (KeepsDrift header.drift) header.nodes node h.kept t.kept;
  few_nets = h.few_nets;
  nets_are = λ k d below. let none : length header.nets ≡ 0 = ap length t.unjoined in absurd (omega (arith, below, none));
  few_ports = h.few_ports;
}

one_net : (header : HeaderValue) (m : List ℕ) → IsHeader header → TakesNet header m → IsHeader (record header { nets = header.nets ++ m ∷ [] })
one_net header m h t = IsHeader_joined header m h t.few t.joins

module _ (refused : Refusing) where
  run_header : (header : HeaderValue) (events : List Event) (line : List ℕ) (to : Progress) → IsHeader header → RunsOn refused header events line to →
      KeepsHeader to
  run_header header events line to h (inl g) = subst (λ p. KeepsHeader p) (sym g.3) h
  run_header header events line to h (inr g) = subst (λ p. KeepsHeader p) (sym g.1) h

  goes_header : (p : Progress) (line : List ℕ) (to : Progress) → KeepsHeader p → GoesOn refused p line to → KeepsHeader to
  goes_header Untitled line to h g = subst (λ p. KeepsHeader p) (sym g.2) tt
  goes_header (Titled version) line to h g = subst (λ p. KeepsHeader p) (sym g.2) (by_version (version == 2)) where
    by_version : (strict : Bool) → KeepsHeader (if strict then Drifted g.0 else Heading (new_header g.0 false))
    by_version true = g.1.1
    by_version false = no_nodes g.0 false g.1.1
  goes_header (Drifted drift) line to h g = subst (λ p. KeepsHeader p) (sym g.1) (no_nodes drift true h)
  goes_header (Heading header) line to h (inl g) = subst (λ p. KeepsHeader p) (sym g.3) (one_node header g.0 h g.2)
  goes_header (Heading header) line to h (inr (inl g)) = subst (λ p. KeepsHeader p) (sym g.3) (one_net header g.0 h g.2)
  goes_header (Heading header) line to h (inr (inr g)) = run_header header [] line to h g.2
  goes_header (Running header events) line to h g = run_header header events line to h g
  goes_header (Ended header events) line to h g = absurd g

  -- so it is wherever lines have brought it
  pub Reaches_header : (lines : List (List ℕ)) (p : Progress) → Reaches refused lines p → KeepsHeader p
  Reaches_header [] p r = subst (λ q. KeepsHeader q) (sym r) tt
  Reaches_header (line ∷ before) p r = goes_header r.0 line p (Reaches_header before r.0 r.1) r.2
