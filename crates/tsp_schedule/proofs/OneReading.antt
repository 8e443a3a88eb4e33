-- Lines are read in one way, and none of a schedule is refused.
use Rattle.std.proofs.Common.{◌≡◌, ℕ, inl, inr, List, [], ◌∷◌, ◌++◌, None, sym, ap, ◌∙◌, subst}
use Rattle.tsp_base.specs.{Words.HeaderValue, declared.event.Event.Event, declared.header.NodeLine.NodeLine}
use Rattle.tsp_script.specs.declared.event_line.EventItem.TheVariants.{Event as EventOf, End}
use Rattle.tsp_script.specs.declared.head_line.HeadItem.TheVariants.{Title, Drift, Strict, Node, Net, NotHead}
use Rattle.tsp_script.specs.Schedules.{SpellsEvent, SpellsHead}
use Rattle.tsp_script.proofs.{EventLines.SpellsEvent_one, EventLines.events_apart, HeadLines.SpellsHead_one}
use Rattle.tsp_schedule.specs.Schedules.{Progress, Untitled, Titled, Drifted, Heading, Running, Ended, Takes, TakesNet, next_place, RunsOn, GoesOn, Reaches}
use Rattle.tsp_schedule.specs.Schedules.{Refuses, RefusesRun, RefusesHeading, IsComplete, Limits, LimitsRun, drifted}
use Rattle.tsp_schedule.specs.Refusing.{Refusing}

pub event_end : (line : List ℕ) (e : Event) → SpellsEvent line (EventOf e) → SpellsEvent line End → ⊥
event_end line e s t = let p = SpellsEvent_one line (EventOf e) End s t in absurd (cc)

same_node : (place : ℕ) (line : List ℕ) (m n : NodeLine) → SpellsHead place line (Node m) → SpellsHead place line (Node n) → m ≡ n
same_node place line m n s t = let p = SpellsHead_one place line (Node m) (Node n) s t in cc

pub node_end : (place : ℕ) (line : List ℕ) (n : NodeLine) → SpellsHead place line (Node n) → SpellsHead place line NotHead → ⊥
node_end place line n s t = let p = SpellsHead_one place line (Node n) NotHead s t in absurd (cc)

same_net : (place : ℕ) (line m n : List ℕ) → SpellsHead place line (Net m) → SpellsHead place line (Net n) → m ≡ n
same_net place line m n s t = let p = SpellsHead_one place line (Net m) (Net n) s t in cc

node_net : (place : ℕ) (line : List ℕ) (n : NodeLine) (m : List ℕ) → SpellsHead place line (Node n) → SpellsHead place line (Net m) → ⊥
node_net place line n m s t = let p = SpellsHead_one place line (Node n) (Net m) s t in absurd (cc)

pub net_end : (place : ℕ) (line m : List ℕ) → SpellsHead place line (Net m) → SpellsHead place line NotHead → ⊥
net_end place line m s t = let p = SpellsHead_one place line (Net m) NotHead s t in absurd (cc)

-- a node or a network that the header takes, and a line that ends it where it may end, are not refused
node_kept : (header : HeaderValue) (line : List ℕ) (n : NodeLine) → SpellsHead (next_place header) line (Node n) → Takes header n → RefusesHeading header line →
    ⊥
node_kept header line n s t (inl none) = none (Node n) s
node_kept header line n s t (inr (inl (node, u, k))) = k (subst (λ x. Takes header x) (same_node (next_place header) line n node s u) t)
node_kept header line n s t (inr (inr (inl (members, u, k)))) = node_net (next_place header) line n members s u
node_kept header line n s t (inr (inr (inr (inl r)))) = node_end (next_place header) line n s r.0
node_kept header line n s t (inr (inr (inr (inr r)))) = let p = SpellsHead_one (next_place header) line (Node n) Strict s r in cc

net_kept : (header : HeaderValue) (line m : List ℕ) → SpellsHead (next_place header) line (Net m) → TakesNet header m → RefusesHeading header line → ⊥
net_kept header line m s t (inl none) = none (Net m) s
net_kept header line m s t (inr (inl (node, u, k))) = node_net (next_place header) line node m u s
net_kept header line m s t (inr (inr (inl (members, u, k)))) = k (subst (λ x. TakesNet header x) (same_net (next_place header) line m members s u) t)
net_kept header line m s t (inr (inr (inr (inl r)))) = net_end (next_place header) line m s r.0
net_kept header line m s t (inr (inr (inr (inr r)))) = let p = SpellsHead_one (next_place header) line (Net m) Strict s r in cc

pub end_kept : (header : HeaderValue) (line : List ℕ) → SpellsHead (next_place header) line NotHead → IsComplete header → RefusesHeading header line → ⊥
end_kept header line s t (inl none) = none NotHead s
end_kept header line s t (inr (inl (node, u, k))) = node_end (next_place header) line node u s
end_kept header line s t (inr (inr (inl (members, u, k)))) = net_end (next_place header) line members u s
end_kept header line s t (inr (inr (inr (inl r)))) = r.1 t
end_kept header line s t (inr (inr (inr (inr r)))) = let p = SpellsHead_one (next_place header) line NotHead Strict s r in cc

module _ (refused : Refusing) where
  -- a line brings a schedule to one place
  RunsOn_one : (header : HeaderValue) (events : List Event) (line : List ℕ) (p q : Progress) → RunsOn refused header events line p →
      RunsOn refused header events line q → p ≡ q
  RunsOn_one header events line p q (inl g) (inl h) = g.3 ∙ ap (λ e. Running header (e ∷ events)) (events_apart line g.0 h.0 g.1 h.1) ∙ sym h.3
  RunsOn_one header events line p q (inl g) (inr h) = absurd (event_end line g.0 g.1 h.0)
  RunsOn_one header events line p q (inr g) (inl h) = absurd (event_end line h.0 h.1 g.0)
  RunsOn_one header events line p q (inr g) (inr h) = g.1 ∙ sym h.1

  GoesOn_one : (at : Progress) (line : List ℕ) (p q : Progress) → GoesOn refused at line p → GoesOn refused at line q → p ≡ q
  GoesOn_one Untitled line p q g h =
      let t = SpellsHead_one 1 line (Title g.0) (Title h.0) g.1 h.1 in
      let same : g.0 ≡ h.0 = cc in g.2 ∙ ap Titled same ∙ sym h.2
  GoesOn_one (Titled version) line p q g h =
      let t = SpellsHead_one 2 line (Drift g.0) (Drift h.0) g.1 h.1 in
      let same : g.0 ≡ h.0 = cc in g.2 ∙ ap (λ d. drifted version d) same ∙ sym h.2
  GoesOn_one (Drifted drift) line p q g h = g.1 ∙ sym h.1
  GoesOn_one (Heading header) line p q (inl g) (inl h) = g.3 ∙ ap (λ n. Heading (record header { nodes = header.nodes ++ n ∷ [] }))
      (same_node (next_place header) line g.0 h.0 g.1 h.1) ∙ sym h.3
  GoesOn_one (Heading header) line p q (inl g) (inr (inl h)) = absurd (node_net (next_place header) line g.0 h.0 g.1 h.1)
  GoesOn_one (Heading header) line p q (inl g) (inr (inr h)) = absurd (node_end (next_place header) line g.0 g.1 h.0)
  GoesOn_one (Heading header) line p q (inr (inl g)) (inl h) = absurd (node_net (next_place header) line h.0 g.0 h.1 g.1)
  GoesOn_one (Heading header) line p q (inr (inl g)) (inr (inl h)) = g.3 ∙ ap (λ m. Heading (record header { nets = header.nets ++ m ∷ [] }))
      (same_net (next_place header) line g.0 h.0 g.1 h.1) ∙ sym h.3
  GoesOn_one (Heading header) line p q (inr (inl g)) (inr (inr h)) = absurd (net_end (next_place header) line g.0 g.1 h.0)
  GoesOn_one (Heading header) line p q (inr (inr g)) (inl h) = absurd (node_end (next_place header) line h.0 h.1 g.0)
  GoesOn_one (Heading header) line p q (inr (inr g)) (inr (inl h)) = absurd (net_end (next_place header) line h.0 h.1 g.0)
  GoesOn_one (Heading header) line p q (inr (inr g)) (inr (inr h)) = RunsOn_one header [] line p q g.2 h.2
  GoesOn_one (Running header events) line p q g h = RunsOn_one header events line p q g h
  GoesOn_one (Ended header events) line p q g h = absurd g

  pub Reaches_one : (lines : List (List ℕ)) (p q : Progress) → Reaches refused lines p → Reaches refused lines q → p ≡ q
  Reaches_one [] p q r s = r ∙ sym s
  Reaches_one (line ∷ before) p q r s = GoesOn_one r.0 line p q r.2 (subst (λ x. GoesOn refused x line q) (sym (Reaches_one before r.0 s.0 r.1 s.1)) s.2)

  -- a line that goes on is not refused
  RunsOn_not_refused : (header : HeaderValue) (events : List Event) (line cause : List ℕ) (p : Progress) → RunsOn refused header events line p →
      RefusesRun refused header events line cause → ⊥
  RunsOn_not_refused header events line cause p (inl g) (inl (none, c)) = none (EventOf g.0) g.1
  RunsOn_not_refused header events line cause p (inl g) (inr (e, fault, s, f, w)) =
      let same = events_apart line g.0 e g.1 s in
      let none : refused header events e ≡ None = rw (sym same) g.2 in
      absurd (cc)
  RunsOn_not_refused header events line cause p (inr g) (inl (none, c)) = none End g.0
  RunsOn_not_refused header events line cause p (inr g) (inr r) = event_end line r.0 r.2 g.0

  pub GoesOn_not_refused : (at : Progress) (line cause : List ℕ) (p : Progress) → GoesOn refused at line p → Refuses refused at line cause → ⊥
  GoesOn_not_refused Untitled line cause p g r = r.0 g.0 g.1
  GoesOn_not_refused (Titled version) line cause p g r = r.0 (Drift g.0) g.1
  GoesOn_not_refused (Drifted drift) line cause p g r = r.0 g.0
  GoesOn_not_refused (Heading header) line cause p (inl g) (inl r) = node_kept header line g.0 g.1 g.2 r.0
  GoesOn_not_refused (Heading header) line cause p (inl g) (inr r) = node_end (next_place header) line g.0 g.1 r.0
  GoesOn_not_refused (Heading header) line cause p (inr (inl g)) (inl r) = net_kept header line g.0 g.1 g.2 r.0
  GoesOn_not_refused (Heading header) line cause p (inr (inl g)) (inr r) = net_end (next_place header) line g.0 g.1 r.0
  GoesOn_not_refused (Heading header) line cause p (inr (inr g)) (inl r) = end_kept header line g.0 g.1 r.0
  GoesOn_not_refused (Heading header) line cause p (inr (inr g)) (inr r) = RunsOn_not_refused header [] line cause p g.2 r.2
  GoesOn_not_refused (Running header events) line cause p g r = RunsOn_not_refused header events line cause p g r
  GoesOn_not_refused (Ended header events) line cause p g r = g

  -- and passes no limit
  RunsOn_not_limited : (header : HeaderValue) (events : List Event) (line : List ℕ) (p : Progress) → RunsOn refused header events line p →
      LimitsRun refused header events line → ⊥
  RunsOn_not_limited header events line p (inl g) (e, a, b, s, f) =
      let same = events_apart line g.0 e g.1 s in
      let none : refused header events e ≡ None = rw (sym same) g.2 in
      absurd (cc)
  RunsOn_not_limited header events line p (inr g) r = event_end line r.0 r.3 g.0

  pub GoesOn_not_limited : (at : Progress) (line : List ℕ) (p : Progress) → GoesOn refused at line p → Limits refused at line → ⊥
  GoesOn_not_limited (Heading header) line p (inl g) r = node_end (next_place header) line g.0 g.1 r.0
  GoesOn_not_limited (Heading header) line p (inr (inl g)) r = net_end (next_place header) line g.0 g.1 r.0
  GoesOn_not_limited (Heading header) line p (inr (inr g)) r = RunsOn_not_limited header [] line p g.2 r.2
  GoesOn_not_limited (Running header events) line p g r = RunsOn_not_limited header events line p g r
  GoesOn_not_limited _ line p g r = r
