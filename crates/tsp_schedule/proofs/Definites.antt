-- At each place of a schedule's lines one thing at most may follow.
use Rattle.std.proofs.Common.{◌≡◌, ℕ, inl, inr, List, [], Some, sym, ap, ◌∙◌, subst}
use Rattle.tsp_base.specs.declared.event.EventFault.TheVariants.{Limit, OutOfMemory}
use Rattle.tsp_base.specs.{Words.HeaderValue, declared.event.Event.Event, declared.event.EventFault.EventFault}
use Rattle.tsp_script.{proofs.EventLines.events_apart, specs.declared.event_line.EventItem.TheVariants.Event as EventOf}
use Rattle.tsp_schedule.specs.Schedules.{Progress, Untitled, Titled, Drifted, Heading, Running, Ended, IsCause, Refuses, RefusesRun, Limits, LimitsRun, Lacks}
use Rattle.tsp_schedule.specs.Schedules.{IsEnded}
use Rattle.tsp_schedule.{proofs.OneReading.end_kept, specs.Refusing.Refusing}

-- a fault has one cause
IsCause_one : (fault : EventFault) (cause other : List ℕ) → IsCause fault cause → IsCause fault other → cause ≡ other
IsCause_one (Limit a b) cause other c d = absurd c
IsCause_one OutOfMemory cause other c d = absurd c
IsCause_one _ cause other c d = c ∙ sym d

-- the input may not end for one cause, and only before the last line
pub Lacks_one : (p : Progress) (cause other : List ℕ) → Lacks p cause → Lacks p other → cause ≡ other
Lacks_one (Heading header) cause other (inl r) (inl s) = r.1 ∙ sym s.1
Lacks_one (Heading header) cause other (inl r) (inr s) = absurd (r.0 s.0)
Lacks_one (Heading header) cause other (inr r) (inl s) = absurd (s.0 r.0)
Lacks_one (Heading header) cause other (inr r) (inr s) = r.1 ∙ sym s.1
Lacks_one (Ended header events) cause other r s = absurd r
Lacks_one _ cause other r s = r ∙ sym s

pub Lacks_not_ended : (p : Progress) (cause : List ℕ) → IsEnded p → Lacks p cause → ⊥
Lacks_not_ended (Ended header events) cause e l = l
Lacks_not_ended _ cause e l = e

module _ (refused : Refusing) where
  -- an event is refused for one fault
  same_refusal : (header : HeaderValue) (events : List Event) (e f : Event) (fault other : EventFault) → e ≡ f → refused header events e ≡ Some fault →
      refused header events f ≡ Some other → fault ≡ other
  same_refusal header events e f fault other s r t = let p : Some fault ≡ Some other = sym r ∙ ap (λ x. refused header events x) s ∙ t in cc

  RefusesRun_one : (header : HeaderValue) (events : List Event) (line cause other : List ℕ) → RefusesRun refused header events line cause →
      RefusesRun refused header events line other → cause ≡ other
  RefusesRun_one header events line cause other (inl r) (inl s) = r.1 ∙ sym s.1
  RefusesRun_one header events line cause other (inl r) (inr s) = absurd (r.0 (EventOf s.0) s.2)
  RefusesRun_one header events line cause other (inr r) (inl s) = absurd (s.0 (EventOf r.0) r.2)
  RefusesRun_one header events line cause other (inr (e, fault, spells, r, c)) (inr (f, faults, others, s, d)) =
      let same = same_refusal header events e f fault faults (events_apart line e f spells others) r s in
      IsCause_one faults cause other (subst (λ x. IsCause x cause) same c) d

  -- a line is refused for one cause, and passes no limit
  pub Refuses_one : (p : Progress) (line cause other : List ℕ) → Refuses refused p line cause → Refuses refused p line other → cause ≡ other
  Refuses_one Untitled line cause other r s = r.1 ∙ sym s.1
  Refuses_one (Titled version) line cause other r s = r.1 ∙ sym s.1
  Refuses_one (Drifted drift) line cause other r s = r.1 ∙ sym s.1
  Refuses_one (Heading header) line cause other (inl r) (inl s) = r.1 ∙ sym s.1
  Refuses_one (Heading header) line cause other (inl r) (inr s) = absurd (end_kept header line s.0 s.1 r.0)
  Refuses_one (Heading header) line cause other (inr r) (inl s) = absurd (end_kept header line r.0 r.1 s.0)
  Refuses_one (Heading header) line cause other (inr r) (inr s) = RefusesRun_one header [] line cause other r.2 s.2
  Refuses_one (Running header events) line cause other r s = RefusesRun_one header events line cause other r s
  Refuses_one (Ended header events) line cause other r s = r ∙ sym s

  run_within : (header : HeaderValue) (events : List Event) (line cause : List ℕ) → RefusesRun refused header events line cause →
      LimitsRun refused header events line → ⊥
  run_within header events line cause (inl r) (e, a, b, spells, l) = r.0 (EventOf e) spells
  run_within header events line cause (inr (e, fault, spells, r, c)) (f, a, b, others, l) =
      let same = same_refusal header events e f fault (Limit a b) (events_apart line e f spells others) r l in
      subst (λ x. IsCause x cause) same c

  pub Refuses_within : (p : Progress) (line cause : List ℕ) → Refuses refused p line cause → Limits refused p line → ⊥
  Refuses_within (Heading header) line cause (inl r) l = end_kept header line l.0 l.1 r.0
  Refuses_within (Heading header) line cause (inr r) l = run_within header [] line cause r.2 l.2
  Refuses_within (Running header events) line cause r l = run_within header events line cause r l
  Refuses_within _ line cause r l = l
