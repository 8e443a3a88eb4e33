-- What is possible stays so without its last event, and what is accepted is possible.
use Rattle.std.proofs.Common.{ap, arith, inl, inr, length-append, subst, sym, ◌∙◌, ◌≡◌, ◌<◌, ◌≤◌, ◌^◌, ℕ, suc, ◌+◌, List, [], ◌∷◌, ◌++◌, length, Option, None}
use Rattle.std.proofs.Common.{Some, slice_get, refl}
use Rattle.std.proofs.lemmas.List.Elements.{All-tail}
use Rattle.tsp_rules.specs.Values.{Act, Post, Placed, Event, BootAt, Turn, Take, Bytes, Peer}
use Rattle.tsp_rules.specs.{GateRows.GotOn, GateRows.NodeTurn, GateRows.answers_all, GateRows.boots_all, NodeRows.NodeRow}
use Rattle.tsp_base.specs.Words.{HeaderValue, IsHeader, Handed, Line, Step, Turned, peer_of, stepped}
use Rattle.tsp_codec.specs.Taken.{taken_of}
use Rattle.tsp_run.specs.Networks.{networks, ports_on, room}
use Rattle.tsp_run.{specs.Ranges.IsInRange, proofs.CalmPorts.step_most, proofs.RefusalLemmas.allowed, proofs.RefusalLemmas.allowed_possible}
use Rattle.tsp_run.specs.Clocked.{Clocks, PossibleBy, happening_by, run_by}
use Rattle.tsp_run.{specs.Possible.AcceptedIsPossible, specs.Possible.Happens, proofs.RunLemmas.posts_stepped}
use Rattle.tsp_run.specs.Refusals.{Valid, most_posts, node_in, refusal, scene}
use Rattle.tsp_run.specs.Run.{Happening, boot_step, goes_to, joins, posted_by, posts, posts_from, run, step_tick, steps}
use Rattle.tsp_run.proofs.Happens.{acts_by, boot_few, got_acts, stepping, steps_are, taken_in, takes_or, taking, taking_row, taking_step, turn_few}

-- how many datagrams were posted after a step
count_stepped : (step : Step) (x : ℕ) (acts : List Placed) (h : List Line) → length (posts (stepped step x acts h)) ≡
    length (posts h) + length (posts_from step.at step.node acts)
count_stepped step x acts h = ap (λ ps. length ps) (posts_stepped step x acts h) ∙ length-append (posts h) (posts_from step.at step.node acts)

-- no fewer than before it
count_joins : (o : Option Happening) (h : List Line) → length (posts h) ≤ length (posts (joins o h))
count_joins None h = omega arith
count_joins (Some k) h = let same = count_stepped k.step k.tick k.acts h in omega (arith, same)

-- what was possible before the last event
pub possible_before : (clocks : Clocks) (header : HeaderValue) (e : Event) (before : List Event) → PossibleBy clocks header (e ∷ before) →
    PossibleBy clocks header before
possible_before clocks header e before p = record {
  header_is = p.header_is;
  keeps = p.keeps;
  ranges = All-tail IsInRange e before p.ranges;
  happens = p.happens.1;
  few = (let few = p.few in let kept = count_joins (happening_by clocks header (run_by clocks header before) e) (run_by clocks header before) in
      omega (arith, few, kept));
}

-- a step posts at most one datagram an act
few_from : (at node : ℕ) (acts : List Placed) → length (posts_from at node acts) ≤ length acts
few_from at node [] = omega arith
few_from at node (p ∷ rest) = by_act p.act (few_from at node rest) where
  by_act : (a : Act) → length (posts_from at node rest) ≤ length rest → length (posted_by at node p.port a ++ posts_from at node rest) ≤ suc (length rest)
  by_act (Post to datagram) more = omega (arith, more)
  by_act _ more = omega (arith, more)

module _ {header : HeaderValue} (is : IsHeader header) (before : List Event) where
  -- if there was room before a step of few acts, fewer than 2^64 datagrams are posted after it
  few_stepped : (row : NodeRow) (step : Step) → length (acts_by header (run header before) row step) ≤ step_most (room (ports_on step.node (networks header))) →
      length (posts (run header before)) + room (ports_on step.node (networks header)) ≤ most_posts →
      length (posts (joins (Some (stepping header (run header before) row step)) (run header before))) < 2 ^ 64
  few_stepped row step few wide =
      let acts = acts_by header (run header before) row step in
      let same = count_stepped step (step_tick header step) acts (run header before) in
      omega (arith, same, few_from step.at step.node acts, few, wide)

  -- so it is with a step as a run has it
  by_row : (row : NodeRow) (step : Step) → length (posts (joins (Some (stepping header (run header before) row step)) (run header before))) < 2 ^ 64 →
      length (posts (joins (Some (steps header (run header before) row step)) (run header before))) < 2 ^ 64
  by_row row step few = subst (λ (k : Happening). length (posts (joins (Some k) (run header before))) < 2 ^ 64)
      (sym (steps_are header (run header before) row step)) few

  -- so it is after each event that isn't refused
  few_event : (e : Event) → refusal (scene header before) e ≡ None → length (posts (run header before)) < 2 ^ 64 →
      length (posts (run header (e ∷ before))) < 2 ^ 64
  few_event (BootAt at node word) none older =
      let step = boot_step header at node word in
      by_row boots_all step (few_stepped boots_all step (boot_few is (run header before) step) ((allowed (scene header before) (BootAt at node word) none).posts
      node refl))
  few_event (Turn at node) none older =
      let step : Step = record { at = at; node = node; cause = Turned } in
      let row = answers_all NodeTurn in
      by_row row step (few_stepped row step (turn_few is (run header before) step) ((allowed (scene header before) (Turn at node) none).posts node refl))
  few_event (Bytes at node port from octets) none older =
      let step : Step = record { at = at; node = node; cause = Handed } in
      let row = answers_all (GotOn port from (taken_of octets)) in
      let a = allowed (scene header before) (Bytes at node port from octets) none in
      by_row row step (few_stepped row step (got_acts is (run header before) step port from (taken_of octets) a.node.1).few (a.posts node refl))
  few_event (Take at k) none older = elim (takes_or header (run header before) at k) [
    | inl a ↦
        let step = taking_step at k a.to in
        let row = taking_row a.post a.to in
        let goes : node_in (goes_to (networks header) (slice_get (posts (run header before)) k)) ≡ Some a.to.node =
        ap (λ o. node_in (goes_to (networks header) o)) a.there ∙ ap (λ o. node_in o) a.goes in
        let few = (got_acts is (run header before) step a.to.port (Peer (peer_of a.post.from)) (taken_in a.post) a.has).few in
        subst (λ o. length (posts (joins o (run header before))) < 2 ^ 64) (sym (taking header (run header before) at k a))
        (few_stepped row step few ((allowed (scene header before) (Take at k) none).posts a.to.node goes))
    | inr nothing ↦ subst (λ o. length (posts (joins o (run header before))) < 2 ^ 64) (sym nothing.1) older
  ]

-- fewer than 2^64 datagrams are posted by events that aren't refused
few_accepted : (header : HeaderValue) → IsHeader header → (events : List Event) → Valid header events → length (posts (run header events)) < 2 ^ 64
few_accepted header is [] v = omega arith
few_accepted header is (e ∷ before) v = few_event is before e v.0 (few_accepted header is before v.1)

-- such events can happen
valid_happens : (header : HeaderValue) (events : List Event) → Valid header events → Happens header events
valid_happens header [] v = tt
valid_happens header (e ∷ before) v = (allowed_possible (scene header before) e v.0, valid_happens header before v.1)

-- what is accepted is possible
pub accepted_possible : AcceptedIsPossible
accepted_possible header events a = record {
  header_is = a.header_is;
  ranges = a.ranges;
  happens = valid_happens header events a.valid;
  few = few_accepted header a.header_is events a.valid;
}
