-- Where no event hands a node octets as a peer's, the run is honest.
use Rattle.std.proofs.Common.{sym, subst, true≢false, ◌≡◌, ◌≢◌, ℕ, Bool, true, List, [], ◌∷◌, ◌++◌, None, Some, refl}
use Rattle.std.proofs.lemmas.List.Elements.{All-tail}
use Rattle.tsp_rules.specs.Values.{Act, Took, Placed, Taken, Event, BootAt, Turn, Take, Bytes, PeerId, Place, Peer, Stranger, Port}
use Rattle.tsp_base.specs.Words.{HeaderValue, Acts, Handed, Line, Step, joined, line_of, stepped}
use Rattle.tsp_promises.specs.Premises.{Honest, HonestAt}
use Rattle.tsp_codec.specs.Taken.{taken_of}
use Rattle.tsp_rules.{proofs.FewActs.is_calm_act, specs.GateRows.GotOn, specs.GateRows.answers_all, specs.Strangers.is_stranger}
use Rattle.tsp_run.specs.Clocked.{Clocks, IsSetUp, PossibleBy, run_by, scene_by, tick_by}
use Rattle.tsp_run.specs.{Premised.IsSealed, Premised.Sealed, Ranges.Accepted, Ranges.IsInRange}
use Rattle.tsp_run.specs.Run.{Happening, joins}
use Rattle.tsp_run.proofs.{CalmPorts.AreCalm, EachLine.each_event, HappensBy.acts_by, HappensBy.got_acts, HappensBy.steps_are}
use Rattle.tsp_run.{proofs.PossibleRun.possible_before, proofs.RefusalLemmas.can_happen, specs.Refusals.impossible}

-- what was accepted before the last event
pub accepted_before : (header : HeaderValue) (e : Event) (before : List Event) → Accepted header (e ∷ before) → Accepted header before
accepted_before header e before a = record { header_is = a.header_is; ranges = All-tail IsInRange e before a.ranges; valid = a.valid.1 }

-- no act takes anything as a peer's
abbrev TakeNone : List Placed → Type 0
TakeNone [] = Unit {0}
TakeNone (a ∷ rest) = ((p : PeerId) (t : Taken) → Acts a.act ≢ Acts (Took (Peer p) t)) × TakeNone rest

calm_takes : (strange : Bool) (a : Act) (from : Place) (t : Taken) → is_calm_act strange true a ≡ true → Acts a ≢ Acts (Took from t)
calm_takes strange a from t calm e =
    let same : a ≡ Took from t = cc in
    true≢false (sym (subst (λ k. is_calm_act strange true k ≡ true) same calm))

-- nor do these acts, before such
take_none : (strange : Bool) (n : ℕ) (acts more : List Placed) → AreCalm strange n acts → TakeNone more → TakeNone (acts ++ more)
take_none strange n [] more c k = k
take_none strange n (a ∷ acts) more c k = ((λ p t. calm_takes strange a.act (Peer p) t c.1), take_none strange n acts more c.2 k)

take_none_all : (strange : Bool) (n : ℕ) (acts : List Placed) → AreCalm strange n acts → TakeNone acts
take_none_all strange n [] c = tt
take_none_all strange n (a ∷ acts) c = ((λ p t. calm_takes strange a.act (Peer p) t c.1), take_none_all strange n acts c.2)

-- what a stranger sends is no peer's
stranger_takes : (from : Place) (t : Taken) (p : PeerId) (u : Taken) → is_stranger from ≡ true → Acts (Took from t) ≢ Acts (Took (Peer p) u)
stranger_takes from t p u strange e =
    let same : from ≡ Peer p = cc in
    true≢false (sym (subst (λ f. is_stranger f ≡ true) same strange))

honest_joined : (step : Step) (x : ℕ) (acts : List Placed) (h : List Line) → TakeNone acts → Honest h → Honest (joined step x acts h)
honest_joined step x [] h none e = e
honest_joined step x (a ∷ rest) h none e = honest_joined step x rest (line_of step x a.port (Acts a.act) ∷ h) none.1 ((λ c. none.0), e)

honest_stepped : (step : Step) (x : ℕ) (acts : List Placed) (h : List Line) → TakeNone acts → Honest h → Honest (stepped step x acts h)
honest_stepped step x acts h none e = honest_joined step x acts _ none ((λ c p t bad. let no : ⊥ = cc in no), e)

unforged : (at node : ℕ) (port : Port) (from : Place) (octets : List ℕ) → IsSealed (Bytes at node port from octets) → is_stranger from ≡ true
unforged at node port (Peer p) octets e = absurd e
unforged at node port Stranger octets e = refl

module _ (clocks : Clocks) {header : HeaderValue} (is : IsSetUp header) (before : List Event) (honest : Honest (run_by clocks header before)) where
  honest_event : (e : Event) → impossible (scene_by clocks header before) e ≡ None → IsSealed e → Honest (run_by clocks header (e ∷ before))
  honest_event (BootAt at node word) none f =
      each_event HonestAt clocks header before honest (BootAt at node word) (λ step x c port deed h handed. let is = c.1 in let no : ⊥ = cc in absurd no)
  honest_event (Turn at node) none f =
      each_event HonestAt clocks header before honest (Turn at node) (λ step x c port deed h handed. let no : ⊥ = cc in absurd no)
  honest_event (Take at k) none f = each_event HonestAt clocks header before honest (Take at k) (λ step x c port deed h handed. let no : ⊥ = cc in absurd no)
  honest_event (Bytes at node port from octets) none f =
      let step : Step = record { at = at; node = node; cause = Handed } in
      let has = (can_happen (scene_by clocks header before) (Bytes at node port from octets) none).node.1 in
      let once = got_acts clocks is (run_by clocks header before) step port from (taken_of octets) has in
      let strange = unforged at node port from octets f in
      let rest : TakeNone (record { port = port; act = Took from (taken_of octets) } ∷ once.after) =
      ((λ p t. stranger_takes from (taken_of octets) p t strange), take_none_all _ _ once.after once.calm_after) in
      subst (λ (h : Happening). Honest (joins (Some h) (run_by clocks header before)))
      (sym (steps_are clocks header (run_by clocks header before) (answers_all (GotOn port from (taken_of octets))) step))
      (honest_stepped step (tick_by clocks step)
      (acts_by clocks header (run_by clocks header before) (answers_all (GotOn port from (taken_of octets))) step) (run_by clocks header before)
      (subst TakeNone (sym once.is) (take_none _ _ once.before _ once.calm_before rest)) honest)

-- so is each run
pub sealed_honest : (clocks : Clocks) (header : HeaderValue) (events : List Event) → PossibleBy clocks header events → Sealed events →
    Honest (run_by clocks header events)
sealed_honest clocks header [] p h = tt
sealed_honest clocks header (e ∷ before) p h =
    honest_event clocks p.header_is before (sealed_honest clocks header before (possible_before clocks header e before p) h.1) e p.happens.0 h.0
