-- What events make happen in a run by any clocks.
use Rattle.std.proofs.Common.{ap, arith, ◌∙◌, inl, inr, ◌≡◌, ◌⊎◌, ◌≤◌, ◌<◌, ℕ, ◌+◌, false, List, [], ◌∷◌, length, Option, None, Some, slice_get, refl}
use Rattle.tsp_rules.specs.Values.{Boot, Placed, Taken, Take, Place, Peer, Port}
use Rattle.tsp_rules.specs.GateRows.{NodeTurn, GotOn, all_ports, answers_all, boots_all, boots_on}
use Rattle.tsp_rules.specs.NodeRows.{NodePast, NodeRow, in_node_step, on, ◌and_then◌, reading_all, for_ports, spread}
use Rattle.tsp_base.specs.Words.{HeaderValue, Came, Line, Step, first_port, puts, peer_of}
use Rattle.tsp_codec.specs.{Canon.canon, Taken.taken_of}
use Rattle.tsp_run.specs.{Networks.address_of, Networks.networks, Networks.ports_on, Networks.room, declared.address.Address.Address}
use Rattle.tsp_run.specs.{Run.Happening, Run.arrives, Run.arrives_at, Run.goes_to, Run.posts}
use Rattle.tsp_run.specs.Clocked.{Clocks, IsSetUp, happening_by, reaches_by, steps_by, tick_by}
use Rattle.tsp_run.{specs.Setup.past_of, specs.declared.posted.Posted.Posted, proofs.AnswersFit.small_room}
use Rattle.tsp_run.proofs.CalmPorts.{AreCalm, CalmActs, small_spread, TakesOnce, calm_boots, calm_turn_all, step_most, takes_once_on, turns_most}
use Rattle.tsp_run.proofs.{NetworkLemmas.few_ports_of, NetworkLemmas.goes_there, RefusalLemmas.goes_nowhere, RefusalLemmas.goes_to_post}

-- the acts of a step by a row
abbrev pub acts_by : Clocks → HeaderValue → List Line → NodeRow → Step → List Placed
acts_by clocks header history row step = row (tick_by clocks step) (in_node_step step (tick_by clocks step) (past_of header step history))

-- a step by a row, and its acts
abbrev pub stepping : Clocks → HeaderValue → List Line → NodeRow → Step → Happening
stepping clocks header history row step = record { step = step; tick = tick_by clocks step; acts = acts_by clocks header history row step }

pub steps_are : (clocks : Clocks) (header : HeaderValue) (history : List Line) (row : NodeRow) (step : Step) →
    steps_by clocks header history row step ≡ stepping clocks header history row step
unfolding steps_by
steps_are clocks header history row step = refl

-- a boot's acts: the Boot, and a few that are neither boots nor takings
pub record Boots (ports : ℕ) (acts : List Placed) : Type 0 where
  pub rest : List Placed
  pub is : acts ≡ record { port = first_port; act = Boot } ∷ rest
  pub calm : AreCalm false ports rest
  pub few : length rest ≤ 8

-- how many ports the node of a step has
abbrev pub ports_in : HeaderValue → Step → ℕ
ports_in header step = length (ports_on step.node (networks header))

module _ (clocks : Clocks) {header : HeaderValue} (is : IsSetUp header) (history : List Line) (step : Step) where
  abbrev four : ports_in header step ≤ 4
  four = few_ports_of header is.few_ports step.node

  pub boot_acts : Boots (ports_in header step) (acts_by clocks header history boots_all step)
  unfolding boots_all on puts ◌and_then◌
  boot_acts =
      let x : ℕ = tick_by clocks step in
      let past : NodePast = in_node_step step x (past_of header step history) in
      let boot : List Placed = record { port = first_port; act = Boot } ∷ [] in
      let rest = reading_all all_ports (for_ports boots_on) x (spread x past boot) in
      let c = (calm_boots {strange = false} {n = length past.ports} {peers = room past.ports} four).run x (spread x past boot)
      (small_spread (length past.ports) (room past.ports) x past boot (small_room past)) in
      record { rest = rest; is = refl; calm = c.calm; few = c.few }

  -- a turn's acts are few, and neither boots nor takings
  turn_calm : CalmActs false (ports_in header step) (turns_most (room (ports_on step.node (networks header))))
      (acts_by clocks header history (answers_all NodeTurn) step)
  turn_calm =
      let x : ℕ = tick_by clocks step in
      let past : NodePast = in_node_step step x (past_of header step history) in
      (calm_turn_all {strange = false} (length past.ports) (room past.ports) four).run x past (small_room past)

  pub turn_acts : AreCalm false (ports_in header step) (acts_by clocks header history (answers_all NodeTurn) step)
  turn_acts = turn_calm.calm

  -- how many acts a step has at the most
  abbrev pub most : ℕ
  most = step_most (room (ports_on step.node (networks header)))

  -- a boot's acts are no more
  pub boot_few : length (acts_by clocks header history boots_all step) ≤ most
  boot_few =
      let b = boot_acts in
      let same : length (acts_by clocks header history boots_all step) ≡ length b.rest + 1 = ap (λ l. length l) b.is ∙ omega arith in
      omega (arith, b.few, same)

  -- nor are a turn's
  pub turn_few : length (acts_by clocks header history (answers_all NodeTurn) step) ≤ most
  turn_few = let few = turn_calm.few in omega (arith, few)

  -- a datagram is taken once
  pub got_acts : (q : Port) (from : Place) (t : Taken) → q.0 < ports_in header step →
      TakesOnce from t q (ports_in header step) most (acts_by clocks header history (answers_all (GotOn q from t)) step)
  got_acts q from t has =
      let x : ℕ = tick_by clocks step in
      let past : NodePast = in_node_step step x (past_of header step history) in
      takes_once_on (room past.ports) four q has from t x past (small_room past)

-- what a take hands over: a posted datagram, to its addressee
pub record Arrives (header : HeaderValue) (history : List Line) (at k : ℕ) : Type 0 where
  pub post : Posted
  pub to : Address
  pub there : slice_get (posts history) k ≡ Some post
  pub goes : address_of (networks header) post.from post.port post.to ≡ Some to
  pub has : to.port.0 < length (ports_on to.node (networks header))

-- the step in which it is taken
abbrev pub taking_step : ℕ → ℕ → Address → Step
taking_step at k to = record { at = at; node = to.node; cause = Came k }

-- what is taken in it
abbrev pub taken_in : Posted → Taken
taken_in post = taken_of (canon post.datagram)

-- by which row
abbrev pub taking_row : Posted → Address → NodeRow
taking_row post to = answers_all (GotOn to.port (Peer (peer_of post.from)) (taken_in post))

pub taking : (clocks : Clocks) (header : HeaderValue) (history : List Line) (at k : ℕ) (a : Arrives header history at k) →
    happening_by clocks header history (Take at k) ≡ Some (stepping clocks header history (taking_row a.post a.to) (taking_step at k a.to))
taking clocks header history at k a =
    ap (λ o. reaches_by clocks header history at k (arrives (networks header) o)) a.there
    ∙ ap (λ o. reaches_by clocks header history at k (arrives_at a.post o)) a.goes
    ∙ ap (λ h. Some h) (steps_are clocks header history (taking_row a.post a.to) (taking_step at k a.to))

-- a take hands something over, or nothing happens, since the datagram goes nowhere
pub takes_or : (clocks : Clocks) (header : HeaderValue) (history : List Line) (at k : ℕ) →
    Arrives header history at k ⊎ ((goes_to (networks header) (slice_get (posts history) k) ≡ None) × (happening_by clocks header history (Take at k) ≡ None))
takes_or clocks header history at k = by_case (goes_to (networks header) (slice_get (posts history) k)) refl where
  by_case : (o : Option Address) → goes_to (networks header) (slice_get (posts history) k) ≡ o →
      Arrives header history at k ⊎ ((goes_to (networks header) (slice_get (posts history) k) ≡ None) × (happening_by clocks header history (Take at k) ≡ None))
  by_case None e = inr (e, ap (λ a. reaches_by clocks header history at k a) (goes_nowhere (networks header) (slice_get (posts history) k) e))
  by_case (Some a) e =
      let p = goes_to_post (networks header) (slice_get (posts history) k) a e in
      inl (record { post = p.0; to = a; there = p.1; goes = p.2; has = (goes_there (networks header) p.0.from p.0.port p.0.to a p.2).has })
