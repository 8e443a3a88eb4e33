-- The history of possible events fits, by any clocks that keep the drift; so do those of every possible schedule and every accepted one.
use Rattle.std.proofs.Common.{sym, ap, subst, inr, arith, ◌∙◌, eq-eqb, eqb-true, ◌≡◌, ℕ, ◌+◌, ◌<◌, ◌≤◌, ◌^◌, ◌==◌, pos, ◌+ℤ◌, Bool, true, false, List, [], ◌∷◌}
use Rattle.std.proofs.Common.{length, Option, None, Some, slice_get, refl}
use Rattle.std.proofs.lemmas.List.Elements.{All-head}
use Rattle.tsp_rules.specs.Values.{Took, Post, Placed, Event, BootAt, Turn, Take, Bytes, Peer, Port}
use Rattle.tsp_rules.specs.GateRows.{NodeGiven, NodeTurn, GotOn, answers_all, boots_all}
use Rattle.tsp_rules.specs.NodeRows.{NodePast, NodeRow, PortSetup, in_node_step, on_port, port_setup, spread}
use Rattle.tsp_base.specs.Words.{first_port, joined, line_of, stepped, HeaderValue, Booted, Turned, Came, Handed, Step, Begins, Acts, Line, of, view, dids}
use Rattle.tsp_base.specs.Words.{lives, time_of, up, posted, peer_of}
use Rattle.tsp_base.proofs.PlaceLemmas.{Within_all}
use Rattle.tsp_promises.specs.{Fits.Finished, Fits.Fits, Fits.TookFits, Sound.IsSound, Sound.IsSoundDeed, StepFacts.StepEnds}
use Rattle.tsp_promises.specs.{PortFits.PortFits, PortFits.setup_in, Setting.Alone, Setting.Named, Setting.Setting, Setting.setup_of}
use Rattle.tsp_promises.proofs.{leads.NodeLeads.begins_all, leads.NodeLeads.boots_all_lead, leads.GateLeads.GivenOn, leads.GateLeads.answers_all_lead}
use Rattle.tsp_promises.proofs.{leads.Known.Ended, leads.Known.Fresh, shared.Clocks.tick_mono}
use Rattle.tsp_promises.proofs.{leads.RunLeads.ends_of, leads.RunLeads.ended_later, leads.RunLeads.ended_seen, leads.RunLeads.nothing_done}
use Rattle.tsp_promises.proofs.{leads.GateSteps.AllPorts}
use Rattle.tsp_codec.specs.{Canon.canon, Taken.taken_of}
use Rattle.tsp_run.specs.Networks.{networks, network_from, ports_on, address_of, room}
use Rattle.tsp_run.specs.Clocked.{ClockedRunsFit, Clocks, IsSetUp, PossibleBy, SetByClocks, boot_by, clocks_of, reaches_by, run_by, scene_by, steps_by, tick_by}
use Rattle.tsp_run.{proofs.RefusalLemmas.CanHappen, proofs.RefusalLemmas.can_happen, proofs.RefusalLemmas.up_down}
use Rattle.tsp_run.{specs.Ranges.IsInRange, proofs.NetworkLemmas.few_ports_of, proofs.NetworkLemmas.goes_there, proofs.NetworkLemmas.set_up}
use Rattle.tsp_run.specs.{Refusals.down, Refusals.node_in, Setup.node_line, Setup.past_of, Setup.rests}
use Rattle.tsp_run.specs.Run.{joins, event_at, last_at, posts, arrives, arrives_at, goes_to}
use Rattle.tsp_run.specs.{Setting.PossibleRunsFit, Setting.RunsFit, Setting.named_or, declared.address.Address.Address}
use Rattle.tsp_run.{specs.declared.posted.Posted.Posted, proofs.PostPlaces.length_posts, proofs.PostPlaces.post_at}
use Rattle.tsp_run.proofs.AnswersFit.{StepOk, turn_ok, got_ok, boot_ok}
use Rattle.tsp_run.proofs.FitsLines.{ActsOn, AllAlive, ArePlaced, acts_fit, all_end, did_in, mark_line, of_placed, posted_joined}
use Rattle.tsp_run.proofs.{OwnClocks.possible_own, OwnClocks.runs_by_own_clocks, OwnClocks.set_own, HeaderLines.name_node_line, SoundLemmas.line_sound}
use Rattle.tsp_run.proofs.{SoundLemmas.octets_sound, SoundLemmas.sound_read}
use Rattle.tsp_run.proofs.{PossibleRun.accepted_possible, PossibleRun.possible_before, RunLemmas.stepped_own, RunLemmas.stepped_other}
use Rattle.tsp_run.proofs.SoundAll.{SoundNode, IsSoundInput, sound_answers_all, sound_begins, sound_boots_all}

-- what is known of a run: its lines fit and are on their nodes' ports, its time is that of its last event, each port of each node is at rest, and each node
-- took and posted what has its parts in their ranges
pub record Ran (header : HeaderValue) (setting : Setting) (t : ℕ) (h : List Line) : Type 0 where
  pub fits : Fits setting h
  pub placed : ArePlaced (networks header) h
  pub time : time_of (dids h) ≤ t
  pub nodes : (n : ℕ) → AllPorts (λ r. Ended) (setting.tick n t) (past_of header (rests n) h)
  pub sound : (n : ℕ) → SoundNode (past_of header (rests n) h)

joined_placed : (nets : List (List ℕ)) (step : Step) (x : ℕ) (acts : List Placed) (h : List Line) → ActsOn (length (ports_on step.node nets)) acts →
    ArePlaced nets h → ArePlaced nets (joined step x acts h)
joined_placed nets step x [] h on p = p
joined_placed nets step x (a ∷ rest) h on p = joined_placed nets step x rest (line_of step x a.port (Acts a.act) ∷ h) on.1 (on.0, p)

pub joined_time : (step : Step) (x : ℕ) (acts : List Placed) (h : List Line) → time_of (dids h) ≤ step.at → time_of (dids (joined step x acts h)) ≤ step.at
joined_time step x [] h e = e
joined_time step x (a ∷ rest) h e = joined_time step x rest (line_of step x a.port (Acts a.act) ∷ h) (omega arith)

-- after a step each port of each node is at rest
node_after : (header : HeaderValue) (setting : Setting) (t : ℕ) (h : List Line) (step : Step) (x : ℕ) (acts : List Placed) → t ≤ step.at →
    ((n : ℕ) → AllPorts (λ r. Ended) (setting.tick n t) (past_of header (rests n) h)) →
    AllPorts (λ r. Ended) x (spread x (in_node_step step x (past_of header step h)) acts) → x ≡ setting.tick step.node step.at → (n : ℕ) (b : Bool) →
    (step.node == n) ≡ b →
    AllPorts (λ r. Ended) (setting.tick n step.at) (past_of header (rests n) (stepped step x acts h))
node_after header setting t h step x acts later nodes after tick_is n true e =
    let now : List Line = stepped step x acts h in
    let same : step.node ≡ n = eqb-true step.node n e in
    let own : (step.node == step.node) ≡ true = eq-eqb step.node step.node refl in
    let here : AllPorts (λ r. Ended) x (past_of header (rests step.node) now) = λ r has.
    ended_seen x (on_port r (spread x (in_node_step step x (past_of header step h)) acts)) (on_port r (past_of header (rests step.node) now)) refl refl
    (ap (λ l. view r l) (sym (stepped_own step.node step x acts h own))) (after r has) in
    subst (λ k. AllPorts (λ r. Ended) (setting.tick k step.at) (past_of header (rests k) now)) same
    (subst (λ k. AllPorts (λ r. Ended) k (past_of header (rests step.node) now)) tick_is here)
node_after header setting t h step x acts later nodes after tick_is n false e = λ r has.
    let now : List Line = stepped step x acts h in
    ended_seen (setting.tick n step.at) (on_port r (past_of header (rests n) h)) (on_port r (past_of header (rests n) now)) refl refl
    (ap (λ l. view r l) (sym (stepped_other n step x acts h e)))
    (ended_later (setting.tick n t) (setting.tick n step.at) (on_port r (past_of header (rests n) h)) (tick_mono setting n t step.at later) (nodes n r has))

-- after a step whose acts are sound all nodes' are
sound_after : (header : HeaderValue) (h : List Line) (step : Step) (x : ℕ) (acts : List Placed) → ((n : ℕ) → SoundNode (past_of header (rests n) h)) →
    SoundNode (spread x (in_node_step step x (past_of header step h)) acts) →
    (n : ℕ) (b : Bool) → (step.node == n) ≡ b → SoundNode (past_of header (rests n) (stepped step x acts h))
sound_after header h step x acts nodes after n true e =
    let now : List Line = stepped step x acts h in
    let same : step.node ≡ n = eqb-true step.node n e in
    let own : (step.node == step.node) ≡ true = eq-eqb step.node step.node refl in
    subst (λ k. SoundNode (past_of header (rests k) now)) same
    (subst (λ l. SoundNode (record (past_of header (rests step.node) now) { lines = l })) (sym (stepped_own step.node step x acts h own))
    (record { name = after.name; word_fits = after.word_fits; ports = after.ports; lines = after.lines }))
sound_after header h step x acts nodes after n false e =
    let now : List Line = stepped step x acts h in
    let s = nodes n in
    subst (λ l. SoundNode (record (past_of header (rests n) now) { lines = l })) (sym (stepped_other n step x acts h e)) (record {
      name = s.name;
      word_fits = s.word_fits;
      ports = s.ports;
      lines = s.lines;
    })

-- what a node's port is set up with is what its past says
setup_is : (clocks : Clocks) (header : HeaderValue) (setting : Setting) (step : Step) (h : List Line) (q : Port) → SetByClocks clocks header setting →
    q.0 < length (ports_on step.node (networks header)) → setup_in (on_port q (past_of header step h)) ≡ setup_of setting step.node q
setup_is clocks header setting step h q set has =
    let nets : List (List ℕ) = networks header in
    let s = set_up step.node q.0 0 0 nets has in
    let found : network_from step.node q.0 0 0 nets ≡ Some s.j =
    ap (λ k. network_from step.node k 0 0 nets) (let e : q.0 ≡ 0 + q.0 = omega arith in e) ∙ s.network ∙
    ap (λ k. Some k) (let e : 0 + s.j ≡ s.j = omega arith in e) in
    let net : setting.net step.node q ≡ Named s.j = set.net_is step.node q ∙ ap (λ o. named_or (Alone step.node q.0) o) found in
    let members : (port_setup q (past_of header step h)).peers ≡ setting.members (setting.net step.node q) =
    ap (λ (k : PortSetup). k.peers) s.setup ∙ sym (ap setting.members net ∙ set.members_are (Named s.j)) in
    let name : (node_line header step.node).name ≡ setting.name step.node = sym (set.name_is step.node) in
    let strict : header.strict ≡ setting.strict = sym set.strict_is in
    rw (name, members, strict) refl

-- each port has its node's number
own_is : (header : HeaderValue) (step : Step) (h : List Line) (q : Port) → q.0 < length (ports_on step.node (networks header)) →
    (port_setup q (past_of header step h)).own.0 ≡ step.node
own_is header step h q has = ap (λ (k : PortSetup). k.own.0) (set_up step.node q.0 0 0 (networks header) has).setup

-- a step by a row that keeps what is known of each port
by_row : (clocks : Clocks) (header : HeaderValue) (setting : Setting) (t : ℕ) (h : List Line) (step : Step) (row : NodeRow) →
    SetByClocks clocks header setting → Ran header setting t h → t ≤ step.at → posted (dids (joins (Some (steps_by clocks header h row step)) h)) < 2 ^ 64 →
    (AllPorts (λ r. Fresh) (tick_by clocks step) (in_node_step step (tick_by clocks step) (past_of header step h)) →
    AllPorts (λ r. Ended) (tick_by clocks step)
    (spread (tick_by clocks step) (in_node_step step (tick_by clocks step) (past_of header step h))
    (row (tick_by clocks step) (in_node_step step (tick_by clocks step) (past_of header step h))))) →
    (SoundNode (in_node_step step (tick_by clocks step) (past_of header step h)) →
    SoundNode (spread (tick_by clocks step) (in_node_step step (tick_by clocks step) (past_of header step h))
    (row (tick_by clocks step) (in_node_step step (tick_by clocks step) (past_of header step h))))) →
    StepOk (length (ports_on step.node (networks header))) (room (ports_on step.node (networks header))) setting step (tick_by clocks step) h
    (did_in step (tick_by clocks step) Begins ∷ dids (of step.node h))
    (row (tick_by clocks step) (in_node_step step (tick_by clocks step) (past_of header step h))) →
    Ran header setting step.at (joins (Some (steps_by clocks header h row step)) h)
unfolding steps_by
by_row clocks header setting t h step row set r later few leads soundly ok =
    let x : ℕ = tick_by clocks step in
    let nets : List (List ℕ) = networks header in
    let ports : ℕ = length (ports_on step.node nets) in
    let base : NodePast = past_of header step h in
    let past : NodePast = in_node_step step x base in
    let acts : List Placed = row x past in
    let mark : Line = line_of step x first_port Begins in
    let tick_is : x ≡ setting.tick step.node step.at = sym (set.tick_is step.node step.at) in
    let rested : AllPorts (λ r. Ended) x base = λ q has.
    ended_seen x (on_port q (past_of header (rests step.node) h)) (on_port q base) refl refl refl
    (subst (λ k. Ended k (on_port q (past_of header (rests step.node) h))) (sym tick_is)
    (ended_later (setting.tick step.node t) (setting.tick step.node step.at) (on_port q (past_of header (rests step.node) h))
    (tick_mono setting step.node t step.at later) (r.nodes step.node q has))) in
    let after : AllPorts (λ r. Ended) x (spread x past acts) = leads (begins_all step x x base (omega arith) (λ q has. own_is header step h q has) rested) in
    let kept : posted (dids h) ≤ posted (dids (joined step x acts (mark ∷ h))) = posted_joined step x acts (mark ∷ h) in
    let all : posted (dids (joined step x acts (mark ∷ h))) < 2 ^ 64 = few in
    let line = mark_line ports setting step x h tick_is (of_placed nets step.node h r.placed) (let b = r.time in omega (arith, b, later))
    (omega (arith, all, kept))
    (λ q has. subst (λ s. StepEnds s (view q (of step.node h))) (setup_is clocks header setting step h q set has) (ends_of (rested q has))) in
    let own : (step.node == step.node) ≡ true = eq-eqb step.node step.node refl in
    let own_is : dids (of step.node (mark ∷ h)) ≡ mark.did ∷ dids (of step.node h) = rw own refl in
    record {
      fits = acts_fit ports setting step x h acts first_port Begins h tick_is ok.on (inr (Within_all h)) all
          (subst (λ ds. AllAlive setting step x ds acts) (sym own_is) ok.alive) ok.taken
          (λ q has. subst (λ l. PortFits (setup_of setting step.node q) (view q l)) (sym (stepped_own step.node step x acts h own))
          (subst (λ k. PortFits k (view q (joined step x acts (mark ∷ of step.node h)))) (setup_is clocks header setting step h q set has)
          (after q has).0.fits))
          (line, r.fits);
      placed = joined_placed nets step x acts (mark ∷ h) ok.on ((λ e. let bad : ⊥ = cc in absurd bad), r.placed);
      time = joined_time step x acts (mark ∷ h) (omega arith);
      nodes = λ n. node_after header setting t h step x acts later r.nodes after tick_is n (step.node == n) refl;
      sound = λ n. sound_after header h step x acts r.sound (soundly (sound_begins step x base (let s = r.sound step.node in
          record { name = s.name; word_fits = s.word_fits; ports = s.ports; lines = s.lines }))) n (step.node == n) refl;
    }

up_seen : (clocks : Clocks) (header : HeaderValue) (before : List Event) (n : ℕ) → down (scene_by clocks header before).up (Some n) ≡ None →
    up (dids (of n (run_by clocks header before))) ≡ true
up_seen clocks header before n e = up_down (scene_by clocks header before) n e

module _ {clocks : Clocks} {header : HeaderValue} {setting : Setting} (is : IsSetUp header) (set : SetByClocks clocks header setting) where
  by_answers : (before : List Event) (step : Step) (g : NodeGiven) → Ran header setting (last_at before) (run_by clocks header before) →
      posted (dids (joins (Some (steps_by clocks header (run_by clocks header before) (answers_all g) step)) (run_by clocks header before))) < 2 ^ 64 →
      (scene_by clocks header before).last ≤ step.at → GivenOn g (past_of header step (run_by clocks header before)) → IsSoundInput g →
      StepOk (length (ports_on step.node (networks header))) (room (ports_on step.node (networks header))) setting step (tick_by clocks step)
      (run_by clocks header before) (did_in step (tick_by clocks step) Begins ∷ dids (of step.node (run_by clocks header before)))
      (answers_all g (tick_by clocks step) (in_node_step step (tick_by clocks step) (past_of header step (run_by clocks header before)))) →
      Ran header setting step.at (joins (Some (steps_by clocks header (run_by clocks header before) (answers_all g) step)) (run_by clocks header before))
  by_answers before step g r few later given sound ok =
      let x : ℕ = tick_by clocks step in
      let past : NodePast = in_node_step step x (past_of header step (run_by clocks header before)) in
      by_row clocks header setting (last_at before) (run_by clocks header before) step (answers_all g) set r later few
      (λ fresh. (answers_all_lead g).run x past (given-in g given, fresh)) ((sound_answers_all g sound).run x past) ok
    where
      given-in : (g : NodeGiven) → GivenOn g (past_of header step (run_by clocks header before)) →
          GivenOn g (in_node_step step (tick_by clocks step) (past_of header step (run_by clocks header before)))
      given-in NodeTurn h = tt
      given-in (GotOn q from t) h = h

  -- what reaches a node was posted to it, on the network of its port
  came : (before : List Event) (at k : ℕ) (p : Posted) (a : Address) → IsSound p.datagram → slice_get (posts (run_by clocks header before)) k ≡ Some p →
      address_of (networks header) p.from p.port p.to ≡ Some a →
      TookFits (Came k) setting (line_of (record { at = at; node = a.node; cause = Came k })
      (tick_by clocks (record { at = at; node = a.node; cause = Came k })) a.port
      (Acts (Took (Peer (peer_of p.from)) (taken_of (canon p.datagram))))) (run_by clocks header before)
      (Peer (peer_of p.from)) (taken_of (canon p.datagram))
  came before at k p a sound there goes =
      let o = post_at (run_by clocks header before) k p there in
      let g = goes_there (networks header) p.from p.port p.to a goes in
      record {
        post = o.post;
        older = o.older;
        place = o.place;
        number = o.number;
        datagram = p.datagram;
        deed = o.deed ∙ ap (λ t. Acts (Post t p.datagram)) g.to_is;
        net = ap (λ n. setting.net n o.post.port) o.from ∙ (ap (λ q. setting.net p.from q) o.port ∙
            (set.net_is p.from p.port ∙ (g.net ∙ sym (set.net_is a.node a.port))));
        from_is = ap (λ f. Peer (peer_of f)) (sym o.from);
        taken_is = sound_read p.datagram sound;
      }

  -- what was posted has its parts in their ranges
  pub post_sound : (before : List Event) (t k : ℕ) (p : Posted) → Ran header setting t (run_by clocks header before) →
      slice_get (posts (run_by clocks header before)) k ≡ Some p → IsSound p.datagram
  post_sound before t k p r there =
      let a = post_at (run_by clocks header before) k p there in
      subst (λ d. IsSoundDeed d) a.deed (line_sound (run_by clocks header before) a.post a.older a.place (r.sound a.post.did.step.node).lines)

  four : (n : ℕ) → length (ports_on n (networks header)) ≤ 4
  four n = few_ports_of header is.few_ports n

  nobody_acts : (before : List Event) (at k : ℕ) → Ran header setting (last_at before) (run_by clocks header before) →
      CanHappen (scene_by clocks header before) (Take at k) → Ran header setting at (run_by clocks header before)
  nobody_acts before at k r can = record {
    fits = r.fits;
    placed = r.placed;
    time = (let b = r.time in let c = can.time in omega (arith, b, c));
    nodes = λ n q has. ended_later (setting.tick n (last_at before)) (setting.tick n at)
        (on_port q (past_of header (rests n) (run_by clocks header before))) (tick_mono setting n (last_at before) at can.time) (r.nodes n q has);
    sound = r.sound;
  }

  taken_step : (before : List Event) (at k : ℕ) (o : Option Posted) → Ran header setting (last_at before) (run_by clocks header before) →
      CanHappen (scene_by clocks header before) (Take at k) → slice_get (posts (run_by clocks header before)) k ≡ o →
      posted (dids (joins (reaches_by clocks header (run_by clocks header before) at k (arrives (networks header) o))
      (run_by clocks header before))) < 2 ^ 64 →
      Ran header setting at (joins (reaches_by clocks header (run_by clocks header before) at k (arrives (networks header) o))
      (run_by clocks header before))
  taken_step before at k None r can there few = nobody_acts before at k r can
  taken_step before at k (Some p) r can there few = arrived (address_of (networks header) p.from p.port p.to) refl few where
    arrived : (o : Option Address) → address_of (networks header) p.from p.port p.to ≡ o →
        posted (dids (joins (reaches_by clocks header (run_by clocks header before) at k (arrives_at p o)) (run_by clocks header before))) < 2 ^ 64 →
        Ran header setting at (joins (reaches_by clocks header (run_by clocks header before) at k (arrives_at p o)) (run_by clocks header before))
    arrived None e few = nobody_acts before at k r can
    arrived (Some a) e few =
        let sound = post_sound before (last_at before) k p r there in
        let step : Step = record { at = at; node = a.node; cause = Came k } in
        let goes : node_in (goes_to (networks header) (slice_get (posts (run_by clocks header before)) k)) ≡ Some a.node =
        ap (λ q. node_in (goes_to (networks header) q)) there ∙ ap (λ q. node_in q) e in
        let is_up : up (dids (of a.node (run_by clocks header before))) ≡ true =
        up_seen clocks header before a.node (ap (λ q. down (scene_by clocks header before).up q) (sym goes) ∙ can.up) in
        let has = (goes_there (networks header) p.from p.port p.to a e).has in
        by_answers before step (GotOn a.port (Peer (peer_of p.from)) (taken_of (canon p.datagram))) r few can.time has
        (rw (sound_read p.datagram sound) sound)
        (got_ok setting step (tick_by clocks step) (run_by clocks header before)
        (did_in step (tick_by clocks step) Begins ∷ dids (of a.node (run_by clocks header before)))
        (in_node_step step (tick_by clocks step) (past_of header step (run_by clocks header before))) a.port (Peer (peer_of p.from))
        (taken_of (canon p.datagram)) (four a.node) has is_up (came before at k p a sound there e))

  event_ran : (before : List Event) (e : Event) → Ran header setting (last_at before) (run_by clocks header before) → IsInRange e →
      CanHappen (scene_by clocks header before) e → posted (dids (run_by clocks header (e ∷ before))) < 2 ^ 64 →
      Ran header setting (event_at e) (run_by clocks header (e ∷ before))
  event_ran before (BootAt at node word) r range can few =
      let step : Step = boot_by clocks (run_by clocks header before) at node word in
      let x : ℕ = tick_by clocks step in
      let past : NodePast = in_node_step step x (past_of header step (run_by clocks header before)) in
      by_row clocks header setting (last_at before) (run_by clocks header before) step boots_all set r can.time few
      (boots_all_lead.run x past) (sound_boots_all x past word _ refl range)
      (boot_ok setting step x (run_by clocks header before) (did_in step x Begins ∷ dids (of node (run_by clocks header before))) past word (four node)
      (ap (λ w. Booted word (w +ℤ pos (clocks.tick node at))) (sym (set.wall_is node (lives (dids (of node (run_by clocks header before))) + 1)))))
  event_ran before (Turn at node) r range can few =
      let step : Step = record { at = at; node = node; cause = Turned } in
      by_answers before step NodeTurn r few can.time tt tt
      (turn_ok setting step (tick_by clocks step) (run_by clocks header before)
      (did_in step (tick_by clocks step) Begins ∷ dids (of node (run_by clocks header before)))
      (in_node_step step (tick_by clocks step) (past_of header step (run_by clocks header before))) (four node) (up_seen clocks header before node can.up))
  event_ran before (Take at k) r range can few = taken_step before at k (slice_get (posts (run_by clocks header before)) k) r can refl few
  event_ran before (Bytes at node port from octets) r range can few =
      let step : Step = record { at = at; node = node; cause = Handed } in
      let has = can.node.1 in
      by_answers before step (GotOn port from (taken_of octets)) r few can.time has (octets_sound octets range)
      (got_ok setting step (tick_by clocks step) (run_by clocks header before)
      (did_in step (tick_by clocks step) Begins ∷ dids (of node (run_by clocks header before)))
      (in_node_step step (tick_by clocks step) (past_of header step (run_by clocks header before))) port from (taken_of octets) (four node) has
      (up_seen clocks header before node can.up) tt)

  pub ran : (events : List Event) → PossibleBy clocks header events → Ran header setting (last_at events) (run_by clocks header events)
  ran [] p = record {
    fits = tt;
    placed = tt;
    time = omega arith;
    nodes = λ n q has. nothing_done (setting.tick n 0) (on_port q (past_of header (rests n) []));
    sound = λ n. record { name = name_node_line header is n; word_fits = omega arith; ports = four n; lines = tt };
  }
  ran (e ∷ before) p =
      let few = p.few in
      let same = length_posts (run_by clocks header (e ∷ before)) in
      event_ran before e (ran before (possible_before clocks header e before p)) (All-head IsInRange e before p.ranges)
      (can_happen (scene_by clocks header before) e p.happens.0) (omega (arith, few, same))

-- the history of possible events fits, by any clocks that keep the drift, and ends where a step ends
pub clocked_runs_fit : ClockedRunsFit
clocked_runs_fit clocks header setting events set p =
    let r = ran p.header_is set events p in (
      r.fits,
      λ n q. all_end (setup_of setting n q) (length (ports_on n (networks header))) q (of n (run_by clocks header events))
          (of_placed (networks header) n (run_by clocks header events) r.placed)
          (λ has. subst (λ k. StepEnds k (view q (of n (run_by clocks header events))))
          (setup_is clocks header setting (rests n) (run_by clocks header events) q set has) (ends_of (r.nodes n q has))),
    )

-- so does that of every possible schedule
pub possible_runs_fit_holds : PossibleRunsFit
possible_runs_fit_holds header setting events set p =
    subst (λ h. Fits setting h × Finished setting h) (runs_by_own_clocks header events)
    (clocked_runs_fit (clocks_of header) header setting events (set_own header setting set) (possible_own header events p))

-- and that of every accepted one
pub runs_fit_holds : RunsFit
runs_fit_holds header setting events set a = possible_runs_fit_holds header setting events set (accepted_possible header events a)
