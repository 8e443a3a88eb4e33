-- The history of a daemon's node fits, whoever sends to it: its boot and each turn add a step that does.
use Rattle.std.proofs.Common.{sym, ap, ◌∙◌, subst, arith, inr, ◌≡◌, ℕ, zero, suc, ◌+◌, ◌*◌, ◌<◌, ◌≤◌, ◌==◌, if◌then◌else◌, ℤ, Bool, true, false, List, [], ◌∷◌}
use Rattle.std.proofs.Common.{length, None, Some, slice_index_or, refl}
use Rattle.std.proofs.lemmas.Bool.{ne_eqb}
use Rattle.tsp_args.specs.{Serves.IsServe, declared.serve.ServeWords.ServeWords}
use Rattle.tsp_rules.specs.Values.{Placed, PeerId, Place, Peer, Stranger, Port}
use Rattle.tsp_base.specs.Words.{Acts, Begins, Booted, Cause, Line, Step, Turned, dids, of, view, first_port, joined, line_of, time_of, up, posted}
use Rattle.tsp_base.proofs.PlaceLemmas.{Within_all}
use Rattle.tsp_gateway.specs.{GateConfigs.peers_of_ports, PortOf.has_other_peer, PortOf.port_of_from, Rooms.room_of_ports}
use Rattle.tsp_io.specs.{Links.Arrival, declared.addr.Addr.Addr}
use Rattle.tsp_promises.specs.{Dated.SetsAt, Fits.Fits, Fits.Finished, PortFits.PortFits, PortFits.setup_in, StepFacts.StepEnds}
use Rattle.tsp_promises.specs.Setting.{Setting, setup_of}
use Rattle.tsp_promises.proofs.{promised.ChainProof.looped_in, shared.EverywhereLemmas.Everywhere_from, leads.GateSteps.AllPorts, leads.GateLeads.GivenOn}
use Rattle.tsp_promises.proofs.{leads.GateLeads.answers_all_lead, leads.Known.Ended, leads.Known.Fresh, leads.NodeLeads.begins_all}
use Rattle.tsp_promises.proofs.{leads.NodeLeads.boots_all_lead}
use Rattle.tsp_promises.proofs.{promised.LookedProof.looked, promised.OwnFitsProof.fits_at, promised.SafeProof.safe, promised.OnceObeyedProof.sets_at}
use Rattle.tsp_promises.proofs.leads.RunLeads.{ended_later, ends_of, nothing_done, nothing_ends}
use Rattle.tsp_query.specs.{Arrivals.next_arrival, Ends.Outside}
use Rattle.tsp_rules.specs.GateRows.{NodeGiven, NodeTurn, GotOn, answers_all, boots_all}
use Rattle.tsp_rules.specs.NodeRows.{NodePast, NodeRow, PortSetup, in_node_step, no_port, on, on_port, port_setup, spread}
use Rattle.tsp_run.{proofs.BootLemmas.boots_up, proofs.RunFits.joined_time, proofs.RunLemmas.up_joined, specs.Networks.room}
use Rattle.tsp_run.proofs.AnswersFit.{StepOk, boot_ok, got_ok, turn_ok}
use Rattle.tsp_run.proofs.FitsLines.{ActsOn, AllAlive, AreOn, acts_fit, all_end, did_in, mark_line, posted_more}
use Rattle.tsp_daemon.specs.Sessions.{after_turns, turn_begun, turn_cause, given_in, given_of, port_from, read_once, Rises, turn_tick}
use Rattle.tsp_daemon.specs.{Nodes.daemon_config, Nodes.first_past, Nodes.is_strict, Nodes.setups_from, Kept.HistoryKept, Kept.SetByWords}
use Rattle.tsp_daemon.{proofs.NodeLemmas.length_setups_from, proofs.NodeLemmas.room_is, specs.Serving.first_session}

-- all lines are of node 0
abbrev AreOwn : List Line → Type 0
AreOwn [] = Unit {0}
AreOwn (l ∷ before) = (l.did.step.node ≡ 0) × AreOwn before

of_own : (ls : List Line) → AreOwn ls → of 0 ls ≡ ls
of_own [] own = refl
of_own (l ∷ before) own =
    ap (λ n. if n == 0 then l ∷ of 0 before else of 0 before) own.0 ∙ ap (λ rest. l ∷ rest) (of_own before own.1)

of_other : (m : ℕ) (ls : List Line) → AreOwn ls → of (suc m) ls ≡ []
of_other m [] own = refl
of_other m (l ∷ before) own =
    ap (λ n. if n == suc m then l ∷ of (suc m) before else of (suc m) before) own.0
    ∙ ap (λ b. if b then l ∷ of (suc m) before else of (suc m) before) (ne_eqb 0 (suc m) (λ e. omega (arith, e)))
    ∙ of_other m before own.1

-- what a step adds is of its node, on the ports of its acts, at its time, and at most one post an act
joined_own : (step : Step) (x : ℕ) (acts : List Placed) (h : List Line) → step.node ≡ 0 → AreOwn h → AreOwn (joined step x acts h)
joined_own step x [] h none own = own
joined_own step x (p ∷ rest) h none own = joined_own step x rest (line_of step x p.port (Acts p.act) ∷ h) none (none, own)

joined_on : (ports : ℕ) (step : Step) (x : ℕ) (acts : List Placed) (h : List Line) → ActsOn ports acts → AreOn ports h → AreOn ports (joined step x acts h)
joined_on ports step x [] h on are = are
joined_on ports step x (p ∷ rest) h on are = joined_on ports step x rest (line_of step x p.port (Acts p.act) ∷ h) on.1 (on.0, are)

joined_posts : (step : Step) (x : ℕ) (acts : List Placed) (h : List Line) → posted (dids (joined step x acts h)) ≤ posted (dids h) + length acts
joined_posts step x [] h = omega arith
joined_posts step x (p ∷ rest) h =
    let more = joined_posts step x rest (line_of step x p.port (Acts p.act) ∷ h) in
    let one = posted_more (Acts p.act) (posted (dids h)) in
    omega (arith, more, one)

-- each port has the daemon's number
own_setups : (done : ℕ) (ports : List (List Addr)) (k : ℕ) → (slice_index_or (setups_from done ports) k no_port).own.0 ≡ 0
own_setups done [] k = refl
own_setups done (peers ∷ ports) zero = refl
own_setups done (peers ∷ ports) (suc k) = own_setups (done + length peers) ports k

room_of : (ports : List PortSetup) → room ports ≡ room_of_ports (peers_of_ports ports)
room_of [] = refl
room_of (s ∷ rest) = ap (λ n. 24 * length s.peers + 256 + n) (room_of rest)

-- the port on which something is taken is one of the node's
port_below : (k : ℕ) (p : PeerId) (ports : List PortSetup) → 0 < k + length ports → (port_of_from k p ports).0 < k + length ports
port_below k p [] some = some
port_below k p (s ∷ rest) some = by_case (has_other_peer p s) (port_below (k + 1) p rest (omega arith)) where
  by_case : (b : Bool) → (port_of_from (k + 1) p rest).0 < k + 1 + length rest → (if b then record { 0 = k } else port_of_from (k + 1) p rest).0 < k + length
      (s ∷ rest)
  by_case true later = omega arith
  by_case false later = omega (arith, later)

given_below : (ports : List PortSetup) (from : Place) → 0 < length ports → (port_from ports from).0 < length ports
given_below ports (Peer p) some = let below = port_below 0 p ports (omega (arith, some)) in omega (arith, below)
given_below ports Stranger some = some

-- a step of node 0
abbrev step_of : Cause → ℕ → Step
step_of cause x = record { at = x; node = 0; cause = cause }

-- what is known of the node's history after so many steps, the last of which was no later than t
record Ran (s : ServeWords) (setting : Setting) (n t : ℕ) (past : NodePast) : Type 0 where
  pub name : past.name ≡ s.name
  pub strict : past.strict ≡ is_strict s.candidacy
  pub ports : past.ports ≡ setups_from 0 s.ports
  pub fits : Fits setting past.lines
  pub own : AreOwn past.lines
  pub on : AreOn (length past.ports) past.lines
  pub time : time_of (dids past.lines) ≤ t
  pub rests : AllPorts (λ r. Ended) t past
  pub posts : posted (dids past.lines) ≤ n * 3000000

module _ {s : ServeWords} {setting : Setting} {tick : ℕ} {wall : ℤ} (is : IsServe s) (set : SetByWords s tick wall setting) where
  tick_is_holds : (x : ℕ) → x ≡ setting.tick 0 x
  tick_is_holds x = sym (set.tick_is x)

  -- what a port is set up with is what the words say
  set_up : (past : NodePast) (q : Port) → past.name ≡ s.name → past.strict ≡ is_strict s.candidacy → past.ports ≡ setups_from 0 s.ports →
      q.0 < length past.ports → setup_in (on_port q past) ≡ setup_of setting 0 q
  set_up past q name strict ports has =
      let count : length past.ports ≡ length s.ports = ap (λ ps. length ps) ports ∙ length_setups_from 0 s.ports in
      let members : (port_setup q past).peers ≡ setting.members (setting.net 0 q) =
      ap (λ (ps : List PortSetup). (slice_index_or ps q.0 no_port).peers) ports ∙ sym (set.members_are q (omega (arith, has, count))) in
      let named : past.name ≡ setting.name 0 = name ∙ sym set.name_is in
      let elects : past.strict ≡ setting.strict = strict ∙ sym set.strict_is in
      rw (named, elects, members) refl

  room_small : (past : NodePast) → past.ports ≡ setups_from 0 s.ports → room past.ports ≤ 25096
  room_small past ports =
      let few = room_is s (peers_of_ports past.ports) (ap (λ ps. peers_of_ports ps) ports) is.ports.one.few is.ports.one.four in
      let same = room_of past.ports in
      omega (arith, few, same)

  four : (past : NodePast) → past.ports ≡ setups_from 0 s.ports → length past.ports ≤ 4
  four past ports =
      let count : length past.ports ≡ length s.ports = ap (λ ps. length ps) ports ∙ length_setups_from 0 s.ports in
      let few = is.ports.one.four in
      omega (arith, count, few)

  some_port : (past : NodePast) → past.ports ≡ setups_from 0 s.ports → 0 < length past.ports
  some_port past ports =
      let count : length past.ports ≡ length s.ports = ap (λ ps. length ps) ports ∙ length_setups_from 0 s.ports in
      let some = is.ports.peers.some in
      omega (arith, count, some)

  -- one step more, by a row that keeps what is known of each port
  one_step : (n t x : ℕ) (past : NodePast) (cause : Cause) (row : NodeRow) → Ran s setting n t past → t ≤ x → n ≤ 1000000001 →
      (AllPorts (λ r. Fresh) x (in_node_step (step_of cause x) x past) → AllPorts (λ r. Ended) x (spread x (in_node_step (step_of cause x) x past)
      (row x (in_node_step (step_of cause x) x past)))) →
      StepOk (length past.ports) (room past.ports) setting (step_of cause x) x past.lines (did_in (step_of cause x) x Begins ∷
      dids past.lines) (row x (in_node_step (step_of cause x) x past)) →
      Ran s setting (n + 1) x (spread x (in_node_step (step_of cause x) x past) (row x (in_node_step (step_of cause x) x past)))
  one_step n t x past cause row r later turns leads ok =
      let step : Step = step_of cause x in
      let h : List Line = past.lines in
      let mid : NodePast = in_node_step step x past in
      let acts : List Placed = row x mid in
      let mark : Line = line_of step x first_port Begins in
      let ports : ℕ = length past.ports in
      let own_h : of 0 h ≡ h = of_own h r.own in
      let rested : AllPorts (λ r. Ended) x past = λ q has. ended_later t x (on_port q past) later (r.rests q has) in
      let after : AllPorts (λ r. Ended) x (spread x mid acts) =
      leads (begins_all step x x past (omega arith) (λ q has. ap (λ (ps : List PortSetup). (slice_index_or ps q.0 no_port).own.0) r.ports ∙
      own_setups 0 s.ports q.0) rested) in
      let few = r.posts in
      let most = ok.few in
      let room_few = room_small past r.ports in
      let before = r.time in
      let line = mark_line ports setting step x h (tick_is_holds x) (subst (λ ls. AreOn ports ls) (sym own_h) r.on) (omega (arith, before, later)) (omega (
        arith,
        few,
        turns,
      )) (λ q has. subst (λ ls. StepEnds (setup_of setting 0 q) (view q ls)) (sym own_h)
      (subst (λ k. StepEnds k (view q h)) (set_up past q r.name r.strict r.ports has) (ends_of (rested q has)))) in
      let all_own : AreOwn (joined step x acts (mark ∷ h)) = joined_own step x acts (mark ∷ h) refl (refl, r.own) in
      let own_is : dids (of 0 (mark ∷ h)) ≡ mark.did ∷ dids h = ap dids (of_own (mark ∷ h) (refl, r.own)) in
      let more = joined_posts step x acts (mark ∷ h) in
      record {
        name = r.name;
        strict = r.strict;
        ports = r.ports;
        fits = acts_fit ports setting step x h acts first_port Begins h (tick_is_holds x) ok.on (inr (Within_all h)) (omega (
          arith,
          few,
          turns,
          most,
          room_few,
          more,
        ))
            (subst (λ ds. AllAlive setting step x ds acts) (sym own_is) ok.alive) ok.taken
            (λ q has. subst (λ ls. PortFits (setup_of setting 0 q) (view q ls)) (sym (of_own (joined step x acts (mark ∷ h)) all_own))
            (subst (λ k. PortFits k (view q (joined step x acts (mark ∷ h)))) (set_up past q r.name r.strict r.ports has) (after q has).0.fits))
            (line, r.fits);
        own = all_own;
        on = joined_on ports step x acts (mark ∷ h) ok.on ((λ e. let bad : ⊥ = cc in absurd bad), r.on);
        time = joined_time step x acts (mark ∷ h) (omega arith);
        rests = after;
        posts = omega (arith, few, most, room_few, more);
      }

  -- the boot
  boots : (word : ℕ) → Ran s setting 1 tick (first_past s tick wall word) × (up (dids (first_past s tick wall word).lines) ≡ true)
  boots word =
      let base : NodePast = record {
        name = s.name;
        may = (daemon_config s).may;
        strict = is_strict s.candidacy;
        ports = setups_from 0 s.ports;
        step = step_of (Booted word wall) tick;
        lines = [];
      } in
      let mid : NodePast = in_node_step (step_of (Booted word wall) tick) tick base in
      let none : Ran s setting 0 0 base = record {
        name = refl;
        strict = refl;
        ports = refl;
        fits = tt;
        own = tt;
        on = tt;
        time = omega arith;
        rests = λ q has. nothing_done 0 (on_port q base);
        posts = omega arith;
      } in (
        one_step 0 0 tick base (Booted word wall) boots_all none (omega arith) (omega arith) (λ fresh. boots_all_lead.run tick mid fresh)
            (boot_ok setting (step_of (Booted word wall) tick) tick [] (did_in (step_of (Booted word wall) tick) tick Begins ∷
            []) mid word (four base refl) (ap (λ w. Booted word w) (sym set.wall_is))),
        boots_up tick mid,
      )

  up_after : (x : ℕ) (cause : Cause) (past : NodePast) (acts : List Placed) → up (dids past.lines) ≡ true →
      up (dids (spread x (in_node_step (step_of cause x) x past) acts).lines) ≡ true
  up_after x cause past acts is_up = up_joined (step_of cause x) x acts (line_of (step_of cause x) x first_port Begins ∷ past.lines) is_up

  -- a turn
  one_turn : (n t x : ℕ) (past : NodePast) (g : NodeGiven) → Ran s setting n t past × (up (dids past.lines) ≡ true) → t ≤ x → n ≤ 1000000001 → GivenOn g past →
      Ran s setting (n + 1) x (spread x (turn_begun g x past) (answers_all g x (turn_begun g x past))) ×
      (up (dids (spread x (turn_begun g x past) (answers_all g x (turn_begun g x past))).lines) ≡ true)
  one_turn n t x past NodeTurn r later turns given =
      let mid : NodePast = turn_begun NodeTurn x past in
      let ok = turn_ok setting (step_of Turned x) x past.lines (did_in (step_of Turned x) x Begins ∷ dids past.lines) mid (four past r.0.ports) r.1 in (
        one_step n t x past Turned (answers_all NodeTurn) r.0 later turns (λ fresh. (answers_all_lead NodeTurn).run x mid (tt, fresh)) ok,
        up_after x Turned past (answers_all NodeTurn x mid) r.1,
      )
  one_turn n t x past (GotOn q from taken) r later turns given =
      let g : NodeGiven = GotOn q from taken in
      let mid : NodePast = turn_begun g x past in
      let ok = got_ok setting (step_of (turn_cause g) x) x past.lines (did_in (step_of (turn_cause g) x) x Begins ∷ dids past.lines) mid q from taken
      (four past r.0.ports) given r.1 tt in (
        one_step n t x past (turn_cause g) (answers_all g) r.0 later turns (λ fresh. (answers_all_lead g).run x mid (given, fresh)) ok,
        up_after x (turn_cause g) past (answers_all g x mid) r.1,
      )

given_on : (past : NodePast) (a : Arrival) → 0 < length past.ports → GivenOn (given_of past.ports a) past
given_on past None some = tt
given_on past (Some (from, octets)) some = given_below past.ports from some

-- all turns of a daemon
turns_ran : (s : ServeWords) (o : Outside) (wall : ℤ) (word : ℕ) (written : List ℕ) (setting : Setting) → IsServe s →
    SetByWords s (read_once o).last wall setting → (i : ℕ) → i ≤ s.turns → Rises i (first_session s o wall word written) →
    let now = after_turns i (first_session s o wall word written) in Ran s setting (i + 1) now.outside.last now.past × (up (dids now.past.lines) ≡ true)
turns_ran s o wall word written setting is set zero few rises = boots is set word
turns_ran s o wall word written setting is set (suc i) few rises =
    let now = after_turns i (first_session s o wall word written) in
    let r = turns_ran s o wall word written setting is set i (omega (arith, few)) rises.0 in
    let most = is.few in
    let one = one_turn is set (i + 1) now.outside.last (turn_tick now) now.past (given_in now) r rises.1 (omega (arith, few, most))
    (given_on now.past (next_arrival now.outside.arrivals) (some_port is set now.past r.0.ports)) in
    let same : i + 1 + 1 ≡ suc i + 1 = omega arith in
    (subst (λ n. Ran s setting n (turn_tick now) (after_turns (suc i) (first_session s o wall word written)).past) same one.0, one.1)

finished : (s : ServeWords) (setting : Setting) (tick : ℕ) (wall : ℤ) (n t : ℕ) (past : NodePast) → IsServe s → SetByWords s tick wall setting →
    Ran s setting n t past → Finished setting past.lines
finished s setting tick wall n t past is set r zero q =
    let own = of_own past.lines r.own in
    all_end (setup_of setting 0 q) (length past.ports) q (of 0 past.lines) (subst (λ ls. AreOn (length past.ports) ls) (sym own) r.on)
    (λ has. subst (λ ls. StepEnds (setup_of setting 0 q) (view q ls)) (sym own) (subst (λ k. StepEnds k (view q past.lines))
    (set_up is set past q r.name r.strict r.ports has) (ends_of (r.rests q has))))
finished s setting tick wall n t past is set r (suc m) q =
    subst (λ ls. StepEnds (setup_of setting (suc m) q) (view q ls)) (sym (of_other m past.lines r.own)) (nothing_ends (setup_of setting (suc m) q))

-- so it keeps what is promised
pub session_kept : (s : ServeWords) (o : Outside) (wall : ℤ) (word : ℕ) (written : List ℕ) → IsServe s → (setting : Setting) →
    SetByWords s (read_once o).last wall setting → (i : ℕ) → i ≤ s.turns → Rises i (first_session s o wall word written) →
    HistoryKept setting (after_turns i (first_session s o wall word written)).past.lines
session_kept s o wall word written is setting set i few rises =
    let now = after_turns i (first_session s o wall word written) in
    let lines : List Line = now.past.lines in
    let r = turns_ran s o wall word written setting is set i few rises in
    let fits = r.0.fits in
    let ends = finished s setting (read_once o).last wall (i + 1) now.outside.last now.past is set r.0 in
    record {
      fits = fits;
      finished = ends;
      safe = safe setting lines fits ends;
      dates = Everywhere_from (SetsAt setting) lines (λ l older w. sets_at setting l older (fits_at setting (l ∷ older) lines fits w));
      hops = (looped_in setting lines fits).hops;
      looked = looked setting lines fits;
    }
