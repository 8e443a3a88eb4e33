-- A daemon's session and its node in the run are alike, and stay so from turn to turn: what the daemons of a network did is the run of its
-- events.
use Rattle.std.proofs.Common.{sym, ap, ap₂, arith, append_assoc, length-append, ◌∙◌, ◌≡◌, ℕ, suc, ◌+◌, ℤ, List, [], ◌∷◌, ◌++◌, length, refl, subst, eq-eqb, ◌-◌}
use Rattle.std.proofs.Common.{◌<◌, ◌≤◌, ◌==◌, Bool, true, false, slice_index_or, eqb-true, if◌then◌else◌, map, Option, None, Some}
use Rattle.std.proofs.lemmas.Bool.{eqb-false, ne_eqb}
use Rattle.tsp_args.specs.declared.serve.ServeWords.{ServeWords}
use Rattle.tsp_io.specs.Links.{Arrival}
use Rattle.tsp_daemon.specs.Sessions.{Session, acts_in_turn, turned, turn_begun, turn_cause, given_of}
use Rattle.tsp_daemon.specs.{Nodes.daemon_config, Nodes.setups_from, Posts.sends_of}
use Rattle.tsp_network.specs.Networks.{named_acts, daemon_tick, Network, acted, next_life, life_from, node_wall, nothing_yet, life_until, sent_by, sent_until}
use Rattle.tsp_network.specs.Networks.{starts, turned_to, turns}
use Rattle.tsp_network.proofs.SetUpLemmas.{daemon_ports, tells_apart, AllMatch, NoneMatch, acts_match, match_append, until_match, configs_alike}
use Rattle.tsp_network.specs.Lives.{Life, session_after, session_of, turn_told, turn_acts, Daemons, AreStarted, first_acts}
use Rattle.tsp_network.specs.Rosters.{renaming_on}
use Rattle.tsp_rules.specs.NodeRows.{NodePast, PortSetup, in_node_step, no_port}
use Rattle.tsp_rules.specs.GateRows.{NodeGiven, NodeTurn, GotOn, answers_all, boots_all}
use Rattle.tsp_rules.specs.{Renames.Renaming, Values.Placed, Values.Peer, Values.Stranger, Values.Port, Values.Boot}
use Rattle.tsp_base.specs.Words.{Begins, Line, Step, dids, first_port, joined, line_of, of, stepped, up, Booted, Acts}
use Rattle.tsp_promises.specs.Setting.{KeepsTime}
use Rattle.tsp_run.proofs.RunLemmas.{stepped_own, stepped_other, up_joined, posts_stepped}
use Rattle.tsp_run.specs.{Clocked.IsSetUp, Clocked.boot_by, Clocked.tick_by, Run.joins, Run.posts, Run.posts_from, Setup.past_of, Setup.rests}
use Rattle.tsp_run.{proofs.HappensBy.acts_by, proofs.HappensBy.stepping, specs.Networks.networks}
use Rattle.tsp_alike.specs.AlikeNodes.{AlikeLines, AlikeNodes, AllKnown, Both, ComesOn, TellsApart, naming_of, namings, renamed_given, SameBoot, renamed_placed}
use Rattle.tsp_alike.proofs.AlikeLaws.{answers_are_alike, boots_are_alike}
use Rattle.tsp_alike.proofs.NodesAlike.{configs_of, with_lines}

-- a session of which this is told, and no more
abbrev pub told_so : List Arrival → List ℕ → Session → Session
told_so arrivals readings s = record s { outside = record s.outside { arrivals = arrivals; readings = readings } }

-- a life of which more is told
abbrev pub with_more : List Arrival → List ℕ → Life → Life
with_more arrivals readings life = record life { arrivals = life.arrivals ++ arrivals; readings = life.readings ++ readings }

-- lives that began, and were told turn after turn
pub data Reached : Life → Type 0 where
  Began : (origin sent : ℕ) (wall : ℤ) (word first : ℕ) → Reached (record {
    origin = origin;
    sent_before = sent;
    wall = wall;
    word = word;
    arrivals = [];
    readings = first ∷ [];
  })
  Went : {life : Life} → Reached life → (arrival : Arrival) (early tick : ℕ) → Reached (turn_told arrival early tick life)

-- after as many turns as were told, what is told besides is left
pub left_over : (s : ServeWords) {life : Life} → Reached life → (came : List Arrival) (ts : List ℕ) →
    session_after (length life.arrivals) s (with_more came ts life) ≡ told_so came ts (session_of s life)
left_over s (Began origin sent wall word first) came ts = refl
left_over s (Went {life} r arrival early tick) came ts =
    let count : length (life.arrivals ++ arrival ∷ []) ≡ suc (length life.arrivals) = length-append life.arrivals (arrival ∷ []) ∙
    (let e : length life.arrivals + 1 ≡ suc (length life.arrivals) = omega arith in e) in
    ap (λ n. session_after n s (with_more came ts (turn_told arrival early tick life))) count
    ∙ ap (λ l. turned (session_after (length life.arrivals) s (record life { arrivals = l; readings = (life.readings ++ early ∷ tick ∷ []) ++ ts })))
    (append_assoc life.arrivals (arrival ∷ []) came)
    ∙ ap (λ l. turned (session_after (length life.arrivals) s (record life { arrivals = life.arrivals ++ arrival ∷ came; readings = l })))
    (append_assoc life.readings (early ∷ tick ∷ []) ts)
    ∙ ap turned (left_over s r (arrival ∷ came) (early ∷ tick ∷ ts))
    ∙ ap (told_so came ts) (sym (ap turned (left_over s r (arrival ∷ []) (early ∷ tick ∷ []))))
    ∙ ap (λ n. told_so came ts (session_after n s (turn_told arrival early tick life))) (sym count)

-- the session after one turn more
pub session_told : (s : ServeWords) {life : Life} → Reached life → (a : Arrival) (e t : ℕ) → session_of s (turn_told a e t life) ≡
    turned (told_so (a ∷ []) (e ∷ t ∷ []) (session_of s life))
session_told s {life} r a e t =
    let count : length (life.arrivals ++ a ∷ []) ≡ suc (length life.arrivals) = length-append life.arrivals (a ∷ []) ∙
    (let same : length life.arrivals + 1 ≡ suc (length life.arrivals) = omega arith in same) in
    ap (λ n. session_after n s (turn_told a e t life)) count ∙ ap turned (left_over s r (a ∷ []) (e ∷ t ∷ []))

-- and the acts of that turn
pub acts_told : (s : ServeWords) {life : Life} → Reached life → (a : Arrival) (e t : ℕ) → turn_acts s life (turn_told a e t life) ≡
    acts_in_turn (told_so (a ∷ []) (e ∷ t ∷ []) (session_of s life))
acts_told s {life} r a e t = ap acts_in_turn (left_over s r (a ∷ []) (e ∷ t ∷ []))

-- of a past only its lines and its setup matter
later_lines : {rs : Port → Renaming} {shift : ℕ} {p p' : NodePast} (apart : (q : Port) → TellsApart (rs q)) → AlikeNodes rs apart shift p p' → (s : Step)
    (h : List Line) → h ≡ p'.lines →
    AlikeNodes rs apart shift p (record p' { step = s; lines = h })
later_lines {rs} {shift} {p} apart a s h same = with_lines apart (configs_of a) p.step s
    (subst (λ z. AlikeLines (namings rs apart p) shift p.lines z) (sym same) a.lines)

-- the lines of a node after its own step
own_lines : (step : Step) (x z : ℕ) (acts ours : List Placed) (h : List Line) → z ≡ x → acts ≡ ours →
    of step.node (stepped step x acts h) ≡ joined step z ours (line_of step z first_port Begins ∷ of step.node h)
own_lines step x z acts ours h tick same =
    stepped_own step.node step x acts h (eq-eqb step.node step.node refl)
    ∙ ap₂ (λ y l. joined step y l (line_of step y first_port Begins ∷ of step.node h)) (sym tick) same

-- what comes on a port comes on it in a step too
comes_step : (s : Step) (x : ℕ) (past : NodePast) (g : NodeGiven) → ComesOn past g → ComesOn (in_node_step s x past) g
comes_step s x past NodeTurn c = c
comes_step s x past (GotOn q (Peer from) t) c = c
comes_step s x past (GotOn q Stranger t) c = c

module _ (d : Daemons) (is : IsSetUp d.header) (keeps : (n : ℕ) → KeepsTime d.header.drift (d.clocks.tick n)) where
  abbrev nets : List (List ℕ)
  nets = networks d.header

  -- ticks never fall
  pub ticks_rise : (n t at : ℕ) → t ≤ at → daemon_tick d n t ≤ daemon_tick d n at
  ticks_rise n t at later = subst (λ k. daemon_tick d n t ≤ daemon_tick d n k) (let e : t + (at - t) ≡ at = omega (arith, later) in e)
      ((keeps n).rises t (at - t))

  -- a daemon that runs on node n has come to this life; and so has the node in a run that has come to this history at this true time
  pub record Agrees (n : ℕ) (life : Life) (t : ℕ) (h : List Line) : Type 0 where
    pub low : n < length d.header.nodes
    pub reached : Reached life
    pub began : life.origin ≤ daemon_tick d n t
    pub ports : (session_of (d.words n) life).past.ports ≡ daemon_ports d n
    pub up_is : up (dids (of n h)) ≡ true
    pub alike : AlikeNodes (renaming_on nets n life.origin) (tells_apart d is n life.origin) life.origin (session_of (d.words n) life).past
        (past_of d.header (rests n) h)

  -- nothing changes for it while its node does nothing
  agrees_later : (n : ℕ) (life : Life) (t at : ℕ) (h h' : List Line) → of n h' ≡ of n h → t ≤ at → Agrees n life t h → Agrees n life at h'
  agrees_later n life t at h h' same later a = record {
    low = a.low;
    reached = a.reached;
    began = (let one = a.began in let two = ticks_rise n t at later in omega (arith, one, two));
    ports = a.ports;
    up_is = ap (λ l. up (dids l)) same ∙ a.up_is;
    alike = later_lines (tells_apart d is n life.origin) a.alike (rests n) (of n h') same;
  }

  -- what a daemon is given in a turn in which this comes
  abbrev pub given : ℕ → Life → Arrival → NodeGiven
  given n life a = given_of (session_of (d.words n) life).past.ports a

  -- a daemon that runs agrees with its node
  abbrev pub OneAgrees : ℕ → Option Life → ℕ → List Line → Type 0
  OneAgrees n None t h = Unit {0}
  OneAgrees n (Some life) t h = Agrees n life t h

  -- a network agrees with the run of its events: in its history, in each daemon, and in what was sent
  pub record AllAgree (w : Network) (t : ℕ) (h : List Line) : Type 0 where
    pub history : w.history ≡ h
    pub nodes : (n : ℕ) → OneAgrees n (w.lives n) t h
    pub sends : AllMatch d w.sent (posts h)

  pub none_agree : AllAgree nothing_yet 0 []
  none_agree = record { history = refl; nodes = λ n. tt; sends = NoneMatch }

  later_one : (n : ℕ) (o : Option Life) (t at : ℕ) (h h' : List Line) → of n h' ≡ of n h → t ≤ at → OneAgrees n o t h → OneAgrees n o at h'
  later_one n None t at h h' same later a = tt
  later_one n (Some life) t at h h' same later a = agrees_later n life t at h h' same later a

  -- while nothing happens both agree
  pub all_still : (w : Network) (t at : ℕ) (h : List Line) → t ≤ at → AllAgree w t h → AllAgree w at h
  all_still w t at h later a = record { history = a.history; nodes = λ n. later_one n (w.lives n) t at h h refl later (a.nodes n); sends = a.sends }

  -- a daemon has stepped, or ended, and its node in the run has stepped
  pub acted_agrees : (w : Network) (t : ℕ) (h : List Line) (k : ℕ) (step : Step) (now : Life) (acts : List Placed) → AllAgree w t h → t ≤ step.at →
      Agrees step.node now step.at (stepped step (tick_by d.clocks step) (named_acts nets step.node now.origin acts) h) →
      AllMatch d (map (sent_by step.node) (sends_of acts)) (posts_from step.at step.node (named_acts nets step.node now.origin acts)) →
      AllAgree (acted d k step now acts w) step.at (stepped step (tick_by d.clocks step) (named_acts nets step.node now.origin acts) h)
  acted_agrees w t h k step now acts a later own sends =
      let x : ℕ = tick_by d.clocks step in
      let theirs : List Placed = named_acts nets step.node now.origin acts in
      record {
        history = ap (λ l. stepped step x theirs l) a.history;
        nodes = λ m. by_node m (m == step.node) refl;
        sends = subst (λ l. AllMatch d (w.sent ++ sent_until (d.tries k) (map (sent_by step.node) (sends_of acts))) l) (sym (posts_stepped step x theirs h))
            (match_append d a.sends (until_match d (d.tries k) sends));
      } where
        more : List Line
        more = stepped step (tick_by d.clocks step) (named_acts nets step.node now.origin acts) h

        by_end : (o : Option ℕ) → OneAgrees step.node (life_until o now) step.at more
        by_end None = own
        by_end (Some n) = tt

        by_node : (m : ℕ) (b : Bool) → (m == step.node) ≡ b → OneAgrees m (if b then life_until (d.tries k) now else w.lives m) step.at more
        by_node m true e = subst (λ n. OneAgrees n (life_until (d.tries k) now) step.at more) (sym (eqb-true m step.node e)) (by_end (d.tries k))
        by_node m false e =
            let off = ne_eqb step.node m (λ same. eqb-false m step.node e (sym same)) in
            later_one m (w.lives m) t step.at h more
            (stepped_other m step (tick_by d.clocks step) (named_acts nets step.node now.origin acts) h off) later (a.nodes m)

  -- a daemon takes a turn, and its node what comes to it: both act the same, and agree after it
  pub turn_agrees_all : (w : Network) (t : ℕ) (h : List Line) (k : ℕ) (step : Step) (a : Arrival) (life : Life) (g : NodeGiven) → AllAgree w t h → t ≤ step.at →
      w.lives step.node ≡ Some life →
      renamed_given (renaming_on nets step.node life.origin) (given step.node life a) ≡ g →
      ComesOn (session_of (d.words step.node) life).past (given step.node life a) →
      AllAgree (turns d k step a (w.lives step.node) w) step.at (joins (Some (stepping d.clocks d.header h (answers_all g) step)) h)
  turn_agrees_all w t h k step a life g all later lives same comes =
      let n : ℕ = step.node in
      let own : Agrees n life t h = subst (λ o. OneAgrees n o t h) lives (all.nodes n) in
      let x : ℕ = tick_by d.clocks step in
      let y : ℕ = x - life.origin in
      let before = own.began in
      let rise = ticks_rise n t step.at later in
      let tick : y + life.origin ≡ x = omega (arith, before, rise) in
      let s = d.words n in
      let past : NodePast = (session_of s life).past in
      let given_is : NodeGiven = given n life a in
      let early : ℕ = d.early k in
      let now : Life = turn_told a early y life in
      let rs : Port → Renaming = renaming_on nets n life.origin in
      let apart : (q : Port) → TellsApart (rs q) = tells_apart d is n life.origin in
      let p : NodePast = turn_begun given_is y past in
      let acts : List Placed = turn_acts s life now in
      let acts_are : acts ≡ answers_all given_is y p = acts_told s own.reached a early y in
      let here : NodePast = past_of d.header step h in
      let p' : NodePast = in_node_step step (y + life.origin) here in
      let first : Step = record { at = y; node = 0; cause = turn_cause given_is } in
      let begun : AlikeNodes rs apart life.origin p p' = with_lines apart (configs_of own.alike) first step
      (Both first step y first_port Begins refl tt own.alike.lines) in
      let both = answers_are_alike rs apart life.origin given_is y p p' begun (comes_step first y past given_is comes) in
      let ours : List Placed = answers_all (renamed_given rs given_is) (y + life.origin) p' in
      let theirs : List Placed = named_acts nets n life.origin acts in
      let named : theirs ≡ ours = ap (named_acts nets n life.origin) acts_are ∙ sym both.same in
      let later_session = session_told s own.reached a early y in
      let known = subst (λ (l : List PortSetup). AllKnown (λ q. naming_of (rs q) (apart q) (slice_index_or l q.0 no_port) past.may) acts) own.ports
      (subst (λ l. AllKnown (namings rs apart p) l) (sym acts_are) both.known) in
      let after : Agrees n now step.at (stepped step x theirs h) = record {
        low = own.low;
        reached = Went own.reached a early y;
        began = omega (arith, before, rise);
        ports = ap (λ (z : Session). z.past.ports) later_session ∙ own.ports;
        up_is = ap (λ l. up (dids l)) (own_lines step x x theirs theirs h refl refl) ∙ up_joined step x theirs
            (line_of step x first_port Begins ∷ of n h) own.up_is;
        alike = subst (λ (z : Session). AlikeNodes rs apart life.origin z.past (past_of d.header (rests n) (stepped step x theirs h))) (sym later_session)
            (later_lines apart both.after (rests n) (of n (stepped step x theirs h)) (own_lines step x (y + life.origin) theirs ours h tick named));
      } in
      let acts_same : theirs ≡ acts_by d.clocks d.header h (answers_all g) step = named ∙ ap₂ (λ z c. answers_all c z (in_node_step step z here)) tick same in
      let sends = acts_match d is n life.origin past.may step.at acts known in
      subst (λ o. AllAgree (turns d k step a o w) step.at (joins (Some (stepping d.clocks d.header h (answers_all g) step)) h)) (sym lives)
      (subst (λ l. AllAgree (turned_to d k step life now w) step.at (stepped step x l h)) acts_same (acted_agrees w t h k step now acts all later after sends))

  -- a daemon starts, and its node boots
  boot_agrees_holds : AreStarted d → (w : Network) (t k at n word : ℕ) → AllAgree w t w.history → t ≤ at → n < length d.header.nodes →
      d.origin k ≤ daemon_tick d n at →
      AllAgree (starts d k at n word w) at (joins (Some (stepping d.clocks d.header w.history boots_all (boot_by d.clocks w.history at n word))) w.history)
  boot_agrees_holds started w t k at n word all later low began =
      let h : List Line = w.history in
      let step : Step = boot_by d.clocks h at n word in
      let x : ℕ = daemon_tick d n at in
      let origin : ℕ = d.origin k in
      let y : ℕ = x - origin in
      let tick : y + origin ≡ x = omega (arith, began) in
      let wall = node_wall d n (next_life w n) at in
      let now : Life = life_from d k at n word w in
      let c = daemon_config (d.words n) in
      let first : Step = record { at = y; node = 0; cause = Booted word wall } in
      let base : NodePast = record { name = c.name; may = c.may; strict = c.strict; ports = c.ports; step = first; lines = [] } in
      let p : NodePast = in_node_step first y base in
      let here : NodePast = past_of d.header step h in
      let p' : NodePast = in_node_step step (y + origin) here in
      let acts : List Placed = first_acts (d.words n) y wall word in
      let ports : base.ports ≡ daemon_ports d n = ap (λ l. setups_from 0 l) (started n low).ports in
      let configs = configs_alike d is n (started n low) origin step h refl base refl refl refl ports in
      let same : SameBoot first step = record { word = word; wall = wall; first = refl; second = refl } in
      let rs : Port → Renaming = renaming_on nets n origin in
      let apart : (q : Port) → TellsApart (rs q) = tells_apart d is n origin in
      let b = boots_are_alike rs apart origin y first step base here configs same in
      let ours : List Placed = boots_all (y + origin) p' in
      let theirs : List Placed = named_acts nets n origin acts in
      let named : theirs ≡ ours = sym b.same in
      let boot : Placed = record { port = first_port; act = Boot } in
      let whole : theirs ≡ boot ∷ map (renamed_placed rs) b.rest = ap (map (renamed_placed rs)) b.is in
      let after : Agrees n now at (stepped step x theirs h) = record {
        low = low;
        reached = Began origin (length w.sent) wall word y;
        began = began;
        ports = ports;
        up_is = ap (λ l. up (dids l)) (own_lines step x x theirs (boot ∷ map (renamed_placed rs) b.rest) h refl whole)
            ∙ up_joined step x (map (renamed_placed rs) b.rest) (line_of step x first_port (Acts Boot) ∷ line_of step x first_port Begins ∷ of n h) refl;
        alike = later_lines apart b.after (rests n) (of n (stepped step x theirs h)) (own_lines step x (y + origin) theirs ours h tick named);
      } in
      let known = subst (λ (l : List PortSetup). AllKnown (λ q. naming_of (rs q) (apart q) (slice_index_or l q.0 no_port) base.may) b.rest) ports b.known in
      let sends : AllMatch d (map (sent_by n) (sends_of acts)) (posts_from at n theirs) =
      subst (λ l. AllMatch d (map (sent_by n) (sends_of l)) (posts_from at n (map (renamed_placed rs) l))) (sym b.is)
      (acts_match d is n origin base.may at b.rest known) in
      let all_acts : theirs ≡ acts_by d.clocks d.header h boots_all step = named ∙ ap (λ z. boots_all z (in_node_step step z here)) tick in
      subst (λ l. AllAgree (starts d k at n word w) at (stepped step x l h)) all_acts (acted_agrees w t h k step now acts all later after sends)

  pub boot_agrees : AreStarted d → (w : Network) (t : ℕ) (h : List Line) (k at n word : ℕ) → AllAgree w t h → t ≤ at → n < length d.header.nodes →
      d.origin k ≤ daemon_tick d n at →
      AllAgree (starts d k at n word w) at (joins (Some (stepping d.clocks d.header h boots_all (boot_by d.clocks h at n word))) h)
  boot_agrees started w t h k at n word all later low began =
      subst (λ g. AllAgree (starts d k at n word w) at (joins (Some (stepping d.clocks d.header g boots_all (boot_by d.clocks g at n word))) g)) all.history
      (boot_agrees_holds started w t k at n word (subst (λ g. AllAgree w t g) (sym all.history) all) later low began)
