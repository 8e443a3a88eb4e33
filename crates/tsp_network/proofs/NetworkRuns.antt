-- Event after event a network of daemons does what the run of its events does, and what can happen in it isn't impossible in the run.
use Rattle.std.proofs.Common.{sym, ap, subst, inl, inr, ◌∙◌, ◌≡◌, ℕ, ◌<◌, ◌≤◌, ◌==◌, not, true, List, length, Option, None, Some, All, refl, arith}
use Rattle.std.proofs.Common.{length-append, ◌-◌, ◌^◌, nat_le, false, if◌then◌else◌, [], ◌∷◌, ◌++◌, slice_get}
use Rattle.std.proofs.lemmas.List.Elements.{All-get_or, All-filter, All-nil, All-cons}
use Rattle.std.proofs.lemmas.Bool.{le-ltb, lt-ltb}
use Rattle.tsp_rules.specs.Values.{BootAt, Turn, Take, Bytes, Peer, Stranger, Place, Port, Event, Message, Stamp, Datagram, Request, Reply}
use Rattle.tsp_rules.specs.GateRows.{GotOn, NodeTurn, answers_all, boots_all}
use Rattle.tsp_base.specs.Words.{Came, Handed, has_member, Line, Step, Turned, peer_of}
use Rattle.tsp_base.specs.declared.event.EventFault.{EventFault}
use Rattle.tsp_run.specs.Refusals.{Scene, actor, down, first_of, impossible, port_count, time_back, unknown, unknown_place, down_at, node_in}
use Rattle.tsp_run.specs.Run.{arrives, arrives_at, event_at, goes_to, joins, last_at, posts}
use Rattle.tsp_run.specs.Clocked.{IsSetUp, PossibleBy, boot_by, happening_by, reaches_by, run_by, scene_by, tick_by}
use Rattle.tsp_run.{proofs.SoundLemmas.sound_writable, specs.Networks.networks, specs.Networks.ports_on, specs.Networks.address_of}
use Rattle.tsp_run.{proofs.HappensBy.stepping, proofs.HappensBy.steps_are, proofs.HappensBy.taking, specs.declared.address.Address.Address}
use Rattle.tsp_run.proofs.{NetworkLemmas.goes_there, RunFits.post_sound, RunFits.ran, SettingLemmas.clocks_are_set}
use Rattle.tsp_run.specs.Ranges.{IsInRange}
use Rattle.tsp_network.specs.Networks.{Network, Sent, after_event, copy_at, delivers, network, starts, takes_copy, turned_to, turns}
use Rattle.tsp_network.proofs.NetworkAgrees.{Agrees, AllAgree, OneAgrees, all_still, boot_agrees, none_agree, turn_agrees_all}
use Rattle.tsp_network.proofs.RosterLemmas.{header_nets, place_is, port_is, length_neighbours, poster_near}
use Rattle.tsp_network.specs.Events.{MayCome, AllHappen, CanHappen, IsRunning, RunsAt, RunsFor}
use Rattle.tsp_network.specs.Rosters.{neighbours_on, place_in, destination, sender_for}
use Rattle.tsp_network.proofs.SetUpLemmas.{comes_as, MatchedAt, match_at, match_length}
use Rattle.tsp_network.specs.Lives.{Daemons, AreStarted, Life, session_of, turn_told}
use Rattle.tsp_codec.{proofs.Written.length_canon, specs.Canon.canon, specs.Canon.room_for, specs.Taken.taken_of}
use Rattle.tsp_promises.specs.{Setting.KeepsTime, Sound.IsSound}
use Rattle.tsp_io.specs.Links.{Arrival}

none_of : {a b : Option EventFault} → a ≡ None → b ≡ None → first_of a b ≡ None
none_of {b = b} e f = ap (λ z. first_of z b) e ∙ f

is_node : (nodes n : ℕ) → n < nodes → unknown nodes n ≡ None
is_node nodes n h = rw (lt-ltb n nodes h) refl

in_time : (at last : ℕ) → last ≤ at → time_back at last ≡ None
in_time at last h = rw (le-ltb at last h) refl

is_up : (s : Scene) (n : ℕ) → s.up n ≡ true → down s.up (Some n) ≡ None
is_up s n e = rw e refl

could_take : (s : Scene) (at k : ℕ) → s.last ≤ at → k < length s.posts → down s.up (actor s (Take at k)) ≡ None → impossible s (Take at k) ≡ None
could_take s at k time few up_is = none_of (in_time at s.last time) (none_of refl (none_of (rw (lt-ltb k (length s.posts) few) refl) up_is))

could_come : (s : Scene) (at node : ℕ) (port : Port) (from : Place) (octets : List ℕ) → s.last ≤ at → node < s.nodes → port.0 < port_count node s.networks →
    unknown_place s.nodes from ≡ None → s.up node ≡ true → impossible s (Bytes at node port from octets) ≡ None
could_come s at node port from octets time low has place up_is =
    none_of (in_time at s.last time) (none_of (none_of (is_node s.nodes node low) (none_of (rw (lt-ltb port.0 (port_count node s.networks) has) refl) place))
    (none_of refl (is_up s node up_is)))

-- whoever octets may come from is a node, or a stranger
sender_known : (d : Daemons) → IsSetUp d.header → (n : ℕ) → n < length d.header.nodes → (q : Port) → q.0 < length (ports_on n (networks d.header)) →
    (from : Place) → MayCome (networks d.header) n q from → unknown_place (length d.header.nodes) from ≡ None
sender_known d is n low q has Stranger may = refl
sender_known d is n low q has (Peer m) (inl own) = is_node (length d.header.nodes) m.0 (subst (λ k. k < length d.header.nodes) (sym own.0) low)
sender_known d is n low q has (Peer m) (inr member) =
    let p = port_is (length d.header.nodes) n q.0 (networks d.header) (header_nets d.header is) has in
    let at = place_is m.0 (neighbours_on n q.0 (networks d.header)) member in
    let below : All (λ k. k < length d.header.nodes) (neighbours_on n q.0 (networks d.header)) =
    subst (λ l. All (λ k. k < length d.header.nodes) l) (sym p.nodes) (All-filter (λ k. not (k == n)) (λ k. k < length d.header.nodes) p.net p.good.low) in
    is_node (length d.header.nodes) m.0 (subst (λ k. k < length d.header.nodes) at.is
    (All-get_or (λ k. k < length d.header.nodes) (neighbours_on n q.0 (networks d.header)) (place_in m.0 (neighbours_on n q.0 (networks d.header))) 0 at.few
    below))

-- a written datagram has at most 268 octets
canon_small : (x : Datagram) → IsSound x → length (canon x) ≤ 512
canon_small (Message m) s = let size = length_canon (Message m) (sound_writable (Message m) s) in let room = small-room (length m.name) in
    omega (arith, size, room) where
      small-room : (n : ℕ) → room_for n ≤ 256
      small-room n = elim (nat_le n 63) as (λ b. (if b then 64 else 256) ≤ 256) [ true ↦ omega arith | false ↦ omega arith ]
canon_small (Stamp (Request word counter)) s = let size = length_canon (Stamp (Request word counter)) s in omega (arith, size)
canon_small (Stamp (Reply r)) s = let size = length_canon (Stamp (Reply r)) s in omega (arith, size)

-- a daemon that runs
pub record Running (o : Option Life) : Type 0 where
  pub life : Life
  pub is : o ≡ Some life

pub running : (d : Daemons) (n : ℕ) (o : Option Life) → IsRunning d n o → Running o
running d n None r = absurd r
running d n (Some life) r = record { life = life; is = refl }

-- what comes of event k: a daemon starts, one that runs takes a turn, or nothing
pub data Outcome (d : Daemons) (k : ℕ) (w : Network) : Network → Type 0 where
  Starts : (at n word : ℕ) → Outcome d k w (starts d k at n word w)
  Turns : (step : Step) (a : Arrival) (life : Life) → w.lives step.node ≡ Some life →
      Outcome d k w (turned_to d k step life (turn_told a (d.early k) (tick_by d.clocks step - life.origin) life) w)
  Nothing : Outcome d k w w

turn_outcome : (d : Daemons) (k : ℕ) (w : Network) (step : Step) (a : Arrival) (o : Option Life) → w.lives step.node ≡ o → Outcome d k w (turns d k step a o w)
turn_outcome d k w step a None e = Nothing
turn_outcome d k w step a (Some life) e = Turns step a life e

pub outcome : (d : Daemons) (k : ℕ) (w : Network) (e : Event) → Outcome d k w (after_event d k e w)
outcome d k w (BootAt at node word) = Starts at node word
outcome d k w (Turn at node) = turn_outcome d k w (record { at = at; node = node; cause = Turned }) None (w.lives node) refl
outcome d k w (Bytes at node port from octets) =
    turn_outcome d k w (record { at = at; node = node; cause = Handed }) (Some (sender_for (networks d.header) node port from, octets)) (w.lives node) refl
outcome d k w (Take at number) = by_send (slice_get w.sent number) where
  by_address : (s : Sent) (o : Option Address) → Outcome d k w (delivers d k at number s o w)
  by_address s None = Nothing
  by_address s (Some a) = turn_outcome d k w (record { at = at; node = a.node; cause = Came number }) (copy_at (networks d.header) a s) (w.lives a.node) refl

  by_send : (o : Option Sent) → Outcome d k w (takes_copy d k at number o w)
  by_send None = Nothing
  by_send (Some s) = by_address s (destination (networks d.header) s.from s.tried.0)

-- no send is forgotten
pub longer : (ss ts : List Sent) → length ss ≤ length (ss ++ ts)
longer ss ts = let both = length-append ss ts in omega (arith, both)

grows : {d : Daemons} {k : ℕ} {w v : Network} → Outcome d k w v → length w.sent ≤ length v.sent
grows {w = w} (Starts at n word) = longer w.sent _
grows {w = w} (Turns step a life there) = longer w.sent _
grows Nothing = omega arith

module _ (d : Daemons) (header_is : IsSetUp d.header) (keeps : (n : ℕ) → KeepsTime d.header.drift (d.clocks.tick n)) (started : AreStarted d) where
  abbrev nets : List (List ℕ)
  nets = networks d.header

  abbrev Agreeing : Network → ℕ → List Line → Type 0
  Agreeing = AllAgree d header_is keeps

  own_agrees : (w : Network) (t : ℕ) (h : List Line) (n : ℕ) → Agreeing w t h → (r : Running (w.lives n)) → Agrees d header_is keeps n r.life t h
  own_agrees w t h n a r = subst (λ o. OneAgrees d header_is keeps n o t h) r.is (a.nodes n)

  -- what is known of an event that can happen after others, with which the network agrees
  pub record EventAgrees (e : Event) (before : List Event) : Type 0 where
    pub agree : Agreeing (after_event d (length before) e (network d before)) (event_at e) (run_by d.clocks d.header (e ∷ before))
    pub can : impossible (scene_by d.clocks d.header before) e ≡ None
    pub ranges : IsInRange e

  pub event_agrees : (before : List Event) (e : Event) → PossibleBy d.clocks d.header before → last_at before ≤ event_at e →
      Agreeing (network d before) (last_at before) (run_by d.clocks d.header before) → CanHappen d (length before) (network d before) e → EventAgrees e before
  event_agrees before (BootAt at node word) possible later a c = record {
    agree = subst (λ z. Agreeing (after_event d (length before) (BootAt at node word) (network d before)) at
        (joins (Some z) (run_by d.clocks d.header before)))
        (sym (steps_are d.clocks d.header (run_by d.clocks d.header before) boots_all (boot_by d.clocks (run_by d.clocks d.header before) at node word)))
        (boot_agrees d header_is keeps started (network d before) (last_at before) (run_by d.clocks d.header before)
        (length before) at node word a later c.0 c.2);
    can = none_of (in_time at (last_at before) later) (none_of (is_node (length d.header.nodes) node c.0) refl);
    ranges = c.1;
  }
  event_agrees before (Turn at node) possible later a c =
      let w : Network = network d before in
      let h : List Line = run_by d.clocks d.header before in
      let r = running d node (w.lives node) c in
      let own = own_agrees w (last_at before) h node a r in
      let step : Step = record { at = at; node = node; cause = Turned } in
      record {
        agree = subst (λ z. Agreeing (after_event d (length before) (Turn at node) w) at (joins (Some z) h))
            (sym (steps_are d.clocks d.header h (answers_all NodeTurn) step))
            (turn_agrees_all d header_is keeps w (last_at before) h (length before) step None r.life NodeTurn a later r.is refl tt);
        can = none_of (in_time at (last_at before) later)
            (none_of (is_node (length d.header.nodes) node own.low) (none_of refl (is_up (scene_by d.clocks d.header before) node own.up_is)));
        ranges = tt;
      }
  event_agrees before (Bytes at node port from octets) possible later a c =
      let w : Network = network d before in
      let h : List Line = run_by d.clocks d.header before in
      let r = running d node (w.lives node) c.0 in
      let own = own_agrees w (last_at before) h node a r in
      let step : Step = record { at = at; node = node; cause = Handed } in
      let all = length_neighbours node nets in
      let some = c.1 in
      let has : port.0 < length (ports_on node nets) = omega (arith, some, all) in
      let k = comes_as d header_is node r.life.origin port from octets (session_of (d.words node) r.life).past own.ports c.2 has c.3 in
      record {
        agree = subst (λ z. Agreeing (after_event d (length before) (Bytes at node port from octets) w) at (joins (Some z) h))
            (sym (steps_are d.clocks d.header h (answers_all (GotOn port from (taken_of octets))) step))
            (turn_agrees_all d header_is keeps w (last_at before) h (length before) step (Some (sender_for nets node port from, octets)) r.life
            (GotOn port from (taken_of octets)) a later r.is k.same k.comes);
        can = could_come (scene_by d.clocks d.header before) at node port from octets later own.low has
            (sender_known d header_is node own.low port has from c.2) own.up_is;
        ranges = c.4;
      }
  event_agrees before (Take at k) possible later a c = by_send (slice_get (network d before).sent k) refl c where
    w : Network
    w = network d before

    h : List Line
    h = run_by d.clocks d.header before

    by_address : (s : Sent) (m : MatchedAt d s (posts h) k) → slice_get w.sent k ≡ Some s → (o : Option Address) →
        destination nets s.from s.tried.0 ≡ o → RunsAt d w o → EventAgrees (Take at k) before
    by_address s m there None e r =
        let away : address_of nets m.post.from m.post.port m.post.to ≡ None = sym m.matches.goes ∙ e in
        let net : after_event d (length before) (Take at k) w ≡ w = ap (λ z. takes_copy d (length before) at k z w) there ∙
        ap (λ z. delivers d (length before) at k s z w) e in
        let nowhere : goes_to nets (slice_get (posts h) k) ≡ None = ap (goes_to nets) m.there ∙ away in
        let nothing : happening_by d.clocks d.header h (Take at k) ≡ None = ap (λ z. reaches_by d.clocks d.header h at k (arrives nets z)) m.there ∙
        ap (λ z. reaches_by d.clocks d.header h at k (arrives_at m.post z)) away in
        record {
          agree = subst (λ z. Agreeing z at (run_by d.clocks d.header (Take at k ∷ before))) (sym net)
              (subst (λ z. Agreeing w at (joins z h)) (sym nothing) (all_still d header_is keeps w (last_at before) at h later a));
          can = could_take (scene_by d.clocks d.header before) at k later m.few (ap (λ z. down (scene_by d.clocks d.header before).up (node_in z)) nowhere);
          ranges = tt;
        }
    by_address s m there (Some to) e r =
        let r = running d to.node (w.lives to.node) r in
        let own = own_agrees w (last_at before) h to.node a r in
        let post = m.post in
        let goes : address_of nets post.from post.port post.to ≡ Some to = sym m.matches.goes ∙ e in
        let reach = goes_there nets post.from post.port post.to to goes in
        let step : Step = record { at = at; node = to.node; cause = Came k } in
        let set = clocks_are_set d.clocks d.header header_is keeps in
        let sound = post_sound header_is set.1 before (last_at before) k post (ran header_is set.1 before possible) m.there in
        let octets : List ℕ = s.tried.1 in
        let written : octets ≡ canon post.datagram = m.matches.sent.octets in
        let small : length octets ≤ 512 = subst (λ l. length l ≤ 512) (sym written) (canon_small post.datagram sound) in
        let from : s.from ≡ post.from = m.matches.sent.from in
        let near = poster_near nets post.from post.port post.to to goes (m.matches.away to goes) in
        let may : MayCome nets to.node to.port (Peer (peer_of s.from)) = inr (subst (λ n. has_member n (neighbours_on to.node to.port.0 nets) ≡
        true) (sym from) near) in
        let c = comes_as d header_is to.node r.life.origin to.port (Peer (peer_of s.from)) octets
        (session_of (d.words to.node) r.life).past own.ports may reach.has small in
        let given_is = c.same ∙ ap (λ n. GotOn to.port (Peer (peer_of n)) (taken_of octets)) from ∙
        ap (λ l. GotOn to.port (Peer (peer_of post.from)) (taken_of l)) written in
        let net : after_event d (length before) (Take at k) w ≡ turns d (length before) step (copy_at nets to s) (w.lives to.node) w =
        ap (λ z. takes_copy d (length before) at k z w) there ∙ ap (λ z. delivers d (length before) at k s z w) e in
        let happened : happening_by d.clocks d.header h (Take at k) ≡ Some
        (stepping d.clocks d.header h (answers_all (GotOn to.port (Peer (peer_of post.from)) (taken_of (canon post.datagram)))) step) =
        taking d.clocks d.header h at k (record { post = post; to = to; there = m.there; goes = goes; has = reach.has }) in
        let somewhere : goes_to nets (slice_get (posts h) k) ≡ Some to = ap (goes_to nets) m.there ∙ goes in
        record {
          agree = subst (λ z. Agreeing z at (run_by d.clocks d.header (Take at k ∷ before))) (sym net)
              (subst (λ z. Agreeing (turns d (length before) step (copy_at nets to s) (w.lives to.node) w) at (joins z h)) (sym happened)
              (turn_agrees_all d header_is keeps w (last_at before) h (length before) step (copy_at nets to s) r.life
              (GotOn to.port (Peer (peer_of post.from)) (taken_of (canon post.datagram))) a later r.is given_is c.comes));
          can = could_take (scene_by d.clocks d.header before) at k later m.few
              (ap (λ z. down (scene_by d.clocks d.header before).up (node_in z)) somewhere ∙ ap (λ b. down_at b to.node) own.up_is);
          ranges = tt;
        }

    by_send : (o : Option Sent) → slice_get w.sent k ≡ o → RunsFor d w o → EventAgrees (Take at k) before
    by_send None e r = absurd r
    by_send (Some s) e r = by_address s (match_at d a.sends k s e) e (destination nets s.from s.tried.0) refl r.1

  -- a network agrees with a run whose events are possible
  pub record RunAgrees (events : List Event) : Type 0 where
    pub agree : Agreeing (network d events) (last_at events) (run_by d.clocks d.header events)
    pub possible : PossibleBy d.clocks d.header events

  pub run_agrees : (events : List Event) → AllHappen d events → length (network d events).sent < 2 ^ 64 → RunAgrees events
  run_agrees [] all few = record {
    agree = none_agree d header_is keeps;
    possible =
        record { header_is = header_is; keeps = keeps; ranges = All-nil IsInRange; happens = tt; few = omega arith };
  }
  run_agrees (e ∷ before) all few =
      let old = run_agrees before all.2 (let more = grows (outcome d (length before) (network d before) e) in omega (arith, few, more)) in
      let now = event_agrees before e old.possible all.0 old.agree all.1 in
      let count = match_length d now.agree.sends in
      record {
        agree = now.agree;
        possible = record {
          header_is = header_is;
          keeps = keeps;
          ranges = All-cons IsInRange e before now.ranges old.possible.ranges;
          happens = (now.can, old.possible.happens);
          few = omega (arith, few, count);
        };
      }
