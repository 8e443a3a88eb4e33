-- Every network of daemons keeps the promises: what can happen in a run can happen in it; what a daemon's session has tried is what the network
-- has of it; and the numbers of a daemon's peers are the places of their addresses.
use Rattle.std.proofs.Common.{option_map, sym, ap, subst, arith, inl, inr, ◌∙◌, ◌≡◌, ℕ, zero, suc, ◌<◌, ◌==◌, nat_lt, Bool, true, false, if◌then◌else◌, List}
use Rattle.std.proofs.Common.{[], ◌∷◌, length, Option, None, Some, slice_get, refl, eq-eqb, eqb-true, append-nil, ◌-◌, ◌≤◌, ◌++◌, map, filter, drop, take, ◌&&◌}
use Rattle.std.proofs.Common.{◌+◌, flat_map, slice_index_or}
use Rattle.std.proofs.lemmas.{List.drop-append-le, List.drop_all, List.map-append, List.length-map, Option.slice_get-get_or, Option.slice_get-map}
use Rattle.std.proofs.lemmas.{Option.slice_get_cases}
use Rattle.std.proofs.lemmas.{Bool.ltb-true, Bool.eqb-false, Bool.ne_eqb, List.Elements.All-head, List.Elements.filter-append}
use Rattle.tsp_rules.specs.NodeRows.{NodePast, for_ports, nothing_at_all, on, reading_all, spread, ◌and_then◌}
use Rattle.tsp_rules.specs.Values.{Placed, Event, BootAt, Turn, Take, Bytes, Boot, Port}
use Rattle.tsp_rules.specs.GateRows.{all_ports, boots_all, boots_on}
use Rattle.tsp_base.specs.Words.{HeaderValue, Line, Step, dids, of, up, first_port, arms, puts, ◌followed_by◌, has_member}
use Rattle.tsp_base.specs.declared.event.EventFault.TheVariants.{NoDatagram}
use Rattle.tsp_run.proofs.RefusalLemmas.{CanHappen as CanBe, can_happen, first_of_none, up_down}
use Rattle.tsp_run.specs.Refusals.{down, impossible, node_in, no_datagram, time_back}
use Rattle.tsp_run.specs.Clocked.{Clocks, IsSetUp, KeptByEvents, PossibleBy, SetByClocks, boot_by, run_by, scene_by, tick_by}
use Rattle.tsp_run.specs.{Run.goes_to, Run.last_at, Run.posts, Run.run, declared.address.Address.Address}
use Rattle.tsp_run.proofs.{PossibleRun.possible_before, RunPremises.clocked_runs_keep_premises, RunPromises.clocked_runs_keep_promises}
use Rattle.tsp_run.specs.{Networks.networks, Networks.network_from, Promises.Promises, declared.posted.Posted.Posted}
use Rattle.tsp_run.{proofs.NetworkLemmas.some_same, proofs.RunLemmas.stepped_other, specs.Ranges.IsInRange}
use Rattle.tsp_network.proofs.NetworkRuns.{Running, Nothing, Outcome, RunAgrees, Starts, Turns, outcome, event_agrees, run_agrees, longer}
use Rattle.tsp_network.specs.Kept.{HasTurn, tried_by, IsSent, NetworksKeepPromises, SchedulesAreKept, NumbersAreAddresses, AllSuit, RunsAreNetworks, Suits}
use Rattle.tsp_network.specs.Kept.{TriesFirst}
use Rattle.tsp_network.specs.Networks.{Network, Sent, acted, named_acts, network, life_from, daemon_tick, next_life, node_wall, first_sent, life_until, sent_by}
use Rattle.tsp_network.specs.Networks.{sent_until, unsent}
use Rattle.tsp_network.specs.Rosters.{destination, count_below, neighbours, neighbours_on, number_for, others_in, place_in}
use Rattle.tsp_network.specs.Lives.{AreStarted, Daemons, Life, first_acts, session_of, turn_told, turn_acts, addresses}
use Rattle.tsp_network.proofs.SetUpLemmas.{AllMatch, Matches, MoreMatch, NoneMatch, match_length, match_at}
use Rattle.tsp_network.proofs.NetworkAgrees.{AllAgree, Began, Reached, Went, acts_told, session_told}
use Rattle.tsp_promises.specs.Setting.{KeepsTime}
use Rattle.tsp_run.proofs.OwnClocks.{kept_own, runs_by_own_clocks, set_own}
use Rattle.tsp_network.specs.Events.{AllHappen, CanHappen, IsNetwork, IsRunning, RunsAt, RunsFor}
use Rattle.tsp_network.proofs.RosterLemmas.{length_neighbours, none_some, place_is}
use Rattle.tsp_io.specs.{Links.Tried, declared.addr.Addr.Addr}
use Rattle.tsp_daemon.specs.{Nodes.booting, Nodes.daemon_config, Posts.sends_of, Serving.serving_binding, Sessions.Session}
use Rattle.tsp_args.specs.Ports.{all_peers}

-- the send of a post
pub record SendAt (d : Daemons) (p : Posted) (ss : List Sent) (k : ℕ) : Type 0 where
  pub send : Sent
  pub there : slice_get ss k ≡ Some send
  pub matches : Matches d send p

pub send_at : (d : Daemons) {ss : List Sent} {ps : List Posted} → AllMatch d ss ps → (k : ℕ) (p : Posted) → slice_get ps k ≡ Some p → SendAt d p ss k
send_at d NoneMatch k p e = let bad : ⊥ = cc in absurd bad
send_at d (MoreMatch {s = s} m a) zero p e = record { send = s; there = refl; matches = subst (λ z. Matches d s z) (some_same e) m }
send_at d (MoreMatch m a) (suc k) p e = let r = send_at d a k p e in record { send = r.send; there = r.there; matches = r.matches }

-- a node on which no daemon runs has done nothing
abbrev pub IsQuiet : Network → Type 0
IsQuiet w = (n : ℕ) → w.lives n ≡ None → of n w.history ≡ []

acted_quiet : (d : Daemons) (k : ℕ) (step : Step) (life : Life) (acts : List Placed) (w : Network) → d.tries k ≡ None → IsQuiet w →
    IsQuiet (acted d k step life acts w)
acted_quiet d k step life acts w going q n e = by_node (n == step.node) refl e where
  by_node : (b : Bool) → (n == step.node) ≡ b → (if b then life_until (d.tries k) life else w.lives n) ≡ None → of n (acted d k step life acts w).history ≡ []
  by_node true same e = let alive : Some life ≡ None = subst (λ o. life_until o life ≡ None) going e in let bad : ⊥ = cc in absurd bad
  by_node false other e =
      stepped_other n step (tick_by d.clocks step) (named_acts (networks d.header) step.node life.origin acts) w.history
      (ne_eqb step.node n (λ same. eqb-false n step.node other (sym same))) ∙ q n e

event_quiet : {d : Daemons} {k : ℕ} {w v : Network} → d.tries k ≡ None → IsQuiet w → Outcome d k w v → IsQuiet v
event_quiet {d} {k} {w} going q (Starts at n word) =
    acted_quiet d k (boot_by d.clocks w.history at n word) _
    (first_acts (d.words n) (daemon_tick d n at - d.origin k) (node_wall d n (next_life w n) at) word) w going q
event_quiet {d} {k} {w} going q (Turns step a life there) =
    acted_quiet d k step _ (turn_acts (d.words step.node) life (turn_told a (d.early k) (tick_by d.clocks step - life.origin) life)) w going q
event_quiet going q Nothing = q

-- where no daemon ends in a turn
pub quiet : (d : Daemons) → ((k : ℕ) → d.tries k ≡ None) → (events : List Event) → IsQuiet (network d events)
quiet d going [] = λ n e. refl
quiet d going (e ∷ before) = event_quiet (going (length before)) (quiet d going before) (outcome d (length before) (network d before) e)

-- each of these sends was tried
abbrev AllWent : List Sent → Type 0
AllWent [] = Unit {0}
AllWent (s ∷ rest) = (s.went ≡ true) × AllWent rest

went_more : (ss ts : List Sent) → AllWent ss → AllWent ts → AllWent (ss ++ ts)
went_more [] ts a b = b
went_more (s ∷ ss) ts a b = (a.0, went_more ss ts a.1 b)

went_by : (n : ℕ) (ts : List Tried) → AllWent (map (sent_by n) ts)
went_by n [] = tt
went_by n (t ∷ ts) = (refl, went_by n ts)

went_at : (ss : List Sent) (k : ℕ) (s : Sent) → AllWent ss → slice_get ss k ≡ Some s → s.went ≡ true
went_at [] k s all e = let bad : ⊥ = cc in absurd bad
went_at (r ∷ ss) zero s all e = ap (λ (z : Sent). z.went) (sym (some_same e)) ∙ all.0
went_at (r ∷ ss) (suc k) s all e = went_at ss k s all.1 e

acted_went : (d : Daemons) (k : ℕ) (step : Step) (life : Life) (acts : List Placed) (w : Network) → d.tries k ≡ None → AllWent w.sent →
    AllWent (acted d k step life acts w).sent
acted_went d k step life acts w going all = subst (λ o. AllWent (w.sent ++ sent_until o (map (sent_by step.node) (sends_of acts)))) (sym going)
    (went_more w.sent (map (sent_by step.node) (sends_of acts)) all (went_by step.node (sends_of acts)))

event_went : {d : Daemons} {k : ℕ} {w v : Network} → d.tries k ≡ None → AllWent w.sent → Outcome d k w v → AllWent v.sent
event_went {d} {k} {w} going all (Starts at n word) =
    acted_went d k (boot_by d.clocks w.history at n word) (life_from d k at n word w)
    (first_acts (d.words n) (daemon_tick d n at - d.origin k) (node_wall d n (next_life w n) at) word) w going all
event_went {d} {k} {w} going all (Turns step a life there) =
    acted_went d k step (turn_told a (d.early k) (tick_by d.clocks step - life.origin) life)
    (turn_acts (d.words step.node) life (turn_told a (d.early k) (tick_by d.clocks step - life.origin) life)) w going all
event_went going all Nothing = all

-- where no daemon ends in a turn
all_went : (d : Daemons) → ((k : ℕ) → d.tries k ≡ None) → (events : List Event) → AllWent (network d events).sent
all_went d going [] = tt
all_went d going (e ∷ before) = event_went (going (length before)) (all_went d going before) (outcome d (length before) (network d before) e)

-- a daemon runs on each node that is up
pub runs_up : (w : Network) (h : List Line) (n : ℕ) → w.history ≡ h → IsQuiet w → up (dids (of n h)) ≡ true → Running (w.lives n)
runs_up w h n same q up_is = by_life (w.lives n) refl where
  by_life : (o : Option Life) → w.lives n ≡ o → Running (w.lives n)
  by_life None e =
      let none : of n h ≡ [] = ap (of n) (sym same) ∙ q n e in
      let off : up (dids (of n h)) ≡ false = ap (λ l. up (dids l)) none in
      let bad : ⊥ = cc in
      absurd bad
  by_life (Some life) e = record { life = life; is = e }

-- and may take a turn that is left to it
may_turn : (d : Daemons) (w : Network) (n : ℕ) → Running (w.lives n) → HasTurn d w n → IsRunning d n (w.lives n)
may_turn d w n r has = subst (λ o. IsRunning d n o) (sym r.is) (has r.life r.is)

-- what isn't impossible takes a datagram that was posted
known_datagram : (clocks : Clocks) (header : HeaderValue) (before : List Event) (at k : ℕ) → impossible (scene_by clocks header before) (Take at k) ≡ None →
    k < length (posts (run_by clocks header before))
known_datagram clocks header before at k none =
    let s = scene_by clocks header before in
    let a = first_of_none (time_back at s.last) _ none in
    let b = first_of_none None _ a.1 in
    let c = first_of_none (no_datagram (length s.posts) (Take at k)) _ b.1 in
    ltb-true k (length s.posts) (by_case (nat_lt k (length s.posts)) c.0) where
      by_case : (b : Bool) → (if b then None else Some (NoDatagram k (length (posts (run_by clocks header before))))) ≡ None → b ≡ true
      by_case true e = refl
      by_case false e = let bad : ⊥ = cc in absurd bad

module _ (d : Daemons) (header_is : IsSetUp d.header) (keeps : (n : ℕ) → KeepsTime d.header.drift (d.clocks.tick n)) (started : AreStarted d)
    (going : (k : ℕ) → d.tries k ≡ None) where
  take_happens : (before : List Event) (at k : ℕ) → AllAgree d header_is keeps (network d before) (last_at before) (run_by d.clocks d.header before) →
      impossible (scene_by d.clocks d.header before) (Take at k) ≡ None → Suits d (length before) (network d before) (Take at k) →
      RunsFor d (network d before) (slice_get (network d before).sent k)
  take_happens before at k a can suits = elim (slice_get_cases (posts h) k).1 [
    | inl c ↦
        let r = send_at d a.sends k c.0 c.2 in
        subst (λ o. RunsFor d w o) (sym r.there) (
          went_at w.sent k r.send (all_went d going before) r.there,
          by_address r.send c.0 c.2 r.matches (λ to goes. suits r.send to r.there goes)
              (destination nets r.send.from r.send.tried.0) refl,
        )
    | inr c ↦ let few = known_datagram d.clocks d.header before at k can in let past = c.0 in let bad : ⊥ = omega (arith, few, past) in absurd bad
  ] where
    w : Network
    w = network d before

    h : List Line
    h = run_by d.clocks d.header before

    nets : List (List ℕ)
    nets = networks d.header

    by_address : (s : Sent) (p : Posted) → slice_get (posts h) k ≡ Some p → Matches d s p →
        ((to : Address) → destination nets s.from s.tried.0 ≡ Some to → HasTurn d w to.node) → (o : Option Address) →
        destination nets s.from s.tried.0 ≡ o → RunsAt d w o
    by_address s p there m has None e = tt
    by_address s p there m has (Some to) e =
        let goes : goes_to nets (slice_get (posts h) k) ≡ Some to = ap (goes_to nets) there ∙ sym m.goes ∙ e in
        let free : down (scene_by d.clocks d.header before).up (Some to.node) ≡ None =
        ap (λ z. down (scene_by d.clocks d.header before).up (node_in z)) (sym goes)
        ∙ (can_happen (scene_by d.clocks d.header before) (Take at k) can).up in
        may_turn d w to.node (runs_up w h to.node a.history (quiet d going before) (up_down (scene_by d.clocks d.header before) to.node free)) (has to e)

  happens_so : (before : List Event) (e : Event) → AllAgree d header_is keeps (network d before) (last_at before) (run_by d.clocks d.header before) →
      impossible (scene_by d.clocks d.header before) e ≡ None → IsInRange e → Suits d (length before) (network d before) e →
      CanHappen d (length before) (network d before) e
  happens_so before (BootAt at node word) a can range suits =
      ((can_happen (scene_by d.clocks d.header before) (BootAt at node word) can).node, range, suits.0, suits.1)
  happens_so before (Turn at node) a can range suits =
      may_turn d (network d before) node (runs_up (network d before) (run_by d.clocks d.header before) node a.history (quiet d going before)
      (up_down (scene_by d.clocks d.header before) node (can_happen (scene_by d.clocks d.header before) (Turn at node) can).up)) suits
  happens_so before (Take at k) a can range suits = take_happens before at k a can suits
  happens_so before (Bytes at node port from octets) a can range suits =
      let s = scene_by d.clocks d.header before in
      let k : CanBe s (Bytes at node port from octets) = can_happen s (Bytes at node port from octets) can in
      let all = length_neighbours node (networks d.header) in
      let has = k.node.1 in
      let few : port.0 < length (neighbours node (networks d.header)) = omega (arith, all, has) in
      let runs = runs_up (network d before) (run_by d.clocks d.header before) node a.history (quiet d going before) (up_down s node k.up) in
      (may_turn d (network d before) node runs suits.2, few, suits.0, suits.1, range)

  -- the events of a run, as a network's
  record Comes (events : List Event) : Type 0 where
    pub happen : AllHappen d events
    pub few : length (network d events).sent ≡ length (posts (run_by d.clocks d.header events))
    pub agree : RunAgrees d header_is keeps started events

  comes : (events : List Event) → AllSuit d events → PossibleBy d.clocks d.header events → Comes events
  comes [] suits p = record { happen = tt; few = refl; agree = run_agrees d header_is keeps started [] tt (omega arith) }
  comes (e ∷ before) suits p =
      let older = possible_before d.clocks d.header e before p in
      let old = comes before suits.1 older in
      let can = p.happens.0 in
      let later = (can_happen (scene_by d.clocks d.header before) e can).time in
      let now = happens_so before e old.agree.agree can (All-head IsInRange e before p.ranges) suits.0 in
      let happen : AllHappen d (e ∷ before) = (later, now, old.happen) in
      let next = event_agrees d header_is keeps started before e older later old.agree.agree now in
      let same = match_length d next.agree.sends in
      let few = p.few in
      record { happen = happen; few = same; agree = run_agrees d header_is keeps started (e ∷ before) happen (omega (arith, same, few)) }

pub run_is_network : (d : Daemons) (events : List Event) → AreStarted d → ((k : ℕ) → d.tries k ≡ None) → AllSuit d events →
    PossibleBy d.clocks d.header events → IsNetwork d events
run_is_network d events started going suits p =
    let c = comes d p.header_is p.keeps started going events suits p in
    let same = c.few in
    let few = p.few in
    record { header_is = p.header_is; keeps = p.keeps; started = started; happen = c.happen; few = omega (arith, same, few) }

-- a daemon that runs has a turn left
has_turn : (d : Daemons) (w : Network) (n : ℕ) → IsRunning d n (w.lives n) → HasTurn d w n
has_turn d w n r life there = subst (λ o. IsRunning d n o) there r

-- what happens suits the daemons
suits_so : (d : Daemons) (k : ℕ) (w : Network) (e : Event) → CanHappen d k w e → Suits d k w e
suits_so d k w (BootAt at node word) c = (c.2, c.3)
suits_so d k w (Turn at node) c = has_turn d w node c
suits_so d k w (Take at number) c = λ s a there goes. (
    let runs : (s.went ≡ true) × RunsAt d w (destination (networks d.header) s.from s.tried.0) = subst (λ o. RunsFor d w o) there c in
    has_turn d w a.node (subst (λ o. RunsAt d w o) goes runs.1))
suits_so d k w (Bytes at node port from octets) c = (c.2, c.3, has_turn d w node c.0)

all_suit : (d : Daemons) (events : List Event) → AllHappen d events → AllSuit d events
all_suit d [] all = tt
all_suit d (e ∷ before) all = (suits_so d (length before) (network d before) e all.1, all_suit d before all.2)

pub runs_are_networks : RunsAreNetworks
runs_are_networks = record {
  all = run_is_network;
  only = λ d events n. (
    all_suit d events n.happen,
    (let few = n.few in run_agrees d n.header_is n.keeps n.started events n.happen (omega (arith, few))).possible,
  );
}

-- a node that boots sends nothing
ports_silent : (qs : List Port) (x : ℕ) (p : NodePast) → sends_of (for_ports boots_on qs x p) ≡ []
unfolding for_ports nothing_at_all ◌and_then◌ boots_on on puts arms ◌followed_by◌
ports_silent [] x p = refl
ports_silent (q ∷ qs) x p = ports_silent qs x _

boots_silent : (x : ℕ) (p : NodePast) → sends_of (boots_all x p) ≡ []
unfolding boots_all on puts ◌and_then◌ reading_all
boots_silent x p = let begun : NodePast = spread x p (on first_port (puts Boot) x p) in ports_silent (all_ports x begun) x begun

-- what one node has tried of more sends
more_tried : (n : ℕ) (ss ts : List Sent) → tried_by n (ss ++ ts) ≡ tried_by n ss ++ tried_by n ts
more_tried n ss ts =
    ap (map (λ (s : Sent). s.tried)) (filter-append (λ (s : Sent). s.went && (s.from == n)) ss ts)
    ∙ map-append (λ (s : Sent). s.tried) (filter (λ (s : Sent). s.went && (s.from == n)) ss) (filter (λ (s : Sent). s.went && (s.from == n)) ts)

-- of one send and more
one_tried : (m : ℕ) (s : Sent) (rest : List Sent) (b : Bool) → (s.went && (s.from == m)) ≡ b →
    tried_by m (s ∷ rest) ≡ (if b then s.tried ∷ tried_by m rest else tried_by m rest)
one_tried m s rest true e = ap
    (λ b. map (λ (z : Sent). z.tried)
    (if b then s ∷ filter (λ (z : Sent). z.went && (z.from == m)) rest else filter (λ (z : Sent). z.went && (z.from == m)) rest)) e
one_tried m s rest false e = ap
    (λ b. map (λ (z : Sent). z.tried)
    (if b then s ∷ filter (λ (z : Sent). z.went && (z.from == m)) rest else filter (λ (z : Sent). z.went && (z.from == m)) rest)) e

own_tried : (n : ℕ) (ts : List Tried) → tried_by n (map (sent_by n) ts) ≡ ts
own_tried n [] = refl
own_tried n (t ∷ ts) = one_tried n (sent_by n t) (map (sent_by n) ts) true (eq-eqb n n refl) ∙ ap (λ l. t ∷ l) (own_tried n ts)

-- none of those that weren't tried
none_tried : (n : ℕ) (ss : List Sent) → tried_by n (map unsent ss) ≡ []
none_tried n [] = refl
none_tried n (s ∷ ss) = one_tried n (unsent s) (map unsent ss) false refl ∙ none_tried n ss

first_tried : (n m : ℕ) (ts : List Tried) → tried_by n (first_sent m (map (sent_by n) ts)) ≡ take m ts
first_tried n zero [] = refl
first_tried n zero (t ∷ ts) = none_tried n (map (sent_by n) (t ∷ ts))
first_tried n (suc m) [] = refl
first_tried n (suc m) (t ∷ ts) = one_tried n (sent_by n t) (first_sent m (map (sent_by n) ts)) true (eq-eqb n n refl) ∙ ap (λ l. t ∷ l) (first_tried n m ts)

other_tried : (m n : ℕ) → (n == m) ≡ false → (ts : List Tried) → tried_by m (map (sent_by n) ts) ≡ []
other_tried m n off [] = refl
other_tried m n off (t ∷ ts) = one_tried m (sent_by n t) (map (sent_by n) ts) false off ∙ other_tried m n off ts

other_first : (m n : ℕ) → (n == m) ≡ false → (k : ℕ) (ts : List Tried) → tried_by m (first_sent k (map (sent_by n) ts)) ≡ []
other_first m n off zero ts = none_tried m (map (sent_by n) ts)
other_first m n off (suc k) [] = refl
other_first m n off (suc k) (t ∷ ts) = one_tried m (sent_by n t) (first_sent k (map (sent_by n) ts)) false off ∙ other_first m n off k ts

other_until : (m n : ℕ) → (n == m) ≡ false → (o : Option ℕ) (ts : List Tried) → tried_by m (sent_until o (map (sent_by n) ts)) ≡ []
other_until m n off None ts = other_tried m n off ts
other_until m n off (Some k) ts = other_first m n off k ts

until_nothing : (o : Option ℕ) → sent_until o [] ≡ []
until_nothing None = refl
until_nothing (Some zero) = refl
until_nothing (Some (suc k)) = refl

tried_more : (n k : ℕ) (ss ts : List Sent) → k ≤ length ss → tried_by n (drop k (ss ++ ts)) ≡ tried_by n (drop k ss) ++ tried_by n ts
tried_more n k ss ts few = ap (tried_by n) (drop-append-le k ss ts few) ∙ more_tried n (drop k ss) ts

module _ (d : Daemons) where
  -- what is known of a daemon that runs, if the network has sent this
  pub record LifeTried (n : ℕ) (life : Life) (sent : List Sent) : Type 0 where
    pub reached : Reached life
    pub few : life.sent_before ≤ length sent
    pub tried : (session_of (d.words n) life).outside.tried ≡ tried_by n (drop life.sent_before sent)

  abbrev AllTried : Network → Type 0
  AllTried w = (n : ℕ) (life : Life) → w.lives n ≡ Some life → LifeTried n life w.sent

  acted_tried : (k : ℕ) (step : Step) (now : Life) (acts : List Placed) (w : Network) → AllTried w →
      LifeTried step.node now (w.sent ++ map (sent_by step.node) (sends_of acts)) → AllTried (acted d k step now acts w)
  acted_tried k step now acts w all own m life there = by_node (m == step.node) refl there where
    more : List Sent
    more = sent_until (d.tries k) (map (sent_by step.node) (sends_of acts))

    by_end : (o : Option ℕ) → life_until o now ≡ Some life → LifeTried step.node life (w.sent ++ sent_until o (map (sent_by step.node) (sends_of acts)))
    by_end None there = subst (λ l. LifeTried step.node l (w.sent ++ map (sent_by step.node) (sends_of acts))) (some_same there) own
    by_end (Some n) there = let bad : ⊥ = cc in absurd bad

    by_node : (b : Bool) → (m == step.node) ≡ b → (if b then life_until (d.tries k) now else w.lives m) ≡ Some life → LifeTried m life (w.sent ++ more)
    by_node true e there = subst (λ n. LifeTried n life (w.sent ++ more)) (sym (eqb-true m step.node e)) (by_end (d.tries k) there)
    by_node false e there =
        let old = all m life there in
        let few = old.few in
        let long = longer w.sent more in
        let silent = other_until m step.node (ne_eqb step.node m (λ same. eqb-false m step.node e (sym same))) (d.tries k) (sends_of acts) in
        let before : List Tried = tried_by m (drop life.sent_before w.sent) in
        record {
          reached = old.reached;
          few = omega (arith, few, long);
          tried = old.tried ∙ sym (tried_more m life.sent_before w.sent more old.few ∙ ap (λ l. before ++ l) silent ∙ append-nil before);
        }

  event_tried : {k : ℕ} {w v : Network} → AllTried w → Outcome d k w v → AllTried v
  event_tried all Nothing = all
  event_tried {k} {w} all (Turns step a life there) =
      let n : ℕ = step.node in
      let s = d.words n in
      let y : ℕ = tick_by d.clocks step - life.origin in
      let now : Life = turn_told a (d.early k) y life in
      let acts : List Placed = turn_acts s life now in
      let own = all n life there in
      let few = own.few in
      let long = longer w.sent (map (sent_by n) (sends_of acts)) in
      let before : List Tried = tried_by n (drop life.sent_before w.sent) in
      let after : (session_of s now).outside.tried ≡ (session_of s life).outside.tried ++ sends_of acts =
      ap (λ (z : Session). z.outside.tried) (session_told s own.reached a (d.early k) y)
      ∙ ap (λ l. (session_of s life).outside.tried ++ sends_of l) (sym (acts_told s own.reached a (d.early k) y)) in
      acted_tried k step now acts w all (record {
        reached = Went own.reached a (d.early k) y;
        few = omega (arith, few, long);
        tried = after ∙ ap (λ l. l ++ sends_of acts) own.tried
            ∙ sym (tried_more n life.sent_before w.sent (map (sent_by n) (sends_of acts)) own.few ∙ ap (λ l. before ++ l) (own_tried n (sends_of acts)));
      })
  event_tried {k} {w} all (Starts at n word) =
      let y : ℕ = daemon_tick d n at - d.origin k in
      let wall = node_wall d n (next_life w n) at in
      let acts : List Placed = first_acts (d.words n) y wall word in
      let silent : sends_of acts ≡ [] = boots_silent y (booting (daemon_config (d.words n)) y wall word) in
      let sent : w.sent ++ map (sent_by n) (sends_of acts) ≡ w.sent = ap (λ l. w.sent ++ map (sent_by n) l) silent ∙ append-nil w.sent in
      acted_tried k (boot_by d.clocks w.history at n word) (life_from d k at n word w) acts w all (record {
        reached = Began (d.origin k) (length w.sent) wall word y;
        few = longer w.sent (map (sent_by n) (sends_of acts));
        tried = sym (ap (λ l. tried_by n (drop (length w.sent) l)) sent ∙ ap (tried_by n) (drop_all (length w.sent) w.sent (omega arith)));
      })

  pub all_tried : (events : List Event) → AllTried (network d events)
  all_tried [] = λ n life there. (let bad : ⊥ = cc in absurd bad)
  all_tried (e ∷ before) = event_tried (all_tried before) (outcome d (length before) (network d before) e)

  -- a daemon that ends in a turn has tried the first of that turn's sends
  pub ends_after : (before : List Event) (step : Step) (life now : Life) (m : ℕ) → (network d before).lives step.node ≡ Some life →
      d.tries (length before) ≡ Some m →
      TriesFirst d before step life now m
  ends_after before step life now m there ends =
      let n : ℕ = step.node in
      let w : Network = network d before in
      let own = all_tried before n life there in
      let sends : List Tried = sends_of (turn_acts (d.words n) life now) in
      ap (λ o. tried_by n (drop life.sent_before (w.sent ++ sent_until o (map (sent_by n) sends)))) ends
      ∙ tried_more n life.sent_before w.sent (first_sent m (map (sent_by n) sends)) own.few
      ∙ ap (λ l. l ++ tried_by n (first_sent m (map (sent_by n) sends))) (sym own.tried)
      ∙ ap (λ l. (session_of (d.words n) life).outside.tried ++ l) (first_tried n m sends)

get_left : {A : Type 0} (xs ys : List A) (c : ℕ) → c < length xs → slice_get (xs ++ ys) c ≡ slice_get xs c
get_left [] ys c h = absurd (omega (arith, h))
get_left (x ∷ xs) ys zero h = refl
get_left (x ∷ xs) ys (suc c) h = get_left xs ys c (omega (arith, h))

get_right : {A : Type 0} (xs ys : List A) (c : ℕ) → slice_get (xs ++ ys) (length xs + c) ≡ slice_get ys c
get_right [] ys c = ap (slice_get ys) (let e : 0 + c ≡ c = omega arith in e)
get_right (x ∷ xs) ys c = ap (slice_get (x ∷ xs ++ ys)) (let e : length (x ∷ xs) + c ≡ suc (length xs + c) = omega arith in e) ∙ get_right xs ys c

-- the c-th neighbour on port r stands behind those of the ports below it
flat_at : (at : ℕ → ℕ → Addr) (n p i : ℕ) (nets : List (List ℕ)) (r k c : ℕ) → network_from n (p + r) p i nets ≡ Some k → c < length (neighbours_on n r nets) →
    slice_get (flat_map (λ peers. peers) (addresses at n i nets)) (count_below r (neighbours n nets) + c) ≡
    Some (at k (slice_index_or (neighbours_on n r nets) c 0))
flat_at at n p i [] r k c e h = absurd (none_some e)
flat_at at n p i (net ∷ rest) r k c e h = by_member (has_member n net) refl (λ s f g. flat_at at n (p + 1) (i + 1) rest s k c f g)
    (λ s f g. flat_at at n p (i + 1) rest s k c f g) r e h where
      by_member : (b : Bool) → has_member n net ≡ b →
          ((s : ℕ) → network_from n ((p + 1) + s) (p + 1) (i + 1) rest ≡ Some k → c < length (neighbours_on n s rest) →
          slice_get (flat_map (λ peers. peers) (addresses at n (i + 1) rest)) (count_below s (neighbours n rest) + c) ≡
          Some (at k (slice_index_or (neighbours_on n s rest) c 0))) →
          ((s : ℕ) → network_from n (p + s) p (i + 1) rest ≡ Some k → c < length (neighbours_on n s rest) →
          slice_get (flat_map (λ peers. peers) (addresses at n (i + 1) rest)) (count_below s (neighbours n rest) + c) ≡
          Some (at k (slice_index_or (neighbours_on n s rest) c 0))) →
          (r : ℕ) → (if b then (if p == (p + r) then Some i else network_from n (p + r) (p + 1) (i + 1) rest) else network_from n (p + r) p (i + 1) rest) ≡
          Some k →
          c < length (slice_index_or (if b then others_in n net ∷ neighbours n rest else neighbours n rest) r []) →
          slice_get (flat_map (λ peers. peers) (if b then map (at i) (others_in n net) ∷ addresses at n (i + 1) rest else addresses at n (i + 1) rest))
          (count_below r (if b then others_in n net ∷ neighbours n rest else neighbours n rest) + c)
          ≡ Some (at k (slice_index_or (slice_index_or (if b then others_in n net ∷ neighbours n rest else neighbours n rest) r []) c 0))
      by_member true m more past zero e h =
          let first : (p == (p + 0)) ≡ true = eq-eqb p (p + 0) (omega arith) in
          let here : i ≡ k = some_same (subst (λ b. (if b then Some i else network_from n (p + 0) (p + 1) (i + 1) rest) ≡ Some k) first e) in
          let same = length-map (others_in n net) (at i) in
          ap (slice_get (map (at i) (others_in n net) ++ flat_map (λ peers. peers) (addresses at n (i + 1) rest))) (let z : 0 + c ≡ c = omega arith in z)
          ∙ get_left (map (at i) (others_in n net)) (flat_map (λ peers. peers) (addresses at n (i + 1) rest)) c (omega (arith, h, same))
          ∙ slice_get-map (at i) (others_in n net) c
          ∙ ap (option_map (at i)) (slice_get-get_or (others_in n net) c 0 h)
          ∙ ap (λ z. Some (at z (slice_index_or (others_in n net) c 0))) here
      by_member true m more past (suc s) e h =
          let other : (p == (p + suc s)) ≡ false = ne_eqb p (p + suc s) (λ z. let bad : ⊥ = omega (arith, z) in bad) in
          let next : network_from n ((p + 1) + s) (p + 1) (i + 1) rest ≡ Some k =
          ap (λ z. network_from n z (p + 1) (i + 1) rest) (let z : (p + 1) + s ≡ p + suc s = omega arith in z) ∙
          subst (λ b. (if b then Some i else network_from n (p + suc s) (p + 1) (i + 1) rest) ≡ Some k) other e in
          let same = length-map (others_in n net) (at i) in
          ap (slice_get (map (at i) (others_in n net) ++ flat_map (λ peers. peers) (addresses at n (i + 1) rest)))
          (let z : (length (others_in n net) + count_below s (neighbours n rest)) + c ≡
          length (map (at i) (others_in n net)) + (count_below s (neighbours n rest) + c) = omega (arith, same) in z)
          ∙ get_right (map (at i) (others_in n net)) (flat_map (λ peers. peers) (addresses at n (i + 1) rest)) (count_below s (neighbours n rest) + c)
          ∙ more s next h
      by_member false m more past s e h = past s e h

pub numbers_are_addresses : NumbersAreAddresses
numbers_are_addresses d n q k m started on member off =
    let nets = networks d.header in
    let nodes = neighbours_on n q.0 nets in
    let p = place_is m nodes member in
    let i : ℕ = place_in m nodes in
    let other : (m == n) ≡ false = ne_eqb m n off in
    let number : number_for n q.0 m nets ≡ suc (count_below q.0 (neighbours n nets) + i) =
    ap (λ b. if b then 0 else count_below q.0 (neighbours n nets) + 1 + i) other ∙ (let e : count_below q.0 (neighbours n nets) + 1 + i ≡
    suc (count_below q.0 (neighbours n nets) + i) = omega arith in e) in
    ap (slice_get (serving_binding (d.words n)).peers) number
    ∙ ap (λ l. slice_get (all_peers l) (count_below q.0 (neighbours n nets) + i)) started.ports
    ∙ flat_at d.address n 0 0 nets q.0 k i (ap (λ z. network_from n z 0 0 nets) (let e : 0 + q.0 ≡ q.0 = omega arith in e) ∙ on) p.few
    ∙ ap (λ z. Some (d.address k z)) p.is

pub networks_keep_promises : NetworksKeepPromises
networks_keep_promises d setting events n set =
    let few = n.few in
    let r = run_agrees d n.header_is n.keeps n.started events n.happen (omega (arith, few)) in
    let kept : Promises setting (run_by d.clocks d.header events) = clocked_runs_keep_promises d.clocks d.header setting events set r.possible in
    record {
      runs = r.agree.history;
      count = match_length d r.agree.sends;
      sends = λ k s p there post.
          let m = match_at d r.agree.sends k s there in
          subst (λ q. IsSent d s q) (some_same (sym m.there ∙ post)) m.matches.sent;
      tried = λ m life there. (all_tried d events m life there).tried;
      ended = λ step life arrival early tick m there ends. ends_after d events step life (turn_told arrival early tick life) m there ends;
      promises = subst (λ h. Promises setting h) (sym r.agree.history) kept;
      premises = clocked_runs_keep_premises d.clocks d.header events r.possible;
    }

-- so it is with the clocks of a header's lines: the history is the run of a schedule
pub schedules_are_kept : SchedulesAreKept
schedules_are_kept d setting events n own set =
    let mine : SetByClocks d.clocks d.header setting = subst (λ c. SetByClocks c d.header setting) (sym own) (set_own d.header setting set) in
    let kept = networks_keep_promises d setting events n mine in
    let same : run_by d.clocks d.header events ≡ run d.header events = ap (λ c. run_by c d.header events) own ∙ runs_by_own_clocks d.header events in
    record {
      kept = kept;
      runs = kept.runs ∙ same;
      premises = kept_own d.header events (subst (λ c. KeptByEvents c d.header events) own kept.premises);
    }
