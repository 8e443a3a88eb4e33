-- Networks of the examples: two daemons in use, three with a copy that comes to another than it is addressed to, which breaks a promise, and
-- one to which happens what can't happen in a network, and which so doesn't do what the run of its events does.
use Rattle.std.proofs.Common.{sym, ap, subst, arith, ◌∙◌, ◌≡◌, ℕ, zero, suc, ◌<◌, ◌≤◌, ◌^◌, List, [], ◌∷◌, refl, inr, ◌≢◌, true, pos, negsuc, length, Some}
use Rattle.std.proofs.Common.{slice_get, inl, All}
use Rattle.std.proofs.lemmas.List.{Elements.All-nil, Elements.All-cons, Sums.count_by-le-length}
use Rattle.tsp_rules.specs.{Values.Event, Values.Message, Values.Peer, Values.Place, Values.Stranger, GateRows.GotOn}
use Rattle.tsp_base.specs.Words.{HeaderValue, IsHeader, IsNet, KeepsDrift, Came, Handed, dids, first_port, has_member, peer_of as peer, posted, stepped}
use Rattle.tsp_promises.specs.{Once.OnceObeyed, Premises.Honest, Premises.Life, Premises.Words, Setting.Setting}
use Rattle.tsp_run.{proofs.NetworkLemmas.some_same, proofs.RunPremises.possible_runs_keep_premises, specs.declared.posted.Posted.Posted}
use Rattle.tsp_run.specs.{Clocked.clocks_of, Clocked.run_by, Networks.networks, Possible.Possible, Possible.Happens, Ranges.IsInRange}
use Rattle.tsp_run.proofs.OwnClocks.{possible_own, runs_by_own_clocks}
use Rattle.tsp_network.proofs.EventLists.{differ_apart, plain_ranges, plain_sealed, plain_suit}
use Rattle.tsp_network.proofs.ServeUse.{alone_on_two, beside_one, beside_two, letter_name}
use Rattle.tsp_args.specs.declared.serve.Candidacy.TheVariants.{Never, Plain}
use Rattle.tsp_run.{proofs.PromptRun.posted_at, specs.Run.run, specs.Run.posts, specs.Setup.node_line}
use Rattle.tsp_network.specs.NetworkUse.{Misdelivered, astray, first_at, led, three_daemons, three_nodes, NetworksBreak, on_second_port, one_daemon, one_node}
use Rattle.tsp_network.specs.NetworkUse.{start, NetworkUse, acts_by_node, two_daemons, two_nodes, used}
use Rattle.tsp_network.proofs.UseLemmas.{history, set_post, set_time, stray_acts, stray_step, taken_astray, computed}
use Rattle.tsp_network.proofs.NetworksKeep.{run_is_network, SendAt, quiet, runs_up, send_at}
use Rattle.tsp_network.proofs.NetworkAgrees.{AllAgree, OneAgrees, turn_agrees_all, Agrees}
use Rattle.tsp_network.specs.{Networks.network, Networks.daemon_tick, Networks.Network, Networks.copy_at}
use Rattle.tsp_network.proofs.{NetworkRuns.run_agrees, SetUpLemmas.comes_as, SetUpLemmas.place_of}
use Rattle.tsp_network.specs.{Events.IsNetwork, Events.MayCome, Events.AllHappen, Lives.AreStarted, Lives.Daemons, Lives.session_of, Rosters.neighbours_on}
use Rattle.tsp_codec.specs.{Canon.canon, Taken.taken_of}

used_header : IsHeader two_nodes
used_header = record {
  small = omega arith;
  few = omega arith;
  kept = All-cons (KeepsDrift 0) (node_line two_nodes 0) (node_line two_nodes 1 ∷ []) (record {
    name = letter_name 97 (omega arith);
    rate = omega arith;
    wall = omega arith;
  })
      (All-cons (KeepsDrift 0) (node_line two_nodes 1) [] (record { name = letter_name 98 (omega arith); rate = omega arith; wall = omega arith })
      (All-nil (KeepsDrift 0)));
  few_nets = omega arith;
  nets_are = All-nil (IsNet 2);
  few_ports = λ n. omega arith;
}

used_started : AreStarted two_daemons
used_started zero low = record {
  serves =
      beside_one 97 Plain 0 1 (omega arith) (omega arith) (omega arith) (omega arith) (λ e. (let bad : ⊥ = omega (arith, e) in bad));
  name = refl;
  may =
      refl;
  strict = λ e. refl;
  ports = refl;
}
used_started (suc zero) low = record {
  serves =
      beside_one 98 Never 1 0 (omega arith) (omega arith) (omega arith) (omega arith) (λ e. (let bad : ⊥ = omega (arith, e) in bad));
  name = refl;
  may =
      refl;
  strict = λ e. refl;
  ports = refl;
}
used_started (suc (suc n)) low = let bad : ⊥ = omega (arith, low) in absurd bad

begun : (n : ℕ) → daemon_tick two_daemons n 1000000 ≡ 1000000 → 1000000 ≤ daemon_tick two_daemons n 1000000
begun n e = omega (arith, e)

-- events, each in its ranges
abbrev pub InRanges : List Event → Type 0
InRanges [] = Unit {0}
InRanges (e ∷ before) = IsInRange e × InRanges before

in_ranges : (events : List Event) → InRanges events → All IsInRange events
in_ranges [] r = All-nil IsInRange
in_ranges (e ∷ before) r = All-cons IsInRange e before r.0 (in_ranges before r.1)

-- such a run is possible, if it posts few datagrams
possible_so : {header : HeaderValue} {events : List Event} → IsHeader header → All IsInRange events → Happens header events → (n : ℕ) →
    length (posts (run header events)) ≡ n → n < 2 ^ 64 → Possible header events
possible_so {header} {events} is ranges happens n same few = record { header_is = is; ranges = ranges; happens = happens; few = omega (arith, same, few) }

used_possible : Possible two_nodes used
used_possible = possible_so used_header (plain_ranges used refl) computed.used.happens 16 computed.used.count (omega arith)

-- their words give them a thousand turns
pub two_turns : (n : ℕ) → 1000 ≤ (two_daemons.words n).turns
two_turns zero = omega arith
two_turns (suc n) = omega arith

three_turns : (n : ℕ) → 1000 ≤ (three_daemons.words n).turns
three_turns zero = omega arith
three_turns (suc zero) = omega arith
three_turns (suc (suc n)) = omega arith

used_is : IsNetwork two_daemons used
used_is = run_is_network two_daemons used used_started (λ k. refl)
    (plain_suit two_daemons used two_turns (omega arith) refl ((begun 1 refl, refl), ((begun 0 refl, refl), tt)))
    (possible_own two_nodes used used_possible)

history_is : (network two_daemons used).history ≡ run two_nodes used
history_is =
    (run_agrees two_daemons used_is.header_is used_is.keeps used_started used used_is.happen used_is.few).agree.history ∙ runs_by_own_clocks two_nodes used

pub network_use : NetworkUse
network_use =
    let kept = possible_runs_keep_premises two_nodes used used_possible in
    let same = sym history_is in
    record {
      is = used_is;
      master = ap (acts_by_node 0) history_is ∙ computed.used.acts_a;
      slave = ap (acts_by_node 1) history_is ∙ computed.used.acts_b;
      honest = subst Honest same (kept.honest (plain_sealed used refl));
      life = subst Life same (kept.life computed.used.prompt);
      words = subst Words same (kept.words (differ_apart used refl));
    }

led_header : IsHeader three_nodes
led_header = record {
  small = omega arith;
  few = omega arith;
  kept = All-cons (KeepsDrift 0) (node_line three_nodes 0) (node_line three_nodes 1 ∷ node_line three_nodes 2 ∷
      []) (record { name = letter_name 97 (omega arith); rate = omega arith; wall = omega arith })
      (All-cons (KeepsDrift 0) (node_line three_nodes 1) (node_line three_nodes 2 ∷ []) (record {
        name = letter_name 98 (omega arith);
        rate = omega arith;
        wall = omega arith;
      })
      (All-cons (KeepsDrift 0) (node_line three_nodes 2) [] (record { name = letter_name 99 (omega arith); rate = omega arith; wall = omega arith })
      (All-nil (KeepsDrift 0))));
  few_nets = omega arith;
  nets_are = All-nil (IsNet 3);
  few_ports = λ n. omega arith;
}

led_started : AreStarted three_daemons
led_started zero low = record {
  serves =
      beside_two 97 Plain 0 1 2 (omega arith) (omega arith) (omega arith) (omega arith) (omega arith) (λ e. (let bad : ⊥ = omega (arith, e) in bad))
      (λ e. (let bad : ⊥ = omega (arith, e) in bad)) (λ e. (let bad : ⊥ = omega (arith, e) in bad));
  name = refl;
  may = refl;
  strict = λ e. refl;
  ports = refl;
}
led_started (suc zero) low = record {
  serves =
      beside_two 98 Never 1 0 2 (omega arith) (omega arith) (omega arith) (omega arith) (omega arith) (λ e. (let bad : ⊥ = omega (arith, e) in bad))
      (λ e. (let bad : ⊥ = omega (arith, e) in bad)) (λ e. (let bad : ⊥ = omega (arith, e) in bad));
  name = refl;
  may = refl;
  strict = λ e. refl;
  ports = refl;
}
led_started (suc (suc zero)) low =
    record {
      serves = beside_two 99 Never 2 0 1 (omega arith) (omega arith) (omega arith) (omega arith) (omega arith)
          (λ e. (let bad : ⊥ = omega (arith, e) in bad)) (λ e. (let bad : ⊥ = omega (arith, e) in bad)) (λ e. (let bad : ⊥ = omega (arith, e) in bad));
      name =
          refl;
      may = refl;
      strict = λ e. refl;
      ports = refl;
    }
led_started (suc (suc (suc n))) low = let bad : ⊥ = omega (arith, low) in absurd bad

led_possible : Possible three_nodes led
led_possible = possible_so led_header (plain_ranges led refl) computed.astray.happens 15 computed.astray.count (omega arith)

led_is : IsNetwork three_daemons led
led_is = run_is_network three_daemons led led_started (λ k. refl)
    (plain_suit three_daemons led three_turns (omega arith) refl ((omega arith, refl), ((omega arith, refl), ((omega arith, refl), tt))))
    (possible_own three_nodes led led_possible)

abbrev now : Network
now = network three_daemons led

agree : AllAgree three_daemons led_is.header_is led_is.keeps now 390001000 history
agree = subst (λ h. AllAgree three_daemons led_is.header_is led_is.keeps now 390001000 h) (runs_by_own_clocks three_nodes led)
    (run_agrees three_daemons led_is.header_is led_is.keeps led_started led led_is.happen led_is.few).agree

sent : SendAt three_daemons set_post now.sent 14
sent = send_at three_daemons agree.sends 14 set_post computed.astray.posted

-- what c does with the copy, as a node would
astray_is : (astray sent.send).history ≡ stepped stray_step 390001400 stray_acts history
astray_is =
    let r = runs_up now history 2 agree.history (quiet three_daemons (λ k. refl) led) computed.astray.is_up in
    let s = sent.send in
    let a = agree in
    let nets : List (List ℕ) = networks three_nodes in
    let own : Agrees three_daemons led_is.header_is led_is.keeps 2 r.life 390001000 history =
    subst (λ o. OneAgrees three_daemons led_is.header_is led_is.keeps 2 o 390001000 history) r.is (a.nodes 2) in
    let from : s.from ≡ 0 = sent.matches.sent.from in
    let written : s.tried.1 ≡ canon set_time = sent.matches.sent.octets in
    let small : length s.tried.1 ≤ 512 = subst (λ l. length l ≤ 512) (sym written) (subst (λ n. n ≤ 512) (sym computed.astray.size) (omega arith)) in
    let may : MayCome nets 2 first_port (Peer (peer s.from)) = inr (subst (λ n. has_member n (neighbours_on 2 0 nets) ≡ true) (sym from) refl) in
    let c = comes_as three_daemons led_is.header_is 2 r.life.origin first_port (Peer (peer s.from)) s.tried.1
    (session_of (three_daemons.words 2) r.life).past own.ports may (omega arith) small in
    let given_is = c.same ∙ ap (λ n. GotOn first_port (Peer (peer n)) (taken_of s.tried.1)) from ∙
    ap (λ l. GotOn first_port (Peer (peer 0)) (taken_of l)) written in
    let after = turn_agrees_all three_daemons led_is.header_is led_is.keeps now 390001000 history 18 stray_step (copy_at nets (first_at 2) s) r.life
    (GotOn first_port (Peer (peer 0)) (taken_of (canon set_time))) a (omega arith) r.is given_is c.comes in
    after.history ∙ ap (λ l. stepped stray_step 390001400 l history) computed.astray.acts_are

honest_run : Honest history
honest_run = (possible_runs_keep_premises three_nodes led led_possible).honest (plain_sealed led refl)

handed : {A : Type 0} → Came 14 ≡ Handed → A
handed e = let bad : ⊥ = cc in absurd bad

honest_astray : Honest (stepped stray_step 390001400 stray_acts history)
honest_astray = (λ e p t. handed e, (λ e p t. handed e, (λ e p t. handed e, (λ e p t. handed e, (λ e p t. handed e, honest_run)))))

came_same : (j k : ℕ) → Came j ≡ Came k → j ≡ k
came_same j k e = cc

not_obeyed : (setting : Setting) → ¬ OnceObeyed setting (stepped stray_step 390001400 stray_acts history)
not_obeyed setting o =
    let obeys = o.1.1.0 (peer 0) (negsuc 20399) true (pos 390001000) refl computed.astray.follows in
    let brings = obeys.brings in
    let found = posted_at taken_astray obeys.post obeys.older (Peer (peer 2)) (Message brings.message) brings.place brings.deed in
    let number : 14 ≡ posted (dids obeys.older) = came_same 14 (posted (dids obeys.older)) brings.cause in
    let same : set_post ≡ found.post = some_same (sym computed.astray.still_posted ∙
    subst (λ m. slice_get (posts taken_astray) m ≡ Some found.post) (sym number) found.there) in
    let bad : 1 ≡ 2 = place_of (ap (λ (p : Posted). p.to) same ∙ found.to_is) in
    omega (arith, bad)

pub misdelivered : Misdelivered
misdelivered = record {
  is = led_is;
  send = sent.send;
  there = sent.there;
  goes = sent.matches.goes;
  honest = subst Honest (sym astray_is) honest_astray;
  broken = λ setting o. not_obeyed setting (subst (OnceObeyed setting) astray_is o);
}

one_net : IsNet 1 (0 ∷ [])
one_net = record {
  some = omega arith;
  ascending = λ k few. (let bad : ⊥ = omega (arith, few) in absurd bad);
  known = All-cons (λ n. n < 1) 0 [] (omega arith) (All-nil (λ n. n < 1));
}

one_header : IsHeader one_node
one_header = record {
  small = omega arith;
  few = omega arith;
  kept = All-cons (KeepsDrift 0) (node_line one_node 0) [] (record { name = letter_name 97 (omega arith); rate = omega arith; wall = omega arith })
      (All-nil (KeepsDrift 0));
  few_nets = omega arith;
  nets_are = All-cons (IsNet 1) (0 ∷ []) ((0 ∷ []) ∷ []) one_net (All-cons (IsNet 1) (0 ∷ []) [] one_net (All-nil (IsNet 1)));
  few_ports = λ n. (let most = count_by-le-length (has_member n) one_node.nets in omega (arith, most));
}

one_started : (origin : ℕ) → AreStarted (one_daemon origin)
one_started origin zero low = record {
  serves = alone_on_two 97 Plain 0 (omega arith) (omega arith) (omega arith);
  name = refl;
  may = refl;
  strict =
      λ e. refl;
  ports = refl;
}
one_started origin (suc n) low = let bad : ⊥ = omega (arith, low) in absurd bad

-- what is another than the run by the daemons' clocks
by_clocks : (d : Daemons) (events : List Event) → d.clocks ≡ clocks_of d.header → (network d events).history ≢ run d.header events →
    (network d events).history ≢ run_by d.clocks d.header events
by_clocks d events own other same = other (same ∙ ap (λ c. run_by c d.header events) own ∙ runs_by_own_clocks d.header events)

-- no octets come to it
no_octets : (from : Place) → Happens one_node (on_second_port from) → length (posts (run one_node (on_second_port from))) ≡ 0 →
    Possible one_node (on_second_port from)
no_octets from happens none = possible_so one_header (in_ranges (on_second_port from) ((λ i. omega arith), (omega arith, tt))) happens 0 none (omega arith)

too_early : ¬ AllHappen (one_daemon 5) start
too_early all = let bad = all.1.2 in omega (arith, bad)

no_stranger : ¬ AllHappen (one_daemon 0) (on_second_port Stranger)
no_stranger all = let bad : 1 ≡ 0 = all.1.2 in omega (arith, bad)

not_own : ¬ AllHappen (one_daemon 0) (on_second_port (Peer (peer 0)))
not_own all = elim all.1.2 [
  | inl own ↦ let bad : 1 ≡ 0 = own.1 in omega (arith, bad)
  | inr near ↦ let bad : ⊥ = cc in bad
]

pub networks_break : NetworksBreak
networks_break = record {
  mistimed = record {
    started = one_started 5;
    possible = possible_own one_node start
        (possible_so one_header (plain_ranges start refl) computed.broken.starts 0 computed.broken.start_posts (omega arith));
    cannot = too_early;
    differs = by_clocks (one_daemon 5) start refl computed.broken.late;
  };
  stranger = record {
    started = one_started 0;
    possible = possible_own one_node (on_second_port Stranger) (no_octets Stranger computed.broken.from_stranger computed.broken.stranger_posts);
    cannot = no_stranger;
    differs = by_clocks (one_daemon 0) (on_second_port Stranger) refl computed.broken.stranger;
  };
  own = record {
    started = one_started 0;
    possible = possible_own one_node (on_second_port (Peer (peer 0))) (no_octets (Peer (peer 0)) computed.broken.from_own computed.broken.own_posts);
    cannot = not_own;
    differs = by_clocks (one_daemon 0) (on_second_port (Peer (peer 0))) refl computed.broken.own;
  };
}
