-- The rules give what the daemons of the examples do: two in use, three when a copy goes astray, and one to which happens what can't happen.
use Rattle.std.proofs.Common.{sym, ap, arith, ◌∙◌, ◌≡◌, ℕ, ◌+◌, ◌≤◌, length, Option, Some, refl, pos, negsuc, true, List, [], ◌∷◌, codes, slice_get, ◌≢◌}
use Rattle.tsp_base.specs.Words.{kind_number, nothing, puts, ◌followed_by◌, either_by, reading, for_each, arms, posts, posts_to_others, posts_back, posts_time}
use Rattle.tsp_base.specs.Words.{carries_hops, carries_time, kind_of, Came, Line, Step, bare, dids, first_port, of, peer_of as peer, role, stepped, timed, up}
use Rattle.tsp_base.specs.Words.{view, Acts, Deed}
use Rattle.tsp_rules.specs.Answers.{alarm_rings, rings, rings_alone, due_alarms, says_in, peer_says, replies_in, peer_replies, from_peer, handles_kind, handles}
use Rattle.tsp_rules.specs.Answers.{takes, input_row, answers}
use Rattle.tsp_rules.specs.Values.{LIFE, Ack, Act, Arm, Correct, Datagram, Elect, Follow, Good, Message, Peer, Placed, Post, SetTime, Took, Stranger}
use Rattle.tsp_rules.specs.CommonRows.{boots, arms_elect, searches, tells_ticket, follow_row, backs_own, candidature_row, follows_unless, quits, posts_reply}
use Rattle.tsp_rules.specs.CommonRows.{replies, names_master, says_master, traces, tests}
use Rattle.tsp_rules.specs.RoundRows.{asks, asks_slaves, round_begins, round_rings, asks_measured, arms_next, abandons, probe_rings, samples_request, samples}
use Rattle.tsp_rules.specs.RoundRows.{corrects_by, corrects_peer, begins_or_waits, moves, closes_with, closes, close_rings, abandons_going, upsetting}
use Rattle.tsp_rules.specs.SendRows.{begins, begins_timed, begins_to_others, begins_adjtime, begins_settime, acknowledges, leaves_after, gives_up, repeats}
use Rattle.tsp_rules.specs.SendRows.{repeats_send, due_send, due_sends}
use Rattle.tsp_rules.specs.SlaveRows.{quiet_rings, rings_or_late, search_rings, loosens, elect_rings, reports_conflict, masterup_in, masterack_in, election_of}
use Rattle.tsp_rules.specs.SlaveRows.{acks_repeat, confirms, adjtime_of, settime_of, from_master, slave_takes_kind, slave_takes}
use Rattle.tsp_rules.specs.DateRows.{passes_on, leaves, leaves_all, new_date, sets_date_where, date_in, date_of, sets_in_charge, date_request_in}
use Rattle.tsp_rules.specs.DateRows.{date_request_of, date_acked_in, date_acked}
use Rattle.tsp_rules.specs.GateRows.{sends_loops, loops_after, probes_on, closes_on, begins_round_on, alarm_on, alarms_on, turns_on, reposts, reposts_on}
use Rattle.tsp_rules.specs.GateRows.{loosens_master, forwards, takes_loop_step, judges, heeds_loop, takes_loop, takes_message, takes_kind, takes_on, input_all}
use Rattle.tsp_rules.specs.GateRows.{answers_all, boots_on, boots_all, GotOn}
use Rattle.tsp_rules.specs.CandidateRows.{lead_row, yields, window_rings, accepted_by, refused_by, candidate_takes_kind, candidate_takes}
use Rattle.tsp_rules.specs.NodeRows.{nothing_at_all, on, ◌and_then◌, reading_all, for_ports, abandons_on, stirring}
use Rattle.tsp_rules.specs.ResolveRows.{resolves, finds_rival, quits_rivals, resolve_rings}
use Rattle.tsp_rules.specs.MasterRows.{joins, sends_away, master_takes_kind, master_takes}
use Rattle.tsp_rules.specs.ClockRows.{adjusts, sets}
use Rattle.tsp_group.specs.Groups.{group_from, goes_before, better}
use Rattle.tsp_codec.specs.{Canon.canon, Taken.taken_of}
use Rattle.tsp_run.specs.{Possible.Happens, Run.steps, Run.posted_time, Run.posts as posts_of, Run.run, declared.posted.Posted.Posted}
use Rattle.tsp_run.{proofs.Happens.acts_by, proofs.NetworkLemmas.some_same, specs.Premised.Prompt}
use Rattle.tsp_network.specs.NetworkUse.{acts_by_node, acts_of_a, acts_of_b, two_nodes, used, on_second_port, one_daemon, one_node, start, led, three_nodes}
use Rattle.tsp_network.specs.Networks.{network}

-- a post that was made at this time is taken early enough
early : (o : Option Posted) (at t : ℕ) → posted_time o ≡ Some t → at ≤ t + 30000000 → (p : Posted) → o ≡ Some p → at ≤ p.at + LIFE
early o at t time soon p there =
    let life : LIFE ≡ 30000000 = refl in
    let same : p.at ≡ t = some_same (sym (ap posted_time there) ∙ time) in
    omega (arith, soon, life, same)

-- what is known of the run
pub record IsUsed : Type 0 where
  pub happens : Happens two_nodes used
  pub count : length (posts_of (run two_nodes used)) ≡ 16
  pub acts_a : acts_by_node 0 (run two_nodes used) ≡ acts_of_a
  pub acts_b : acts_by_node 1 (run two_nodes used) ≡ acts_of_b
  pub prompt : Prompt two_nodes used

-- the SETTIME
abbrev pub set_time : Datagram
set_time = Message (timed SetTime 9 (pos 390001000) (codes "a"))

-- its post, which is to b
abbrev pub set_post : Posted
set_post = record { at = 390001000; from = 0; port = first_port; to = Peer (peer 1); datagram = set_time }

-- the step in which c takes it
abbrev pub stray_step : Step
stray_step = record { at = 390001400; node = 2; cause = Came 14 }

abbrev pub placed : Act → Placed
placed a = record { port = first_port; act = a }

abbrev pub history : List Line
history = run three_nodes led

-- the history when c has taken it, and has done nothing yet
abbrev pub taken_astray : List Line
taken_astray = stepped stray_step 390001400 (placed (Took (Peer (peer 0)) (Good set_time)) ∷ []) history

-- what c does
abbrev pub stray_acts : List Placed
stray_acts =
    placed (Took (Peer (peer 0)) (Good set_time)) ∷
    placed (Correct (negsuc 20399) true (pos 390001000)) ∷
    placed (Arm Elect 690001409) ∷
    placed (Post (Peer (peer 0)) (Message (bare Ack 9 (codes "c")))) ∷
    []

-- what is known of the run, and of what c does
pub record GoesAstray : Type 0 where
  pub happens : Happens three_nodes led
  pub count : length (posts_of history) ≡ 15
  pub is_up : up (dids (of 2 history)) ≡ true
  pub posted : slice_get (posts_of history) 14 ≡ Some set_post
  pub still_posted : slice_get (posts_of taken_astray) 14 ≡ Some set_post
  pub size : length (canon set_time) ≡ 76
  pub follows : role (view first_port (of 2 taken_astray)) ≡ Follow (peer 0)
  pub acts_are : acts_by three_nodes history (answers_all (GotOn first_port (Peer (peer 0)) (taken_of (canon set_time)))) stray_step ≡ stray_acts

-- the tick for which the last line of a history arms an alarm
abbrev armed_at : Deed → ℕ
armed_at (Acts (Arm alarm tick)) = tick
armed_at _ = 0

abbrev last_armed : List Line → ℕ
last_armed [] = 0
last_armed (l ∷ before) = armed_at l.did.deed

-- the port of the last line
abbrev last_port : List Line → ℕ
last_port [] = 0
last_port (l ∷ before) = l.port.0

-- what is known of the runs and of what the daemon does
pub record IsBroken : Type 0 where
  pub late : (network (one_daemon 5) start).history ≢ run one_node start
  pub stranger : (network (one_daemon 0) (on_second_port Stranger)).history ≢ run one_node (on_second_port Stranger)
  pub own : (network (one_daemon 0) (on_second_port (Peer (peer 0)))).history ≢ run one_node (on_second_port (Peer (peer 0)))
  pub starts : Happens one_node start
  pub start_posts : length (posts_of (run one_node start)) ≡ 0
  pub from_stranger : Happens one_node (on_second_port Stranger)
  pub stranger_posts : length (posts_of (run one_node (on_second_port Stranger))) ≡ 0
  pub from_own : Happens one_node (on_second_port (Peer (peer 0)))
  pub own_posts : length (posts_of (run one_node (on_second_port (Peer (peer 0))))) ≡ 0

-- all of this is the rules' result
pub record IsComputed : Type 0 where
  pub used : IsUsed
  pub astray : GoesAstray
  pub broken : IsBroken

pub computed : IsComputed
unfolding taken_of kind_number kind_of carries_time carries_hops nothing puts ◌followed_by◌ either_by reading for_each arms posts posts_to_others posts_back
    posts_time alarm_rings rings rings_alone due_alarms says_in peer_says replies_in peer_replies from_peer handles_kind handles takes input_row answers
    lead_row yields window_rings accepted_by refused_by candidate_takes_kind candidate_takes adjusts sets boots arms_elect searches tells_ticket follow_row
    backs_own candidature_row follows_unless quits posts_reply replies names_master says_master traces tests group_from goes_before better joins sends_away
    master_takes_kind master_takes resolves finds_rival quits_rivals resolve_rings asks asks_slaves round_begins round_rings asks_measured arms_next abandons
    probe_rings samples_request samples corrects_by corrects_peer begins_or_waits moves closes_with closes close_rings abandons_going upsetting begins
    begins_to_others begins_adjtime begins_settime acknowledges leaves_after gives_up repeats repeats_send due_send due_sends quiet_rings rings_or_late
    search_rings loosens elect_rings reports_conflict masterup_in masterack_in election_of acks_repeat confirms adjtime_of settime_of from_master
    slave_takes_kind slave_takes begins_timed passes_on leaves leaves_all new_date sets_date_where date_in date_of sets_in_charge date_request_in
    date_request_of date_acked_in date_acked nothing_at_all on ◌and_then◌ reading_all for_ports abandons_on stirring sends_loops loops_after probes_on closes_on
    begins_round_on alarm_on alarms_on turns_on reposts reposts_on loosens_master forwards takes_loop_step judges heeds_loop takes_loop takes_message takes_kind
    takes_on input_all answers_all boots_on boots_all steps
computed = record {
  used = record {
    happens = (
      refl,
      (
        refl,
        (
          refl,
          (
            refl,
            (
              refl,
              (
                refl,
                (
                  refl,
                  (
                    refl,
                    (
                      refl,
                      (
                        refl,
                        (refl, (refl, (refl, (refl, (refl, (refl, (refl, (refl, (refl, (refl, (refl, (refl, (refl, tt))))))))))))),
                      ),
                    ),
                  ),
                ),
              ),
            ),
          ),
        ),
      ),
    );
    count = refl;
    acts_a = refl;
    acts_b = refl;
    prompt = (
      early _ 639000700 639000400 refl (omega arith),
      (
        early _ 639000400 639000000 refl (omega arith),
        (
          tt,
          (
            tt,
            (
              tt,
              (
                tt,
                (
                  early _ 631000801 631000300 refl (omega arith),
                  (
                    early _ 631000300 631000000 refl (omega arith),
                    (
                      tt,
                      (
                        early _ 391001800 391001400 refl (omega arith),
                        (
                          early _ 391001400 391001000 refl (omega arith),
                          (
                            early _ 391001000 391000500 refl (omega arith),
                            (
                              early _ 391000500 391000000 refl (omega arith),
                              (
                                tt,
                                (
                                  early _ 386000006 386000003 refl (omega arith),
                                  (
                                    early _ 386000003 386000000 refl (omega arith),
                                    (tt, (tt, (tt, (tt, (tt, (tt, (tt, tt))))))),
                                  ),
                                ),
                              ),
                            ),
                          ),
                        ),
                      ),
                    ),
                  ),
                ),
              ),
            ),
          ),
        ),
      ),
    );
  };
  astray = record {
    happens = (
      refl,
      (
        refl,
        (
          refl,
          (
            refl,
            (
              refl,
              (
                refl,
                (
                  refl,
                  (
                    refl,
                    (refl, (refl, (refl, (refl, (refl, (refl, (refl, (refl, (refl, (refl, tt)))))))))),
                  ),
                ),
              ),
            ),
          ),
        ),
      ),
    );
    count = refl;
    is_up = refl;
    posted = refl;
    still_posted = refl;
    size = refl;
    follows = refl;
    acts_are = refl;
  };
  broken = record {
    late = λ same. (let bad : 80000005 ≡ 80000000 = ap last_armed same in omega (arith, bad));
    stranger = λ same. (let bad : 0 ≡ 1 = ap last_port same in omega (arith, bad));
    own = λ same. (let bad : 0 ≡ 1 = ap last_port same in omega (arith, bad));
    starts = (refl, tt);
    start_posts = refl;
    from_stranger = (refl, (refl, tt));
    stranger_posts = refl;
    from_own = (refl, (refl, tt));
    own_posts = refl;
  };
}
