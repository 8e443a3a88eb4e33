-- The rules give what daemons do whose counters change their rates, and of which one starts again with another wall clock.
use Rattle.std.proofs.Common.{inl, inr, ◌≡◌, ℕ, ℤ, pos, ◌+ℤ◌, ◌-ℤ◌, nat_abs, true, List, ◌∷◌, drop, length, refl}
use Rattle.tsp_rules.specs.Answers.{alarm_rings, rings, rings_alone, due_alarms, says_in, peer_says, replies_in, peer_replies, from_peer, handles_kind, handles}
use Rattle.tsp_rules.specs.Answers.{takes, input_row, answers}
use Rattle.tsp_rules.specs.CommonRows.{boots, arms_elect, searches, tells_ticket, follow_row, backs_own, candidature_row, follows_unless, quits, posts_reply}
use Rattle.tsp_rules.specs.CommonRows.{replies, names_master, says_master, traces, tests}
use Rattle.tsp_rules.specs.RoundRows.{asks, asks_slaves, round_begins, round_rings, asks_measured, arms_next, abandons, probe_rings, samples_request, samples}
use Rattle.tsp_rules.specs.RoundRows.{corrects_by, corrects_peer, begins_or_waits, moves, closes_with, closes, close_rings, abandons_going, upsetting}
use Rattle.tsp_rules.specs.SendRows.{begins, begins_timed, begins_to_others, begins_adjtime, begins_settime, acknowledges, leaves_after, gives_up, repeats}
use Rattle.tsp_rules.specs.SendRows.{repeats_send, due_send, due_sends}
use Rattle.tsp_rules.specs.SlaveRows.{quiet_rings, rings_or_late, search_rings, loosens, elect_rings, reports_conflict, masterup_in, masterack_in, election_of}
use Rattle.tsp_rules.specs.SlaveRows.{acks_repeat, confirms, adjtime_of, settime_of, from_master, slave_takes_kind, slave_takes}
use Rattle.tsp_rules.specs.DateRows.{passes_on, leaves, leaves_all, new_date, sets_date_where, date_in, date_of, sets_in_charge, date_request_in}
use Rattle.tsp_rules.specs.DateRows.{date_request_of, date_acked_in, date_acked}
use Rattle.tsp_rules.specs.GateRows.{sends_loops, loops_after, probes_on, closes_on, begins_round_on, alarm_on, alarms_on, turns_on, reposts, reposts_on}
use Rattle.tsp_rules.specs.GateRows.{loosens_master, forwards, takes_loop_step, judges, heeds_loop, takes_loop, takes_message, takes_kind, takes_on, input_all}
use Rattle.tsp_rules.specs.GateRows.{answers_all, boots_on, boots_all}
use Rattle.tsp_rules.specs.CandidateRows.{lead_row, yields, window_rings, accepted_by, refused_by, candidate_takes_kind, candidate_takes}
use Rattle.tsp_rules.specs.NodeRows.{nothing_at_all, on, ◌and_then◌, reading_all, for_ports, abandons_on, stirring}
use Rattle.tsp_rules.specs.ResolveRows.{resolves, finds_rival, quits_rivals, resolve_rings}
use Rattle.tsp_rules.specs.MasterRows.{joins, sends_away, master_takes_kind, master_takes}
use Rattle.tsp_rules.specs.ClockRows.{adjusts, sets}
use Rattle.tsp_base.specs.Words.{kind_number, nothing, puts, ◌followed_by◌, either_by, reading, for_each, arms, posts, posts_to_others, posts_back, posts_time}
use Rattle.tsp_base.specs.Words.{carries_hops, carries_time, kind_of}
use Rattle.tsp_group.specs.Groups.{group_from, goes_before, better}
use Rattle.tsp_codec.specs.Taken.{taken_of}
use Rattle.tsp_rules.specs.Values.{Event, Peer, Post, Reply, Sample, Stamp}
use Rattle.tsp_base.specs.Words.{Acts, Came, Line, Within, dids, first_port, line_of, moved, of, peer_of as peer, posted, time_of}
use Rattle.tsp_query.specs.Arrivals.{all_but_first}
use Rattle.tsp_run.specs.Clocked.{run_by, steps_by}
use Rattle.tsp_run.specs.{Run.posts as posts_of}
use Rattle.tsp_network.proofs.EventLists.{all_can, all_soon}
use Rattle.tsp_network.specs.ClocksUse.{course, course_of_a, course_of_b, two_wanderers, wandered, wandering}
use Rattle.tsp_network.specs.NetworkUse.{acts_by_node}

-- the events up to the reply of b's that a takes in the third round, and up to the Sample that a makes of it
abbrev pub replied : List Event
replied = drop 6 wandered

abbrev pub sampled : List Event
sampled = drop 5 wandered

abbrev pub after_reply : List Line
after_reply = run_by wandering two_wanderers replied

-- the line of the Sample
abbrev pub sample_line : Line
sample_line = line_of (record { at = 1111990363; node = 0; cause = Came 30 }) 1112011845 first_port (Acts (Sample (peer 1) 9 (pos 5446606) (pos 311) 1899))

-- the line of the reply
abbrev pub reply_line : Line
reply_line =
    line_of (record { at = 1111990099; node = 1; cause = Came 29 }) 1111998547 first_port
    (Acts (Post (Peer (peer 0)) (Stamp (Reply (record { ticket = 1899; word = 737; counter = 9; reading = pos 1116976788 })))))

-- what a node's clock was then, if this was its wall clock at tick 0
abbrev pub clock_of : ℕ → ℤ → ℤ
clock_of n wall = (wall +ℤ moved (dids (of n after_reply))) +ℤ pos (wandering.tick n (time_of (dids after_reply)))

-- what is known of the run
pub record IsWandered : Type 0 where
  pub can : all_can wandering two_wanderers wandered ≡ true
  pub soon : all_soon wandering two_wanderers wandered ≡ true
  pub count : length (posts_of (run_by wandering two_wanderers wandered)) ≡ 35
  pub course_a : course (acts_by_node 0 (run_by wandering two_wanderers wandered)) ≡ course_of_a
  pub course_b : course (acts_by_node 1 (run_by wandering two_wanderers wandered)) ≡ course_of_b
  pub samples : run_by wandering two_wanderers sampled ≡ sample_line ∷ all_but_first (run_by wandering two_wanderers sampled)
  pub replies : after_reply ≡ reply_line ∷ all_but_first after_reply
  pub place : Within after_reply (all_but_first (run_by wandering two_wanderers sampled))
  pub number : posted (dids (all_but_first after_reply)) ≡ 30
  pub error : nat_abs (pos 5446606 -ℤ (clock_of 1 (wandering.wall 1 1) -ℤ clock_of 0 (wandering.wall 0 1))) ≡ 2046875

pub is_wandered : IsWandered
unfolding taken_of kind_number kind_of carries_time carries_hops nothing puts ◌followed_by◌ either_by reading for_each arms posts posts_to_others posts_back
    posts_time alarm_rings rings rings_alone due_alarms says_in peer_says replies_in peer_replies from_peer handles_kind handles takes input_row answers
    lead_row yields window_rings accepted_by refused_by candidate_takes_kind candidate_takes adjusts sets boots arms_elect searches tells_ticket follow_row
    backs_own candidature_row follows_unless quits posts_reply replies names_master says_master traces tests group_from goes_before better joins sends_away
    master_takes_kind master_takes resolves finds_rival quits_rivals resolve_rings asks asks_slaves round_begins round_rings asks_measured arms_next abandons
    probe_rings samples_request samples corrects_by corrects_peer begins_or_waits moves closes_with closes close_rings abandons_going upsetting begins
    begins_to_others begins_adjtime begins_settime acknowledges leaves_after gives_up repeats repeats_send due_send due_sends quiet_rings rings_or_late
    search_rings loosens elect_rings reports_conflict masterup_in masterack_in election_of acks_repeat confirms adjtime_of settime_of from_master
    slave_takes_kind slave_takes begins_timed passes_on leaves leaves_all new_date sets_date_where date_in date_of sets_in_charge date_request_in
    date_request_of date_acked_in date_acked nothing_at_all on ◌and_then◌ reading_all for_ports abandons_on stirring sends_loops loops_after probes_on closes_on
    begins_round_on alarm_on alarms_on turns_on reposts reposts_on loosens_master forwards takes_loop_step judges heeds_loop takes_loop takes_message takes_kind
    takes_on input_all answers_all boots_on boots_all steps_by
is_wandered = record {
  can = refl;
  soon = refl;
  count = refl;
  course_a = refl;
  course_b = refl;
  samples = refl;
  replies = refl;
  place =
      inr (inr (inl refl));
  number = refl;
  error = refl;
}
