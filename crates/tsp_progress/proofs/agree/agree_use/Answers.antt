use Rattle.std.specs.Prelude.{refl}
use Rattle.tsp_run.specs.Run.{run, steps}
use Rattle.tsp_base.specs.Words.{nothing, puts, ◌followed_by◌, either_by, reading, for_each, arms, posts, posts_to_others, posts_back, posts_time, carries_hops}
use Rattle.tsp_base.specs.Words.{carries_time, kind_number, kind_of}
use Rattle.tsp_rules.specs.Answers.{alarm_rings, rings, rings_alone, due_alarms, says_in, peer_says, replies_in, peer_replies, from_peer, handles_kind, handles}
use Rattle.tsp_rules.specs.Answers.{takes, input_row, answers}
use Rattle.tsp_rules.specs.CandidateRows.{lead_row, yields, window_rings, accepted_by, refused_by, candidate_takes_kind, candidate_takes}
use Rattle.tsp_rules.specs.ClockRows.{adjusts, sets}
use Rattle.tsp_rules.specs.CommonRows.{boots, arms_elect, searches, tells_ticket, follow_row, backs_own, candidature_row, follows_unless, quits, posts_reply}
use Rattle.tsp_rules.specs.CommonRows.{replies, names_master, says_master, traces, tests}
use Rattle.tsp_rules.specs.MasterRows.{joins, sends_away, master_takes_kind, master_takes}
use Rattle.tsp_rules.specs.ResolveRows.{resolves, finds_rival, quits_rivals, resolve_rings}
use Rattle.tsp_rules.specs.RoundRows.{asks, asks_slaves, round_begins, round_rings, asks_measured, arms_next, abandons, probe_rings, samples_request, samples}
use Rattle.tsp_rules.specs.RoundRows.{corrects_by, corrects_peer, begins_or_waits, moves, closes_with, closes, close_rings, abandons_going, upsetting}
use Rattle.tsp_rules.specs.SendRows.{begins, begins_timed, begins_to_others, begins_adjtime, begins_settime, acknowledges, leaves_after, gives_up, repeats}
use Rattle.tsp_rules.specs.SendRows.{repeats_send, due_send, due_sends}
use Rattle.tsp_rules.specs.SlaveRows.{quiet_rings, rings_or_late, search_rings, loosens, elect_rings, reports_conflict, masterup_in, masterack_in, election_of}
use Rattle.tsp_rules.specs.SlaveRows.{acks_repeat, confirms, adjtime_of, settime_of, from_master, slave_takes_kind, slave_takes}
use Rattle.tsp_rules.specs.DateRows.{passes_on, leaves, leaves_all, new_date, sets_date_where, date_in, date_of, sets_in_charge, date_request_in}
use Rattle.tsp_rules.specs.DateRows.{date_request_of, date_acked_in, date_acked}
use Rattle.tsp_rules.specs.NodeRows.{nothing_at_all, on, ◌and_then◌, reading_all, for_ports, abandons_on, stirring}
use Rattle.tsp_rules.specs.GateRows.{sends_loops, loops_after, probes_on, closes_on, begins_round_on, alarm_on, alarms_on, turns_on, reposts, reposts_on}
use Rattle.tsp_rules.specs.GateRows.{loosens_master, forwards, takes_loop_step, judges, heeds_loop, takes_loop, takes_message, takes_kind, takes_on, input_all}
use Rattle.tsp_rules.specs.GateRows.{answers_all, boots_on, boots_all}
use Rattle.tsp_group.specs.Groups.{group_from, goes_before, better}
use Rattle.tsp_codec.specs.Taken.{taken_of}
use Rattle.std.proofs.Common.{zero, suc, sym, true≢false, ◌∙◌, ◌≡◌, ℕ, pos, neg_ℤ, true, arith, refl}
use Rattle.tsp_base.specs.Words.{first_port}
use Rattle.tsp_promises.specs.Setting.{Setting}
use Rattle.tsp_run.specs.{Run.run, Setting.SetBy}
use Rattle.tsp_progress.specs.{ByTable.node_in, FollowUse.follows_long, FollowUse.two_stay, OneUse.two_may, SampledUse.all_lost}
use Rattle.tsp_progress.specs.{SampledUse.until_corrects, SampledUse.without, TableUse.until_set}
use Rattle.std.specs.Prelude.{length}
use Rattle.tsp_progress.proofs.{AgreeChecks.clocks_apart, AgreeChecks.clocks_same, AgreeChecks.gives_by, AgreeChecks.range_by, AgreeChecks.sets_by}
use Rattle.tsp_progress.proofs.{AgreeChecks.table_by, AgreeChecks.undated_by}
use Rattle.tsp_progress.proofs.CalmChecks.{within_without}
use Rattle.tsp_progress.proofs.agree.agree_use.Goals as goal

-- the rules give this
pub returns : goal.returns
unfolding taken_of kind_of kind_number carries_time carries_hops nothing puts ◌followed_by◌ either_by reading for_each arms posts posts_to_others posts_back
    posts_time
    alarm_rings rings rings_alone due_alarms says_in peer_says replies_in peer_replies from_peer handles_kind handles takes input_row answers lead_row yields
    window_rings accepted_by refused_by candidate_takes_kind candidate_takes adjusts sets boots arms_elect searches tells_ticket follow_row backs_own
    candidature_row follows_unless quits posts_reply replies names_master says_master traces tests group_from goes_before better joins sends_away
    master_takes_kind master_takes resolves finds_rival quits_rivals resolve_rings asks asks_slaves round_begins round_rings asks_measured arms_next abandons
    probe_rings samples_request samples corrects_by corrects_peer begins_or_waits moves closes_with closes close_rings abandons_going upsetting begins
    begins_to_others begins_adjtime begins_settime acknowledges leaves_after gives_up repeats repeats_send due_send due_sends quiet_rings rings_or_late
    search_rings loosens elect_rings reports_conflict masterup_in masterack_in election_of acks_repeat confirms adjtime_of settime_of from_master
    slave_takes_kind slave_takes begins_timed passes_on leaves leaves_all new_date sets_date_where date_in date_of sets_in_charge date_request_in
    date_request_of date_acked_in date_acked nothing_at_all on ◌and_then◌ reading_all for_ports abandons_on stirring sends_loops loops_after probes_on closes_on
    begins_round_on alarm_on alarms_on turns_on reposts reposts_on loosens_master forwards takes_loop_step judges heeds_loop takes_loop takes_message takes_kind
    takes_on input_all answers_all boots_on boots_all steps
returns c = record {
  wire = λ setting set. record {
    single = λ n there. single-of n there;
    net = λ n m there too. net-of setting set n there ∙ sym (net-of setting set m too);
  };
  swift = λ setting set. rw set.drift_is (omega arith);
  table = table_by 638020000 (run two_may until_set) (run two_may follows_long) refl;
  sets = sets_by (run two_may until_set) (run two_may follows_long) refl;
  undated = undated_by (run two_may until_set) (run two_may follows_long) refl;
  gives = gives_by (run two_may until_set) (run two_may follows_long) refl;
  range = range_by (run two_may until_set) (run two_may follows_long) refl;
  closes = record {
    place = within_without 10 (run two_may follows_long);
    node = refl;
    count = _;
    lo = _;
    size = _;
    mean = _;
    deed = refl;
    late = omega arith;
    early = omega arith;
  };
  apart = λ setting set. clocks_apart setting set (without 11 (run two_may follows_long)) 638000000 (pos 0) (neg_ℤ (pos 10000)) (pos 10000) refl refl refl;
  meanwhile = λ setting set. clocks_apart setting set (run two_may until_corrects) 638005000 (neg_ℤ (pos 5000)) (neg_ℤ (pos 10000)) (pos 5000) refl refl refl;
  agree = λ setting set. clocks_same setting set (run two_may follows_long) 638010000 (neg_ℤ (pos 5000)) refl refl;
  left = refl;
  behind = λ setting set. clocks_apart setting set (run two_may all_lost) 638010000 (pos 0) (neg_ℤ (pos 10000)) (pos 10000) refl refl refl;
} where
  single-of : (n : ℕ) → two_stay n ≡ true → length (node_in two_may n).ports ≡ 1
  single-of zero there = refl
  single-of (suc zero) there = refl
  single-of (suc (suc n)) there = absurd (true≢false (sym there))

  net-of : (setting : Setting) → SetBy two_may setting → (n : ℕ) → two_stay n ≡ true → setting.net n first_port ≡ setting.net 0 first_port
  net-of setting set zero there = refl
  net-of setting set (suc zero) there = set.net_is 1 first_port ∙ sym (set.net_is 0 first_port)
  net-of setting set (suc (suc n)) there = absurd (true≢false (sym there))
