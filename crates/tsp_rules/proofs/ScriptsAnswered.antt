-- The rules give the claimed acts of each script, and lead to the states that it claims.
use Rattle.std.specs.Prelude.{refl}
use Rattle.tsp_base.specs.Words.{nothing, puts, ◌followed_by◌, either_by, reading, for_each, arms, posts, posts_to_others, posts_back, posts_time}
use Rattle.tsp_rules.specs.Answers.{alarm_rings, rings, rings_alone, due_alarms, says_in, peer_says, replies_in, peer_replies, from_peer, handles_kind, handles}
use Rattle.tsp_rules.specs.Answers.{takes, input_row, answers}
use Rattle.tsp_rules.specs.CandidateRows.{lead_row, yields, window_rings, accepted_by, refused_by, candidate_takes_kind, candidate_takes}
use Rattle.tsp_rules.specs.{ClockRows.adjusts, ClockRows.sets}
use Rattle.tsp_rules.specs.{ClientsScript.AnswersClients, Corrections.CorrectsOnce, DateScript.DatesOnce, GatewayScript.JoinsNetworks, HoldScript.HoldsOne}
use Rattle.tsp_rules.specs.{LateClose.ClosesLate, OrdinaryUse.OrdinaryUse, ResolutionScript.ResolvesOnce, RivalsScript.MeetsRival, RolesScript.HearsMasters}
use Rattle.tsp_rules.specs.{RoundsScript.ClosesOtherwise, StrictScript.WinsByMajority}
use Rattle.tsp_rules.specs.CommonRows.{boots, arms_elect, searches, tells_ticket, follow_row, backs_own, candidature_row, follows_unless, quits, posts_reply}
use Rattle.tsp_rules.specs.CommonRows.{replies, names_master, says_master, traces, tests}
use Rattle.tsp_rules.specs.MasterRows.{joins, sends_away, master_takes_kind, master_takes}
use Rattle.tsp_rules.specs.ResolveRows.{resolves, finds_rival, quits_rivals, resolve_rings}
use Rattle.tsp_rules.specs.RoundRows.{asks, asks_slaves, round_begins, round_rings, asks_measured, arms_next, abandons, probe_rings, samples_request, samples}
use Rattle.tsp_rules.specs.RoundRows.{corrects_by, corrects_peer, begins_or_waits, moves, closes_with, closes, close_rings, abandons_going, upsetting}
use Rattle.tsp_rules.specs.SendRows.{begins, begins_to_others, begins_adjtime, begins_settime, acknowledges, leaves_after, gives_up, repeats, repeats_send}
use Rattle.tsp_rules.specs.SendRows.{due_send, due_sends, begins_timed}
use Rattle.tsp_rules.specs.SlaveRows.{quiet_rings, rings_or_late, search_rings, loosens, elect_rings, reports_conflict, masterup_in, masterack_in, election_of}
use Rattle.tsp_rules.specs.SlaveRows.{acks_repeat, confirms, adjtime_of, settime_of, from_master, slave_takes_kind, slave_takes}
use Rattle.tsp_rules.specs.DateRows.{passes_on, leaves, leaves_all, new_date, sets_date_where, date_in, date_of, sets_in_charge, date_request_in}
use Rattle.tsp_rules.specs.DateRows.{date_request_of, date_acked_in, date_acked}
use Rattle.tsp_rules.specs.NodeRows.{nothing_at_all, on, ◌and_then◌, reading_all, for_ports, abandons_on, stirring}
use Rattle.tsp_rules.specs.GateRows.{sends_loops, loops_after, probes_on, closes_on, begins_round_on, alarm_on, alarms_on, turns_on, reposts, reposts_on}
use Rattle.tsp_rules.specs.GateRows.{loosens_master, forwards, takes_loop_step, judges, heeds_loop, takes_loop, takes_message, takes_kind, takes_on, input_all}
use Rattle.tsp_rules.specs.GateRows.{answers_all, boots_on, boots_all}
use Rattle.tsp_group.specs.Groups.{group_from, goes_before, better}

-- a first election and round, backings, rivals, late closes, a correction
pub ordinary_use : OrdinaryUse
unfolding nothing puts ◌followed_by◌ either_by reading for_each arms posts posts_to_others posts_back posts_time alarm_rings rings rings_alone due_alarms
    says_in peer_says replies_in peer_replies from_peer handles_kind handles takes input_row answers lead_row yields window_rings accepted_by refused_by
    candidate_takes_kind candidate_takes adjusts sets boots arms_elect searches tells_ticket follow_row backs_own candidature_row follows_unless quits
    posts_reply replies names_master says_master traces tests group_from goes_before better joins sends_away master_takes_kind master_takes resolves finds_rival
    quits_rivals resolve_rings asks asks_slaves round_begins round_rings asks_measured arms_next abandons probe_rings samples_request samples corrects_by
    corrects_peer begins_or_waits moves closes_with closes close_rings abandons_going upsetting begins begins_to_others begins_adjtime begins_settime
    acknowledges leaves_after gives_up repeats repeats_send due_send due_sends quiet_rings rings_or_late search_rings loosens elect_rings reports_conflict
    masterup_in masterack_in election_of acks_repeat confirms adjtime_of settime_of from_master slave_takes_kind slave_takes
ordinary_use = record {
  acts_a = (refl, (refl, (refl, (refl, (refl, (refl, (refl, (refl, (refl, (refl, (refl, (refl, (refl, (refl, (refl, tt)))))))))))))));
  acts_b = (refl, (refl, (refl, (refl, (refl, (refl, (refl, (refl, tt))))))));
  sets = refl;
  is_set = refl;
  end_a = record { role_is = refl; ticket_is = refl; target_is = refl; shown_is = refl };
  end_b = record { role_is = refl; ticket_is = refl; target_is = refl; shown_is = refl };
  slewed_b = record { role_is = refl; ticket_is = refl; target_is = refl; shown_is = refl };
}

pub holds_one : HoldsOne
unfolding nothing puts ◌followed_by◌ either_by reading for_each arms posts posts_to_others posts_back posts_time alarm_rings rings rings_alone due_alarms
    says_in peer_says replies_in peer_replies from_peer handles_kind handles takes input_row answers lead_row yields window_rings accepted_by refused_by
    candidate_takes_kind candidate_takes adjusts sets boots arms_elect searches tells_ticket follow_row backs_own candidature_row follows_unless quits
    posts_reply replies names_master says_master traces tests group_from goes_before better joins sends_away master_takes_kind master_takes resolves finds_rival
    quits_rivals resolve_rings asks asks_slaves round_begins round_rings asks_measured arms_next abandons probe_rings samples_request samples corrects_by
    corrects_peer begins_or_waits moves closes_with closes close_rings abandons_going upsetting begins begins_to_others begins_adjtime begins_settime
    acknowledges leaves_after gives_up repeats repeats_send due_send due_sends quiet_rings rings_or_late search_rings loosens elect_rings reports_conflict
    masterup_in masterack_in election_of acks_repeat confirms adjtime_of settime_of from_master slave_takes_kind slave_takes
holds_one = record {
  acts = (refl, (refl, (refl, (refl, (refl, (refl, (refl, (refl, tt))))))));
  first = refl;
  second = refl;
  loose = record { role_is = refl; ticket_is = refl; target_is = refl; shown_is = refl };
  reboots = record { role_is = refl; ticket_is = refl; target_is = refl; shown_is = refl };
  forgets = refl;
  silent = refl;
}

pub meets_rival : MeetsRival
unfolding nothing puts ◌followed_by◌ either_by reading for_each arms posts posts_to_others posts_back posts_time alarm_rings rings rings_alone due_alarms
    says_in peer_says replies_in peer_replies from_peer handles_kind handles takes input_row answers lead_row yields window_rings accepted_by refused_by
    candidate_takes_kind candidate_takes adjusts sets boots arms_elect searches tells_ticket follow_row backs_own candidature_row follows_unless quits
    posts_reply replies names_master says_master traces tests group_from goes_before better joins sends_away master_takes_kind master_takes resolves finds_rival
    quits_rivals resolve_rings asks asks_slaves round_begins round_rings asks_measured arms_next abandons probe_rings samples_request samples corrects_by
    corrects_peer begins_or_waits moves closes_with closes close_rings abandons_going upsetting begins begins_to_others begins_adjtime begins_settime
    acknowledges leaves_after gives_up repeats repeats_send due_send due_sends quiet_rings rings_or_late search_rings loosens elect_rings reports_conflict
    masterup_in masterack_in election_of acks_repeat confirms adjtime_of settime_of from_master slave_takes_kind slave_takes
meets_rival = record {
  acts = (refl, (refl, (refl, (refl, (refl, (refl, (refl, (refl, (refl, (refl, (refl, (refl, tt))))))))))));
  found = refl;
  begins = refl;
  repeats = refl;
  ends = refl;
  leads = record { role_is = refl; ticket_is = refl; target_is = refl; shown_is = refl };
  follows = record { role_is = refl; ticket_is = refl; target_is = refl; shown_is = refl };
}

pub closes_late : ClosesLate
unfolding nothing puts ◌followed_by◌ either_by reading for_each arms posts posts_to_others posts_back posts_time alarm_rings rings rings_alone due_alarms
    says_in peer_says replies_in peer_replies from_peer handles_kind handles takes input_row answers lead_row yields window_rings accepted_by refused_by
    candidate_takes_kind candidate_takes adjusts sets boots arms_elect searches tells_ticket follow_row backs_own candidature_row follows_unless quits
    posts_reply replies names_master says_master traces tests group_from goes_before better joins sends_away master_takes_kind master_takes resolves finds_rival
    quits_rivals resolve_rings asks asks_slaves round_begins round_rings asks_measured arms_next abandons probe_rings samples_request samples corrects_by
    corrects_peer begins_or_waits moves closes_with closes close_rings abandons_going upsetting begins begins_to_others begins_adjtime begins_settime
    acknowledges leaves_after gives_up repeats repeats_send due_send due_sends quiet_rings rings_or_late search_rings loosens elect_rings reports_conflict
    masterup_in masterack_in election_of acks_repeat confirms adjtime_of settime_of from_master slave_takes_kind slave_takes
closes_late = record {
  in_time = (refl, (refl, (refl, (refl, (refl, (refl, (refl, (refl, (refl, (refl, tt))))))))));
  too_late = (refl, (refl, (refl, (refl, (refl, (refl, (refl, (refl, (refl, (refl, tt))))))))));
  moved = record { role_is = refl; ticket_is = refl; target_is = refl; shown_is = refl };
  unmoved = record { role_is = refl; ticket_is = refl; target_is = refl; shown_is = refl };
}

pub corrects_once : CorrectsOnce
unfolding nothing puts ◌followed_by◌ either_by reading for_each arms posts posts_to_others posts_back posts_time alarm_rings rings rings_alone due_alarms
    says_in peer_says replies_in peer_replies from_peer handles_kind handles takes input_row answers lead_row yields window_rings accepted_by refused_by
    candidate_takes_kind candidate_takes adjusts sets boots arms_elect searches tells_ticket follow_row backs_own candidature_row follows_unless quits
    posts_reply replies names_master says_master traces tests group_from goes_before better joins sends_away master_takes_kind master_takes resolves finds_rival
    quits_rivals resolve_rings asks asks_slaves round_begins round_rings asks_measured arms_next abandons probe_rings samples_request samples corrects_by
    corrects_peer begins_or_waits moves closes_with closes close_rings abandons_going upsetting begins begins_to_others begins_adjtime begins_settime
    acknowledges leaves_after gives_up repeats repeats_send due_send due_sends quiet_rings rings_or_late search_rings loosens elect_rings reports_conflict
    masterup_in masterack_in election_of acks_repeat confirms adjtime_of settime_of from_master slave_takes_kind slave_takes
corrects_once = record {
  acts = (refl, (refl, (refl, (refl, (refl, (refl, (refl, tt)))))));
  halfway = record { role_is = refl; ticket_is = refl; target_is = refl; shown_is = refl };
  ends = record { role_is = refl; ticket_is = refl; target_is = refl; shown_is = refl };
}

-- what anybody is answered: in the quiet time, at a follower, and at a master
pub answers_clients : AnswersClients
unfolding nothing puts ◌followed_by◌ either_by reading for_each arms posts posts_to_others posts_back posts_time alarm_rings rings rings_alone due_alarms
    says_in peer_says replies_in peer_replies from_peer handles_kind handles takes input_row answers lead_row yields window_rings accepted_by refused_by
    candidate_takes_kind candidate_takes adjusts sets boots arms_elect searches tells_ticket follow_row backs_own candidature_row follows_unless quits
    posts_reply replies names_master says_master traces tests group_from goes_before better joins sends_away master_takes_kind master_takes resolves finds_rival
    quits_rivals resolve_rings asks asks_slaves round_begins round_rings asks_measured arms_next abandons probe_rings samples_request samples corrects_by
    corrects_peer begins_or_waits moves closes_with closes close_rings abandons_going upsetting begins begins_to_others begins_adjtime begins_settime
    acknowledges leaves_after gives_up repeats repeats_send due_send due_sends quiet_rings rings_or_late search_rings loosens elect_rings reports_conflict
    masterup_in masterack_in election_of acks_repeat confirms adjtime_of settime_of from_master slave_takes_kind slave_takes begins_timed passes_on leaves
    leaves_all new_date sets_date_where date_in date_of sets_in_charge date_request_in date_request_of date_acked_in date_acked
answers_clients = record {
  clients = (
    refl,
    (
      refl,
      (
        refl,
        (
          refl,
          (
            refl,
            (
              refl,
              (
                refl,
                (
                  refl,
                  (
                    refl,
                    (
                      refl,
                      (refl, (refl, (refl, (refl, (refl, (refl, (refl, (refl, (refl, tt))))))))),
                    ),
                  ),
                ),
              ),
            ),
          ),
        ),
      ),
    ),
  );
}

-- a client sets the date by a follower, and it is set once
pub dates_once : DatesOnce
unfolding nothing puts ◌followed_by◌ either_by reading for_each arms posts posts_to_others posts_back posts_time alarm_rings rings rings_alone due_alarms
    says_in peer_says replies_in peer_replies from_peer handles_kind handles takes input_row answers lead_row yields window_rings accepted_by refused_by
    candidate_takes_kind candidate_takes adjusts sets boots arms_elect searches tells_ticket follow_row backs_own candidature_row follows_unless quits
    posts_reply replies names_master says_master traces tests group_from goes_before better joins sends_away master_takes_kind master_takes resolves finds_rival
    quits_rivals resolve_rings asks asks_slaves round_begins round_rings asks_measured arms_next abandons probe_rings samples_request samples corrects_by
    corrects_peer begins_or_waits moves closes_with closes close_rings abandons_going upsetting begins begins_to_others begins_adjtime begins_settime
    acknowledges leaves_after gives_up repeats repeats_send due_send due_sends quiet_rings rings_or_late search_rings loosens elect_rings reports_conflict
    masterup_in masterack_in election_of acks_repeat confirms adjtime_of settime_of from_master slave_takes_kind slave_takes begins_timed passes_on leaves
    leaves_all new_date sets_date_where date_in date_of sets_in_charge date_request_in date_request_of date_acked_in date_acked
dates_once = record {
  master = (refl, (refl, (refl, (refl, (refl, (refl, (refl, (refl, (refl, (refl, (refl, (refl, (refl, (refl, (refl, (refl, (refl, (refl, tt))))))))))))))))));
  follower = (refl, (refl, (refl, (refl, (refl, (refl, (refl, (refl, (refl, (refl, (refl, tt)))))))))));
}

-- over ports
pub joins_networks : JoinsNetworks
unfolding nothing puts ◌followed_by◌ either_by reading for_each arms posts posts_to_others posts_back posts_time alarm_rings rings rings_alone due_alarms
    says_in peer_says replies_in peer_replies from_peer handles_kind handles takes input_row answers lead_row yields window_rings accepted_by refused_by
    candidate_takes_kind candidate_takes adjusts sets boots arms_elect searches tells_ticket follow_row backs_own candidature_row follows_unless quits
    posts_reply replies names_master says_master traces tests group_from goes_before better joins sends_away master_takes_kind master_takes resolves finds_rival
    quits_rivals resolve_rings asks asks_slaves round_begins round_rings asks_measured arms_next abandons probe_rings samples_request samples corrects_by
    corrects_peer begins_or_waits moves closes_with closes close_rings abandons_going upsetting begins begins_to_others begins_adjtime begins_settime
    acknowledges leaves_after gives_up repeats repeats_send due_send due_sends quiet_rings rings_or_late search_rings loosens elect_rings reports_conflict
    masterup_in masterack_in election_of acks_repeat confirms adjtime_of settime_of from_master slave_takes_kind slave_takes begins_timed passes_on leaves
    leaves_all new_date sets_date_where date_in date_of sets_in_charge date_request_in date_request_of date_acked_in date_acked nothing_at_all on ◌and_then◌
    reading_all for_ports abandons_on stirring sends_loops loops_after probes_on closes_on begins_round_on alarm_on alarms_on turns_on reposts reposts_on
    loosens_master forwards takes_loop_step judges heeds_loop takes_loop takes_message takes_kind takes_on input_all answers_all boots_on boots_all
joins_networks = record {
  two_masters = (refl, (refl, (refl, (refl, (refl, (refl, tt))))));
  loops = (refl, (refl, (refl, (refl, (refl, tt)))));
}

-- two masters, of which one sends the other away, and what the winner is told besides
pub resolves_once : ResolvesOnce
unfolding nothing puts ◌followed_by◌ either_by reading for_each arms posts posts_to_others posts_back posts_time alarm_rings rings rings_alone due_alarms
    says_in peer_says replies_in peer_replies from_peer handles_kind handles takes input_row answers lead_row yields window_rings accepted_by refused_by
    candidate_takes_kind candidate_takes adjusts sets boots arms_elect searches tells_ticket follow_row backs_own candidature_row follows_unless quits
    posts_reply replies names_master says_master traces tests group_from goes_before better joins sends_away master_takes_kind master_takes resolves finds_rival
    quits_rivals resolve_rings asks asks_slaves round_begins round_rings asks_measured arms_next abandons probe_rings samples_request samples corrects_by
    corrects_peer begins_or_waits moves closes_with closes close_rings abandons_going upsetting begins begins_to_others begins_adjtime begins_settime
    acknowledges leaves_after gives_up repeats repeats_send due_send due_sends quiet_rings rings_or_late search_rings loosens elect_rings reports_conflict
    masterup_in masterack_in election_of acks_repeat confirms adjtime_of settime_of from_master slave_takes_kind slave_takes begins_timed passes_on leaves
    leaves_all new_date sets_date_where date_in date_of sets_in_charge date_request_in date_request_of date_acked_in date_acked
resolves_once = record {
  winner = (refl, (refl, (refl, (refl, (refl, (refl, (refl, (refl, (refl, (refl, (refl, (refl, (refl, (refl, (refl, (refl, (refl, tt)))))))))))))))));
  left = (refl, (refl, (refl, (refl, (refl, (refl, (refl, (refl, (refl, (refl, (refl, (refl, tt))))))))))));
  loser = (refl, (refl, (refl, (refl, (refl, (refl, (refl, tt)))))));
}

-- a follower that hears of another master, a candidate that is refused or meets a master, and alarms that come late
pub hears_masters : HearsMasters
unfolding nothing puts ◌followed_by◌ either_by reading for_each arms posts posts_to_others posts_back posts_time alarm_rings rings rings_alone due_alarms
    says_in peer_says replies_in peer_replies from_peer handles_kind handles takes input_row answers lead_row yields window_rings accepted_by refused_by
    candidate_takes_kind candidate_takes adjusts sets boots arms_elect searches tells_ticket follow_row backs_own candidature_row follows_unless quits
    posts_reply replies names_master says_master traces tests group_from goes_before better joins sends_away master_takes_kind master_takes resolves finds_rival
    quits_rivals resolve_rings asks asks_slaves round_begins round_rings asks_measured arms_next abandons probe_rings samples_request samples corrects_by
    corrects_peer begins_or_waits moves closes_with closes close_rings abandons_going upsetting begins begins_to_others begins_adjtime begins_settime
    acknowledges leaves_after gives_up repeats repeats_send due_send due_sends quiet_rings rings_or_late search_rings loosens elect_rings reports_conflict
    masterup_in masterack_in election_of acks_repeat confirms adjtime_of settime_of from_master slave_takes_kind slave_takes begins_timed passes_on leaves
    leaves_all new_date sets_date_where date_in date_of sets_in_charge date_request_in date_request_of date_acked_in date_acked
hears_masters = record {
  conflict = (refl, (refl, (refl, (refl, (refl, (refl, (refl, (refl, (refl, (refl, (refl, (refl, (refl, (refl, (refl, (refl, (refl, tt)))))))))))))))));
  late = (refl, (refl, (refl, (refl, (refl, tt)))));
  meets_master = (refl, (refl, (refl, (refl, (refl, tt)))));
  finds_master = (refl, (refl, (refl, (refl, (refl, tt)))));
  is_sent_away = (refl, (refl, (refl, (refl, (refl, tt)))));
}

-- rounds that end otherwise: with a reply too many, too late, out of reach, without a sample, and at the edge of a clock's range
pub closes_otherwise : ClosesOtherwise
unfolding nothing puts ◌followed_by◌ either_by reading for_each arms posts posts_to_others posts_back posts_time alarm_rings rings rings_alone due_alarms
    says_in peer_says replies_in peer_replies from_peer handles_kind handles takes input_row answers lead_row yields window_rings accepted_by refused_by
    candidate_takes_kind candidate_takes adjusts sets boots arms_elect searches tells_ticket follow_row backs_own candidature_row follows_unless quits
    posts_reply replies names_master says_master traces tests group_from goes_before better joins sends_away master_takes_kind master_takes resolves finds_rival
    quits_rivals resolve_rings asks asks_slaves round_begins round_rings asks_measured arms_next abandons probe_rings samples_request samples corrects_by
    corrects_peer begins_or_waits moves closes_with closes close_rings abandons_going upsetting begins begins_to_others begins_adjtime begins_settime
    acknowledges leaves_after gives_up repeats repeats_send due_send due_sends quiet_rings rings_or_late search_rings loosens elect_rings reports_conflict
    masterup_in masterack_in election_of acks_repeat confirms adjtime_of settime_of from_master slave_takes_kind slave_takes begins_timed passes_on leaves
    leaves_all new_date sets_date_where date_in date_of sets_in_charge date_request_in date_request_of date_acked_in date_acked
closes_otherwise = record {
  repeated = (refl, (refl, (refl, (refl, (refl, (refl, (refl, (refl, (refl, (refl, (refl, tt)))))))))));
  late_probe = (refl, (refl, (refl, (refl, (refl, (refl, (refl, (refl, (refl, (refl, (refl, tt)))))))))));
  far = (refl, (refl, (refl, (refl, (refl, (refl, (refl, (refl, (refl, (refl, (refl, (refl, (refl, (refl, tt))))))))))))));
  silent = (refl, (refl, (refl, (refl, (refl, (refl, (refl, (refl, (refl, (refl, (refl, (refl, (refl, tt)))))))))))));
  edge = (refl, (refl, (refl, (refl, (refl, (refl, (refl, (refl, (refl, (refl, (refl, (refl, (refl, tt)))))))))))));
  taken_once = (refl, (refl, (refl, (refl, (refl, (refl, (refl, (refl, (refl, tt)))))))));
}

-- strict elections: a majority wins, half of the peers doesn't
pub wins_by_majority : WinsByMajority
unfolding nothing puts ◌followed_by◌ either_by reading for_each arms posts posts_to_others posts_back posts_time alarm_rings rings rings_alone due_alarms
    says_in peer_says replies_in peer_replies from_peer handles_kind handles takes input_row answers lead_row yields window_rings accepted_by refused_by
    candidate_takes_kind candidate_takes adjusts sets boots arms_elect searches tells_ticket follow_row backs_own candidature_row follows_unless quits
    posts_reply replies names_master says_master traces tests group_from goes_before better joins sends_away master_takes_kind master_takes resolves finds_rival
    quits_rivals resolve_rings asks asks_slaves round_begins round_rings asks_measured arms_next abandons probe_rings samples_request samples corrects_by
    corrects_peer begins_or_waits moves closes_with closes close_rings abandons_going upsetting begins begins_to_others begins_adjtime begins_settime
    acknowledges leaves_after gives_up repeats repeats_send due_send due_sends quiet_rings rings_or_late search_rings loosens elect_rings reports_conflict
    masterup_in masterack_in election_of acks_repeat confirms adjtime_of settime_of from_master slave_takes_kind slave_takes begins_timed passes_on leaves
    leaves_all new_date sets_date_where date_in date_of sets_in_charge date_request_in date_request_of date_acked_in date_acked
wins_by_majority = record {
  wins = (refl, (refl, (refl, (refl, (refl, (refl, (refl, (refl, (refl, (refl, (refl, (refl, (refl, (refl, (refl, tt)))))))))))))));
  outvoted = (refl, (refl, (refl, (refl, (refl, tt)))));
  alone = (refl, (refl, (refl, (refl, (refl, (refl, (refl, (refl, (refl, (refl, tt))))))))));
}
