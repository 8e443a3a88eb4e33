use Rattle.std.specs.Prelude.{refl}
use Rattle.tsp_run.specs.Run.{run, steps}
use Rattle.tsp_base.specs.Words.{nothing, puts, ◌followed_by◌, either_by, reading, for_each, arms, posts, posts_to_others, posts_back, posts_time, carries_hops}
use Rattle.tsp_base.specs.Words.{carries_time, kind_number, kind_of}
use Rattle.tsp_rules.specs.Answers.{alarm_rings, rings, rings_alone, due_alarms, says_in, peer_says, replies_in, peer_replies, from_peer, handles_kind, handles}
use Rattle.tsp_rules.specs.Answers.{takes, input_row, answers}
use Rattle.tsp_rules.specs.CandidateRows.{lead_row, yields, window_rings, accepted_by, refused_by, candidate_takes_kind, candidate_takes}
use Rattle.tsp_rules.specs.ClockRows.{adjusts, sets}
use Rattle.tsp_rules.specs.CommonRows.{boots, arms_elect, searches, tells_ticket, follow_row, backs_own, candidature_row, follows_unless, quits, posts_reply}
use Rattle.tsp_rules.specs.CommonRows.{replies, names_master, says_master, traces, tests}
use Rattle.tsp_rules.specs.MasterRows.{joins, sends_away, master_takes_kind, master_takes}
use Rattle.tsp_rules.specs.ResolveRows.{resolves, finds_rival, quits_rivals, resolve_rings}
use Rattle.tsp_rules.specs.RoundRows.{asks, asks_slaves, round_begins, round_rings, asks_measured, arms_next, abandons, probe_rings, samples_request, samples}
use Rattle.tsp_rules.specs.RoundRows.{corrects_by, corrects_peer, begins_or_waits, moves, closes_with, closes, close_rings, abandons_going, upsetting}
use Rattle.tsp_rules.specs.SendRows.{begins, begins_timed, begins_to_others, begins_adjtime, begins_settime, acknowledges, leaves_after, gives_up, repeats}
use Rattle.tsp_rules.specs.SendRows.{repeats_send, due_send, due_sends}
use Rattle.tsp_rules.specs.SlaveRows.{quiet_rings, rings_or_late, search_rings, loosens, elect_rings, reports_conflict, masterup_in, masterack_in, election_of}
use Rattle.tsp_rules.specs.SlaveRows.{acks_repeat, confirms, adjtime_of, settime_of, from_master, slave_takes_kind, slave_takes}
use Rattle.tsp_rules.specs.DateRows.{passes_on, leaves, leaves_all, new_date, sets_date_where, date_in, date_of, sets_in_charge, date_request_in}
use Rattle.tsp_rules.specs.DateRows.{date_request_of, date_acked_in, date_acked}
use Rattle.tsp_rules.specs.NodeRows.{nothing_at_all, on, ◌and_then◌, reading_all, for_ports, abandons_on, stirring}
use Rattle.tsp_rules.specs.GateRows.{sends_loops, loops_after, probes_on, closes_on, begins_round_on, alarm_on, alarms_on, turns_on, reposts, reposts_on}
use Rattle.tsp_rules.specs.GateRows.{loosens_master, forwards, takes_loop_step, judges, heeds_loop, takes_loop, takes_message, takes_kind, takes_on, input_all}
use Rattle.tsp_rules.specs.GateRows.{answers_all, boots_on, boots_all}
use Rattle.tsp_group.specs.Groups.{group_from, goes_before, better}
use Rattle.tsp_codec.specs.Taken.{taken_of}
use Rattle.std.proofs.Common.{arith, subst, sym, true≢false, ◌∙◌, ◌≡◌, ◌≤◌, ◌<◌, ◌==◌, ◌+◌, ℕ, zero, suc, true, false, ◌∷◌, [], ap, length, ◌*◌}
use Rattle.tsp_rules.specs.Values.{BootAt, Take, Turn}
use Rattle.tsp_base.specs.Words.{first_port, of, peer_of, view}
use Rattle.tsp_promises.specs.{Setting.Setting}
use Rattle.tsp_run.specs.{Ranges.Accepted, Setting.SetBy}
use Rattle.tsp_run.proofs.{PossibleRun.accepted_possible, RunFits.possible_runs_fit_holds}
use Rattle.tsp_progress.specs.{ByTable.node_in, FollowUse.two_stay, HeadlessUse.a_leads, HeadlessUse.fourth_wave, HeadlessUse.looks_late}
use Rattle.tsp_progress.specs.{HeadlessUse.until_waits, OneUse.two_may}
use Rattle.tsp_progress.specs.{Headless.AllUp, Headless.delay_of, Headless.lead, OneWire.OneWire, RefusedUse.until_elects, Watched.Told, Watched.Watched}
use Rattle.tsp_progress.proofs.{CalmChecks.calm_by, DeliveredChecks.delivered_by, HeadlessChecks.headless_by, LeftOneChecks.up_by, UseLemmas.boot_ranges}
use Rattle.tsp_progress.proofs.{UseLemmas.later_ranges, UseLemmas.two_header_is, WatchChecks.attended_by_holds, WatchChecks.watched_by_holds}
use Rattle.tsp_progress.proofs.headless.headless_use.Goals as goal

-- the rules give this
pub returns : goal.returns
unfolding taken_of kind_of kind_number carries_time carries_hops nothing puts ◌followed_by◌ either_by reading for_each arms posts posts_to_others posts_back
    posts_time
    alarm_rings rings rings_alone due_alarms says_in peer_says replies_in peer_replies from_peer handles_kind handles takes input_row answers lead_row yields
    window_rings accepted_by refused_by candidate_takes_kind candidate_takes adjusts sets boots arms_elect searches tells_ticket follow_row backs_own
    candidature_row follows_unless quits posts_reply replies names_master says_master traces tests group_from goes_before better joins sends_away
    master_takes_kind master_takes resolves finds_rival quits_rivals resolve_rings asks asks_slaves round_begins round_rings asks_measured arms_next abandons
    probe_rings samples_request samples corrects_by corrects_peer begins_or_waits moves closes_with closes close_rings abandons_going upsetting begins
    begins_to_others begins_adjtime begins_settime acknowledges leaves_after gives_up repeats repeats_send due_send due_sends quiet_rings rings_or_late
    search_rings loosens elect_rings reports_conflict masterup_in masterack_in election_of acks_repeat confirms adjtime_of settime_of from_master
    slave_takes_kind slave_takes begins_timed passes_on leaves leaves_all new_date sets_date_where date_in date_of sets_in_charge date_request_in
    date_request_of date_acked_in date_acked nothing_at_all on ◌and_then◌ reading_all for_ports abandons_on stirring sends_loops loops_after probes_on closes_on
    begins_round_on alarm_on alarms_on turns_on reposts reposts_on loosens_master forwards takes_loop_step judges heeds_loop takes_loop takes_message takes_kind
    takes_on input_all answers_all boots_on boots_all steps
returns c = record {
  accepted = whole;
  fair = λ setting set. record {
    attended = attended_by_holds 0 (peer_of 0 ∷ peer_of 1 ∷ []) (run two_may a_leads) refl;
    slack = omega arith;
    told = λ n there. whole-told setting set n there;
    wire = wire setting set;
    calm = calm_by 10000 two_stay (run two_may until_waits) (run two_may a_leads) refl;
    delivered = delivered_by setting 10000 389999999 two_stay (run two_may until_waits) (run two_may a_leads)
        (possible_runs_fit_holds two_may setting a_leads set (accepted_possible two_may a_leads whole)).0 refl;
    mild = omega arith;
  };
  up = whole-up;
  foremost = λ setting set. record { there = refl; may = refl; first = λ n there may other. ahead 0 setting set (omega arith) n there other };
  headless = headless_by 389999999 (run two_may until_waits) (run two_may a_leads) refl;
  leads = refl;
  equal_accepted = equal;
  equal_fair = λ setting set. record {
    attended = attended_by_holds 0 (peer_of 0 ∷ peer_of 1 ∷ []) (run two_may fourth_wave) refl;
    slack = omega arith;
    told = λ n there. equal-told setting set n there;
    wire = wire setting set;
    calm = calm_by 10000 two_stay (run two_may until_elects) (run two_may fourth_wave) refl;
    delivered = delivered_by setting 10000 1346000000 two_stay (run two_may until_elects) (run two_may fourth_wave)
        (possible_runs_fit_holds two_may setting fourth_wave set (accepted_possible two_may fourth_wave equal)).0 refl;
    mild = omega arith;
  };
  equal_up = equal-up;
  equal_headless = headless_by 1346000000 (run two_may until_elects) (run two_may fourth_wave) refl;
  equal_long = omega arith;
  late_accepted = late;
  late_attended = attended_by_holds 1000001 (peer_of 0 ∷ peer_of 1 ∷ []) (run two_may looks_late) refl;
  late_foremost = λ setting set. record { there = refl; may = refl; first = λ n there may other. ahead 1000001 setting set (omega arith) n there other };
  late_headless = headless_by 1346000000 (run two_may until_waits) (run two_may looks_late) refl;
  late_long = omega arith;
} where
  wire : (setting : Setting) → SetBy two_may setting → OneWire two_may setting two_stay
  wire setting set = record { single = λ n there. one_port n there; net = λ n m there here. net-of setting set n there ∙ sym (net-of setting set m here) } where
    one_port : (n : ℕ) → two_stay n ≡ true → length (node_in two_may n).ports ≡ 1
    one_port zero there = refl
    one_port (suc zero) there = refl
    one_port (suc (suc n)) there = absurd (true≢false (sym there))

    net-of : (setting : Setting) → SetBy two_may setting → (n : ℕ) → two_stay n ≡ true → setting.net n first_port ≡ setting.net 0 first_port
    net-of setting set zero there = refl
    net-of setting set (suc zero) there = set.net_is 1 first_port ∙ sym (set.net_is 0 first_port)
    net-of setting set (suc (suc n)) there = absurd (true≢false (sym there))

  ahead : (late : ℕ) (setting : Setting) → SetBy two_may setting → late ≤ 1000001 → (n : ℕ) → two_stay n ≡ true → (n == 0) ≡ false →
      delay_of 0 (run two_may until_waits) + lead setting late 10000 < delay_of n (run two_may until_waits)
  ahead late setting set small zero there other = absurd (true≢false other)
  ahead late setting set small (suc zero) there other =
      let none : setting.drift ≡ 0 = set.drift_is in
      let product : setting.drift * 800000000 ≡ 0 = ap (λ z. z * 800000000) none in
      omega (arith, small, product)
  ahead late setting set small (suc (suc n)) there other = absurd (true≢false (sym there))

  whole : Accepted two_may a_leads
  whole = record {
    header_is = two_header_is;
    ranges = later_ranges (Turn 390000000 0 ∷ Take 385020000 3 ∷ Take 385010000 2 ∷ Turn 385000000 0 ∷ Turn 85000000 1 ∷ Turn 85000000 0 ∷ Turn 80000000 1 ∷
        Turn 80000000 0 ∷ []) (BootAt 0 1 10000000 ∷ BootAt 0 0 0 ∷ []) refl (boot_ranges 10000000 (omega arith));
    valid = (refl, (refl, (refl, (refl, (refl, (refl, (refl, (refl, (refl, (refl, tt))))))))));
  }

  equal : Accepted two_may fourth_wave
  equal = record {
    header_is = two_header_is;
    ranges = later_ranges (Take 1285080000 17 ∷ Take 1285080000 16 ∷ Take 1285070000 14 ∷ Take 1285070000 15 ∷ Turn 1285060000 0 ∷ Turn 1285060000 1 ∷
        Take 985060000 13 ∷ Take 985060000 12 ∷ Take 985050000 10 ∷ Take 985050000 11 ∷ Turn 985040000 0 ∷ Turn 985040000 1 ∷ Take 685040000 9 ∷
        Take 685040000 8 ∷ Take 685030000 6 ∷ Take 685030000 7 ∷ Turn 685020000 0 ∷ Turn 685020000 1 ∷ Take 385020000 5 ∷ Take 385020000 4 ∷ Take 385010000 2 ∷
        Take 385010000 3 ∷ Turn 385000000 0 ∷ Turn 385000000 1 ∷ Turn 85000000 1 ∷ Turn 85000000 0 ∷ Turn 80000000 1 ∷ Turn 80000000 0 ∷ []) (BootAt 0 1 0 ∷
        BootAt 0 0 0 ∷ []) refl (boot_ranges 0 (omega arith));
    valid = (
      refl,
      (
        refl,
        (
          refl,
          (
            refl,
            (
              refl,
              (
                refl,
                (
                  refl,
                  (
                    refl,
                    (
                      refl,
                      (
                        refl,
                        (
                          refl,
                          (
                            refl,
                            (
                              refl,
                              (
                                refl,
                                (
                                  refl,
                                  (
                                    refl,
                                    (
                                      refl,
                                      (
                                        refl,
                                        (
                                          refl,
                                          (
                                            refl,
                                            (
                                              refl,
                                              (refl, (refl, (refl, (refl, (refl, (refl, (refl, (refl, (refl, tt))))))))),
                                            ),
                                          ),
                                        ),
                                      ),
                                    ),
                                  ),
                                ),
                              ),
                            ),
                          ),
                        ),
                      ),
                    ),
                  ),
                ),
              ),
            ),
          ),
        ),
      ),
    );
  }

  late : Accepted two_may looks_late
  late = record {
    header_is = two_header_is;
    ranges = later_ranges (Turn 1329000004 1 ∷ Turn 1289000004 0 ∷ Turn 1018000003 1 ∷ Turn 988000003 0 ∷ Turn 707000002 1 ∷ Turn 687000002 0 ∷
        Turn 396000001 1 ∷ Turn 386000001 0 ∷ Turn 85000000 1 ∷ Turn 85000000 0 ∷ Turn 80000000 1 ∷ Turn 80000000 0 ∷ []) (BootAt 0 1 10000000 ∷ BootAt 0 0 0 ∷
        []) refl (boot_ranges 10000000 (omega arith));
    valid = (refl, (refl, (refl, (refl, (refl, (refl, (refl, (refl, (refl, (refl, (refl, (refl, (refl, (refl, tt))))))))))))));
  }

  whole-told : (setting : Setting) → SetBy two_may setting → (n : ℕ) → two_stay n ≡ true → Told 0 setting 389999999 n (run two_may a_leads)
  whole-told setting set zero there q = subst (λ x. Watched 0 x (view q (of 0 (run two_may a_leads)))) (sym (set.tick_is 0 389999999))
      (watched_by_holds 0 (peer_of 1 ∷ []) 389999999 (of 0 (run two_may a_leads)) refl q)
  whole-told setting set (suc zero) there q = subst (λ x. Watched 0 x (view q (of 1 (run two_may a_leads)))) (sym (set.tick_is 1 389999999))
      (watched_by_holds 0 (peer_of 0 ∷ []) 389999999 (of 1 (run two_may a_leads)) refl q)
  whole-told setting set (suc (suc n)) there q = absurd (true≢false (sym there))

  equal-told : (setting : Setting) → SetBy two_may setting → (n : ℕ) → two_stay n ≡ true → Told 0 setting 1346000000 n (run two_may fourth_wave)
  equal-told setting set zero there q = subst (λ x. Watched 0 x (view q (of 0 (run two_may fourth_wave)))) (sym (set.tick_is 0 1346000000))
      (watched_by_holds 0 (peer_of 1 ∷ []) 1346000000 (of 0 (run two_may fourth_wave)) refl q)
  equal-told setting set (suc zero) there q = subst (λ x. Watched 0 x (view q (of 1 (run two_may fourth_wave)))) (sym (set.tick_is 1 1346000000))
      (watched_by_holds 0 (peer_of 0 ∷ []) 1346000000 (of 1 (run two_may fourth_wave)) refl q)
  equal-told setting set (suc (suc n)) there q = absurd (true≢false (sym there))

  whole-up : AllUp two_stay (run two_may until_waits) (run two_may a_leads)
  whole-up zero there = up_by 0 first_port (run two_may until_waits) (run two_may a_leads) refl
  whole-up (suc zero) there = up_by 1 first_port (run two_may until_waits) (run two_may a_leads) refl
  whole-up (suc (suc n)) there = absurd (true≢false (sym there))

  equal-up : AllUp two_stay (run two_may until_elects) (run two_may fourth_wave)
  equal-up zero there = up_by 0 first_port (run two_may until_elects) (run two_may fourth_wave) refl
  equal-up (suc zero) there = up_by 1 first_port (run two_may until_elects) (run two_may fourth_wave) refl
  equal-up (suc (suc n)) there = absurd (true≢false (sym there))
