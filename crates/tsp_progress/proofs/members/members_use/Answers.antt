use Rattle.std.specs.Prelude.{refl}
use Rattle.tsp_run.specs.Run.{run, steps}
use Rattle.tsp_base.specs.Words.{nothing, puts, ◌followed_by◌, either_by, reading, for_each, arms, posts, posts_to_others, posts_back, posts_time, carries_hops}
use Rattle.tsp_base.specs.Words.{carries_time, kind_number, kind_of}
use Rattle.tsp_rules.specs.Answers.{alarm_rings, rings, rings_alone, due_alarms, says_in, peer_says, replies_in, peer_replies, from_peer, handles_kind, handles}
use Rattle.tsp_rules.specs.Answers.{takes, input_row, answers}
use Rattle.tsp_rules.specs.CandidateRows.{lead_row, yields, window_rings, accepted_by, refused_by, candidate_takes_kind, candidate_takes}
use Rattle.tsp_rules.specs.ClockRows.{adjusts, sets}
use Rattle.tsp_rules.specs.CommonRows.{boots, arms_elect, searches, tells_ticket, follow_row, backs_own, candidature_row, follows_unless, quits, posts_reply}
use Rattle.tsp_rules.specs.CommonRows.{replies, names_master, says_master, traces, tests}
use Rattle.tsp_rules.specs.MasterRows.{joins, sends_away, master_takes_kind, master_takes}
use Rattle.tsp_rules.specs.ResolveRows.{resolves, finds_rival, quits_rivals, resolve_rings}
use Rattle.tsp_rules.specs.RoundRows.{asks, asks_slaves, round_begins, round_rings, asks_measured, arms_next, abandons, probe_rings, samples_request, samples}
use Rattle.tsp_rules.specs.RoundRows.{corrects_by, corrects_peer, begins_or_waits, moves, closes_with, closes, close_rings, abandons_going, upsetting}
use Rattle.tsp_rules.specs.SendRows.{begins, begins_timed, begins_to_others, begins_adjtime, begins_settime, acknowledges, leaves_after, gives_up, repeats}
use Rattle.tsp_rules.specs.SendRows.{repeats_send, due_send, due_sends}
use Rattle.tsp_rules.specs.SlaveRows.{quiet_rings, rings_or_late, search_rings, loosens, elect_rings, reports_conflict, masterup_in, masterack_in, election_of}
use Rattle.tsp_rules.specs.SlaveRows.{acks_repeat, confirms, adjtime_of, settime_of, from_master, slave_takes_kind, slave_takes}
use Rattle.tsp_rules.specs.DateRows.{passes_on, leaves, leaves_all, new_date, sets_date_where, date_in, date_of, sets_in_charge, date_request_in}
use Rattle.tsp_rules.specs.DateRows.{date_request_of, date_acked_in, date_acked}
use Rattle.tsp_rules.specs.NodeRows.{nothing_at_all, on, ◌and_then◌, reading_all, for_ports, abandons_on, stirring}
use Rattle.tsp_rules.specs.GateRows.{sends_loops, loops_after, probes_on, closes_on, begins_round_on, alarm_on, alarms_on, turns_on, reposts, reposts_on}
use Rattle.tsp_rules.specs.GateRows.{loosens_master, forwards, takes_loop_step, judges, heeds_loop, takes_loop, takes_message, takes_kind, takes_on, input_all}
use Rattle.tsp_rules.specs.GateRows.{answers_all, boots_on, boots_all}
use Rattle.tsp_group.specs.Groups.{group_from, goes_before, better}
use Rattle.tsp_codec.specs.Taken.{taken_of}
use Rattle.std.proofs.Common.{arith, inl, inr, subst, sym, true≢false, ◌∙◌, ◌≡◌, ◌+◌, ◌*◌, ◌/◌, ◌<◌, ℕ, zero, suc, true, length, ◌∷◌, []}
use Rattle.tsp_rules.specs.Values.{Become, Boot, GAP, Leave, Master, Take, Turn}
use Rattle.tsp_base.specs.Words.{Acts, Begins, first_port, of, peer_of, view}
use Rattle.tsp_promises.specs.{Setting.Setting}
use Rattle.tsp_promises.proofs.witness.PremiseChecks.{honest_by, life_by}
use Rattle.tsp_run.specs.{Ranges.Accepted, Setting.SetBy}
use Rattle.tsp_run.proofs.{PossibleRun.accepted_possible, RunFits.possible_runs_fit_holds}
use Rattle.tsp_progress.specs.{ByTable.node_in, FollowUse.two_stay, MembersUse.looks_on, Needed.does_at, OneUse.two_may}
use Rattle.tsp_progress.specs.{TableKept.TableFits, TableUse.until_reports, TableUse.until_set, Watched.Watched}
use Rattle.tsp_progress.proofs.{CalmChecks.calm_by, CalmChecks.follow_by, DeliveredChecks.delivered_by, MemberChecks.range_by}
use Rattle.tsp_progress.proofs.{UseLemmas.later_ranges, UseLemmas.ranges, UseLemmas.two_header_is, WatchChecks.attended_by_holds, WatchChecks.watched_by_holds}
use Rattle.tsp_progress.proofs.members.members_use.Goals as goal

-- the rules give this
pub returns : goal.returns
unfolding taken_of kind_of kind_number carries_time carries_hops nothing puts ◌followed_by◌ either_by reading for_each arms posts posts_to_others posts_back
    posts_time
    alarm_rings rings rings_alone due_alarms says_in peer_says replies_in peer_replies from_peer handles_kind handles takes input_row answers lead_row yields
    window_rings accepted_by refused_by candidate_takes_kind candidate_takes adjusts sets boots arms_elect searches tells_ticket follow_row backs_own
    candidature_row follows_unless quits posts_reply replies names_master says_master traces tests group_from goes_before better joins sends_away
    master_takes_kind master_takes resolves finds_rival quits_rivals resolve_rings asks asks_slaves round_begins round_rings asks_measured arms_next abandons
    probe_rings samples_request samples corrects_by corrects_peer begins_or_waits moves closes_with closes close_rings abandons_going upsetting begins
    begins_to_others begins_adjtime begins_settime acknowledges leaves_after gives_up repeats repeats_send due_send due_sends quiet_rings rings_or_late
    search_rings loosens elect_rings reports_conflict masterup_in masterack_in election_of acks_repeat confirms adjtime_of settime_of from_master
    slave_takes_kind slave_takes begins_timed passes_on leaves leaves_all new_date sets_date_where date_in date_of sets_in_charge date_request_in
    date_request_of date_acked_in date_acked nothing_at_all on ◌and_then◌ reading_all for_ports abandons_on stirring sends_loops loops_after probes_on closes_on
    begins_round_on alarm_on alarms_on turns_on reposts reposts_on loosens_master forwards takes_loop_step judges heeds_loop takes_loop takes_message takes_kind
    takes_on input_all answers_all boots_on boots_all steps
returns c = record {
  accepted = whole;
  attended = attended_by_holds 0 (peer_of 0 ∷ peer_of 1 ∷ []) (run two_may looks_on) refl;
  told = λ setting set q.
      subst (λ x. Watched 0 x (view q (of 0 (run two_may looks_on)))) (sym (set.tick_is 0 700000000))
      (watched_by_holds 0 (peer_of 1 ∷ []) 700000000 (of 0 (run two_may looks_on)) refl q);
  wire = λ setting set. record { single = single-of; net = λ n m one two. net-of setting set n one ∙ sym (net-of setting set m two) };
  calm = calm_by 10000 two_stay (run two_may until_set) (run two_may looks_on) refl;
  delivered = λ setting set. delivered_by setting 10000 700000000 two_stay (run two_may until_set) (run two_may looks_on)
      (possible_runs_fit_holds two_may setting looks_on set (accepted_possible two_may looks_on whole)).0 refl;
  brief = λ setting set. subst (λ (d : ℕ). 10000 + (d * 10000 + 999999) / 1000000 < GAP) (sym set.drift_is) (omega arith);
  honest = honest_by (run two_may looks_on) refl;
  life = life_by (run two_may looks_on) refl;
  range = range_by two_may 10000 0 (run two_may until_set) (run two_may looks_on) refl;
  follows = follow_by 700000000 (run two_may until_set) (run two_may looks_on) refl;
  settled = omega arith;
  member = refl;
  unreported = refl;
  joined = refl;
  unsampled = refl;
  unacked = refl;
  dated_valid = (refl, (refl, (refl, (refl, (refl, (refl, (refl, (refl, (refl, (refl, (refl, (refl, (refl, (refl, (refl, (refl, tt))))))))))))))));
  dated = refl;
  sudden = λ last. sudden-no (last 0 first_port).0;
} where
  sudden-no : TableFits (Acts (Leave (peer_of 1))) (does_at 10 (Acts (Leave (peer_of 1)))).did
      (view first_port (of 0 (does_at 10 Begins ∷ does_at 5 (Acts (Become Master)) ∷ does_at 5 Begins ∷ does_at 0 (Acts Boot) ∷ does_at 0 Begins ∷ []))) → ⊥
  sudden-no (inl k) = let is = k.is in let deed = k.deed in let bad : ⊥ = cc in bad
  sudden-no (inr (inl k)) = let is = k.is in let bad : ⊥ = cc in bad
  sudden-no (inr (inr k)) = let is = k.took in let bad : ⊥ = cc in bad

  single-of : (n : ℕ) → two_stay n ≡ true → length (node_in two_may n).ports ≡ 1
  single-of zero there = refl
  single-of (suc zero) there = refl
  single-of (suc (suc n)) there = absurd (true≢false (sym there))

  net-of : (setting : Setting) → SetBy two_may setting → (n : ℕ) → two_stay n ≡ true → setting.net n first_port ≡ setting.net 0 first_port
  net-of setting set zero there = refl
  net-of setting set (suc zero) there = set.net_is 1 first_port ∙ sym (set.net_is 0 first_port)
  net-of setting set (suc (suc n)) there = absurd (true≢false (sym there))

  whole : Accepted two_may looks_on
  whole = record {
    header_is = two_header_is;
    ranges = later_ranges (Turn 700000000 0 ∷ Take 638020000 21 ∷ Take 638010000 20 ∷ Turn 638000000 0 ∷ Take 633020000 19 ∷ Take 633010000 18 ∷
        Turn 633000000 0 ∷ Take 632020000 17 ∷ Take 632010000 16 ∷ Turn 632000000 0 ∷ Take 631020000 15 ∷ Take 631010000 14 ∷ Turn 631000000 0 ∷
        Take 630020000 13 ∷ Take 630020000 12 ∷ Take 630010000 11 ∷ Take 630010000 10 ∷ Turn 630000000 0 ∷ Take 390050000 9 ∷ Take 390040000 8 ∷
        Take 390030000 7 ∷ []) until_reports refl ranges;
    valid = (
      refl,
      (
        refl,
        (
          refl,
          (
            refl,
            (
              refl,
              (
                refl,
                (
                  refl,
                  (
                    refl,
                    (
                      refl,
                      (
                        refl,
                        (
                          refl,
                          (
                            refl,
                            (
                              refl,
                              (
                                refl,
                                (
                                  refl,
                                  (
                                    refl,
                                    (
                                      refl,
                                      (
                                        refl,
                                        (
                                          refl,
                                          (
                                            refl,
                                            (
                                              refl,
                                              (refl, (refl, (refl, (refl, (refl, (refl, (refl, (refl, (refl, (refl, (refl, (refl, tt)))))))))))),
                                            ),
                                          ),
                                        ),
                                      ),
                                    ),
                                  ),
                                ),
                              ),
                            ),
                          ),
                        ),
                      ),
                    ),
                  ),
                ),
              ),
            ),
          ),
        ),
      ),
    );
  }
