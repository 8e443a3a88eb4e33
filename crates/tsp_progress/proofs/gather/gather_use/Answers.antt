use Rattle.std.specs.Prelude.{refl}
use Rattle.tsp_run.specs.Run.{run, steps}
use Rattle.tsp_base.specs.Words.{nothing, puts, ◌followed_by◌, either_by, reading, for_each, arms, posts, posts_to_others, posts_back, posts_time, carries_hops}
use Rattle.tsp_base.specs.Words.{carries_time, kind_number, kind_of}
use Rattle.tsp_rules.specs.Answers.{alarm_rings, rings, rings_alone, due_alarms, says_in, peer_says, replies_in, peer_replies, from_peer, handles_kind, handles}
use Rattle.tsp_rules.specs.Answers.{takes, input_row, answers}
use Rattle.tsp_rules.specs.CandidateRows.{lead_row, yields, window_rings, accepted_by, refused_by, candidate_takes_kind, candidate_takes}
use Rattle.tsp_rules.specs.ClockRows.{adjusts, sets}
use Rattle.tsp_rules.specs.CommonRows.{boots, arms_elect, searches, tells_ticket, follow_row, backs_own, candidature_row, follows_unless, quits, posts_reply}
use Rattle.tsp_rules.specs.CommonRows.{replies, names_master, says_master, traces, tests}
use Rattle.tsp_rules.specs.MasterRows.{joins, sends_away, master_takes_kind, master_takes}
use Rattle.tsp_rules.specs.ResolveRows.{resolves, finds_rival, quits_rivals, resolve_rings}
use Rattle.tsp_rules.specs.RoundRows.{asks, asks_slaves, round_begins, round_rings, asks_measured, arms_next, abandons, probe_rings, samples_request, samples}
use Rattle.tsp_rules.specs.RoundRows.{corrects_by, corrects_peer, begins_or_waits, moves, closes_with, closes, close_rings, abandons_going, upsetting}
use Rattle.tsp_rules.specs.SendRows.{begins, begins_timed, begins_to_others, begins_adjtime, begins_settime, acknowledges, leaves_after, gives_up, repeats}
use Rattle.tsp_rules.specs.SendRows.{repeats_send, due_send, due_sends}
use Rattle.tsp_rules.specs.SlaveRows.{quiet_rings, rings_or_late, search_rings, loosens, elect_rings, reports_conflict, masterup_in, masterack_in, election_of}
use Rattle.tsp_rules.specs.SlaveRows.{acks_repeat, confirms, adjtime_of, settime_of, from_master, slave_takes_kind, slave_takes}
use Rattle.tsp_rules.specs.DateRows.{passes_on, leaves, leaves_all, new_date, sets_date_where, date_in, date_of, sets_in_charge, date_request_in}
use Rattle.tsp_rules.specs.DateRows.{date_request_of, date_acked_in, date_acked}
use Rattle.tsp_rules.specs.NodeRows.{nothing_at_all, on, ◌and_then◌, reading_all, for_ports, abandons_on, stirring}
use Rattle.tsp_rules.specs.GateRows.{sends_loops, loops_after, probes_on, closes_on, begins_round_on, alarm_on, alarms_on, turns_on, reposts, reposts_on}
use Rattle.tsp_rules.specs.GateRows.{loosens_master, forwards, takes_loop_step, judges, heeds_loop, takes_loop, takes_message, takes_kind, takes_on, input_all}
use Rattle.tsp_rules.specs.GateRows.{answers_all, boots_on, boots_all}
use Rattle.tsp_group.specs.Groups.{group_from, goes_before, better}
use Rattle.tsp_codec.specs.Taken.{taken_of}
use Rattle.std.proofs.Common.{arith, ap, subst, sym, true≢false, ◌∙◌, ◌≡◌, ℕ, zero, suc, ◌==◌, ◌&&◌, not, true, false, All, ◌∷◌, [], filter, length}
use Rattle.std.proofs.lemmas.List.Elements.{All-nil, All-cons}
use Rattle.tsp_rules.specs.{Guards.is_starting_role, Values.BootAt, Values.Follow, Values.PeerId, Values.Take, Values.Turn}
use Rattle.tsp_base.specs.Words.{first_port, of, peer_of, view}
use Rattle.tsp_promises.specs.{Setting.Named, Setting.Setting}
use Rattle.tsp_run.specs.{Ranges.Accepted, Ranges.IsInRange, Refusals.Valid, Setting.SetBy}
use Rattle.tsp_run.proofs.{PossibleRun.accepted_possible, RunFits.possible_runs_fit_holds}
use Rattle.tsp_progress.specs.{FollowOn.role_of, FollowUse.two_stay, Gather.others_of, OneUse.two_may}
use Rattle.tsp_progress.specs.GatherUse.{comes_at_last, finds_nobody, gathers_long, strays_on, three_may, until_leads_alone, until_seeks}
use Rattle.tsp_progress.specs.Watched.{Told, Watched}
use Rattle.tsp_progress.proofs.{CalmChecks.calm_by, DeliveredChecks.delivered_by, GatherChecks.lead_by, GatherChecks.three_header_is, UseLemmas.later_ranges}
use Rattle.tsp_progress.proofs.{WatchChecks.attended_by_holds, WatchChecks.watched_by_holds}
use Rattle.tsp_progress.proofs.gather.gather_use.Goals as goal

-- the rules give this
pub returns : goal.returns
unfolding taken_of kind_of kind_number carries_time carries_hops nothing puts ◌followed_by◌ either_by reading for_each arms posts posts_to_others posts_back
    posts_time
    alarm_rings rings rings_alone due_alarms says_in peer_says replies_in peer_replies from_peer handles_kind handles takes input_row answers lead_row yields
    window_rings accepted_by refused_by candidate_takes_kind candidate_takes adjusts sets boots arms_elect searches tells_ticket follow_row backs_own
    candidature_row follows_unless quits posts_reply replies names_master says_master traces tests group_from goes_before better joins sends_away
    master_takes_kind master_takes resolves finds_rival quits_rivals resolve_rings asks asks_slaves round_begins round_rings asks_measured arms_next abandons
    probe_rings samples_request samples corrects_by corrects_peer begins_or_waits moves closes_with closes close_rings abandons_going upsetting begins
    begins_to_others begins_adjtime begins_settime acknowledges leaves_after gives_up repeats repeats_send due_send due_sends quiet_rings rings_or_late
    search_rings loosens elect_rings reports_conflict masterup_in masterack_in election_of acks_repeat confirms adjtime_of settime_of from_master
    slave_takes_kind slave_takes begins_timed passes_on leaves leaves_all new_date sets_date_where date_in date_of sets_in_charge date_request_in
    date_request_of date_acked_in date_acked nothing_at_all on ◌and_then◌ reading_all for_ports abandons_on stirring sends_loops loops_after probes_on closes_on
    begins_round_on alarm_on alarms_on turns_on reposts reposts_on loosens_master forwards takes_loop_step judges heeds_loop takes_loop takes_message takes_kind
    takes_on input_all answers_all boots_on boots_all steps
returns c = record {
  accepted = whole;
  attended = attended_by_holds 0 (peer_of 0 ∷ peer_of 1 ∷ peer_of 2 ∷ []) (run three_may gathers_long) refl;
  told = λ setting set n there. told-of setting set n there;
  one = λ setting set. record { there = refl; single = refl; net = λ n there. net-of setting set n there };
  calm = calm_by 10000 two_stay (run three_may until_leads_alone) (run three_may gathers_long) refl;
  delivered = λ setting set. delivered_by setting 10000 1890000000 two_stay (run three_may until_leads_alone) (run three_may gathers_long)
      (possible_runs_fit_holds three_may setting gathers_long set (accepted_possible three_may gathers_long whole)).0 refl;
  mild = omega arith;
  up = λ n there. up-of n there;
  leads = lead_by 1890000000 (run three_may until_leads_alone) (run three_may gathers_long) refl;
  strays = refl;
  settled = λ setting set. (let one = other-of setting set in rw one (omega arith));
  follows = record { leads = refl; follow = λ n there other. follow-of n there other };
  lost_valid = (refl, (refl, (refl, (refl, (refl, (refl, (refl, (refl, (refl, (refl, (refl, (refl, (refl, (refl, (refl, (refl, (refl, tt)))))))))))))))));
  lost_attended = attended_by_holds 0 (peer_of 0 ∷ peer_of 1 ∷ []) (run two_may finds_nobody) refl;
  lost_calm = calm_by 10000 two_stay (run two_may until_seeks) (run two_may finds_nobody) refl;
  lost_leads = lead_by 695000000 (run two_may until_seeks) (run two_may finds_nobody) refl;
  lost = refl;
} where
  first_valid : Valid three_may until_leads_alone
  first_valid = (
    refl,
    (
      refl,
      (
        refl,
        (
          refl,
          (
            refl,
            (
              refl,
              (
                refl,
                (
                  refl,
                  (
                    refl,
                    (
                      refl,
                      (refl, (refl, (refl, (refl, (refl, (refl, (refl, (refl, (refl, (refl, (refl, (refl, tt)))))))))))),
                    ),
                  ),
                ),
              ),
            ),
          ),
        ),
      ),
    ),
  )

  second_valid : Valid three_may strays_on
  second_valid = (
    refl,
    (
      refl,
      (
        refl,
        (
          refl,
          (
            refl,
            (
              refl,
              (
                refl,
                (
                  refl,
                  (
                    refl,
                    (
                      refl,
                      (refl, (refl, (refl, (refl, (refl, (refl, (refl, (refl, (refl, (refl, (refl, (refl, first_valid)))))))))))),
                    ),
                  ),
                ),
              ),
            ),
          ),
        ),
      ),
    ),
  )

  third_valid : Valid three_may comes_at_last
  third_valid = (
    refl,
    (
      refl,
      (
        refl,
        (
          refl,
          (
            refl,
            (
              refl,
              (
                refl,
                (
                  refl,
                  (
                    refl,
                    (
                      refl,
                      (refl, (refl, (refl, (refl, (refl, (refl, (refl, (refl, (refl, (refl, (refl, second_valid))))))))))),
                    ),
                  ),
                ),
              ),
            ),
          ),
        ),
      ),
    ),
  )

  first_ranges : All IsInRange until_leads_alone
  first_ranges = later_ranges (Turn 790000000 0 ∷ Turn 788000000 0 ∷ Turn 787000000 0 ∷ Turn 786000000 0 ∷ Take 785020000 18 ∷ Take 785010000 16 ∷
      Turn 785000000 0 ∷ Turn 485000000 0 ∷ Turn 480000000 0 ∷ []) (BootAt 400000000 0 0 ∷ Take 390020000 12 ∷ Take 390010000 11 ∷ Turn 390000000 1 ∷
      Turn 390000000 2 ∷ Turn 388000000 2 ∷ Turn 387000000 2 ∷ Turn 386000000 2 ∷ Turn 385000000 2 ∷ BootAt 310000000 1 299000000 ∷ Turn 85000000 2 ∷
      Turn 80000000 2 ∷ BootAt 0 2 0 ∷ []) refl (All-cons IsInRange (BootAt 400000000 0 0) (Take 390020000 12 ∷ Take 390010000 11 ∷ Turn 390000000 1 ∷
      Turn 390000000 2 ∷ Turn 388000000 2 ∷ Turn 387000000 2 ∷ Turn 386000000 2 ∷ Turn 385000000 2 ∷ BootAt 310000000 1 299000000 ∷ Turn 85000000 2 ∷
      Turn 80000000 2 ∷ BootAt 0 2 0 ∷ []) (omega arith) (later_ranges (Take 390020000 12 ∷ Take 390010000 11 ∷ Turn 390000000 1 ∷ Turn 390000000 2 ∷
      Turn 388000000 2 ∷ Turn 387000000 2 ∷ Turn 386000000 2 ∷ Turn 385000000 2 ∷ []) (BootAt 310000000 1 299000000 ∷ Turn 85000000 2 ∷ Turn 80000000 2 ∷
      BootAt 0 2 0 ∷ []) refl (All-cons IsInRange (BootAt 310000000 1 299000000) (Turn 85000000 2 ∷ Turn 80000000 2 ∷ BootAt 0 2 0 ∷
      []) (omega arith) (later_ranges (Turn 85000000 2 ∷ Turn 80000000 2 ∷ []) (BootAt 0 2 0 ∷
      []) refl (All-cons IsInRange (BootAt 0 2 0) ([]) (omega arith) (All-nil IsInRange))))))

  whole : Accepted three_may gathers_long
  whole = record {
    header_is = three_header_is;
    ranges = later_ranges (Turn 1890000000 0 ∷ Take 1758020000 68 ∷ Take 1758010000 67 ∷ Turn 1758000000 0 ∷ Take 1753020000 66 ∷ Take 1753010000 65 ∷
        Turn 1753000000 0 ∷ Take 1752020000 64 ∷ Take 1752010000 63 ∷ Turn 1752000000 0 ∷ Take 1751020000 62 ∷ Take 1751010000 61 ∷
        Turn 1751000000 0 ∷ Take 1750020000 60 ∷ Take 1750020000 59 ∷ Take 1750010000 58 ∷ Take 1750010000 56 ∷ Turn 1750000000 0 ∷
        Take 1518020000 55 ∷ Take 1518010000 54 ∷ Turn 1518000000 0 ∷ []) comes_at_last refl
        (later_ranges (Take 1513020000 53 ∷ Take 1513010000 52 ∷ Turn 1513000000 0 ∷ Take 1512020000 51 ∷ Take 1512010000 50 ∷ Turn 1512000000 0 ∷
        Take 1511020000 49 ∷ Take 1511010000 48 ∷ Turn 1511000000 0 ∷ Take 1510020000 47 ∷ Take 1510020000 46 ∷ Take 1510010000 45 ∷
        Take 1510010000 43 ∷ Turn 1510000000 0 ∷ Take 1384060000 42 ∷ Take 1384050000 41 ∷ Take 1384040000 40 ∷ Take 1384040000 39 ∷
        Take 1384030000 38 ∷ Take 1384020000 36 ∷ Turn 1384010000 1 ∷ []) strays_on refl
        (later_ranges (Turn 1278000000 0 ∷ Turn 1273010000 1 ∷ Turn 1273000000 0 ∷ Turn 1272010000 1 ∷ Turn 1272000000 0 ∷ Turn 1271010000 1 ∷
        Turn 1271000000 0 ∷
        Take 1270010000 31 ∷ Turn 1270000000 0 ∷ Turn 1038000000 0 ∷ Turn 1033010000 1 ∷ Turn 1033000000 0 ∷ Turn 1032010000 1 ∷ Turn 1032000000 0 ∷
        Turn 1031010000 1 ∷ Turn 1031000000 0 ∷ Take 1030010000 26 ∷ Turn 1030000000 0 ∷ Turn 793010000 1 ∷ Turn 792010000 1 ∷ Turn 791010000 1 ∷
        Take 790010000 21 ∷ []) until_leads_alone refl first_ranges));
    valid = (
      refl,
      (
        refl,
        (
          refl,
          (
            refl,
            (
              refl,
              (
                refl,
                (
                  refl,
                  (
                    refl,
                    (
                      refl,
                      (
                        refl,
                        (refl, (refl, (refl, (refl, (refl, (refl, (refl, (refl, (refl, (refl, (refl, third_valid))))))))))),
                      ),
                    ),
                  ),
                ),
              ),
            ),
          ),
        ),
      ),
    );
  }

  told-of : (setting : Setting) → SetBy three_may setting → (n : ℕ) → two_stay n ≡ true → Told 0 setting 1890000000 n (run three_may gathers_long)
  told-of setting set zero there q = subst (λ x. Watched 0 x (view q (of 0 (run three_may gathers_long)))) (sym (set.tick_is 0 1890000000))
      (watched_by_holds 0 (peer_of 1 ∷ peer_of 2 ∷ []) 1890000000 (of 0 (run three_may gathers_long)) refl q)
  told-of setting set (suc zero) there q = subst (λ x. Watched 0 x (view q (of 1 (run three_may gathers_long)))) (sym (set.tick_is 1 1890000000))
      (watched_by_holds 0 (peer_of 0 ∷ peer_of 2 ∷ []) 1890000000 (of 1 (run three_may gathers_long)) refl q)
  told-of setting set (suc (suc n)) there q = absurd (true≢false (sym there))

  net-of : (setting : Setting) → SetBy three_may setting → (n : ℕ) → two_stay n ≡ true → setting.net n first_port ≡ setting.net 0 first_port
  net-of setting set zero there = refl
  net-of setting set (suc zero) there = set.net_is 1 first_port ∙ sym (set.net_is 0 first_port)
  net-of setting set (suc (suc n)) there = absurd (true≢false (sym there))

  up-of : (n : ℕ) → two_stay n ≡ true → is_starting_role (role_of n (run three_may until_leads_alone)) ≡ false
  up-of zero there = refl
  up-of (suc zero) there = refl
  up-of (suc (suc n)) there = absurd (true≢false (sym there))

  follow-of : (n : ℕ) → two_stay n ≡ true → (n == 0) ≡ false → role_of n (run three_may gathers_long) ≡ Follow (peer_of 0)
  follow-of zero there other = absurd (true≢false other)
  follow-of (suc zero) there other = refl
  follow-of (suc (suc n)) there other = absurd (true≢false (sym there))

  other-of : (setting : Setting) → SetBy three_may setting → length (others_of setting two_stay 0) ≡ 1
  other-of setting set = ap (λ k. length (filter (λ (p : PeerId). two_stay p.0 && not (p.0 == 0)) (setting.members k))) (set.net_is 0 first_port) ∙
      ap (λ ps. length (filter (λ (p : PeerId). two_stay p.0 && not (p.0 == 0)) ps)) (set.members_are (Named 0))
