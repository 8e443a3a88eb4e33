-- Two daemons whose counters change their rates are a network, in which one is elected, and sets and corrects the other's clocks.
use Rattle.std.proofs.Common.{sym, ap, subst, arith, ◌∙◌, ◌≡◌, ℕ, zero, suc, ◌<◌, ◌^◌, ◌==◌, pos, ◌+ℤ◌, Bool, true, false, if◌then◌else◌, [], ◌∷◌, length, refl}
use Rattle.std.proofs.lemmas.List.Elements.{All-cons, All-nil}
use Rattle.tsp_rules.specs.{Guards.is_clock_value, Values.NodeLine}
use Rattle.tsp_base.specs.Words.{IsName, IsNet}
use Rattle.tsp_promises.specs.{Premises.Honest, Premises.Life, Premises.Words, Setting.KeepsTime}
use Rattle.tsp_run.specs.{Clocked.IsSetUp, Clocked.PossibleBy, Clocked.run_by, Run.posts}
use Rattle.tsp_run.proofs.RunPremises.{clocked_runs_keep_premises}
use Rattle.tsp_args.specs.declared.serve.Candidacy.TheVariants.{Never, Plain}
use Rattle.tsp_network.specs.ClocksUse.{ClocksUse, IsPace, course, paced_tick, paces_of_a, paces_of_b, two_wanderers, wandered, wandering, wandering_daemons}
use Rattle.tsp_network.specs.{Events.IsNetwork, Lives.AreStarted, NetworkUse.acts_by_node, NetworkUse.node_a, NetworkUse.node_b, Networks.network}
use Rattle.tsp_network.proofs.{NetworkRuns.run_agrees, NetworksKeep.run_is_network, PacedClocks.any_paces_keep_time, ServeUse.beside_one, ServeUse.letter_name}
use Rattle.tsp_network.proofs.EventLists.{can_happen_all, differ_apart, plain_ranges, plain_sealed, plain_suit, soon_prompt_all}
use Rattle.tsp_network.proofs.{WanderLemmas.is_wandered, WitnessUse.two_turns}

fast_pace : IsPace 80 1000080
fast_pace = record { fast = omega arith; slow = omega arith }

slow_pace : IsPace 80 999920
slow_pace = record { fast = omega arith; slow = omega arith }

-- each counter keeps the drift
keeps_so : (b : Bool) → KeepsTime 80 (λ t. if b then paced_tick paces_of_a 1000080 t else paced_tick paces_of_b 1000080 t)
keeps_so true = any_paces_keep_time 80 paces_of_a 1000080 (omega arith)
    (fast_pace, (slow_pace, (fast_pace, (slow_pace, (fast_pace, (slow_pace, tt)))))) fast_pace
keeps_so false = any_paces_keep_time 80 paces_of_b 1000080 (omega arith)
    (slow_pace, (fast_pace, (slow_pace, (fast_pace, (slow_pace, (fast_pace, (slow_pace, (fast_pace, (slow_pace, tt))))))))) fast_pace

set_up : IsSetUp two_wanderers
set_up = record {
  small = omega arith;
  named = All-cons (λ (l : NodeLine). IsName l.name) node_a (node_b ∷ []) (letter_name 97 (omega arith))
      (All-cons (λ (l : NodeLine). IsName l.name) node_b [] (letter_name 98 (omega arith)) (All-nil (λ (l : NodeLine). IsName l.name)));
  nets_are = All-nil (IsNet 2);
  few_ports = λ n. omega arith;
}

started : AreStarted wandering_daemons
started zero low = record {
  serves = beside_one 97 Plain 0 1 (omega arith) (omega arith) (omega arith) (omega arith) (λ e. (let bad : ⊥ = omega (arith, e) in bad));
  name = refl;
  may = refl;
  strict = λ e. refl;
  ports = refl;
}
started (suc zero) low = record {
  serves = beside_one 98 Never 1 0 (omega arith) (omega arith) (omega arith) (omega arith) (λ e. (let bad : ⊥ = omega (arith, e) in bad));
  name = refl;
  may = refl;
  strict = λ e. refl;
  ports = refl;
}
started (suc (suc n)) low = let bad : ⊥ = omega (arith, low) in absurd bad

few_so : (n k : ℕ) → n ≡ k → k < 2 ^ 64 → n < 2 ^ 64
few_so n k same few = omega (arith, same, few)

possible : PossibleBy wandering two_wanderers wandered
possible = record {
  header_is = set_up;
  keeps = λ n. keeps_so (n == 0);
  ranges = plain_ranges wandered refl;
  happens = can_happen_all wandering two_wanderers wandered is_wandered.can;
  few = few_so (length (posts (run_by wandering two_wanderers wandered))) 35 is_wandered.count (omega arith);
}

-- b's wall clock is in its range whichever life begins
wall_of_b : (at : ℕ) (b : Bool) → is_clock_value (pos 2931413 +ℤ pos (paced_tick paces_of_b 1000080 at)) ≡ true →
    is_clock_value (pos 4978241 +ℤ pos (paced_tick paces_of_b 1000080 at)) ≡ true →
    is_clock_value ((if b then pos 2931413 else pos 4978241) +ℤ pos (paced_tick paces_of_b 1000080 at)) ≡ true
wall_of_b at true first later = first
wall_of_b at false first later = later

is : IsNetwork wandering_daemons wandered
is = run_is_network wandering_daemons wandered started (λ k. refl)
    (plain_suit wandering_daemons wandered two_turns (omega arith) refl
    ((omega arith, wall_of_b 900295724 _ refl refl), ((omega arith, wall_of_b 1812874 _ refl refl), ((omega arith, refl), tt)))) possible

pub history_is : (network wandering_daemons wandered).history ≡ run_by wandering two_wanderers wandered
history_is = (run_agrees wandering_daemons is.header_is is.keeps started wandered is.happen is.few).agree.history

pub clocks_use : ClocksUse
clocks_use =
    let kept = clocked_runs_keep_premises wandering two_wanderers wandered possible in
    let same = sym history_is in
    record {
      is = is;
      master = ap (λ h. course (acts_by_node 0 h)) history_is ∙ is_wandered.course_a;
      slave = ap (λ h. course (acts_by_node 1 h)) history_is ∙ is_wandered.course_b;
      honest = subst Honest same (kept.honest (plain_sealed wandered refl));
      life = subst Life same (kept.life (soon_prompt_all wandering two_wanderers wandered is_wandered.soon));
      words = subst Words same (kept.words (differ_apart wandered refl));
    }
