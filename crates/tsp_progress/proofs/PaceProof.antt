-- Each node of a history that is attended goes at its pace.
use Rattle.std.proofs.Common.{sym, ap, subst, true≢false, ◌∙◌, ◌≡◌, ◌≤◌, ℕ, ◌+◌, ◌==◌, ◌||◌, eqb-true, Bool, true, false, if◌then◌else◌, List, [], ◌∷◌, Some}
use Rattle.std.proofs.Common.{refl}
use Rattle.std.proofs.lemmas.Bool.{or_parts}
use Rattle.tsp_rules.specs.Values.{Act, Alarm, Port, SLACK}
use Rattle.tsp_base.specs.Words.{Acts, Begins, Deed, Line, Seen, armed, deadline, dids, is_shared, of, plain, seen_as, tick_of, view}
use Rattle.tsp_base.proofs.Views.{plain_view}
use Rattle.tsp_promises.specs.{Fits.Fits, Fits.node_of, Setting.Setting}
use Rattle.tsp_promises.proofs.{shared.EverywhereLemmas.Everywhere_at, shared.EverywhereLemmas.Everywhere_from, shared.EverywhereLemmas.Everywhere_within}
use Rattle.tsp_promises.proofs.{promised.OwnFitsProof.own_fits}
use Rattle.tsp_promises.proofs.{promised.OwnFitsProof.own_tick}
use Rattle.tsp_progress.specs.{AlarmsFit.AlarmsFit, AlarmsFit.Manner, AloneStands.AloneStands, AloneStands.AloneStandsAt, Wakes.Woken, Wakes.WokenAt}
use Rattle.tsp_progress.specs.{Watched.Attended, Watched.AttendedAt}
use Rattle.tsp_progress.proofs.AloneProof.{Paced, PacedAt, idle_waits}
use Rattle.tsp_progress.proofs.NeverLateProof.{fit_before, newest, on_time, same_tick}
use Rattle.tsp_progress.proofs.StandsProof.{rising, stands_on}

pub newest-is : (lines : List Line) → newest lines ≡ tick_of (dids lines)
newest-is [] = refl
newest-is (l ∷ before) = refl

-- what isn't shared is an act
unshared : (deed : Deed) → is_shared deed ≡ false → (act : Act) × (deed ≡ Acts act)
unshared Begins e = absurd (true≢false e)
unshared (Acts a) e = (a, refl)

module _ (setting : Setting) (late : ℕ) (l : Line) (before : List Line) (f : Fits setting (l ∷ before)) (q : Port) where
  seen : List Seen
  seen = view q (of (node_of l) before)

  tick_is_holds : tick_of (plain (view q (of (node_of l) before))) ≡ newest (of (node_of l) before)
  tick_is_holds = ap tick_of (plain_view q (of (node_of l) before)) ∙ sym (newest-is (of (node_of l) before))

  order : tick_of (plain (view q (of (node_of l) before))) ≤ l.did.tick
  order = subst (λ ds. tick_of ds ≤ l.did.tick) (sym (plain_view q (of (node_of l) before))) (own_tick setting l before f)

  level : (act : Act) → l.did.deed ≡ Acts act → l.did.tick ≡ tick_of (plain (view q (of (node_of l) before)))
  level act is = same_tick setting l before act is f.0 f.1 ∙ sym tick_is_holds

  -- a line as the port sees it
  one : (own : Bool) → ((l.port.0 == q.0) || is_shared l.did.deed) ≡ own → ((a : Alarm) (at : ℕ) →
      deadline (armed (seen_as own l.did ∷ view q (of (node_of l) before))) a ≡ Some at → l.did.tick ≤ at + late) →
      PacedAt late (seen_as own l.did) (view q (of (node_of l) before))
  one true e soon = record { order = order; level = level; aside = λ d is. let bad : ⊥ = cc in absurd bad; soon = soon }
  one false e soon = record {
    order = order;
    level = level;
    aside = λ d is. let a = unshared l.did.deed (or_parts (l.port.0 == q.0) (is_shared l.did.deed) e).1
        in level a.0 a.1;
    soon = soon;
  }

pub paced : (setting : Setting) (late : ℕ) (world : List Line) → Fits setting world → Attended late world → (m : Manner) (n : ℕ) (q : Port) →
    AlarmsFit m (view q (of n world)) → Paced late (view q (of n world))
paced setting late [] f a m n q fit = tt
paced setting late (l ∷ before) f a m n q fit = by_node (node_of l == n) refl fit (on_time setting late (l ∷ before) f a m n q fit)
    (paced setting late before f.1 a.1 m n q) where
      by_node : (b : Bool) → (node_of l == n) ≡ b → AlarmsFit m (view q (if b then l ∷ of n before else of n before)) →
          ((alarm : Alarm) (at : ℕ) → deadline (armed (view q (if b then l ∷ of n before else of n before))) alarm ≡ Some at →
          newest (if b then l ∷ of n before else of n before) ≤ at + late) →
          (AlarmsFit m (view q (of n before)) → Paced late (view q (of n before))) → Paced late (view q (if b then l ∷ of n before else of n before))
      by_node false e fit soon older = older fit
      by_node true e fit soon older =
          let own = (l.port.0 == q.0) || is_shared l.did.deed in
          let node : node_of l ≡ n = eqb-true (node_of l) n e in
          let here : PacedAt late (seen_as own l.did) (view q (of (node_of l) before)) = one setting late l before f q own refl
          (λ alarm at is. soon alarm at (subst (λ k. deadline (armed (seen_as own l.did ∷ view q (of k before))) alarm ≡ Some at) node is)) in
          (subst (λ k. PacedAt late (seen_as own l.did) (view q (of k before))) node here, older (fit_before m own l.did (view q (of n before)) fit))

pub alone_stands : (m : ℕ → Manner) (setting : Setting) (late : ℕ) (world : List Line) → Fits setting world → Woken m world → Attended late world →
    late ≤ SLACK → AloneStands m late world
alone_stands m setting late world f w a slack = Everywhere_from (AloneStandsAt m late) world (λ l before within begins may q idle.
    let n = node_of l in
    let whole = Everywhere_within _ (l ∷ before) world f within in
    let attended = Everywhere_within _ (l ∷ before) world a within in
    let wakes = Everywhere_at (WokenAt m) l before world w within begins q in
    let seen = view q (of n before) in
    idle_waits late slack (m n) may seen l.did.tick wakes
    (stands_on (m n) seen wakes.acts (rising setting q (of n before) (own_fits setting n before whole.1)))
    (paced setting late before whole.1 attended.1 (m n) n q wakes.acts)
    (Everywhere_at (AttendedAt late) l before world a within begins q) idle)
