-- Who follows a master leaves it only by a TEST, or when its Elect was armed long ago; and a master stops only by a QUIT or a LOOP.
use Rattle.std.proofs.Common.{sym, ap, subst, arith, inl, inr, true≢false, ◌∙◌, ◌≡◌, ◌≤◌, ◌⊎◌, ℕ, ◌+◌, Bool, true, false, List, [], ◌∷◌, Some, refl}
use Rattle.tsp_rules.specs.Values.{Boot, Post, Become, Arm, Ring, Late, Elect, Message, Peer, Role, Starting, Loose}
use Rattle.tsp_rules.specs.Values.{Follow, Candidate, Master, ELECT_MIN}
use Rattle.tsp_base.specs.Words.{Acts, Deed, Did, Elsewhere, Here, Seen, Setup, Within, armed, armed_after, of, plain, role, tick_of, view}
use Rattle.tsp_promises.specs.{DeedFits.DeedFits, HoldFits.YieldFits, PortFits.PortFits, Setting.setup_of}
use Rattle.tsp_promises.proofs.promised.OwnFitsProof.{own_fits, port_fits}
use Rattle.tsp_run.specs.Clocked.{clocks_of, run_by}
use Rattle.tsp_run.proofs.{OwnClocks.possible_own, OwnClocks.runs_by_own_clocks, OwnClocks.set_own, RunFits.clocked_runs_fit}
use Rattle.tsp_progress.specs.AlarmsFit.{AlarmFits, AlarmsFit, Manner, newest_is}
use Rattle.tsp_progress.specs.{CausesFit.elects_by, GivenUp.Owes, RunsWake.manner_of}
use Rattle.tsp_progress.specs.RolesLast.{ClockedRunsKeepRoles, EndFits, RoleFits, RolesLast, RunsKeepRoles, Unheeding}
use Rattle.tsp_progress.proofs.{InTimeProof.value_of, RootLeads.RootEnd, RootLeads.RootFits, RootRun.runs_rooted, RunWakes.clocked_runs_wake}
use Rattle.tsp_progress.proofs.StandsProof.{Rising, rising}

abbrev arms_elect_by : Deed → Bool
arms_elect_by (Acts (Arm Elect at)) = true
arms_elect_by _ = false

-- a deed of the port at its tick or before
deed_tick : (seen : List Seen) → Rising seen → (d : Did) (idle : List Seen) → Within (Here d ∷ idle) seen → d.tick ≤ tick_of (plain seen)
deed_tick [] up d idle w = let bad : ⊥ = cc in absurd bad
deed_tick (s ∷ before) up d idle (inl e) = subst (λ (z : List Seen). d.tick ≤ tick_of (plain z)) e (omega arith)
deed_tick (s ∷ before) up d idle (inr w) = let low = deed_tick before up.1 d idle w in let le = up.0 in omega (arith, low, le)

-- Elect is armed for ELECT_MIN after each time that it was armed, or later
pub elect_after : (m : Manner) (seen : List Seen) → AlarmsFit m seen → Rising seen → (at : ℕ) → (armed seen).elect ≡ Some at → (arm : Did) (idle : List Seen)
    (to : ℕ) → Within (Here arm ∷ idle) seen → arm.deed ≡ Acts (Arm Elect to) → arm.tick + ELECT_MIN ≤ at
elect_after m [] f up at e arm idle to w is = let bad : ⊥ = cc in absurd bad
elect_after m (Elsewhere d ∷ before) f up at e arm idle to w is = elim w [
  | inl same ↦ let bad : ⊥ = cc in absurd bad
  | inr v ↦ elect_after m before f.1 up.1 at e arm idle to v is
]
elect_after m (Here d ∷ before) f up at e arm idle to w is = by_deed d.deed f.0 e before_it (λ k v. elect_after m before f.1.1 up.1 at k arm idle to v is)
    (let low = deed_tick (Here d ∷ before) up arm idle w in low) where
      before_it : (arms_elect_by d.deed ≡ true) ⊎ Within (Here arm ∷ idle) before
      before_it = elim w [
        | inl same ↦ inl (let own : arm ≡ d = cc in subst (λ (j : Did). arms_elect_by j.deed ≡ true) own (ap arms_elect_by is))
        | inr v ↦ inr v
      ]

      by_deed : (deed : Deed) → AlarmFits deed d before → (armed_after deed (armed before)).elect ≡ Some at →
          (arms_elect_by deed ≡ true) ⊎ Within (Here arm ∷ idle) before →
          ((armed before).elect ≡ Some at → Within (Here arm ∷ idle) before → arm.tick + ELECT_MIN ≤ at) → arm.tick ≤ d.tick → arm.tick + ELECT_MIN ≤ at
      by_deed (Acts Boot) fit e v k low = let bad : ⊥ = cc in absurd bad
      by_deed (Acts (Become r)) fit e v k low = let bad : ⊥ = cc in absurd bad
      by_deed (Acts (Arm Elect t)) fit e v k low = let same : t ≡ at = value_of e in omega (arith, fit, same, low)
      by_deed (Acts (Ring Elect)) fit e v k low = let bad : ⊥ = cc in absurd bad
      by_deed (Acts (Late Elect)) fit e v k low = let bad : ⊥ = cc in absurd bad
      by_deed _ fit e v k low = elim v [
        | inl own ↦ absurd (true≢false (sym own))
        | inr v ↦ k e v
      ]

module _ (m : Manner) (setup : Setup) where
  -- when Elect has just rung
  rung : (d : Did) (before : List Seen) → newest_is elects_by before ≡ true → AlarmsFit m before → Rising (Here d ∷ before) → Unheeding d before
  rung d [] e f up arm idle at w is = absurd (true≢false (sym e))
  rung d (Elsewhere r ∷ older) e f up arm idle at w is = absurd (true≢false (sym e))
  rung d (Here r ∷ older) e f up arm idle at w is = by_deed r.deed refl e where
    by_deed : (deed : Deed) → r.deed ≡ deed → elects_by deed ≡ true → arm.tick + ELECT_MIN ≤ d.tick
    by_deed (Acts (Ring Elect)) rings k = elim w [
      | inl same ↦ let own : arm ≡ r = cc in absurd (true≢false (sym (ap arms_elect_by is) ∙
          ap (λ (j : Did). arms_elect_by j.deed) own ∙ ap arms_elect_by rings))
      | inr v ↦
          let ring = subst (λ deed. AlarmFits deed r older) rings f.0 in
          let late = elect_after m older f.1.1 up.1.1 ring.at ring.armed_is arm idle at v is in
          let due = ring.due in
          let le = up.0 in
          omega (arith, late, due, le)
    ]
    by_deed _ rings k = absurd (true≢false (sym k))

  ended : (d : Did) (before : List Seen) (old r : Role) → role before ≡ old → RootEnd old r before → AlarmsFit m before → Rising (Here d ∷ before) →
      (r ≡ Loose → old ≡ Master → YieldFits setup before) → EndFits old r d before
  ended d before (Follow q) r is e f up yields = elim e [
    | inl test ↦ inl test
    | inr rang ↦ inr (rung d before rang f up)
  ]
  ended d before Master (Follow p) is e f up yields = e
  ended d before Master Loose is e f up yields = let y = yields refl refl in
      record { from = Peer y.from; message = y.message; took = y.took; kind_is = y.kind }
  ended d before Master Starting is e f up yields = e
  ended d before Master Candidate is e f up yields = e
  ended d before Master Master is e f up yields = e
  ended d before Starting r is e f up yields = tt
  ended d before Loose r is e f up yields = tt
  ended d before Candidate r is e f up yields = tt

  yielding : (d : Did) (before : List Seen) (r : Role) → DeedFits setup (Acts (Become r)) d before → r ≡ Loose → (old : Role) → role before ≡ old →
      old ≡ Master → YieldFits setup before
  yielding d before Loose fits is old was master = fits (was ∙ master)
  yielding d before _ fits is old was master = let bad : ⊥ = cc in absurd bad

  by_deed_holds : (d : Did) (before : List Seen) (deed : Deed) → RootFits deed d before → DeedFits setup deed d before → AlarmsFit m before →
      Rising (Here d ∷ before) → RoleFits deed d before
  by_deed_holds d before (Acts (Become r)) e fits f up = ended d before (role before) r refl e f up (λ is. yielding d before r fits is (role before) refl)
  by_deed_holds d before (Acts (Post (Peer p) (Message k))) e fits f up = e
  by_deed_holds d before _ e fits f up = tt

  all_last : (seen : List Seen) → PortFits setup seen → Owes RootFits seen → AlarmsFit m seen → Rising seen → Owes RoleFits seen
  all_last [] p r f up = tt
  all_last (Elsewhere d ∷ before) p r f up = all_last before p r f.1 up.1
  all_last (Here d ∷ before) p r f up = (by_deed_holds d before d.deed r.0 p.0 f.1.1 up, all_last before p.1 r.1 f.1.1 up.1)

pub clocked_runs_keep_roles : ClockedRunsKeepRoles
clocked_runs_keep_roles clocks header setting events set possible n q =
    let world = run_by clocks header events in
    let fits = (clocked_runs_fit clocks header setting events set possible).0 in
    all_last (manner_of header n) (setup_of setting n q) (view q (of n world)) (port_fits setting n world fits q)
    (runs_rooted clocks header events n q).owed ((clocked_runs_wake clocks header events).1 n q).acts
    (rising setting q (of n world) (own_fits setting n world fits))

pub runs_keep_roles : RunsKeepRoles
runs_keep_roles header setting events set possible = subst (λ h. RolesLast h) (runs_by_own_clocks header events)
    (clocked_runs_keep_roles (clocks_of header) header setting events (set_own header setting set) (possible_own header events possible))
