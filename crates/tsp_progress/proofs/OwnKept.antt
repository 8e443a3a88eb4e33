-- A master's clock is left alone between two Closes, but for the Correct right after the first.
use Rattle.std.proofs.Common.{sym, ap, subst, arith, true≢false, inl, inr, ◌∙◌, ◌≡◌, ◌≤◌, ℕ, ℤ, Bool, false, List, ◌∷◌, refl}
use Rattle.tsp_rules.specs.Values.{Correct, Follow, Master, PeerId, Role}
use Rattle.tsp_base.specs.Words.{Acts, Did, Here, Line, Seen, Within, all_corrects, dids, first_port, is_shared, of, role, time_of, view}
use Rattle.tsp_base.proofs.PlaceLemmas.{Within_comparable, Within_strict, Within_tail, Within_through}
use Rattle.tsp_promises.specs.{Agreed.RightAfter, Agreed.UnchangedBut, CorrectFits.CorrectFits, CorrectFits.WhyCorrect, CorrectFits.ByDate}
use Rattle.tsp_promises.specs.{CorrectFits.ByMaster, CorrectFits.ByRound, Fits.node_of, Setting.Setting, Setting.setup_of}
use Rattle.tsp_promises.proofs.{shared.HistoryPlaces.line_on}
use Rattle.tsp_promises.proofs.promised.OwnFitsProof.{deed_fits, fits_at, fits_in, locate, place_time, seen_before, seen_in}
use Rattle.tsp_promises.proofs.{promised.KnownProof.line_is}
use Rattle.tsp_run.specs.Clocked.{Clocks}
use Rattle.tsp_base.specs.Words.{HeaderValue}
use Rattle.tsp_progress.specs.{InTable.Undated, LateClose.LateClose, SlewsTable.MovesOwn, TakesRounds.NoneSince}
use Rattle.tsp_progress.proofs.{AllAsked.Tended, AllAsked.on_first, CorrectBetween.Between, CorrectBetween.between, LateCloses.same_lives, LateCloses.since}
use Rattle.tsp_progress.proofs.{SlewsProof.slews_table}

leads_not : {A : Type 0} (p : PeerId) (r : Role) → r ≡ Master → r ≡ Follow p → A
leads_not p r m e = let bad : Follow p ≡ Master = sym e ∙ m in let no : ⊥ = cc in absurd no

module _ {clocks : Clocks} {header : HeaderValue} {setting : Setting} (late long t : ℕ) (stays : ℕ → Bool) (c : ℕ) (s world : List Line)
    (a : Tended clocks header setting late long t stays c s world) (undated : Undated c s world) (C : Line) (cp : List Line)
    (r : LateClose long t c s C cp world) where
  since-cp : Within s cp
  since-cp = since setting world a.fits long t c stays s a.s_in a.calm (on_first a) C cp r

  abbrev Own : MovesOwn r.mean C cp world
  Own = (slews_table late long t stays c s world a).own C cp r

  abbrev Next : List Line
  Next = Own.next ∷ (C ∷ cp)

  next-node : node_of Own.next ≡ c
  next-node = Own.node ∙ r.node

  next-port : Own.next.port ≡ first_port
  next-port = on_first a Own.next (C ∷ cp) Own.place next-node (rw Own.deed refl)

  next-line : line_on first_port Own.next.did ≡ Own.next
  next-line = line_is Own.next first_port next-port

  module _ (h : List Line) (h-in : Within h world) (until : time_of (dids h) ≤ t) (none : NoneSince c C cp h) (next-h : Within Next h) where
    -- another Correct of the master would rest on a Close, or on a date
    again : Between c Next h → ⊥
    again b = by_why owes.why where
      b-in : Within (b.line ∷ b.before) world
      b-in = Within_through (b.line ∷ b.before) h world b.place h-in

      before-in : Within b.before world
      before-in = Within_tail b.line b.before world b-in

      b-port : b.line.port ≡ first_port
      b-port = on_first a b.line b.before b-in b.node (rw b.deed refl)

      after-s : Within s b.before
      after-s = Within_through s Next b.before (inr (inr since-cp)) b.after

      b-until : time_of (dids b.before) ≤ t
      b-until =
          let order = (fits_in setting b.line b.before world a.fits b-in).order in
          let le = place_time setting (b.line ∷ b.before) h (fits_at setting h world a.fits h-in) b.place in
          omega (arith, order, le, until)

      owes : CorrectFits (setup_of setting (node_of b.line) b.line.port) b.line.did (view b.line.port (of (node_of b.line) b.before)) b.amount b.stepped b.shown
      owes = deed_fits setting b.line b.before (Acts (Correct b.amount b.stepped b.shown)) b.deed (fits_in setting b.line b.before world a.fits b-in)

      seen-is : view b.line.port (of (node_of b.line) b.before) ≡ view first_port (of c b.before)
      seen-is = ap (λ q. view q (of (node_of b.line) b.before)) b-port ∙ ap (λ k. view first_port (of k b.before)) b.node

      leads : role (view b.line.port (of (node_of b.line) b.before)) ≡ Master
      leads = ap role seen-is ∙ (a.follow b.before before-in after-s b-until).leads

      next-seen : Within (Here Own.next.did ∷ view first_port (of c (C ∷ cp))) (view first_port (of c b.before))
      next-seen = seen_in c (line_on first_port Own.next.did) (C ∷ cp) b.before next-node
          (subst (λ k. Within (k ∷ (C ∷ cp)) b.before) (sym next-line) b.after)

      -- what the port sees right before it stands after the own Correct
      newest : (d : Did) (past : List Seen) → view b.line.port (of (node_of b.line) b.before) ≡ Here d ∷ past → is_shared d.deed ≡ false →
          ((amount : ℤ) (stepped : Bool) (shown : ℤ) → d.deed ≡ Acts (Correct amount stepped shown) → ⊥) →
          (o : List Line) × (Within (line_on first_port d ∷ o) b.before × (d.step.node ≡ c) × Within Next o)
      newest d past is unshared other =
          let seen : view first_port (of c b.before) ≡ Here d ∷ past = sym seen-is ∙ is in
          let l = locate c first_port b.before d past unshared (subst (λ z. Within (Here d ∷ past) z) (sym seen) (inl refl)) in
          let later : Within (Here Own.next.did ∷ view first_port (of c (C ∷ cp))) past =
          elim (subst (λ z. Within (Here Own.next.did ∷ view first_port (of c (C ∷ cp))) z) seen next-seen) [
            | inl e ↦ absurd (let same : Own.next.did ≡ d = cc in
                other r.mean Own.stepped Own.shown (ap (λ (z : Did). z.deed) (sym same) ∙ Own.deed))
            | inr v ↦ v
          ] in (
            l.older,
            (
              l.place,
              l.node,
              subst (λ k. Within (k ∷ (C ∷ cp)) l.older) next-line
                  (seen_before c first_port Own.next.did d (C ∷ cp) l.older b.before next-node l.node
                  (subst (λ k. Within (k ∷ (C ∷ cp)) b.before) (sym next-line) b.after) l.place
                  (subst (λ z. Within (Here Own.next.did ∷ view first_port (of c (C ∷ cp))) z) (sym l.before) later)),
            ),
          )

      by_why : WhyCorrect (setup_of setting (node_of b.line) b.line.port) b.line.did (view b.line.port (of (node_of b.line) b.before)) b.amount → ⊥
      by_why (ByRound k) =
          let w = newest k.close k.past k.is (rw k.deed refl) (λ amount stepped shown e. let deeds = sym k.deed ∙ e in let bad : ⊥ = cc in bad) in
          none (line_on first_port k.close) w.0 k.count k.lo k.size b.amount (Within_through (line_on first_port k.close ∷ w.0) b.before h w.1.0
          (Within_tail b.line b.before h b.place)) (Within_tail Own.next (C ∷ cp) w.0 w.1.2) w.1.1 k.deed
      by_why (ByMaster k) = leads_not k.from (role (view b.line.port (of (node_of b.line) b.before))) leads k.follows
      by_why (ByDate k) =
          let w = newest k.took k.past k.is (rw k.deed refl) (λ amount stepped shown e. let deeds = sym k.deed ∙ e in let bad : ⊥ = cc in bad) in
          true≢false (sym k.kind ∙ undated (line_on first_port k.took) w.0 (Within_through (line_on first_port k.took ∷ w.0) b.before world w.1.0 before-in)
          (Within_through s Next w.0 (inr (inr since-cp)) w.1.2) w.1.1 k.from k.message k.deed)

    right-after : RightAfter c C cp h
    right-after = record {
      next = Own.next;
      before = C ∷ cp;
      is = rw r.deed refl;
      amount = r.mean;
      stepped = Own.stepped;
      shown = Own.shown;
      place = next-h;
      node = next-node;
      deed = Own.deed;
      corrects = elim (between world long stays s a.calm c Next h (inr (inr since-cp)) next-h h-in) [
        | inr q ↦ q.left.corrects
        | inl b ↦ absurd (again b)
      ];
    }

  pub own_kept : (h : List Line) → Within (C ∷ cp) h → Within h world → time_of (dids h) ≤ t → NoneSince c C cp h → UnchangedBut c C cp h
  own_kept h w h-in until none = record {
    lives = same_lives setting world a.fits long t c stays s a.s_in a.calm (on_first a) c (C ∷ cp) h (inr since-cp) w h-in;
    corrects = elim (Within_comparable Next h world Own.place h-in) [
      | inl v ↦ inr (right-after h h-in until none v)
      | inr (inl e) ↦ inr (right-after h h-in until none (subst (λ z. Within Next z) (sym e) (inl refl)))
      | inr (inr v) ↦ inl (same v)
    ];
  } where
    same : Within h (C ∷ cp) → all_corrects (dids (of c (C ∷ cp))) ≡ all_corrects (dids (of c h))
    same (inl e) = ap (λ z. all_corrects (dids (of c z))) (sym e)
    same (inr v) = absurd (Within_strict C cp h w v)
