-- A node to which nobody sends what stirs hears nothing, and so leads soon.
use Rattle.std.proofs.Common.{arith, sym, ap, subst, true≢false, ◌∙◌, ◌≡◌, ◌≤◌, ℕ, ◌+◌, ◌==◌, ◌||◌, eqb-true, Bool, true, false, if◌then◌else◌, List, []}
use Rattle.std.proofs.Common.{◌∷◌, Option}
use Rattle.std.proofs.Common.{refl}
use Rattle.std.proofs.lemmas.Bool.{or_right}
use Rattle.tsp_rules.specs.Values.{Boot, Took, Post, Datagram, Message, Stamp, Taken, Good, Place, Peer, Port, SLACK}
use Rattle.tsp_base.specs.Words.{Acts, Begins, Booted, Came, Cause, Deed, Did, Handed, Line, Received, Seen, Turned, Here, Elsewhere, dids, held, role, stood}
use Rattle.tsp_base.specs.Words.{is_shared, Within, of, peer_of, seen_as, taken, taken_after, up, up_after, view}
use Rattle.tsp_rules.specs.Guards.{is_master}
use Rattle.tsp_promises.specs.{Fits.Fits, Fits.TookFits, Fits.node_of, Setting.Setting}
use Rattle.tsp_promises.proofs.{shared.EverywhereLemmas.Everywhere_at, shared.EverywhereLemmas.Everywhere_from, shared.EverywhereLemmas.Everywhere_within}
use Rattle.tsp_progress.specs.{AlarmsFit.Manner, CausesFit.stirred, CausesFit.stirs_in, FreshLeads.FreshLeadsAt, FreshLeads.first_lead, FreshLeads.untouched}
use Rattle.tsp_progress.proofs.ProgressProof.{progress_to}
use Rattle.tsp_progress.specs.{LoneLeads.Led, Wakes.AllWake, Watched.Told}
use Rattle.tsp_progress.specs.{FreshLeads.untouched_after, LoneLeads.Lone, LoneLeads.LoneLeads, LoneLeads.LoneLeadsAt}
use Rattle.tsp_progress.specs.{Wakes.Woken, Watched.Attended}
use Rattle.tsp_progress.proofs.FreshProof.{fresh_leads}

-- the port took nothing that stirs
abbrev Calm : List Seen → Type 0
Calm [] = Unit {0}
Calm (Here d ∷ before) = ((from : Place) (t : Taken) → d.deed ≡ Acts (Took from t) → stirs_in t ≡ false) × Calm before
Calm (Elsewhere d ∷ before) = Calm before

calm_taken : (seen : List Seen) → Calm seen → stirred (taken seen) ≡ false
calm_taken [] c = refl
calm_taken (Elsewhere d ∷ before) c = calm_taken before c
calm_taken (Here d ∷ before) c = by_deed d.deed refl (calm_taken before c.1) where
  by_deed : (deed : Deed) → d.deed ≡ deed → stirred (taken before) ≡ false → stirred (taken_after deed (taken before)) ≡ false
  by_deed Begins is e = refl
  by_deed (Acts (Took from t)) is e = c.0 from t is
  by_deed _ is e = e

calm_older : (own : Bool) (d : Did) (before : List Seen) → Calm (seen_as own d ∷ before) → Calm before
calm_older true d before c = c.1
calm_older false d before c = c

abbrev is_boot : Deed → Bool
is_boot (Acts Boot) = true
is_boot _ = false

boot_is : (deed : Deed) → is_boot deed ≡ true → deed ≡ Acts Boot
boot_is (Acts Boot) e = refl
boot_is _ e = absurd (true≢false (sym e))

up_kept : (deed : Deed) (b : Bool) → is_boot deed ≡ false → up_after deed b ≡ true → b ≡ true
up_kept (Acts Boot) b n e = absurd (true≢false n)
up_kept _ b n e = e

untouched_kept : (deed : Deed) (o : Option Received) (u : Bool) → is_boot deed ≡ false → ((from : Place) (t : Taken) → deed ≡ Acts (Took from t) → stirs_in t ≡
    false) → u ≡ true → untouched_after deed o u ≡ true
untouched_kept (Acts Boot) o u n k e = absurd (true≢false n)
untouched_kept (Acts (Took from t)) o u n k e = let calm = k from t refl in rw calm e
untouched_kept _ o u n k e = e

-- so it is untouched once its node has booted
calm_untouched : (q : Port) (lines : List Line) → Calm (view q lines) → up (dids lines) ≡ true → untouched (view q lines) ≡ true
calm_untouched q [] c e = absurd (true≢false (sym e))
calm_untouched q (l ∷ before) c e = by_boot (is_boot l.did.deed) refl (λ u. calm_untouched q before older u) where
  older : Calm (view q before)
  older = calm_older ((l.port.0 == q.0) || is_shared l.did.deed) l.did (view q before) c

  kept : (own : Bool) → Calm (seen_as own l.did ∷ view q before) → is_boot l.did.deed ≡ false → untouched (view q before) ≡ true →
      untouched (seen_as own l.did ∷ view q before) ≡ true
  kept false k n u = u
  kept true k n u = untouched_kept l.did.deed (taken (view q before)) (untouched (view q before)) n k.0 u

  by_boot : (b : Bool) → is_boot l.did.deed ≡ b → (up (dids before) ≡ true → untouched (view q before) ≡ true) →
      untouched (seen_as ((l.port.0 == q.0) || is_shared l.did.deed) l.did ∷ view q before) ≡ true
  by_boot false n u = kept ((l.port.0 == q.0) || is_shared l.did.deed) c n (u (up_kept l.did.deed (up (dids before)) n e))
  by_boot true b u =
      let is = boot_is l.did.deed b in
      let quiet = calm_taken (view q before) older in
      subst (λ own. untouched (seen_as own l.did ∷ view q before) ≡ true) (sym (or_right (l.port.0 == q.0) (is_shared l.did.deed) (ap is_shared is)))
      (subst (λ deed. untouched_after deed (taken (view q before)) (untouched (view q before)) ≡ true) (sym is) (rw quiet refl))

-- what node c takes doesn't stir
took_calm : (setting : Setting) (c : ℕ) (l : Line) (before : List Line) (from : Place) (t : Taken) (cause : Cause) → l.did.step.cause ≡ cause → node_of l ≡ c →
    Lone c (l ∷ before) → TookFits cause setting l before from t → stirs_in t ≡ false
took_calm setting c l before from t Handed is node lone f = absurd (lone.unhanded.0 node is)
took_calm setting c l before from t (Booted word wall) is node lone f = absurd f
took_calm setting c l before from t Turned is node lone f = absurd f
took_calm setting c l before from t (Came k) is node lone f = by_datagram f.datagram f.deed f.taken_is where
  by_datagram : (g : Datagram) → f.post.did.deed ≡ Acts (Post (Peer (peer_of (node_of l))) g) → t ≡ Good g → stirs_in t ≡ false
  by_datagram (Message m) deed taken-is =
      let to-c : f.post.did.deed ≡ Acts (Post (Peer (peer_of c)) (Message m)) = deed ∙ ap (λ n. Acts (Post (Peer (peer_of n)) (Message m))) node in
      ap stirs_in taken-is ∙ Everywhere_at _ f.post f.older before lone.unsent.1 f.place m to-c
  by_datagram (Stamp s) deed taken-is = ap stirs_in taken-is

lone_older : (c : ℕ) (l : Line) (before : List Line) → Lone c (l ∷ before) → Lone c before
lone_older c l before lone = record { unsent = lone.unsent.1; unhanded = lone.unhanded.1 }

calm : (setting : Setting) (c : ℕ) (q : Port) (world : List Line) → Fits setting world → Lone c world → Calm (view q (of c world))
calm setting c q [] f lone = tt
calm setting c q (l ∷ before) f lone = by_node (node_of l == c) refl (calm setting c q before f.1 (lone_older c l before lone)) where
  by_own : (own : Bool) → node_of l ≡ c → Calm (view q (of c before)) → Calm (seen_as own l.did ∷ view q (of c before))
  by_own true node older = (λ from t deed. took_calm setting c l before from t l.did.step.cause refl node lone (f.0.took from t deed), older)
  by_own false node older = older

  by_node : (b : Bool) → (node_of l == c) ≡ b → Calm (view q (of c before)) → Calm (view q (if b then l ∷ of c before else of c before))
  by_node true e older = by_own ((l.port.0 == q.0) || is_shared l.did.deed) (eqb-true (node_of l) c e) older
  by_node false e older = older

lone_at : (c : ℕ) (l : Line) (before world : List Line) → Within (l ∷ before) world → Lone c world → Lone c before
lone_at c l before world within lone = record {
  unsent = (Everywhere_within _ (l ∷ before) world lone.unsent within).1;
  unhanded = (Everywhere_within _ (l ∷ before) world lone.unhanded within).1;
}

-- what is so of the node of a line, of a node with its number
abbrev FreshLeadsOf : (ℕ → Manner) → ℕ → Line → List Line → Port → ℕ → Type 0
FreshLeadsOf m n l before q late = (m n).may ≡ true → (m n).strict ≡ false → (start : Did) (idle : List Seen) → stood (view q (of n before)) ≡ Here start ∷
    idle → is_master (role (view q (of n before))) ≡ false →
    untouched (view q (of n before)) ≡ true → l.did.tick ≤ (held (view q (of n before))).boot + first_lead late

pub lone_leads : (m : ℕ → Manner) (setting : Setting) (late c : ℕ) (world : List Line) → Fits setting world → Woken m world → Attended late world →
    late ≤ SLACK → (m c).may ≡ true → (m c).strict ≡ false → Lone c world → LoneLeads c late world
lone_leads m setting late c world f w a slack may strict lone = Everywhere_from (LoneLeadsAt c late) world (λ l before within begins node is_up q start idle
    stood-is other.
    let fits = (Everywhere_within _ (l ∷ before) world f within).1 in
    let free = calm_untouched q (of c before) (calm setting c q before fits (lone_at c l before world within lone)) is_up in
    let at = Everywhere_at (FreshLeadsAt m late) l before world (fresh_leads m setting late world f w a slack) within in
    subst (λ n. FreshLeadsOf m n l before q late) node (λ may strict start idle s o u. at begins may strict q start idle s o u) may strict start idle stood-is
    other free)

-- so it is at the end of a history that is told up to then
pub lone_led : (m : ℕ → Manner) (setting : Setting) (late c t : ℕ) (world : List Line) → Fits setting world → AllWake m world → Attended late world →
    late ≤ SLACK → (m c).may ≡ true → (m c).strict ≡ false → Lone c world → Told late setting t c world → Led c late setting t world
lone_led m setting late c t world f all a slack may strict lone told is_up q start idle stood-is past =
    by_role (is_master (role (view q (of c world)))) refl where
      by_role : (b : Bool) → is_master (role (view q (of c world))) ≡ b → is_master (role (view q (of c world))) ≡ true
      by_role true e = e
      by_role false e =
          let free = calm_untouched q (of c world) (calm setting c q world f lone) is_up in
          let soon = (progress_to m setting late t c world f all a slack told).fresh_leads may strict q start idle stood-is e free in
          absurd (omega (arith, past, soon))
