-- In a network that follows its master, a follower's ticket stays while its master corrects it no more.
use Rattle.std.proofs.Common.{sym, subst, arith, inl, inr, ◌∙◌, ◌≡◌, ◌≢◌, ℕ, ◌==◌, ℤ, Bool, true, false, List, [], ◌∷◌, eqb-true, refl}
use Rattle.tsp_rules.specs.Values.{Boot, Correct, Message, Peer, Post}
use Rattle.tsp_base.specs.Words.{Acts, Deed, Did, Line, Undisturbed, Within, all_corrects, dids, lives, of, peer_of, ticket}
use Rattle.tsp_base.proofs.PlaceLemmas.{Within_tail, Within_through}
use Rattle.tsp_promises.specs.{Fits.Fits, Fits.node_of, Setting.Setting}
use Rattle.tsp_promises.proofs.{shared.HistoryPlaces.of_other, shared.HistoryPlaces.of_own, promised.OwnFitsProof.fits_at, promised.OwnFitsProof.fits_in}
use Rattle.tsp_promises.proofs.{promised.OwnFitsProof.place_time}
use Rattle.tsp_run.specs.Clocked.{clocks_of, run_by}
use Rattle.tsp_run.proofs.{OwnClocks.possible_own, OwnClocks.runs_by_own_clocks, OwnClocks.set_own, RunFits.clocked_runs_fit}
use Rattle.tsp_progress.specs.FollowOn.{Calm, FollowUntil}
use Rattle.tsp_progress.specs.TicketKept.{ClockedRunsKeepTicket, KeepsTicket, RunsKeepTicket, TicketStays}
use Rattle.tsp_progress.proofs.MovedByProof.{moved_by_master}

-- what a deed leaves alone
record Left (d : Did) (ds : List Did) : Type 0 where
  pub lives_are : lives (d ∷ ds) ≡ lives ds
  pub corrects_are : all_corrects (d ∷ ds) ≡ all_corrects ds
  pub ticket_is : ticket (d ∷ ds) ≡ ticket ds

left_alone : (d : Did) (ds : List Did) → d.deed ≢ Acts Boot → ((amount : ℤ) (stepped : Bool) (shown : ℤ) → d.deed ≢ Acts (Correct amount stepped shown)) →
    Left d ds
left_alone d ds unbooted uncorrected = by_deed d.deed refl where
  by_deed : (deed : Deed) → d.deed ≡ deed → Left d ds
  by_deed (Acts Boot) is = absurd (unbooted is)
  by_deed (Acts (Correct amount stepped shown)) is = absurd (uncorrected amount stepped shown is)
  by_deed _ is = record { lives_are = rw is refl; corrects_are = rw is refl; ticket_is = rw is refl }

module _ (setting : Setting) (world : List Line) (fits : Fits setting world) (long t c : ℕ) (stays : ℕ → Bool) (s : List Line) (calm : Calm long stays s world)
    (follow : FollowUntil stays c t s world) where
  pub keeps_ticket : KeepsTicket long t c s world
  keeps_ticket n g [] other first since w place le quiet = subst (λ z. TicketStays n z []) (sym w) (record {
    left = record { corrects = refl; lives = refl };
    same = refl;
  })
  keeps_ticket n g (l ∷ older) other first since (inl e) place le quiet = subst (λ z. TicketStays n z (l ∷ older)) (sym e) (record {
    left = record { corrects = refl; lives = refl };
    same = refl;
  })
  keeps_ticket n g (l ∷ older) other first since (inr w) place le quiet =
      let order = (fits_in setting l older world fits place).order in
      let before = keeps_ticket n g older other first since w (Within_tail l older world place) (omega (arith, order, le))
      (λ post rest m v node deed kind. quiet post rest m (inr v) node deed kind) in
      by_node (node_of l == n) refl before
    where
      older-since : Within s older
      older-since = Within_through s g older since w

      by_node : (b : Bool) → (node_of l == n) ≡ b → TicketStays n g older → TicketStays n g (l ∷ older)
      by_node false e k = subst (λ ls. Undisturbed (dids (of n g)) (dids ls) × (ticket (dids ls) ≡ ticket (dids (of n g))) → TicketStays n g (l ∷ older))
          (of_other n l older e) (λ z. record { left = z.0; same = z.1 }) (k.left, k.same)
      by_node true e k =
          let node = eqb-true (node_of l) n e in
          let order = (fits_in setting l older world fits place).order in
          let later = place_time setting g older (fits_at setting older world fits (Within_tail l older world place)) w in
          let a = left_alone l.did (dids (of n older)) (calm.unbooted l older place older-since) (λ amount stepped shown is.
          let m = moved_by_master setting world fits long t c stays s calm follow l older place older-since le
          (subst (λ j. (j == c) ≡ false) (sym node) other) (first l older place older-since node amount stepped shown is) amount stepped shown is in
          let old = quiet m.post m.before m.message (inr m.place) m.node
          (subst (λ j. m.post.did.deed ≡ Acts (Post (Peer (peer_of j)) (Message m.message))) node m.deed) m.kind in
          let soon = m.soon in
          omega (arith, old, soon, order, later)) in
          let own : of n (l ∷ older) ≡ l ∷ of n older = of_own n l older node in
          subst (λ ls. Undisturbed (dids (of n g)) (dids ls) × (ticket (dids ls) ≡ ticket (dids (of n g))) → TicketStays n g (l ∷ older)) own
          (λ z. record { left = z.0; same = z.1 })
          (record { corrects = k.left.corrects ∙ sym a.corrects_are; lives = k.left.lives ∙ sym a.lives_are }, a.ticket_is ∙ k.same)

pub clocked_runs_keep_ticket : ClockedRunsKeepTicket
clocked_runs_keep_ticket clocks header setting events long t stays c s set possible calm follow =
    keeps_ticket setting (run_by clocks header events) (clocked_runs_fit clocks header setting events set possible).0 long t c stays s calm follow

pub runs_keep_ticket : RunsKeepTicket
runs_keep_ticket header setting events long t stays c s set possible = subst (λ h. Calm long stays s h → FollowUntil stays c t s h →
    KeepsTicket long t c s h) (runs_by_own_clocks header events)
    (clocked_runs_keep_ticket (clocks_of header) header setting events long t stays c s (set_own header setting set) (possible_own header events possible))
