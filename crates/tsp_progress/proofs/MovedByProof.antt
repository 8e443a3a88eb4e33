-- In a network that follows its master, a follower's clock is moved by its master alone.
use Rattle.std.proofs.Common.{sym, ap, subst, arith, ◌∙◌, ◌≡◌, ◌≤◌, ℕ, ◌==◌, ℤ, Bool, false, List, ◌∷◌, Some, refl}
use Rattle.tsp_rules.specs.Values.{Close, Correct, Datagram, Follow, Good, Master, Message, Peer, PeerId, Post, Role}
use Rattle.tsp_base.specs.Words.{Acts, Did, Here, Line, Seen, Within, first_port, of, peer_of, role, taken, ticket, view}
use Rattle.tsp_base.proofs.{PlaceLemmas.Within_tail, Views.plain_view}
use Rattle.tsp_promises.specs.{CorrectFits.CorrectFits, CorrectFits.TakesCorrection, CorrectFits.WhyCorrect}
use Rattle.tsp_promises.specs.{CorrectFits.ByDate, CorrectFits.ByMaster, CorrectFits.ByRound, Fits.Fits, Fits.node_of, Setting.Setting, Setting.setup_of}
use Rattle.tsp_promises.specs.{PortFits.PortFits, RoundFits.CloseFits, DeedFits.DeedFits}
use Rattle.tsp_promises.proofs.promised.OwnFitsProof.{deed_fits, fits_at, port_fits}
use Rattle.tsp_run.specs.Clocked.{clocks_of, run_by}
use Rattle.tsp_run.proofs.{OwnClocks.possible_own, OwnClocks.runs_by_own_clocks, OwnClocks.set_own, RunFits.clocked_runs_fit}
use Rattle.tsp_progress.specs.FollowOn.{Calm, FollowUntil}
use Rattle.tsp_progress.specs.MovedBy.{ClockedRunsMoveByMaster, FromMaster, MovedByMaster, RunsMoveByMaster}
use Rattle.tsp_progress.proofs.{FollowTaken.taken_post}

pub follows_not : {A : Type 0} (p : PeerId) (r : Role) → r ≡ Follow p → r ≡ Master → A
follows_not p r e m = let bad : Follow p ≡ Master = sym e ∙ m in absurd (no bad) where
  no : Follow p ≡ Master → ⊥
  no e = cc

same_master : (p q : PeerId) → Follow p ≡ Follow q → p ≡ q
same_master p q e = cc

same_sender : (m n : ℕ) → Peer (peer_of m) ≡ Peer (peer_of n) → m ≡ n
same_sender m n e = ap (λ (p : PeerId). p.0) (peer e) where
  peer : Peer (peer_of m) ≡ Peer (peer_of n) → peer_of m ≡ peer_of n
  peer e = cc

module _ (setting : Setting) (world : List Line) (fits : Fits setting world) (long t c : ℕ) (stays : ℕ → Bool) (s : List Line) (calm : Calm long stays s world)
    (follow : FollowUntil stays c t s world) where
  module _ (l : Line) (older : List Line) (place : Within (l ∷ older) world) (since : Within s older) (until : l.did.step.at ≤ t)
      (other : (node_of l == c) ≡ false) (port : l.port ≡ first_port) (amount : ℤ) (stepped : Bool) (shown : ℤ)
      (deed : l.did.deed ≡ Acts (Correct amount stepped shown)) where
    abbrev N : ℕ
    N = node_of l

    abbrev Before : List Seen
    Before = view l.port (of N older)

    line-fits : Fits setting (l ∷ older)
    line-fits = fits_at setting (l ∷ older) world fits place

    follows : role Before ≡ Follow (peer_of c)
    follows =
        let order = line-fits.0.order in
        let here = (follow older (Within_tail l older world place) since (omega (arith, order, until))).follow N (calm.only l older place since) other in
        subst (λ q. role (view q (of N older)) ≡ Follow (peer_of c)) (sym port) here

    owes : CorrectFits (setup_of setting N l.port) l.did Before amount stepped shown
    owes = deed_fits setting l older (Acts (Correct amount stepped shown)) deed line-fits.0

    -- a Close is a master's
    closed-no : (close : Did) (past : List Seen) (count : ℕ) (lo size mean : ℤ) → Before ≡ Here close ∷ past → close.deed ≡ Acts (Close count lo size mean) → ⊥
    closed-no close past count lo size mean is closes =
        let all : PortFits (setup_of setting N l.port) (Here close ∷ past) = subst (PortFits (setup_of setting N l.port)) is
        (port_fits setting N older line-fits.1 l.port) in
        let fit : CloseFits close past = subst (λ d. DeedFits (setup_of setting N l.port) d close past) closes all.0 in
        let same : role Before ≡ role past = ap role is ∙ rw closes refl in
        follows_not (peer_of c) (role Before) follows (same ∙ fit.leads)

    by_master : TakesCorrection l.did Before amount → FromMaster long c l older
    by_master k =
        let took : taken Before ≡ Some (record { from = Peer k.from; taken = Good (Message k.message) }) = ap taken k.is ∙ rw k.deed refl in
        let p = taken_post setting l older (Correct amount stepped shown) (record { from = Peer k.from; taken = Good (Message k.message) }) line-fits deed
        (calm.unhanded l older place since) took in
        let from : k.from ≡ peer_of c = same_master k.from (peer_of c) (sym k.follows ∙ follows) in
        record {
          post = p.post;
          before = p.older;
          place = p.place;
          node = same_sender (node_of p.post) c (sym p.from_is ∙ ap (λ z. Peer z) from);
          message = k.message;
          deed = p.deed ∙ ap (λ d. Acts (Post (Peer (peer_of N)) d)) (good p.datagram (Message k.message) (sym p.taken_is));
          kind = k.kind;
          number = k.number ∙ ap ticket (plain_view l.port (of N older));
          soon = calm.soon l older place since p.post p.older (Peer (peer_of N)) p.datagram p.place p.deed p.takes;
        }
      where
        good : (d e : Datagram) → Good d ≡ Good e → d ≡ e
        good d e h = cc

    -- it takes a correction
    pub takes_correction : TakesCorrection l.did Before amount
    takes_correction = by_why owes.why where
      by_why : WhyCorrect (setup_of setting N l.port) l.did Before amount → TakesCorrection l.did Before amount
      by_why (ByRound k) = absurd (closed-no k.close k.past k.count k.lo k.size amount k.is k.deed)
      by_why (ByMaster k) = k
      by_why (ByDate k) = absurd (follows_not (peer_of c) (role Before) follows k.leads)

    from_master : FromMaster long c l older
    from_master = by_master takes_correction

  pub moved_by_master : MovedByMaster long t c s world
  moved_by_master l older place since until other port amount stepped shown deed = from_master l older place since until other port amount stepped shown deed

pub clocked_runs_move_by_master : ClockedRunsMoveByMaster
clocked_runs_move_by_master clocks header setting events long t stays c s set possible calm follow =
    moved_by_master setting (run_by clocks header events) (clocked_runs_fit clocks header setting events set possible).0 long t c stays s calm follow

pub runs_move_by_master : RunsMoveByMaster
runs_move_by_master header setting events long t stays c s set possible = subst (λ h. Calm long stays s h → FollowUntil stays c t s h →
    MovedByMaster long t c s h) (runs_by_own_clocks header events)
    (clocked_runs_move_by_master (clocks_of header) header setting events long t stays c s (set_own header setting set) (possible_own header events possible))
