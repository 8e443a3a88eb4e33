-- A correction that begins: where it comes from, and that it isn't posted again.
use Rattle.std.proofs.Common.{sym, ap, subst, arith, true≢false, inl, inr, ◌∙◌, ◌≡◌, ◌≤◌, ◌⊎◌, ℕ, ◌+◌, true}
use Rattle.std.proofs.Common.{List, ◌∷◌, Option, None, Some, refl}
use Rattle.tsp_rules.specs.Values.{Post, Message, Peer, PeerId, Port}
use Rattle.tsp_rules.specs.Values.{QUIET, REUSE}
use Rattle.tsp_base.specs.Words.{Acts, Did, Here, Line, MessageValue, Seen, Sending, Within, begun_to, boot_tick}
use Rattle.tsp_base.specs.Words.{corrects_by, first_port, is_correction}
use Rattle.tsp_base.specs.Words.{message_at, of, open_to, peer_of, view}
use Rattle.tsp_base.proofs.PlaceLemmas.{Within_tail}
use Rattle.tsp_base.proofs.Views.{plain_view}
use Rattle.tsp_promises.specs.{CorrectionFits.BeginFits, CorrectionFits.Follows, Fits.Fits}
use Rattle.tsp_promises.specs.{Setting.Setting}
use Rattle.tsp_promises.proofs.{promised.FreshProof.old_by_rest}
use Rattle.tsp_promises.proofs.promised.OwnFitsProof.{fits_at, fits_in, locate, own_fits, seen_in}
use Rattle.tsp_promises.proofs.promised.SendProof.{CorrectsTo}
use Rattle.tsp_promises.proofs.{shared.HistoryPlaces.line_on}
use Rattle.tsp_promises.proofs.{shared.SendPlaces.post_fits}
use Rattle.tsp_progress.specs.{GivenUp.Owes}
use Rattle.tsp_progress.proofs.ApartLemmas.{open_unacked}
use Rattle.tsp_progress.proofs.{FollowProof.owes_at}
use Rattle.tsp_progress.proofs.{SendYoung.send_is}
use Rattle.tsp_progress.proofs.SentRows.{Again, SentFits, SentFor}
use Rattle.tsp_progress.proofs.StaysProof.{open_correction}

module _ (setting : Setting) (world : List Line) (fits : Fits setting world) (sent : (n : ℕ) (q : Port) → Owes SentFits (view q (of n world))) (c n : ℕ) where
  abbrev P : PeerId
  P = peer_of n

  -- what c's port sees up to a place
  abbrev V : List Line → List Seen
  V h = view first_port (of c h)

  abbrev At : Did → List Line → List Line
  At d o = line_on first_port d ∷ o

  -- a correction to n that begins there
  pub record Begins_at (d : Did) (o : List Line) (m : MessageValue) : Type 0 where
    pub place : Within (At d o) world
    pub node : d.step.node ≡ c
    pub corrects : CorrectsTo P m d (V o)

  pub begin_fits : (d : Did) (o : List Line) (m : MessageValue) → Begins_at d o m → BeginFits d (V o) P m
  begin_fits d o m x = (post_fits setting c (line_on first_port d) o P m (fits_in setting (line_on first_port d) o world fits x.place) x.node x.corrects.deed
      x.corrects.kind).begins x.corrects.begins

  pub why : (d : Did) (o : List Line) (m : MessageValue) → Begins_at d o m → SentFor P d (V o) m
  why d o m x = (subst (λ k. SentFits k d (V o)) x.corrects.deed
      (owes_at SentFits d (V o) (V world) (seen_in c (line_on first_port d) o world x.node x.place) (sent c first_port))) x.corrects.kind

  -- after a rest
  pub rested_first : (d : Did) (o : List Line) (m : MessageValue) (x : Begins_at d o m) (f : Did) (fo : List Line) (k : MessageValue) → Within (At f fo) o →
      f.step.node ≡ c → f.deed ≡ Acts (Post (Peer P) (Message k)) → is_correction k.kind ≡ true →
      ((f.tick + REUSE ≤ d.tick)) ⊎ Follows (V o) P m
  rested_first d o m x f fo k f_in f_node f_deed f_kind = elim (begin_fits d o m x).may [
    | inl rests ↦ inl (old_by_rest setting c n first_port d o (begun_to P (Here f ∷ V fo)) (own_fits setting c o (fits_at setting o world fits
        (Within_tail (line_on first_port d) o world x.place))) rests (subst (λ z. boot_tick z + QUIET ≤ d.tick) (plain_view first_port (of c o))
        (begin_fits d o m x).rested) f fo k f_in f_node f_deed f_kind refl)
    | inr g ↦ inr g
  ]

  -- what begins isn't posted again
  pub again-no : (d : Did) (o : List Line) (m : MessageValue) → Begins_at d o m → Again P d (V o) m → ⊥
  again-no d o m x a =
      let oc = open_correction P (V o) a.sending a.open_is (ap (λ (z : MessageValue). is_correction z.kind) a.message ∙ x.corrects.kind) in
      let lf = locate c first_port o oc.first oc.older (let deed = oc.opens.begins.deed in rw deed refl) oc.opens.place in
      elim (rested_first d o m x oc.first lf.older oc.opens.message lf.place lf.node oc.opens.begins.deed oc.corrects) [
        | inl old ↦
            let send = send_is P (V o) oc.first oc.older oc.opens.message oc.is oc.opens.begins.deed in
            let began = ap began_in (sym a.open_is ∙ send) in
            let soon = a.soon in
            omega (arith, old, began, soon)
        | inr g ↦
            let deed = oc.opens.begins.deed in
            let corrects : corrects_by (message_at (open_to P (V o))) ≡ true = ap (λ z. corrects_by (message_at z)) oc.is ∙
            (let same : corrects_by (message_at (Here oc.first ∷ oc.older)) ≡ is_correction oc.opens.message.kind = rw deed refl in same ∙ oc.corrects) in
            true≢false (sym g.acknowledged ∙ open_unacked P (V o) corrects)
      ]
    where
      began_in : Option Sending → ℕ
      began_in None = a.sending.began
      began_in (Some z) = z.began
