-- What a step has taken, an open correction and a round's measured peers: small facts of a port's past.
use Rattle.std.proofs.Common.{sym, ap, subst, arith, true≢false, inl, inr, ◌∙◌, ◌≡◌, ℕ, ◌==◌, ◌&&◌, ◌||◌, Bool, true, false, if◌then◌else◌}
use Rattle.std.proofs.Common.{Option, List, [], ◌∷◌, length, None, Some, eqb-true, refl}
use Rattle.tsp_rules.specs.Values.{Boot, Become, Arm, Post, Took, Acked, Gave, Leave, Close, CloseAlarm, Message, Stamp, PeerId, Peer, Place, Port, Request}
use Rattle.tsp_rules.specs.Values.{Ack, Good, Kind, SlaveUp, Taken}
use Rattle.tsp_base.specs.Words.{Acts, Begins, Deed, Did, Elsewhere, Here, Line, MessageValue, Received, Seen, Within, acting, corrects_by, dids}
use Rattle.tsp_base.specs.Words.{is_acknowledged, is_acknowledged_after, is_correction, is_measured, is_numbered, is_shared, is_starting, lives, message_at}
use Rattle.tsp_base.specs.Words.{message_of}
use Rattle.tsp_base.specs.Words.{of, open_to, open_to_after, seen_as, started, started_after, taken, taken_after, view}
use Rattle.tsp_base.specs.RoundFacts.{is_measured_after, is_starting_after}
use Rattle.tsp_base.proofs.PlaceLemmas.{Within_length, Within_tail, Within_through}
use Rattle.tsp_promises.specs.{Fits.node_of, OwnFits.OwnFits, Setting.Setting, StepFacts.closed, StepFacts.closed_after}
use Rattle.tsp_promises.proofs.{promised.KnownProof.heard_taken, promised.KnownProof.unheard, promised.SendProof.numbered}
use Rattle.tsp_promises.proofs.{shared.HistoryPlaces.of_other, shared.HistoryPlaces.of_own}
use Rattle.tsp_progress.specs.{FollowOn.Calm, GivenUp.Owes}
use Rattle.tsp_progress.proofs.SearchKept.{view_within}

pub within_same : {A : Type 0} (a b : List A) → Within a b → Within b a → a ≡ b
within_same a [] w v = w
within_same a (x ∷ t) (inl e) v = e
within_same a (x ∷ t) (inr w) v = let few = Within_length a t w in let many = Within_length (x ∷ t) a v in absurd (omega (arith, few, many))

pub owes_sub : (debt : Deed → Did → List Seen → Type 0) (s seen : List Seen) → Within s seen → Owes debt seen → Owes debt s
owes_sub debt s [] w f = subst (λ k. Owes debt k) (sym w) tt
owes_sub debt s (k ∷ before) (inl e) f = subst (λ k. Owes debt k) (sym e) f
owes_sub debt s (Here d ∷ before) (inr w) f = owes_sub debt s before w f.1
owes_sub debt s (Elsewhere d ∷ before) (inr w) f = owes_sub debt s before w f

-- a correction that is open isn't acknowledged

ack_post : (peer number correct begins : Bool) (d : Did) (before now : List Seen) (was : Bool) → (correct ≡ true → number ≡ true) →
    corrects_by (message_at (Here d ∷ before)) ≡ correct → (corrects_by (message_at now) ≡ true → was ≡ false) →
    corrects_by (message_at (if peer && (number && begins) then Here d ∷ before else now)) ≡ true → (if peer && (correct && begins) then false else was) ≡ false
ack_post false number correct begins d before now was n c h e = h e
ack_post true true true true d before now was n c h e = refl
ack_post true true true false d before now was n c h e = h e
ack_post true true false true d before now was n c h e = absurd (true≢false (sym e ∙ c))
ack_post true true false false d before now was n c h e = h e
ack_post true false true begins d before now was n c h e = absurd (true≢false (sym (n refl)))
ack_post true false false begins d before now was n c h e = h e

ack_acked : (b corrects was : Bool) (now : List Seen) → (corrects_by (message_at now) ≡ true → was ≡ false) →
    corrects_by (message_at (if b then [] else now)) ≡ true → (if b && corrects then true else was) ≡ false
ack_acked true corrects was now h e = absurd (true≢false (sym e))
ack_acked false corrects was now h e = h e

ack_gave : (b was : Bool) (now : List Seen) → (corrects_by (message_at now) ≡ true → was ≡ false) →
    corrects_by (message_at (if b then [] else now)) ≡ true → was ≡ false
ack_gave true was now h e = absurd (true≢false (sym e))
ack_gave false was now h e = h e

ack_deed : (p : PeerId) (d : Did) (before : List Seen) (deed : Deed) → deed ≡ d.deed →
    (corrects_by (message_at (open_to p before)) ≡ true → is_acknowledged p before ≡ false) →
    corrects_by (message_at (open_to_after p deed (acting before) (Here d ∷ before) (open_to p before))) ≡ true →
    is_acknowledged_after p deed (acting before) (corrects_by (message_at (open_to p before))) (is_acknowledged p before) ≡ false
ack_deed p d before (Acts Boot) is h e = refl
ack_deed p d before (Acts (Become r)) is h e = absurd (true≢false (sym e))
ack_deed p d before (Acts (Post (Peer q) (Message m))) is h e =
    ack_post (q.0 == p.0) (is_numbered m.kind) (is_correction m.kind) (acting before) d before (open_to p before) (is_acknowledged p before) (numbered m.kind)
    (ap (λ k. corrects_by (message_of k)) (sym is)) h e
ack_deed p d before (Acts (Acked q)) is h e =
    ack_acked (q.0 == p.0) (corrects_by (message_at (open_to p before))) (is_acknowledged p before) (open_to p before) h e
ack_deed p d before (Acts (Gave q)) is h e = ack_gave (q.0 == p.0) (is_acknowledged p before) (open_to p before) h e
ack_deed p d before _ is h e = h e

pub open_unacked : (p : PeerId) (seen : List Seen) → corrects_by (message_at (open_to p seen)) ≡ true → is_acknowledged p seen ≡ false
open_unacked p [] e = refl
open_unacked p (Elsewhere d ∷ before) e = open_unacked p before e
open_unacked p (Here d ∷ before) e = ack_deed p d before d.deed refl (open_unacked p before) e

-- what a step has taken it has taken until it ends: since the Close no step began

module _ (setting : Setting) (q : Port) (close : Did) (past : List Seen) (r : Received) where
  pub same_taken : (t w : List Line) → OwnFits setting t → Within w t → closed (view q t) ≡ Here close ∷ past → Within (Here close ∷ past) (view q w) →
      taken (view q w) ≡ Some r → taken (view q t) ≡ Some r
  same_taken [] w f v c i e = subst (λ z. taken (view q z) ≡ Some r) v e
  same_taken (x ∷ t) w f (inl same) c i e = subst (λ z. taken (view q z) ≡ Some r) same e
  same_taken (x ∷ t) w f (inr v) c i e = by_flag ((x.port.0 == q.0) || is_shared x.did.deed) c (λ k. same_taken t w f.1 v k i e) where
    too_long : Here x.did ∷ view q t ≡ Here close ∷ past → ⊥
    too_long same =
        let one = ap length same in
        let few = Within_length (Here close ∷ past) (view q w) i in
        let many = Within_length (view q w) (view q t) (view_within q w t v) in
        omega (arith, one, few, many)

    took : (from : Place) (y : Taken) → x.did.deed ≡ Acts (Took from y) → taken (view q t) ≡ Some r → ⊥
    took from y is h = let bad : None ≡ Some r = sym (unheard setting x t from y f.0 is) ∙ heard_taken setting q r t f.1 h in cc

    by_deed : (deed : Deed) → x.did.deed ≡ deed → closed_after deed (Here x.did ∷ view q t) (closed (view q t)) ≡ Here close ∷ past →
        (closed (view q t) ≡ Here close ∷ past → taken (view q t) ≡ Some r) → taken_after deed (taken (view q t)) ≡ Some r
    by_deed Begins is k h = let bad : ⊥ = cc in absurd bad
    by_deed (Acts (Took from y)) is k h = absurd (took from y is (h k))
    by_deed (Acts (Close count lo size mean)) is k h = absurd (too_long k)
    by_deed _ is k h = h k

    by_flag : (b : Bool) → closed (seen_as b x.did ∷ view q t) ≡ Here close ∷ past → (closed (view q t) ≡ Here close ∷ past → taken (view q t) ≡ Some r) →
        taken (seen_as b x.did ∷ view q t) ≡ Some r
    by_flag true k h = by_deed x.did.deed refl k h
    by_flag false k h = h k

-- who is measured when a round goes on was so since its first step

module _ (p : PeerId) (start : Did) (idle : List Seen) (w : List Seen) (v : Within (Here start ∷ idle) w) (rests : is_starting w ≡ false) where
  abbrev Was : List Seen → Type 0
  Was seen = (is_starting seen ≡ false) × (is_measured p seen ≡ true → is_measured p w ≡ true)

  newer : (d : Did) (before : List Seen) → Within w before → Here d ∷ before ≡ Here start ∷ idle → ⊥
  newer d before u e =
      let one = ap length e in
      let few = Within_length (Here start ∷ idle) w v in
      let many = Within_length w before u in
      omega (arith, one, few, many)

  ask_if : (b starts was : Bool) → starts ≡ false → (if b && starts then true else was) ≡ true → was ≡ true
  ask_if true true was n e = absurd (true≢false n)
  ask_if true false was n e = e
  ask_if false starts was n e = e

  left_if : (b was : Bool) → (if b then false else was) ≡ true → was ≡ true
  left_if true was e = absurd (true≢false (sym e))
  left_if false was e = e

  by_deed : (d : Did) (before : List Seen) → Within w before → (deed : Deed) → started_after deed (Here d ∷ before) (started before) ≡ Here start ∷ idle →
      (started before ≡ Here start ∷ idle → Was before) →
      (is_starting_after deed (is_starting before) ≡ false)
      × (is_measured_after p deed (is_starting before) (is_measured p before) ≡ true → is_measured p w ≡ true)
  by_deed d before u Begins s k = let h = k s in (refl, h.1)
  by_deed d before u (Acts Boot) s k = let bad : ⊥ = cc in absurd bad
  by_deed d before u (Acts (Arm CloseAlarm at)) s k = absurd (newer d before u s)
  by_deed d before u (Acts (Become r)) s k = let h = k s in (h.0, λ e. absurd (true≢false (sym e)))
  by_deed d before u (Acts (Post (Peer q) (Stamp (Request word counter)))) s k =
      let h = k s in (h.0, λ e. h.1 (ask_if (q.0 == p.0) (is_starting before) (is_measured p before) h.0 e))
  by_deed d before u (Acts (Leave q)) s k = let h = k s in (h.0, λ e. h.1 (left_if (q.0 == p.0) (is_measured p before) e))
  by_deed d before u _ s k = k s

  pub measured_since : (seen : List Seen) → Within w seen → started seen ≡ Here start ∷ idle → Was seen
  measured_since [] u s = let bad : ⊥ = cc in absurd bad
  measured_since (k ∷ before) (inl e) s = subst Was e (rests, λ m. m)
  measured_since (Elsewhere d ∷ before) (inr u) s = measured_since before u s
  measured_since (Here d ∷ before) (inr u) s = by_deed d before u d.deed s (measured_since before u)

-- a node that doesn't boot has one life

boots_no : (deed : Deed) → (deed ≡ Acts Boot → ⊥) → (d : Did) (ds : List Did) → d.deed ≡ deed → lives (d ∷ ds) ≡ lives ds
boots_no (Acts Boot) none d ds is = absurd (none refl)
boots_no _ none d ds is = rw is refl

pub one_life : (n long : ℕ) (stays : ℕ → Bool) (s world : List Line) → Calm long stays s world → (g h : List Line) → Within s g → Within g h →
    Within h world → lives (dids (of n g)) ≡ lives (dids (of n h))
one_life n long stays s world calm g [] since w v = ap (λ z. lives (dids (of n z))) w
one_life n long stays s world calm g (k ∷ h) since (inl e) v = ap (λ z. lives (dids (of n z))) e
one_life n long stays s world calm g (k ∷ h) since (inr w) v =
    one_life n long stays s world calm g h since w (Within_tail k h world v) ∙ by_node (node_of k == n) refl where
      by_node : (b : Bool) → (node_of k == n) ≡ b → lives (dids (of n h)) ≡ lives (dids (of n (k ∷ h)))
      by_node true e =
          let node = eqb-true (node_of k) n e in
          sym (ap (λ ls. lives (dids ls)) (of_own n k h node) ∙
          boots_no k.did.deed (calm.unbooted k h v (Within_through s g h since w)) k.did (dids (of n h)) refl)
      by_node false e = sym (ap (λ ls. lives (dids ls)) (of_other n k h e))

-- what is received of a peer
abbrev pub received : PeerId → MessageValue → Received
received p m = record { from = Peer p; taken = Good (Message m) }

pub ack_slaveup : (m k : MessageValue) (p : PeerId) → m.kind ≡ Ack → k.kind ≡ SlaveUp → Some (received p m) ≡ Some (received p k) → ⊥
ack_slaveup m k p a s e = no (sym a ∙ (ap kind_in e ∙ s)) where
  kind_of : Taken → Kind
  kind_of (Good (Message z)) = z.kind
  kind_of _ = m.kind

  kind_in : Option Received → Kind
  kind_in (Some r) = kind_of r.taken
  kind_in None = m.kind

  no : Ack ≡ SlaveUp → ⊥
  no e = cc
