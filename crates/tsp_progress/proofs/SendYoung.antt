-- Throughout each step no open send is older than when the step begins.
use Rattle.std.proofs.Common.{sym, ap, arith, inl, inr, ◌∙◌, ◌≡◌, ◌≤◌, ◌⊎◌, ℕ, ◌+◌, ◌*◌, ◌==◌, ◌&&◌, ◌||◌, if◌then◌else◌, Bool, true, false}
use Rattle.std.proofs.Common.{List, [], ◌∷◌, Some, eqb-true, refl}
use Rattle.tsp_rules.specs.Values.{Act, Boot, Become, Post, Acked, Gave, Message, PeerId, Peer, Port, RETRY, TRIES}
use Rattle.tsp_base.specs.Words.{Acts, Begins, Deed, Did, Elsewhere, Here, Line, MessageValue, Seen, acting, is_numbered, is_shared, of, open_send, open_to}
use Rattle.tsp_base.specs.Words.{open_to_after}
use Rattle.tsp_base.specs.Words.{posts_of, seen_as, sending_at, view}
use Rattle.tsp_promises.specs.{Fits.Fits, Fits.node_of, Setting.Setting}
use Rattle.tsp_promises.proofs.promised.SendProof.{opened}
use Rattle.tsp_progress.specs.SendsEnd.{SendsEnd}
use Rattle.tsp_progress.proofs.NeverLateProof.{newest, same_tick}

-- a send that is open after a deed was open before, or begins with it
module _ (p : PeerId) (s : Seen) (o : List Seen) (d : Did) (before : List Seen) where
  abbrev Either : Type 0
  Either = (s ≡ Here d) ⊎ (open_to p before ≡ s ∷ o)

  no_nil : {A : Type 0} → [] ≡ s ∷ o → A
  no_nil e = let bad : ⊥ = cc in absurd bad

  begun : (b : Bool) → (if b then Here d ∷ before else open_to p before) ≡ s ∷ o → Either
  begun true e = inl (let same : Here d ≡ s = cc in sym same)
  begun false e = inr e

  ended : (b : Bool) → (if b then [] else open_to p before) ≡ s ∷ o → Either
  ended true e = no_nil e
  ended false e = inr e

  by_deed_holds : (deed : Deed) → open_to_after p deed (acting before) (Here d ∷ before) (open_to p before) ≡ s ∷ o → Either
  by_deed_holds (Acts Boot) e = no_nil e
  by_deed_holds (Acts (Become r)) e = no_nil e
  by_deed_holds (Acts (Post (Peer q) (Message m))) e = begun ((q.0 == p.0) && (is_numbered m.kind && acting before)) e
  by_deed_holds (Acts (Acked q)) e = ended (q.0 == p.0) e
  by_deed_holds (Acts (Gave q)) e = ended (q.0 == p.0) e
  by_deed_holds _ e = inr e

-- what is open was begun by the port
pub open_here : (p : PeerId) (seen : List Seen) (s : Seen) (o : List Seen) → open_to p seen ≡ s ∷ o → (f : Did) × (s ≡ Here f)
open_here p [] s o e = let bad : ⊥ = cc in absurd bad
open_here p (Elsewhere d ∷ before) s o e = open_here p before s o e
open_here p (Here d ∷ before) s o e = elim (by_deed_holds p s o d before d.deed e) [
  | inl is ↦ (d, is)
  | inr older ↦ open_here p before s o older
]

-- the send that it is
pub send_is : (p : PeerId) (seen : List Seen) (f : Did) (o : List Seen) (m : MessageValue) → open_to p seen ≡ Here f ∷ o →
    f.deed ≡ Acts (Post (Peer p) (Message m)) → open_send p seen ≡ Some (record { began = f.tick; posts = posts_of p seen; message = m })
send_is p seen f o m e is = ap (λ s. sending_at s (posts_of p seen)) e ∙ rw is refl

module _ (setting : Setting) (late : ℕ) where
  abbrev Young : ℕ → Did → Type 0
  Young x f = x ≤ f.tick + (TRIES * RETRY + late)

  pub send_young : (world : List Line) → Fits setting world → SendsEnd late world → (n : ℕ) (q : Port) (p : PeerId) (f : Did) (o : List Seen) →
      open_to p (view q (of n world)) ≡ Here f ∷ o → Young (newest (of n world)) f
  send_young [] fits ends n q p f o e = let bad : ⊥ = cc in absurd bad
  send_young (l ∷ before) fits ends n q p f o e = by_node (node_of l == n) refl e (send_young before fits.1 ends.1 n q p f o) where
    begins : l.did.deed ≡ Begins → node_of l ≡ n → open_to p (view q (of n before)) ≡ Here f ∷ o → Young l.did.tick f
    begins is node e =
        let k : open_to p (view q (of (node_of l) before)) ≡ Here f ∷ o = ap (λ j. open_to p (view q (of j before))) node ∙ e in
        let op = opened p (view q (of (node_of l) before)) f o k in
        let send = send_is p (view q (of (node_of l) before)) f o op.message k op.begins.deed in
        (ends.0 is q) p _ send

    acts : (act : Act) → l.did.deed ≡ Acts act → node_of l ≡ n → open_to p (view q (of n before)) ≡ Here f ∷ o →
        (open_to p (view q (of n before)) ≡ Here f ∷ o → Young (newest (of n before)) f) → Young l.did.tick f
    acts act is node e older =
        let same = same_tick setting l before act is fits.0 fits.1 in
        let own : newest (of (node_of l) before) ≡ newest (of n before) = ap (λ k. newest (of k before)) node in
        let le = older e in
        omega (arith, same, own, le)

    here : (deed : Deed) → l.did.deed ≡ deed → node_of l ≡ n → open_to_after p deed (acting (view q (of n before))) (Here l.did ∷ view q (of n before))
        (open_to p (view q (of n before))) ≡ Here f ∷ o → (open_to p (view q (of n before)) ≡ Here f ∷ o → Young (newest (of n before)) f) → Young l.did.tick f
    here Begins is node e older = begins is node e
    here (Acts act) is node e older = elim (by_deed_holds p (Here f) o l.did (view q (of n before)) (Acts act) e) [
      | inl s ↦ (let same : f ≡ l.did = cc in let tick = ap (λ (d : Did). d.tick) same in omega (arith, tick))
      | inr k ↦ acts act is node k older
    ]

    aside : (deed : Deed) → l.did.deed ≡ deed → node_of l ≡ n → open_to p (view q (of n before)) ≡ Here f ∷ o →
        (open_to p (view q (of n before)) ≡ Here f ∷ o → Young (newest (of n before)) f) → Young l.did.tick f
    aside Begins is node e older = begins is node e
    aside (Acts act) is node e older = acts act is node e older

    seen : (b : Bool) → node_of l ≡ n → open_to p (seen_as b l.did ∷ view q (of n before)) ≡ Here f ∷ o →
        (open_to p (view q (of n before)) ≡ Here f ∷ o → Young (newest (of n before)) f) → Young l.did.tick f
    seen true node e older = here l.did.deed refl node e older
    seen false node e older = aside l.did.deed refl node e older

    by_node : (b : Bool) → (node_of l == n) ≡ b → open_to p (view q (if b then l ∷ of n before else of n before)) ≡ Here f ∷ o →
        (open_to p (view q (of n before)) ≡ Here f ∷ o → Young (newest (of n before)) f) → Young (newest (if b then l ∷ of n before else of n before)) f
    by_node true same e older = seen ((l.port.0 == q.0) || is_shared l.did.deed) (eqb-true (node_of l) n same) e older
    by_node false same e older = older e
