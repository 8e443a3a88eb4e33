-- A later correction to a peer comes long after an earlier one, or the peer's clock was corrected for each number
-- between: the last send to a peer and the last post of a correction aren't older than one that has begun.
use Rattle.std.proofs.Common.{sym, ap, arith, subst, inl, inr, eq-eqb, ◌∙◌, ◌≡◌, ◌==◌, ◌&&◌, true, ◌≤◌, ◌⊎◌, List, ◌∷◌, refl, ℕ, Option, subst₂, ◌+◌, ◌%◌, ◌<◌}
use Rattle.tsp_rules.specs.Values.{Boot, Post, Message, PeerId, Peer, Port, QUIET, REUSE}
use Rattle.tsp_base.specs.Words.{Acts, Deed, Did, Seen, Here, MessageValue, lives, Within, begun_to, is_correction, Line, dids, view, is_shared, lives_after}
use Rattle.tsp_base.specs.Words.{last_post, last_post_after, of, all_corrects, boot_tick, peer_of}
use Rattle.tsp_base.proofs.{PlaceLemmas.Within_through, PlaceLemmas.Within_tail, PlaceLemmas.Within_comparable, ViewPlaces.sees_own}
use Rattle.tsp_promises.proofs.promised.SendProof.{CorrectsTo, begun_of, corrects_sends, numbered, send_is, starts_late}
use Rattle.tsp_promises.proofs.promised.OwnFitsProof.{seen_same, seen_in, fits_in, own_fits, fits_at}
use Rattle.tsp_promises.proofs.promised.SinceProof.{NotBefore, lasting_seen, later_if, since}
use Rattle.tsp_promises.proofs.shared.HistoryPlaces.{of_own, own_in, Within_of, line_on, not_behind}
use Rattle.tsp_promises.specs.{CorrectionFits.Rests, Fits.Sees, Fits.Fits, Fits.node_of, Once.ActsOn, Once.OfSend, OwnFits.OwnFits, Setting.Setting}
use Rattle.tsp_promises.proofs.{promised.OnceTakenProof.numbered_by, shared.SendPlaces.send_place, shared.SendPlaces.post_fits}

post_deed : (p : PeerId) (deed : Deed) (was : Option ℕ) (x y n : ℕ) → lives_after deed n ≡ n → x ≤ y → NotBefore was x →
    NotBefore (last_post_after p deed y was) x
post_deed p (Acts Boot) was x y n v by h = absurd (omega arith)
post_deed p (Acts (Post (Peer q) (Message m))) was x y n v by h = later_if ((q.0 == p.0) && is_correction m.kind) was x y by h
post_deed p _ was x y n v by h = h

-- the last post of a correction to p isn't before one
pub last_post_late : (setting : Setting) (q : Port) (p : PeerId) (m : MessageValue) (x : Line) (rest t : List Line) → OwnFits setting t → x.did.deed ≡
    Acts (Post (Peer p) (Message m)) → is_correction m.kind ≡ true → Sees q x → Within (x ∷ rest) t →
    lives (dids (x ∷ rest)) ≡ lives (dids t) → NotBefore (last_post p (view q t)) x.did.tick
last_post_late setting q p m x rest t f deed kind sees w v = lasting_seen setting q (λ s. NotBefore (last_post p s) x.did.tick) x rest t f sees w v
    (record { at = x.did.tick; is = rw deed (rw (eq-eqb p.0 p.0 refl, kind) refl); by = omega arith })
    (λ d s n k by h. post_deed p d.deed (last_post p s) x.did.tick d.tick n k by h) (λ d s h. h)

-- each post before t of the send of m to k that begins at `start` lies REUSE before t
abbrev pub OldBefore : ℕ → ℕ → Port → List Seen → Did → List Line → Type 0
OldBefore m k q start t wb = (p : Did) (o : List Line) (msg : MessageValue) → Within (line_on q p ∷ o) wb → p.step.node ≡ m → p.deed ≡
    Acts (Post (Peer (peer_of k)) (Message msg)) → is_correction msg.kind ≡ true →
    begun_to (peer_of k) (Here p ∷ view q (of m o)) ≡ start → p.tick + REUSE ≤ t.tick

-- the numbers grew by q, and k's clock was corrected as often
pub record Counted (k n1 n2 : ℕ) (s t : List Line) : Type 0 where
  pub count : ℕ
  pub some : 0 < count
  pub number : n2 ≡ (n1 + count) % 32768
  pub corrects : count + all_corrects (dids (of k s)) ≤ all_corrects (dids (of k t))

-- where the correction f was acknowledged, k's clock was corrected since it began
pub acked_counts : (setting : Setting) (m k : ℕ) (q : Port) (f t : Did) (c p : Line) (fw wb aw past o : List Line) → Fits setting (line_on q t ∷ wb) →
    f.step.node ≡ m → Within (line_on q f ∷ fw) wb →
    Within aw wb → Within (c ∷ past) aw → node_of c ≡ k → ActsOn c past p o → node_of p ≡ m → OfSend k p o f (view q (of m fw)) →
    1 + all_corrects (dids (of k (line_on q f ∷ fw))) ≤ all_corrects (dids (of k (line_on q t ∷ wb)))
acked_counts setting m k q f t c p fw wb aw past o w f_node f_in a_in c_in c_node a p_node s =
    let c_wb : Within (c ∷ past) wb = Within_through (c ∷ past) aw wb c_in a_in in
    let wc = fits_at setting (c ∷ past) wb w.1 c_wb in
    let p_past : Within (p ∷ o) past = a.brings.place in
    let deed = subst (λ n. p.did.deed ≡ Acts (Post (Peer (peer_of n)) (Message a.brings.message))) c_node a.brings.deed in
    let x = send_place setting m k p o a.brings.message (fits_at setting (p ∷ o) past wc.1 p_past) p_node deed
    (numbered_by k p o f (view q (of m fw)) a.brings.message s deed) in
    let is' : begun_to (peer_of k) (Here p.did ∷ view p.port (of m o)) ≡ Here f ∷ view q (of m fw) =
    subst (λ n. begun_to (peer_of k) (Here p.did ∷ view p.port (of n o)) ≡ Here f ∷ view q (of m fw)) p_node s.is in
    let x_past : Within (line_on p.port x.first ∷ x.fw) past = Within_through (line_on p.port x.first ∷ x.fw) (p ∷ o) past x.place p_past in
    let same = seen_same m p.port q x.first f x.fw fw wb x.node f_node (Within_through (line_on p.port x.first ∷
    x.fw) past wb x_past (Within_tail c past wb c_wb)) f_in (sym x.is ∙ is') in
    let f_past : Within (line_on q f ∷ fw) past = subst (λ z. Within z past) same x_past in
    let one = since setting (of k (line_on q f ∷ fw)) (of k past) (own_fits setting k past wc.1) (Within_of k (line_on q f ∷ fw) past f_past) in
    let two = since setting (of k (c ∷ past)) (of k (line_on q t ∷ wb)) (own_fits setting k (line_on q t ∷ wb) w) (Within_of k (c ∷ past) (line_on q t ∷
    wb) (inr c_wb)) in
    let more : all_corrects (dids (of k (c ∷ past))) ≡ all_corrects (dids (of k past)) + 1 = ap (λ z. all_corrects (dids z)) (of_own k c past c_node) ∙
    rw a.correct refl in
    omega (arith, one.all, two.all)

-- what is known of a later correction t of port q of m to k, and an earlier one s
abbrev pub Fresh : ℕ → ℕ → Port → List Line → Type 0
Fresh m k q w = (t s : Did) (wb ws : List Line) (mt ms : MessageValue) → Within (line_on q t ∷ wb) w → t.step.node ≡ m →
    CorrectsTo (peer_of k) mt t (view q (of m wb)) → Within (line_on q s ∷ ws) wb → s.step.node ≡ m →
    CorrectsTo (peer_of k) ms s (view q (of m ws)) → OldBefore m k q (Here s ∷ view q (of m ws)) t wb ⊎
    Counted k ms.number mt.number (line_on q s ∷ ws) (line_on q t ∷ wb)

-- t begins after a rest
pub old_by_rest : (setting : Setting) (m k : ℕ) (q : Port) (t : Did) (wb : List Line) (start : List Seen) → OwnFits setting (of m wb) →
    Rests t (view q (of m wb)) (peer_of k) → boot_tick (dids (of m wb)) + QUIET ≤ t.tick → OldBefore m k q start t wb
old_by_rest setting m k q t wb start own rests boot p o msg w node deed kind is =
    let place = own_in m (line_on q p) o wb node w in
    let i = since setting (line_on q p ∷ of m o) (of m wb) own place in
    elim i.life [
      | inl one ↦ let last =
          last_post_late setting q (peer_of k) msg (line_on q p) (of m o) (of m wb) own deed kind (sees_own q (is_shared p.deed)) place one.lives in omega
          (arith, rests.long last.at last.is, last.by)
      | inr new ↦ omega (arith, new.boot)
    ]

-- a boot stands between s and t
pub old_by_boot : (setting : Setting) (m k : ℕ) (q : Port) (s t : Did) (ws wb : List Line) → Fits setting wb → s.tick ≤ boot_tick (dids (of m wb)) →
    boot_tick (dids (of m wb)) + QUIET ≤ t.tick → OldBefore m k q (Here s ∷ view q (of m ws)) t wb
old_by_boot setting m k q s t ws wb f early boot p o msg w node deed kind is =
    let fits = post_fits setting m (line_on q p) o (peer_of k) msg (fits_in setting (line_on q p) o wb f w) node deed kind in
    let d = send_is (peer_of k) p (view q (of m o)) msg deed (numbered msg.kind kind) fits.repeats in
    let e : Here d.first ∷ d.older ≡ Here s ∷ view q (of m ws) = sym d.is ∙ is in
    let line : d.first ≡ s = cc in
    let tick : d.first.tick ≡ s.tick = ap (λ (z : Did). z.tick) line in
    omega (arith, d.soon)

-- a post of an earlier send stands before the beginning of a later one
pub before_later : (m k : ℕ) (q : Port) (f s p : Did) (fw ws o wb : List Line) (mf : MessageValue) → f.step.node ≡ m → p.step.node ≡ m →
    CorrectsTo (peer_of k) mf f (view q (of m fw)) → Within (line_on q f ∷ fw) wb → Within (line_on q p ∷ o) wb →
    begun_to (peer_of k) (Here p ∷ view q (of m o)) ≡ Here s ∷ view q (of m ws) → Within (Here s ∷ view q (of m ws)) (view q (of m fw)) →
    Within (line_on q p ∷ o) fw
before_later m k q f s p fw ws o wb mf f_node p_node c f_in p_in is s_in = elim (Within_comparable (line_on q p ∷ o) (line_on q f ∷ fw) wb p_in f_in) [
  | inl (inl e) ↦ absurd (at_f e)
  | inl (inr i) ↦ i
  | inr (inl e) ↦ absurd (at_f (sym e))
  | inr (inr i) ↦ absurd (after (seen_in m (line_on q f) fw o f_node i))
] where
  -- the earlier send would begin where the later does, or after it
  not_late : Within (Here f ∷ view q (of m fw)) (Here s ∷ view q (of m ws)) → ⊥
  not_late = not_behind (Here s) (Here f) (view q (of m ws)) (view q (of m fw)) s_in

  at_f : (line_on q p ∷ o) ≡ line_on q f ∷ fw → ⊥
  at_f e =
      let line : line_on q p ≡ line_on q f = cc in
      let did : p ≡ f = ap (λ (z : Line). z.did) line in
      let rest : o ≡ fw = cc in
      let is' : begun_to (peer_of k) (Here f ∷ view q (of m fw)) ≡ Here s ∷ view q (of m ws) = subst₂ (λ x y. begun_to (peer_of k) (Here x ∷ view q (of m y)) ≡
      Here s ∷ view q (of m ws)) did rest is in
      not_late (inl (sym ((begun_of (peer_of k)).starts mf f (view q (of m fw)) (corrects_sends (peer_of k) mf f (view q (of m fw)) c)) ∙ is'))

  after : Within (Here f ∷ view q (of m fw)) (view q (of m o)) → ⊥
  after i = elim ((begun_of (peer_of k)).here p (view q (of m o)) s (view q (of m ws)) is) [
    | inl h ↦ not_late (inr (subst (λ z. Within (Here f ∷ view q (of m fw)) z) h.rest i))
    | inr e ↦ not_late
        (starts_late (begun_of (peer_of k)) mf f (view q (of m fw)) (view q (of m o)) s (view q (of m ws))
        (corrects_sends (peer_of k) mf f (view q (of m fw)) c) i e)
  ]
