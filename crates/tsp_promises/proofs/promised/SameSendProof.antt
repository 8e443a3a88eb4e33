-- A post with the open send's number, posted not long ago, is of the open send: by induction over the corrections to
-- one peer, a later one has another number or comes long after, since the peer's clock was corrected for each between.
use Rattle.std.proofs.Common.{sym, arith, subst, inl, inr, eqb-true, ◌≡◌, ◌==◌, Bool, true, false, ℕ, ◌+◌, ◌*◌, ◌<◌, ◌≤◌, List, [], ◌∷◌, refl, ap, true≢false}
use Rattle.std.proofs.Common.{◌∙◌, ◌&&◌, cond, subst₂, ◌%◌, ◌⊎◌}
use Rattle.std.proofs.lemmas.Bool.{cases_lt, and_parts}
use Rattle.tsp_rules.specs.Values.{Boot, Correct, GAP, Post, Become, Acked, Gave, Message, PeerId, Peer, Port, QUIET}
use Rattle.tsp_rules.proofs.GuardFacts.{same_peer}
use Rattle.tsp_base.specs.Words.{Deed, Acts, Did, Line, of, dids, all_corrects, last_correct, time_of, Within, Seen, Here, Elsewhere, acting}
use Rattle.tsp_base.specs.Words.{is_correction, is_numbered, open_to, open_to_after, last_to, last_to_after, is_acknowledged, is_acknowledged_after}
use Rattle.tsp_base.specs.Words.{corrects_by, message_at, message_of, view, MessageValue, boot_tick, tick_of, peer_of, begun_to}
use Rattle.tsp_base.proofs.PlaceLemmas.{Within_none, Within_tail, Within_through, Within_comparable}
use Rattle.tsp_base.proofs.Views.{plain_view}
use Rattle.tsp_promises.proofs.promised.OwnFitsProof.{own_fits, place_time, tick_is, fits_at, of_tick, own_tick, locate, seen_in, tick_in, seen_before}
use Rattle.tsp_promises.proofs.promised.OwnFitsProof.{seen_same}
use Rattle.tsp_promises.proofs.promised.SendProof.{numbered, CorrectsTo, one_message, BeginsSend, begun_of, last_of, open_begun, sends_correct, starts_at}
use Rattle.tsp_promises.proofs.promised.SendProof.{starts_late}
use Rattle.tsp_promises.proofs.promised.FreshProof.{OldBefore, Counted, Fresh, acked_counts, old_by_rest, old_by_boot, before_later}
use Rattle.tsp_promises.specs.{CorrectionFits.Follows, Fits.Fits, Fits.node_of, Once.ConfirmedAt, Once.OnceConfirmed, OwnFits.OwnFits, Setting.Setting}
use Rattle.tsp_promises.proofs.{promised.SinceProof.ApartIf, promised.SinceProof.apart_if, promised.SinceProof.last_by, promised.SinceProof.since}
use Rattle.tsp_promises.proofs.{shared.HistoryPlaces.line_on, shared.HistoryPlaces.not_behind}
use Rattle.tsp_promises.proofs.{shared.HistoryPlaces.own_in, shared.SendPlaces.post_fits, shared.SendPlaces.send_place, shared.Clocks.tick_mono}
use Rattle.tsp_promises.proofs.{shared.Clocks.near}
use Rattle.tsp_promises.proofs.{shared.EverywhereLemmas.Everywhere_at}

-- each Correct after the place s costs GAP, counted from the tick `low`
pub record SpacedFrom (low : ℕ) (s t : List Did) : Type 0 where
  pub all : all_corrects s ≤ all_corrects t
  pub spaced : all_corrects s < all_corrects t → low + all_corrects t * GAP ≤ last_correct t + (all_corrects s + 1) * GAP

spaced_deed : (low : ℕ) (s t : List Did) (d : Did) (deed : Deed) → low ≤ d.tick → last_correct t ≤ d.tick → ApartIf deed d t → SpacedFrom low s t →
    SpacedFrom low s (record { step = d.step; tick = d.tick; deed = deed } ∷ t)
spaced_deed low s t d (Acts Boot) by last f h = record { all = h.all; spaced = λ q. omega (arith, h.spaced q) }
spaced_deed low s t d (Acts (Correct amount stepped shown)) by last f h = record {
  all = omega (arith, h.all);
  spaced = λ q. elim (cases_lt (all_corrects s) (all_corrects t)) [
    | inl more ↦ omega (arith, h.spaced more, f.gap)
    | inr none ↦ omega (arith, h.all)
  ];
}
spaced_deed low s t d _ by last f h = record { all = h.all; spaced = h.spaced }

spaced_more : (setting : Setting) (low k : ℕ) (s : List Did) (l : Line) (h : List Line) (b : Bool) → (node_of l == k) ≡ b → Fits setting (l ∷ h) →
    low ≤ setting.tick k l.did.step.at → SpacedFrom low s (dids (of k h)) → SpacedFrom low s (dids (of k (l ∷ h)))
spaced_more setting low k s l h true e f by i =
    let tick = tick_is setting k l h (eqb-true (node_of l) k e) f.0 in
    let own : OwnFits setting (l ∷ of k h) = rw e at (own_fits setting k (l ∷ h) f) in
    let last = last_by setting (of k h) own.1 in
    rw e (spaced_deed low s (dids (of k h)) l.did l.did.deed (omega arith) (omega (arith, own.0.tick)) (apart_if setting l (of k h) own.0) i)
spaced_more setting low k s l h false e f by i = rw e i

pub spaced_from : (setting : Setting) (k : ℕ) (s h : List Line) → Fits setting h → Within s h →
    SpacedFrom (setting.tick k (time_of (dids s))) (dids (of k s)) (dids (of k h))
spaced_from setting k s [] f e = subst (λ w. SpacedFrom (setting.tick k (time_of (dids w))) (dids (of k w)) []) (sym e) (record {
  all = omega arith;
  spaced = λ q. omega arith;
})
spaced_from setting k s (l ∷ h) f (inl e) = subst (λ w. SpacedFrom (setting.tick k (time_of (dids w))) (dids (of k w)) (dids (of k (l ∷ h)))) (sym e)
    (record { all = omega arith; spaced = λ q. omega arith })
spaced_from setting k s (l ∷ h) f (inr w) =
    spaced_more setting (setting.tick k (time_of (dids s))) k (dids (of k s)) l h (node_of l == k) refl f
    (tick_mono setting k (time_of (dids s)) l.did.step.at (omega (arith, place_time setting s h f.1 w, f.0.order))) (spaced_from setting k s h f.1 w)

last_of_post : (peer number correct begins : Bool) (d : Did) (before now last : List Seen) → (correct ≡ true → number ≡ true) →
    (corrects_by (message_at (Here d ∷ before)) ≡ correct) →
    (corrects_by (message_at now) ≡ true → last ≡ now) → corrects_by (message_at (cond (peer && (number && begins)) (Here d ∷ before) now)) ≡ true →
    cond (peer && (correct && begins)) (Here d ∷ before) last ≡ cond (peer && (number && begins)) (Here d ∷ before) now
last_of_post false number correct begins d before now last n c h e = h e
last_of_post true true true begins d before now last n c h e = both begins e where
  both : (b : Bool) → corrects_by (message_at (cond b (Here d ∷ before) now)) ≡ true → cond b (Here d ∷ before) last ≡ cond b (Here d ∷ before) now
  both true e = refl
  both false e = h e
last_of_post true true false true d before now last n c h e = absurd (true≢false (sym e ∙ c))
last_of_post true true false false d before now last n c h e = h e
last_of_post true false true begins d before now last n c h e = absurd (true≢false (sym (n refl)))
last_of_post true false false begins d before now last n c h e = h e

last_of_end : (b : Bool) (now last : List Seen) → (corrects_by (message_at now) ≡ true → last ≡ now) → corrects_by (message_at (cond b [] now)) ≡ true → last ≡
    cond b [] now
last_of_end true now last h e = absurd (true≢false (sym e))
last_of_end false now last h e = h e

last_of_deed : (p : PeerId) (d : Did) (before : List Seen) (deed : Deed) → deed ≡ d.deed → (corrects_by (message_at (open_to p before)) ≡ true →
    last_to p before ≡ open_to p before) →
    corrects_by (message_at (open_to_after p deed (acting before) (Here d ∷ before) (open_to p before))) ≡ true →
    last_to_after p deed (acting before) (Here d ∷ before) (last_to p before) ≡ open_to_after p deed (acting before) (Here d ∷ before) (open_to p before)
last_of_deed p d before (Acts Boot) is h e = absurd (true≢false (sym e))
last_of_deed p d before (Acts (Become r)) is h e = absurd (true≢false (sym e))
last_of_deed p d before (Acts (Post (Peer q) (Message m))) is h e =
    last_of_post (q.0 == p.0) (is_numbered m.kind) (is_correction m.kind) (acting before) d before (open_to p before) (last_to p before) (numbered m.kind)
    (ap (λ k. corrects_by (message_of k)) (sym is)) h e
last_of_deed p d before (Acts (Acked q)) is h e = last_of_end (q.0 == p.0) (open_to p before) (last_to p before) h e
last_of_deed p d before (Acts (Gave q)) is h e = last_of_end (q.0 == p.0) (open_to p before) (last_to p before) h e
last_of_deed p d before _ is h e = h e

pub open_last : (p : PeerId) (seen : List Seen) → corrects_by (message_at (open_to p seen)) ≡ true → last_to p seen ≡ open_to p seen
open_last p [] e = refl
open_last p (Elsewhere d ∷ before) e = open_last p before e
open_last p (Here d ∷ before) e = last_of_deed p d before d.deed refl (open_last p before) e

-- the last correction that began was acknowledged
pub record AckedAt (p : PeerId) (last seen : List Seen) : Type 0 where
  pub acked : Did
  pub rest : List Seen
  pub place : Within (Here acked ∷ rest) seen
  pub deed : acked.deed ≡ Acts (Acked p)
  pub is : open_to p rest ≡ last

acked_before : (p : PeerId) (last : List Seen) (s : Seen) (seen : List Seen) → AckedAt p last seen → AckedAt p last (s ∷ seen)
acked_before p last s seen a = record { acked = a.acked; rest = a.rest; place = inr a.place; deed = a.deed; is = a.is }

acked_deed : (p : PeerId) (d : Did) (before : List Seen) (deed : Deed) → deed ≡ d.deed →
    (is_acknowledged p before ≡ true → AckedAt p (last_to p before) before) →
    is_acknowledged_after p deed (acting before) (corrects_by (message_at (open_to p before))) (is_acknowledged p before) ≡ true →
    AckedAt p (last_to_after p deed (acting before) (Here d ∷ before) (last_to p before)) (Here d ∷ before)
acked_deed p d before (Acts Boot) is h e = absurd (true≢false (sym e))
acked_deed p d before (Acts (Post (Peer q) (Message m))) is h e = by_test ((q.0 == p.0) && (is_correction m.kind && acting before)) e where
  by_test : (b : Bool) → cond b false (is_acknowledged p before) ≡ true → AckedAt p (cond b (Here d ∷ before) (last_to p before)) (Here d ∷ before)
  by_test true e = absurd (true≢false (sym e))
  by_test false e = acked_before p (last_to p before) (Here d) before (h e)
acked_deed p d before (Acts (Acked q)) is h e = by_test ((q.0 == p.0) && corrects_by (message_at (open_to p before))) refl e where
  by_test : (b : Bool) → ((q.0 == p.0) && corrects_by (message_at (open_to p before))) ≡ b → cond b true (is_acknowledged p before) ≡ true →
      AckedAt p (last_to p before) (Here d ∷ before)
  by_test true b e =
      let one = and_parts (q.0 == p.0) (corrects_by (message_at (open_to p before))) b in
      record { acked = d; rest = before; place = inl refl; deed = sym is ∙ ap (λ r. Acts (Acked r)) (same_peer q p one.0); is = sym (open_last p before one.1) }
  by_test false b e = acked_before p (last_to p before) (Here d) before (h e)
acked_deed p d before _ is h e = acked_before p (last_to p before) (Here d) before (h e)

pub acked_at : (p : PeerId) (seen : List Seen) → is_acknowledged p seen ≡ true → AckedAt p (last_to p seen) seen
acked_at p [] e = absurd (true≢false (sym e))
acked_at p (Elsewhere d ∷ before) e = acked_before p (last_to p before) (Elsewhere d) before (acked_at p before e)
acked_at p (Here d ∷ before) e = acked_deed p d before d.deed refl (acked_at p before) e

-- the Correct that the acknowledgment confirms stands between f and t
counts_between : (setting : Setting) (m k : ℕ) (q : Port) (t f acked : Did) (wb fw aw : List Line) (mf : MessageValue) → Fits setting (line_on q t ∷ wb) →
    OnceConfirmed wb → f.step.node ≡ m → Within (line_on q f ∷ fw) wb →
    CorrectsTo (peer_of k) mf f (view q (of m fw)) → Within (line_on q acked ∷ aw) wb → acked.step.node ≡ m → acked.deed ≡ Acts (Acked (peer_of k)) →
    open_to (peer_of k) (view q (of m aw)) ≡ Here f ∷ view q (of m fw) →
    1 + all_corrects (dids (of k (line_on q f ∷ fw))) ≤ all_corrects (dids (of k (line_on q t ∷ wb)))
counts_between setting m k q t f acked wb fw aw mf w h f_node f_in c a_in a_node deed is =
    let d = Everywhere_at ConfirmedAt (line_on q acked) aw wb h a_in in
    let z = d (peer_of k) f (view q (of m fw)) mf deed (subst (λ n. open_to (peer_of k) (view q (of n aw)) ≡ Here f ∷ view q (of m fw)) (sym a_node) is) c.deed
    c.kind in
    acked_counts setting m k q f t z.correct z.post fw wb aw z.past z.older w f_node f_in (Within_tail (line_on q acked) aw wb a_in) z.place z.node z.acts
    (z.from ∙ a_node) z.of_send

-- t begins because the last correction f was acknowledged
fresh_follows : (setting : Setting) (m k : ℕ) (q : Port) (t s f acked : Did) (wb ws fw aw : List Line) (mt ms mf : MessageValue) →
    Fits setting (line_on q t ∷ wb) → OnceConfirmed wb → Fresh m k q wb → s.step.node ≡ m →
    CorrectsTo (peer_of k) ms s (view q (of m ws)) → Within (line_on q s ∷ ws) wb → f.step.node ≡ m → Within (line_on q f ∷ fw) wb →
    CorrectsTo (peer_of k) mf f (view q (of m fw)) → Within (line_on q acked ∷ aw) wb → acked.step.node ≡ m →
    acked.deed ≡ Acts (Acked (peer_of k)) → open_to (peer_of k) (view q (of m aw)) ≡ Here f ∷ view q (of m fw) → mt.number ≡ (mf.number + 1) % 32768 →
    f.tick ≤ t.tick → Within (Here s ∷ view q (of m ws)) (Here f ∷ view q (of m fw)) →
    OldBefore m k q (Here s ∷ view q (of m ws)) t wb ⊎ Counted k ms.number mt.number (line_on q s ∷ ws) (line_on q t ∷ wb)
fresh_follows setting m k q t s f acked wb ws fw aw mt ms mf w h ih s_node cs s_in f_node f_in cf a_in a_node a_deed a_is number order (inl e) =
    let same = seen_same m q q s f ws fw wb s_node f_node s_in f_in e in
    let did : f ≡ s = cc in
    let message : mf ≡ ms = one_message (peer_of k) (peer_of k) mf ms (sym cf.deed ∙ (ap (λ (z : Did). z.deed) did ∙ cs.deed)) in
    let one = counts_between setting m k q t f acked wb fw aw mf w h f_node f_in cf a_in a_node a_deed a_is in
    inr (record {
      count = 1;
      some = omega arith;
      number = subst (λ z. mt.number ≡ (z.number + 1) % 32768) message number;
      corrects = subst (λ z. 1 + all_corrects (dids (of k z)) ≤ all_corrects (dids (of k (line_on q t ∷ wb)))) (sym same) one;
    })
fresh_follows setting m k q t s f acked wb ws fw aw mt ms mf w h ih s_node cs s_in f_node f_in cf a_in a_node a_deed a_is number order (inr i) =
    let before = seen_before m q s f ws fw wb s_node f_node s_in f_in i in
    let one = counts_between setting m k q t f acked wb fw aw mf w h f_node f_in cf a_in a_node a_deed a_is in
    elim (ih f s fw ws mf ms f_in f_node cf before s_node cs) [
      | inl old ↦ inl (λ p o msg p_in p_node deed kind is.
          let x = before_later m k q f s p fw ws o wb mf f_node p_node cf f_in p_in is i in
          omega (arith, old p o msg x p_node deed kind is))
      | inr c ↦ inr (record { count = c.count + 1; some = omega arith; number = omega (arith, c.number); corrects = omega (arith, c.corrects) })
    ]

-- with the places of the last correction and its Acked
fresh_last : (setting : Setting) (m k : ℕ) (q : Port) (t s : Did) (wb ws : List Line) (mt ms : MessageValue) → Fits setting (line_on q t ∷ wb) →
    OnceConfirmed wb → Fresh m k q wb → t.step.node ≡ m → s.step.node ≡ m → CorrectsTo (peer_of k) ms s (view q (of m ws)) →
    Within (line_on q s ∷ ws) wb → Follows (view q (of m wb)) (peer_of k) mt →
    OldBefore m k q (Here s ∷ view q (of m ws)) t wb ⊎ Counted k ms.number mt.number (line_on q s ∷ ws) (line_on q t ∷ wb)
fresh_last setting m k q t s wb ws mt ms w h ih t_node s_node cs s_in g =
    let pk = peer_of k in
    let seen = view q (of m wb) in
    let s_seen : Within (Here s ∷ view q (of m ws)) seen = seen_in m (line_on q s) ws wb s_node s_in in
    let last = starts_at (last_of pk) seen g.last g.older g.is in
    let late = starts_late (last_of pk) ms s (view q (of m ws)) seen g.last g.older cs s_seen g.is in
    let lf = locate m q wb g.last g.older (rw last.begins.deed refl) last.place in
    let a = acked_at pk seen g.acknowledged in
    let la = locate m q wb a.acked a.rest (rw a.deed refl) a.place in
    let message : last.message ≡ g.message = one_message pk pk last.message g.message (sym last.begins.deed ∙ g.deed) in
    let j = since setting (line_on q g.last ∷ of m lf.older) (of m wb) (own_fits setting m wb w.1) (own_in m (line_on q g.last) lf.older wb lf.node lf.place) in
    let by : tick_of (dids (of m wb)) ≤ t.tick = subst (λ n. tick_of (dids (of n wb)) ≤ t.tick) t_node (own_tick setting (line_on q t) wb w) in
    let open_is : open_to pk (view q (of m la.older)) ≡ Here g.last ∷ view q (of m lf.older) = ap (open_to pk) la.before ∙
    (a.is ∙ (g.is ∙ ap (λ z. Here g.last ∷ z) (sym lf.before))) in
    fresh_follows setting m k q t s g.last a.acked wb ws lf.older la.older mt ms last.message w h ih s_node cs s_in lf.node lf.place
    (record { deed = last.begins.deed; kind = last.begins.kind; begins = subst (λ z. acting z ≡ true) (sym lf.before) last.begins.begins })
    la.place la.node a.deed open_is (subst (λ z. mt.number ≡ (z.number + 1) % 32768) (sym message) g.number) (omega (arith, j.tick))
    (subst (λ z. Within (Here s ∷ view q (of m ws)) (Here g.last ∷ z)) (sym lf.before) late)

fresh_here : (setting : Setting) (m k : ℕ) (q : Port) (t s : Did) (wb ws : List Line) (mt ms : MessageValue) → Fits setting (line_on q t ∷ wb) →
    OnceConfirmed wb → Fresh m k q wb → t.step.node ≡ m → CorrectsTo (peer_of k) mt t (view q (of m wb)) →
    Within (line_on q s ∷ ws) wb → s.step.node ≡ m → CorrectsTo (peer_of k) ms s (view q (of m ws)) → OldBefore m k q (Here s ∷ view q (of m ws)) t wb ⊎
    Counted k ms.number mt.number (line_on q s ∷ ws) (line_on q t ∷ wb)
fresh_here setting m k q t s wb ws mt ms w h ih t_node ct s_in s_node cs =
    let own = own_fits setting m wb w.1 in
    let i = since setting (line_on q s ∷ of m ws) (of m wb) own (own_in m (line_on q s) ws wb s_node s_in) in
    let fits = post_fits setting m (line_on q t) wb (peer_of k) mt w.0 t_node ct.deed ct.kind in
    let b = fits.begins ct.begins in
    let rested : boot_tick (dids (of m wb)) + QUIET ≤ t.tick = subst (λ z. boot_tick z + QUIET ≤ t.tick) (plain_view q (of m wb)) b.rested in
    elim i.life [
      | inr new ↦ inl (old_by_boot setting m k q s t ws wb w.1 new.boot rested)
      | inl one ↦ elim b.may [
        | inl rests ↦ inl (old_by_rest setting m k q t wb (Here s ∷ view q (of m ws)) own rests rested)
        | inr g ↦ fresh_last setting m k q t s wb ws mt ms w h ih t_node s_node cs s_in g
      ]
    ]

pub fresh : (setting : Setting) (m k : ℕ) (q : Port) (w : List Line) → Fits setting w → OnceConfirmed w → Fresh m k q w
fresh setting m k q [] f h t s wb ws mt ms t_in t_node ct s_in s_node cs = Within_none (line_on q t) wb t_in
fresh setting m k q (x ∷ w) f h t s wb ws mt ms (inl e) t_node ct s_in s_node cs =
    let line : x ≡ line_on q t = cc in
    let rest : w ≡ wb = cc in
    fresh_here setting m k q t s wb ws mt ms (subst₂ (λ a b. Fits setting (a ∷ b)) line rest f) (subst (λ b. OnceConfirmed b) rest h.1)
    (subst (λ b. Fresh m k q b) rest (fresh setting m k q w f.1 h.1)) t_node ct s_in s_node cs
fresh setting m k q (x ∷ w) f h t s wb ws mt ms (inr i) t_node ct s_in s_node cs = fresh setting m k q w f.1 h.1 t s wb ws mt ms i t_node ct s_in s_node cs

-- 32,768 corrections of a clock take hours
few_corrects : (setting : Setting) (k : ℕ) (q : Port) (s f : Did) (sw fw : List Line) (count n1 n2 : ℕ) → Fits setting (line_on q f ∷ fw) →
    Within (line_on q s ∷ sw) fw → f.step.at ≤ s.step.at + 64004007 → n1 ≡ n2 → n2 < 32768 →
    0 < count → n2 ≡ (n1 + count) % 32768 → count + all_corrects (dids (of k (line_on q s ∷ sw))) ≤ all_corrects (dids (of k (line_on q f ∷ fw))) → ⊥
few_corrects setting k q s f sw fw count n1 n2 w s_in soon same small some number counts =
    let i = spaced_from setting k (line_on q s ∷ sw) (line_on q f ∷ fw) w (inr s_in) in
    let last = last_by setting (of k (line_on q f ∷ fw)) (own_fits setting k (line_on q f ∷ fw) w) in
    let tick = of_tick setting k (line_on q f ∷ fw) w in
    let order : s.step.at ≤ f.step.at = place_time setting (line_on q s ∷ sw) (line_on q f ∷ fw) w (inr s_in) in
    let n = near setting k s.step.at f.step.at order in
    let most = n.most in
    omega (arith, i.spaced (omega arith))

-- an earlier send with the same number was posted last long ago
not_recent : (setting : Setting) (m k : ℕ) (q : Port) (world : List Line) (f s p : Did) (fw sw o : List Line) (mf ms : MessageValue) → Fits setting world →
    OnceConfirmed world → Within (line_on q f ∷ fw) world → f.step.node ≡ m →
    CorrectsTo (peer_of k) mf f (view q (of m fw)) → Within (line_on q s ∷ sw) fw → s.step.node ≡ m → CorrectsTo (peer_of k) ms s (view q (of m sw)) →
    Within (line_on q p ∷ o) world → p.step.node ≡ m →
    p.deed ≡ Acts (Post (Peer (peer_of k)) (Message ms)) → begun_to (peer_of k) (Here p ∷ view q (of m o)) ≡ Here s ∷ view q (of m sw) →
    p.step.at ≤ s.step.at + 4004007 → ms.number ≡ mf.number → mf.number < 32768 → f.step.at ≤ p.step.at + 60000000 → ⊥
not_recent setting m k q world f s p fw sw o mf ms w h f_in f_node cf s_in s_node cs p_in p_node p_deed is soon same small recent =
    let wf = fits_at setting (line_on q f ∷ fw) world w f_in in
    let p_fw = before_later m k q f s p fw sw o world mf f_node p_node cf f_in p_in is (seen_in m (line_on q s) sw fw s_node s_in) in
    let order : p.step.at ≤ f.step.at = place_time setting (line_on q p ∷ o) (line_on q f ∷ fw) wf (inr p_fw) in
    let tick_f : f.tick ≡ setting.tick m f.step.at = tick_in setting m (line_on q f) fw world w f_node f_in in
    let tick_p : p.tick ≡ setting.tick m p.step.at = tick_in setting m (line_on q p) o world w p_node p_in in
    let n = near setting m p.step.at f.step.at order in
    elim (fresh setting m k q world w h f s fw sw mf ms f_in f_node cf s_in s_node cs) [
      | inl old ↦ (let z = old p o ms p_fw p_node p_deed cs.kind is in let most = n.most in omega arith)
      | inr c ↦ few_corrects setting k q s f sw fw c.count ms.number mf.number wf s_in (omega arith) same small c.some c.number c.corrects
    ]

-- the post is of the send that begins at f
pub record SameSend (m k : ℕ) (q : Port) (f p : Did) (fw o : List Line) : Type 0 where
  pub is : begun_to (peer_of k) (Here p ∷ view q (of m o)) ≡ Here f ∷ view q (of m fw)
  pub place : Within (line_on q f ∷ fw) (line_on q p ∷ o)

same_here : (m k : ℕ) (q : Port) (f p s : Did) (fw o sw : List Line) → Within (line_on q s ∷ sw) (line_on q p ∷ o) →
    begun_to (peer_of k) (Here p ∷ view q (of m o)) ≡ Here s ∷ view q (of m sw) → line_on q s ∷ sw ≡ line_on q f ∷ fw → SameSend m k q f p fw o
same_here m k q f p s fw o sw place is e =
    let line : line_on q s ≡ line_on q f = cc in
    let did : s ≡ f = ap (λ (z : Line). z.did) line in
    let rest : sw ≡ fw = cc in
    record {
      is = subst₂ (λ x y. begun_to (peer_of k) (Here p ∷ view q (of m o)) ≡ Here x ∷ view q (of m y)) did rest is;
      place = subst (λ x. Within x (line_on q p ∷ o)) e place;
    }

pub too-late : (m k : ℕ) (q : Port) (f s : Did) (fw sw world : List Line) (mp : MessageValue) → open_to (peer_of k) (view q (of m world)) ≡ Here f ∷
    view q (of m fw) → Within (Here s ∷ view q (of m sw)) (view q (of m world)) → BeginsSend (peer_of k) mp s (view q (of m sw)) →
    Within (Here f ∷ view q (of m fw)) (view q (of m sw)) → ⊥
too-late m k q f s fw sw world mp open_is place c i =
    let begun = open_begun (peer_of k) (view q (of m world)) (Here f) (view q (of m fw)) open_is in
    not_behind (Here f) (Here s) (view q (of m fw)) (view q (of m sw)) i
    (starts_late (begun_of (peer_of k)) mp s (view q (of m sw)) (view q (of m world)) f (view q (of m fw)) c place begun)

pub same_send : (setting : Setting) (m k : ℕ) (q : Port) (world : List Line) (f p : Did) (fw o : List Line) (mf mp : MessageValue) → Fits setting world →
    OnceConfirmed world → Within (line_on q f ∷ fw) world → f.step.node ≡ m →
    CorrectsTo (peer_of k) mf f (view q (of m fw)) → open_to (peer_of k) (view q (of m world)) ≡ Here f ∷ view q (of m fw) → Within (line_on q p ∷ o) world →
    p.step.node ≡ m → p.deed ≡ Acts (Post (Peer (peer_of k)) (Message mp)) →
    is_correction mp.kind ≡ true → mp.number ≡ mf.number → mf.number < 32768 → f.step.at ≤ p.step.at + 60000000 → SameSend m k q f p fw o
same_send setting m k q world f p fw o mf mp w h f_in f_node cf open_is p_in p_node p_deed p_kind same small recent =
    let s = send_place setting m k (line_on q p) o mp (fits_at setting (line_on q p ∷ o) world w p_in) p_node p_deed (numbered mp.kind p_kind) in
    let c = sends_correct (peer_of k) mp s.first (view q (of m s.fw)) s.sends p_kind in
    let s_in : Within (line_on q s.first ∷ s.fw) world = Within_through (line_on q s.first ∷ s.fw) (line_on q p ∷ o) world s.place p_in in
    elim (Within_comparable (line_on q s.first ∷ s.fw) (line_on q f ∷ fw) world s_in f_in) [
      | inl (inl e) ↦ same_here m k q f p s.first fw o s.fw s.place s.is e
      | inl (inr i) ↦ absurd (not_recent setting m k q world f s.first p fw s.fw o mf mp w h f_in f_node cf i s.node c p_in p_node p_deed s.is s.soon same small
          recent)
      | inr (inl e) ↦ same_here m k q f p s.first fw o s.fw s.place s.is (sym e)
      | inr (inr i) ↦ absurd (too-late m k q f s.first fw s.fw world mp open_is (seen_in m (line_on q s.first) s.fw world s.node s_in) s.sends
          (seen_in m (line_on q f) fw s.fw f_node i))
    ]
