-- A numbered send has few posts.
use Rattle.std.proofs.Common.{sym, ap, arith, subst, inl, inr, eq-eqb, ◌∙◌, ◌≡◌, ◌≤◌, ◌⊎◌, ℕ, ◌+◌, ◌==◌, ◌&&◌, if◌then◌else◌, Bool, true, false, List, [], ◌∷◌}
use Rattle.std.proofs.Common.{refl}
use Rattle.tsp_rules.specs.Values.{Boot, Post, Become, Acked, Gave, Message, PeerId, Peer, TRIES}
use Rattle.tsp_base.specs.Words.{Deed, Acts, Did, Line, Seen, Here, Elsewhere, of, view, MessageValue, acting, begun_to, is_numbered, open_to, open_to_after}
use Rattle.tsp_base.specs.Words.{posts_of, posts_of_after}
use Rattle.tsp_promises.specs.{Fits.Fits, Fits.node_of, Setting.Setting, Thrice.Thrice, Thrice.ThriceAt, Thrice.sent, Thrice.sent_after}
use Rattle.tsp_promises.{proofs.shared.EverywhereLemmas.Everywhere_from, proofs.shared.HistoryPlaces.line_on, specs.CorrectionFits.RepeatFits}
use Rattle.tsp_promises.proofs.{leads.Leaves.nil_cons, promised.OwnFitsProof.view_line, promised.OwnFitsProof.fits_at, shared.SendPlaces.repeats_in}
use Rattle.tsp_promises.proofs.{shared.SendPlaces.send_place}

-- what a send has had is what the open one has had, where one is open
abbrev Counted : List Seen → ℕ → ℕ → Type 0
Counted place had posts = (place ≡ []) ⊎ (had ≡ posts)

-- an end of the open send, or of another
ended : (b : Bool) (was : List Seen) (had posts : ℕ) → Counted was had posts → Counted (if b then [] else was) had (if b then 0 else posts)
ended true was had posts h = inl refl
ended false was had posts h = h

-- a post of the send, its first one or a repeat, or of another
posted : (mine numbered begins : Bool) (here was : List Seen) (had posts : ℕ) → Counted was had posts →
    Counted (if mine && (numbered && begins) then here else was) (if mine && numbered then (if begins then 1 else had + 1) else had)
    (if mine && numbered then (if begins then 1 else posts + 1) else posts)
posted true true true here was had posts h = inr refl
posted true true false here was had posts h = elim h [
  | inl e ↦ inl e
  | inr e ↦ inr (ap (λ n. n + 1) e)
]
posted true false begins here was had posts h = h
posted false numbered begins here was had posts h = h

counted_deed : (p : PeerId) (d : Did) (before : List Seen) (deed : Deed) → Counted (open_to p before) (sent p before) (posts_of p before) →
    Counted (open_to_after p deed (acting before) (Here d ∷ before) (open_to p before)) (sent_after p deed (acting before) (sent p before))
    (posts_of_after p deed (acting before) (posts_of p before))
counted_deed p d before (Acts Boot) h = inl refl
counted_deed p d before (Acts (Become r)) h = inl refl
counted_deed p d before (Acts (Post (Peer q) (Message m))) h = posted (q.0 == p.0) (is_numbered m.kind) (acting before) (Here d ∷
    before) (open_to p before) (sent p before) (posts_of p before) h
counted_deed p d before (Acts (Acked q)) h = ended (q.0 == p.0) (open_to p before) (sent p before) (posts_of p before) h
counted_deed p d before (Acts (Gave q)) h = ended (q.0 == p.0) (open_to p before) (sent p before) (posts_of p before) h
counted_deed p d before _ h = h

counted : (p : PeerId) (seen : List Seen) → Counted (open_to p seen) (sent p seen) (posts_of p seen)
counted p [] = inl refl
counted p (Elsewhere d ∷ before) = counted p before
counted p (Here d ∷ before) = counted_deed p d before d.deed (counted p before)

-- an open send has had as many posts as are counted
open_had : (p : PeerId) (seen : List Seen) (first : Did) (older : List Seen) → open_to p seen ≡ Here first ∷ older → sent p seen ≡ posts_of p seen
open_had p seen first older e = elim (counted p seen) [
  | inl none ↦ nil_cons (Here first) older (sym none ∙ e)
  | inr same ↦ same
]

few_posts : (p : PeerId) (m : MessageValue) (post : Did) (before : List Seen) → post.deed ≡ Acts (Post (Peer p) (Message m)) → is_numbered m.kind ≡ true →
    (acting before ≡ false → RepeatFits post before p m) → sent p (Here post ∷ before) ≤ TRIES
few_posts p m post before is kind repeats = by_case (acting before) refl where
  by_case : (b : Bool) → acting before ≡ b → sent p (Here post ∷ before) ≤ TRIES
  by_case true e =
      let one : sent p (Here post ∷ before) ≡ 1 = rw is (rw (eq-eqb p.0 p.0 refl, kind, e) refl) in
      omega (arith, one)
  by_case false e =
      let h = repeats e in
      let more : sent p (Here post ∷ before) ≡ sent p before + 1 = rw is (rw (eq-eqb p.0 p.0 refl, kind, e) refl) in
      let had = open_had p before h.first h.older h.is in
      let few = h.few in
      omega (arith, more, had, few)

pub thrice : (setting : Setting) (world : List Line) → Fits setting world → Thrice world
thrice setting whole h = Everywhere_from ThriceAt whole (λ l world w p m is kind.
    let f = fits_at setting (l ∷ world) whole h w in
    let n = node_of l in
    let s = send_place setting n p.0 l world m f refl is kind in
    let seen : view l.port (of n (l ∷ world)) ≡ Here l.did ∷ view l.port (of n world) = view_line n l world refl in
    record {
      first = line_on l.port s.first;
      older = s.fw;
      place = s.place;
      node = s.node;
      port = refl;
      begins = s.sends.begins;
      is = ap (begun_to p) seen ∙ s.is;
      same = s.sends.deed ∙ sym is;
      soon = s.ticks;
      few = subst (λ k. sent p k ≤ TRIES) (sym seen) (few_posts p m l.did (view l.port (of n world)) is kind
          (repeats_in setting n l world p m f.0 refl is kind));
    })
