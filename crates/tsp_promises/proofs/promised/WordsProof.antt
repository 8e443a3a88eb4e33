-- A boot gives the node another word. A request is named by its port and counter, in the life of its node. How many
-- requests a port has posted.
use Rattle.std.proofs.Common.{sym, ap, arith, subst, subst₂, inl, inr, true≢false, ◌∙◌, ◌≡◌, ◌≢◌, ◌==◌, Bool, true, false, ℕ, ◌<◌, ℤ, pos, ◌+ℤ◌, List, [], ◌∷◌}
use Rattle.std.proofs.Common.{refl, ◌||◌, ◌≤◌, ◌+◌, ◌%◌, ◌^◌, ◌⊎◌}
use Rattle.tsp_rules.specs.Values.{Boot, Post, Stamp, Port, Request, PeerId, Peer, QUIET}
use Rattle.tsp_base.specs.Words.{Booted, Deed, Begins, Acts, Line, of, dids, lives, lives_after, up, up_after, word, word_after, Within, Did, Seen, view}
use Rattle.tsp_base.specs.Words.{seen_as, is_shared, asked, asked_after, posted, posted_after, plain, boot_tick, tick_of}
use Rattle.tsp_base.proofs.PlaceLemmas.{Within_all, Within_through, Within_comparable, Within_tail}
use Rattle.tsp_base.proofs.Views.{plain_view}
use Rattle.tsp_promises.proofs.promised.OwnFitsProof.{node_walk, own_fits, own_fits_at, tick_in, view_line, fits_at, place_time, deed_fits}
use Rattle.tsp_promises.proofs.{shared.EverywhereLemmas.Everywhere_at, shared.EverywhereLemmas.Everywhere_from, shared.EverywhereLemmas.Everywhere_within}
use Rattle.tsp_promises.proofs.{promised.ClockProof.post_up}
use Rattle.tsp_promises.proofs.{shared.Clocks.near, shared.HistoryPlaces.own_in, shared.HistoryPlaces.of_own, shared.HistoryPlaces.Within_of}
use Rattle.tsp_promises.proofs.{promised.SinceProof.since, promised.SinceProof.still_lives}
use Rattle.tsp_promises.specs.{MeasureFits.RequestFits, Premises.OwnWords, Premises.OwnWordsAt, Premises.Words, Premises.WordsAt, Fits.Fits, Fits.LineFits}
use Rattle.tsp_promises.specs.{Fits.Alive, Fits.node_of, OwnFits.OwnFits, Setting.Setting}

-- a boot of the node with this word, the so many-th
pub record BootOf (n : ℕ) (world : List Line) (w count : ℕ) : Type 0 where
  pub line : Line
  pub older : List Line
  pub place : Within (line ∷ older) world
  pub node : node_of line ≡ n
  pub deed : line.did.deed ≡ Acts Boot
  pub wall : ℤ
  pub cause : line.did.step.cause ≡ Booted w wall
  pub lives : lives (dids (line ∷ of n older)) ≡ count

boot_before : (n : ℕ) (l : Line) (world : List Line) (w count : ℕ) → BootOf n world w count → BootOf n (l ∷ world) w count
boot_before n l world w count b = record {
  line = b.line;
  older = b.older;
  place = inr b.place;
  node = b.node;
  deed = b.deed;
  wall = b.wall;
  cause = b.cause;
  lives = b.lives;
}

boot_deed : (setting : Setting) (n : ℕ) (l : Line) (world : List Line) (deed : Deed) → deed ≡ l.did.deed → node_of l ≡ n →
    Alive setting deed l.did (dids (of n world)) →
    (up (dids (of n world)) ≡ true → BootOf n world (word (dids (of n world))) (lives (dids (of n world)))) → up_after deed (up (dids (of n world))) ≡ true →
    BootOf n (l ∷ world) (word_after deed l.did.step.cause (word (dids (of n world)))) (lives_after deed (lives (dids (of n world))))
boot_deed setting n l world Begins is node a h u = boot_before n l world _ _ (h u)
boot_deed setting n l world (Acts Boot) is node a h u =
    let wall = setting.wall l.did.step.node (lives (dids (of n world)) + 1) +ℤ pos l.did.tick in
    record {
      line = l;
      older = world;
      place = inl refl;
      node = node;
      deed = sym is;
      wall = wall;
      cause = a.1 ∙ ap (λ k. Booted (word_after (Acts Boot) k (word (dids (of n world)))) wall) (sym a.1);
      lives = ap (λ k. lives_after k (lives (dids (of n world)))) (sym is);
    }
boot_deed setting n l world (Acts act) is node a h u = boot_before n l world _ _ (h a)

-- the last boot of a node that is up
pub boot_of : (setting : Setting) (n : ℕ) (world : List Line) → Fits setting world → up (dids (of n world)) ≡ true →
    BootOf n world (word (dids (of n world))) (lives (dids (of n world)))
boot_of setting n =
    node_walk setting n (λ world own. up (dids own) ≡ true → BootOf n world (word (dids own)) (lives (dids own))) (λ u. absurd (true≢false (sym u)))
    (λ l world f node h u. boot_deed setting n l world l.did.deed refl node
    (subst (λ k. Alive setting l.did.deed l.did (dids (of k world))) node f.0.alive) h u) (λ l world f h u. boot_before n l world _ _ (h u))

-- where no two boots have one word, no two of one node have
pub own_words : (world : List Line) → Words world → OwnWords world
own_words world words = Everywhere_from OwnWordsAt world (λ l s w other older v u x y same. Everywhere_at WordsAt l s world words w other older v u x y)

-- after a boot the word is another
pub word_moves : (setting : Setting) (n : ℕ) (s t : List Line) → Fits setting t → OwnWords t → Within s t → Fits setting s → up (dids (of n s)) ≡ true →
    up (dids (of n t)) ≡ true → lives (dids (of n s)) < lives (dids (of n t)) →
    word (dids (of n s)) ≢ word (dids (of n t))
word_moves setting n s t f words w fs us ut less same =
    let a = boot_of setting n s fs us in
    let b = boot_of setting n t f ut in
    let a_in : Within (a.line ∷ a.older) t = Within_through (a.line ∷ a.older) s t a.place w in
    elim (Within_comparable (a.line ∷ a.older) (b.line ∷ b.older) t a_in b.place) [
      | inl (inl e) ↦ absurd (equal a.line b.line a.older b.older e a.lives b.lives)
      | inl (inr i) ↦ Everywhere_at OwnWordsAt b.line b.older t words b.place a.line a.older (word (dids (of n s))) (word (dids (of n t))) b.wall a.wall
          (a.node ∙ sym b.node) i b.deed a.deed b.cause a.cause same
      | inr (inl e) ↦ absurd (equal a.line b.line a.older b.older (sym e) a.lives b.lives)
      | inr (inr i) ↦
          let own = own_fits setting n t f in
          let o = since setting (b.line ∷ of n b.older) (of n a.older) (own_at a.line a.older own a.node a_in) (own_in n b.line b.older a.older b.node i) in
          let o2 = since setting (of n a.older) (a.line ∷ of n a.older) (own_at2 a.line a.older own a.node a_in) (inr (Within_all (of n a.older))) in
          absurd (omega (arith, o.lives, o2.lives, a.lives, b.lives))
    ]
  where
    equal : (x y : Line) (p q : List Line) → x ∷ p ≡ y ∷ q → lives (dids (x ∷ of n p)) ≡ lives (dids (of n s)) → lives (dids (y ∷ of n q)) ≡
        lives (dids (of n t)) → ⊥
    equal x y p q e i j =
        let k : lives (dids (x ∷ of n p)) ≡ lives (dids (y ∷ of n q)) = (let line : x ≡ y = cc in let rest : p ≡ q = cc in
        subst₂ (λ z r. lives (dids (x ∷ of n p)) ≡ lives (dids (z ∷ of n r))) line rest refl) in
        omega arith

    own_at2 : (x : Line) (p : List Line) → OwnFits setting (of n t) → node_of x ≡ n → Within (x ∷ p) t → OwnFits setting (x ∷ of n p)
    own_at2 x p own node i = own_fits_at setting (x ∷ of n p) (of n t) own (own_in n x p t node i)

    own_at : (x : Line) (p : List Line) → OwnFits setting (of n t) → node_of x ≡ n → Within (x ∷ p) t → OwnFits setting (of n p)
    own_at x p own node i = (own_at2 x p own node i).1

asked_deed : (deed : Deed) (n m : ℕ) → lives_after deed n ≡ n → m ≤ asked_after deed m
asked_deed (Acts Boot) n m v = absurd (omega arith)
asked_deed (Acts (Post to (Stamp (Request word counter)))) n m v = omega arith
asked_deed _ n m v = omega arith

asked_seen : (b : Bool) (d : Did) (seen : List Seen) (n m : ℕ) → lives_after d.deed n ≡ n → m ≤ asked seen → m ≤ asked (seen_as b d ∷ seen)
asked_seen true d seen n m v h = omega (arith, h, asked_deed d.deed n (asked seen) v)
asked_seen false d seen n m v h = h

-- while the node doesn't boot, the number doesn't fall
pub asked_mono : (setting : Setting) (q : Port) (s t : List Line) → OwnFits setting t → Within s t → lives (dids s) ≡ lives (dids t) →
    asked (view q s) ≤ asked (view q t)
asked_mono setting q s [] f w v = subst (λ k. asked (view q k) ≤ 0) (sym w) (omega arith)
asked_mono setting q s (l ∷ t) f (inl e) v = subst (λ k. asked (view q k) ≤ asked (view q (l ∷ t))) (sym e) (omega arith)
asked_mono setting q s (l ∷ t) f (inr w) v =
    let k = still_lives setting s l t f w v in
    asked_seen ((l.port.0 == q.0) || is_shared l.did.deed) l.did (view q t) (lives (dids t)) (asked (view q s)) k.1 (asked_mono setting q s t f.1 w k.0)

asked_by : (deed : Deed) (m n : ℕ) → m ≤ n → asked_after deed m ≤ posted_after deed n
asked_by (Acts Boot) m n h = omega arith
asked_by (Acts (Post to (Stamp (Request word counter)))) m n h = omega arith
asked_by (Acts (Post to datagram)) m n h = omega arith
asked_by _ m n h = h

posted_by : (deed : Deed) (m n : ℕ) → m ≤ n → m ≤ posted_after deed n
posted_by (Acts (Post to datagram)) m n h = omega arith
posted_by _ m n h = h

asked_seen_by : (b : Bool) (d : Did) (seen : List Seen) (n : ℕ) → asked seen ≤ n → asked (seen_as b d ∷ seen) ≤ posted_after d.deed n
asked_seen_by true d seen n h = asked_by d.deed (asked seen) n h
asked_seen_by false d seen n h = posted_by d.deed (asked seen) n h

asked_more : (n : ℕ) (q : Port) (l : Line) (world : List Line) (b : Bool) → (node_of l == n) ≡ b → asked (view q (of n world)) ≤ posted (dids world) →
    asked (view q (of n (l ∷ world))) ≤ posted (dids (l ∷ world))
asked_more n q l world true e h = rw e (asked_seen_by ((l.port.0 == q.0) || is_shared l.did.deed) l.did (view q (of n world)) (posted (dids world)) h)
asked_more n q l world false e h = rw e (posted_by l.did.deed (asked (view q (of n world))) (posted (dids world)) h)

-- a port hasn't asked more often than was posted in all
pub asked_few : (n : ℕ) (q : Port) (world : List Line) → asked (view q (of n world)) ≤ posted (dids world)
asked_few n q [] = omega arith
asked_few n q (l ∷ world) = asked_more n q l world (node_of l == n) refl (asked_few n q world)

-- a request of node n to p on a port, with this word and counter
pub record Asks (n : ℕ) (line : Line) (p : PeerId) (w c : ℕ) : Type 0 where
  pub node : node_of line ≡ n
  pub deed : line.did.deed ≡ Acts (Post (Peer p) (Stamp (Request w c)))

pub request_fits : (setting : Setting) (n : ℕ) (q : Line) (a : List Line) (p : PeerId) (w c : ℕ) → Asks n q p w c → LineFits setting q a →
    RequestFits (view q.port (of n a)) w c
request_fits setting n q a p w c s f = subst (λ k. RequestFits (view q.port (of k a)) w c) s.node
    (deed_fits setting q a (Acts (Post (Peer p) (Stamp (Request w c)))) s.deed f).fits

pub asks_up : (setting : Setting) (n : ℕ) (q : Line) (a : List Line) (p : PeerId) (w c : ℕ) → Asks n q p w c → LineFits setting q a → up (dids (of n a)) ≡ true
asks_up setting n q a p w c s f = subst (λ k. up (dids (of k a)) ≡ true) s.node (post_up setting q a (Peer p) (Stamp (Request w c)) f s.deed)

-- an earlier request of the same life has another counter
request_one : (setting : Setting) (n : ℕ) (q t : Line) (a b : List Line) (p r : PeerId) (w c v d : ℕ) → Fits setting (t ∷ b) → Asks n q p w c → Asks n t r v d →
    q.port ≡ t.port → Within (q ∷ a) b →
    lives (dids (of n (q ∷ a))) ≡ lives (dids (of n b)) → c ≡ d → ⊥
request_one setting n q t a b p r w c v d f x y port i one count =
    let fq = fits_at setting (q ∷ a) b f.1 i in
    let g = request_fits setting n q a p w c x fq.0 in
    let h = request_fits setting n t b r v d y f.0 in
    let own = own_fits setting n b f.1 in
    let place : Within (of n (q ∷ a)) (of n b) = Within_of n (q ∷ a) b i in
    let more = asked_mono setting q.port (of n (q ∷ a)) (of n b) own place one in
    let next : asked (view q.port (of n (q ∷ a))) ≡ asked (view q.port (of n a)) + 1 = ap asked (view_line n q a x.node) ∙ rw x.deed refl in
    let few = asked_few n q.port b in
    let limit = f.0.few in
    let cq : c ≡ asked (view q.port (of n a)) % 2 ^ 64 = g.counter_is in
    let ct : d ≡ asked (view q.port (of n b)) % 2 ^ 64 = subst (λ k. d ≡ asked (view k (of n b)) % 2 ^ 64) (sym port) h.counter_is in
    counters c d (asked (view q.port (of n a))) (asked (view q.port (of n b))) cq ct (omega arith) (omega arith) count
  where
    counters : (c d x y : ℕ) → c ≡ x % 2 ^ 64 → d ≡ y % 2 ^ 64 → x < y → y < 2 ^ 64 → c ≡ d → ⊥
    counters c d x y e g h k s = omega arith

-- no request is posted in the quiet time
asks_rested : (setting : Setting) (n : ℕ) (t : Line) (b : List Line) (r : PeerId) (v d : ℕ) → Asks n t r v d → LineFits setting t b →
    boot_tick (dids (of n b)) + QUIET ≤ t.did.tick
asks_rested setting n t b r v d y f =
    let e = (deed_fits setting t b (Acts (Post (Peer r) (Stamp (Request v d)))) y.deed f).rested in
    let z : boot_tick (plain (view t.port (of (node_of t) b))) + QUIET ≤ t.did.tick = elim e [ inl k ↦ k | inr k ↦ absurd k ] in
    subst (λ k. boot_tick (dids (of k b)) + QUIET ≤ t.did.tick) y.node (subst (λ k. boot_tick k + QUIET ≤ t.did.tick) (plain_view t.port (of (node_of t) b)) z)

-- what keeps a request t from being of another life than an earlier one q: it stands at most a minute after that, or has its word where the words of a node's
-- boots differ
abbrev pub SameLife : Line → Line → List Line → ℕ → ℕ → Type 0
SameLife q t h w v = (t.did.step.at ≤ q.did.step.at + 60000000) ⊎ (OwnWords h × (w ≡ v))

-- two requests of one word, where the words of boots differ, are of one life
words_one : (setting : Setting) (n : ℕ) (q t : Line) (a b : List Line) (p r : PeerId) (w c v d : ℕ) → Fits setting (t ∷ b) → OwnWords (t ∷ b) → Asks n q p w c →
    Asks n t r v d → Within (q ∷ a) b →
    lives (dids (of n (q ∷ a))) < lives (dids (of n b)) → w ≡ v → ⊥
words_one setting n q t a b p r w c v d f words x y i less same =
    let fq = fits_at setting (q ∷ a) b f.1 i in
    let g = request_fits setting n q a p w c x fq.0 in
    let h = request_fits setting n t b r v d y f.0 in
    let still : dids (of n (q ∷ a)) ≡ q.did ∷ dids (of n a) = ap dids (of_own n q a x.node) in
    let word_q : w ≡ word (dids (of n (q ∷ a))) = (g.word_is ∙ ap word (plain_view q.port (of n a))) ∙ sym (ap word still ∙ rw x.deed refl) in
    let word_t : v ≡ word (dids (of n b)) = h.word_is ∙ ap word (plain_view t.port (of n b)) in
    let up_q : up (dids (of n (q ∷ a))) ≡ true = ap up still ∙ rw x.deed (asks_up setting n q a p w c x fq.0) in
    word_moves setting n (q ∷ a) b f.1 words.1 i fq up_q (asks_up setting n t b r v d y f.0) less (sym word_q ∙ (same ∙ word_t))

-- so they are, where one stands at most a minute after the other
request_life : (setting : Setting) (n : ℕ) (q t : Line) (a b : List Line) (p r : PeerId) (w c v d : ℕ) → Fits setting (t ∷ b) → Asks n q p w c →
    Asks n t r v d → Within (q ∷ a) b → SameLife q t (t ∷ b) w v →
    lives (dids (of n (q ∷ a))) ≡ lives (dids (of n b))
request_life setting n q t a b p r w c v d f x y i why =
    let s = since setting (of n (q ∷ a)) (of n b) (own_fits setting n b f.1) (Within_of n (q ∷ a) b i) in
    let order : q.did.step.at ≤ t.did.step.at = (let o = place_time setting (q ∷ a) b f.1 i in omega (arith, f.0.order)) in
    let tick_q : q.did.tick ≡ setting.tick n q.did.step.at = tick_in setting n q a b f.1 x.node i in
    let tick_t : t.did.tick ≡ setting.tick n t.did.step.at = subst (λ k. t.did.tick ≡ setting.tick k t.did.step.at) y.node f.0.tick in
    let at : tick_of (dids (of n (q ∷ a))) ≡ q.did.tick = ap tick_of (ap dids (of_own n q a x.node)) in
    let rested = asks_rested setting n t b r v d y f.0 in
    let m = near setting n q.did.step.at t.did.step.at order in
    elim s.life [
      | inl o ↦ o.lives
      | inr o ↦ absurd (elim why [
        | inl soon ↦ (let k = m.most in omega (arith, o.boot))
        | inr words ↦ words_one setting n q t a b p r w c v d f words.0 x y i o.lives words.1
      ])
    ]

-- a request of this life of its node is named by its port and counter, among the requests of that life and those that can't be of another one
pub request_unique : (setting : Setting) (n : ℕ) (q t : Line) (a b h : List Line) (p r : PeerId) (w c v d : ℕ) → Fits setting h → Within (q ∷ a) h →
    Within (t ∷ b) h → Asks n q p w c → Asks n t r v d → q.port ≡ t.port →
    SameLife q t h w v → lives (dids (of n b)) ≡ lives (dids (of n h)) → c ≡ d → q ∷ a ≡ t ∷ b
request_unique setting n q t a b h p r w c v d f i j x y port why kept g = elim (Within_comparable (q ∷ a) (t ∷ b) h i j) [
  | inl (inl s) ↦ s
  | inl (inr s) ↦
      let ft = fits_at setting (t ∷ b) h f j in
      let here : SameLife q t (t ∷ b) w v = elim why [ inl soon ↦ inl soon | inr words ↦ inr (Everywhere_within OwnWordsAt (t ∷ b) h words.0 j, words.1) ] in
      absurd (request_one setting n q t a b p r w c v d ft x y port s (request_life setting n q t a b p r w c v d ft x y s here) g)
  | inr (inl s) ↦ sym s
  | inr (inr s) ↦
      let fq = fits_at setting (q ∷ a) h f i in
      let a_h : Within a h = Within_tail q a h i in
      let b_t = since setting (of n b) (of n (t ∷ b)) (own_fits setting n (t ∷ b) (fits_at setting (t ∷ b) h f j)) (Within_of n b (t ∷ b) (inr (Within_all b)))
      in
      let t_a = since setting (of n (t ∷ b)) (of n a) (own_fits setting n a fq.1) (Within_of n (t ∷ b) a s) in
      let a_now = since setting (of n a) (of n h) (own_fits setting n h f) (Within_of n a h a_h) in
      absurd (request_one setting n t q b a r p v d w c fq y x (sym port) s (omega (arith, b_t.lives, t_a.lives, a_now.lives, kept)) (sym g))
]
