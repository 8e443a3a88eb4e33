-- That datagrams are delivered in time, as a computation over a history that fits.
use Rattle.std.proofs.Common.{sym, ap, subst, true≢false, inl, inr, ◌∙◌, ◌≡◌, ◌≤◌, ℕ, ◌+◌, ◌==◌, ◌&&◌, ◌||◌, not, nat_le, nat_lt, Bool, true}
use Rattle.std.proofs.Common.{false, List, [], ◌∷◌, length, leb-true, le-leb, eqb-true, refl}
use Rattle.std.proofs.lemmas.Bool.{and_parts, lt-ltb}
use Rattle.tsp_rules.specs.Values.{Took, Post, Good, Datagram, PeerId, Peer, Place, Taken}
use Rattle.tsp_base.specs.Words.{Acts, Came, Cause, Deed, Line, Within, dids, peer_of, posted}
use Rattle.tsp_base.proofs.PlaceLemmas.{Within_length, Within_through}
use Rattle.tsp_promises.specs.{Fits.Fits, Fits.LineFits, Fits.Posted, Fits.TookFits, Fits.node_of, Setting.Setting}
use Rattle.tsp_promises.proofs.shared.EverywhereLemmas.{Everywhere_at}
use Rattle.tsp_promises.proofs.shared.SendPlaces.{post_unique}
use Rattle.tsp_progress.specs.Delivered.{Arrives, Delivered, PostsTo}

abbrev is_took : Deed → Bool
is_took (Acts (Took from t)) = true
is_took _ = false

abbrev comes : ℕ → Cause → Bool
comes k (Came j) = j == k
comes k _ = false

-- a line takes datagram number k by a true time
abbrev takes_number : ℕ → ℕ → Line → Bool
takes_number k by l = is_took l.did.deed && (comes k l.did.step.cause && nat_le l.did.step.at by)

abbrev taken_in : ℕ → ℕ → List Line → Bool
taken_in k by [] = false
taken_in k by (l ∷ before) = takes_number k by l || taken_in k by before

-- where it stands
pub record Taking (k by : ℕ) (world : List Line) : Type 0 where
  pub line : Line
  pub before : List Line
  pub place : Within (line ∷ before) world
  pub from : Place
  pub taken : Taken
  pub deed : line.did.deed ≡ Acts (Took from taken)
  pub cause : line.did.step.cause ≡ Came k
  pub soon : line.did.step.at ≤ by

took_is : (d : Deed) → is_took d ≡ true → (from : Place) × ((t : Taken) × (d ≡ Acts (Took from t)))
took_is (Acts (Took from t)) e = (from, (t, refl))
took_is _ e = absurd (true≢false (sym e))

comes_is : (k : ℕ) (c : Cause) → comes k c ≡ true → c ≡ Came k
comes_is k (Came j) e = ap Came (eqb-true j k e)
comes_is k _ e = absurd (true≢false (sym e))

found : (k by : ℕ) (world : List Line) → taken_in k by world ≡ true → Taking k by world
found k by [] e = absurd (true≢false (sym e))
found k by (l ∷ before) e = by_case (takes_number k by l) refl e (λ f. found k by before f) where
  by_case : (b : Bool) → takes_number k by l ≡ b → (b || taken_in k by before) ≡ true → (taken_in k by before ≡ true → Taking k by before) →
      Taking k by (l ∷ before)
  by_case true h f rest =
      let both = and_parts (is_took l.did.deed) (comes k l.did.step.cause && nat_le l.did.step.at by) h in
      let more = and_parts (comes k l.did.step.cause) (nat_le l.did.step.at by) both.1 in
      let t = took_is l.did.deed both.0 in
      record {
        line = l;
        before = before;
        place = inl refl;
        from = t.0;
        taken = t.1.0;
        deed = t.1.1;
        cause = comes_is k l.did.step.cause more.0;
        soon = leb-true l.did.step.at by more.1;
      }
  by_case false h f rest = let t = rest f in record {
    line = t.line;
    before = t.before;
    place = inr t.place;
    from = t.from;
    taken = t.taken;
    deed = t.deed;
    cause = t.cause;
    soon = t.soon;
  }

-- what is taken under the number of a post is that post
module _ (setting : Setting) (long : ℕ) (l : Line) (older world : List Line) (p : PeerId) (d : Datagram) (fits : Fits setting world)
    (posts : PostsTo setting l older world p d) (t : Taking (posted (dids older)) (l.did.step.at + long) world) where
  post_of : Posted setting t.line t.before (posted (dids older)) t.from t.taken
  post_of =
      let fit : LineFits setting t.line t.before = Everywhere_at (LineFits setting) t.line t.before world fits t.place in
      subst (λ c. TookFits c setting t.line t.before t.from t.taken) t.cause (fit.took t.from t.taken t.deed)

  abbrev first_line : List Line → Line
  first_line [] = l
  first_line (k ∷ rest) = k

  abbrev peer_in : Deed → PeerId
  peer_in (Acts (Post (Peer q) e)) = q
  peer_in _ = p

  abbrev datagram_in : Deed → Datagram
  datagram_in (Acts (Post to e)) = e
  datagram_in _ = d

  pub arrives : Arrives setting long l older world p d
  arrives =
      let o = post_of in
      let in_world : Within (o.post ∷ o.older) world = within (o.post ∷ o.older) o.place in
      let same : (o.post ∷ o.older) ≡ (l ∷ older) = post_unique world o.post l o.older older (Peer (peer_of (node_of t.line))) (Peer p) o.datagram d in_world
      posts.place o.deed posts.deed o.number in
      let line_is : o.post ≡ l = ap first_line same in
      let deed : Acts (Post (Peer (peer_of (node_of t.line))) o.datagram) ≡ Acts (Post (Peer p) d) = sym o.deed ∙ ap (λ (k : Line). k.did.deed) line_is ∙
      posts.deed in
      let peer : peer_of (node_of t.line) ≡ p = ap peer_in deed in
      let datagram : o.datagram ≡ d = ap datagram_in deed in
      let from : t.from ≡ Peer (peer_of (node_of l)) = o.from_is ∙ ap (λ (k : Line). Peer (peer_of (node_of k))) line_is in
      let taken : t.taken ≡ Good d = o.taken_is ∙ ap Good datagram in
      record {
        line = t.line;
        before = t.before;
        place = t.place;
        later = subst (λ ls. Within ls t.before) same o.place;
        node = ap (λ (q : PeerId). q.0) peer;
        net = sym o.net ∙ ap (λ (k : Line). setting.net (node_of k) k.port) line_is;
        came = t.cause;
        took = t.deed ∙ ap (λ f. Acts (Took f t.taken)) from ∙ ap (λ k. Acts (Took (Peer (peer_of (node_of l))) k)) taken;
        soon = t.soon;
      }
    where
      within : (s : List Line) → Within s t.before → Within s world
      within s w = Within_through s (t.line ∷ t.before) world (inr w) t.place

-- a post that has to be taken
abbrev has_to : ℕ → ℕ → (ℕ → Bool) → ℕ → PeerId → Line → List Line → Bool
has_to long t stays first p l older = nat_le first (length older) && (stays p.0 && nat_lt (l.did.step.at + long) t)

abbrev post_taken : ℕ → ℕ → (ℕ → Bool) → ℕ → Deed → Line → List Line → List Line → Bool
post_taken long t stays first (Acts (Post (Peer p) d)) l older world =
    not (has_to long t stays first p l older) || taken_in (posted (dids older)) (l.did.step.at + long) world
post_taken long t stays first _ l older world = true

-- so it is of each line of a part of the history, from a place of this length on
abbrev pub all_taken : ℕ → ℕ → (ℕ → Bool) → ℕ → List Line → List Line → Bool
all_taken long t stays first world [] = true
all_taken long t stays first world (l ∷ older) = post_taken long t stays first l.did.deed l older world && all_taken long t stays first world older

taken_at : (long t : ℕ) (stays : ℕ → Bool) (first : ℕ) (world part : List Line) (l : Line) (older : List Line) → all_taken long t stays first world part ≡
    true →
    Within (l ∷ older) part → post_taken long t stays first l.did.deed l older world ≡ true
taken_at long t stays first world [] l older e w = let bad : ⊥ = cc in absurd bad
taken_at long t stays first world (k ∷ rest) l older e (inl same) = subst (λ (ls : List Line). at ls) (sym same) (and_parts
    (post_taken long t stays first k.did.deed k rest world) (all_taken long t stays first world rest) e).0 where
      at : List Line → Type 0
      at [] = Unit {0}
      at (j ∷ js) = post_taken long t stays first j.did.deed j js world ≡ true
taken_at long t stays first world (k ∷ rest) l older e (inr w) = taken_at long t stays first world rest l older
    ((and_parts (post_taken long t stays first k.did.deed k rest world) (all_taken long t stays first world rest) e).1) w

or_not : (a b : Bool) → a ≡ true → (not a || b) ≡ true → b ≡ true
or_not true b e f = f
or_not false b e f = absurd (true≢false (sym e))

pub delivered_by : (setting : Setting) (long t : ℕ) (stays : ℕ → Bool) (s world : List Line) → Fits setting world →
    all_taken long t stays (length s) world world ≡ true → Delivered setting long t stays s world
delivered_by setting long t stays s world fits all l older p d posts since there early =
    let at_line = subst (λ deed. post_taken long t stays (length s) deed l older world ≡ true) posts.deed
    (taken_at long t stays (length s) world world l older all posts.place) in
    let has : has_to long t stays (length s) p l older ≡ true =
    let first = le-leb (length s) (length older) (Within_length s older since) in
    let soon = lt-ltb (l.did.step.at + long) t early in
    rw (first, there, soon) refl in
    arrives setting long l older world p d fits posts (found (posted (dids older)) (l.did.step.at + long) world
    (or_not (has_to long t stays (length s) p l older) (taken_in (posted (dids older)) (l.did.step.at + long) world) has at_line))
