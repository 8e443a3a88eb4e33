-- That a history is calm, and that two nodes follow, as a computation.
use Rattle.std.proofs.Common.{sym, ap, subst, arith, true≢false, inl, inr, ◌∙◌, ◌≡◌, ◌≤◌, ℕ, ◌+◌, ◌-◌, ◌==◌, ◌&&◌, ◌||◌, not, nat_le, Bool, true, false}
use Rattle.std.proofs.Common.{zero, suc, List, [], ◌∷◌, length, leb-true, le-leb, eq-eqb, eqb-true, refl}
use Rattle.std.proofs.lemmas.Bool.{and_parts}
use Rattle.tsp_rules.specs.Values.{Boot, Post, Datagram, Peer, PeerId, Place, Role, Follow}
use Rattle.tsp_rules.specs.Guards.{is_master}
use Rattle.tsp_rules.proofs.GuardFacts.{master_is}
use Rattle.tsp_base.specs.Words.{Acts, Came, Cause, Deed, Handed, Line, Within, dids, peer_of, posted, posted_after}
use Rattle.tsp_base.proofs.PlaceLemmas.{Within_all, Within_length}
use Rattle.tsp_promises.specs.{Fits.node_of}
use Rattle.tsp_progress.specs.FollowOn.{AllFollow, Calm, FollowUntil, role_of}
use Rattle.tsp_progress.specs.{FollowUse.two_stay, SampledUse.without}

abbrev not_handed : Cause → Bool
not_handed Handed = false
not_handed _ = true

-- no boot, and no post to itself
abbrev calm_deed : ℕ → Deed → Bool
calm_deed n (Acts Boot) = false
calm_deed n (Acts (Post (Peer p) d)) = not (p.0 == n)
calm_deed n _ = true

-- whether the datagram k was posted at most `long` before; n is how many were posted
abbrev sent_after : ℕ → ℕ → ℕ → ℕ → Line → Deed → Bool → Bool → Bool
sent_after long k at n p (Acts (Post to d)) later same = (not (n - 1 == k) || nat_le at (p.did.step.at + long)) && later
sent_after long k at n p _ later same = same

abbrev sent_soon : ℕ → ℕ → ℕ → ℕ → List Line → Bool
sent_soon long k at n [] = true
sent_soon long k at n (p ∷ w) = sent_after long k at n p p.did.deed (sent_soon long k at (n - 1) w) (sent_soon long k at n w)

abbrev came_soon : ℕ → Cause → ℕ → List Line → Bool
came_soon long (Came k) at older = sent_soon long k at (posted (dids older)) older
came_soon long _ at older = true

abbrev calm_line : ℕ → (ℕ → Bool) → Line → List Line → Bool
calm_line long stays l older =
    (stays (node_of l) && calm_deed (node_of l) l.did.deed) && (not_handed l.did.step.cause && came_soon long l.did.step.cause l.did.step.at older)

-- from a place of this length on
abbrev pub is_calm : ℕ → (ℕ → Bool) → ℕ → List Line → Bool
is_calm long stays first [] = true
is_calm long stays first (l ∷ older) = (not (nat_le first (length older)) || calm_line long stays l older) && is_calm long stays first older

abbrev posts_by : Deed → Bool
posts_by (Acts (Post to d)) = true
posts_by _ = false

or_yes : (a b : Bool) → a ≡ true → (not a || b) ≡ true → b ≡ true
or_yes true b e f = f
or_yes false b e f = absurd (true≢false (sym e))

sent_is : (long k at n : ℕ) (h : List Line) → n ≡ posted (dids h) → sent_soon long k at n h ≡ true → (post : Line) (w : List Line) (to : Place) (d : Datagram) →
    Within (post ∷ w) h → post.did.deed ≡ Acts (Post to d) → posted (dids w) ≡ k → at ≤ post.did.step.at + long
sent_is long k at n [] count e post w to d v deed is = let bad : ⊥ = cc in absurd bad
sent_is long k at n (p ∷ rest) count e post w to d v deed is =
    by_deed p.did.deed refl count e (λ m c f u. sent_is long k at m rest c f post w to d u deed is) v where
      own : post ∷ w ≡ p ∷ rest → (n - 1 ≡ posted (dids rest)) → (not (n - 1 == k) || nat_le at (p.did.step.at + long)) ≡ true →
          at ≤ post.did.step.at + long
      own same c f =
          let line : post ≡ p = cc in
          let tail : w ≡ rest = cc in
          let number : (n - 1 == k) ≡ true = eq-eqb (n - 1) k (c ∙ ap (λ (z : List Line). posted (dids z)) (sym tail) ∙ is) in
          let soon = leb-true at (p.did.step.at + long) (or_yes (n - 1 == k) (nat_le at (p.did.step.at + long)) number f) in
          let time = ap (λ (z : Line). z.did.step.at) line in
          omega (arith, soon, time)

      by_deed : (deed : Deed) → p.did.deed ≡ deed → n ≡ posted_after deed (posted (dids rest)) →
          sent_after long k at n p deed (sent_soon long k at (n - 1) rest) (sent_soon long k at n rest) ≡ true →
          ((m : ℕ) → m ≡ posted (dids rest) → sent_soon long k at m rest ≡ true → Within (post ∷ w) rest → at ≤ post.did.step.at + long) →
          Within (post ∷ w) (p ∷ rest) → at ≤ post.did.step.at + long
      by_deed (Acts (Post to d)) of c f more (inl same) =
          let both = and_parts (not (n - 1 == k) || nat_le at (p.did.step.at + long)) (sent_soon long k at (n - 1) rest) f in
          own same (omega (arith, c)) both.0
      by_deed (Acts (Post to d)) of c f more (inr u) =
          let both = and_parts (not (n - 1 == k) || nat_le at (p.did.step.at + long)) (sent_soon long k at (n - 1) rest) f in
          more (n - 1) (omega (arith, c)) both.1 u
      by_deed _ of c f more (inl same) =
          let line : post ≡ p = cc in
          absurd (true≢false (sym (ap posts_by (sym of ∙ ap (λ (z : Line). z.did.deed) (sym line) ∙ deed))))
      by_deed _ of c f more (inr u) = more n c f u

line_at : (long : ℕ) (stays : ℕ → Bool) (first : ℕ) (h : List Line) → is_calm long stays first h ≡ true → (l : Line) (older : List Line) →
    Within (l ∷ older) h → first ≤ length older → calm_line long stays l older ≡ true
line_at long stays first [] e l older w le = let bad : ⊥ = cc in absurd bad
line_at long stays first (k ∷ rest) e l older (inr w) le = line_at long stays first rest
    (and_parts (not (nat_le first (length rest)) || calm_line long stays k rest) (is_calm long stays first rest) e).1 l older w le
line_at long stays first (k ∷ rest) e l older (inl same) le =
    let at = (and_parts (not (nat_le first (length rest)) || calm_line long stays k rest) (is_calm long stays first rest) e).0 in
    let line : k ≡ l = cc in
    let tail : rest ≡ older = cc in
    let here : (not (nat_le first (length older)) || calm_line long stays l older) ≡ true =
    subst (λ z. (not (nat_le first (length z)) || calm_line long stays l z) ≡ true) tail
    (subst (λ z. (not (nat_le first (length rest)) || calm_line long stays z rest) ≡ true) line at) in
    or_yes (nat_le first (length older)) (calm_line long stays l older) (le-leb first (length older) le) here

pub calm_by : (long : ℕ) (stays : ℕ → Bool) (s world : List Line) → is_calm long stays (length s) world ≡ true → Calm long stays s world
calm_by long stays s world e = record {
  only = λ l older w v. (parts l older w v).0.0;
  unbooted = λ l older w v is. true≢false (sym ((parts l older w v).0.1) ∙ ap (calm_deed (node_of l)) is);
  unhanded = λ l older w v is. true≢false (sym ((parts l older w v).1.0) ∙ ap not_handed is);
  unsent = λ l older w v d is. true≢false (sym ((parts l older w v).0.1) ∙ ap (calm_deed (node_of l)) is ∙ own (node_of l));
  soon = λ l older w v post before to d u deed cause. sent_is long (posted (dids before)) l.did.step.at (posted (dids older)) older refl
      (subst (λ c. came_soon long c l.did.step.at older ≡ true) cause (parts l older w v).1.1) post before to d u deed refl;
} where
  own : (n : ℕ) → not (n == n) ≡ false
  own n = ap not (eq-eqb n n refl)

  parts : (l : Line) (older : List Line) → Within (l ∷ older) world → Within s older →
      ((stays (node_of l) ≡ true) × (calm_deed (node_of l) l.did.deed ≡ true)) ×
      ((not_handed l.did.step.cause ≡ true) × (came_soon long l.did.step.cause l.did.step.at older ≡ true))
  parts l older w v =
      let at = line_at long stays (length s) world e l older w (Within_length s older v) in
      let both = and_parts (stays (node_of l) && calm_deed (node_of l) l.did.deed) (not_handed l.did.step.cause && came_soon long l.did.step.cause
      l.did.step.at older) at in (
        and_parts (stays (node_of l)) (calm_deed (node_of l) l.did.deed) both.0,
        and_parts (not_handed l.did.step.cause) (came_soon long l.did.step.cause l.did.step.at older) both.1,
      )

-- two nodes, of which the second follows the first

abbrev follows_first : Role → Bool
follows_first (Follow p) = p.0 == 0
follows_first _ = false

abbrev follows_here : List Line → Bool
follows_here h = is_master (role_of 0 h) && follows_first (role_of 1 h)

-- from a place of this length on
abbrev pub follows_from : ℕ → List Line → Bool
follows_from first [] = not (nat_le first 0)
follows_from first (l ∷ older) = (not (nat_le first (length (l ∷ older))) || follows_here (l ∷ older)) && follows_from first older

follows_is : (r : Role) → follows_first r ≡ true → r ≡ Follow (peer_of 0)
follows_is (Follow p) e = ap (λ n. let q : PeerId = record { 0 = n } in Follow q) (eqb-true p.0 0 e)
follows_is _ e = absurd (true≢false (sym e))

here_is : (h : List Line) → follows_here h ≡ true → AllFollow two_stay 0 h
here_is h e =
    let both = and_parts (is_master (role_of 0 h)) (follows_first (role_of 1 h)) e in
    record { leads = master_is (role_of 0 h) both.0; follow = λ n there other. by_node n there other (follows_is (role_of 1 h) both.1) }
  where
    by_node : (n : ℕ) → two_stay n ≡ true → (n == 0) ≡ false → role_of 1 h ≡ Follow (peer_of 0) → role_of n h ≡ Follow (peer_of 0)
    by_node zero there other k = absurd (true≢false other)
    by_node (suc zero) there other k = k
    by_node (suc (suc n)) there other k = absurd (true≢false (sym there))

at_place : (first : ℕ) (world : List Line) → follows_from first world ≡ true → (h : List Line) → Within h world → first ≤ length h → follows_here h ≡ true
at_place first [] e h w le = absurd (true≢false (sym e ∙ ap not (le-leb first 0 (let len = ap (λ (z : List Line). length z) w in omega (arith, le, len)))))
at_place first (l ∷ older) e h (inr w) le = at_place first older
    (and_parts (not (nat_le first (length (l ∷ older))) || follows_here (l ∷ older)) (follows_from first older) e).1 h w le
at_place first (l ∷ older) e h (inl same) le =
    let at = (and_parts (not (nat_le first (length (l ∷ older))) || follows_here (l ∷ older)) (follows_from first older) e).0 in
    let here : (not (nat_le first (length h)) || follows_here h) ≡ true = subst (λ (z : List Line). (not (nat_le first (length z)) || follows_here z) ≡ true)
    (sym same) at in
    or_yes (nat_le first (length h)) (follows_here h) (le-leb first (length h) le) here

pub follow_by : (t : ℕ) (s world : List Line) → follows_from (length s) world ≡ true → FollowUntil two_stay 0 t s world
follow_by t s world e h w v le = here_is h (at_place (length s) world e h w (Within_length s h v))

-- the lines without so many of the newest
pub within_without : (n : ℕ) (h : List Line) → Within (without n h) h
within_without zero h = Within_all h
within_without (suc n) [] = within_without n []
within_without (suc n) (l ∷ h) = inr (within_without n h)
