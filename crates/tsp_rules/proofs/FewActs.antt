-- How many acts the rows put at the most, that only a taking takes, and that only a stranger's datagram is answered to a stranger.
use Rattle.std.proofs.Common.{sym, subst, ap, arith, true≢false, length-append, ◌≡◌, ◌≤◌, ℕ, ◌+◌, ◌*◌, ◌&&◌, ◌==◌, not, ℤ, Bool, true, false, if◌then◌else◌}
use Rattle.std.proofs.Common.{List, [], ◌∷◌, ◌++◌, length, map, filter, refl}
use Rattle.std.proofs.{lemmas.Bool.and_from, lemmas.List.length-map}
use Rattle.tsp_rules.specs.Values.{Act, Boot, Took, Post, Correct, Alarm, Kind, PeerId, Stranger}
use Rattle.tsp_base.specs.Words.{Past, Row, grown, nothing, puts, ◌followed_by◌, either_by, reading, for_each, arms, others, post_of, posts, posts_to_others}
use Rattle.tsp_base.specs.Words.{posts_time}

-- an act that is neither a boot nor a taking, nor a post to a stranger where none may be answered, nor a correction where the clock may not be moved
abbrev pub is_calm_act : Bool → Bool → Act → Bool
is_calm_act strange moving Boot = false
is_calm_act strange moving (Took from t) = false
is_calm_act strange moving (Post Stranger datagram) = strange
is_calm_act strange moving (Correct amount stepped shown) = moving
is_calm_act strange moving _ = true

abbrev pub is_calm : Bool → Bool → List Act → Bool
is_calm strange moving [] = true
is_calm strange moving (a ∷ rest) = is_calm_act strange moving a && is_calm strange moving rest

-- a row's acts are calm, and at most k for each peer and c besides
pub record Calm (strange moving : Bool) (k c : ℕ) (row : Row) : Type 0 where
  pub few : (x : ℕ) (past : Past) → length (row x past) ≤ k * length past.peers + c
  pub calm : (x : ℕ) (past : Past) → is_calm strange moving (row x past) ≡ true

pub calm_append : (strange moving : Bool) (xs ys : List Act) → is_calm strange moving xs ≡ true → is_calm strange moving ys ≡ true →
    is_calm strange moving (xs ++ ys) ≡ true
calm_append strange moving [] ys p q = q
calm_append strange moving (a ∷ xs) ys p q = both strange moving (is_calm_act strange moving a) (is_calm strange moving xs) xs ys p
    (calm_append strange moving xs ys) q where
      both : (strange moving a b : Bool) (xs ys : List Act) → (a && b) ≡ true → (b ≡ true → is_calm strange moving ys ≡ true →
          is_calm strange moving (xs ++ ys) ≡
          true) → is_calm strange moving ys ≡ true → (a && is_calm strange moving (xs ++ ys)) ≡ true
      both strange moving true b xs ys e k q = k e q
      both strange moving false b xs ys e k q = absurd (true≢false (sym e))

pub filter_few : {A : Type 0} (test : A → Bool) (ps : List A) → length (filter test ps) ≤ length ps
filter_few test [] = omega arith
filter_few test (p ∷ ps) = by_case (test p) (filter_few test ps) where
  by_case : (b : Bool) → length (filter test ps) ≤ length ps → length (if b then p ∷ filter test ps else filter test ps) ≤ length (p ∷ ps)
  by_case true le = omega (arith, le)
  by_case false le = omega (arith, le)

map_calm : (strange moving : Bool) (f : PeerId → Act) → ((p : PeerId) → is_calm_act strange moving (f p) ≡ true) → (ps : List PeerId) →
    is_calm strange moving (map f ps) ≡ true
map_calm strange moving f e [] = refl
map_calm strange moving f e (p ∷ ps) = and_from (is_calm_act strange moving (f p)) (is_calm strange moving (map f ps)) (e p) (map_calm strange moving f e ps)

module _ {strange moving : Bool} where
  pub calm_nothing : Calm strange moving 0 0 nothing
  unfolding nothing
  calm_nothing = record { few = λ x past. omega arith; calm = λ x past. refl }

  pub calm_puts : (a : Act) → is_calm_act strange moving a ≡ true → Calm strange moving 0 1 (puts a)
  unfolding puts
  calm_puts a e = record { few = λ x past. omega arith; calm = λ x past. and_from (is_calm_act strange moving a) true e refl }

  pub calm_then : (j b k c : ℕ) (r s : Row) → Calm strange moving j b r → Calm strange moving k c s → Calm strange moving (j + k) (b + c) (r followed_by s)
  unfolding ◌followed_by◌
  calm_then j b k c r s p q = record {
    few = λ x past.
        let whole = length-append (r x past) (s x (grown x past (r x past))) in
        let spread : (j + k) * length past.peers ≡ j * length past.peers + k * length past.peers = mul-add j k (length past.peers) in
        omega (arith, p.few x past, q.few x (grown x past (r x past)), whole, spread);
    calm = λ x past. calm_append strange moving (r x past) (s x (grown x past (r x past))) (p.calm x past) (q.calm x (grown x past (r x past)));
  } where
    mul-add : (j k n : ℕ) → (j + k) * n ≡ j * n + k * n
    mul-add j k n = grind arith

  pub calm_either : (k c : ℕ) (test : ℕ → Past → Bool) (r s : Row) → Calm strange moving k c r → Calm strange moving k c s →
      Calm strange moving k c (either_by test r s)
  unfolding either_by
  calm_either k c test r s p q = record {
    few = λ x past. elim (test x past) as (λ t. length (if t then r x past else s x past) ≤ k * length past.peers + c) [
      | true ↦ p.few x past
      | false ↦
          q.few x past
    ];
    calm = λ x past. elim (test x past) as (λ t. is_calm strange moving (if t then r x past else s x past) ≡ true) [
      | true ↦ p.calm x past
      | false ↦
          q.calm x past
    ];
  }

  pub calm_reading : {A : Type 0} (k c : ℕ) (fact : ℕ → Past → A) (rows : A → Row) → ((a : A) → Calm strange moving k c (rows a)) →
      Calm strange moving k c (reading fact rows)
  unfolding reading
  calm_reading k c fact rows p = record { few = λ x past. (p (fact x past)).few x past; calm = λ x past. (p (fact x past)).calm x past }

  -- more is allowed
  pub calm_more : (j b k c : ℕ) (row : Row) → j ≤ k → b ≤ c → Calm strange moving j b row → Calm strange moving k c row
  calm_more j b k c row le more p = record {
    few = λ x past. let first = p.few x past in let scaled = mul_le j k (length past.peers) le in omega (arith, first, scaled, more);
    calm = p.calm;
  } where
    mul_le : (j k n : ℕ) → j ≤ k → j * n ≤ k * n
    mul_le j k n le = grind (arith, le)

  pub calm_none : (k c : ℕ) → Calm strange moving k c nothing
  calm_none k c = calm_more 0 0 k c nothing (omega arith) (omega arith) calm_nothing

  pub calm_arms : (alarm : Alarm) (long : ℕ) → Calm strange moving 0 1 (arms alarm long)
  unfolding arms
  calm_arms alarm long = record { few = λ x past. omega arith; calm = λ x past. refl }

  pub calm_posts : (p : PeerId) (kind : Kind) (number : ℕ) → Calm strange moving 0 1 (posts p kind number)
  unfolding posts
  calm_posts p kind number = record { few = λ x past. omega arith; calm = λ x past. refl }

  pub calm_posts_time : (p : PeerId) (kind : Kind) (number : ℕ) (time : ℤ) → Calm strange moving 0 1 (posts_time p kind number time)
  unfolding posts_time
  calm_posts_time p kind number time = record { few = λ x past. omega arith; calm = λ x past. refl }

  -- an act for each other peer
  pub calm_others : (row : Row) (f : Past → PeerId → Act) → ((x : ℕ) (past : Past) → row x past ≡ map (f past) (others past.own past.peers)) →
      ((past : Past) (p : PeerId) → is_calm_act strange moving (f past p) ≡ true) → Calm strange moving 1 0 row
  calm_others row f is e = record {
    few = λ x past.
        let some = filter_few (λ p. not (p.0 == past.own.0)) past.peers in
        let same : length (row x past) ≡ length (map (f past) (others past.own past.peers)) = ap length (is x past) in
        let one : 1 * length past.peers ≡ length past.peers = grind arith in
        omega (arith, length-map (others past.own past.peers) (f past), some, same, one);
    calm = λ x past. subst (λ acts. is_calm strange moving acts ≡ true) (sym (is x past))
        (map_calm strange moving (f past) (e past) (others past.own past.peers));
  }

  pub calm_posts_to_others : (kind : Kind) (number : ℕ) → Calm strange moving 1 0 (posts_to_others kind number)
  unfolding posts_to_others
  calm_posts_to_others kind number = calm_others (posts_to_others kind number) (λ past. post_of kind number past.name) (λ x past. refl) (λ past p. refl)

  -- a row for each of some that are no more than the peers
  pub each_few : {A : Type 0} (c : ℕ) (r : A → Row) → ((a : A) → Calm strange moving 0 c (r a)) → (some : List A) (x : ℕ) (past : Past) →
      length (for_each r some x past) ≤ c * length some
  unfolding for_each nothing ◌followed_by◌
  each_few c r k [] x past = omega arith
  each_few c r k (a ∷ rest) x past =
      let second = each_few c r k rest x (grown x past (r a x past)) in
      let whole = length-append (r a x past) (for_each r rest x (grown x past (r a x past))) in
      let spread : c * length (a ∷ rest) ≡ c + c * length rest = grind arith in
      let none : 0 * length past.peers ≡ 0 = grind arith in
      omega (arith, (k a).few x past, second, whole, spread, none)

  pub each_calm : {A : Type 0} (c : ℕ) (r : A → Row) → ((a : A) → Calm strange moving 0 c (r a)) → (some : List A) (x : ℕ) (past : Past) →
      is_calm strange moving (for_each r some x past) ≡ true
  unfolding for_each nothing ◌followed_by◌
  each_calm c r k [] x past = refl
  each_calm c r k (a ∷ rest) x past =
      calm_append strange moving (r a x past) (for_each r rest x (grown x past (r a x past))) ((k a).calm x past)
      (each_calm c r k rest x (grown x past (r a x past)))

  pub calm_each : {A : Type 0} (c : ℕ) (fact : ℕ → Past → List A) (r : A → Row) → ((x : ℕ) (past : Past) → length (fact x past) ≤ length past.peers) →
      ((a : A) → Calm strange moving 0 c (r a)) → Calm strange moving c 0 (reading fact (for_each r))
  unfolding reading
  calm_each c fact r bound k = record {
    few = λ x past.
        let some = mul_le c (length (fact x past)) (length past.peers) (bound x past) in
        omega (arith, each_few c r k (fact x past) x past, some);
    calm = λ x past. each_calm c r k (fact x past) x past;
  } where
    mul_le : (c m n : ℕ) → m ≤ n → c * m ≤ c * n
    mul_le c m n le = grind (arith, le)
