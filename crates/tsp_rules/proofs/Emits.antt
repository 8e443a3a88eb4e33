-- Which sorts of acts a row puts, and what rows of such acts leave alone.
use Rattle.std.proofs.Common.{sym, ap, true≢false, eq-eqb, eqb-true, ◌∙◌, ◌≡◌, ℕ, ◌==◌, ◌||◌, ◌&&◌, Bool, true, false, if◌then◌else◌, ℤ, List, [], ◌∷◌, ◌++◌}
use Rattle.std.proofs.Common.{map, refl}
use Rattle.std.proofs.lemmas.Bool.{and_parts}
use Rattle.tsp_rules.specs.Values.{Act, Boot, Took, Post, Become, Arm, Ring, Late, Back, Backer, Abandon, Close, Correct, Sample, Acked, Gave, Join, Leave}
use Rattle.tsp_rules.specs.Values.{Rival, Quit, Trace, Alarm, Probe, CloseAlarm, Datagram, Message, Stamp, Kind, AdjTime, Conflict, Election, QuitKind}
use Rattle.tsp_rules.specs.Values.{SetDateReq, SetTime, PeerId, Place, Role, Follow, Master, Request, Reply}
use Rattle.tsp_base.specs.Words.{Past, Keeps, Row, grown, nothing, puts, ◌followed_by◌, either_by, reading, for_each, arms, posts, posts_to_others, posts_back}
use Rattle.tsp_base.specs.Words.{posts_time, post_of, others}
use Rattle.tsp_rules.specs.ClockRows.{adjusts, sets}

-- acts that facts tell apart
pub data Sort : Type 0 where
  -- Boot, and Took
  Booting : Sort
  Taking : Sort
  -- posts: stamp requests, corrections, sends that pass a date on, others with an own number, and all others
  Asking : Sort
  Correcting : Sort
  Passing : Sort
  Numbering : Sort
  Posting : Sort
  -- changes of the role: to master, to a follower, to another
  Leading : Sort
  Following : Sort
  Changing : Sort
  -- Back and Quit, and Backer
  Backing : Sort
  Counting : Sort
  -- alarms of a round, and all others
  Rounding : Sort
  Alarming : Sort
  -- Join and Leave, and Rival
  Tabling : Sort
  Rivalling : Sort
  -- Acked, and Gave
  Acking : Sort
  Giving : Sort
  -- Sample, Close, Correct, and Trace
  Sampling : Sort
  Closing : Sort
  Moving : Sort
  Tracing : Sort

abbrev pub code : Sort → ℕ
code Booting = 0
code Taking = 1
code Asking = 2
code Correcting = 3
code Numbering = 4
code Posting = 5
code Leading = 6
code Following = 7
code Changing = 8
code Backing = 9
code Counting = 10
code Alarming = 11
code Rounding = 12
code Tabling = 13
code Rivalling = 14
code Acking = 15
code Giving = 16
code Sampling = 17
code Closing = 18
code Moving = 19
code Tracing = 20
code Passing = 21

abbrev pub is_in : Sort → List Sort → Bool
is_in s [] = false
is_in s (t ∷ rest) = (code s == code t) || is_in s rest

abbrev pub sort_of_kind : Kind → Sort
sort_of_kind AdjTime = Correcting
sort_of_kind SetTime = Correcting
sort_of_kind Election = Numbering
sort_of_kind Conflict = Numbering
sort_of_kind QuitKind = Numbering
sort_of_kind SetDateReq = Passing
sort_of_kind _ = Posting

abbrev pub sort_of_alarm : Alarm → Sort
sort_of_alarm Probe = Rounding
sort_of_alarm CloseAlarm = Rounding
sort_of_alarm _ = Alarming

abbrev pub sort_of_post : Datagram → Sort
sort_of_post (Message m) = sort_of_kind m.kind
sort_of_post (Stamp (Request word counter)) = Asking
sort_of_post (Stamp (Reply r)) = Posting

abbrev pub sort_of_role : Role → Sort
sort_of_role Master = Leading
sort_of_role (Follow p) = Following
sort_of_role _ = Changing

abbrev pub sort_of : Act → Sort
sort_of Boot = Booting
sort_of (Took from t) = Taking
sort_of (Post to d) = sort_of_post d
sort_of (Become r) = sort_of_role r
sort_of (Back p) = Backing
sort_of (Quit p) = Backing
sort_of (Backer p) = Counting
sort_of (Arm a at) = sort_of_alarm a
sort_of (Ring a) = sort_of_alarm a
sort_of (Late a) = sort_of_alarm a
sort_of Abandon = Rounding
sort_of (Join p) = Tabling
sort_of (Leave p) = Tabling
sort_of (Rival p) = Rivalling
sort_of (Acked p) = Acking
sort_of (Gave p) = Giving
sort_of (Sample p counter diff err ticket) = Sampling
sort_of (Close count lo width mean) = Closing
sort_of (Correct amount stepped shown) = Moving
sort_of (Trace on) = Tracing

-- all acts are of these sorts
abbrev pub AllOf : List Sort → List Act → Type 0
AllOf sorts [] = Unit {0}
AllOf sorts (a ∷ rest) = (is_in (sort_of a) sorts ≡ true) × AllOf sorts rest

-- a row puts acts of these sorts alone
pub record Emits (sorts : List Sort) (row : Row) : Type 0 where
  pub only : (x : ℕ) (past : Past) → AllOf sorts (row x past)

pub all_append : (sorts : List Sort) (xs ys : List Act) → AllOf sorts xs → AllOf sorts ys → AllOf sorts (xs ++ ys)
all_append sorts [] ys a b = b
all_append sorts (x ∷ xs) ys a b = (a.0, all_append sorts xs ys a.1 b)

pub Emits_nothing : {sorts : List Sort} → Emits sorts nothing
unfolding nothing
Emits_nothing = record { only = λ x past. tt }

pub Emits_puts : {sorts : List Sort} (a : Act) → is_in (sort_of a) sorts ≡ true → Emits sorts (puts a)
unfolding puts
Emits_puts a e = record { only = λ x past. (e, tt) }

pub Emits_then : {sorts : List Sort} (r s : Row) → Emits sorts r → Emits sorts s → Emits sorts (r followed_by s)
unfolding ◌followed_by◌
Emits_then {sorts} r s p q = record {
  only = λ x past. all_append sorts (r x past) (s x (grown x past (r x past))) (p.only x past)
      (q.only x (grown x past (r x past)));
}

pub Emits_either : {sorts : List Sort} (test : ℕ → Past → Bool) (r s : Row) → Emits sorts r → Emits sorts s → Emits sorts (either_by test r s)
unfolding either_by
Emits_either {sorts} test r s p q = record {
  only = λ x past. elim (test x past) as (λ b. AllOf sorts (if b then r x past else s x past)) [
    | true ↦
        p.only x past
    | false ↦ q.only x past
  ];
}

pub Emits_reading : {sorts : List Sort} {A : Type 0} (fact : ℕ → Past → A) (rows : A → Row) → ((a : A) → Emits sorts (rows a)) → Emits sorts (reading fact rows)
unfolding reading
Emits_reading fact rows k = record { only = λ x past. (k (fact x past)).only x past }

pub Emits_each : {sorts : List Sort} {A : Type 0} (r : A → Row) (ps : List A) → ((p : A) → Emits sorts (r p)) → Emits sorts (for_each r ps)
unfolding for_each
Emits_each r [] k = Emits_nothing
Emits_each r (p ∷ ps) k = Emits_then (r p) (for_each r ps) (k p) (Emits_each r ps k)

pub Emits_arms : {sorts : List Sort} (alarm : Alarm) (long : ℕ) → is_in (sort_of_alarm alarm) sorts ≡ true → Emits sorts (arms alarm long)
unfolding arms
Emits_arms alarm long e = record { only = λ x past. (e, tt) }

pub Emits_posts : {sorts : List Sort} (p : PeerId) (kind : Kind) (number : ℕ) → is_in (sort_of_kind kind) sorts ≡ true → Emits sorts (posts p kind number)
unfolding posts
Emits_posts p kind number e = record { only = λ x past. (e, tt) }

-- an act for each of some peers
pub all_map : (sorts : List Sort) (f : PeerId → Act) → ((p : PeerId) → is_in (sort_of (f p)) sorts ≡ true) → (ps : List PeerId) → AllOf sorts (map f ps)
all_map sorts f e [] = tt
all_map sorts f e (p ∷ ps) = (e p, all_map sorts f e ps)

pub Emits_posts_to_others : {sorts : List Sort} (kind : Kind) (number : ℕ) → is_in (sort_of_kind kind) sorts ≡ true → Emits sorts (posts_to_others kind number)
unfolding posts_to_others
Emits_posts_to_others {sorts} kind number e = record { only = λ x past. all_map sorts (post_of kind number past.name) (λ p. e) (others past.own past.peers) }

-- fewer sorts are among more
abbrev pub is_part : List Sort → List Sort → Bool
is_part [] all = true
is_part (s ∷ rest) all = is_in s all && is_part rest all

-- what each act of these sorts keeps a row of them keeps
keeps_all : {T : Type 0} (sorts : List Sort) (also : Past → T → Type 0) → ((a : Act) → is_in (sort_of a) sorts ≡ true → Keeps also (puts a)) →
    (acts : List Act) → AllOf sorts acts → (x : ℕ) (past : Past) (state : T) → also past state → also (grown x past acts) state
unfolding puts
keeps_all sorts also k [] a x past state h = h
keeps_all sorts also k (c ∷ rest) a x past state h = keeps_all sorts also k rest a.1 x (grown x past (c ∷ [])) state (k c a.0 x past state h)

pub Keeps_by : {T : Type 0} (sorts : List Sort) (also : Past → T → Type 0) (row : Row) → ((a : Act) → is_in (sort_of a) sorts ≡ true → Keeps also (puts a)) →
    Emits sorts row → Keeps also row
Keeps_by sorts also row k e = λ x past state h. keeps_all sorts also k (row x past) (e.only x past) x past state h

pub Emits_posts_back : {sorts : List Sort} (from : Place) (kind : Kind) (number : ℕ) → is_in (sort_of_kind kind) sorts ≡ true →
    Emits sorts (posts_back from kind number)
unfolding posts_back
Emits_posts_back from kind number e = record { only = λ x past. (e, tt) }

pub Emits_posts_time : {sorts : List Sort} (p : PeerId) (kind : Kind) (number : ℕ) (time : ℤ) → is_in (sort_of_kind kind) sorts ≡ true →
    Emits sorts (posts_time p kind number time)
unfolding posts_time
Emits_posts_time p kind number time e = record { only = λ x past. (e, tt) }

pub Emits_adjusts : {sorts : List Sort} (amount : ℤ) → is_in Moving sorts ≡ true → Emits sorts (adjusts amount)
unfolding adjusts
Emits_adjusts amount e = record { only = λ x past. (e, tt) }

pub Emits_sets : {sorts : List Sort} (value : ℤ) → is_in Moving sorts ≡ true → Emits sorts (sets value)
unfolding sets
Emits_sets value e = record { only = λ x past. (e, tt) }

or-false : (a b : Bool) → (a || b) ≡ true → a ≡ false → b ≡ true
or-false true b h e = absurd (true≢false e)
or-false false b h e = h

pub is_in_own : (s : Sort) → is_in s (s ∷ []) ≡ true
is_in_own s = let same : (code s == code s) ≡ true = eq-eqb (code s) (code s) refl in rw same refl

is_in_code : (s t : Sort) (all : List Sort) → code s ≡ code t → is_in t all ≡ true → is_in s all ≡ true
is_in_code s t [] e h = h
is_in_code s t (u ∷ all) e h = by_head (code t == code u) refl (λ k. is_in_code s t all e k) where
  by_head : (b : Bool) → (code t == code u) ≡ b → (is_in t all ≡ true → is_in s all ≡ true) → ((code s == code u) || is_in s all) ≡ true
  by_head true k f = (let same : (code s == code u) ≡ true = ap (λ c. c == code u) e ∙ k in rw same refl)
  by_head false k f =
      let same : (code s == code u) ≡ false = ap (λ c. c == code u) e ∙ k in
      rw same (f (or-false (code t == code u) (is_in t all) h k))

pub is_in_part : (s : Sort) (few all : List Sort) → is_part few all ≡ true → is_in s few ≡ true → is_in s all ≡ true
is_in_part s [] all p h = absurd (true≢false (sym h))
is_in_part s (t ∷ few) all p h = by_head (code s == code t) refl (λ k. is_in_part s few all ((and_parts (is_in t all) (is_part few all) p).1) k) where
  by_head : (b : Bool) → (code s == code t) ≡ b → (is_in s few ≡ true → is_in s all ≡ true) → is_in s all ≡ true
  by_head true k f = is_in_code s t all (eqb-true (code s) (code t) k) ((and_parts (is_in t all) (is_part few all) p).0)
  by_head false k f = f (or-false (code s == code t) (is_in s few) h k)

all_more : (few all : List Sort) (acts : List Act) → is_part few all ≡ true → AllOf few acts → AllOf all acts
all_more few all [] p h = tt
all_more few all (a ∷ rest) p h = (is_in_part (sort_of a) few all p h.0, all_more few all rest p h.1)

-- a row of few sorts is one of more
pub Emits_more : (few : List Sort) {all : List Sort} {row : Row} → is_part few all ≡ true → Emits few row → Emits all row
Emits_more few {all} {row} p e = record { only = λ x past. all_more few all (row x past) p (e.only x past) }
