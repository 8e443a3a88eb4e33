-- How a row is made, once for each row: of codes, and of the words that rows are put together with. Its acts name only peers that
-- are known. A row stands beside the row that it is where its peers are renamed: a property of one row looks at the first of the
-- two, one of both at both.
use Rattle.std.specs.Prelude.{◌≡◌, ℕ, ◌+◌, nat_le, ℤ, ◌-ℤ◌, Bool, true, ◌&&◌, if◌then◌else◌, List, [], ◌∷◌, Option, None, Some}
use Rattle.tsp_base.specs.Words.{Past, Estimate, Row, Sending, nothing, ◌followed_by◌, either_by, reading, for_each}
use Rattle.tsp_rules.specs.RoundRows.{closes, corrects_by, is_near, moves, round_at}
use Rattle.tsp_rules.proofs.Emits.{Sort, Closing, Rounding, is_part}
use Rattle.tsp_rules.specs.{Renames.Naming, Renames.later_send, SendRows.open_at, SendRows.peers_at, Values.PeerId}
use Rattle.tsp_rules.proofs.RowCodes.{ANumber, ASend, ATime, Fact, Leaf, Listed, Owed, Test, Value, Valued, no, yes}

-- what a correction of a measured peer owes
abbrev pub Corrects : Owed → ℤ → Option Estimate → Type 0
Corrects o mean None = Unit {0}
Corrects o mean (Some b) = o.of (ANumber b.ticket) × (is_near b.diff ≡ true → o.of (ATime (mean -ℤ b.diff)))

-- a row of acts of these sorts, at most k for each peer and c besides
pub data Built (m : Naming) (o : Owed) : List Sort → ℕ → ℕ → Row → Row → Type 1 where
  Empty : {sorts : List Sort} {k c : ℕ} → Built m o sorts k c nothing nothing
  At : {sorts few : List Sort} {k c : ℕ} {r r' : Row} → Leaf m o few k c r r' → is_part few sorts ≡ true → Built m o sorts k c r r'
  Then : {sorts : List Sort} {j b k c : ℕ} {r r' s s' : Row} → Built m o sorts j b r r' → Built m o sorts k c s s' →
      Built m o sorts (j + k) (b + c) (r followed_by s) (r' followed_by s')
  Either : {sorts : List Sort} {k c : ℕ} {t t' : ℕ → Past → Bool} {r r' s s' : Row} (test : Test m t t') → (yes test → Built m o sorts k c r r') →
      (no test → Built m o sorts k c s s') → Built m o sorts k c (either_by t r s) (either_by t' r' s')
  If : {sorts : List Sort} {k c : ℕ} {r r' s s' : Row} (b b' : Bool) → b' ≡ b → (b ≡ true → Built m o sorts k c r r') → Built m o sorts k c s s' →
      Built m o sorts k c (if b then r else s) (if b' then r' else s')
  Reading : {sorts : List Sort} {k c : ℕ} {A : Type 0} {f : A → A} {told : A → Type 0} {fact fact' : ℕ → Past → A} {rows : A → Row} (rows' : A → Row) →
      Fact m A f told fact fact' → ((a : A) → told a → Built m o sorts k c (rows a) (rows' (f a))) →
      Built m o sorts k c (reading fact rows) (reading fact' rows')
  ReadingValue : {sorts : List Sort} {k c : ℕ} {A : Type 0} {f : A → A} {value : A → Value} {fact fact' : ℕ → Past → A} {rows : A → Row} (rows' : A → Row) →
      Valued m A f value fact fact' → ((a : A) → o.of (value a) → Built m o sorts k c (rows a) (rows' (f a))) →
      Built m o sorts k c (reading fact rows) (reading fact' rows')
  Each : {sorts : List Sort} {c : ℕ} {fact fact' : ℕ → Past → List PeerId} {row : PeerId → Row} (row' : PeerId → Row) → Listed m fact fact' →
      ((p : PeerId) → m.known p → Built m o sorts 0 c (row p) (row' (m.names.peer p))) →
      Built m o sorts c 0 (reading fact (for_each row)) (reading fact' (for_each row'))
  -- a row for each peer that has an open send
  EachSend : {sorts : List Sort} {c : ℕ} (row row' : PeerId → Option Sending → Row) → ((p : PeerId) → row p None ≡ nothing) →
      ((p : PeerId) → row' p None ≡ nothing) → ((p : PeerId) → m.known p → (s : Sending) → o.of (ASend (Some s)) →
      Built m o sorts 0 c (row p (Some s)) (row' (m.names.peer p) (Some (later_send m.names s)))) →
      Built m o sorts c 0 (reading peers_at (for_each (λ p. reading (open_at p) (row p)))) (reading peers_at (for_each (λ p. reading (open_at p) (row' p))))
  -- a round's close: the own clock moves, and each peer of the round is corrected
  Closes : {sorts : List Sort} (own : Bool) → is_part (Rounding ∷ Closing ∷ []) sorts ≡ true →
      ((mean : ℤ) → Built m o sorts 0 1 (moves own mean) (moves own mean)) → ((mean : ℤ) (p : PeerId) → m.known p → (best : Option Estimate) →
      Corrects o mean best → Built m o sorts 0 1 (corrects_by mean p best) (corrects_by mean (m.names.peer p) best)) →
      Built m o sorts 1 3 (reading round_at (closes own)) (reading round_at (closes own))
  More : {sorts : List Sort} {j b k c : ℕ} {r r' : Row} → Built m o sorts j b r r' → (nat_le j k && nat_le b c) ≡ true → Built m o sorts k c r r'
  Wider : {sorts few : List Sort} {k c : ℕ} {r r' : Row} → is_part few sorts ≡ true → Built m o few k c r r' → Built m o sorts k c r r'

-- two rows that need nothing of the test that chooses between them
pub whichever : {m : Naming} {o : Owed} {sorts : List Sort} {k c : ℕ} {t t' : ℕ → Past → Bool} {r r' s s' : Row} → Test m t t' → Built m o sorts k c r r' →
    Built m o sorts k c s s' → Built m o sorts k c (either_by t r s) (either_by t' r' s')
whichever test d e = Either test (λ holds. d) (λ fails. e)
