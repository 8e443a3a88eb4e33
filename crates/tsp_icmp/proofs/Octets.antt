-- Octets that are a message, and the message that they are.
use Rattle.std.proofs.Common.{rules, ◌≡◌, ℕ, ◌+◌, ◌<◌, ◌^◌, List, [], ◌∷◌, ◌++◌, zero, suc, length, get_or, refl, sym, ap, ◌∙◌, arith, Bool, true, false}
use Rattle.std.specs.Int.{w16, w32, from_be_bytes, to_be_bytes}
use Rattle.std.proofs.lemmas.Nat.{from_be_bytes-to_be_bytes_2, from_be_bytes-to_be_bytes_4, be_bytes_2, be_bytes_4}
use Rattle.tsp_icmp.specs.{Checksums.checksum, declared.timestamp.IcmpFault.IcmpFault, declared.timestamp.Timestamp.Timestamp}
use Rattle.tsp_icmp.specs.Spelling.{type_of, icmp_octets, IsTimestamp, without_checksum, octet, HasFault, IsIcmpFault}
use Rattle.tsp_icmp.specs.declared.timestamp.IcmpFault.TheVariants.{Kind}

-- the octets behind the checksum, each by its place
abbrev body_of : List ℕ → List ℕ
body_of o = octet o 4 ∷ octet o 5 ∷ octet o 6 ∷ octet o 7 ∷ octet o 8 ∷ octet o 9 ∷ octet o 10 ∷ octet o 11 ∷ octet o 12 ∷ octet o 13 ∷ octet o 14 ∷
    octet o 15 ∷ octet o 16 ∷ octet o 17 ∷ octet o 18 ∷ octet o 19 ∷ []

-- 20 octets, each by its place
twenty : (o : List ℕ) → length o ≡ 20 → o ≡ octet o 0 ∷ octet o 1 ∷ octet o 2 ∷ octet o 3 ∷ body_of o
twenty (a ∷ b ∷ c ∷ d ∷ v ∷ f ∷ g ∷ h ∷ i ∷ j ∷ k ∷ l ∷ m ∷ n ∷ p ∷ q ∷ r ∷ s ∷ t ∷ u ∷ []) e = refl
twenty _ e = absurd (omega arith)

abbrev pub IsOctets : List ℕ → Type 0
IsOctets o = (i : ℕ) → get_or o i 0 < 256

IsOctets_2 : (a b : ℕ) → a < 256 → b < 256 → IsOctets (a ∷ b ∷ [])
IsOctets_2 a b ha hb zero = ha
IsOctets_2 a b ha hb (suc zero) = hb
IsOctets_2 a b ha hb (suc (suc i)) = omega arith

IsOctets_4 : (a b c d : ℕ) → a < 256 → b < 256 → c < 256 → d < 256 → IsOctets (a ∷ b ∷ c ∷ d ∷ [])
IsOctets_4 a b c d ha hb hc hd zero = ha
IsOctets_4 a b c d ha hb hc hd (suc i) = three i where
  three : (i : ℕ) → get_or (b ∷ c ∷ d ∷ []) i 0 < 256
  three zero = hb
  three (suc i) = IsOctets_2 c d hc hd i

-- the octets of a number that is read at a place
pair : (o : List ℕ) (i n : ℕ) → IsOctets o → n ≡ from_be_bytes w16 (octet o i ∷ octet o (i + 1) ∷ []) → to_be_bytes w16 n ≡ octet o i ∷ octet o (i + 1) ∷ []
pair o i n h e = be_bytes_2 (octet o i ∷ octet o (i + 1) ∷ []) n refl (IsOctets_2 (octet o i) (octet o (i + 1)) (h i) (h (i + 1))) e

four : (o : List ℕ) (i n : ℕ) → IsOctets o → n ≡ from_be_bytes w32 (octet o i ∷ octet o (i + 1) ∷ octet o (i + 2) ∷ octet o (i + 3) ∷ [])
    → to_be_bytes w32 n ≡ octet o i ∷ octet o (i + 1) ∷ octet o (i + 2) ∷ octet o (i + 3) ∷ []
four o i n h e = be_bytes_4 (octet o i ∷ octet o (i + 1) ∷ octet o (i + 2) ∷ octet o (i + 3) ∷ []) n refl
    (IsOctets_4 (octet o i) (octet o (i + 1)) (octet o (i + 2)) (octet o (i + 3)) (h i) (h (i + 1)) (h (i + 2)) (h (i + 3))) e

-- parts that are the same make the same octets
joined : (k : ℕ) (i i' s s' a a' r r' t t' : List ℕ) → i ≡ i' → s ≡ s' → a ≡ a' → r ≡ r' → t ≡ t'
    → (k ∷ 0 ∷ []) ++ to_be_bytes w16 (checksum ((k ∷ 0 ∷ []) ++ 0 ∷ 0 ∷ (i ++ s ++ a ++ r ++ t))) ++ (i ++ s ++ a ++ r ++ t)
    ≡ (k ∷ 0 ∷ []) ++ to_be_bytes w16 (checksum ((k ∷ 0 ∷ []) ++ 0 ∷ 0 ∷ (i' ++ s' ++ a' ++ r' ++ t'))) ++ (i' ++ s' ++ a' ++ r' ++ t')
joined k i i' s s' a a' r r' t t' ei es ea er et = rw (ei, es, ea, er, et) refl

-- octets whose checksum is right are the message of their fields
pub read_is : (o : List ℕ) (m : Timestamp) → length o ≡ 20 → IsOctets o → octet o 0 ≡ type_of m.reply → octet o 1 ≡ 0
    → from_be_bytes w16 (octet o 2 ∷ octet o 3 ∷ []) ≡ checksum (without_checksum o)
    → m.ident ≡ from_be_bytes w16 (octet o 4 ∷ octet o 5 ∷ []) → m.seq ≡ from_be_bytes w16 (octet o 6 ∷ octet o 7 ∷ [])
    → m.originate ≡ from_be_bytes w32 (octet o 8 ∷ octet o 9 ∷ octet o 10 ∷ octet o 11 ∷ [])
    → m.receive ≡ from_be_bytes w32 (octet o 12 ∷ octet o 13 ∷ octet o 14 ∷ octet o 15 ∷ [])
    → m.transmit ≡ from_be_bytes w32 (octet o 16 ∷ octet o 17 ∷ octet o 18 ∷ octet o 19 ∷ [])
    → o ≡ icmp_octets m
read_is o m e h kind code sum ident seq originate receive transmit =
    let front : octet o 0 ∷ octet o 1 ∷ [] ≡ type_of m.reply ∷ 0 ∷ [] = rw (kind, code) refl in
    let blank : without_checksum o ≡ type_of m.reply ∷ 0 ∷ 0 ∷ 0 ∷ body_of o = ap without_checksum (twenty o e) ∙ ap (λ l. l ++ 0 ∷ 0 ∷ body_of o) front in
    let sums : to_be_bytes w16 (checksum (type_of m.reply ∷ 0 ∷ 0 ∷ 0 ∷ body_of o)) ≡ octet o 2 ∷ octet o 3 ∷ [] =
    ap (λ l. to_be_bytes w16 (checksum l)) (sym blank) ∙ pair o 2 (checksum (without_checksum o)) h (sym sum) in
    sym (
    joined (type_of m.reply) _ _ _ _ _ _ _ _ _ _ (pair o 4 m.ident h ident) (pair o 6 m.seq h seq) (four o 8 m.originate h originate)
    (four o 12 m.receive h receive) (four o 16 m.transmit h transmit)
    ∙ ap (λ l. (type_of m.reply ∷ 0 ∷ []) ++ l ++ body_of o) sums
    ∙ ap (λ l. l ++ octet o 2 ∷ octet o 3 ∷ body_of o) (sym front)
    ∙ sym (twenty o e)
    )

type_of_injective : (b c : Bool) → type_of b ≡ type_of c → b ≡ c
type_of_injective true true e = refl
type_of_injective true false e = absurd (omega (arith, e))
type_of_injective false true e = absurd (omega (arith, e))
type_of_injective false false e = refl

-- two octets at a place say the same number
pair_same : (m n i : ℕ) (o p : List ℕ) → m < 2 ^ 16 → n < 2 ^ 16 → to_be_bytes w16 m ≡ octet o i ∷ octet o (i + 1) ∷ [] → to_be_bytes w16 n ≡ octet p i ∷
    octet p (i + 1) ∷ [] → o ≡ p → m ≡ n
pair_same m n i o p hm hn em en e = sym (from_be_bytes-to_be_bytes_2 m hm) ∙ ap (from_be_bytes w16) (em ∙ ap (λ l. octet l i ∷ octet l (i + 1) ∷ []) e ∙
    sym en) ∙ from_be_bytes-to_be_bytes_2 n hn

four_same : (m n i : ℕ) (o p : List ℕ) → m < 2 ^ 32 → n < 2 ^ 32
    → to_be_bytes w32 m ≡ octet o i ∷ octet o (i + 1) ∷ octet o (i + 2) ∷ octet o (i + 3) ∷ [] → to_be_bytes w32 n ≡ octet p i ∷ octet p (i + 1) ∷
    octet p (i + 2) ∷ octet p (i + 3) ∷ [] → o ≡ p → m ≡ n
four_same m n i o p hm hn em en e = sym (from_be_bytes-to_be_bytes_4 m hm) ∙ ap (from_be_bytes w32) (em ∙
    ap (λ l. octet l i ∷ octet l (i + 1) ∷ octet l (i + 2) ∷ octet l (i + 3) ∷ []) e ∙ sym en) ∙ from_be_bytes-to_be_bytes_4 n hn

made : (m n : Timestamp) → m.reply ≡ n.reply → m.ident ≡ n.ident → m.seq ≡ n.seq → m.originate ≡ n.originate → m.receive ≡ n.receive → m.transmit ≡ n.transmit →
    m ≡ n
made m n a b c d e f = rw (a, b, c, d, e, f) refl

-- octets are one message's
pub icmp_octets_injective : (m n : Timestamp) → IsTimestamp m → IsTimestamp n → icmp_octets m ≡ icmp_octets n → m ≡ n
icmp_octets_injective m n g h e =
    let o = icmp_octets m in
    let p = icmp_octets n in
    made m n (type_of_injective m.reply n.reply (ap (λ l. octet l 0) e))
    (pair_same m.ident n.ident 4 o p g.ident h.ident refl refl e) (pair_same m.seq n.seq 6 o p g.seq h.seq refl refl e)
    (four_same m.originate n.originate 8 o p g.originate h.originate refl refl e) (four_same m.receive n.receive 12 o p g.receive h.receive refl refl e)
    (four_same m.transmit n.transmit 16 o p g.transmit h.transmit refl refl e)

-- a message's octets have no fault
pub icmp_octets_no_fault : (m : Timestamp) (f : IcmpFault) → IsIcmpFault (icmp_octets m) f → ⊥
icmp_octets_no_fault m Kind f = no_kind m.reply f.applies where
  no_kind : (b : Bool) → HasFault (type_of b ∷ []) Kind → ⊥
  no_kind true a = a.1 refl
  no_kind false a = a.0 refl
icmp_octets_no_fault m _ f = f.applies refl

-- of two first faults none stands before the other
pub IsIcmpFault_one : (o : List ℕ) (f g : IcmpFault) → IsIcmpFault o f → IsIcmpFault o g → f ≡ g
IsIcmpFault_one o f g p q = search rules
