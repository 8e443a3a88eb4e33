-- Laws of the table of a directory.
use Rattle.std.proofs.Common.{◌≡◌, ℕ, ◌<◌, ◌⊎◌, List, [], ◌∷◌, ◌++◌, length, refl, sym, ap, ◌∙◌, arith, true, false, zero, suc, slice_index_or, length-append}
use Rattle.std.proofs.Common.{⊎_elim, inl, inr, Contains, nat_eq, Option, Some, None, is_some}
use Rattle.std.specs.Int.{w32, to_be_bytes, from_be_bytes}
use Rattle.std.proofs.{Math.Seq.get_or-append_seam, Math.Seq.take-append_seam, lemmas.Bool.cases_eq, lemmas.Bool.ne_eqb}
use Rattle.std.proofs.lemmas.List.{take-append-le, get_or_append_left, Elements.Contains-append_cases}
use Rattle.std.proofs.lemmas.Option.{none-some, slice_get_within, get_or_from_slice_get, slice_get-get_or}
use Rattle.tsp_io.specs.{Directories.AreNumbers, Directories.FitsKey, Directories.IsFirst, Directories.key_of, declared.addr.Addr.Addr}

abbrev of_parts : List ℕ → ℕ → Addr
of_parts ip port = record { ip = ip; port = port }

one_addr : (a b : Addr) → a.ip ≡ b.ip → a.port ≡ b.port → a ≡ b
one_addr a b ips ports = ap (λ ip. of_parts ip a.port) ips ∙ ap (λ port. of_parts b.ip port) ports

-- addresses with one key are the same
one_key : (a b : Addr) → FitsKey a → FitsKey b → key_of a ≡ key_of b → a ≡ b
one_key a b fa fb e =
    let x = from_be_bytes w32 a.ip in
    let y = from_be_bytes w32 b.ip in
    let ports : a.port ≡ b.port = omega (arith, fa.port, fb.port, e) in
    let fronts : x ≡ y = omega (arith, fa.port, fb.port, e) in
    let ips : a.ip ≡ b.ip = sym fa.octets ∙ ap (to_be_bytes w32) fronts ∙ fb.octets in
    one_addr a b ips ports

-- what is found among peers is found among them and one more
first_more : (peers : List Addr) (a addr : Addr) (n : ℕ) → IsFirst peers addr n → IsFirst (peers ++ a ∷ []) addr n
first_more peers a addr n f =
    let inside = slice_get_within peers n addr f.has in
    record {
      has = slice_get-get_or (peers ++ a ∷ []) n addr (omega (arith, inside, length-append peers (a ∷ []))) ∙
          ap Some (get_or_append_left peers (a ∷ []) addr n inside ∙ get_or_from_slice_get peers n addr addr f.has);
      lowest = rw (take-append-le n peers (a ∷ []) (omega (arith, inside))) f.lowest;
    }

-- a peer whose address none before it has is the first with it
first_last : (peers : List Addr) (a addr : Addr) (n : ℕ) → a ≡ addr → n ≡ length peers → ¬ Contains peers a → IsFirst (peers ++ a ∷ []) addr n
first_last peers a addr n same e new = rw (sym same, e) (record {
  has = slice_get-get_or (peers ++ a ∷ []) (length peers) a (omega (arith, length-append peers (a ∷ []))) ∙ ap Some (get_or-append_seam peers a [] a);
  lowest = rw (take-append_seam peers (a ∷ [])) new;
})

only_one : (a x : Addr) (k : ℕ) → k < 1 → slice_index_or (a ∷ []) k x ≡ x → a ≡ x
only_one a x zero h e = e
only_one a x (suc k) h e = absurd (omega (arith, h))

-- whom the peers and one more have
among_more : (peers : List Addr) (a addr : Addr) → Contains (peers ++ a ∷ []) addr → Contains peers addr ⊎ (a ≡ addr)
among_more peers a addr k = ⊎_elim (λ left. inl left) (λ right. inr (only_one a addr right.0 right.1 right.2)) (Contains-append_cases peers (a ∷ []) addr k)

true_apart : (o : Option ℕ) → is_some o ≡ true → o ≡ None → ⊥
true_apart None e g = cc
true_apart (Some n) e g = cc

false_none : (o : Option ℕ) → is_some o ≡ false → o ≡ None
false_none None e = refl
false_none (Some n) e = let bad : ⊥ = cc in absurd bad

-- a table that has a peer's address already holds for it too
pub numbers_keep : (peers : List Addr) (a : Addr) (t : ℕ → Option ℕ) → FitsKey a → is_some (t (key_of a)) ≡ true → AreNumbers peers t →
    AreNumbers (peers ++ a ∷ []) t
numbers_keep peers a t fa e h = record {
  some = λ addr m f g. first_more peers a addr m (h.some addr m f g);
  none = λ addr f g k. ⊎_elim (h.none addr f g) (λ same. true_apart (t (key_of a)) e (ap (λ x. t (key_of x)) same ∙ g)) (among_more peers a addr k);
}

-- a table to which a peer's address was added holds for it too
pub numbers_add : (peers : List Addr) (a : Addr) (t u : ℕ → Option ℕ) (n : ℕ) → n ≡ length peers → FitsKey a → is_some (t (key_of a)) ≡ false →
    AreNumbers peers t → u (key_of a) ≡ Some n → ((q : ℕ) → nat_eq (key_of a) q ≡ false → u q ≡ t q) → AreNumbers (peers ++ a ∷ []) u
numbers_add peers a t u n len fa e h put others = record {
  some = λ addr m f g. ⊎_elim (λ same. found addr m f g same) (λ apart. first_more peers a addr m
      (h.some addr m f (sym (others (key_of addr) (ne_eqb (key_of a) (key_of addr) apart)) ∙ g))) (cases_eq (key_of a) (key_of addr));
  none = λ addr f g k. ⊎_elim (λ same. none-some n (sym g ∙ ap u (sym same) ∙ put)) (λ apart. missed addr f g k apart) (cases_eq (key_of a) (key_of addr));
} where
  found : (addr : Addr) (m : ℕ) → FitsKey addr → u (key_of addr) ≡ Some m → key_of a ≡ key_of addr → IsFirst (peers ++ a ∷ []) addr m
  found addr m f g same =
      let at : Some m ≡ Some n = sym g ∙ ap u (sym same) ∙ put in
      let number : m ≡ n = cc in
      first_last peers a addr m (one_key a addr fa f same) (number ∙ len) (h.none a fa (false_none (t (key_of a)) e))

  missed : (addr : Addr) → FitsKey addr → u (key_of addr) ≡ None → Contains (peers ++ a ∷ []) addr → (key_of a ≡ key_of addr → ⊥) → ⊥
  missed addr f g k apart = ⊎_elim (h.none addr f (sym (others (key_of addr) (ne_eqb (key_of a) (key_of addr) apart)) ∙ g)) (λ same. apart (ap key_of same))
      (among_more peers a addr k)
