-- Laws of name texts.
use Rattle.std.proofs.Common.{◌≡◌, ℕ, ◌<◌, ◌≤◌, List, [], ◌∷◌, ◌++◌, zero, suc, length, take, drop, refl, ap, sym, ◌∙◌, arith, true, false, Bool, Result, Ok}
use Rattle.std.proofs.Common.{Err, Some, ◌^◌, append_assoc, length-append, MatchResult, IfSome, flat_map, if◌then◌else◌}
use Rattle.std.{proofs.lemmas.Grind.common_steps, proofs.lemmas.List.flat_map_more, specs.List.AllPass, specs.Result.result_ok}
use Rattle.hex.specs.Hex.{encode_lower, encode_with, decode_sized, IsBytes}
use Rattle.hex.{proofs.HexLemmas.decode_sized-encode_lower, specs.declared.error.FromHexError.FromHexError}
use Rattle.tsp_base.specs.{Words.IsName, Words.NameGives, declared.name.NameFault.NameFault}
use Rattle.tsp_base.specs.declared.name.NameFault.TheVariants.{TooLong, HasNul}
use Rattle.tsp_script.{proofs.Outcomes.true_or_false, specs.Texts.is_plain, specs.Texts.escaped, specs.Texts.name_text}

-- one octet
pub IsBytes_one : (c : ℕ) → c < 256 → IsBytes (c ∷ [])
IsBytes_one c h zero = h
IsBytes_one c h (suc i) = omega arith

-- two digits decoded into room for one octet
pub decoded_pair : (s out : List ℕ) (c : ℕ) (r : Result Unit FromHexError) → c < 256 → s ≡ encode_lower (c ∷ [])
    → MatchResult (decode_sized s 1) (λ bytes. (r ≡ Ok tt) × (out ≡ bytes)) (λ e. r ≡ Err e) → (r ≡ Ok tt) × (out ≡ c ∷ [])
decoded_pair s out c r h e m =
    let d : decode_sized s 1 ≡ Ok (c ∷ []) = rw e (decode_sized-encode_lower (c ∷ []) 1 refl (IsBytes_one c h)) in
    rw d at m

-- a text that begins with a per cent sign begins with an octet that is written by digits
percent_case : (b : Bool) (c x : ℕ) (xs rest : List ℕ) → is_plain c ≡ b → x ≡ 37
    → x ∷ xs ≡ (if b then c ∷ [] else 37 ∷ encode_lower (c ∷ [])) ++ rest → xs ≡ encode_lower (c ∷ []) ++ rest
percent_case true c x xs rest p h e =
    let q : c ≡ 37 = cc in
    absurd (true_or_false (is_plain c) p (rw q refl))
percent_case false c x xs rest p h e = cc

pub percent_front : (c x : ℕ) (xs rest : List ℕ) → x ≡ 37 → x ∷ xs ≡ escaped c ++ rest → xs ≡ encode_lower (c ∷ []) ++ rest
percent_front c x xs rest h e = percent_case (is_plain c) c x xs rest refl h e

-- such an octet doesn't stand for itself
escapes_case : (b : Bool) (c x : ℕ) (xs rest : List ℕ) → is_plain c ≡ b → x ≡ 37 → x ∷ xs ≡ (if b then c ∷ [] else 37 ∷ encode_lower (c ∷ [])) ++ rest →
    is_plain c ≡ false
escapes_case true c x xs rest p h e =
    let q : c ≡ 37 = cc in
    absurd (true_or_false (is_plain c) p (rw q refl))
escapes_case false c x xs rest p h e = p

pub percent_escapes : (c x : ℕ) (xs rest : List ℕ) → x ≡ 37 → x ∷ xs ≡ escaped c ++ rest → is_plain c ≡ false
percent_escapes c x xs rest h e = escapes_case (is_plain c) c x xs rest refl h e

pub pair_front : (c : ℕ) (xs rest : List ℕ) → xs ≡ encode_lower (c ∷ []) ++ rest → (take 2 xs ≡ encode_lower (c ∷ [])) × (drop 2 xs ≡ rest) × (2 ≤ length xs)
unfolding encode_with
pair_front c xs rest e = rw e (refl, refl, omega arith)

-- the text of an octet isn't empty
escaped_case : (b : Bool) (c : ℕ) (rest : List ℕ) → [] ≡ (if b then c ∷ [] else 37 ∷ encode_lower (c ∷ [])) ++ rest → ⊥
escaped_case true c rest e = cc
escaped_case false c rest e = cc

pub escaped_some : (c : ℕ) (rest : List ℕ) → [] ≡ escaped c ++ rest → ⊥
escaped_some c rest e = escaped_case (is_plain c) c rest e

-- a name whose text isn't a lone per cent sign is written octet by octet
pub name_begins : (text name : List ℕ) → (text ≡ 37 ∷ [] → ⊥) → text ≡ name_text name → text ≡ flat_map escaped name
name_begins text [] n e = absurd (n e)
name_begins text (c ∷ cs) n e = e

-- a lone per cent sign is the text of the empty name alone
lone_case : (b : Bool) (c : ℕ) (rest : List ℕ) → is_plain c ≡ b → 37 ∷ [] ≡ (if b then c ∷ [] else 37 ∷ encode_lower (c ∷ [])) ++ rest → ⊥
unfolding encode_with
lone_case true c rest p e =
    let q : c ≡ 37 = cc in
    true_or_false (is_plain c) p (rw q refl)
lone_case false c rest p e = cc

pub name_empty : (name : List ℕ) → 37 ∷ [] ≡ name_text name → name ≡ []
name_empty [] e = refl
name_empty (c ∷ cs) e = absurd (lone_case (is_plain c) c (flat_map escaped cs) refl e)

-- the text of a name isn't empty
some_case : (b : Bool) (c : ℕ) (rest : List ℕ) → 0 < length ((if b then c ∷ [] else 37 ∷ encode_lower (c ∷ [])) ++ rest)
some_case true c rest = omega arith
some_case false c rest = omega arith

pub name_text_some : (name : List ℕ) → 0 < length (name_text name)
name_text_some [] = omega arith
name_text_some (c ∷ cs) = some_case (is_plain c) c (flat_map escaped cs)

-- the octet behind those that were read
pub IsBytes_next : (name items : List ℕ) (c : ℕ) (left : List ℕ) → IsBytes name → name ≡ items ++ c ∷ left → c < 256
IsBytes_next name [] c left h e = let k = h 0 in rw e at k
IsBytes_next name (x ∷ xs) c left h e = IsBytes_next (xs ++ c ∷ left) xs c left (λ i. let k = h (suc i) in rw e at k) refl

IsBytes_behind : (items : List ℕ) (c : ℕ) → IsBytes items → c < 256 → IsBytes (items ++ c ∷ [])
IsBytes_behind [] c b h i = IsBytes_one c h i
IsBytes_behind (x ∷ xs) c b h zero = b 0
IsBytes_behind (x ∷ xs) c b h (suc i) = IsBytes_behind xs c (λ k. b (suc k)) h i

pub IsBytes_more : (items more : List ℕ) (c : ℕ) → IsBytes items → c < 256 → more ≡ items ++ c ∷ [] → IsBytes more
IsBytes_more items more c b h m = rw m (IsBytes_behind items c b h)

-- what is left of a name when its text is read as far as rest
abbrev pub Left : List ℕ → List ℕ → List ℕ → Type 0
Left name items rest = (left : List ℕ) × (name ≡ items ++ left) × (rest ≡ flat_map escaped left)

-- what reading one octet does
abbrev pub Reads : List ℕ → ℕ → List ℕ → Type 0
Reads rest octet after = (c : ℕ) (r : List ℕ) → c < 2 ^ 8 → rest ≡ escaped c ++ r → (octet ≡ c) × (after ≡ r)

pub one_more : (name items more rest after : List ℕ) (octet : ℕ) → IsBytes name → 0 < length rest → Reads rest octet after → more ≡ items ++ octet ∷ [] →
    Left name items rest → Left name more after
one_more name items more rest after octet b n reads m ([], p, q) = absurd (let z : length rest ≡ 0 = ap length q in omega arith)
one_more name items more rest after octet b n reads m (c ∷ cs, p, q) =
    let r = reads c (flat_map escaped cs) (IsBytes_next name items c cs b p) q in
    (cs, p ∙ sym (rw (m, append_assoc) (ap (λ x. items ++ x ∷ cs) r.0)), r.1)

-- where text is left, not all octets are read
pub not_full : (name items rest : List ℕ) → 0 < length rest → Left name items rest → length items < length name
not_full name items rest n ([], p, q) = absurd (let z : length rest ≡ 0 = ap length q in omega (arith, z, n))
not_full name items rest n (c ∷ cs, p, q) = omega (arith, ap length p, length-append items (c ∷ cs))

-- an octet can be read where text is left
pub can_read : (name items rest : List ℕ) → IsBytes name → 0 < length rest → Left name items rest → (c : ℕ) × (r : List ℕ) × (c < 256) × (rest ≡ escaped c ++ r)
can_read name items rest b n ([], p, q) = absurd (let z : length rest ≡ 0 = ap length q in omega arith)
can_read name items rest b n (c ∷ cs, p, q) = (c, flat_map escaped cs, IsBytes_next name items c cs b p, q)

empty : (xs : List ℕ) → length xs ≡ 0 → [] ≡ xs
empty [] h = refl
empty (x ∷ xs) h = absurd (omega arith)

-- nothing is left where no text is left
pub all_read : (name items rest : List ℕ) → length rest ≡ 0 → Left name items rest → name ≡ items
all_read name items rest n ([], p, q) = p ∙ grind (arith, common_steps)
all_read name items rest n (c ∷ cs, p, q) = absurd (escaped_some c (flat_map escaped cs) (empty rest n ∙ q))

-- what making a name gives where the octets are a name's
pub name_made : (r : Result (List ℕ) NameFault) (octets name : List ℕ) → IsName name → name ≡ octets → NameGives r octets → result_ok r ≡ Some name
name_made (Ok x) octets name n e g = ap Some (g.1 ∙ sym e)
name_made (Err TooLong) octets name n e g = absurd (omega (arith, n.short, ap length e))
name_made (Err HasNul) octets name n e g = absurd (n.no_nul (rw e g.1))

-- an octet that stands for itself is its own text
plain_one : (c : ℕ) → is_plain c ≡ true → escaped c ≡ c ∷ []
plain_one c h = rw h refl

-- octets that stand for themselves are their own text
pub plain_text : (xs : List ℕ) → AllPass is_plain xs → flat_map escaped xs ≡ xs
plain_text [] h = refl
plain_text (c ∷ cs) h =
    let e : is_plain c ≡ true = h 0 0 (omega arith) in
    let t : flat_map escaped cs ≡ cs = plain_text cs (λ k d b. h (suc k) d (omega (arith, b))) in
    rw (plain_one c e, t) refl

plain_case : (b : Bool) (c : ℕ) (cs text : List ℕ) → is_plain c ≡ b → AllPass is_plain text →
    (AllPass is_plain (flat_map escaped cs) → cs ≡ flat_map escaped cs)
    → text ≡ (if b then c ∷ [] else 37 ∷ encode_lower (c ∷ [])) ++ flat_map escaped cs → c ∷ cs ≡ text
plain_case true c cs text p h more e =
    let t : AllPass is_plain (c ∷ flat_map escaped cs) = rw e at h in
    ap (λ x. c ∷ x) (more (λ k d b. t (suc k) d (omega (arith, b)))) ∙ sym e
plain_case false c cs text p h more e =
    let t : AllPass is_plain (37 ∷ (encode_lower (c ∷ []) ++ flat_map escaped cs)) = rw e at h in
    let z : is_plain 37 ≡ true = t 0 0 (omega arith) in
    absurd (true_or_false (is_plain 37) z refl)

-- a text of octets that stand for themselves is the text of these octets alone
pub plain_name : (name text : List ℕ) → AllPass is_plain text → text ≡ flat_map escaped name → name ≡ text
plain_name [] text h e = sym e
plain_name (c ∷ cs) text h e = plain_case (is_plain c) c cs text refl h (λ t. plain_name cs (flat_map escaped cs) t refl) e

-- one octet more of those that were read
pub more_read : (text items more rest after : List ℕ) (octet : ℕ) → text ≡ flat_map escaped items ++ rest → rest ≡ escaped octet ++ after → more ≡ items ++
    octet ∷ []
    → text ≡ flat_map escaped more ++ after
more_read text items more rest after octet e f m =
    let t : (flat_map escaped items ++ escaped octet) ++ after ≡ flat_map escaped (items ++ octet ∷ []) ++ after =
    ap (λ x. x ++ after) (flat_map_more escaped [] items octet) in
    e ∙ rw (f, m) (sym (append_assoc (flat_map escaped items) (escaped octet) after) ∙ t)

-- a text that was read whole
pub text_read : (text items rest : List ℕ) → length rest ≡ 0 → text ≡ flat_map escaped items ++ rest → text ≡ flat_map escaped items
text_read text items [] n e = e ∙ grind (arith, common_steps)
text_read text items (x ∷ xs) n e = absurd (omega (arith, n))

-- the octets of a text that isn't empty
name_begun : (octets text : List ℕ) → 0 < length text → text ≡ flat_map escaped octets → text ≡ name_text octets
name_begun [] text s e = absurd (omega (arith, s, ap length e))
name_begun (c ∷ cs) text s e = e

-- the name that is made of the octets of a text
pub name_found : (r : Result (List ℕ) NameFault) (octets text : List ℕ) → IsBytes octets → 0 < length text → text ≡ flat_map escaped octets → NameGives r octets
    → IfSome (result_ok r) (λ n. IsName n × IsBytes n × (text ≡ name_text n))
name_found (Ok x) octets text b s e g = rw g.1 (g.0, b, name_begun octets text s e)
name_found _ octets text b s e g = tt

pub empty_found : (name text : List ℕ) → name ≡ [] → text ≡ 37 ∷ [] → IsName name × IsBytes name × (text ≡ name_text name)
empty_found name text n e = rw n (record { short = omega arith; no_nul = λ k. omega (arith, k.1) }, (λ i. omega arith), e)
