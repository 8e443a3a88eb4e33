-- The two conversions: what their lines are, that both are definite, and the answer that is due to lines of datagrams.
use Rattle.std.proofs.Common.{◌≡◌, ℕ, ◌+◌, ◌^◌, ◌<◌, List, [], ◌∷◌, ◌++◌, zero, suc, true, drop, refl, sym, arith, inl, inr, false, ap, ◌∙◌, map, Result, Ok}
use Rattle.std.proofs.Common.{Err, OnOk, OnErr, IfErr, MatchResult, ◌≤◌, append-nil, length}
use Rattle.std.{specs.List.AllZip, specs.declared.option.Option.Option, proofs.lemmas.Grind.flat_map-append, proofs.lemmas.List.map-append}
use Rattle.hex.{specs.Hex.IsBytes, specs.Hex.encode_lower, proofs.HexLemmas.decode_of-ok, proofs.HexLemmas.decode_of-same}
use Rattle.tsp_base.specs.{Words.body_fits, declared.kind.Kind.Kind, declared.stamp.Stamp.TheVariants.Request, declared.stamp.Stamp.TheVariants.Reply}
use Rattle.tsp_base.specs.declared.datagram.Datagram.{Datagram, TheVariants.Message, TheVariants.Stamp}
use Rattle.tsp_base.specs.declared.message.Body.{Body, TheVariants.Nothing, TheVariants.Time as TimeBody, TheVariants.Hops}
use Rattle.tsp_codec.specs.{Numbers.be16_at, Numbers.be64_at, Canon.canon, Spelling.Spells, Spelling.SpellsBody}
use Rattle.tsp_script.specs.{Ranges.IsBody, Ranges.IsDatagram, Texts.message_text, Traces.fault_word}
use Rattle.tsp_codec.proofs.OneReading.{Spells_no_fault, Spells_one, IsFault_one}
use Rattle.tsp_lines.specs.{Meanings.Meaning, Meanings.Goes, Meanings.StopsAt, Meanings.stop_of, Lines.close, Lines.closed, Outputs.Hands}
use Rattle.tsp_lines.{proofs.Stops.StopsAt_stop_of, specs.Definite.IsDefinite, specs.Answers.IsAnswer}
use Rattle.tsp_lines.specs.declared.{output.Unwritten.Unwritten, treatment.Stop.Stop, treat.Outcome.TheVariants.Ok as Done}
use Rattle.tsp_convert.specs.Shows.{IsHexLineOf, RefusesHex, IsHex, IsNoHex, AreHexLines, lines_shown, show_meaning}
use Rattle.tsp_convert.{specs.Packs.IsLineOf, specs.Packs.AreMessageLines, specs.Packs.packed, specs.Packs.pack_meaning, proofs.LinesApart.IsLineOf_one}

be16_at_le : (o : List ℕ) (i : ℕ) → IsBytes o → be16_at o i < 2 ^ 16
be16_at_le o i h = omega (arith, h i, h (i + 1))

be64_at_le : (o : List ℕ) (i : ℕ) → IsBytes o → be64_at o i < 2 ^ 64
be64_at_le o i h = omega (arith, h i, h (i + 1), h (i + 2), h (i + 3), h (i + 4), h (i + 5), h (i + 6), h (i + 7))

IsBytes_drop : (n : ℕ) (o : List ℕ) → IsBytes o → IsBytes (drop n o)
IsBytes_drop zero o h = h
IsBytes_drop (suc n) [] h = h
IsBytes_drop (suc n) (x ∷ o) h = IsBytes_drop n o (λ i. h (suc i))

IsBytes_front : (o rest : List ℕ) → IsBytes (o ++ rest) → IsBytes o
IsBytes_front [] rest h i = omega arith
IsBytes_front (x ∷ o) rest h zero = h 0
IsBytes_front (x ∷ o) rest h (suc i) = IsBytes_front o rest (λ j. h (suc j)) i

body_fits_spelled : (o : List ℕ) (k : Kind) (b : Body) → SpellsBody o k b → body_fits k b ≡ true
unfolding body_fits
body_fits_spelled o k (TimeBody t) h = h.0
body_fits_spelled o k (Hops n) h = h.1
body_fits_spelled o k Nothing h = rw (h.0, h.1) refl

IsBody_spelled : (o : List ℕ) (k : Kind) (b : Body) → IsBytes o → SpellsBody o k b → IsBody b
IsBody_spelled o k (TimeBody t) w h = rw h.2 h.1.value
IsBody_spelled o k (Hops n) w h = rw h.2 (w 4)
IsBody_spelled o k Nothing w h = tt

-- a datagram that octets spell is in its ranges
pub IsDatagram_spelled : (o : List ℕ) (d : Datagram) → IsBytes o → Spells o d → IsDatagram d
IsDatagram_spelled o (Message m) w h = record {
  number = rw h.number (be16_at_le o 2 w);
  fits = body_fits_spelled o m.kind m.body h.body;
  body = IsBody_spelled o m.kind m.body w h.body;
  name = h.name.0;
  octets = IsBytes_front m.name (0 ∷ h.name.1.0) (rw (sym h.name.1.1) (IsBytes_drop 12 o w));
}
IsDatagram_spelled o (Stamp (Request word counter)) w h = (rw h.word_read (be64_at_le o 4 w), rw h.counter_read (be64_at_le o 12 w))
IsDatagram_spelled o (Stamp (Reply r)) w h = (rw h.word (be64_at_le o 4 w), rw h.counter (be64_at_le o 12 w), h.valid)

-- the octets are the same
pub IsHexLineOf_one : (line : List ℕ) (d e : Datagram) → IsHexLineOf line d → IsHexLineOf line e → d ≡ e
IsHexLineOf_one line d e h k = Spells_one h.0 d e h.2 (rw (decode_of-same line h.0 k.0 h.1.1 k.1.1) k.2)

pub IsHexLineOf_in_ranges : (line : List ℕ) (d : Datagram) → IsHexLineOf line d → IsDatagram d
IsHexLineOf_in_ranges line d h = IsDatagram_spelled h.0 d (decode_of-ok line h.0 h.1.1).3 h.2

pub IsHexLineOf_not_refused : (line cause : List ℕ) (d : Datagram) → IsHexLineOf line d → RefusesHex line cause → ⊥
IsHexLineOf_not_refused line cause d h (inl (inl long, e)) = omega (arith, long, h.1.0)
IsHexLineOf_not_refused line cause d h (inl (inr err, e)) = let f : false ≡ true = rw h.1.1 at err in cc
IsHexLineOf_not_refused line cause d h (inr (octets, fault, hex, f, e)) = Spells_no_fault octets d fault (rw (decode_of-same line octets h.0 hex.1 h.1.1) h.2) f

-- each of these lines is the value at its place, and the text is those values' output
abbrev pub Converts : {A : Type 0} → (List ℕ → A → Type 0) → (A → List ℕ) → List (List ℕ) → List ℕ → Type 0
Converts {A} Is write lines text = (values : List A) × AllZip Is lines values × (text ≡ closed (map write values))

AllZip_more : {A B : Type 0} (R : A → B → Type 0) (xs : List A) (ys : List B) (x : A) (y : B) → AllZip R xs ys → R x y → AllZip R (xs ++ x ∷ []) (ys ++ y ∷ [])
AllZip_more R [] [] x y h r = (r, tt)
AllZip_more R [] (b ∷ ys) x y h r = absurd h
AllZip_more R (a ∷ xs) [] x y h r = absurd h
AllZip_more R (a ∷ xs) (b ∷ ys) x y h r = (h.0, AllZip_more R xs ys x y h.1 r)

-- the last line is the last value
AllZip_before : {A B : Type 0} (R : A → B → Type 0) (xs : List A) (x : A) (ys : List B) → AllZip R (xs ++ x ∷ []) ys → (front : List B) × (y : B) ×
    AllZip R xs front × R x y × (ys ≡ front ++ y ∷ [])
AllZip_before R [] x [] h = absurd h
AllZip_before R [] x (y ∷ []) h = ([], y, tt, h.0, refl)
AllZip_before R [] x (y ∷ z ∷ ys) h = absurd h.1
AllZip_before R (a ∷ xs) x [] h = absurd h
AllZip_before R (a ∷ xs) x (b ∷ ys) h = let t = AllZip_before R xs x ys h.1 in (b ∷ t.0, t.1, (h.0, t.2), t.3, ap (λ l. b ∷ l) t.4)

-- the lines of one value more
closed_more : {A : Type 0} (f : A → List ℕ) (xs : List A) (x : A) → closed (map f xs) ++ close (f x) ≡ closed (map f (xs ++ x ∷ []))
closed_more f xs x = sym (ap closed (map-append f xs (x ∷ [])) ∙ flat_map-append close (map f xs) (f x ∷ []) ∙
    ap (λ l. closed (map f xs) ++ l) (append-nil (close (f x))))

-- one line more
pub Converts_more : {A : Type 0} (Is : List ℕ → A → Type 0) (write : A → List ℕ) (lines : List (List ℕ)) (text : List ℕ) (line more : List ℕ) (x : A)
    → Converts Is write lines text → Is line x → more ≡ close (write x) → Converts Is write (lines ++ line ∷ []) (text ++ more)
Converts_more Is write lines text line more x c is e = (
  c.0 ++ x ∷ [],
  AllZip_more Is lines c.0 line x c.1 is,
  rw (c.2, e) (closed_more write c.0 x),
)

-- a line's output was handed over, or not
pub Goes_or_StopsAt : (m : Meaning) (Stands : List (List ℕ) → Type 0) (lines : List (List ℕ)) (text line more : List ℕ) (written : Option (List ℕ))
    (held : List ℕ) (now : Option (List ℕ)) (keeps : List ℕ) (r : Result Unit Stop)
    → OnOk r (Hands written held now keeps more) → OnErr r (Hands written held now keeps []) → IfErr r (λ stop. (fault : Unwritten) × (stop ≡ stop_of fault))
    → m.accepts (lines ++ line ∷ []) (text ++ more) → Stands (lines ++ line ∷ [])
    → MatchResult r (λ _. Goes m Stands lines text line written held now keeps) (λ stop. StopsAt m lines text line written held now keeps stop)
Goes_or_StopsAt m Stands lines text line more written held now keeps (Ok x) ok err stop a s = (more, ok, a, s)
Goes_or_StopsAt m Stands lines text line more written held now keeps (Err x) ok err stop a s =
    rw stop.1 (StopsAt_stop_of m lines text line written now held keeps stop.0 ([], err, inl refl))

AllZip_one : {A B : Type 0} (R : A → B → Type 0) (one : (x : A) (y z : B) → R x y → R x z → y ≡ z) (xs : List A) (ys zs : List B) → AllZip R xs ys →
    AllZip R xs zs → ys ≡ zs
AllZip_one R one [] [] [] h k = refl
AllZip_one R one [] [] (z ∷ zs) h k = absurd k
AllZip_one R one [] (y ∷ ys) zs h k = absurd h
AllZip_one R one (x ∷ xs) [] zs h k = absurd h
AllZip_one R one (x ∷ xs) (y ∷ ys) [] h k = absurd k
AllZip_one R one (x ∷ xs) (y ∷ ys) (z ∷ zs) h k = rw (one x y z h.0 k.0, AllZip_one R one xs ys zs h.1 k.1) refl

-- where a line is one value at most, the same lines have one output
pub Converts_one : {A : Type 0} (Is : List ℕ → A → Type 0) (write : A → List ℕ) (one : (line : List ℕ) (x y : A) → Is line x → Is line y → x ≡ y)
    (lines : List (List ℕ)) (text other : List ℕ) → Converts Is write lines text → Converts Is write lines other → text ≡ other
Converts_one Is write one lines text other c d = c.2 ∙ ap (λ xs. closed (map write xs)) (AllZip_one Is one lines c.0 d.0 c.1 d.1) ∙ sym d.2

-- a line stands after lines with their output, and is a value
pub Converts_before : {A : Type 0} (Is : List ℕ → A → Type 0) (write : A → List ℕ) (lines : List (List ℕ)) (line text : List ℕ) →
    Converts Is write (lines ++ line ∷ []) text
    → ((front : List ℕ) × (more : List ℕ) × Converts Is write lines front × (text ≡ front ++ more)) × ((x : A) × Is line x)
Converts_before Is write lines line text c =
    let t = AllZip_before Is lines line c.0 c.1 in (
      (closed (map write t.0), close (write t.1), (t.0, t.2, refl), c.2 ∙ ap (λ v. closed (map write v)) t.4 ∙ sym (closed_more write t.0 t.1)),
      (t.1, t.3),
    )

no_hex : (line octets : List ℕ) → IsNoHex line → IsHex line octets → ⊥
no_hex line octets (inl long) h = omega (arith, long, h.0)
no_hex line octets (inr err) h = let f : false ≡ true = rw h.1 at err in cc

-- a line is refused for one cause
RefusesHex_one : (line cause other : List ℕ) → RefusesHex line cause → RefusesHex line other → cause ≡ other
RefusesHex_one line cause other (inl r) (inl s) = r.1 ∙ sym s.1
RefusesHex_one line cause other (inl r) (inr s) = absurd (no_hex line s.0 r.0 s.2)
RefusesHex_one line cause other (inr r) (inl s) = absurd (no_hex line r.0 s.0 r.2)
RefusesHex_one line cause other (inr (octets, f, hex, p, e)) (inr (others, g, hexes, q, d)) =
    let same = decode_of-same line octets others hex.1 hexes.1 in
    e ∙ ap fault_word (IsFault_one others f g (rw same at p) q) ∙ sym d

pub IsDefinite_show : IsDefinite show_meaning
IsDefinite_show = record {
  one_output = Converts_one IsHexLineOf message_text IsHexLineOf_one;
  before = λ lines line text a. ((λ f. f), (Converts_before IsHexLineOf message_text lines line text a).0);
  not_refused = λ lines line text cause a r. let x = (Converts_before IsHexLineOf message_text lines line text a).1 in
      IsHexLineOf_not_refused line cause x.0 x.1 r;
  not_limited = λ lines line text a l. l;
  one_cause = λ lines line cause other r s. RefusesHex_one line cause other r s;
  refused_within = λ lines line cause r l. l;
  one_end = λ lines more other e f. e ∙ sym f;
  one_lack = λ lines cause other e f. absurd e;
  ended_whole = λ lines more cause e f. f;
}

pub IsDefinite_pack : IsDefinite pack_meaning
IsDefinite_pack = record {
  one_output = Converts_one IsLineOf (λ d. encode_lower (canon d)) IsLineOf_one;
  before = λ lines line text a. ((λ f. f), (Converts_before IsLineOf (λ d. encode_lower (canon d)) lines line text a).0);
  not_refused = λ lines line text cause a r. let x = (Converts_before IsLineOf (λ d. encode_lower (canon d)) lines line text a).1 in r.0 x.0 x.1;
  not_limited = λ lines line text a l. l;
  one_cause = λ lines line cause other r s. r.1 ∙ sym s.1;
  refused_within = λ lines line cause r l. l;
  one_end = λ lines more other e f. e ∙ sym f;
  one_lack = λ lines cause other e f. absurd e;
  ended_whole = λ lines more cause e f. f;
}

-- the answer to lines of datagrams
pub answer_hex : (limit : ℕ) (octets : List ℕ) → length octets ≤ limit → (a : AreHexLines octets) → IsAnswer show_meaning limit octets Done (lines_shown a.1)
answer_hex limit octets l (lines, datagrams, n, are, z) = record {
  lines = lines;
  text = lines_shown datagrams;
  said = [];
  feedless = n;
  accepted = (datagrams, z, refl);
  ending = ((octets, are, (l, refl)), refl);
  whole = sym (append-nil (lines_shown datagrams));
}

pub answer_messages : (limit : ℕ) (octets : List ℕ) → length octets ≤ limit → (a : AreMessageLines octets) →
    IsAnswer pack_meaning limit octets Done (packed a.1)
answer_messages limit octets l (lines, datagrams, n, are, z) = record {
  lines = lines;
  text = packed datagrams;
  said = [];
  feedless = n;
  accepted = (datagrams, z, refl);
  ending = ((octets, are, (l, refl)), refl);
  whole = sym (append-nil (packed datagrams));
}
