-- Message lines that are the same are one datagram's.
use Rattle.std.proofs.Common.{◌≡◌, ℕ, ◌<◌, List, [], ◌∷◌, ◌++◌, suc, Bool, true, false, Ok, take, drop, refl, sym, ap, ◌∙◌, flat_map, if◌then◌else◌, ◌^◌, arith}
use Rattle.std.proofs.Common.{append_assoc, slice_index_or, ℤ, pos, negsuc, ◌≤ℤ◌, ◌<ℤ◌, decimal, codes}
use Rattle.std.{specs.Fmt.signed_decimal, proofs.lemmas.Fmt.decimal_injective, proofs.lemmas.Fmt.signed_decimal_injective, proofs.lemmas.Int.ints}
use lib.Signed.{mag}
use Rattle.hex.{specs.Hex.encode_lower, specs.Hex.encode_with, specs.Hex.decode_of, specs.Hex.IsBytes, proofs.HexLemmas.decode_of-encode_lower}
use Rattle.tsp_script.specs.Texts.{is_plain, escaped, name_text, space, body_text, message_line, message_text}
use Rattle.tsp_script.proofs.{NameTexts.IsBytes_one, NameTexts.escaped_some, NameTexts.name_empty, Bodies.time_body, Bodies.hops_body, Bodies.fits_micros}
use Rattle.tsp_script.proofs.{Outcomes.true_or_false, Cuts.words_apart, Cuts.numbers_apart, Cuts.signs_apart}
use Rattle.tsp_base.specs.Words.{kind_word, MessageValue, body_fits, ReplyValue, IsReply}
use Rattle.tsp_base.specs.declared.{kind.Kind.Kind, stamp.Stamp.TheVariants.Request, stamp.Stamp.TheVariants.Reply}
use Rattle.tsp_base.specs.declared.message.Body.{Body, TheVariants.Nothing, TheVariants.Time as TimeBody, TheVariants.Hops}
use Rattle.tsp_base.specs.declared.datagram.Datagram.{Datagram, TheVariants.Message, TheVariants.Stamp}
use Rattle.tsp_script.specs.Ranges.{IsBody, IsMessage, IsDatagram}
use Rattle.tsp_script.proofs.KindWords.{kind_word_injective, kind_word_not_request, kind_word_not_reply, no_space_kind_word, no_space_spaceless}
use Rattle.tsp_script.proofs.MessageLines.{message_rest, request_rest, reply_rest, message_form, request_form, reply_form}
use Rattle.tsp_codec.proofs.OneReading.{message_parts, reply_parts}
use Rattle.tsp_convert.specs.Packs.{IsLineOf}

-- the digits of one octet
digits_apart : (c d : ℕ) (r s : List ℕ) → c < 256 → d < 256 → encode_lower (c ∷ []) ++ r ≡ encode_lower (d ∷ []) ++ s → (c ≡ d) × (r ≡ s)
unfolding encode_with
digits_apart c d r s h k e =
    let p : encode_lower (c ∷ []) ≡ encode_lower (d ∷ []) = ap (take 2) e in
    let q : Ok (c ∷ []) ≡ Ok (d ∷ []) = sym (decode_of-encode_lower (c ∷ []) (IsBytes_one c h)) ∙ ap decode_of p ∙
    decode_of-encode_lower (d ∷ []) (IsBytes_one d k) in
    (cc, ap (drop 2) e)

octets_case : (a b : Bool) (c d : ℕ) (r s : List ℕ) → is_plain c ≡ a → is_plain d ≡ b → c < 256 → d < 256
    → (if a then c ∷ [] else 37 ∷ encode_lower (c ∷ [])) ++ r ≡ (if b then d ∷ [] else 37 ∷ encode_lower (d ∷ [])) ++ s → (c ≡ d) × (r ≡ s)
octets_case true true c d r s p q h k e = (cc, cc)
octets_case true false c d r s p q h k e = let z : c ≡ 37 = cc in absurd (true_or_false (is_plain c) p (rw z refl))
octets_case false true c d r s p q h k e = let z : d ≡ 37 = cc in absurd (true_or_false (is_plain d) q (rw z refl))
octets_case false false c d r s p q h k e = digits_apart c d r s h k (ap (drop 1) e)

octets_apart : (m n : List ℕ) → IsBytes m → IsBytes n → flat_map escaped m ≡ flat_map escaped n → m ≡ n
octets_apart [] [] h k e = refl
octets_apart [] (d ∷ ds) h k e = absurd (escaped_some d (flat_map escaped ds) e)
octets_apart (c ∷ cs) [] h k e = absurd (escaped_some c (flat_map escaped cs) (sym e))
octets_apart (c ∷ cs) (d ∷ ds) h k e =
    let p = octets_case (is_plain c) (is_plain d) c d (flat_map escaped cs) (flat_map escaped ds) refl refl (h 0) (k 0) e in
    let q = octets_apart cs ds (λ i. h (suc i)) (λ i. k (suc i)) p.1 in
    rw (p.0, q) refl

-- a text is one name's
pub name_text_injective : (m n : List ℕ) → IsBytes m → IsBytes n → name_text m ≡ name_text n → m ≡ n
name_text_injective [] n h k e = sym (name_empty n e)
name_text_injective (c ∷ cs) [] h k e = name_empty (c ∷ cs) (sym e)
name_text_injective (c ∷ cs) (d ∷ ds) h k e = octets_apart (c ∷ cs) (d ∷ ds) h k e

abbrev IsShort : ℤ → Type 0
IsShort t = (negsuc 2147483647999999 ≤ℤ t) × (t <ℤ pos 2147483648000000)

small : (t : ℤ) → IsShort t → mag t < 2 ^ 63
small (pos n) h = omega (arith, ints, h.1)
small (negsuc n) h = omega (arith, ints, h.0)

spaced : (w r : List ℕ) → (w ++ space) ++ r ≡ w ++ 32 ∷ r
spaced w r = append_assoc w space r

-- bodies of one kind
bodies_apart : (k : Kind) (b c : Body) (r s : List ℕ) → IsBody b → IsBody c → body_fits k b ≡ true → body_fits k c ≡ true → body_text b ++ r ≡ body_text c ++
    s → (b ≡ c) × (r ≡ s)
unfolding body_fits
bodies_apart k Nothing Nothing r s h i f g e = (refl, e)
bodies_apart k Nothing (TimeBody u) r s h i f g e = absurd (time_body k Nothing g f)
bodies_apart k Nothing (Hops n) r s h i f g e = absurd (hops_body k Nothing g f)
bodies_apart k (TimeBody t) Nothing r s h i f g e = absurd (time_body k Nothing f g)
bodies_apart k (TimeBody t) (TimeBody u) r s h i f g e =
    let p = signs_apart t u r s (fits_micros t h) (fits_micros u i) (small t (h.low, h.high)) (small u (i.low, i.high))
    (sym (spaced (signed_decimal t) r) ∙ e ∙ spaced (signed_decimal u) s) in
    (ap TimeBody p.0, p.1)
bodies_apart k (TimeBody t) (Hops n) r s h i f g e = absurd (time_body k (Hops n) f g)
bodies_apart k (Hops m) Nothing r s h i f g e = absurd (hops_body k Nothing f g)
bodies_apart k (Hops m) (TimeBody u) r s h i f g e = absurd (hops_body k (TimeBody u) f g)
bodies_apart k (Hops m) (Hops n) r s h i f g e =
    let p = numbers_apart m n r s (omega (arith, h)) (omega (arith, i)) (sym (spaced (decimal m) r) ∙ e ∙ spaced (decimal n) s) in
    (ap Hops p.0, p.1)

messages_apart : (m n : MessageValue) → IsMessage m → IsMessage n → message_line m ≡ message_line n → m ≡ n
messages_apart m n h i e =
    let w = words_apart (kind_word m.kind) (kind_word n.kind) (message_rest m) (message_rest n) (no_space_kind_word m.kind) (no_space_kind_word n.kind)
    (sym (message_form m) ∙ e ∙ message_form n) in
    let k = kind_word_injective m.kind n.kind w.0 in
    let v = numbers_apart m.number n.number (body_text m.body ++ name_text m.name) (body_text n.body ++ name_text n.name) (omega (arith, h.number))
    (omega (arith, i.number)) w.1 in
    let fit : body_fits n.kind m.body ≡ true = rw (sym k) h.fits in
    let b = bodies_apart n.kind m.body n.body (name_text m.name) (name_text n.name) h.body i.body fit i.fits v.1 in
    let names = name_text_injective m.name n.name h.octets i.octets b.1 in
    message_parts m.kind m.number m.body m.name n k v.0 b.0 names

replies_apart : (r s : ReplyValue) → (r.word < 2 ^ 64) × (r.counter < 2 ^ 64) × IsReply r.ticket r.reading → (s.word < 2 ^ 64) × (s.counter < 2 ^ 64) ×
    IsReply s.ticket s.reading
    → reply_rest r ≡ reply_rest s → r ≡ s
replies_apart r s h i e =
    let t = numbers_apart r.ticket s.ticket _ _ (omega (arith, h.2.small)) (omega (arith, i.2.small)) e in
    let w = numbers_apart r.word s.word _ _ h.0 i.0 t.1 in
    let c = numbers_apart r.counter s.counter _ _ h.1 i.1 w.1 in
    let z = signed_decimal_injective r.reading s.reading (small r.reading (omega (arith, ints, h.2.low), h.2.high))
    (small s.reading (omega (arith, ints, i.2.low), i.2.high)) c.1 in
    reply_parts r.ticket r.word r.counter r.reading s t.0 w.0 c.0 z

stamps_differ : (r s : List ℕ) → codes "request" ++ 32 ∷ r ≡ codes "reply" ++ 32 ∷ s → ⊥
stamps_differ r s e = let q : ◌≡◌ {A = ℕ} 113 112 = ap (λ l. slice_index_or l 2 0) e in omega (arith, q)

no_request : (m : MessageValue) (r : List ℕ) → message_line m ≡ codes "request" ++ 32 ∷ r → ⊥
no_request m r e = kind_word_not_request m.kind (words_apart (kind_word m.kind) (codes "request") (message_rest m) r (no_space_kind_word m.kind)
    (no_space_spaceless (codes "request") refl) (sym (message_form m) ∙ e)).0

no_reply : (m : MessageValue) (r : List ℕ) → message_line m ≡ codes "reply" ++ 32 ∷ r → ⊥
no_reply m r e = kind_word_not_reply m.kind (words_apart (kind_word m.kind) (codes "reply") (message_rest m) r (no_space_kind_word m.kind)
    (no_space_spaceless (codes "reply") refl) (sym (message_form m) ∙ e)).0

-- a line is one datagram's
pub message_text_injective : (d e : Datagram) → IsDatagram d → IsDatagram e → message_text d ≡ message_text e → d ≡ e
message_text_injective (Message m) (Message n) h i e = ap Message (messages_apart m n h i e)
message_text_injective (Message m) (Stamp (Request w c)) h i e = absurd (no_request m (request_rest w c) (e ∙ request_form w c))
message_text_injective (Message m) (Stamp (Reply r)) h i e = absurd (no_reply m (reply_rest r) (e ∙ reply_form r))
message_text_injective (Stamp (Request w c)) (Message n) h i e = absurd (no_request n (request_rest w c) (sym e ∙ request_form w c))
message_text_injective (Stamp (Reply r)) (Message n) h i e = absurd (no_reply n (reply_rest r) (sym e ∙ reply_form r))
message_text_injective (Stamp (Request v c)) (Stamp (Request w d)) h i e =
    let r = (words_apart (codes "request") (codes "request") (request_rest v c) (request_rest w d) (no_space_spaceless (codes "request") refl)
    (no_space_spaceless (codes "request") refl) (sym (request_form v c) ∙ e ∙ request_form w d)).1 in
    let p = numbers_apart v w (decimal c) (decimal d) h.0 i.0 r in
    rw (p.0, decimal_injective c d h.1 i.1 p.1) refl
message_text_injective (Stamp (Request v c)) (Stamp (Reply r)) h i e = absurd (stamps_differ (request_rest v c) (reply_rest r) (sym (request_form v c) ∙ e ∙
    reply_form r))
message_text_injective (Stamp (Reply r)) (Stamp (Request w d)) h i e = absurd (stamps_differ (request_rest w d) (reply_rest r) (sym (request_form w d) ∙ sym e ∙
    reply_form r))
message_text_injective (Stamp (Reply r)) (Stamp (Reply s)) h i e =
    let p = (words_apart (codes "reply") (codes "reply") (reply_rest r) (reply_rest s) (no_space_spaceless (codes "reply") refl)
    (no_space_spaceless (codes "reply") refl) (sym (reply_form r) ∙ e ∙ reply_form s)).1 in
    ap (λ z. Stamp (Reply z)) (replies_apart r s h i p)

pub IsLineOf_one : (line : List ℕ) (d e : Datagram) → IsLineOf line d → IsLineOf line e → d ≡ e
IsLineOf_one line d e h k = message_text_injective d e h.0 k.0 (sym h.1 ∙ k.1)
