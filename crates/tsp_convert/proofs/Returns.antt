-- Lines that were shown come back: no message line has a line feed.
use Rattle.std.proofs.Common.{◌≡◌, ◌≢◌, ℕ, ◌<◌, ◌^◌, List, [], ◌∷◌, ◌++◌, zero, suc, Bool, true, false, Some, refl, arith, ℤ, pos, negsuc, ◌≤ℤ◌, ◌<ℤ◌, decimal}
use Rattle.std.proofs.Common.{codes, flat_map, if◌then◌else◌, slice_index, ◌/◌, ◌%◌, ◌≤◌, inl, map, length, sym, ap, ◌∙◌, append-nil}
use Rattle.std.{proofs.lemmas.Int.ints, proofs.lemmas.List.Elements.All-cons, specs.Fmt.signed_decimal, specs.List.All, specs.List.AllZip}
use Rattle.hex.specs.Hex.{encode_lower, encode_with, hex_digit_value, lower_digits, IsBytes}
use Rattle.hex.proofs.HexLemmas.{IsDigits-lower_digits}
use Rattle.tsp_base.specs.Words.{kind_word, MessageValue, ReplyValue, IsReply}
use Rattle.tsp_base.specs.declared.{kind.Kind.Kind, kind.Kind.TheVariants.AdjTime, stamp.Stamp.TheVariants.Request, stamp.Stamp.TheVariants.Reply}
use Rattle.tsp_base.specs.declared.message.Body.{Body, TheVariants.Nothing, TheVariants.Time as TimeBody, TheVariants.Hops}
use Rattle.tsp_base.specs.declared.datagram.Datagram.{Datagram, TheVariants.Message, TheVariants.Stamp}
use Rattle.tsp_lines.proofs.{Passes.NoFeed_append, OneCut.AreLines_one}
use Rattle.tsp_lines.specs.{Lines.NoFeed, Lines.closed, Lines.AreLines, Answers.IsAnswer, declared.treat.Outcome.TheVariants.Ok as Done}
use Rattle.tsp_script.specs.Ranges.{IsBody, IsMessage, IsDatagram}
use Rattle.tsp_script.specs.Texts.{space, is_plain, escaped, name_text, body_text, message_text}
use Rattle.tsp_script.proofs.{KindWords.without, KindWords.no_mark_without, Cuts.no_feed_decimal as number}
use Rattle.tsp_codec.specs.Canon.{canon}
use Rattle.tsp_convert.specs.{Packs.IsLineOf, Packs.pack_meaning, Returns.IsWritten, Shows.IsHexLineOf, Shows.show_meaning}
use Rattle.tsp_convert.proofs.Conversions.{IsHexLineOf_one, IsHexLineOf_in_ranges}

-- an octet and then others
later : (c : ℕ) (cs : List ℕ) → c ≢ 10 → NoFeed cs → NoFeed (c ∷ cs)
later c cs n m (zero, h, e) = n e
later c cs n m (suc k, h, e) = m (k, omega arith, e)

word : (cs : List ℕ) → without 10 cs ≡ true → NoFeed cs
word = no_mark_without 10

kind : (k : Kind) → NoFeed (kind_word k)
unfolding kind_word
kind k = word (kind_word k) (of k) where
  of : (k : Kind) → without 10 (kind_word k) ≡ true
  of AdjTime = refl
  of _ = refl

time : (t : ℤ) → (negsuc 2147483647999999 ≤ℤ t) × (t <ℤ pos 2147483648000000) → NoFeed (signed_decimal t)
time (pos n) h = number n (omega (arith, ints, h.1))
time (negsuc n) h = later 45 (decimal (suc n)) (omega arith) (number (suc n) (omega (arith, ints, h.0)))

blank : NoFeed space
blank = word space refl

hex_digit : (d : ℕ) → d < 16 → slice_index lower_digits d ≢ 10
hex_digit d h e = let f = IsDigits-lower_digits d h in let g : hex_digit_value 10 ≡ Some d = rw e at f in cc

octet : (c : ℕ) → c < 256 → NoFeed (escaped c)
unfolding encode_with
octet c h = at (is_plain c) refl where
  at : (b : Bool) → is_plain c ≡ b → NoFeed (if b then c ∷ [] else 37 ∷ encode_lower (c ∷ []))
  at true e = later c [] (λ f. let g : is_plain 10 ≡ true = rw f at e in cc) (word [] refl)
  at false e = later 37 (encode_lower (c ∷ [])) (omega arith)
      (later (slice_index lower_digits (c / 16)) (slice_index lower_digits (c % 16) ∷ []) (hex_digit (c / 16) (omega arith))
      (later (slice_index lower_digits (c % 16)) [] (hex_digit (c % 16) (omega arith)) (word [] refl)))

octets : (cs : List ℕ) → IsBytes cs → NoFeed (flat_map escaped cs)
octets [] b = word [] refl
octets (c ∷ cs) b = NoFeed_append (escaped c) (flat_map escaped cs) (octet c (b 0)) (octets cs (λ i. b (suc i)))

name : (cs : List ℕ) → IsBytes cs → NoFeed (name_text cs)
name [] b = word (37 ∷ []) refl
name (c ∷ cs) b = octets (c ∷ cs) b

body : (b : Body) → IsBody b → NoFeed (body_text b)
body Nothing h = word [] refl
body (TimeBody t) h = NoFeed_append (signed_decimal t) space (time t (h.low, h.high)) blank
body (Hops n) h = NoFeed_append (decimal n) space (number n (omega (arith, h))) blank

message : (m : MessageValue) → IsMessage m → NoFeed (message_text (Message m))
message m h =
    let front = NoFeed_append (((kind_word m.kind ++ space) ++ decimal m.number)) space (NoFeed_append (kind_word m.kind ++
    space) (decimal m.number) (NoFeed_append (kind_word m.kind) space (kind m.kind) blank) (number m.number (omega (arith, h.number)))) blank in
    NoFeed_append ((((kind_word m.kind ++ space) ++ decimal m.number) ++ space) ++ body_text m.body) (name_text m.name)
    (NoFeed_append (((kind_word m.kind ++ space) ++ decimal m.number) ++ space) (body_text m.body) front (body m.body h.body)) (name m.name h.octets)

request : (word' counter : ℕ) → word' < 2 ^ 64 → counter < 2 ^ 64 → NoFeed (message_text (Stamp (Request word' counter)))
request w c h k = NoFeed_append ((codes "request " ++ decimal w) ++ space) (decimal c) (NoFeed_append (codes "request " ++
    decimal w) space (NoFeed_append (codes "request ") (decimal w) (word (codes "request ") refl) (number w h)) blank) (number c k)

reply : (r : ReplyValue) → r.word < 2 ^ 64 → r.counter < 2 ^ 64 → IsReply r.ticket r.reading → NoFeed (message_text (Stamp (Reply r)))
reply r h k v =
    let a = NoFeed_append (codes "reply ") (decimal r.ticket) (word (codes "reply ") refl) (number r.ticket (omega (arith, v.small))) in
    let b = NoFeed_append ((codes "reply " ++ decimal r.ticket) ++ space) (decimal r.word) (NoFeed_append (codes "reply " ++ decimal r.ticket) space a blank)
    (number r.word h) in
    let c = NoFeed_append ((((codes "reply " ++ decimal r.ticket) ++ space) ++ decimal r.word) ++
    space) (decimal r.counter) (NoFeed_append (((codes "reply " ++ decimal r.ticket) ++ space) ++ decimal r.word) space b blank) (number r.counter k) in
    NoFeed_append ((((((codes "reply " ++ decimal r.ticket) ++ space) ++ decimal r.word) ++ space) ++ decimal r.counter) ++ space) (signed_decimal r.reading)
    (NoFeed_append (((((codes "reply " ++ decimal r.ticket) ++ space) ++ decimal r.word) ++ space) ++ decimal r.counter) space c blank)
    (time r.reading (omega (arith, ints, v.low), v.high))

-- a message line has no line feed
pub NoFeed_message_text : (d : Datagram) → IsDatagram d → NoFeed (message_text d)
NoFeed_message_text (Message m) h = message m h
NoFeed_message_text (Stamp (Request w c)) h = request w c h.0 h.1
NoFeed_message_text (Stamp (Reply r)) h = reply r h.0 h.1 h.2

-- the lines of datagrams in hexadecimal, of which none has a line feed
lines_of : (lines : List (List ℕ)) (ds : List Datagram) → AllZip IsHexLineOf lines ds → AllZip IsLineOf (map message_text ds) ds ×
    All NoFeed (map message_text ds)
lines_of [] [] z = (tt, λ k d h. absurd (omega (arith, h)))
lines_of (l ∷ ls) (d ∷ ds) z =
    let range = IsHexLineOf_in_ranges l d z.0 in
    let rest = lines_of ls ds z.1 in
    (((range, refl), rest.0), All-cons NoFeed (message_text d) (map message_text ds) (NoFeed_message_text d range) rest.1)
lines_of _ _ z = absurd z

-- written lines are their datagrams'
written_lines : (lines : List (List ℕ)) (ds : List Datagram) → All IsWritten lines → AllZip IsHexLineOf lines ds → lines ≡ map (λ d. encode_lower (canon d)) ds
written_lines [] [] w z = refl
written_lines (l ∷ ls) (d ∷ ds) w z =
    let p = w 0 [] (omega arith) in
    let q = IsHexLineOf_one l p.0 d p.1 z.0 in
    let line : l ≡ encode_lower (canon d) = p.2 ∙ ap (λ x. encode_lower (canon x)) q in
    let rest = written_lines ls ds (λ k d h. w (suc k) d (omega (arith, h))) z.1 in
    rw (line, rest) refl
written_lines _ _ w z = absurd z

pub shown_packs : (lines : List (List ℕ)) (text : List ℕ) → All IsWritten lines → show_meaning.accepts lines text
    → (back : List (List ℕ)) × All NoFeed back × (text ≡ closed back) × pack_meaning.accepts back (closed lines)
shown_packs lines text w a =
    let back = lines_of lines a.0 a.1 in
    (map message_text a.0, back.1, a.2, (a.0, back.0, ap closed (written_lines lines a.0 w a.1)))

-- the answer to what was shown
pub answer_shown : (limit : ℕ) (lines : List (List ℕ)) (output : List ℕ) → All NoFeed lines → All IsWritten lines →
    IsAnswer show_meaning limit (closed lines) Done output → length output ≤ limit → IsAnswer pack_meaning limit output Done (closed lines)
answer_shown limit lines output n w a l =
    let whole = a.ending.0 in
    let are : AreLines (closed lines) a.lines = rw whole.2.1 whole.1 in
    let same = AreLines_one (closed lines) a.lines lines a.feedless n are (inl refl) in
    let b = shown_packs lines a.text w (rw same at a.accepted) in
    let text : output ≡ closed b.0 = a.whole ∙ ap (λ s. a.text ++ s) a.ending.1 ∙ append-nil a.text ∙ b.2 in record {
      lines = b.0;
      text = closed lines;
      said = [];
      feedless = b.1;
      accepted = b.3;
      ending = ((output, inl text, (l, refl)), refl);
      whole = sym (append-nil (closed lines));
    }
