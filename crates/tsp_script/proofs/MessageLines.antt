-- Laws of message lines.
use Rattle.std.proofs.Common.{◌≡◌, ℕ, ◌<◌, ◌^◌, List, ◌∷◌, ◌++◌, length, refl, sym, ap, ◌∙◌, Option, Some, None, append_assoc, length-append, arith, true}
use Rattle.std.proofs.Common.{IfSome, decimal, codes}
use Rattle.std.specs.Fmt.{signed_decimal}
use Rattle.hex.specs.Hex.{IsBytes}
use Rattle.tsp_base.specs.Words.{kind_word, IsName, MessageValue, body_fits, ReplyValue, IsReply}
use Rattle.tsp_base.specs.declared.{kind.Kind.Kind, message.Body.Body, stamp.Stamp.TheVariants.Request, stamp.Stamp.TheVariants.Reply}
use Rattle.tsp_base.specs.declared.datagram.Datagram.{Datagram, TheVariants.Message, TheVariants.Stamp}
use Rattle.tsp_script.specs.{Ranges.IsBody, Ranges.IsMessage, Ranges.IsDatagram, Words.first_word, Words.after_word}
use Rattle.tsp_script.specs.Texts.{body_text, name_text, message_line, reply_text, stamp_text, message_text}
use Rattle.tsp_script.proofs.Cuts.{cut_front, cut_back}
use Rattle.tsp_script.proofs.KindWords.{no_space_kind_word, no_space_spaceless, kind_word_not_request, kind_word_not_reply}

-- what stands behind the word of a message, a request or a reply
abbrev pub message_rest : MessageValue → List ℕ
message_rest m = decimal m.number ++ 32 ∷ (body_text m.body ++ name_text m.name)

abbrev pub request_rest : ℕ → ℕ → List ℕ
request_rest word counter = decimal word ++ 32 ∷ decimal counter

abbrev pub reply_rest : ReplyValue → List ℕ
reply_rest r = decimal r.ticket ++ 32 ∷ (decimal r.word ++ 32 ∷ (decimal r.counter ++ 32 ∷ signed_decimal r.reading))

abbrev Splits : List ℕ → List ℕ → List ℕ → Type 0
Splits line word rest = (first_word line ≡ word) × (after_word line ≡ rest)

message_splits : (line : List ℕ) (m : MessageValue) → line ≡ message_line m → Splits line (kind_word m.kind) (message_rest m)
message_splits line m e = cut_front line (kind_word m.kind) (message_rest m) (no_space_kind_word m.kind) (e ∙ simp append_assoc)

request_splits : (line : List ℕ) (word counter : ℕ) → line ≡ stamp_text (Request word counter) → Splits line (codes "request") (request_rest word counter)
request_splits line word counter e = cut_front line (codes "request") (request_rest word counter) (no_space_spaceless (codes "request") refl) (e ∙
    simp append_assoc)

reply_splits : (line : List ℕ) (r : ReplyValue) → line ≡ reply_text r → Splits line (codes "reply") (reply_rest r)
reply_splits line r e = cut_front line (codes "reply") (reply_rest r) (no_space_spaceless (codes "reply") refl) (e ∙ simp append_assoc)

not_both : (word : List ℕ) → word ≡ codes "request" → word ≡ codes "reply" → ⊥
not_both word p q = cc

-- a line that begins with `request` is a request's
pub request_reads : (line : List ℕ) (d : Datagram) (result : Option Datagram) → IsDatagram d → line ≡ message_text d → first_word line ≡ codes "request"
    → ((word counter : ℕ) → word < 2 ^ 64 → counter < 2 ^ 64 → after_word line ≡ request_rest word counter → result ≡ Some (Stamp (Request word counter)))
    → result ≡ Some d
request_reads line (Message m) result h e w reads = absurd (kind_word_not_request m.kind (sym (message_splits line m e).0 ∙ w))
request_reads line (Stamp (Request word counter)) result h e w reads = reads word counter h.0 h.1 (request_splits line word counter e).1
request_reads line (Stamp (Reply r)) result h e w reads = absurd (not_both (first_word line) w (reply_splits line r e).0)

-- a line that begins with `reply` is a reply's
pub reply_reads : (line : List ℕ) (d : Datagram) (result : Option Datagram) → IsDatagram d → line ≡ message_text d → first_word line ≡ codes "reply"
    → ((r : ReplyValue) → r.word < 2 ^ 64 → r.counter < 2 ^ 64 → IsReply r.ticket r.reading → after_word line ≡ reply_rest r → result ≡ Some (Stamp (Reply r)))
    → result ≡ Some d
reply_reads line (Message m) result h e w reads = absurd (kind_word_not_reply m.kind (sym (message_splits line m e).0 ∙ w))
reply_reads line (Stamp (Request word counter)) result h e w reads = absurd (not_both (first_word line) (request_splits line word counter e).0 w)
reply_reads line (Stamp (Reply r)) result h e w reads = reads r h.0 h.1 h.2 (reply_splits line r e).1

-- every other line is a message's
pub message_reads : (line : List ℕ) (d : Datagram) (result : Option Datagram) → IsDatagram d → line ≡ message_text d
    → (first_word line ≡ codes "request" → ⊥) → (first_word line ≡ codes "reply" → ⊥)
    → ((m : MessageValue) → IsMessage m → first_word line ≡ kind_word m.kind → after_word line ≡ message_rest m → result ≡ Some (Message m))
    → result ≡ Some d
message_reads line (Message m) result h e p q reads = let s = message_splits line m e in reads m h s.0 s.1
message_reads line (Stamp (Request word counter)) result h e p q reads = absurd (p (request_splits line word counter e).0)
message_reads line (Stamp (Reply r)) result h e p q reads = absurd (q (reply_splits line r e).0)

-- lines by their first words
pub message_form : (m : MessageValue) → message_line m ≡ kind_word m.kind ++ 32 ∷ message_rest m
message_form m = simp append_assoc

pub request_form : (word counter : ℕ) → stamp_text (Request word counter) ≡ codes "request" ++ 32 ∷ request_rest word counter
request_form word counter = simp append_assoc

pub reply_form : (r : ReplyValue) → reply_text r ≡ codes "reply" ++ 32 ∷ reply_rest r
reply_form r = simp append_assoc

-- a word in front of a line that isn't empty is a datagram's line
abbrev pub IsRestOf : List ℕ → List ℕ → Datagram → Type 0
IsRestOf word line d = IsDatagram d × (0 < length line) × (word ++ 32 ∷ line ≡ message_text d)

some_behind : (line front rest : List ℕ) → line ≡ front ++ 32 ∷ rest → 0 < length line
some_behind line front rest e = omega (arith, ap length e, length-append front (32 ∷ rest))

-- what was read as the parts of a request, of a reply or of a message
pub request_found : (line rest : List ℕ) (word counter : ℕ) → word < 2 ^ 64 → counter < 2 ^ 64 → line ≡ decimal word ++ 32 ∷ rest → rest ≡ decimal counter
    → IsRestOf (codes "request") line (Stamp (Request word counter))
request_found line rest word counter h k f e =
    let l : line ≡ request_rest word counter = f ∙ rw e refl in
    ((h, k), some_behind line (decimal word) (decimal counter) l, rw l (sym (request_form word counter)))

pub reply_found : (line a b rest : List ℕ) (r : ReplyValue) → r.word < 2 ^ 64 → r.counter < 2 ^ 64 → IsReply r.ticket r.reading
    → line ≡ decimal r.ticket ++ 32 ∷ a → a ≡ decimal r.word ++ 32 ∷ b → b ≡ decimal r.counter ++ 32 ∷ rest → rest ≡ signed_decimal r.reading
    → IsRestOf (codes "reply") line (Stamp (Reply r))
reply_found line a b rest r h k v f g i e =
    let l : line ≡ reply_rest r = f ∙ rw (g, i, e) refl in
    ((h, k, v), some_behind line _ a f, rw l (sym (reply_form r)))

pub plain_found : (word line more rest : List ℕ) (kind : Kind) (number : ℕ) (body : Body) (name : List ℕ) (m : MessageValue) → word ≡ kind_word kind →
    number < 2 ^ 16
    → IsBody body → body_fits kind body ≡ true → IsName name × IsBytes name × (rest ≡ name_text name)
    → line ≡ decimal number ++ 32 ∷ more → more ≡ body_text body ++ rest
    → m ≡ record { kind = kind; number = number; body = body; name = name } → IsRestOf word line (Message m)
plain_found word line more rest kind number body name m w h b fits n f g e =
    let whole : word ++ 32 ∷ line ≡ message_line (record { kind = kind; number = number; body = body; name = name }) =
    rw (w, f, g, n.2) (sym (message_form (record { kind = kind; number = number; body = body; name = name }))) in
    rw e (record { number = h; fits = fits; body = b; name = n.0; octets = n.1 }, some_behind line _ more f, whole)

-- the line of a word and what was read behind it
pub line_found : (r : Option Datagram) (line word rest text : List ℕ) → word ≡ first_word line → rest ≡ after_word line → word ≡ text →
    IfSome r (IsRestOf text rest)
    → IfSome r (λ d. IsDatagram d × (line ≡ message_text d))
line_found None line word rest text v e w h = h
line_found (Some d) line word rest text v e w h = (h.0, cut_back line word rest text v e w h.1 ∙ h.2)
