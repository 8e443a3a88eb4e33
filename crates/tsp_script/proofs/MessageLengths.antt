-- How long a message line is at most.
use Rattle.std.proofs.Common.{ℕ, ◌*◌, ◌^◌, ◌<◌, ◌≤◌, List, [], ◌∷◌, ◌++◌, Bool, true, false, length, arith, length-append, ℤ, pos, negsuc, ◌≤ℤ◌, ◌<ℤ◌, decimal}
use Rattle.std.proofs.Common.{flat_map, if◌then◌else◌}
use Rattle.std.{proofs.lemmas.Int.ints, specs.Fmt.signed_decimal}
use Rattle.hex.specs.Hex.{encode_lower, encode_with}
use Rattle.tsp_base.specs.Words.{kind_word, IsName, MessageValue, ReplyValue, IsReply}
use Rattle.tsp_base.specs.declared.{kind.Kind.Kind, kind.Kind.TheVariants.AdjTime, message.Body.Body}
use Rattle.tsp_base.specs.declared.message.Body.TheVariants.{Nothing, Time as TimeBody, Hops}
use Rattle.tsp_base.specs.declared.stamp.Stamp.TheVariants.{Request, Reply}
use Rattle.tsp_base.specs.declared.datagram.Datagram.{Datagram, TheVariants.Message, TheVariants.Stamp}
use Rattle.tsp_script.proofs.Lengths.{number_length, signed_length}
use Rattle.tsp_script.specs.Ranges.{IsBody, IsMessage, IsDatagram}
use Rattle.tsp_script.specs.Texts.{space, is_plain, escaped, name_text, body_text, message_line, reply_text, stamp_text, message_text}

word_length : (k : Kind) → length (kind_word k) ≤ 10
unfolding kind_word
word_length AdjTime = omega arith
word_length _ = omega arith

octet_length : (b : Bool) (c : ℕ) → length (if b then c ∷ [] else 37 ∷ encode_lower (c ∷ [])) ≤ 3
unfolding encode_with
octet_length true c = omega arith
octet_length false c = omega arith

octets_length : (name : List ℕ) → length (flat_map escaped name) ≤ 3 * length name
octets_length [] = omega arith
octets_length (c ∷ cs) = omega (arith, length-append (escaped c) (flat_map escaped cs), octet_length (is_plain c) c, octets_length cs)

name_length : (name : List ℕ) → IsName name → length (name_text name) ≤ 765
name_length [] h = omega arith
name_length (c ∷ cs) h = omega (arith, octets_length (c ∷ cs), h.short)

-- a time of a message or a reply, with its sign
time_length : (t : ℤ) → negsuc 2147483647999999 ≤ℤ t → t <ℤ pos 2147483648000000 → length (signed_decimal t) ≤ 20
time_length (pos n) low high = signed_length (pos n) (omega (arith, ints, high))
time_length (negsuc n) low high = signed_length (negsuc n) (omega (arith, ints, low))

body_length : (b : Body) → IsBody b → length (body_text b) ≤ 21
body_length Nothing h = omega arith
body_length (TimeBody t) h = omega (arith, length-append (signed_decimal t) space, time_length t h.low h.high)
body_length (Hops n) h = omega (arith, length-append (decimal n) space, number_length n (omega (arith, h)))

message_length : (m : MessageValue) → IsMessage m → length (message_line m) ≤ 818
message_length m h = simp length-append (omega (
  arith,
  word_length m.kind,
  number_length m.number (omega (arith, h.number)),
  body_length m.body h.body,
  name_length m.name h.name,
))

request_length : (word counter : ℕ) → word < 2 ^ 64 → counter < 2 ^ 64 → length (stamp_text (Request word counter)) ≤ 818
request_length word counter w c = simp length-append (omega (arith, number_length word w, number_length counter c))

reply_length : (r : ReplyValue) → r.word < 2 ^ 64 → r.counter < 2 ^ 64 → IsReply r.ticket r.reading → length (reply_text r) ≤ 818
reply_length r w c v = simp length-append (omega (
  arith,
  number_length r.ticket (omega (arith, v.small)),
  number_length r.word w,
  number_length r.counter c,
  time_length r.reading (omega (arith, ints, v.low)) v.high,
))

-- a message line has at most 818 octets
pub length_message_text : (d : Datagram) → IsDatagram d → length (message_text d) ≤ 818
length_message_text (Message m) h = message_length m h
length_message_text (Stamp (Request word counter)) h = request_length word counter h.0 h.1
length_message_text (Stamp (Reply r)) h = reply_length r h.0 h.1 h.2
