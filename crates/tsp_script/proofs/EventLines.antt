-- Laws of the lines of events: a line behind the header is one event's, or the last.
use Rattle.std.proofs.Common.{◌≡◌, ℕ, ◌≤◌, List, [], ◌∷◌, ◌++◌, length, refl, sym, ◌∙◌, arith, append_assoc, Ok, decimal, codes, Contains, ◌≢◌, ◌<◌, ◌^◌, ap}
use Rattle.std.proofs.Common.{slice_index_or}
use Rattle.std.{specs.Str.Parse.AllDigits, proofs.lemmas.Fmt.decimal_is_IsNumeral, proofs.lemmas.Fmt.decimal_injective}
use Rattle.hex.{proofs.HexLemmas.decode_of-ok, proofs.HexLemmas.decode_of-same, specs.Hex.decode_of}
use Rattle.tsp_base.specs.declared.event.Event.{TheVariants.Boot as BootAt, TheVariants.Turn, TheVariants.Take, TheVariants.Bytes, Event}
use Rattle.tsp_base.specs.declared.place.{Place.TheVariants.Peer, Place.TheVariants.Stranger, Place.Place, Port.Port}
use Rattle.tsp_base.specs.declared.plain.Plain.{Plain, TheVariants.Turn as PlainTurn, TheVariants.Take as PlainTake}
use Rattle.tsp_base.specs.Words.{event_in}
use Rattle.tsp_script.specs.{Plains.IsTurnOrTake, Traces.place_text, Words.after_word}
use Rattle.tsp_script.specs.declared.event_line.EventItem.{EventItem, TheVariants.Event as EventOf, TheVariants.End}
use Rattle.tsp_script.specs.Schedules.{event_text, port_text, IsPlace, IsTrueTime, IsEvent, SpellsEvent, IsHexOf}
use Rattle.tsp_script.proofs.Cuts.{cut_front, no_space_decimal, words_apart, numbers_apart}
use Rattle.tsp_script.proofs.{KindWords.no_space_spaceless, Ports.ports_apart, Ports.no_space_port}

-- a dash is no number
pub dash_no_number : (ds : List ℕ) → AllDigits 10 ds → codes "-" ≡ ds → ⊥
dash_no_number ds a e = let q = rw (sym e) at a in omega (arith, q.0)

pub no_space_place : (p : Place) → IsPlace p → ¬ Contains (place_text p) 32
no_space_place Stranger h = no_space_spaceless (codes "-") refl
no_space_place (Peer p) h = no_space_decimal p.0 (omega arith)

-- the hexadecimal of few octets is short
pub short_hex : (hex octets : List ℕ) → decode_of hex ≡ Ok octets → length octets ≤ 300 → length hex ≤ 600
short_hex hex octets e h = omega (arith, (decode_of-ok hex octets e).2)

-- the time, the word and what follows it in an event's line
abbrev pub at_of : Event → ℕ
at_of (BootAt at node word) = at
at_of (Turn at node) = at
at_of (Take at datagram) = at
at_of (Bytes at node port from octets) = at

abbrev pub verb_of : Event → List ℕ
verb_of (BootAt at node word) = codes "boot"
verb_of (Turn at node) = codes "turn"
verb_of (Take at datagram) = codes "take"
verb_of (Bytes at node port from octets) = codes "bytes"

abbrev pub rest_of : Event → List ℕ → List ℕ
rest_of (BootAt at node word) hex = decimal node ++ 32 ∷ decimal word
rest_of (Turn at node) hex = decimal node
rest_of (Take at datagram) hex = decimal datagram
rest_of (Bytes at node port from octets) hex = (decimal node ++ port_text port) ++ 32 ∷ (place_text from ++ 32 ∷ hex)

pub event_parts : (e : Event) (hex : List ℕ) → event_text e hex ≡ codes "at" ++ 32 ∷ (decimal (at_of e) ++ 32 ∷ (verb_of e ++ 32 ∷ rest_of e hex))
event_parts (BootAt at node word) hex = simp append_assoc
event_parts e hex = simp append_assoc

-- the line of an event with octets, and that of a boot, as what was read of them
pub bytes_written : (at node : ℕ) (port : Port) (from : Place) (octets line a b c hex : List ℕ) → line ≡ codes "at " ++ (decimal at ++ 32 ∷ a) → a ≡
    codes "bytes " ++ b → b ≡ (decimal node ++ port_text port) ++ 32 ∷ c → c ≡ place_text from ++ 32 ∷ hex
    → line ≡ event_text (Bytes at node port from octets) hex
bytes_written at node port from octets line a b c hex e f g h = e ∙ rw (f, g, h) (sym (event_parts (Bytes at node port from octets) hex))

pub boot_written : (at node word : ℕ) (line a b c : List ℕ) → line ≡ codes "at " ++ (decimal at ++ 32 ∷ a) → a ≡ codes "boot " ++ b → b ≡ decimal node ++ 32 ∷
    c → c ≡ decimal word → line ≡ event_text (BootAt at node word) []
boot_written at node word line a b c e f g h = e ∙ rw (f, g, h) (sym (event_parts (BootAt at node word) []))

pub after_at : (e : Event) (line hex : List ℕ) → line ≡ event_text e hex → after_word line ≡ decimal (at_of e) ++ 32 ∷ (verb_of e ++ 32 ∷ rest_of e hex)
after_at e line hex l =
    (cut_front line (codes "at") (decimal (at_of e) ++ 32 ∷ (verb_of e ++ 32 ∷ rest_of e hex)) (no_space_spaceless (codes "at") refl) (l ∙ event_parts e hex)).1

pub IsTrueTime_at_of : (e : Event) → IsEvent e → IsTrueTime (at_of e)
IsTrueTime_at_of (BootAt at node word) h = h.0
IsTrueTime_at_of e h = h.0

pub no_space_verb_of : (e : Event) → ¬ Contains (verb_of e) 32
no_space_verb_of (BootAt at node word) = no_space_spaceless (codes "boot") refl
no_space_verb_of e = no_space_spaceless (verb_of e) refl

-- a line of no event of any kind, and not the last, is no item's
pub no_item : (line : List ℕ) (item : EventItem) → SpellsEvent line item
    → ((at node : ℕ) (port : Port) (from : Place) (octets : List ℕ) → SpellsEvent line (EventOf (Bytes at node port from octets)) → ⊥)
    → ((at node word : ℕ) → SpellsEvent line (EventOf (BootAt at node word)) → ⊥)
    → ((plain : Plain) → IsTurnOrTake plain → SpellsEvent line (EventOf (event_in plain)) → ⊥)
    → (line ≡ codes "end" → ⊥) → ⊥
no_item line (EventOf (Bytes at node port from octets)) s bytes boot plain end = bytes at node port from octets s
no_item line (EventOf (BootAt at node word)) s bytes boot plain end = boot at node word s
no_item line (EventOf (Turn at node)) s bytes boot plain end = plain (PlainTurn at node) tt s
no_item line (EventOf (Take at datagram)) s bytes boot plain end = plain (PlainTake at datagram) tt s
no_item line End s bytes boot plain end = end s

-- a word is one place's
place_text_injective : (p q : Place) → IsPlace p → IsPlace q → place_text p ≡ place_text q → p ≡ q
place_text_injective Stranger Stranger h k e = refl
place_text_injective Stranger (Peer q) h k e = absurd (dash_no_number (decimal q.0) (decimal_is_IsNumeral q.0 (omega arith)).0.1 e)
place_text_injective (Peer p) Stranger h k e = absurd (dash_no_number (decimal p.0) (decimal_is_IsNumeral p.0 (omega arith)).0.1 (sym e))
place_text_injective (Peer p) (Peer q) h k e = ap (λ n. Peer (record { 0 = n })) (decimal_injective p.0 q.0 (omega arith) (omega arith) e)

-- words with another second letter are other words
pub words_differ : (v w : List ℕ) → v ≡ w → slice_index_or v 1 0 ≢ slice_index_or w 1 0 → ⊥
words_differ v w e n = n (ap (λ l. slice_index_or l 1 0) e)

-- what follows the word is one event's
rests_apart : (e f : Event) (hex other : List ℕ) → IsEvent e → IsEvent f → IsHexOf hex e → IsHexOf other f → at_of e ≡ at_of f → verb_of e ≡ verb_of f →
    rest_of e hex ≡ rest_of f other → e ≡ f
rests_apart (BootAt at node word) (BootAt t n w) hex other h k x y a v r =
    let p = numbers_apart node n (decimal word) (decimal w) (omega (arith, h.1)) (omega (arith, k.1)) r in
    let q = decimal_injective word w h.2 k.2 p.1 in
    rw (a, p.0, q) refl
rests_apart (Turn at node) (Turn t n) hex other h k x y a v r = let q = decimal_injective node n (omega (arith, h.1)) (omega (arith, k.1)) r in rw (a, q) refl
rests_apart (Take at datagram) (Take t d) hex other h k x y a v r = let q = decimal_injective datagram d h.1 k.1 r in rw (a, q) refl
rests_apart (Bytes at node port from octets) (Bytes t n q place handed) hex other h k x y a v r =
    let a64 : node < 2 ^ 64 = omega (arith, h.1) in
    let b64 : n < 2 ^ 64 = omega (arith, k.1) in
    let p64 : port.0 < 2 ^ 64 = omega (arith, h.2) in
    let q64 : q.0 < 2 ^ 64 = omega (arith, k.2) in
    let v = words_apart (decimal node ++ port_text port) (decimal n ++ port_text q) (place_text from ++ 32 ∷ hex) (place_text place ++ 32 ∷
    other) (no_space_port node port a64 p64) (no_space_port n q b64 q64) r in
    let p = ports_apart node n port q a64 b64 p64 q64 v.0 in
    let w = words_apart (place_text from) (place_text place) hex other (no_space_place from h.3) (no_space_place place k.3) v.1 in
    let o = decode_of-same hex octets handed x (rw w.1 y) in
    let s = place_text_injective from place h.3 k.3 w.0 in
    rw (a, p.0, p.1, s, o) refl
rests_apart e f hex other h k x y a v r = absurd (words_differ (verb_of e) (verb_of f) v (omega arith))

pub events_apart : (line : List ℕ) (e f : Event) → SpellsEvent line (EventOf e) → SpellsEvent line (EventOf f) → e ≡ f
events_apart line e f (h, (hex, x, l)) (k, (other, y, m)) =
    let s : decimal (at_of e) ++ 32 ∷ (verb_of e ++ 32 ∷ rest_of e hex) ≡ decimal (at_of f) ++ 32 ∷ (verb_of f ++ 32 ∷ rest_of f other) =
    sym (after_at e line hex l) ∙ after_at f line other m in
    let a = numbers_apart (at_of e) (at_of f) (verb_of e ++ 32 ∷ rest_of e hex) (verb_of f ++ 32 ∷ rest_of f other) (omega (arith, IsTrueTime_at_of e h))
    (omega (arith, IsTrueTime_at_of f k)) s in
    let v = words_apart (verb_of e) (verb_of f) (rest_of e hex) (rest_of f other) (no_space_verb_of e) (no_space_verb_of f) a.1 in
    rests_apart e f hex other h k x y a.0 v.0 v.1

-- an event's line isn't the last
event_text_end : (e : Event) (hex : List ℕ) → event_text e hex ≡ codes "end" → ⊥
event_text_end e hex q = words_differ _ (codes "end") (sym (event_parts e hex) ∙ q) (omega arith)

-- a line is one item behind the header
pub SpellsEvent_one : (line : List ℕ) (a b : EventItem) → SpellsEvent line a → SpellsEvent line b → a ≡ b
SpellsEvent_one line (EventOf e) (EventOf f) s t = ap EventOf (events_apart line e f s t)
SpellsEvent_one line (EventOf e) End s t = absurd (event_text_end e s.1.0 (sym s.1.2 ∙ t))
SpellsEvent_one line End (EventOf f) s t = absurd (event_text_end f t.1.0 (sym t.1.2 ∙ s))
SpellsEvent_one line End End s t = refl

-- a place in front of a space is one place
pub places_apart : (line : List ℕ) (p q : Place) (r s : List ℕ) → IsPlace p → IsPlace q → line ≡ place_text p ++ 32 ∷ r → line ≡ place_text q ++ 32 ∷ s →
    (p ≡ q) × (r ≡ s)
places_apart line p q r s h k e f =
    let w = words_apart (place_text p) (place_text q) r s (no_space_place p h) (no_space_place q k) (sym e ∙ f) in
    (place_text_injective p q h k w.0, w.1)

pub no_place : (line rest : List ℕ) (p : Place) → IsPlace p → line ≡ place_text p ++ 32 ∷ rest → ((rest : List ℕ) → line ≡ codes "- " ++ rest → ⊥) →
    ((n : ℕ) → n < 2 ^ 32 → line ≡ decimal n ++ 32 ∷ rest → ⊥) → ⊥
no_place line rest Stranger h e stranger peer = stranger rest e
no_place line rest (Peer p) h e stranger peer = peer p.0 h e
