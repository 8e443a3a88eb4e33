-- A line is one exchange: its words, what a word of hexadecimal says, and the record that they are.
use Rattle.std.proofs.Common.{ℕ, ◌≤◌, List, [], ◌∷◌, length, Bool, true, false, arith, ◌==◌, if◌then◌else◌, ◌≡◌, Ok, Err, refl, sym, ap, ◌∙◌, Contains, ◌<◌}
use Rattle.std.proofs.Common.{◌++◌, length-append, subst, Some, None, decimal, MatchOption, inl, inr, codes}
use Rattle.std.specs.{declared.result.Result.Result, declared.option.Option.Option, List.AllZip}
use Rattle.std.proofs.lemmas.Fmt.{decimal_nonempty, decimal_injective}
use Rattle.tsp_script.specs.{Words.first_word, Words.after_word, Schedules.IsHost}
use Rattle.hex.{proofs.HexLemmas.decode_of-ok, proofs.HexLemmas.decode_of-same, specs.Hex.decode_of, specs.Hex.is_hex_digit}
use Rattle.tsp_icmp.specs.declared.timestamp.{IcmpFault.IcmpFault, Timestamp.Timestamp}
use Rattle.tsp_icmp.proofs.Octets.{icmp_octets_injective, icmp_octets_no_fault, IsIcmpFault_one}
use Rattle.tsp_script.proofs.{Outcomes.true_or_false, HeadLines.no_space_host, Cuts.cut_front, Cuts.line_of_marks}
use Rattle.tsp_icmp_command.specs.Records.{SaysRecord, SaysInHex, IsRecord, expected, IsExchange, icmp_fault_word, RefusesRecord}
use Rattle.tsp_icmp_command.specs.declared.{record.Record.Record, exchange.Exchange.Exchange}

front_case : (b : Bool) (c : ℕ) (cs : List ℕ) → length (first_word cs) ≤ length cs → length (if b then [] else c ∷ first_word cs) ≤ length (c ∷ cs)
front_case true c cs h = omega arith
front_case false c cs h = omega arith

pub length_first_word : (line : List ℕ) → length (first_word line) ≤ length line
length_first_word [] = omega arith
length_first_word (c ∷ cs) = front_case (c == 32) c cs (length_first_word cs)

back_case : (b : Bool) (c : ℕ) (cs : List ℕ) → length (after_word cs) ≤ length cs → length (if b then cs else after_word cs) ≤ length (c ∷ cs)
back_case true c cs h = omega arith
back_case false c cs h = omega arith

pub length_after_word : (line : List ℕ) → length (after_word line) ≤ length line
length_after_word [] = omega arith
length_after_word (c ∷ cs) = back_case (c == 32) c cs (length_after_word cs)

-- a word of hexadecimal has no space
pub no_space_hex : (word octets : List ℕ) → decode_of word ≡ Ok octets → ¬ Contains word 32
no_space_hex word octets e (k, h, space) =
    let digit = (decode_of-ok word octets e).1 k 32 h in
    true_or_false (is_hex_digit 32) (rw space at digit) refl

pub no_space_message : (word : List ℕ) (message : Result Timestamp IcmpFault) → SaysInHex word message → ¬ Contains word 32
no_space_message word message s = no_space_hex word s.0 s.2

-- octets are one thing
Says_one : (octets : List ℕ) (a b : Result Timestamp IcmpFault) → SaysRecord octets a → SaysRecord octets b → a ≡ b
Says_one octets (Ok t) (Ok u) p q = ap Ok (icmp_octets_injective t u p.0 q.0 (sym p.1 ∙ q.1))
Says_one octets (Ok t) (Err f) p q = absurd (icmp_octets_no_fault t f (rw p.1 at q))
Says_one octets (Err f) (Ok t) p q = absurd (icmp_octets_no_fault t f (rw q.1 at p))
Says_one octets (Err f) (Err g) p q = ap Err (IsIcmpFault_one octets f g p q)

pub SaysInHex_one : (word : List ℕ) (a b : Result Timestamp IcmpFault) → SaysInHex word a → SaysInHex word b → a ≡ b
SaysInHex_one word a b p q = Says_one q.0 a b (rw (decode_of-same word p.0 q.0 p.2 q.2) at p.3) q.3

-- what the words of a record's line are
pub record HasWords (line : List ℕ) (r : Record) : Type 0 where
  pub name : first_word line ≡ r.name
  pub request : SaysInHex (first_word (after_word line)) r.request
  pub reply : SaysInHex (first_word (after_word (after_word line))) r.reply
  pub arrival : after_word (after_word (after_word line)) ≡ decimal r.arrival

pub HasWords_IsRecord : (line : List ℕ) (r : Record) → IsRecord line r → HasWords line r
HasWords_IsRecord line r h =
    let w = h.words in
    let a = cut_front line r.name (w.0 ++ 32 ∷ (w.1 ++ 32 ∷ decimal r.arrival)) (no_space_host r.name h.name) w.4 in
    let b = cut_front (after_word line) w.0 (w.1 ++ 32 ∷ decimal r.arrival) (no_space_message w.0 r.request w.2) a.1 in
    let c = cut_front (after_word (after_word line)) w.1 (decimal r.arrival) (no_space_message w.1 r.reply w.3) b.1 in
    record {
      name = a.0;
      request = subst (λ x. SaysInHex x r.request) (sym b.0) w.2;
      reply = subst (λ x. SaysInHex x r.reply) (sym c.0) w.3;
      arrival = c.1;
    }

-- an answer that is none
pub MatchOption_none : {A : Type 0} (r : Option A) (P : Type 0) (Q : A → Type 0) → r ≡ None → P → MatchOption r P Q
MatchOption_none None P Q e p = p
MatchOption_none (Some x) P Q e p = cc

joined : (line rest last a b c d e f : List ℕ) → line ≡ a ++ 32 ∷ rest → rest ≡ c ++ 32 ∷ last → last ≡ d ++ 32 ∷ e → a ≡ b → e ≡ f → line ≡ b ++ 32 ∷
    (c ++ 32 ∷ (d ++ 32 ∷ f))
joined line rest last a b c d e f p q r s t = rw (p, q, r, s, t) refl

-- where something stands behind the first space, the line is the first word, the space and this
cut_back : (line : List ℕ) → 0 < length (after_word line) → line ≡ first_word line ++ 32 ∷ after_word line
cut_back = line_of_marks 32

-- words that are a name, two messages and a time are a record
pub IsRecord_words : (line : List ℕ) (r : Record) → length line ≤ 1024 → IsHost r.name → r.arrival < 86400000 → HasWords line r → IsRecord line r
IsRecord_words line r short host arrival w =
    let some : 0 < length (after_word (after_word (after_word line))) = omega (arith, ap length w.arrival, decimal_nonempty r.arrival (omega (arith, arrival)))
    in
    let third = cut_back (after_word (after_word line)) some in
    let second = cut_back (after_word line) (omega (
      arith,
      ap length third,
      length-append (first_word (after_word (after_word line))) (32 ∷
          after_word (after_word (after_word line))),
    )) in
    let first = cut_back line (omega (arith, ap length second, length-append (first_word (after_word line)) (32 ∷ after_word (after_word line)))) in
    record {
      short = short;
      name = host;
      arrival = arrival;
      words = (
        first_word (after_word line),
        first_word (after_word (after_word line)),
        w.request,
        w.reply,
        joined line (after_word line) (after_word (after_word line)) (first_word line) r.name (first_word (after_word line))
            (first_word (after_word (after_word line))) (after_word (after_word (after_word line))) (decimal r.arrival) first second third w.name w.arrival,
      );
    }

record_of_parts : (a b : Record) → a.name ≡ b.name → a.request ≡ b.request → a.reply ≡ b.reply → a.arrival ≡ b.arrival → a ≡ b
record_of_parts a b n q r d = rw (n, q, r, d) refl

-- a line is one record
pub IsRecord_one : (line : List ℕ) (a b : Record) → IsRecord line a → IsRecord line b → a ≡ b
IsRecord_one line a b g h =
    let v = HasWords_IsRecord line a g in
    let w = HasWords_IsRecord line b h in
    record_of_parts a b (sym v.name ∙ w.name) (SaysInHex_one _ a.request b.request v.request w.request) (SaysInHex_one _ a.reply b.reply v.reply w.reply)
    (decimal_injective a.arrival b.arrival (omega (arith, g.arrival)) (omega (arith, h.arrival)) (sym v.arrival ∙ w.arrival))

ok_injective : (t u : Timestamp) (r : Result Timestamp IcmpFault) → r ≡ Ok t → r ≡ Ok u → t ≡ u
ok_injective t u r p q = cc

err_injective : (f g : IcmpFault) (r : Result Timestamp IcmpFault) → r ≡ Err f → r ≡ Err g → f ≡ g
err_injective f g r p q = cc

ok_or_err : (t : Timestamp) (f : IcmpFault) (r : Result Timestamp IcmpFault) → r ≡ Ok t → r ≡ Err f → ⊥
ok_or_err t f r p q = cc

exchange_of_parts : (a b : Exchange) → a.name ≡ b.name → a.request ≡ b.request → a.reply ≡ b.reply → a.arrival ≡ b.arrival → a ≡ b
exchange_of_parts a b n q r d = rw (n, q, r, d) refl

-- a line is one exchange
pub IsExchange_one : (line : List ℕ) (a b : Exchange) → IsExchange line a → IsExchange line b → a ≡ b
IsExchange_one line a b g h =
    let p = g.messages in
    let q = h.messages in
    let same = IsRecord_one line _ _ p.2 q.2 in
    exchange_of_parts a b (ap (λ (r : Record). r.name) same)
    (ok_injective a.request b.request (expected false q.0) (ap (λ (r : Record). expected false r.request) (sym same) ∙ p.3) q.3)
    (ok_injective a.reply b.reply (expected true q.1) (ap (λ (r : Record). expected true r.reply) (sym same) ∙ p.4) q.4)
    (ap (λ (r : Record). r.arrival) same)

-- an exchange's line isn't refused
pub IsExchange_not_refused : (line cause : List ℕ) (e : Exchange) → IsExchange line e → RefusesRecord line cause → ⊥
IsExchange_not_refused line cause e h (inl r) = r.0 _ h.messages.2
IsExchange_not_refused line cause e h (inr (inl r)) =
    let p = h.messages in
    ok_or_err e.request r.1 (expected false p.0) p.3 (ap (λ (x : Record). expected false x.request) (IsRecord_one line _ r.0 p.2 r.2) ∙ r.3)
IsExchange_not_refused line cause e h (inr (inr r)) =
    let p = h.messages in
    ok_or_err e.reply r.2 (expected true p.1) p.4 (ap (λ (x : Record). expected true x.reply) (IsRecord_one line _ r.0 p.2 r.3) ∙ r.5)

-- a line is refused for one cause
pub RefusesRecord_one : (line cause other : List ℕ) → RefusesRecord line cause → RefusesRecord line other → cause ≡ other
RefusesRecord_one line cause other (inl r) (inl s) = r.1 ∙ sym s.1
RefusesRecord_one line cause other (inl r) (inr (inl s)) = absurd (r.0 s.0 s.2)
RefusesRecord_one line cause other (inl r) (inr (inr s)) = absurd (r.0 s.0 s.3)
RefusesRecord_one line cause other (inr (inl r)) (inl s) = absurd (s.0 r.0 r.2)
RefusesRecord_one line cause other (inr (inr r)) (inl s) = absurd (s.0 r.0 r.3)
RefusesRecord_one line cause other (inr (inl r)) (inr (inl s)) =
    let same = ap (λ (x : Record). expected false x.request) (IsRecord_one line r.0 s.0 r.2 s.2) in
    r.4 ∙ ap (λ f. codes "request " ++ icmp_fault_word f) (err_injective r.1 s.1 (expected false s.0.request) (sym same ∙ r.3) s.3) ∙ sym s.4
RefusesRecord_one line cause other (inr (inl r)) (inr (inr s)) =
    let same = ap (λ (x : Record). expected false x.request) (IsRecord_one line r.0 s.0 r.2 s.3) in
    absurd (ok_or_err s.1 r.1 (expected false s.0.request) s.4 (sym same ∙ r.3))
RefusesRecord_one line cause other (inr (inr r)) (inr (inl s)) =
    let same = ap (λ (x : Record). expected false x.request) (IsRecord_one line r.0 s.0 r.3 s.2) in
    absurd (ok_or_err r.1 s.1 (expected false s.0.request) (sym same ∙ r.4) s.3)
RefusesRecord_one line cause other (inr (inr r)) (inr (inr s)) =
    let same = ap (λ (x : Record). expected true x.reply) (IsRecord_one line r.0 s.0 r.3 s.3) in
    r.6 ∙ ap (λ f. codes "reply " ++ icmp_fault_word f) (err_injective r.2 s.2 (expected true s.0.reply) (sym same ∙ r.5) s.5) ∙ sym s.6

-- lines are the same exchanges
pub exchanges_one : (lines : List (List ℕ)) (es fs : List Exchange) → AllZip IsExchange lines es → AllZip IsExchange lines fs → es ≡ fs
exchanges_one [] [] [] y z = refl
exchanges_one [] [] (f ∷ fs) y z = absurd z
exchanges_one [] (e ∷ es) fs y z = absurd y
exchanges_one (l ∷ lines) [] fs y z = absurd y
exchanges_one (l ∷ lines) (e ∷ es) [] y z = absurd z
exchanges_one (l ∷ lines) (e ∷ es) (f ∷ fs) y z = rw (IsExchange_one l e f y.0 z.0, exchanges_one lines es fs y.1 z.1) refl

-- the last line's exchange stands last
pub exchanges_before : (lines : List (List ℕ)) (line : List ℕ) (es : List Exchange) → AllZip IsExchange (lines ++ line ∷ []) es
    → (front : List Exchange) × (e : Exchange) × (es ≡ front ++ e ∷ []) × AllZip IsExchange lines front × IsExchange line e
exchanges_before [] line [] z = absurd z
exchanges_before [] line (e ∷ []) z = ([], e, refl, tt, z.0)
exchanges_before [] line (e ∷ f ∷ es) z = absurd z.1
exchanges_before (l ∷ lines) line [] z = absurd z
exchanges_before (l ∷ lines) line (e ∷ es) z = let r = exchanges_before lines line es z.1 in (e ∷ r.0, r.1, ap (λ l. e ∷ l) r.2, (z.0, r.3), r.4)
