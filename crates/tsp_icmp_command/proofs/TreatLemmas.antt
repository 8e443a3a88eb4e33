-- How the treatment of a line comes out: the averaging is definite, and gives lines of exchanges the answer that is due.
use Rattle.std.proofs.Common.{◌≡◌, ℕ, List, [], ◌++◌, Ok, Err, refl, sym, ap, ◌∙◌, subst, append_assoc, Option, OnOk, OnErr, ◌≤◌, ◌∷◌, length, length-append}
use Rattle.std.proofs.Common.{inl, arith, IfErr, MatchResult, map, append-nil}
use Rattle.std.{specs.declared.result.Result.Result, specs.List.AllZip, proofs.lemmas.Grind.flat_map-append, proofs.lemmas.List.map-append}
use Rattle.tsp_lines.proofs.{Outputs.Hands_trans, Stops.StopsAt_stop_of}
use Rattle.tsp_lines.specs.{Outputs.Hands, Answers.IsAnswer, Lines.close, Lines.closed, Definite.IsDefinite, Meanings.Goes, Meanings.StopsAt, Meanings.stop_of}
use Rattle.tsp_lines.specs.declared.{output.Unwritten.Unwritten, treatment.Stop.Stop, treat.Outcome.TheVariants.Ok as Done}
use Rattle.tsp_icmp_command.specs.Bests.{TallyValue, tally_with, bests, differences, group_lines}
use Rattle.tsp_icmp_command.{specs.Records.IsExchange, specs.declared.exchange.Exchange.Exchange, proofs.BestLemmas.bests_with_difference}
use Rattle.tsp_icmp_command.specs.Meaning.{averaging, exchange_line, TallyStands, AreExchangeLines}
use Rattle.tsp_icmp_command.proofs.RecordLemmas.{IsExchange_not_refused, RefusesRecord_one, exchanges_one, exchanges_before}

pub on_err : {A B P : Type 0} (r : Result A B) → P → OnErr r P
on_err (Ok a) p = tt
on_err (Err e) p = p

-- a part of these octets was handed over
abbrev pub HandsPart : Option (List ℕ) → List ℕ → Option (List ℕ) → List ℕ → List ℕ → Type 0
HandsPart w h n k all = (part : List ℕ) × (rest : List ℕ) × (all ≡ part ++ rest) × Hands w h n k part

-- nothing was handed over
pub HandsPart_none : {A B : Type 0} (w n : Option (List ℕ)) (h k all : List ℕ) (r : Result A B) → Hands w h n k [] → OnErr r (HandsPart w h n k all)
HandsPart_none w n h k all (Ok a) t = tt
HandsPart_none w n h k all (Err e) t = ([], all, refl, t)

-- octets and then others were handed over
pub Hands_both : {A B : Type 0} (w n m : Option (List ℕ)) (h k l : List ℕ) (r : Result A B) (text front rest : List ℕ) → text ≡ front → Hands w h n k text →
    OnOk r (Hands n k m l rest) → OnOk r (Hands w h m l (front ++ rest))
Hands_both w n m h k l (Ok a) text front rest e t f = subst (λ o. Hands w h m l (o ++ rest)) e (Hands_trans w n m h k l text rest t f)
Hands_both w n m h k l (Err b) text front rest e t f = tt

-- octets and then a part of others were handed over
pub HandsPart_behind : {A B : Type 0} (w n m : Option (List ℕ)) (h k l : List ℕ) (r : Result A B) (text front rest : List ℕ) → text ≡ front →
    Hands w h n k text → OnErr r (HandsPart n k m l rest) → OnErr r (HandsPart w h m l (front ++ rest))
HandsPart_behind w n m h k l (Ok a) text front rest e t f = tt
HandsPart_behind w n m h k l (Err b) text front rest e t f = (
  front ++ f.0,
  f.1,
  ap (λ o. front ++ o) f.2 ∙ sym (append_assoc front f.0 f.1),
  subst (λ o. Hands w h m l (o ++ f.0)) e (Hands_trans w n m h k l text f.0 t f.3),
)

exchanges_more : (lines : List (List ℕ)) (es : List Exchange) (line : List ℕ) (e : Exchange) → AllZip IsExchange lines es → IsExchange line e →
    AllZip IsExchange (lines ++ line ∷ []) (es ++ e ∷ [])
exchanges_more [] [] line e z h = (h, tt)
exchanges_more [] (x ∷ es) line e z h = absurd z
exchanges_more (l ∷ lines) [] line e z h = absurd z
exchanges_more (l ∷ lines) (x ∷ es) line e z h = (z.0, exchanges_more lines es line e z.1 h)

output_more : (es : List Exchange) (e : Exchange) → closed (map exchange_line es) ++ close (exchange_line e) ≡ closed (map exchange_line (es ++ e ∷ []))
output_more es e = sym (ap closed (map-append exchange_line es (e ∷ [])) ∙ flat_map-append close (map exchange_line es) (exchange_line e ∷ []) ∙
    ap (λ l. closed (map exchange_line es) ++ l) (append-nil (close (exchange_line e))))

accepts_more : (lines : List (List ℕ)) (text line : List ℕ) (e : Exchange) → averaging.accepts lines text → (averaging.full lines → ⊥) → IsExchange line e →
    averaging.accepts (lines ++ line ∷ []) (text ++ close (exchange_line e))
accepts_more lines text line e a n h = (
  a.0 ++ e ∷ [],
  exchanges_more lines a.0 line e a.1 h,
  few,
  ap (λ t. t ++ close (exchange_line e)) a.3 ∙ output_more a.0 e,
) where
  few : length (lines ++ line ∷ []) ≤ 1000
  few = omega (arith, n, length-append lines (line ∷ []))

Stands_more : (t u : TallyValue) (lines : List (List ℕ)) (line : List ℕ) (e : Exchange) → TallyStands t lines → IsExchange line e → u ≡ tally_with t e →
    TallyStands u (lines ++ line ∷ [])
Stands_more t u lines line e s h i = (
  s.0 ++ e ∷ [],
  exchanges_more lines s.0 line e s.1 h,
  rw (i, s.2) (sym (bests_with_difference s.0 e)),
  rw i (omega (arith, s.3, length-append lines (line ∷ []))),
)

-- a line that is an exchange
pub MatchResult_exchange : (r : Result (Unit {0}) Stop) (lines : List (List ℕ)) (text line : List ℕ) (e : Exchange) (t u : TallyValue) (w n : Option (List ℕ))
    (h k : List ℕ)
    → TallyStands t lines → averaging.accepts lines text → (averaging.full lines → ⊥) → IsExchange line e → OnOk r (u ≡ tally_with t e) →
    OnOk r (Hands w h n k (close (exchange_line e))) → OnErr r (Hands w h n k [])
    → IfErr r (λ stop. (fault : Unwritten) × (stop ≡ stop_of fault))
    → MatchResult r (λ _. Goes averaging (TallyStands u) lines text line w h n k) (λ stop. StopsAt averaging lines text line w h n k stop)
MatchResult_exchange (Ok x) lines text line e t u w n h k s a few is taken hands err stop =
    (close (exchange_line e), hands, accepts_more lines text line e a few is, Stands_more t u lines line e s is taken)
MatchResult_exchange (Err x) lines text line e t u w n h k s a few is taken hands err stop =
    rw stop.1 (StopsAt_stop_of averaging lines text line w n h k stop.0 ([], err, inl refl))

room : (lines : List (List ℕ)) (line : List ℕ) → length (lines ++ line ∷ []) ≤ 1000 → 1000 ≤ length lines → ⊥
room lines line few full = omega (arith, few, full, length-append lines (line ∷ []))

shorter : (lines : List (List ℕ)) (line : List ℕ) → length (lines ++ line ∷ []) ≤ 1000 → length lines ≤ 1000
shorter lines line few = omega (arith, few, length-append lines (line ∷ []))

before : (lines : List (List ℕ)) (line text : List ℕ) → averaging.accepts (lines ++ line ∷ []) text → (front : List ℕ) × (more : List ℕ) ×
    averaging.accepts lines front × (text ≡ front ++ more)
before lines line text a =
    let b = exchanges_before lines line a.0 a.1 in (
      closed (map exchange_line b.0),
      close (exchange_line b.1),
      (b.0, b.3, shorter lines line a.2, refl),
      a.3 ∙ ap (λ es. closed (map exchange_line es)) b.2 ∙ sym (output_more b.0 b.1),
    )

pub IsDefinite_averaging : IsDefinite averaging
IsDefinite_averaging = record {
  one_output = λ lines text other a b. a.3 ∙ ap (λ es. closed (map exchange_line es)) (exchanges_one lines a.0 b.0 a.1 b.1) ∙ sym b.3;
  before = λ lines line text a. (room lines line a.2, before lines line text a);
  not_refused = λ lines line text cause a r. let b = exchanges_before lines line a.0 a.1 in IsExchange_not_refused line cause b.1 b.4 r;
  not_limited = λ lines line text a l. l;
  one_cause = λ lines line cause other r s. RefusesRecord_one line cause other r s;
  refused_within = λ lines line cause r l. l;
  one_end = λ lines more other a b. a.2 ∙ ap (λ es. group_lines (bests (differences es))) (exchanges_one lines a.0 b.0 a.1 b.1) ∙ sym b.2;
  one_lack = λ lines cause other e f. absurd e;
  ended_whole = λ lines more cause e f. f;
}

-- the answer to lines of exchanges
pub answer_exchanges : (limit : ℕ) (octets : List ℕ) → length octets ≤ limit → (a : AreExchangeLines octets) →
    IsAnswer averaging limit octets Done (closed (map exchange_line a.1) ++ group_lines (bests (differences a.1)))
answer_exchanges limit octets l (lines, exchanges, n, are, z, few) = record {
  lines = lines;
  text = closed (map exchange_line exchanges);
  said = group_lines (bests (differences exchanges));
  feedless = n;
  accepted = (exchanges, z, few, refl);
  ending = ((octets, are, (l, refl)), (exchanges, z, refl));
  whole = refl;
}
