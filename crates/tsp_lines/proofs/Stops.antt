-- Laws for the proofs of treatments: what `?` gives where octets weren't written.
use Rattle.std.proofs.Common.{◌≡◌, ℕ, List, [], ◌∷◌, ◌++◌, Ok, Err, subst, sym, MatchResult, IsErr}
use Rattle.std.specs.{Result.IsErrAnd, declared.option.Option.Option, declared.result.Result.Result}
use Rattle.tsp_lines.specs.{Meanings.Meaning, Meanings.Breaks, Meanings.StopsAt, Meanings.stop_of, declared.treatment.Stop.Stop}
use Rattle.tsp_lines.specs.declared.output.Unwritten.{Unwritten, TheVariants.WriteFault as NotWritten, TheVariants.OutOfMemory as NoMemory}

-- a part of a line's output was handed over
pub StopsAt_stop_of : (m : Meaning) (lines : List (List ℕ)) (text line : List ℕ) (a b : Option (List ℕ)) (held keeps : List ℕ) (f : Unwritten)
    → Breaks (λ more. m.accepts (lines ++ line ∷ []) (text ++ more)) a held b keeps → StopsAt m lines text line a held b keeps (stop_of f)
StopsAt_stop_of m lines text line a b held keeps NotWritten h = h
StopsAt_stop_of m lines text line a b held keeps NoMemory h = h

-- where `?` leaves a treatment of a line
pub MatchResult_line : (m : Meaning) (lines : List (List ℕ)) (text line : List ℕ) (a b : Option (List ℕ)) (held keeps : List ℕ) (OnGo : Unit {0} →
    Type 0) (r : Result (Unit {0}) Stop) (f : Unwritten)
    → IsErr r × IsErrAnd r (λ stop. stop ≡ stop_of f) → Breaks (λ more. m.accepts (lines ++ line ∷ []) (text ++ more)) a held b keeps →
    MatchResult r OnGo (StopsAt m lines text line a held b keeps)
MatchResult_line m lines text line a b held keeps OnGo (Ok u) f e h = cc
MatchResult_line m lines text line a b held keeps OnGo (Err stop) f e h = subst (StopsAt m lines text line a held b keeps) (sym e.1)
    (StopsAt_stop_of m lines text line a b held keeps f h)
