-- Laws of how a treatment leaves source and sink, and of what calls do to a count of faults.
use Rattle.std.proofs.Common.{◌∙◌, arith, ◌≡◌, ℕ, Some, ap, refl, ◌≢◌, ◌≤◌, List, Result, Ok, Err, false, sym, subst, true, MatchOption, None}
use Rattle.std.specs.declared.option.Option.{Option}
use Rattle.tsp_io.specs.{Counts.Rose, declared.sink.Sink.Ghosts as SinkOf, declared.source.Source.Ghosts as SourceOf}
use Rattle.tsp_lines.specs.{Faults.Counts, Meanings.Meaning, Turns.outcome_of, Turns.StaysOpen}
use Rattle.tsp_lines.specs.{Definite.IsDefinite, Readings.ReaderValue, Frames.Accepts, Frames.Completes, Frames.Leaves, Frames.Treats}
use Rattle.tsp_lines.specs.declared.output.Unwritten.{Unwritten, TheVariants.WriteFault as NotWritten, TheVariants.OutOfMemory as NoMemory}
use Rattle.tsp_lines.specs.declared.{treatment.Stop.Stop, next.Fill.Fill, next.Fill.TheVariants.NotRead, next.Next.Next, next.Next.TheVariants.Failed}
use Rattle.tsp_lines.specs.declared.treatment.Stop.TheVariants.{Bad as Refused, Limit as Limited, WriteFault as Unwrote, OutOfMemory as Unheld}
use Rattle.tsp_lines.specs.declared.treat.Outcome.{Outcome, TheVariants.Ok as Done, TheVariants.OutOfMemory, TheVariants.ReadFault, TheVariants.WriteFault}

-- a count from an earlier moment, at which it was the same, and by another word for the fault
pub Counts_from : (old before now : ℕ) (fault failed : Type 0) → before ≡ old → (fault → failed) → (failed → fault) → Counts before now failed →
    Counts old now fault
Counts_from old before now fault failed same to from c = record {
  later = omega (arith, same, c.later);
  cause = λ e. rw (← same) (c.cause (to e));
  still = λ h. c.still (λ e. h (from e)) ∙ same;
}

-- the fault of an outcome that is told of a call which may go on
pub Counts_some : {A : Type 0} (before now : ℕ) (x y : A) → Counts before now (Some x ≡ Some y) → Counts before now (x ≡ y)
Counts_some before now x y c = Counts_from before before now (x ≡ y) (Some x ≡ Some y) refl (ap Some) (λ e. cc) c

-- a count that is unchanged, where the fault doesn't come
pub Counts_same : (before now : ℕ) (fault : Type 0) → now ≡ before → ¬ fault → Counts before now fault
Counts_same before now fault same never = record { later = omega (arith, same); cause = λ e. absurd (never e); still = λ h. same }

-- nothing was read or written
pub Leaves_nothing : {S K : Type 0} (sources : SourceOf S) (sinks : SinkOf K) (source : S) (sink : K) → Leaves sources sinks source source sink sink OutOfMemory
Leaves_nothing sources sinks source sink = record {
  later = (omega arith, omega arith);
  read = λ e. cc;
  write = λ e. cc;
  still = (λ n. refl, λ n. refl);
  ended = λ e. cc;
}

-- no count rose before
pub Leaves_since : {S K : Type 0} (sources : SourceOf S) (sinks : SinkOf K) (source at now : S) (sink kept last : K) (outcome : Outcome)
    → sources.faults at ≡ sources.faults source → sinks.faults kept ≡ sinks.faults sink → Leaves sources sinks at now kept last outcome →
    Leaves sources sinks source now sink last outcome
Leaves_since sources sinks source at now sink kept last outcome p q l = record {
  later = (omega (arith, l.later.0, p), omega (arith, l.later.1, q));
  read = λ e. (subst (λ (n : ℕ). Rose n (sources.faults now)) p (l.read e).0, (l.read e).1);
  write = λ e. subst (λ (n : ℕ). Rose n (sinks.faults last)) q (l.write e);
  still = (λ n. l.still.0 n ∙ p, λ n. l.still.1 n ∙ q);
  ended = l.ended;
}

-- a command of definite meaning
pub Accepts_treated : {S K : Type 0} (sources : SourceOf S) (sinks : SinkOf K) (m : Meaning) (IsText : List ℕ → Type 0) (limit : ℕ) (source now : S)
    (sink last : K) (outcome : Outcome)
    → IsDefinite m → Completes sources sinks IsText limit source now sink last outcome → Treats sources sinks m limit source now sink last outcome →
    Accepts sources sinks m IsText limit source now sink last outcome
Accepts_treated sources sinks m IsText limit source now sink last outcome definite complete t = record {
  comes = t.comes;
  answers = t.answers definite;
  keeps_up = t.keeps_up;
  leaves = t.leaves;
  complete = complete;
}

pub Ok_no_error : {A E : Type 0} (a : A) (e : E) → Ok a ≢ Err e
Ok_no_error a e p = cc

pub Err_one : {A E : Type 0} (r : Result A E) (d e : E) → r ≡ Err d → r ≡ Err e → d ≡ e
Err_one r d e p q = cc

fault_of : (fault : Unwritten) → outcome_of fault ≡ WriteFault → fault ≡ NotWritten
fault_of NotWritten e = refl
fault_of NoMemory e = absurd (cc)

written_of : (fault : Unwritten) → fault ≡ NotWritten → outcome_of fault ≡ WriteFault
written_of fault e = rw e refl

neither : (fault : Unwritten) → (outcome_of fault ≢ ReadFault) × (outcome_of fault ≢ Done)
neither NotWritten = (λ e. cc, λ e. cc)
neither NoMemory = (λ e. cc, λ e. cc)

-- nothing failed to be written where a call succeeds
pub unfailed : {A : Type 0} (before now : ℕ) (r : Result A Unwritten) (a : A) → r ≡ Ok a → Counts before now (r ≡ Err NotWritten) → now ≡ before
unfailed before now r a p c = c.still (λ e. Ok_no_error a NotWritten (sym p ∙ e))

-- the outcome where output isn't written
pub Counts_fault : {A : Type 0} (before now : ℕ) (r : Result A Unwritten) (fault : Unwritten) (o : Outcome) → o ≡ outcome_of fault → r ≡ Err fault →
    Counts before now (r ≡ Err NotWritten) → Counts before now (o ≡ WriteFault)
Counts_fault before now r fault o is p c = record {
  later = c.later;
  cause = λ e. c.cause (p ∙ ap Err (fault_of fault (sym is ∙ e)));
  still = λ n. c.still (λ e. n (is ∙ written_of fault (Err_one r fault NotWritten p e)));
}

pub not_others : (fault : Unwritten) (o : Outcome) → o ≡ outcome_of fault → (o ≢ ReadFault) × (o ≢ Done)
not_others fault o is = (λ e. (neither fault).0 (sym is ∙ e), λ e. (neither fault).1 (sym is ∙ e))

-- a treatment stopped, but not since output wasn't written
pub Counts_told : (before now : ℕ) (stop : Stop) (o : Outcome) → stop ≢ Unwrote → Counts before now ((o ≡ WriteFault) × (stop ≢ Unwrote)) →
    Counts before now (o ≡ WriteFault)
Counts_told before now stop o n c = Counts_from before before now (o ≡ WriteFault) ((o ≡ WriteFault) × (stop ≢ Unwrote)) refl (λ e. (e, n)) (λ e. e.0) c

-- a treatment stopped; the counts before its last call, after that, and after what stopped it was written
pub Counts_stopped : (before at now : ℕ) (stop : Stop) (o : Outcome)
    → before ≤ at → (stop ≡ Unwrote → Rose before at) → (stop ≢ Unwrote → at ≡ before) → (stop ≡ Unwrote → o ≡ WriteFault) →
    Counts at now ((o ≡ WriteFault) × (stop ≢ Unwrote)) → Counts before now (o ≡ WriteFault)
Counts_stopped before at now Unwrote o later cause still told c =
    let same : now ≡ at = c.still (λ e. e.1 refl) in
    record { later = omega (arith, later, same); cause = λ e. subst (Rose before) (sym same) (cause refl); still = λ n. absurd (n (told refl)) }
Counts_stopped before at now (Refused words) o later cause still told c = Counts_from before at now (o ≡ WriteFault) ((o ≡ WriteFault) ×
    (Refused words ≢ Unwrote)) (still (λ e. cc)) (λ e. (e, λ s. cc)) (λ e. e.0) c
Counts_stopped before at now Limited o later cause still told c = Counts_from before at now (o ≡ WriteFault) ((o ≡ WriteFault) ×
    (Limited ≢ Unwrote)) (still (λ e. cc)) (λ e. (e, λ s. cc)) (λ e. e.0) c
Counts_stopped before at now Unheld o later cause still told c = Counts_from before at now (o ≡ WriteFault) ((o ≡ WriteFault) ×
    (Unheld ≢ Unwrote)) (still (λ e. cc)) (λ e. (e, λ s. cc)) (λ e. e.0) c

-- it ends after a read that didn't fail
pub Leaves_read : {S K : Type 0} (sources : SourceOf S) (sinks : SinkOf K) (source last : S) (sink before now : K) (o : Outcome)
    → sources.faults last ≡ sources.faults source → sinks.faults before ≡ sinks.faults sink → Counts (sinks.faults before) (sinks.faults now) (o ≡ WriteFault) →
    o ≢ ReadFault → (o ≡ Done → sources.ended last ≡ true) → Leaves sources sinks source last sink now o
Leaves_read sources sinks source last sink before now o s k c r d =
    let w = Counts_from (sinks.faults sink) (sinks.faults before) (sinks.faults now) (o ≡ WriteFault) (o ≡ WriteFault) k (λ e. e) (λ e. e) c in
    record { later = (omega (arith, s), w.later); read = λ e. absurd (r e); write = w.cause; still = (λ n. s, w.still); ended = d }

-- output wasn't written, and the source is as it was before
pub Leaves_unwritten : {S K A : Type 0} (sources : SourceOf S) (sinks : SinkOf K) (source last : S) (sink before now : K) (r : Result A Unwritten)
    (fault : Unwritten) (o : Outcome) → o ≡ outcome_of fault → r ≡ Err fault
    → sources.faults last ≡ sources.faults source → sinks.faults before ≡ sinks.faults sink → Counts (sinks.faults before) (sinks.faults now) (r ≡
    Err NotWritten) → Leaves sources sinks source last sink now o
Leaves_unwritten sources sinks source last sink before now r fault o is p s k c =
    let n = not_others fault o is in
    Leaves_read sources sinks source last sink before now o s k (Counts_fault (sinks.faults before) (sinks.faults now) r fault o is p c) n.0
    (λ e. absurd (n.1 e))

-- a read failed
pub Leaves_failed : {S K : Type 0} (sources : SourceOf S) (sinks : SinkOf K) (source last : S) (sink now : K) (failed : Type 0)
    → Counts (sources.faults source) (sources.faults last) failed → failed → sources.ended last ≡ false → sinks.faults now ≡ sinks.faults sink →
    Leaves sources sinks source last sink now ReadFault
Leaves_failed sources sinks source last sink now failed c f e k = record {
  later = (c.later, omega (arith, k));
  read = λ r. (c.cause f, e);
  write = λ w. cc;
  still = (λ n. absurd (n refl), λ n. k);
  ended = λ d. cc;
}

-- a read that gave this left the source's count of faults as it was
pub not_failed : (r : Result Next Unwritten) (n k : Next) {before now : ℕ} → r ≡ Ok n → n ≡ k → k ≢ Failed → Counts before now (r ≡ Ok Failed) → now ≡ before
not_failed r n k p q d c = c.still (λ e. let f : k ≡ Failed = cc in d f)

pub not_unread : (r : Result Fill Unwritten) (n k : Fill) {before now : ℕ} → r ≡ Ok n → n ≡ k → k ≢ NotRead → Counts before now (r ≡ Ok NotRead) → now ≡ before
not_unread r n k p q d c = c.still (λ e. let f : k ≡ NotRead = cc in d f)

-- a line was treated: the treatment goes on, or it ends
pub Line_leaves : {S K : Type 0} (sources : SourceOf S) (sinks : SinkOf K) (source last : S) (sink before now : K) (old new : ReaderValue) (number : ℕ)
    (o : Option Outcome)
    → sources.faults last ≡ sources.faults source → sinks.faults before ≡ sinks.faults sink → Counts (sinks.faults before) (sinks.faults now) (o ≡
    Some WriteFault) → (o ≢ Some ReadFault) × (o ≢ Some Done)
    → (o ≡ None → StaysOpen sources sinks source last sink now old new number) → MatchOption o (StaysOpen sources sinks source last sink now old new number)
    (Leaves sources sinks source last sink now)
Line_leaves sources sinks source last sink before now old new number None s k c kind on = on refl
Line_leaves sources sinks source last sink before now old new number (Some o) s k c kind on =
    Leaves_read sources sinks source last sink before now o s k (Counts_some (sinks.faults before) (sinks.faults now) o WriteFault c) (λ e. kind.0 (ap Some e))
    (λ e. absurd (kind.1 (ap Some e)))
