-- Laws of the bodies of messages.
use Rattle.std.proofs.Common.{◌≡◌, ℕ, List, ◌++◌, true, false, Bool, refl, arith, ℤ, pos, negsuc, not, ◌&&◌}
use Rattle.std.{proofs.lemmas.Int.ints, specs.Int.w64, specs.Int.RustNames.FitsSigned}
use Rattle.tsp_base.specs.Words.{carries_time, carries_hops, body_fits, IsMicros}
use Rattle.tsp_base.specs.declared.{kind.Kind.Kind, kind.Kind.TheVariants.Loop as LoopKind, message.Body.Body}
use Rattle.tsp_base.specs.declared.message.Body.TheVariants.{Nothing, Time as TimeBody, Hops}
use Rattle.tsp_script.{proofs.Outcomes.true_or_false, specs.Texts.IsTimeBody, specs.Texts.IsHopsBody, specs.Texts.body_text}

-- no kind carries both a time and hops
not_both : (k : Kind) → carries_time k ≡ true → carries_hops k ≡ true → ⊥
unfolding carries_time carries_hops
not_both LoopKind p q = cc
not_both _ p q = cc

neither_time : (a b : Bool) → not a && not b ≡ true → a ≡ true → ⊥
neither_time true b p q = cc
neither_time false b p q = cc

neither_hops : (a b : Bool) → not a && not b ≡ true → b ≡ true → ⊥
neither_hops true b p q = cc
neither_hops false true p q = cc
neither_hops false false p q = cc

pub time_body : (k : Kind) (b : Body) → carries_time k ≡ true → body_fits k b ≡ true → IsTimeBody b
unfolding body_fits
time_body k Nothing h f = absurd (neither_time (carries_time k) (carries_hops k) f h)
time_body k (TimeBody t) h f = tt
time_body k (Hops n) h f = absurd (not_both k h f)

pub hops_body : (k : Kind) (b : Body) → carries_hops k ≡ true → body_fits k b ≡ true → IsHopsBody b
unfolding body_fits
hops_body k Nothing h f = absurd (neither_hops (carries_time k) (carries_hops k) f h)
hops_body k (TimeBody t) h f = absurd (not_both k f h)
hops_body k (Hops n) h f = tt

pub no_body : (k : Kind) (b : Body) (line rest : List ℕ) → carries_time k ≡ false → carries_hops k ≡ false → body_fits k b ≡ true → line ≡ body_text b ++ rest →
    (Nothing ≡ b) × (line ≡ rest)
unfolding body_fits
no_body k Nothing line rest g h f e = (refl, e)
no_body k (TimeBody t) line rest g h f e = absurd (true_or_false (carries_time k) f g)
no_body k (Hops n) line rest g h f e = absurd (true_or_false (carries_hops k) f h)

-- the body of a kind
pub time_fits : (k : Kind) (b : Body) → carries_time k ≡ true → IsTimeBody b → body_fits k b ≡ true
unfolding body_fits
time_fits k (TimeBody t) h b = h
time_fits k _ h b = elim b [ ]

pub hops_fit : (k : Kind) (b : Body) → carries_hops k ≡ true → IsHopsBody b → body_fits k b ≡ true
unfolding body_fits
hops_fit k (Hops n) h b = h
hops_fit k _ h b = elim b [ ]

pub nothing_fits : (k : Kind) → carries_time k ≡ false → carries_hops k ≡ false → body_fits k Nothing ≡ true
unfolding body_fits
nothing_fits k g h = rw (g, h) refl

-- what holds for each time, or for each hop count, holds for a body that is one
pub time_case : (Holds : Body → Type 0) (b : Body) → IsTimeBody b → ((t : ℤ) → Holds (TimeBody t)) → Holds b
time_case Holds (TimeBody t) i h = h t
time_case Holds _ i h = absurd i

pub hops_case : (Holds : Body → Type 0) (b : Body) → IsHopsBody b → ((n : ℕ) → Holds (Hops n)) → Holds b
hops_case Holds (Hops n) i h = h n
hops_case Holds _ i h = absurd i

pub fits_micros : (z : ℤ) → IsMicros z → FitsSigned w64 z
fits_micros (pos n) h = record { sfits = omega (arith, ints, h.high) }
fits_micros (negsuc n) h = record { sfits = omega (arith, ints, h.low) }
