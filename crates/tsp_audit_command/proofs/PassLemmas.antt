-- How events are passed, one after the other.
use Rattle.std.proofs.Common.{◌∙◌, ap, sym, refl, ◌≡◌, ℕ, suc, false, List, [], ◌∷◌, Option, None, Some}
use Rattle.tsp_base.specs.{Words.HeaderValue, declared.event.Event.Event, declared.trace.Line2.Line2}
use Rattle.tsp_audit_command.specs.ClaimReaders.{ClaimReaderValue, and_then, pass_first, pass_one, passes, tallied}
use Rattle.tsp_audit_command.specs.Stands.{Unpassed}
use Rattle.tsp_claims.specs.{ClaimedHistory.Claim, Fitting.lacks, Fitting.untold, Stands.claim_of}
use Rattle.tsp_lines.specs.declared.treatment.Stop.{Stop}
use Rattle.tsp_lines.specs.declared.treatment.Stop.TheVariants.{Bad}

pub some_one : (a b : ClaimReaderValue) → Some a ≡ Some b → a ≡ b
some_one a b p = cc

pub none-some : (o : Option ClaimReaderValue) (a : ClaimReaderValue) → o ≡ None → o ≡ Some a → ⊥
none-some o a p q = let e = sym p ∙ q in let bad : ⊥ = cc in bad

-- one event is passed of those that are left
pub passes_next : (n : ℕ) (c d : ClaimReaderValue) → pass_one c ≡ Some d → passes (suc n) c ≡ passes n d
passes_next n c d p = ap (λ o. and_then o (λ x. passes n x)) p

pub passes_none : (n : ℕ) (c : ClaimReaderValue) → pass_one c ≡ None → passes (suc n) c ≡ None
passes_none n c p = ap (λ o. and_then o (λ x. passes n x)) p

-- an event that lacks nothing is passed
pub pass_whole : (header : HeaderValue) (passed : List Claim) (told : List Line2) (e : Event) (rest : List Event) → lacks e (tallied untold told) ≡ false →
    pass_first header passed told (e ∷ rest) ≡ Some (record { header = header; passed = claim_of e told ∷ passed; told = []; ahead = rest })
pass_whole header passed told e rest h = rw h refl

-- where one event can't be passed, more can't
pub Unpassed-more : (n : ℕ) (c : ClaimReaderValue) (all : Option ClaimReaderValue) (stop : Stop) → passes (suc n) c ≡ all → Unpassed (pass_one c) stop →
    Unpassed all stop
Unpassed-more n c all (Bad cause) is u = (sym is ∙ passes_none n c u.0, u.1)
Unpassed-more n c all _ is u = u
