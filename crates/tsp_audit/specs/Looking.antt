-- What is found of the newest event.
use Rattle.std.specs.Prelude.{◌≡◌, ℕ, List, length, Option, None, Some}
use Rattle.tsp_audit.specs.declared.remembered.Remembered.{Remembered}
use Rattle.tsp_audit.specs.{Agreeing.Numbered, Judged.FailsNow, Parts.AllKeep, Remembered.RememberedStands}
use Rattle.tsp_audit.specs.{Settings.HasClocks, Settings.Timely, declared.premises.Premises.Premises, declared.verdict.Failure.Failure}
use Rattle.tsp_base.specs.Words.{HeaderValue, Line, Within}
use Rattle.tsp_promises.specs.Setting.{Setting}
use Rattle.tsp_claims.specs.ClaimedHistory.{Claim, claimed}

-- a history of this many lines has grown to another, at true times of at most 10^15 microseconds, by lines of its
-- nodes
pub record Grown (count : ℕ) (h new : List Line) (from : ℕ) : Type 0 where
  pub within : Within h new
  pub long : length h ≡ from
  pub timely : Timely new
  pub numbered : Numbered count new

-- all parts hold after the newest event, where they held before it, and these are the notes then; or this part fails there
abbrev pub Looks : Premises → HeaderValue → List Claim → List Line → Remembered → Option Failure → Type 0
Looks premises header new h notes None = RememberedStands premises header (claimed header new) notes × ((setting : Setting) → HasClocks header setting →
    AllKeep premises setting h → AllKeep premises setting (claimed header new))
Looks premises header new h notes (Some f) = (f.event ≡ length new) × ((setting : Setting) → HasClocks header setting → AllKeep premises setting h →
    FailsNow premises setting (claimed header new) f.part)

-- an earlier failure stays; else this is found of the newest event
abbrev pub Finds : Premises → HeaderValue → List Claim → List Line → Option Failure → Remembered → Option Failure → Type 0
Finds premises header new h (Some f) notes found = found ≡ Some f
Finds premises header new h None notes found = Looks premises header new h notes found
