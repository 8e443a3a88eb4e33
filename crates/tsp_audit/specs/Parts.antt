-- The parts of a verdict, and what each asks of a history. Each is a promise that every run keeps.
use Rattle.std.specs.Prelude.{◌≡◌, true, ℕ, List}
use Rattle.tsp_audit.specs.declared.premises.Premises.{Premises}
use Rattle.tsp_promises.specs.{Agreed.Agreed, Measured.Measured, Measured.Trips, OneBack.OneBack, OnlyMaster.OnlyMaster, Setting.Setting}
use Rattle.tsp_base.specs.Words.{Line}
use Rattle.tsp_promises.specs.Once.{OnceConfirmed, OnceObeyed, OnceSpaced, OnceTaken}

-- the parts, the least first
pub data Part : Type 0 where
  -- no port backs two candidates within the hold
  Backing : Part
  -- only masters correct
  Leading : Part
  -- each correction acts at most once
  Acting : Part
  -- each measurement errs by at most half its round trip
  Measuring : Part
  -- clocks that one round corrected agree
  Agreeing : Part

-- the number by which a verdict names a part
abbrev pub part_number : Part → ℕ
part_number Backing = 12
part_number Leading = 13
part_number Acting = 14
part_number Measuring = 15
part_number Agreeing = 16

-- nobody forges a peer's datagram, none is taken more than `LIFE`, 30 s, after its post, and no two boots have one
-- word
pub record AllKept (premises : Premises) : Type 0 where
  pub honest : premises.honest ≡ true
  pub life : premises.life ≡ true
  pub words : premises.words ≡ true

-- corrections of one life are at least `GAP`, 1,000,000 ticks, apart; a follower obeys its master; no send is taken
-- twice; what is acknowledged was taken
pub record ActsOnce (premises : Premises) (setting : Setting) (h : List Line) : Type 0 where
  pub spaced : OnceSpaced h
  pub obeyed : premises.honest ≡ true → OnceObeyed setting h
  pub taken : AllKept premises → OnceTaken h
  pub confirmed : AllKept premises → OnceConfirmed h

-- each measurement errs by at most half its round trip
pub record MeasuresWell (setting : Setting) (h : List Line) : Type 0 where
  pub measured : Measured setting h
  pub trips : Trips h

-- what a part asks of a history, as far as the schedule keeps the premises that it needs
abbrev pub PartHolds : Premises → Setting → Part → List Line → Type 0
PartHolds premises setting Backing h = OneBack h
PartHolds premises setting Leading h = OnlyMaster h
PartHolds premises setting Acting h = ActsOnce premises setting h
PartHolds premises setting Measuring h = premises.honest ≡ true → premises.words ≡ true → MeasuresWell setting h
PartHolds premises setting Agreeing h = AllKept premises → Agreed setting h

-- all parts hold
abbrev pub AllKeep : Premises → Setting → List Line → Type 0
AllKeep premises setting h = (part : Part) → PartHolds premises setting part h
