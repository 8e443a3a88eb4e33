-- A node that boots and hears nothing leads soon.
use Rattle.std.specs.Prelude.{◌≡◌, ◌≤◌, ℕ, ◌+◌, ◌*◌, not, Bool, true, false, if◌then◌else◌, List, [], ◌∷◌, Option}
use Rattle.tsp_rules.specs.Values.{Boot, Took, Port, ELECT_MIN, ELECT_SPREAD, QUIET, WINDOW}
use Rattle.tsp_rules.specs.Guards.{is_master}
use Rattle.tsp_base.specs.Words.{Acts, Begins, Deed, Did, Line, Received, Seen, Here, Elsewhere, held, of, role, stood, taken, view}
use Rattle.tsp_promises.specs.{Everywhere.Everywhere, Fits.node_of}
use Rattle.tsp_progress.specs.{AlarmsFit.Manner, CausesFit.stirred, CausesFit.stirs_in}

abbrev pub untouched_after : Deed → Option Received → Bool → Bool
untouched_after (Acts Boot) took was = not (stirred took)
untouched_after (Acts (Took from taken)) took was = if stirs_in taken then false else was
untouched_after _ took was = was

-- whether the port has taken no message of a kind that stirs since its node booted, nor in that step
abbrev pub untouched : List Seen → Bool
untouched [] = false
untouched (Here d ∷ before) = untouched_after d.deed (taken before) (untouched before)
untouched (Elsewhere d ∷ before) = untouched before

-- how long it takes at most from a boot to the lead: QUIET, WINDOW, the longest delay and WINDOW (690 s), and four times `late`
abbrev pub first_lead : ℕ → ℕ
first_lead late = QUIET + WINDOW + (ELECT_MIN + ELECT_SPREAD) + WINDOW + 4 * late

-- a port that changed its role since the boot and is no master when a step begins, and has heard nothing since the boot, booted at most so
-- long ago, if its node may be master, in elections that aren't strict
abbrev pub FreshLeadsAt : (ℕ → Manner) → ℕ → Line → List Line → Type 0
FreshLeadsAt m late l world =
    l.did.deed ≡ Begins → (m (node_of l)).may ≡ true → (m (node_of l)).strict ≡ false → (q : Port) → (start : Did) (idle : List Seen) →
    stood (view q (of (node_of l) world)) ≡ Here start ∷ idle → is_master (role (view q (of (node_of l) world))) ≡ false →
    untouched (view q (of (node_of l) world)) ≡ true → l.did.tick ≤ (held (view q (of (node_of l) world))).boot + first_lead late

-- wherever a step begins
abbrev pub FreshLeads : (ℕ → Manner) → ℕ → List Line → Type 0
FreshLeads m late = Everywhere (FreshLeadsAt m late)
