-- A node that hears nothing leads soon.
use Rattle.std.specs.Prelude.{◌≡◌, ◌≤◌, ℕ, ◌+◌, Bool, true, false, if◌then◌else◌, List, [], ◌∷◌}
use Rattle.tsp_rules.specs.Values.{Boot, Took, Port, WINDOW}
use Rattle.tsp_rules.specs.Guards.{is_master}
use Rattle.tsp_base.specs.Words.{Acts, Begins, Deed, Did, Line, Seen, Here, Elsewhere, of, role, stood, view}
use Rattle.tsp_promises.specs.{Everywhere.Everywhere, Fits.node_of}
use Rattle.tsp_progress.specs.{AlarmsFit.Manner, AloneStands.patience, CausesFit.stirs_in}

-- deeds by which a port hears something: a boot, and a message of a kind that stirs
abbrev pub is_word : Deed → Bool
is_word (Acts Boot) = true
is_word (Acts (Took from taken)) = stirs_in taken
is_word _ = false

-- the tick of the last of them on this port; 0 before the first
abbrev pub last_word : List Seen → ℕ
last_word [] = 0
last_word (Here d ∷ before) = if is_word d.deed then d.tick else last_word before
last_word (Elsewhere d ∷ before) = last_word before

-- a port that changed its role since the boot and is no master when a step begins, whose node may be master, in elections that aren't
-- strict, heard something at most the time until it stands, WINDOW (5 s) and `late` ago
abbrev pub AloneLeadsAt : (ℕ → Manner) → ℕ → Line → List Line → Type 0
AloneLeadsAt m late l world =
    l.did.deed ≡ Begins → (m (node_of l)).may ≡ true → (m (node_of l)).strict ≡ false → (q : Port) → (start : Did) (idle : List Seen) →
    stood (view q (of (node_of l) world)) ≡ Here start ∷ idle → is_master (role (view q (of (node_of l) world))) ≡ false →
    l.did.tick ≤ last_word (view q (of (node_of l) world)) + (patience late + WINDOW + late)

-- wherever a step begins
abbrev pub AloneLeads : (ℕ → Manner) → ℕ → List Line → Type 0
AloneLeads m late = Everywhere (AloneLeadsAt m late)
