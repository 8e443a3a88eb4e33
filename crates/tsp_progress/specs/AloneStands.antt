-- A node that hears nothing stands for election soon.
use Rattle.std.specs.Prelude.{◌≡◌, ◌≤◌, ℕ, ◌+◌, ◌*◌, Bool, true, false, if◌then◌else◌, List, [], ◌∷◌}
use Rattle.tsp_rules.specs.Values.{Boot, Took, Become, Port, Candidate, ELECT_MIN, ELECT_SPREAD, WINDOW}
use Rattle.tsp_rules.specs.CommonRows.{is_idle}
use Rattle.tsp_base.specs.Words.{Acts, Begins, Deed, Line, Seen, Here, Elsewhere, of, role, view}
use Rattle.tsp_promises.specs.{Everywhere.Everywhere, Fits.node_of}
use Rattle.tsp_progress.specs.{AlarmsFit.Manner, CausesFit.stirs_in}

-- deeds after which a port's waiting begins anew: a boot, a message of a kind that stirs, and that it stands for election
abbrev pub is_news : Deed → Bool
is_news (Acts Boot) = true
is_news (Acts (Took from taken)) = stirs_in taken
is_news (Acts (Become Candidate)) = true
is_news _ = false

-- the tick of the last of them on this port; 0 before the first
abbrev pub news : List Seen → ℕ
news [] = 0
news (Here d ∷ before) = if is_news d.deed then d.tick else news before
news (Elsewhere d ∷ before) = news before

-- how long a port waits at most until it stands: twice the longest delay and WINDOW (1,210 s), and four times `late`
abbrev pub patience : ℕ → ℕ
patience late = 2 * (ELECT_MIN + ELECT_SPREAD + WINDOW) + 4 * late

-- a port that is Loose or follows when a step begins, and whose node may be master, waits no longer than that
abbrev pub AloneStandsAt : (ℕ → Manner) → ℕ → Line → List Line → Type 0
AloneStandsAt m late l world =
    l.did.deed ≡ Begins → (m (node_of l)).may ≡ true → (q : Port) → is_idle (role (view q (of (node_of l) world))) ≡ true →
    l.did.tick ≤ news (view q (of (node_of l) world)) + patience late

-- wherever a step begins
abbrev pub AloneStands : (ℕ → Manner) → ℕ → List Line → Type 0
AloneStands m late = Everywhere (AloneStandsAt m late)
