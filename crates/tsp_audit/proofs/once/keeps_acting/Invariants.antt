-- The sends so far are those that Corrects have taken posts of, the lines so far are as the promise says, and there is room for the rest.
use Rattle.std.proofs.Common.{◌≤◌, ◌+◌, ◌-◌, length, take, vec_len, vec_capacity}
use Rattle.tsp_promises.specs.{Everywhere.Everywhere, Setting.Setting}
use Rattle.tsp_history.specs.Histories.{history_of}
use Rattle.tsp_audit.specs.{Acting.ActedIs, Acting.ActsAt, Parts.ActsOnce, Settings.HasClocks, Settings.Timely}
use Rattle.tsp_audit.proofs.once.keeps_acting.Given as goal

abbrev pub invariant-loop-i : goal.invariant-loop-i
invariant-loop-i l = (vec_len l.initial.acted + (length l.lines - l.from) ≤ vec_capacity l.initial.acted →
    ActedIs (history_of (take l.from l.lines)) l.initial.acted.items → ActedIs (history_of (take l.i l.lines)) l.acted.items) ×
    ((setting : Setting) → HasClocks l.header setting → Timely (history_of l.lines) →
    vec_len l.initial.acted + (length l.lines - l.from) ≤ vec_capacity l.initial.acted → ActedIs (history_of (take l.from l.lines)) l.initial.acted.items →
    ActsOnce l.premises setting (history_of (take l.from l.lines)) → Everywhere (ActsAt l.premises setting) (history_of (take l.i l.lines))) ×
    (vec_len l.initial.acted + (length l.lines - l.from) ≤ vec_capacity l.initial.acted → vec_len l.acted + (length l.lines - l.i) ≤ vec_capacity l.acted)
