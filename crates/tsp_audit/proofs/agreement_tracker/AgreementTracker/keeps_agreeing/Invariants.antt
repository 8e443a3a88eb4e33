-- The agreement stands for the lines so far, clocks agree in them, there is room for the rest, and what is held to be settled is so.
use Rattle.std.proofs.Common.{◌≤◌, ◌+◌, ◌-◌, ℕ, length, take, vec_len, vec_capacity}
use Rattle.tsp_promises.specs.{Agreed.Agreed, Setting.Setting}
use Rattle.tsp_history.specs.Histories.{history_of}
use Rattle.tsp_audit.specs.{Agreeing.AgreementIs, Agreeing.Numbered, Agreeing.SettledAt, Settings.HasClocks, Settings.Timely}
use Rattle.tsp_audit.proofs.agreement_tracker.AgreementTracker.keeps_agreeing.Given as goal

abbrev pub invariant-loop-i : goal.invariant-loop-i
invariant-loop-i l = ((count : ℕ) → vec_len l.initial.self.trips + (length l.lines - l.from) ≤ vec_capacity l.initial.self.trips →
    AgreementIs count (history_of (take l.from l.lines)) l.initial.self → AgreementIs count (history_of (take l.i l.lines)) l.self) ×
    ((setting : Setting) (count : ℕ) → HasClocks l.header setting → Timely (history_of l.lines) → Numbered count (history_of l.lines) →
    vec_len l.initial.self.trips + (length l.lines - l.from) ≤ vec_capacity l.initial.self.trips →
    AgreementIs count (history_of (take l.from l.lines)) l.initial.self → SettledAt l.header l.initial.self.settled l.initial.self.nodes.items →
    Agreed setting (history_of (take l.from l.lines)) → Agreed setting (history_of (take l.i l.lines))) ×
    (vec_len l.initial.self.trips + (length l.lines - l.from) ≤ vec_capacity l.initial.self.trips →
    vec_len l.self.trips + (length l.lines - l.i) ≤ vec_capacity l.self.trips) ×
    (SettledAt l.header l.initial.self.settled l.initial.self.nodes.items → SettledAt l.header l.settled l.self.nodes.items)
