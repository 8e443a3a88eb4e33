use Rattle.std.proofs.Common.{◌≡◌, ◌∙◌, ap, sym, rules, to_z, of_z}
use Rattle.std.specs.Int.{w64}
use Rattle.tsp_history.specs.Histories.{deed_of, history_of, line_of}
use Rattle.tsp_audit.proofs.TakeLemmas.{obeys_line}
use Rattle.tsp_audit.proofs.once.obeys.Goals as goal

pub returns-in-Follow : goal.returns-in-Follow
returns-in-Follow c setting has timely =
    let o = c.in-Correct in
    let same : to_z w64 (of_z w64 o.amount) ≡ o.amount = search rules in
    obeys_line setting (line_of c.args.line.now) (history_of c.args.lines.now) o.amount o.field-1 o.field-2 c.in-Follow.master c.obeys_master.result
    (ap deed_of o.ensures.act.1) (sym c.role_at.ensures ∙ c.in-Follow.is) (rw same at (c.obeys_master.ensures setting has timely))
