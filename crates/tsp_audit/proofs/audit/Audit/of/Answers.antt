-- The audit stands for what was found of all events.
use Rattle.std.proofs.Common.{◌≡◌, ◌∙◌, List, [], ap, length, refl, sym}
use Rattle.tsp_audit.specs.{Remembered.RememberedStands, Verdicts.IsFoundOfAll}
use Rattle.tsp_audit.proofs.ThroughLemmas.{dated_named, dated_timely}
use Rattle.tsp_rules.specs.Values.{NodeLine}
use Rattle.tsp_base.specs.Words.{HeaderValue}
use Rattle.tsp_audit.proofs.audit.Audit.of.Goals as goal

pub returns-in-Ok-look_through : goal.returns-in-Ok-look_through
returns-in-Ok-look_through c header told stand dated ends =
    let nodes : c.nodes.result.now ≡ header.nodes = c.nodes.ensures.nodes ∙ ap (λ (h : HeaderValue). h.nodes) (c.header.ensures ∙ stand.header_is) in
    let none : RememberedStands c.args.premises header [] c.in-Ok.notes = c.in-Ok.ensures c.args.premises header
    (ap (λ (ns : List NodeLine). length ns) (sym nodes)) in
    let first : IsFoundOfAll c.args.premises header told c.look_through.new.notes c.in-Ok-look_through.failed =
    c.in-Ok-look_through.ensures header told stand dated ends none in
    record {
      claims_stand = stand;
      premises_are = refl;
      timely = dated_timely header told dated;
      found = first.found_is;
      named = dated_named (length header.nodes) told dated;
      notes = first.notes_are;
    }
