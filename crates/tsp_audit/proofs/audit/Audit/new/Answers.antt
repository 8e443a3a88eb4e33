use Rattle.std.proofs.Common.{◌≡◌, List, ap, length, refl, sym}
use Rattle.tsp_audit.proofs.EventLemmas.{holds_none}
use Rattle.tsp_rules.specs.Values.{NodeLine}
use Rattle.tsp_audit.proofs.audit.Audit.new.Goals as goal

pub returns-in-Ok-new : goal.returns-in-Ok-new
returns-in-Ok-new c =
    let nodes : c.nodes.result.now ≡ c.args.header.nodes = c.nodes.ensures.nodes in
    record {
      claims_stand = c.in-Ok-new.ensures.stand;
      premises_are = refl;
      timely = tt;
      found = λ setting has. holds_none c.args.premises setting c.args.header;
      named = tt;
      notes = λ none. c.in-Ok.ensures c.args.premises c.args.header (ap (λ (ns : List NodeLine). length ns) (sym nodes));
    }
