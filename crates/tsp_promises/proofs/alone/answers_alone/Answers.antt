use Rattle.tsp_rules.specs.NodeRows.{in_node_step}
use Rattle.tsp_promises.{specs.NodeRuns.NodeAnswers, specs.NodeRuns.node_ran, proofs.shared.AloneLemmas.same_answers, proofs.leads.NodeLeads.fresh_alone}
use Rattle.tsp_promises.proofs.alone.answers_alone.Goals as goal

pub returns : goal.returns
returns c past s hs step x g new o =
    let known = fresh_alone past s hs step x (NodeAnswers g) new o in
    (same_answers g o.2).run x (in_node_step step x (node_ran hs past)) s known.1 known.0
