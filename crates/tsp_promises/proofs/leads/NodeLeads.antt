-- The steps of a node follow one another, and each deed of its ports fits.
use Rattle.std.proofs.Common.{sym, subst, ap, arith, ◌∙◌, ◌≡◌, ◌≤◌, ◌<◌, ℕ, ◌+◌, ◌==◌, true, List, [], ◌∷◌, ◌++◌, length, refl, slice_index_or}
use Rattle.std.proofs.lemmas.Bool.{or_right}
use Rattle.tsp_rules.specs.Values.{Boot, Become, Arm, Quiet, Port, Starting, QUIET}
use Rattle.tsp_rules.specs.GateRows.{ports_from, boots_on, boots_all, NodeTurn, GotOn}
use Rattle.tsp_rules.specs.NodeRows.{NodePast, port_setup, on_port, spread, in_node_step, nothing_at_all, on, ◌and_then◌, reading_all, for_ports, PortSetup}
use Rattle.tsp_rules.specs.NodeRows.{no_port}
use Rattle.tsp_rules.proofs.{Asides.all_aside, NodeRowLemmas.spread_append, NodeRowLemmas.on_own}
use Rattle.tsp_base.specs.Words.{Step, Begins, Acts, Past, view, seen_as, first_port, line_of, grown, in_step, puts, ◌followed_by◌, arms, placed}
use Rattle.tsp_promises.specs.NodeRuns.{NodeMakes, NodeBoots, NodeAnswers, node_row_of, NodeHappening, node_ran, node_tick, IsGivenOn, NodeOrdered, NodesFit}
use Rattle.tsp_promises.specs.{PortFits.PortFits, PortFits.setup_in, StepFacts.StepEnds, Alone.IsNew, Alone.makes_alone, Alone.steps_alone}
use Rattle.tsp_promises.proofs.{leads.GateLeads.answers_all_lead, leads.Known.Ended, leads.Known.Fresh, leads.Elsewheres.fresh_family}
use Rattle.tsp_promises.proofs.{leads.HeedLeads.untaken_heeds}
use Rattle.tsp_promises.proofs.{leads.GateSteps.AllPorts, leads.GateSteps.LeadsAll, leads.GateSteps.placed_all, shared.PortLists.Ranged}
use Rattle.tsp_promises.proofs.{shared.PortLists.ranged_from}
use Rattle.tsp_promises.proofs.leads.RunLeads.{ends_of, begins_fresh, Booting, booted, quiets, boot_rests, nothing_done, row_leads}
use Rattle.tsp_promises.specs.Runs.{ran, row_of}
use Rattle.tsp_promises.proofs.shared.AloneLemmas.{Same, alone, same_answers, same_boots}

-- the runs of a node with one port are those of that port

-- a step's row
same_row : (m : NodeMakes) → IsGivenOn 1 m → Same Fresh (node_row_of m) (row_of (makes_alone m))
same_row NodeBoots here = record { run = λ x past s one c. same_boots.run x past s one tt }
same_row (NodeAnswers g) here = same_answers g here

-- a node keeps its ports
pub ports_ran : (hs : List NodeHappening) (past : NodePast) → (node_ran hs past).ports ≡ past.ports
ports_ran [] past = refl
ports_ran (h ∷ before) past = ports_ran before past

-- the port begins its step
begins_alone : (past : NodePast) (s : PortSetup) (last x : ℕ) (step : Step) → past.ports ≡ s ∷ [] → last ≤ x → step.node ≡ s.own.0 → Ended last (alone past) →
    Fresh x (alone (in_node_step step x past))
begins_alone past s last x step one later node rests = begins_fresh step last x (alone past) later
    (ap (λ (ps : List PortSetup). (slice_index_or ps 0 no_port).own.0) one ∙ sym node) rests

-- after a step, the port has put what its row has
alone_grown : (m : NodeMakes) (x : ℕ) (past : NodePast) (s : PortSetup) → IsGivenOn 1 m → past.ports ≡ s ∷ [] → Fresh x (alone past) →
    alone (spread x past (node_row_of m x past)) ≡ grown x (alone past) (row_of (makes_alone m) x (alone past))
alone_grown m x past s here one fresh = ap (λ ps. alone (spread x past ps)) ((same_row m here).run x past s one fresh) ∙
    on_own first_port x past (row_of (makes_alone m) x (alone past))

-- the port owes nothing between the steps
ended_alone : (past : NodePast) (s : PortSetup) (hs : List NodeHappening) → IsNew past s → NodeOrdered s.own.0 1 hs →
    Ended (node_tick hs) (alone (node_ran hs past))
ended_alone past s [] new o = subst (λ ls. Ended 0 (record (alone past) { seen = view first_port ls })) (sym new.lines) (nothing_done 0 (alone past))
ended_alone past s (h ∷ before) new o =
    let done = node_ran before past in
    let one : done.ports ≡ s ∷ [] = ports_ran before past ∙ new.ports in
    let fresh = begins_alone done s (node_tick before) h.tick h.step one o.0 o.1 (ended_alone past s before new o.3) in
    subst (λ z. Ended h.tick z) (sym (alone_grown h.makes h.tick (in_node_step h.step h.tick done) s o.2 one fresh))
    ((row_leads (makes_alone h.makes)).run h.tick (alone (in_node_step h.step h.tick done)) fresh)

pub fresh_alone : (past : NodePast) (s : PortSetup) (hs : List NodeHappening) (step : Step) (x : ℕ) (m : NodeMakes) → IsNew past s →
    NodeOrdered s.own.0 1 (record { step = step; tick = x; makes = m } ∷ hs) →
    Fresh x (alone (in_node_step step x (node_ran hs past))) × ((node_ran hs past).ports ≡ s ∷ [])
fresh_alone past s hs step x m new o =
    let one : (node_ran hs past).ports ≡ s ∷ [] = ports_ran hs past ∙ new.ports in (
      begins_alone (node_ran hs past) s (node_tick hs) x step one o.0 o.1 (ended_alone past s hs new o.3),
      one,
    )

pub runs_alike : (past : NodePast) (s : PortSetup) (hs : List NodeHappening) → IsNew past s → NodeOrdered s.own.0 1 hs → alone (node_ran hs past) ≡
    ran (steps_alone hs) (alone past)
runs_alike past s [] new o = refl
runs_alike past s (h ∷ before) new o =
    let done = node_ran before past in
    let known = fresh_alone past s before h.step h.tick h.makes new o in
    alone_grown h.makes h.tick (in_node_step h.step h.tick done) s o.2 known.1 known.0
    ∙ ap (λ (p : Past). grown h.tick (in_step h.step h.tick p) (row_of (makes_alone h.makes) h.tick (in_step h.step h.tick p)))
    (runs_alike past s before new o.3)

quiets_aside : (x : ℕ) (past : Past) → Booting x past → Booting x (all_aside x past (Become Starting ∷ Arm Quiet (x + QUIET) ∷ []))
quiets_aside x past b = record {
  fresh = fresh_family.still x _ (Arm Quiet (x + QUIET)) refl (fresh_family.still x past (Become Starting) refl b.fresh);
  starts = b.starts;
  boot_is = b.boot_is;
}

boots_one : (q : Port) (x : ℕ) (past : NodePast) → q.0 < length past.ports → AllPorts (λ r. Booting) x past →
    AllPorts (λ r. Booting) x (spread x past (boots_on q x past))
unfolding boots_on on puts arms ◌followed_by◌
boots_one q x past has all = placed_all q x past (Become Starting ∷ Arm Quiet (x + QUIET) ∷ []) (λ r. Booting) (λ r. Booting) (
  (λ e. let bad : ⊥ = cc in bad),
  ((λ e. let bad : ⊥ = cc in bad), tt),
) (quiets x (on_port q past) (all q has))
    (λ r n h b. quiets_aside x (on_port r past) b) all

boots_list : (ports : List Port) (x : ℕ) (past : NodePast) → Ranged (length past.ports) ports → AllPorts (λ r. Booting) x past →
    AllPorts (λ r. Booting) x (spread x past (for_ports boots_on ports x past))
unfolding for_ports nothing_at_all ◌and_then◌
boots_list [] x past ranged all = all
boots_list (q ∷ rest) x past ranged all =
    let first = boots_on q x past in
    subst (λ z. AllPorts (λ r. Booting) x z) (sym (spread_append x past first (for_ports boots_on rest x (spread x past first))))
    (boots_list rest x (spread x past first) ranged.1 (boots_one q x past ranged.0 all))

boot_ends : (x : ℕ) (past : Past) → Booting x past → Ended x past
boot_ends x past b = (boot_rests x past b, untaken_heeds past.peers past.seen b.fresh.took.0)

-- a boot keeps what is known of each port
pub boots_all_lead : LeadsAll (AllPorts (λ r. Fresh)) boots_all (AllPorts (λ r. Ended))
unfolding boots_all on puts reading_all ◌and_then◌
boots_all_lead = record {
  run = λ x past all.
      let first = placed first_port (Boot ∷ []) in
      let mid = spread x past first in
      let boot : AllPorts (λ r. Booting) x mid = λ r has.
      subst (λ b. Booting x (record (on_port r past) { seen = seen_as b (line_of past.step x first_port (Acts Boot)).did ∷ view r past.lines }))
      (sym (or_right (first_port.0 == r.0) true refl)) (booted x (on_port r past) (all r has)) in
      let rest = for_ports boots_on (ports_from 0 past.ports) x mid in
      let end = boots_list (ports_from 0 past.ports) x mid (ranged_from (length past.ports) 0 past.ports (omega arith)) boot in
      λ r has. boot_ends x (on_port r (spread x past (placed first_port (Boot ∷ []) ++ rest)))
      (subst (λ z. Booting x (on_port r z)) (sym (spread_append x past first rest)) (end r has));
}

-- a step begins at a later tick
pub begins_all : (step : Step) (x y : ℕ) (past : NodePast) → x ≤ y → ((q : Port) → q.0 < length past.ports → (port_setup q past).own.0 ≡ step.node) →
    AllPorts (λ r. Ended) x past → AllPorts (λ r. Fresh) y (in_node_step step y past)
begins_all step x y past later own all q has =
    subst (λ b. Fresh y (record (on_port q past) { step = step; seen = seen_as b (line_of step y first_port Begins).did ∷ view q past.lines }))
    (sym (or_right (first_port.0 == q.0) true refl)) (begins_fresh step x y (on_port q past) later (own q has) (all q has))

given_on : (m : NodeMakes) (x y : ℕ) (step : Step) (past : NodePast) → x ≤ y → ((q : Port) → q.0 < length past.ports → (port_setup q past).own.0 ≡ step.node) →
    IsGivenOn (length past.ports) m → AllPorts (λ r. Ended) x past →
    AllPorts (λ r. Ended) y (spread y (in_node_step step y past) (node_row_of m y (in_node_step step y past)))
given_on NodeBoots x y step past later own given all = boots_all_lead.run y (in_node_step step y past) (begins_all step x y past later own all)
given_on (NodeAnswers NodeTurn) x y step past later own given all = (answers_all_lead NodeTurn).run y (in_node_step step y past) (
  tt,
  begins_all step x y past later own all,
)
given_on (NodeAnswers (GotOn q from t)) x y step past later own given all = (answers_all_lead (GotOn q from t)).run y (in_node_step step y past) (
  given,
  begins_all step x y past later own all,
)

setup_ran : (hs : List NodeHappening) (past : NodePast) (q : Port) → setup_in (on_port q (node_ran hs past)) ≡ setup_in (on_port q past)
setup_ran [] past q = refl
setup_ran (h ∷ before) past q = setup_ran before past q

all_ran : (past : NodePast) (n : ℕ) (hs : List NodeHappening) → past.lines ≡ [] → ((q : Port) → q.0 < length past.ports → (port_setup q past).own.0 ≡ n) →
    NodeOrdered n (length past.ports) hs → AllPorts (λ r. Ended) (node_tick hs) (node_ran hs past)
all_ran past n [] e own o = λ r has. subst (λ l. Ended 0 (on_port r (record past { lines = l }))) (sym e) (nothing_done 0 (on_port r past))
all_ran past n (h ∷ before) e own o =
    let same = ports_ran before past in
    given_on h.makes (node_tick before) h.tick h.step (node_ran before past) o.0
    (λ q has. ap (λ ports. (port_setup q (record past { ports = ports })).own.0) same ∙ own q (subst (λ ports. q.0 < length ports) same has) ∙ sym o.1)
    (subst (λ ports. IsGivenOn (length ports) h.makes) (sym same) o.2)
    (all_ran past n before e own o.3)

-- a node that runs by the rules owes nothing on any port
pub nodes_fit : NodesFit
nodes_fit past n hs e own o q has =
    let r = all_ran past n hs e own o q (subst (λ ports. q.0 < length ports) (sym (ports_ran hs past)) has) in (
      subst (λ s. PortFits s (view q (node_ran hs past).lines)) (setup_ran hs past q) r.0.fits,
      subst (λ s. StepEnds s (view q (node_ran hs past).lines)) (setup_ran hs past q) (ends_of r),
    )
