-- What a node takes on one of its ports.
use Rattle.std.specs.Prelude.{◌≡◌, ℕ, Bool, true, false, if◌then◌else◌, List, Some, slice_get, refl}
use Rattle.std.proofs.Math.ListN.{set}
use Rattle.tsp_rules.specs.Values.{Took, Placed, Message, Taken, Good, Kind, LoopKind, Place, Port}
use Rattle.tsp_base.specs.Words.{Past, MessageValue, Performs, nothing, puts, sets_date}
use Rattle.tsp_rules.specs.{Answers.takes, Answers.handles, Guards.is_own, NodePerforms.PerformsAll, RoundRows.corrects}
use Rattle.tsp_rules.specs.GateRows.{in_charge, steers, stirred_ports, takes_kind, takes_loop, takes_message, takes_on}
use Rattle.tsp_rules.specs.NodeRows.{NodePast, abandons_on, for_ports, on, on_port, reading_all, stirring}
use Rattle.tsp_rules.proofs.Emits.{is_part, Emits, Emits_either, Emits_nothing, Emits_puts, Emits_then}
use Rattle.tsp_node.{proofs.TakeEmits.emits_takes, specs.NodeStands.TakeStands, specs.NodeStands.traced_with, specs.declared.part.Part.Part}
use Rattle.tsp_gateway.specs.{GateInputs.HoldsNoMessage, GatewayStands.GatewayStands, GatewayStands.port_at}
use Rattle.tsp_gateway.specs.{Untold.Untold, Untold.upset_ports, declared.gateway.Gateway.Gateway}
use Rattle.tsp_rules.proofs.{BuiltAnswers.built_handles, BuiltAnswers.taken_sorts, EmitsBuilt.emits_built, EmitsBuilt.nothing_taken}
use Rattle.tsp_rules.proofs.{EmitsStill.row_corrects_none, EmitsStill.still_sorts, Unchanged.place_unchanged}
use Rattle.tsp_gateway.proofs.LiftLemmas.{All_on, All_same, All_stirred, All_unstirred, take_stands}

-- the ports whose rounds a message may end
pub upset_are : (q : ℕ) (kind : Kind) (x : ℕ) (past : NodePast) → upset_ports (sets_date kind) (port_at q) x past ≡ stirred_ports (port_at q) kind past
upset_are q kind x past = by_case (sets_date kind) where
  by_case : (b : Bool) → upset_ports b (port_at q) x past ≡ (if b then upset_ports true (port_at q) x past else upset_ports false (port_at q) x past)
  by_case true = refl
  by_case false = refl

-- the same row by other names of what it reads
same_row : (q : Port) (from : Place) (t : Taken) (x : ℕ) (past : NodePast) (s s' c c' : Bool) (ports ports' : List Port) → s' ≡ s → c' ≡ c → ports ≡ ports' →
    stirring q ports (takes s c from t) x past ≡ stirring q ports' (takes s' c' from t) x past
same_row q from t x past s s' c c' ports ports' e f g = rw (e, f, g) refl

-- a message is taken that corrects
pub All_taken : {x : ℕ} {g h i : Gateway} {before : Part} {old mid new : List Placed} (after : Part) (q : ℕ) (steer charge : Bool) (from : Place)
    (m : MessageValue) →
    ((past : NodePast) → GatewayStands past g → (steers (port_at q) x past ≡ steer) × (in_charge (port_at q) x past ≡ charge)) → slice_get g.ports.items q ≡
    Some before → h.ports.items ≡ set g.ports.items q after →
    ((past : Past) → TakeStands past (traced_with before g.clock g.tracing) → corrects (takes steer charge from (Good (Message m)) x past) ≡ true) →
    Performs TakeStands TakeStands (takes steer charge from (Good (Message m))) x (port_at q) (traced_with before g.clock g.tracing)
    (traced_with after h.clock h.tracing) old mid →
    PerformsAll (Untold q x) GatewayStands (reading_all (upset_ports (sets_date m.kind) (port_at q)) (for_ports abandons_on)) x h i mid new →
    PerformsAll GatewayStands GatewayStands (takes_message (port_at q) from m) x g i old new
unfolding takes_message
All_taken {x} {g} {h} {i} {before} after q steer charge from m flags was is moves d upset =
    let row = takes steer charge from (Good (Message m)) in
    let moved = λ (past : NodePast) (w : GatewayStands past g). moves (on_port (port_at q) past) (take_stands q past g before was w) in
    All_same (takes_message (port_at q) from m) (λ past w. same_row (port_at q) from (Good (Message m)) x past steer (steers (port_at q) x past) charge
    (in_charge (port_at q) x past) (upset_ports (sets_date m.kind) (port_at q) x past) (stirred_ports (port_at q) m.kind past) (flags past w).0
    (flags past w).1 (upset_are q m.kind x past))
    (All_stirred {W = GatewayStands} q row (sets_date m.kind) moved
    (All_on {W = GatewayStands} {P = TakeStands} {Q = TakeStands} true before after (emits_takes steer charge from (Good (Message m))) moved is (λ past w. w)
    (λ past w. take_stands q past g before was w) (λ past t. t) d) upset)

-- a message is taken that doesn't
pub All_passed : {x : ℕ} {g h : Gateway} {before : Part} {old new : List Placed} (after : Part) (q : ℕ) (steer charge : Bool) (from : Place) (m : MessageValue)
    →
    ((past : NodePast) → GatewayStands past g → (steers (port_at q) x past ≡ steer) × (in_charge (port_at q) x past ≡ charge)) → slice_get g.ports.items q ≡
    Some before → h.ports.items ≡ set g.ports.items q after →
    ((past : Past) → TakeStands past (traced_with before g.clock g.tracing) → corrects (takes steer charge from (Good (Message m)) x past) ≡ false) →
    Performs TakeStands TakeStands (takes steer charge from (Good (Message m))) x (port_at q) (traced_with before g.clock g.tracing)
    (traced_with after h.clock h.tracing) old new → PerformsAll GatewayStands GatewayStands (takes_message (port_at q) from m) x g h old new
unfolding takes_message
All_passed {x} {g} {h} {before} after q steer charge from m flags was is stays d =
    let row = takes steer charge from (Good (Message m)) in
    let still = λ (past : NodePast) (w : GatewayStands past g). stays (on_port (port_at q) past) (take_stands q past g before was w) in
    All_same (takes_message (port_at q) from m) (λ past w. same_row (port_at q) from (Good (Message m)) x past steer (steers (port_at q) x past) charge
    (in_charge (port_at q) x past) (upset_ports (sets_date m.kind) (port_at q) x past) (stirred_ports (port_at q) m.kind past) (flags past w).0
    (flags past w).1 (upset_are q m.kind x past))
    (All_unstirred {W = GatewayStands} q row (sets_date m.kind) still
    (All_on {W = GatewayStands} {P = TakeStands} {Q = TakeStands} false before after (emits_takes steer charge from (Good (Message m))) still is (λ past w. w)
    (λ past w. take_stands q past g before was w) (λ past t. t) d))

-- what spells no message is taken
still_part : (t : Taken) → HoldsNoMessage t → is_part (taken_sorts t) still_sorts ≡ true
still_part (Good (Message m)) none = absurd none
still_part _ none = refl

other_emits : (from : Place) (t : Taken) → HoldsNoMessage t → Emits still_sorts (takes true true from t)
unfolding takes
other_emits from t none =
    Emits_then (puts (Took from t)) _ (Emits_puts (Took from t) refl)
    (Emits_either (is_own from) nothing (handles true true from t) Emits_nothing (emits_built (still_part t none)
    (built_handles true true from t (place_unchanged from) tt (nothing_taken t))))

-- it doesn't correct
pub other_still : (from : Place) (t : Taken) → HoldsNoMessage t → (x : ℕ) (past : Past) → corrects (takes true true from t x past) ≡ false
other_still from t none = row_corrects_none (other_emits from t none)

pub other_on : (q : Port) (from : Place) (t : Taken) → HoldsNoMessage t → on q (takes true true from t) ≡ takes_on q from t
unfolding takes_on
other_on q from (Good (Message m)) none = absurd none
other_on q from _ none = refl

-- a message that is no LOOP
pub message_on : (q : Port) (from : Place) (m : MessageValue) (kind : Kind) → (kind ≡ LoopKind → ⊥) → takes_message q from m ≡ takes_kind q from m kind
unfolding takes_kind
message_on q from m LoopKind n = absurd (n refl)
message_on q from m _ n = refl

pub loop_on : (q : Port) (from : Place) (m : MessageValue) → takes_loop q from m ≡ takes_kind q from m LoopKind
unfolding takes_kind
loop_on q from m = refl

pub message_taken_on : (q : Port) (from : Place) (m : MessageValue) → takes_kind q from m m.kind ≡ takes_on q from (Good (Message m))
unfolding takes_on
message_taken_on q from m = refl
