-- A slave that didn't acknowledge a correction leaves.
use Rattle.std.proofs.Common.{sym, ◌∙◌, ap, arith, length, refl, ◌≡◌, ℕ, true, false, List, [], ◌∷◌, ◌++◌}
use Rattle.std.proofs.lemmas.List.{length-append}
use Rattle.tsp_node.proofs.PartLemmas.{still_alike}
use Rattle.tsp_rules.specs.{Values.Leave, Values.Placed, Values.Kind, Values.PeerId, Values.Port, SendRows.leaves_after, Guards.is_slave_at}
use Rattle.tsp_base.specs.Words.{Past, Performs, in_table, grown, nothing, puts, is_correction}
use Rattle.tsp_base.proofs.PerformsLemmas.{Performs_else_part, Performs_nothing, Performs_then_part}
use Rattle.tsp_master.specs.{MasterStands.MasterStands, declared.master.Master.Master}
use Rattle.tsp_node.proofs.part.Part.give_up.Goals as goal

-- how a slave leaves whose correction is given up

-- a slave leaves
Performs_leaves : {x : ℕ} {port : Port} (p : PeerId) (k : Kind) {before after : Master} {old new : List Placed} → is_correction k ≡ true →
    ((past : Past) → MasterStands past before → in_table p past.seen ≡ true) →
    new ≡ old ++ record { port = port; act = Leave p } ∷ [] → ((past : Past) → MasterStands past before → MasterStands (grown x past (Leave p ∷ [])) after) →
    Performs MasterStands MasterStands (leaves_after p k) x port before after old new
unfolding leaves_after puts
Performs_leaves p k e t put stands = rw e (Performs_then_part (is_slave_at p) nothing t (record { acts = λ past h. put; stands = stands }))

-- who is no slave doesn't
Performs_stays : {x : ℕ} {port : Port} (p : PeerId) (k : Kind) {before : Master} {old : List Placed} → is_correction k ≡ true →
    ((past : Past) → MasterStands past before → in_table p past.seen ≡ false) →
    Performs MasterStands MasterStands (leaves_after p k) x port before before old old
unfolding leaves_after
Performs_stays p k e t = rw e (Performs_else_part (is_slave_at p) (puts (Leave p)) t Performs_nothing)

-- nor does a peer whose send didn't correct
Performs_other : {x : ℕ} {port : Port} (p : PeerId) (k : Kind) {before : Master} {old : List Placed} → is_correction k ≡ false →
    Performs MasterStands MasterStands (leaves_after p k) x port before before old old
unfolding leaves_after
Performs_other p k e = rw e Performs_nothing

pub returns-then-not-is_correction-clause-row : goal.returns-then-not-is_correction-clause-row
returns-then-not-is_correction-clause-row g c x = Performs_other c.args.peer c.args.kind (sym c.is_correction.ensures ∙ c.if-not-is_correction.true)

pub returns-then-leave-clause-row : goal.returns-then-leave-clause-row
returns-then-leave-clause-row g c x =
    Performs_leaves c.args.peer c.args.kind (sym c.is_correction.ensures ∙ c.if-not-is_correction.false) (λ past h. c.leave.ensures.table past h ∙
    c.if-leave.true) c.put.ensures.acts (λ past h. c.leave.ensures.stands c.if-leave.true x past h)

pub returns-else-leave-clause-row : goal.returns-else-leave-clause-row
returns-else-leave-clause-row g c x =
    let same = c.leave.ensures.same c.if-leave.false in
    rw same (Performs_stays c.args.peer c.args.kind (sym c.is_correction.ensures ∙ c.if-not-is_correction.false) (λ past h. c.leave.ensures.table past h ∙
    c.if-leave.false))

pub put-requires : goal.put-requires
put-requires g c = omega (arith, c.requires.room)

pub returns-then-not-is_correction-clause-room : goal.returns-then-not-is_correction-clause-room
returns-then-not-is_correction-clause-room g c = record { spare = omega arith; few = omega arith }

pub returns-then-leave-clause-room : goal.returns-then-leave-clause-room
returns-then-leave-clause-room g c = let one = ap length c.put.ensures.acts ∙ length-append (g.D.Desk.acts c.args.desk.now) _ in
    record { spare = omega (arith, c.put.ensures.spare); few = omega (arith, one) }

pub returns-else-leave-clause-room : goal.returns-else-leave-clause-room
returns-else-leave-clause-room g c = record { spare = omega arith; few = omega arith }

pub invariant_of-self : goal.invariant_of-self
invariant_of-self g c = still_alike c.args.self.now c.leave.ensures.peers refl refl refl
