-- A near difference is adjusted, a far one set, and who never answered leaves.
use Rattle.std.proofs.Common.{◌≡◌, ◌-ℤ◌, Some, None, true, false, refl, sym, ◌∙◌, ap, w64, to_z, of_z, to_z-of_z, SFits, rules}
use Rattle.std.specs.Option.{option_map}
use Rattle.tsp_base.specs.Words.{puts}
use Rattle.tsp_rules.specs.{RoundRows.corrects_by, RoundRows.corrects_peer, RoundRows.is_near, Values.Leave}
use Rattle.tsp_rules.proofs.Emits.{Emits_puts}
use Rattle.tsp_measure.specs.{Measures.best_of, Rounds.estimate_in, Rounds.measured_with}
use Rattle.tsp_master.proofs.{CloseLemmas.MasterStands_leaves, CloseLemmas.estimate-sample, RoomLemmas.put_once}
use Rattle.tsp_master.{proofs.LeadLemmas.Performs_idle, proofs.LeadLemmas.Performs_lead, specs.Closing.estimate_with}
use Rattle.tsp_master.proofs.master.Master.correct_peer.Goals as goal

pub returns-in-None-clause-row : goal.returns-in-None-clause-row
unfolding corrects_peer corrects_by puts
returns-in-None-clause-row g c =
    let is : estimate_with c.args.self.now.rounds c.args.peer ≡ None = estimate-sample (best_of (measured_with c.args.self.now.rounds c.args.peer).samples) ∙
    ap (option_map estimate_in) (sym c.in-None.ensures) in
    rw is (Performs_lead _ _ c.args.clock.now (Emits_puts (Leave c.args.peer) refl) (λ past h. MasterStands_leaves c.args.peer c.args.at.tick past _ _
    c.leave.ensures.entries c.leave.ensures.peers refl h.master)
    (Performs_idle (Leave c.args.peer) refl c.put.ensures.acts))

pub returns-then-is_near-clause-row : goal.returns-then-is_near-clause-row
unfolding corrects_peer corrects_by
returns-then-is_near-clause-row g c =
    let is : estimate_with c.args.self.now.rounds c.args.peer ≡ Some (estimate_in c.in-Some.best) =
    estimate-sample (best_of (measured_with c.args.self.now.rounds c.args.peer).samples) ∙ ap (option_map estimate_in) (sym c.in-Some.ensures) in
    let diff = c.in-Some.best.diff in
    let fits : SFits w64 diff = search rules in
    let back : to_z w64 (of_z w64 diff) ≡ diff = to_z-of_z fits in
    let back_mean : to_z w64 (of_z w64 c.args.mean) ≡ c.args.mean = to_z-of_z c.ranges.mean in
    let near : is_near diff ≡ true = rw back at (sym c.is_near.ensures ∙ c.if-is_near.true) in
    let amount : c.amount-amount.result ≡ c.args.mean -ℤ diff = rw (back_mean, back) at c.amount-amount.ensures in
    let begun = c.begin_adjtime.ensures.row c.args.clock.now in
    rw (is, near) (rw amount at begun)

pub returns-else-is_near-clause-row : goal.returns-else-is_near-clause-row
unfolding corrects_peer corrects_by
returns-else-is_near-clause-row g c =
    let is : estimate_with c.args.self.now.rounds c.args.peer ≡ Some (estimate_in c.in-Some.best) =
    estimate-sample (best_of (measured_with c.args.self.now.rounds c.args.peer).samples) ∙ ap (option_map estimate_in) (sym c.in-Some.ensures) in
    let diff = c.in-Some.best.diff in
    let fits : SFits w64 diff = search rules in
    let back : to_z w64 (of_z w64 diff) ≡ diff = to_z-of_z fits in
    let far : is_near diff ≡ false = rw back at (sym c.is_near.ensures ∙ c.if-is_near.false) in
    rw (is, far) c.begin_settime.ensures.row

pub returns-in-None-clause-room : goal.returns-in-None-clause-room
returns-in-None-clause-room g c = put_once 0 0 _ c.put.ensures.spare c.put.ensures.acts
