-- The claims were joined by the event's step.
use Rattle.tsp_claims.{proofs.StandLemmas.ClaimsStand_taken, specs.ClaimedHistory.step_at, specs.Listed.up_in}
use Rattle.tsp_claims.proofs.claims.Claims.take_in.Goals as goal

pub returns-clause-taken : goal.returns-clause-taken
returns-clause-taken c header claims s =
    let self = c.args.self.now in
    let step = step_at self.header self.posts.items (up_in self.up.items) c.args.e.now in
    ClaimsStand_taken header claims c.args.e.now c.args.acts.now c.in_ok-held.held self c.make_room.new.self c.join.new.self c.make_room.ensures.same
    c.join.ensures (c.in_ok-held.ensures self.header step c.requires.step) s
