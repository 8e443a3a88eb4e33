-- Part by part.
use Rattle.std.proofs.Common.{◌≡◌, rules, subst, to_z, of_z, w64}
use Rattle.tsp_io.specs.Origins.{CanRetune}
use Rattle.tsp_io.proofs.OriginLemmas.{retuned_is}
use Rattle.tsp_io.proofs.origin.Origin.retuned.Goals as goal

pub returns-then-can_retune : goal.returns-then-can_retune
returns-then-can_retune c =
    let rate : to_z w64 (of_z w64 c.args.rate) ≡ c.args.rate = search rules in
    let nanos : to_z w64 (of_z w64 c.nanos_after.result) ≡ c.nanos_after.result = search rules in
    let before : to_z w64 (of_z w64 c.args.self.now.nanos) ≡ c.args.self.now.nanos = search rules in
    let own : to_z w64 (of_z w64 c.args.self.now.rate) ≡ c.args.self.now.rate = search rules in
    let can = subst (λ r. CanRetune c.args.tick r c.args.self.now) rate (c.can_retune.ensures.0 c.if-can_retune.true) in
    rw (rate, nanos) (retuned_is c.args.tick c.args.rate c.nanos_after.result c.args.self.now _ _ can (rw (own) at c.speed_of.ensures.value)
    c.reach-since.ensures.value
    (rw (before) at c.nanos_after.ensures))
