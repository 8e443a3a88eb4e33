-- What the clock shows is its wall, its corrections and its tick.
use Rattle.std.proofs.Common.{◌≡◌, ◌∙◌, ◌+ℤ◌, ◌-ℤ◌, ap, subst, sym, rules, to_z, of_z, ℤ}
use Rattle.std.specs.Int.{w64, w128}
use Rattle.tsp_audit.proofs.NearLemmas.{sums_same}
use Rattle.tsp_base.specs.Words.{tick_at}
use Rattle.tsp_history.specs.Clocks.{IsSumOf}
use Rattle.tsp_run.specs.Setup.{node_line}
use Rattle.tsp_audit.proofs.standing.stand_of.Goals as goal

pub returns : goal.returns
returns c soon =
    let m = c.args.a.now.moved in
    let line = node_line c.args.header.now c.args.node in
    let same-m : to_z w128 (of_z w128 m) ≡ m = search rules in
    let same-b : to_z w128 (of_z w128 c.bounded.result) ≡ c.bounded.result = search rules in
    let same : to_z w128 (of_z w128 c.add-clock.result) ≡ c.add-clock.result = search rules in
    let rate = c.clock_of-rate.ensures.rate in
    let at : ℤ = to_z w128 (of_z w128 c.add-clock.result) in
    let by : ℤ = to_z w128 (of_z w128 c.reach_of-reach.result) in
    let same-r : by ≡ c.reach_of-reach.result = search rules in
    record {
      clock_is = λ sum.
          (let moved : c.bounded.result ≡ m = c.bounded.ensures.same (subst (λ (z : ℤ). IsSumOf 4294967295 z) (sym same-m) sum) ∙ same-m in
          let wall : to_z w64 (of_z w64 c.clock_of-rate.result.1) ≡ line.wall = (let w : to_z w64 (of_z w64 c.clock_of-rate.result.1) ≡
          c.clock_of-rate.result.1 = search rules in w ∙ c.clock_of-rate.ensures.wall) in
          let tick : c.tick_of.result ≡ tick_at line.rate c.args.at = search rules in
          same ∙ (c.add-clock.ensures.sum ∙ sums_same _ _ _ _ _ _ wall (same-b ∙ moved) tick));
      low_is = λ x is.
          (let whole : to_z w128 (of_z w128 (at -ℤ by)) ≡ at -ℤ by = search rules in whole ∙
          ap (λ (z : ℤ). at -ℤ z) (same-r ∙ c.reach_of-reach.ensures.reach soon x is));
      high_is = λ x is.
          (let whole : to_z w128 (of_z w128 (at +ℤ by)) ≡ at +ℤ by = search rules in whole ∙
          ap (λ (z : ℤ). at +ℤ z) (same-r ∙ c.reach_of-reach.ensures.reach soon x is));
    }
