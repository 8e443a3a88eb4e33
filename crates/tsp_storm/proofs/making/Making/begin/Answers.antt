-- A schedule without events stands for itself.
use Rattle.std.proofs.Common.{◌∙◌, ap, arith, length, subst, []}
use Rattle.tsp_base.specs.Words.{HeaderValue}
use Rattle.tsp_script.specs.Storms.{StormValue}
use Rattle.tsp_storm.specs.Schedules.{generator_of}
use Rattle.tsp_storm.proofs.{Mades.length_storm_lines, Mades.made_is, Mades.whole_alone, Steps.stands_begins}
use Rattle.tsp_storm.proofs.making.Making.begin.Goals as goal
use Rattle.tsp_world.specs.WorldStands.{WorldStands}

pub new-requires-clause-some : goal.new-requires-clause-some
new-requires-clause-some c =
    let count = ap (λ (h : HeaderValue). length h.nodes) c.in_ok-begun.ensures.header ∙
    length_storm_lines c.args.words.now.nodes (generator_of c.args.words.now) in
    let some = c.requires.some in
    omega (arith, count, some)

pub new-requires-clause-whole : goal.new-requires-clause-whole
new-requires-clause-whole c = whole_alone c.in_ok-begun.begun.header (ap (λ (h : HeaderValue). h.nets) c.in_ok-begun.ensures.header)

pub returns : goal.returns
returns c = record {
  stands = stands_begins c.args.words.now c.in_ok-begun.begun.storm c.in_ok-world.world c.new-2.result c.requires c.in_ok-begun.ensures.generator
      (subst (λ (h : HeaderValue). WorldStands h [] c.in_ok-world.world) c.in_ok-begun.ensures.header c.in_ok-world.ensures);
  none = ap (λ (v : StormValue). v.given) c.in_ok-begun.ensures.generator ∙ (made_is c.args.words.now c.requires 0).count;
}
