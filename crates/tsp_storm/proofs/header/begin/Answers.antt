-- Each line joins the header, as long as there is memory.
use Rattle.std.proofs.Common.{◌≡◌, ◌∙◌, ap, arith, length, subst, add-one, ◌<◌, ◌≤◌, ℕ, [], false, Err}
use Rattle.tsp_base.specs.Words.{HeaderValue, Pushes}
use Rattle.tsp_script.specs.Storms.{StormValue, storm_named}
use Rattle.tsp_storm.specs.Schedules.{after_lines, storm_lines, generator_of}
use Rattle.tsp_storm.proofs.{Heads.joins_header, Heads.header_more, Mades.after_is, Mades.length_storm_lines}
use Rattle.tsp_storm.proofs.header.begin.Goals as goal

pub head-requires-clause-first : goal.head-requires-clause-first
head-requires-clause-first c = ap (λ v. v.given) c.loop.invariant.generator ∙ (after_is c.loop.counter (generator_of c.args.words.now)).given

pub head-requires-clause-more : goal.head-requires-clause-more
head-requires-clause-more c =
    let a = after_is c.loop.counter (generator_of c.args.words.now) in
    let named = ap (λ v. v.named) c.loop.invariant.generator ∙ a.named in
    let nodes = ap (λ v. v.nodes) c.loop.invariant.generator ∙ a.nodes in
    let more = c.loop-test.true in
    omega (arith, named, nodes, more)

few_lines : (header : HeaderValue) (n nodes : ℕ) (v : StormValue) → header ≡ record { drift = 100; strict = false; nodes = storm_lines n v; nets = [] } →
    n < nodes → nodes ≤ 64 → length header.nodes < 64
few_lines header n nodes v is more few = let same = ap (λ (h : HeaderValue). length h.nodes) is ∙ length_storm_lines n v in omega (arith, same, more, few)

pub unreachable-requires : goal.unreachable-requires
unreachable-requires c =
    joins_header c.loop.header c.push.new.self c.loop.storm c.in-Err.fault (ap (λ (h : HeaderValue). h.drift) c.loop.invariant.header)
    (few_lines c.loop.header c.loop.counter c.args.words.now.nodes (generator_of c.args.words.now) c.loop.invariant.header c.loop-test.true c.requires.nodes)
    c.in_default.not-OutOfMemory (subst (λ l. Pushes c.loop.header l (Err c.in-Err.fault) c.push.new.self) c.head.ensures.line c.in-Err.ensures)

pub loop-preserved : goal.loop-preserved
loop-preserved c = rw add-one (record {
  generator = c.head.ensures.after ∙ ap (λ v. storm_named v) c.loop.invariant.generator;
  header = header_more c.loop.header c.push.new.self c.head.result (generator_of c.args.words.now) c.loop.storm c.loop.counter c.in-Ok.ensures.2
      c.loop.invariant.header c.head.ensures.line c.loop.invariant.generator;
})

pub returns : goal.returns
returns c =
    let all : c.loop.counter ≡ c.args.words.now.nodes = (let low = c.loop-test.false in let high = c.loop.auto.counter-end in omega (arith, low, high)) in
    record {
      header = c.loop.invariant.header ∙ ap (λ (n : ℕ). record {
        drift = 100;
        strict = false;
        nodes = storm_lines n (generator_of c.args.words.now);
        nets = [];
      }) all;
      generator = c.loop.invariant.generator ∙ ap (λ (n : ℕ). after_lines n (generator_of c.args.words.now)) all;
    }
