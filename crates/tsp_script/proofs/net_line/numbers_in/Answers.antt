use Rattle.std.proofs.Common.{rules, arith, ap, length, length-append, ◌++◌, decimal}
use Rattle.std.proofs.lemmas.Bool.{false≢true}
use Rattle.tsp_script.specs.Schedules.{numbers_text}
use Rattle.tsp_script.proofs.NetLines.{All_small, all_read, first_read, next_read, next_there, no_first, no_next, text_more}
use Rattle.tsp_script.proofs.net_line.numbers_in.Goals as goal

pub loop-rest-init : goal.loop-rest-init
loop-rest-init c =
    let found = c.in_ok-first.ensures.found in
    rw (c.push.ensures.items, c.new-numbers.ensures) (record {
      reads = λ ns h e. first_read ns c.args.text.now c.in_ok-first.behind.now c.in_ok-first.first h e found.0 found.1 found.2;
      text = search rules;
      some = omega arith;
      small = search rules;
    })

pub returns-in_err-first-clause-reads : goal.returns-in_err-first-clause-reads
returns-in_err-first-clause-reads c = λ ns h e. absurd (no_first ns c.args.text.now h e c.in_err-first.ensures.none)

pub returns-in_err-next-clause-reads : goal.returns-in_err-next-clause-reads
returns-in_err-next-clause-reads c = λ ns h e.
    let t = next_there ns c.loop-rest.numbers.items c.loop-rest.rest.now h.small (search rules) (c.loop-rest.invariant.reads ns h e) in
    absurd (c.in_err-next.ensures (decimal t.0 ++ numbers_text t.1) t.4)

pub returns-in_err-number-clause-reads : goal.returns-in_err-number-clause-reads
returns-in_err-number-clause-reads c = λ ns h e.
    absurd (no_next ns c.loop-rest.numbers.items c.loop-rest.rest.now c.in_ok-next.next.now h.small (search rules) (c.loop-rest.invariant.reads ns h e)
    c.in_ok-next.ensures c.in_err-number.ensures.none)

pub loop-rest-preserved : goal.loop-rest-preserved
loop-rest-preserved c =
    let inv = c.loop-rest.invariant in
    let found = c.in_ok-number.ensures.found in
    let more = c.in-Ok.ensures.ok in
    record {
      reads = λ ns h e. next_read ns c.loop-rest.numbers.items _ c.loop-rest.rest.now c.in_ok-next.next.now c.in_ok-number.behind.now c.in_ok-number.number
          h.small (search rules) (inv.reads ns h e) c.in_ok-next.ensures found.0 found.1 found.2 more;
      text = text_more c.args.text.now c.loop-rest.numbers.items _ c.loop-rest.rest.now c.in_ok-next.next.now c.in_ok-number.behind.now c.in_ok-number.number
          inv.some inv.text c.in_ok-next.ensures found.2 more;
      some = search rules;
      small = rw more (All_small c.loop-rest.numbers.items c.in_ok-number.number inv.small found.0);
    }

pub returns-in_default-clause-reads : goal.returns-in_default-clause-reads
returns-in_default-clause-reads c = λ ns h e.
    let t = next_there ns c.loop-rest.numbers.items c.loop-rest.rest.now h.small (search rules) (c.loop-rest.invariant.reads ns h e) in
    absurd (false≢true (c.in_default.ensures.variant.1 (omega (arith, t.5, h.few))))

pub loop-rest-smaller : goal.loop-rest-smaller
loop-rest-smaller c =
    omega (
      arith,
      ap length c.in_ok-next.ensures,
      ap length c.in_ok-number.ensures.found.2,
      length-append (decimal c.in_ok-number.number) c.in_ok-number.behind.now,
    )

pub returns-clause-reads : goal.returns-clause-reads
returns-clause-reads c = λ ns h e. all_read ns c.loop-rest.numbers.items c.loop-rest.rest.now (c.loop-rest.invariant.reads ns h e) (search rules)
