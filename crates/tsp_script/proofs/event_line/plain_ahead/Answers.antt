use Rattle.std.proofs.Common.{◌∙◌, ◌++◌, ◌∷◌, List, ℕ, [], ap, length, arith, length-append}
use Rattle.tsp_base.specs.Words.{event_in}
use Rattle.tsp_script.specs.Schedules.{event_text}
use Rattle.tsp_script.proofs.PlainLines.{no_feed_plain, octets_passed, plain_spells}
use Rattle.tsp_script.proofs.event_line.plain_ahead.Goals as goal

pub returns : goal.returns
returns c =
    let f = c.in_ok-plain.ensures.found in
    let line = event_text (event_in c.in_ok-plain.plain) [] in
    let e = f.3 ∙ ap (λ (x : List ℕ). line ++ x) c.in_ok-rest.ensures in
    let p = octets_passed c.args.octets.now line c.in_ok-rest.rest.now _ e (omega (arith, ap length e, length-append line (10 ∷ c.in_ok-rest.rest.now))) in
    (f.0, (line, no_feed_plain c.in_ok-plain.plain f.0 f.1, p.0, p.1, plain_spells c.in_ok-plain.plain f.0 f.1))
