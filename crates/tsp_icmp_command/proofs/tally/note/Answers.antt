use Rattle.std.proofs.Common.{◌≡◌, ◌∙◌, sym, arith, Some, None, position}
use Rattle.std.specs.Str.{bytes_eq}
use Rattle.tsp_icmp_command.proofs.BestLemmas.{note_replaces, note_keeps, note_adds}
use Rattle.tsp_icmp_command.proofs.tally.note.Goals as goal

pub returns-then-trip-clause-ok : goal.returns-then-trip-clause-ok
returns-then-trip-clause-ok c =
    let p : position (λ b. bytes_eq b.name c.name.result.now) c.as_slice.result.now ≡ Some c.in-Some.place = sym c.in-Some.ensures in
    sym (note_replaces c.args.bests.now.items c.args.later c.index.result.now c.in-Some.place (rw (c.name.ensures, c.as_slice.ensures.value) at p)
    c.index.ensures (omega (arith, c.trip.ensures, c.trip-in-Some.ensures, c.if-trip.true)))

pub returns-else-trip-clause-ok : goal.returns-else-trip-clause-ok
returns-else-trip-clause-ok c =
    let p : position (λ b. bytes_eq b.name c.name.result.now) c.as_slice.result.now ≡ Some c.in-Some.place = sym c.in-Some.ensures in
    sym (note_keeps c.args.bests.now.items c.args.later c.index.result.now c.in-Some.place (rw (c.name.ensures, c.as_slice.ensures.value) at p) c.index.ensures
    (omega (arith, c.trip.ensures, c.trip-in-Some.ensures, c.if-trip.false)))

pub returns-in_ok-push-in-None-clause-ok : goal.returns-in_ok-push-in-None-clause-ok
returns-in_ok-push-in-None-clause-ok c =
    let p : position (λ b. bytes_eq b.name c.name.result.now) c.as_slice.result.now ≡ None = sym c.in-None.ensures in
    c.in_ok-push-in-None.ensures.items ∙ sym (note_adds c.args.bests.now.items c.args.later (rw (c.name.ensures, c.as_slice.ensures.value) at p))
