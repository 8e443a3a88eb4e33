use Rattle.std.proofs.Common.{◌≡◌, ◌+◌, ◌∷◌, ◌++◌, ◌∙◌, [], ℤ, List, rules, arith, sym, ap, subst, take, to_z, of_z}
use Rattle.tsp_base.specs.Words.{Line}
use Rattle.tsp_audit.specs.{Agreeing.AgreementIs, declared.agreement_tracker.AgreementTracker.AgreementTracker}
use Rattle.tsp_audit.proofs.{AgreementSteps.agreement_next, SampleLemmas.history_length}
use Rattle.tsp_history.{proofs.HistoryLemmas.history_more, proofs.NoteLemmas.told_take, specs.declared.line.HistoryLine.HistoryLine}
use Rattle.std.{proofs.lemmas.List.get_or_default, specs.Int.w128}
use Rattle.tsp_history.specs.Histories.{history_of, line_of}
use Rattle.tsp_audit.proofs.agreement_tracker.AgreementTracker.note.Goals as goal

pub returns-clause-agreement : goal.returns-clause-agreement
returns-clause-agreement c count spare is =
    let lines = c.args.lines.now in
    let i = c.args.index in
    let noted : HistoryLine = c.index-lines-index.result in
    let h = history_of (take i lines) in
    let more : history_of (take (i + 1) lines) ≡ line_of noted ∷ h = history_more lines i noted c.requires.below (sym c.index-lines-index.is) in
    let slice : c.as_slice.result.now ≡ c.args.self.now.trips.items = search rules in
    let tell = rw (← slice) at is.trips_tell in
    let same : to_z w128 (of_z w128 c.trip_of-trip.result) ≡ c.trip_of-trip.result = search rules in
    let trips = c.note_trip.ensures.items spare ∙ ap (λ (z : ℤ). c.args.self.now.trips.items ++ z ∷ []) (same ∙ c.trip_of-trip.ensures.trip) in
    let last = c.newest-self.ensures h (sym (history_length lines i (omega (arith, c.requires.below)))) is.last_is in
    let nodes = c.note_node.ensures.nodes more tell is.last_is is.nodes_are in
    let new : AgreementTracker = record {
      trips = c.note_trip.new.trips;
      last = c.newest-self.result;
      nodes = c.note_node.new.nodes;
      settled = c.args.self.now.settled;
    } in
    subst (λ (k : List Line). AgreementIs count k new) (sym more) (agreement_next count h (line_of noted) c.args.self.now new is trips last nodes
    c.note_node.ensures.many)

pub trip_of-trip-requires-clause-told : goal.trip_of-trip-requires-clause-told
trip_of-trip-requires-clause-told c = told_take c.args.lines.now c.args.index c.requires.told

pub note_node-requires-clause-told : goal.note_node-requires-clause-told
note_node-requires-clause-told c = told_take c.args.lines.now _ c.requires.told

pub note_node-requires-clause-past : goal.note_node-requires-clause-past
note_node-requires-clause-past c = told_take c.args.lines.now c.args.index c.requires.told

pub returns-clause-same : goal.returns-clause-same
returns-clause-same c line at quiet =
    let one = sym at ∙ (get_or_default c.args.lines.now c.args.index line c.index-lines-index.result c.requires.below ∙ sym c.index-lines-index.is) in
    c.note_node.ensures.same (rw one at quiet)
