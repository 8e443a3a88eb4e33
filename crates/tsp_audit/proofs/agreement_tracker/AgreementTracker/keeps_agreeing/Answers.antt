use Rattle.std.proofs.Common.{◌≡◌, ◌<◌, ◌≤◌, ℕ, arith, List, length, get_or, vec_len, vec_capacity, sym}
use Rattle.std.proofs.lemmas.List.{take_all}
use Rattle.tsp_promises.{proofs.shared.EverywhereLemmas.Everywhere_within, specs.Agreed.AgreedAt, specs.Fits.node_of}
use Rattle.tsp_history.specs.{Histories.history_of, declared.line.HistoryLine.HistoryLine}
use Rattle.tsp_audit.specs.Agreeing.{SettledAt}
use Rattle.tsp_audit.proofs.{Prefixes.at_line, Prefixes.one-more, SettleLemmas.agreement_settled, SettleLemmas.still_settled}
use Rattle.tsp_history.proofs.HistoryLemmas.{Within_noted, history_more}
use Rattle.tsp_audit.proofs.agreement_tracker.AgreementTracker.keeps_agreeing.Goals as goal

pub loop-i-init : goal.loop-i-init
loop-i-init c = ((λ count room a. a), (λ setting count has timely numbered room a settled agreed. agreed), (λ room. room), (λ settled. settled))

pub returns-then-not-agrees-clause-keeps : goal.returns-then-not-agrees-clause-keeps
returns-then-not-agrees-clause-keeps c setting count has timely numbered room a settled agreed all =
    let lines : List HistoryLine = c.args.lines.now in
    let i : ℕ = c.loop-i.i in
    let lt : i < length lines = omega arith in
    let noted : HistoryLine = c.index-lines-i.result in
    let here : get_or lines i noted ≡ noted = sym c.index-lines-i.is in
    let spare : vec_len c.loop-i.self.trips < vec_capacity c.loop-i.self.trips = omega (arith, c.loop-i.invariant.2 room, lt) in
    let is = rw (history_more lines i noted lt here) at (c.note.ensures.agreement count spare (c.loop-i.invariant.0 count room a)) in
    let below = Everywhere_within (λ l before. node_of l < count) _ (history_of lines) numbered (Within_noted lines i noted lt here) in
    let soon = at_line (λ l before. l.did.step.at ≤ 1000000000000000) lines i noted lt here timely in
    let now = c.settled_by-settled.ensures
    (still_settled c.args.header.now noted c.loop-i.settled c.settled_after.result c.loop-i.self.nodes.items c.note.new.self.nodes.items
    c.settled_after.ensures (c.note.ensures.same noted here) (c.loop-i.invariant.3 settled)) in
    let bad = rw c.if-not-agrees.true at (c.agrees.ensures setting count has soon below is now) in
    bad (at_line (AgreedAt setting) lines i noted lt here all)

pub loop-i-preserved : goal.loop-i-preserved
loop-i-preserved c =
    let lines : List HistoryLine = c.args.lines.now in
    let i : ℕ = c.loop-i.i in
    let lt : i < length lines = omega arith in
    let noted : HistoryLine = c.index-lines-i.result in
    let here : get_or lines i noted ≡ noted = sym c.index-lines-i.is in
    let now = λ (settled : SettledAt c.args.header.now c.args.self.now.settled c.args.self.now.nodes.items). c.settled_by-settled.ensures
    (still_settled c.args.header.now noted c.loop-i.settled c.settled_after.result c.loop-i.self.nodes.items c.note.new.self.nodes.items
    c.settled_after.ensures (c.note.ensures.same noted here) (c.loop-i.invariant.3 settled)) in (
      (λ count room a. c.note.ensures.agreement count (omega (arith, c.loop-i.invariant.2 room, lt)) (c.loop-i.invariant.0 count room a)),
      (λ setting count has timely numbered room a settled agreed.
          let spare : vec_len c.loop-i.self.trips < vec_capacity c.loop-i.self.trips = omega (arith, c.loop-i.invariant.2 room, lt) in
          let is = rw (history_more lines i noted lt here) at (c.note.ensures.agreement count spare (c.loop-i.invariant.0 count room a)) in
          let below = Everywhere_within (λ l before. node_of l < count) _ (history_of lines) numbered (Within_noted lines i noted lt here) in
          let soon = at_line (λ l before. l.did.step.at ≤ 1000000000000000) lines i noted lt here timely in
          let good = rw c.if-not-agrees.false at (c.agrees.ensures setting count has soon below is (now settled)) in
          one-more (AgreedAt setting) lines i noted lt here good (c.loop-i.invariant.1 setting count has timely numbered room a settled agreed)),
      (λ room. omega (arith, c.loop-i.invariant.2 room, lt, c.note.ensures.len, c.note.ensures.capacity)),
      now,
    )

pub returns : goal.returns
returns c = record {
  keeps = λ setting count has timely numbered room a settled agreed. rw (take_all c.loop-i.i c.args.lines.now (omega arith)) at
      (c.loop-i.invariant.1 setting count has timely numbered room a settled agreed);
  agreement = λ count told room a.
      agreement_settled count (history_of c.args.lines.now) c.loop-i.self c.loop-i.settled
      (rw (take_all c.loop-i.i c.args.lines.now (omega arith)) at (c.loop-i.invariant.0 count room a));
  settled = λ held settled. c.loop-i.invariant.3 settled;
}
