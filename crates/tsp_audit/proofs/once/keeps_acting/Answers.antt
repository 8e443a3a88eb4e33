use Rattle.std.proofs.Common.{◌≡◌, ◌<◌, ◌≤◌, ℕ, rules, arith, sym, subst₂, List, length, take, get_or, vec_len, vec_capacity}
use Rattle.std.proofs.lemmas.List.{take_all}
use Rattle.tsp_base.specs.Words.{Line}
use Rattle.tsp_history.specs.{Histories.line_of, Histories.history_of, declared.line.HistoryLine.HistoryLine}
use Rattle.tsp_audit.proofs.ActLemmas.{acted_next, acts_all, acts_part, takes_as}
use Rattle.tsp_audit.{proofs.Prefixes.at_line, proofs.Prefixes.one-more, specs.Acting.ActedIs, specs.Acting.ActsAt}
use Rattle.tsp_history.proofs.{HistoryLemmas.history_more, NoteLemmas.told_take}
use Rattle.tsp_audit.proofs.once.keeps_acting.Goals as goal

pub loop-i-init : goal.loop-i-init
loop-i-init c = (
  (λ room a. a),
  (λ setting has timely room a once. acts_all c.args.premises setting (history_of (take c.args.from c.args.lines.now)) once),
  (λ room. room),
)

pub returns-then-not-acts_once-clause-keeps : goal.returns-then-not-acts_once-clause-keeps
returns-then-not-acts_once-clause-keeps c setting has timely room a once all =
    let lines : List HistoryLine = c.args.lines.now in
    let i : ℕ = c.loop-i.i in
    let noted : HistoryLine = c.index-lines-i.result in
    let here : get_or lines i noted ≡ noted = sym c.index-lines-i.is in
    let slice : c.as_slice.result.now ≡ c.loop-i.acted.items = search rules in
    let acted = rw (← slice) at (c.loop-i.invariant.0 room a) in
    let takes = takes_as (line_of noted) (history_of (take i lines)) c.takes_send-send.result c.takes_send-send.ensures in
    let soon = at_line (λ l before. l.did.step.at ≤ 1000000000000000) lines i noted (omega arith) here timely in
    let bad = rw c.if-not-acts_once.true at (c.acts_once.ensures setting has soon acted takes) in
    bad (at_line (ActsAt c.args.premises setting) lines i noted (omega arith) here (acts_all c.args.premises setting (history_of lines) all))

pub loop-i-preserved : goal.loop-i-preserved
loop-i-preserved c =
    let lines : List HistoryLine = c.args.lines.now in
    let i : ℕ = c.loop-i.i in
    let lt : i < length lines = omega arith in
    let noted : HistoryLine = c.index-lines-i.result in
    let here : get_or lines i noted ≡ noted = sym c.index-lines-i.is in
    let slice : c.as_slice.result.now ≡ c.loop-i.acted.items = search rules in
    let takes = takes_as (line_of noted) (history_of (take i lines)) c.takes_send-send.result c.takes_send-send.ensures in (
      (λ room a.
          let spare : vec_len c.loop-i.acted < vec_capacity c.loop-i.acted = omega (arith, c.loop-i.invariant.2 room, lt) in
          subst₂ (λ (h : List Line) (xs : List ℕ). ActedIs h xs) (sym (history_more lines i noted lt here)) (sym (c.note.ensures.items spare))
          (acted_next (line_of noted) (history_of (take i lines)) c.loop-i.acted.items c.takes_send-send.result (c.loop-i.invariant.0 room a) takes)),
      (λ setting has timely room a once.
          let soon = at_line (λ l before. l.did.step.at ≤ 1000000000000000) lines i noted lt here timely in
          let acted = rw (← slice) at (c.loop-i.invariant.0 room a) in
          one-more (ActsAt c.args.premises setting) lines i noted lt here (rw c.if-not-acts_once.false at (c.acts_once.ensures setting has soon acted takes))
          (c.loop-i.invariant.1 setting has timely room a once)),
      (λ room. omega (arith, c.loop-i.invariant.2 room, c.note.ensures.len, c.note.ensures.capacity)),
    )

pub returns-clause-keeps : goal.returns-clause-keeps
returns-clause-keeps c setting has timely room a once =
    let all = rw (take_all c.loop-i.i c.args.lines.now (omega arith)) at (c.loop-i.invariant.1 setting has timely room a once) in
    acts_part c.args.premises setting (history_of c.args.lines.now) all

pub returns-clause-acted : goal.returns-clause-acted
returns-clause-acted c told room a = rw (take_all c.loop-i.i c.args.lines.now (omega arith)) at (c.loop-i.invariant.0 room a)

pub takes_send-send-requires : goal.takes_send-send-requires
takes_send-send-requires c = told_take c.args.lines.now c.loop-i.i c.requires.told

pub acts_once-requires-clause-told : goal.acts_once-requires-clause-told
acts_once-requires-clause-told c = told_take c.args.lines.now c.loop-i.i c.requires.told
