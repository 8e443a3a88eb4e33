-- The lines up to the end of the event are its history.
use Rattle.std.proofs.Common.{◌≡◌, ◌-◌, ◌∙◌, ◌∷◌, subst, arith, List, length, take, rules}
use Rattle.tsp_audit.specs.{Looking.Grown, Looking.Looks, Remembered.HasLineRoom, Remembered.RememberedStands}
use Rattle.tsp_audit.proofs.{EventLemmas.room-less, ThroughLemmas.grown_next, ThroughLemmas.upto_below, ThroughLemmas.upto_is}
use Rattle.tsp_base.specs.Words.{HeaderValue, Line}
use Rattle.tsp_claims.specs.ClaimedHistory.{claimed}
use Rattle.tsp_history.specs.{Histories.history_of, declared.line.HistoryLine.HistoryLine}
use Rattle.tsp_audit.proofs.looking.look_at.Goals as goal

pub returns-then-lines-end : goal.returns-then-lines-end
returns-then-lines-end c header told claim before stand dated place from_is end_is event_is notes =
    let within = upto_below header told (claim ∷ before) c.lines-lines.result.now c.args.end (c.lines-lines.ensures.lines header told stand) place end_is in
    absurd (omega (arith, within))

pub returns : goal.returns
returns c header told claim before stand dated place from_is end_is event_is notes =
    let ns : List HistoryLine = c.lines-lines.result.now in
    let head : HeaderValue = c.header.result.now in
    let same : head ≡ header = c.header.ensures ∙ stand.header_is in
    let h : List Line = claimed header before in
    let grown = rw (← from_is) at (grown_next header told claim before dated place) in
    let is : history_of (take c.args.end ns) ≡ claimed header (claim ∷ before) = upto_is header told (claim ∷
    before) ns c.args.end (c.lines-lines.ensures.lines header told stand) place end_is in
    let spare : HasLineRoom c.saturating_sub.result c.make_room.new.self = search rules in
    let room : HasLineRoom (length (claimed header (claim ∷ before)) - c.args.from) c.make_room.new.self =
    (let sub : c.saturating_sub.result ≡ c.args.end - c.args.from = search rules in
    room-less (length (claimed header (claim ∷ before)) - c.args.from) c.saturating_sub.result c.make_room.new.self (omega (arith, sub, end_is)) spare) in
    let kept : RememberedStands c.args.premises header h c.make_room.new.self = c.make_room.ensures.stand c.args.premises header h notes in
    let event : c.args.event ≡ length (claim ∷ before) = omega (arith, event_is) in
    subst (λ (k : HeaderValue). history_of (take c.args.end ns) ≡ claimed k (claim ∷ before) →
    Grown (length k.nodes) h (claimed k (claim ∷ before)) c.args.from → HasLineRoom (length (claimed k (claim ∷ before)) - c.args.from) c.make_room.new.self
    → RememberedStands c.args.premises k h c.make_room.new.self →
    Looks c.args.premises k (claim ∷ before) h c.look.new.notes c.look.result) same (λ i g r n. c.look.ensures (claim ∷ before) h i event g r n) is grown room
    kept
