use Rattle.std.proofs.Common.{◌≡◌, ◌≤◌, ◌+◌, ◌-◌, ◌∙◌, ℕ, arith, ap, sym, subst, rules, List, ◌∷◌, length}
use Rattle.tsp_audit.proofs.EventLemmas.{acts_length, audit_refused, audit_with, found_more, grown_claims, longer_claims, notes_later, verdict_is, room-less}
use Rattle.tsp_audit.specs.{Looking.Finds, Looking.Grown, Remembered.HasLineRoom, Remembered.RememberedStands, Verdicts.IsVerdict}
use Rattle.tsp_audit.specs.declared.{premises.Premises.Premises, verdict.Verdict.Verdict}
use Rattle.tsp_rules.specs.Values.{Line2}
use Rattle.tsp_base.specs.Words.{HeaderValue, Line}
use Rattle.tsp_claims.specs.{ClaimedHistory.Claim, ClaimedHistory.claimed, Fitting.Fit, Fitting.acts_of, Listed.NamesNode}
use Rattle.tsp_claims.specs.Stands.{ClaimsStand, claim_of}
use Rattle.tsp_history.{proofs.NoteLemmas.length_history, specs.Histories.history_of, specs.declared.line.HistoryLine.HistoryLine}
use Rattle.tsp_audit.proofs.audit.Audit.event.Goals as goal

pub returns-in-Some : goal.returns-in-Some
returns-in-Some c premises header claims stands = (
  c.in-Some.ensures header claims stands.claims_stand,
  audit_with premises header claims c.args.self.now c.args.self.now.claims c.make_room.new.self stands stands.claims_stand
      (c.make_room.ensures.stand premises header (claimed header claims)),
)

pub returns-in-None : goal.returns-in-None
returns-in-None c premises header claims stands = (
  c.in-None.ensures header claims stands.claims_stand,
  audit_with premises header claims c.args.self.now c.args.self.now.claims c.make_room.new.self stands stands.claims_stand
      (c.make_room.ensures.stand premises header (claimed header claims)),
)

pub returns-in-Err : goal.returns-in-Err
returns-in-Err c premises header claims stands =
    audit_refused premises header claims c.args.e.now c.args.acts.now c.in-Err.fault c.args.self.now c.event.new.self c.make_room.new.self stands
    (c.in-Err.ensures header claims stands.claims_stand)
    (c.make_room.ensures.stand premises header (claimed header claims))

pub returns-in-Ok : goal.returns-in-Ok
returns-in-Ok c premises header claims stands =
    let acts : List Line2 = c.args.acts.now in
    let claim : Claim = claim_of c.args.e.now acts in
    let h : List Line = claimed header claims in
    let ns : List HistoryLine = c.lines-from.result.now in
    let taken : Fit header claims c.args.e.now acts × ClaimsStand header (claim ∷ claims) c.event.new.self =
    c.in-Ok.ensures header claims stands.claims_stand in
    let is : history_of ns ≡ h = c.lines-from.ensures.lines header claims stands.claims_stand in
    let begins : length h ≡ length ns = sym (ap (λ (x : List Line). length x) is) ∙ length_history ns in
    let count : ℕ = length header.nodes in
    let names : NamesNode count c.args.e.now = subst (λ (k : HeaderValue). NamesNode (length k.nodes) c.args.e.now) stands.claims_stand.header_is
    c.requires.node in
    let g : Grown count h (claimed header (claim ∷ claims)) (length h) = grown_claims header claims claim c.requires.time stands.timely (names, stands.named) in
    let grown : Grown count h (claimed header (claim ∷ claims)) (length ns) = record {
      within = g.within;
      long = begins;
      timely = g.timely;
      numbered = g.numbered;
    } in
    let spare : HasLineRoom (length acts + 1) c.make_room.new.self = search rules in
    let many : length (acts_of acts) ≡ length acts = acts_length acts in
    let longer : length (claimed header (claim ∷ claims)) ≤ length h + (length (acts_of acts) + 1) = longer_claims header claims claim in
    let less : length (claimed header (claim ∷ claims)) - length ns ≤ length acts + 1 = omega (arith, many, longer, begins) in
    let room : HasLineRoom (length (claimed header (claim ∷ claims)) - length ns) c.make_room.new.self =
    room-less (length (claimed header (claim ∷ claims)) - length ns) (length acts + 1) c.make_room.new.self less spare in
    let finds : Finds premises header (claim ∷ claims) h c.args.self.now.failed c.find-self.new.notes c.find-self.result =
    subst (λ (p : Premises). Finds p header (claim ∷ claims) h c.args.self.now.failed c.find-self.new.notes c.find-self.result) stands.premises_are
    (c.find-self.ensures header (claim ∷ claims) h taken.1 grown room (λ none. c.make_room.ensures.stand c.args.self.now.premises header h
    (subst (λ (p : Premises). RememberedStands p header h c.args.self.now.notes) (sym stands.premises_are) (stands.notes none)))) in (
      taken.0,
      record {
        claims_stand = taken.1;
        premises_are = stands.premises_are;
        timely = grown.timely;
        found = found_more premises header claim claims c.args.self.now.failed c.find-self.result c.find-self.new.notes stands.found finds;
        named = (names, stands.named);
        notes = notes_later premises header claim claims c.args.self.now.failed c.find-self.result c.find-self.new.notes finds;
      },
      (λ setting has.
          subst (λ (v : Verdict). IsVerdict premises setting header (claim ∷ claims) v) (sym c.verdict_of.ensures)
          (verdict_is premises setting header (claim ∷ claims) c.find-self.result (found_more premises header claim claims c.args.self.now.failed
          c.find-self.result c.find-self.new.notes stands.found finds setting has))),
    )
