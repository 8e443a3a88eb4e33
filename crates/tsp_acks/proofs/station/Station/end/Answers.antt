-- An end is told by an Acked.
use Rattle.std.proofs.Common.{sym, ◌∙◌, ap, true≢false, ◌≡◌, true, false, None, refl}
use Rattle.std.proofs.lemmas.Bool.{MatchBool-at_true, false≢true}
use Rattle.tsp_base.proofs.FrameLemmas.{PutsExactly_none, PutsExactly_put}
use Rattle.tsp_sends.specs.Slots.{SetsOnly, kind_of, sending_to}
use Rattle.tsp_acks.{proofs.EndingLemmas.Performs_acked, proofs.EndingLemmas.has_open_of, specs.Openings.answered_by, specs.Openings.is_of}
use Rattle.tsp_acks.proofs.station.Station.end.Goals as goal

pub returns-then-ended : goal.returns-then-ended
returns-then-ended g c =
    let fits : is_of (answered_by c.args.answer) (kind_of (sending_to c.args.self.now.sends c.args.p)) ≡ true =
    ap (is_of (answered_by c.args.answer)) (sym c.kind.ensures) ∙ (sym c.ends.ensures ∙ c.if-not-ends.false) in
    let only : SetsOnly c.args.p None c.args.self.now.sends c.ack-ended.new.self = MatchBool-at_true _ _ c.if-ended.true c.ack-ended.ensures.sends in
    record {
      test = λ x past s. has_open_of c.args.answer c.args.p c.args.number x past c.args.self.now fits s ∙ sym c.ack-ended.ensures.ends;
      row = λ e x. Performs_acked c.args.p (record { me = refl; role = refl; hold = refl; alarms = refl; backers = refl; peers = refl }) refl only
          c.put.ensures.acts;
      sends = rw c.if-ended.true only;
      same = λ e. absurd (true≢false (sym c.if-ended.true ∙ e));
      rest = record { me = refl; role = refl; hold = refl; alarms = refl; backers = refl; peers = refl };
      begun = refl;
      room = rw c.if-ended.true (PutsExactly_put _ c.put.ensures.spare c.put.ensures.acts);
    }

-- no send that such an answer ends is open
pub returns-then-not-ends : goal.returns-then-not-ends
returns-then-not-ends g c =
    let other : is_of (answered_by c.args.answer) (kind_of (sending_to c.args.self.now.sends c.args.p)) ≡ false =
    ap (is_of (answered_by c.args.answer)) (sym c.kind.ensures) ∙ (sym c.ends.ensures ∙ c.if-not-ends.true) in
    record {
      test = λ x past s. has_open_of c.args.answer c.args.p c.args.number x past c.args.self.now other s;
      row = λ e. absurd (false≢true e);
      sends = refl;
      same = λ e. refl;
      rest = record { me = refl; role = refl; hold = refl; alarms = refl; backers = refl; peers = refl };
      begun = refl;
      room = PutsExactly_none;
    }
