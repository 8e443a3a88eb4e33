-- A correction begins a send.
use Rattle.std.proofs.Common.{◌∙◌, ap}
use Rattle.tsp_base.specs.Words.{posts_time, has_own_number, is_numbered}
use Rattle.tsp_acks.proofs.SendingLemmas.{is_correction_fits, is_correction_other, posts_time_is, Performs_opened}
use Rattle.tsp_acks.proofs.station.Station.begin_correction.Goals as goal

pub new-message-requires : goal.new-message-requires
new-message-requires g c = is_correction_fits _ _ c.requires.kind

pub returns-clause-row : goal.returns-clause-row
returns-clause-row g c =
    let own = is_correction_other c.args.kind c.requires.kind in
    let e = c.new-message.ensures in
    Performs_opened (posts_time c.args.p c.args.kind c.args.number c.args.time) (λ past s. posts_time_is c.args.kind c.args.p c.args.number c.args.time
    c.args.at.tick past c.args.self.now s ∙ cc) (record {
      numbered = ap (λ m. is_numbered m.kind) e ∙ own.0;
      rest = c.open.ensures.rest;
      acts = c.open.ensures.acts;
      sends = c.open.ensures.sends;
      count = rw (ap (λ m. has_own_number m.kind) e ∙ own.1) c.open.ensures.begun;
    })
