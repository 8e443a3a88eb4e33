-- A date that is passed on begins a send.
use Rattle.std.proofs.Common.{◌∙◌, ap, ◌+◌, ◌%◌}
use Rattle.tsp_rules.specs.SendRows.{begins_timed}
use Rattle.tsp_base.specs.Words.{has_own_number, is_numbered}
use Rattle.tsp_acks.proofs.SendingLemmas.{begins_timed_is, is_date_fits, is_date_own, Performs_opened}
use Rattle.tsp_acks.proofs.station.Station.begin_timed.Goals as goal

pub new-message-requires : goal.new-message-requires
new-message-requires g c = is_date_fits _ _ c.requires.kind

pub returns-clause-row : goal.returns-clause-row
returns-clause-row g c =
    let own = is_date_own c.args.kind c.requires.kind in
    let e = c.new-message.ensures in
    let r = c.open.ensures.rest in
    Performs_opened (begins_timed c.args.kind c.args.p c.args.time) (λ past s. begins_timed_is c.args.kind c.args.p c.args.time c.args.tick past c.args.self.now
    s ∙ cc) (record {
      numbered = ap (λ m. is_numbered m.kind) e ∙ own.0;
      rest = record { me = r.me; role = r.role; hold = r.hold; alarms = r.alarms; backers = r.backers; peers = r.peers };
      acts = c.open.ensures.acts;
      sends = c.open.ensures.sends;
      count = rw (ap (λ m. has_own_number m.kind) e ∙ own.1) (ap (λ n. (n + 1) % 32768) c.open.ensures.begun);
    })
