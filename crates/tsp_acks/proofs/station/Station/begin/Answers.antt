-- A message that carries nothing but a number of the port's own begins a send.
use Rattle.std.proofs.Common.{◌∙◌, ap, ◌+◌, ◌%◌}
use Rattle.tsp_rules.specs.SendRows.{begins}
use Rattle.tsp_base.specs.Words.{has_own_number, is_numbered}
use Rattle.tsp_acks.proofs.SendingLemmas.{begins_is, is_bare_send_fits, is_bare_send_own, Performs_opened}
use Rattle.tsp_acks.proofs.station.Station.begin.Goals as goal

pub new-message-requires : goal.new-message-requires
new-message-requires g c = is_bare_send_fits _ c.requires.kind

pub returns-clause-row : goal.returns-clause-row
returns-clause-row g c =
    let own = is_bare_send_own c.args.kind c.requires.kind in
    let e = c.new-message.ensures in
    let r = c.open.ensures.rest in
    Performs_opened (begins c.args.kind c.args.p) (λ past s. begins_is c.args.kind c.args.p c.args.tick past c.args.self.now s ∙ cc) (record {
      numbered = ap (λ m. is_numbered m.kind) e ∙ own.0;
      rest = record { me = r.me; role = r.role; hold = r.hold; alarms = r.alarms; backers = r.backers; peers = r.peers };
      acts = c.open.ensures.acts;
      sends = c.open.ensures.sends;
      count = rw (ap (λ m. has_own_number m.kind) e ∙ own.1) (ap (λ n. (n + 1) % 32768) c.open.ensures.begun);
    })
