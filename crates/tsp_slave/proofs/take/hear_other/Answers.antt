-- Each kind has its row.
use Rattle.std.proofs.Common.{◌≡◌, if◌then◌else◌, [], false, true≢false, sym, ◌∙◌, ap}
use Rattle.tsp_rules.specs.Values.{Ack, Election, MasterAck, MasterUp, QuitKind}
use Rattle.tsp_base.specs.Words.{name_in, is_correction, nothing, reading}
use Rattle.tsp_base.proofs.PerformsLemmas.{Performs_nothing, Performs_same}
use Rattle.tsp_rules.specs.SlaveRows.{masterack_in, masterup_in, slave_takes, slave_takes_kind}
use Rattle.tsp_rules.{proofs.RowsOther.slave_takes_kind_other, specs.Guards.role_at}
use Rattle.tsp_slave.proofs.{BesideLemmas.Performs_station, RoomLemmas.at_most_once, RoomLemmas.more_room}
use Rattle.tsp_slave.proofs.SlaveLemmas.{AlsoStands_election_of, AlsoStands_acknowledges}
use Rattle.tsp_slave.proofs.take.hear_other.Goals as goal

pub returns-in-MasterUp-clause-row : goal.returns-in-MasterUp-clause-row
unfolding slave_takes slave_takes_kind
returns-in-MasterUp-clause-row g c took e =
    let k : c.args.m.now.kind ≡ MasterUp = sym c.kind.ensures ∙ c.in-MasterUp.is in
    rw k (c.hear_master.ensures.row took e)

pub returns-then-heeds_masterack-clause-row : goal.returns-then-heeds_masterack-clause-row
unfolding slave_takes slave_takes_kind
returns-then-heeds_masterack-clause-row g c took e =
    let k : c.args.m.now.kind ≡ MasterAck = sym c.kind.ensures ∙ c.in-MasterAck.is in
    let row = reading role_at (masterup_in c.args.from) in
    rw k (Performs_same (reading role_at (masterack_in c.args.from))
    (λ past h. sym (c.heeds_masterack.ensures c.args.at.tick past h.station ∙ ap (λ b. if b then row c.args.at.tick past else []) c.if-heeds_masterack.true))
    (c.hear_master-then-heeds_masterack.ensures.row took e))

pub returns-else-heeds_masterack-clause-row : goal.returns-else-heeds_masterack-clause-row
unfolding slave_takes slave_takes_kind nothing
returns-else-heeds_masterack-clause-row g c took e =
    let k : c.args.m.now.kind ≡ MasterAck = sym c.kind.ensures ∙ c.in-MasterAck.is in
    let row = reading role_at (masterup_in c.args.from) in
    rw k (Performs_same (reading role_at (masterack_in c.args.from))
    (λ past h. sym (c.heeds_masterack.ensures c.args.at.tick past h.station ∙ ap (λ b. if b then row c.args.at.tick past else []) c.if-heeds_masterack.false))
    Performs_nothing)

pub returns-in-Election-clause-row : goal.returns-in-Election-clause-row
unfolding slave_takes slave_takes_kind
returns-in-Election-clause-row g c took e =
    let m = c.args.m.now in
    let k : m.kind ≡ Election = sym c.kind.ensures ∙ c.in-Election.is in
    rw k (Performs_station (AlsoStands_election_of c.args.from m.number) (rw c.number-number.ensures at c.vote.ensures.row))

pub returns-in-Quit-clause-row : goal.returns-in-Quit-clause-row
unfolding slave_takes slave_takes_kind
returns-in-Quit-clause-row g c took e =
    let m = c.args.m.now in
    let k : m.kind ≡ QuitKind = sym c.kind.ensures ∙ c.in-Quit.is in
    rw k (c.take_quit.ensures.row took (ap name_in e))

pub returns-in-Ack-clause-row : goal.returns-in-Ack-clause-row
unfolding slave_takes slave_takes_kind
returns-in-Ack-clause-row g c took e =
    let m = c.args.m.now in
    let k : m.kind ≡ Ack = sym c.kind.ensures ∙ c.in-Ack.is in
    rw k (Performs_station (AlsoStands_acknowledges c.args.from m.number) (rw c.number-number.ensures at (c.acknowledge.ensures.row c.args.at.tick)))

pub returns-in_default-clause-row : goal.returns-in_default-clause-row
unfolding slave_takes
returns-in_default-clause-row g c took e =
    let m = c.args.m.now in
    let o = c.in_default in
    let other : is_correction c.kind.result ≡ false = ap is_correction c.kind.ensures ∙ c.requires.other in
    let k : slave_takes_kind c.args.from m m.kind ≡ nothing =
    ap (slave_takes_kind c.args.from m) (sym c.kind.ensures)
    ∙ slave_takes_kind_other c.args.from m c.kind.result o.not-MasterUp o.not-MasterAck o.not-Election (λ e. true≢false (sym (ap is_correction e) ∙ other))
    (λ e. true≢false (sym (ap is_correction e) ∙ other)) o.not-Quit o.not-Ack in
    rw k Performs_nothing

pub returns-in-MasterUp-clause-room : goal.returns-in-MasterUp-clause-room
returns-in-MasterUp-clause-room g c = more_room 3 2 c.hear_master.ensures.room

pub returns-then-heeds_masterack-clause-room : goal.returns-then-heeds_masterack-clause-room
returns-then-heeds_masterack-clause-room g c = more_room 3 2 c.hear_master-then-heeds_masterack.ensures.room

pub returns-in-Election-clause-room : goal.returns-in-Election-clause-room
returns-in-Election-clause-room g c = more_room 3 2 c.vote.ensures.room

pub returns-in-Ack-clause-room : goal.returns-in-Ack-clause-room
returns-in-Ack-clause-room g c = at_most_once c.acknowledge.result 4 c.acknowledge.ensures.room
