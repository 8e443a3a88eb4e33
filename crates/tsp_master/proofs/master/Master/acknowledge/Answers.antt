-- What the station ends is noted in the table.
use Rattle.std.proofs.Common.{◌≡◌, ◌∙◌, ap}
use Rattle.tsp_base.specs.Words.{is_correction}
use Rattle.tsp_sends.specs.Slots.{kind_of, sending_to}
use Rattle.tsp_acks.specs.Openings.{is_of}
use Rattle.tsp_master.proofs.{RoomLemmas.at_most_once, TakeLemmas.MasterStands_acknowledges}
use Rattle.tsp_master.proofs.master.Master.acknowledge.Goals as goal
use Rattle.tsp_rules.proofs.Parts.{Performs_part}

pub returns-clause-row : goal.returns-clause-row
returns-clause-row g c x =
    let st = c.args.station.now in
    let corrects : c.is_correction-corrects.result ≡ is_of is_correction (kind_of (sending_to st.sends c.args.from)) = c.is_correction-corrects.ensures ∙
    ap (is_of is_correction) c.kind.ensures in
    Performs_part (c.acknowledge-ended.ensures.row x) (λ past h. h.station) (λ past h s. record {
      master = MasterStands_acknowledges c.args.from c.args.number x past _ _ st c.acknowledge-ended.result h.station
          (c.acknowledge-ended.ensures.test x past h.station)
          (rw corrects at c.note_ack.ensures.entries) c.note_ack.ensures.peers c.note_ack.ensures.rounds h.master;
      station = s;
    })

pub returns-clause-room : goal.returns-clause-room
returns-clause-room g c = at_most_once c.acknowledge-ended.result c.acknowledge-ended.ensures.room
