-- Each kind has its row.
use Rattle.std.proofs.Common.{◌≡◌, refl, sym, ◌∙◌, ap}
use Rattle.tsp_rules.specs.Values.{Accept, Ack, Election, QuitKind, Refuse}
use Rattle.tsp_base.{proofs.PerformsLemmas.Performs_nothing, specs.Words.name_in, specs.Words.nothing}
use Rattle.tsp_rules.specs.{CandidateRows.candidate_takes, CandidateRows.candidate_takes_kind, CommonRows.follow_row}
use Rattle.tsp_slave.proofs.{BesideLemmas.Performs_station, SlaveLemmas.AlsoStands_posts, SlaveLemmas.AlsoStands_acknowledges}
use Rattle.tsp_candidate.proofs.{AlsoLemmas.AlsoStands_accepted_by, AlsoLemmas.AlsoStands_refused_by, RowCases.candidate_takes_kind_master}
use Rattle.tsp_rules.proofs.RowsOther.{candidate_takes_kind_other}
use Rattle.tsp_candidate.proofs.take.candidate_take.Goals as goal

pub returns-in-MasterUp-clause-row : goal.returns-in-MasterUp-clause-row
unfolding candidate_takes
returns-in-MasterUp-clause-row g c took e =
    let m = c.args.m.now in
    let k : candidate_takes_kind c.args.from m m.kind ≡ follow_row c.args.from =
    ap (candidate_takes_kind c.args.from m) (sym c.kind.ensures) ∙ candidate_takes_kind_master c.args.from m c.kind.result c.in-MasterUp.is in
    rw k (c.follow.ensures.row took (ap name_in e ∙ sym c.name.ensures))

pub returns-in-Election-clause-row : goal.returns-in-Election-clause-row
unfolding candidate_takes candidate_takes_kind
returns-in-Election-clause-row g c took e =
    let k : c.args.m.now.kind ≡ Election = sym c.kind.ensures ∙ c.in-Election.is in
    rw k (Performs_station (AlsoStands_posts c.args.from Refuse c.args.m.now.number refl) (rw c.number-number.ensures at (c.post.ensures.row c.args.tick)))

pub returns-in-Accept-clause-row : goal.returns-in-Accept-clause-row
unfolding candidate_takes candidate_takes_kind
returns-in-Accept-clause-row g c took e =
    let k : c.args.m.now.kind ≡ Accept = sym c.kind.ensures ∙ c.in-Accept.is in
    rw k (Performs_station (AlsoStands_accepted_by c.args.from c.args.m.now.number) (rw c.number-number.ensures at (c.take_accept.ensures.row c.args.tick)))

pub returns-in-Refuse-clause-row : goal.returns-in-Refuse-clause-row
unfolding candidate_takes candidate_takes_kind
returns-in-Refuse-clause-row g c took e =
    let k : c.args.m.now.kind ≡ Refuse = sym c.kind.ensures ∙ c.in-Refuse.is in
    rw k (Performs_station (AlsoStands_refused_by c.args.from c.args.m.now.number) (rw c.number-number.ensures at c.take_refuse.ensures.row))

pub returns-in-Quit-clause-row : goal.returns-in-Quit-clause-row
unfolding candidate_takes candidate_takes_kind
returns-in-Quit-clause-row g c took e =
    let k : c.args.m.now.kind ≡ QuitKind = sym c.kind.ensures ∙ c.in-Quit.is in
    rw k (c.take_quit.ensures.row took (ap name_in e))

pub returns-in-Ack-clause-row : goal.returns-in-Ack-clause-row
unfolding candidate_takes candidate_takes_kind
returns-in-Ack-clause-row g c took e =
    let k : c.args.m.now.kind ≡ Ack = sym c.kind.ensures ∙ c.in-Ack.is in
    rw k (Performs_station (AlsoStands_acknowledges c.args.from c.args.m.now.number) (rw c.number-number.ensures at (c.acknowledge.ensures.row c.args.tick)))

pub returns-in_default-clause-row : goal.returns-in_default-clause-row
unfolding candidate_takes
returns-in_default-clause-row g c took e =
    let m = c.args.m.now in
    let o = c.in_default in
    let k : candidate_takes_kind c.args.from m m.kind ≡ nothing =
    ap (candidate_takes_kind c.args.from m) (sym c.kind.ensures)
    ∙ candidate_takes_kind_other c.args.from m c.kind.result o.not-MasterUp o.not-MasterAck o.not-Election o.not-Accept o.not-Refuse o.not-Quit o.not-Ack in
    rw k Performs_nothing
