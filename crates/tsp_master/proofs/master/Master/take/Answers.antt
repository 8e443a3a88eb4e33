-- Each kind has its row.
use Rattle.std.proofs.Common.{◌≡◌, sym, ◌∙◌, ap, refl, le-add_right}
use Rattle.tsp_base.{proofs.FrameLemmas.PutsAtMost_up, proofs.PerformsLemmas.Performs_nothing, specs.Words.nothing, specs.Words.posts}
use Rattle.tsp_rules.{proofs.Emits.Emits_posts, specs.Values.Election, specs.Values.MasterAck, specs.Values.SlaveUp}
use Rattle.tsp_acks.proofs.ActingLemmas.{Performs_acting}
use Rattle.tsp_master.specs.MasterTakes.{master_takes_here, master_takes_kind_here}
use Rattle.tsp_master.proofs.{LeadLemmas.Performs_quiet, RoomLemmas.once}
use Rattle.tsp_master.proofs.TakeLemmas.{emits_away, master_takes_kind_here_ask, master_takes_kind_here_other}
use Rattle.tsp_master.proofs.master.Master.take.Goals as goal

pub returns-in-MasterReq-clause-row : goal.returns-in-MasterReq-clause-row
unfolding master_takes_here
returns-in-MasterReq-clause-row g c role =
    let m = c.args.m.now in
    let k : master_takes_kind_here c.args.from m m.kind ≡ posts c.args.from MasterAck m.number =
    ap (master_takes_kind_here c.args.from m) (sym c.kind.ensures) ∙ master_takes_kind_here_ask c.args.from m c.kind.result c.in-MasterReq.is in
    rw k (Performs_quiet _ c.args.clock.now (Emits_posts c.args.from MasterAck m.number refl)
    (Performs_acting (rw c.number.ensures at (c.post.ensures.row c.args.tick))))

pub returns-in-SlaveUp-clause-row : goal.returns-in-SlaveUp-clause-row
unfolding master_takes_here master_takes_kind_here
returns-in-SlaveUp-clause-row g c role =
    let k : c.args.m.now.kind ≡ SlaveUp = sym c.kind.ensures ∙ c.in-SlaveUp.is in
    rw k (c.join.ensures.row role)

pub returns-in-Election-clause-row : goal.returns-in-Election-clause-row
unfolding master_takes_here master_takes_kind_here
returns-in-Election-clause-row g c role =
    let k : c.args.m.now.kind ≡ Election = sym c.kind.ensures ∙ c.in-Election.is in
    rw k (Performs_quiet _ c.args.clock.now (emits_away c.args.from) c.send_away.ensures.row)

pub returns-in_default-clause-row : goal.returns-in_default-clause-row
unfolding master_takes_here
returns-in_default-clause-row g c role =
    let m = c.args.m.now in
    let o = c.in_default in
    let k : master_takes_kind_here c.args.from m m.kind ≡ nothing =
    ap (master_takes_kind_here c.args.from m) (sym c.kind.ensures) ∙ master_takes_kind_here_other c.args.from m c.kind.result o.not-MasterReq o.not-Resolve
    o.not-SlaveUp o.not-Election in
    rw k Performs_nothing

pub returns-in-MasterReq-clause-room : goal.returns-in-MasterReq-clause-room
returns-in-MasterReq-clause-room g c = once 0 1 c.post.ensures.room

pub returns-in-Election-clause-room : goal.returns-in-Election-clause-room
returns-in-Election-clause-room g c = PutsAtMost_up 1 2 (le-add_right 1 1) c.send_away.ensures.room
