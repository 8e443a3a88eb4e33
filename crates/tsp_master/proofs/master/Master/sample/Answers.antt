-- The exchange that the reply answers gives a sample; a reply to none gives nothing.
use Rattle.std.proofs.Common.{◌≡◌, refl, w64, to_z, of_z, to_z-of_z, SFits, rules}
use Rattle.tsp_master.proofs.{ReplyLemmas.Performs_missed, ReplyLemmas.Performs_sample, ReplyLemmas.all_stay, RoomLemmas.put_once}
use Rattle.tsp_master.proofs.master.Master.sample.Goals as goal

pub returns-in-NotStarted-clause-row : goal.returns-in-NotStarted-clause-row
returns-in-NotStarted-clause-row g c station clock x is =
    let r = c.in-NotStarted.ensures in
    let none = r.replies in
    Performs_missed c.args.peer c.args.reply.now _ _ station clock none.0 refl r.asked r.probes (all_stay c.args.peer c.args.self.now.rounds c.reply.new.self
    none.1 r.others)

pub returns-in-Sample-clause-row : goal.returns-in-Sample-clause-row
returns-in-Sample-clause-row g c station clock x is =
    let r = c.in-Sample.ensures in
    let d = c.args.target in
    let t = c.in-Sample.sample in
    let fits_d : SFits w64 d = search rules in
    let fits_diff : SFits w64 t.diff = search rules in
    let fits_err : SFits w64 t.err = search rules in
    let back_d : to_z w64 (of_z w64 d) ≡ d = to_z-of_z fits_d in
    let back_diff : to_z w64 (of_z w64 t.diff) ≡ t.diff = to_z-of_z fits_diff in
    let back_err : to_z w64 (of_z w64 t.err) ≡ t.err = to_z-of_z fits_err in
    let answered = rw back_d at r.replies in
    let put = rw (back_diff, back_err) at c.put.ensures.acts in
    Performs_sample c.args.peer c.args.reply.now d t _ _ station clock is r.apart answered r.others r.asked r.probes refl put

pub returns-in-Sample-clause-room : goal.returns-in-Sample-clause-room
returns-in-Sample-clause-room g c = put_once 0 0 _ c.put.ensures.spare c.put.ensures.acts
