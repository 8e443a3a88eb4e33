use Rattle.std.proofs.Common.{◌-◌, ◌/◌, nat_abs}
use Rattle.tsp_base.specs.Words.{eased}
use Rattle.tsp_clock.specs.Clocks.{target_of}
use Rattle.tsp_clock.proofs.Slewing.{eased_more, eased_whole, slewed_between, slewed_whole, rises_by, none_left}
use Rattle.tsp_clock.proofs.laws.shown_follows_target.Goals as goal

pub returns-clause-rises : goal.returns-clause-rises
returns-clause-rises c v x y h k =
    let s = slewed_between v.at x y h k in
    rises_by v.offset (eased v.rest ((x - v.at) / 200)) (eased v.rest ((y - v.at) / 200)) x y ((y - v.at) / 200 - (x - v.at) / 200) k s.1
    (eased_more v.rest ((x - v.at) / 200) ((y - v.at) / 200) s.0)

pub returns-clause-meets : goal.returns-clause-meets
returns-clause-meets c v x h = rw (eased_whole v.rest ((x - v.at) / 200) (slewed_whole v.at (nat_abs v.rest) x h)) (none_left (target_of v x))
