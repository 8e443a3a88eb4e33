use Rattle.std.proofs.Common.{w64, to_z, of_z, rules}
use Rattle.tsp_page.proofs.StaleLemmas.{stale_alone}
use Rattle.tsp_page.specs.Sound.{IsSoundDaemon, IsSoundLook}
use Rattle.tsp_page.proofs.reading.read.Goals as goal

pub returns-then-is_sound-2-clause-unsound : goal.returns-then-is_sound-2-clause-unsound
returns-then-is_sound-2-clause-unsound c told =
    let daemon : IsSoundDaemon c.args.daemon.now = search rules in
    let look : IsSoundLook c.args.look.now = search rules in
    (daemon, look, c.if-now.true)

pub returns-then-is_sound-2-clause-stale : goal.returns-then-is_sound-2-clause-stale
returns-then-is_sound-2-clause-stale c e = stale_alone c.args.daemon.now c.args.look.now (to_z w64 (of_z w64 c.tick_at.result)) c.reading_at.result
    c.reading_at.ensures e
