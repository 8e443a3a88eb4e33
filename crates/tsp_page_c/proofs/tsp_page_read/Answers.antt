use Rattle.std.proofs.Common.{drop, ap, ◌∙◌, rules}
use Rattle.tsp_page.specs.Halves.{daemon_half_of, look_half_of}
use Rattle.tsp_page_c.proofs.ToldBy.{told_by}
use Rattle.tsp_page_c.proofs.tsp_page_read.Goals as goal

pub returns-clause-told : goal.returns-clause-told
returns-clause-told c =
    told_by c.of-daemon.result (daemon_half_of (drop 72 c.args.page.now)) c.of-look.result (look_half_of (drop 520 c.args.page.now))
    c.read.result c.told_of.result c.args.now
    (c.of-daemon.ensures ∙ ap daemon_half_of (search rules)) (c.of-look.ensures ∙ ap look_half_of (search rules)) c.told_of.ensures c.read.ensures.sound
