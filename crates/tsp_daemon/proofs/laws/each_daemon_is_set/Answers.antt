use Rattle.tsp_daemon.proofs.DaemonSetting.{daemon_setting}
use Rattle.tsp_daemon.proofs.laws.each_daemon_is_set.Goals as goal

pub returns : goal.returns
returns c = λ s tick wall. daemon_setting s tick wall
