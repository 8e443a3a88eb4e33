-- A run in which one of two masters is left, and one in which both are.
use Rattle.std.specs.Prelude.{◌≡◌, ◌+◌, ◌*◌}
use Rattle.tsp_rules.specs.Values.{Follow, Master, WINDOW}
use Rattle.tsp_base.specs.Words.{first_port, of, peer_of as peer, role, view}
use Rattle.tsp_promises.specs.{Premises.Honest, Premises.Life, Setting.Setting}
use Rattle.tsp_run.specs.{Ranges.Accepted, Run.run, Setting.SetBy}
use Rattle.tsp_progress.specs.{AckedInTime.IsPrompt, AnswersUse.all_stay, Delivered.Delivered, OneAtATime.Unbooted, OneLeft.TwoNodes, OneLeft.Unasked}
use Rattle.tsp_progress.specs.{OneUse.two_may, RivalsStay.BothTold, RivalsStay.both_lost, RivalsUse.both_lead, RivalsUse.look_line, RivalsUse.until_end}
use Rattle.tsp_progress.specs.{Watched.Attended}

pub record OneLeftUse : Type 0 where
  -- all that is asked for holds of the run of `rivals_use`, until 270.02 s and 4 microseconds after the look
  pub accepted : Accepted two_may until_end
  pub attended : Attended 0 (run two_may until_end)
  pub delivered : (setting : Setting) → SetBy two_may setting →
      Delivered setting 10000 671020004 all_stay (run two_may both_lead) (run two_may until_end)
  pub prompt : (setting : Setting) → SetBy two_may setting → IsPrompt setting 10000
  pub unbooted : Unbooted all_stay (run two_may both_lead) (run two_may until_end)
  pub unasked : Unasked (run two_may both_lead) (run two_may until_end)
  pub honest : Honest (run two_may until_end)
  pub life : Life (run two_may until_end)
  pub two : (setting : Setting) → SetBy two_may setting → TwoNodes two_may setting 0 671020004 all_stay (run two_may both_lead) 0 1 first_port first_port
      look_line (run two_may both_lead) (run two_may until_end)
  pub bound : 401000000 + (240000001 + 2 * 5000001 + 2 * 10000 + 4 * WINDOW) ≡ 671020003
  -- a follows b, which leads
  pub follows : role (view first_port (of 0 (run two_may until_end))) ≡ Follow (peer 1)
  pub leads : role (view first_port (of 1 (run two_may until_end))) ≡ Master
  -- where their MASTERUPs are lost both lead
  pub lost_accepted : Accepted two_may both_lost
  pub lost_attended : Attended 0 (run two_may both_lost)
  pub lost_told : BothTold 0 671020004 both_lost
  pub lost_first : role (view first_port (of 0 (run two_may both_lost))) ≡ Master
  pub lost_second : role (view first_port (of 1 (run two_may both_lost))) ≡ Master
