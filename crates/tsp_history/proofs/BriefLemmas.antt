-- An act has one brief.
use Rattle.std.proofs.Common.{◌∙◌, ap, sym, refl, ◌≡◌, ℕ, List, Option, None, Some}
use Rattle.tsp_base.specs.declared.{act.Act.Act, datagram.Datagram.TheVariants.Message, datagram.Datagram.TheVariants.Stamp}
use Rattle.tsp_base.specs.declared.act.Act.TheVariants as acts
use Rattle.tsp_base.specs.declared.datagram.Taken.TheVariants.{Good, Bad}
use Rattle.tsp_history.specs.declared.brief.Brief.TheVariants as briefs
use Rattle.tsp_history.specs.{HeldActs.act_of, declared.brief.Brief.Brief}

-- the brief of an act, or of none
abbrev brief_of : Option Act → Brief
brief_of None = briefs.Mark
brief_of (Some acts.Boot) = briefs.Boot
brief_of (Some (acts.Took from (Good (Message m)))) = briefs.TookMessage from m.kind m.number m.body
brief_of (Some (acts.Took from (Good (Stamp stamp)))) = briefs.TookStamp from stamp
brief_of (Some (acts.Took from (Bad fault))) = briefs.TookBad from fault
brief_of (Some (acts.Post to (Message m))) = briefs.PostMessage to m.kind m.number m.body
brief_of (Some (acts.Post to (Stamp stamp))) = briefs.PostStamp to stamp
brief_of (Some (acts.Become role)) = briefs.Become role
brief_of (Some (acts.Back p)) = briefs.Back p
brief_of (Some (acts.Backer p)) = briefs.Backer p
brief_of (Some (acts.Quit p)) = briefs.Quit p
brief_of (Some (acts.Arm alarm tick)) = briefs.Arm alarm tick
brief_of (Some (acts.Ring alarm)) = briefs.Ring alarm
brief_of (Some (acts.Late alarm)) = briefs.Late alarm
brief_of (Some (acts.Join p)) = briefs.Join p
brief_of (Some (acts.Leave p)) = briefs.Leave p
brief_of (Some (acts.Rival p)) = briefs.Rival p
brief_of (Some (acts.Acked p)) = briefs.Acked p
brief_of (Some (acts.Gave p)) = briefs.Gave p
brief_of (Some (acts.Sample peer counter diff err ticket)) = briefs.Sample peer counter diff err ticket
brief_of (Some (acts.Close count lo width mean)) = briefs.Close count lo width mean
brief_of (Some (acts.Correct amount stepped shown)) = briefs.Correct amount stepped shown
brief_of (Some acts.Abandon) = briefs.Abandon
brief_of (Some (acts.Trace on)) = briefs.Trace on

-- it is read back from an act that is held by it
brief_back : (b : Brief) (name : List ℕ) → brief_of (act_of b name) ≡ b
brief_back briefs.Mark name = refl
brief_back _ name = refl

-- different briefs are of different acts
pub one_brief_holds : (a b : Brief) (n m : List ℕ) → act_of a n ≡ act_of b m → a ≡ b
one_brief_holds a b n m same = sym (brief_back a n) ∙ ap brief_of same ∙ brief_back b m
