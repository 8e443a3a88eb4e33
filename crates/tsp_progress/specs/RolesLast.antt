-- What ends a role that lasts: that of a port that follows a master, and that of a master; and who sends a QUIT.
use Rattle.std.specs.Prelude.{◌≡◌, ◌≤◌, ◌⊎◌, ℕ, ◌+◌, List, ◌∷◌}
use Rattle.tsp_rules.specs.Values.{Post, Become, Arm, Elect, Message, Kind, LoopKind, QuitKind, Test, PeerId, Place, Peer, Port, Role, Loose, Follow, Master}
use Rattle.tsp_rules.specs.Values.{Event, ELECT_MIN}
use Rattle.tsp_base.specs.Words.{Acts, Deed, Did, HeaderValue, Here, Line, MessageValue, Receives, Seen, TakesFrom, Within, of, role, view}
use Rattle.tsp_promises.specs.Setting.{Setting}
use Rattle.tsp_run.specs.Clocked.{Clocks, PossibleBy, SetByClocks, run_by}
use Rattle.tsp_run.specs.{Possible.Possible, Run.run, Setting.SetBy}
use Rattle.tsp_progress.specs.GivenUp.{Owes}

-- the step has taken a message of this kind on this port
pub record TookKind (kind : Kind) (before : List Seen) : Type 0 where
  pub from : Place
  pub message : MessageValue
  pub took : TakesFrom before from (Message message)
  pub kind_is : message.kind ≡ kind

-- the same of peer p
pub record TookOf (kind : Kind) (p : PeerId) (before : List Seen) : Type 0 where
  pub message : MessageValue
  pub took : Receives before p (Message message)
  pub kind_is : message.kind ≡ kind

-- each time before at which the port armed its Elect was ELECT_MIN ticks (300 s) ago or longer
abbrev pub Unheeding : Did → List Seen → Type 0
Unheeding here before = (arm : Did) (idle : List Seen) (at : ℕ) → Within (Here arm ∷ idle) before → arm.deed ≡ Acts (Arm Elect at) → arm.tick + ELECT_MIN ≤
    here.tick

-- who follows a master leaves it in a step that took a TEST, or when it hasn't armed its Elect for so long
abbrev pub StopsFollowing : Did → List Seen → Type 0
StopsFollowing here before = TookKind Test before ⊎ Unheeding here before

-- a master follows who sent it away, or becomes Loose by a LOOP
abbrev pub StopsLeading : Role → List Seen → Type 0
StopsLeading (Follow p) before = TookOf QuitKind p before
StopsLeading Loose before = TookKind LoopKind before
StopsLeading _ before = ⊥

-- what a change from the first role to the second owes
abbrev pub EndFits : Role → Role → Did → List Seen → Type 0
EndFits (Follow q) r here before = StopsFollowing here before
EndFits Master r here before = StopsLeading r before
EndFits _ r here before = Unit {0}

-- what a deed owes, if it changes the role or sends a QUIT: only a master sends one
abbrev pub RoleFits : Deed → Did → List Seen → Type 0
RoleFits (Acts (Become r)) here before = EndFits (role before) r here before
RoleFits (Acts (Post (Peer p) (Message m))) here before = m.kind ≡ QuitKind → role before ≡ Master
RoleFits _ here before = Unit {0}

-- so it is on each port of each node
abbrev pub RolesLast : List Line → Type 0
RolesLast world = (n : ℕ) (q : Port) → Owes RoleFits (view q (of n world))

-- in each possible run
abbrev pub RunsKeepRoles : Type 0
RunsKeepRoles = (header : HeaderValue) (setting : Setting) (events : List Event) → SetBy header setting → Possible header events →
    RolesLast (run header events)

-- by any clocks
abbrev pub ClockedRunsKeepRoles : Type 0
ClockedRunsKeepRoles = (clocks : Clocks) (header : HeaderValue) (setting : Setting) (events : List Event) → SetByClocks clocks header setting →
    PossibleBy clocks header events → RolesLast (run_by clocks header events)
