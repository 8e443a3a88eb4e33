-- That the promises of answers, roles, sends, dates, LOOPs and words aren't empty, and that clocks needn't be constant. Each history
-- here fits and keeps the premises (Kept), if nothing else is said.
use Rattle.std.specs.Prelude.{◌≡◌, ◌≢◌, ℕ, ◌+◌, ℤ, pos, ◌+ℤ◌, ◌-ℤ◌, Bool, true, List, ◌∷◌, Some, length, ◌<◌, ◌≤◌}
use Rattle.tsp_rules.specs.Values.{Boot, Post, Correct, Acked, Message, PeerId, Peer, Took, Become, Ring, Back, Quit, ResolveAlarm, Datagram, Stamp, Good}
use Rattle.tsp_rules.specs.Values.{SetDateReq, Place, Port, Stranger, Loose, Master, Request, Reply, QUIET, TRIES}
use Rattle.tsp_base.specs.Words.{Acts, Booted, Did, Seen, Here, Line, dids, of, view, MessageValue, lives, Within, open_to, peer_of, Begins, boot_tick, steps}
use Rattle.tsp_base.specs.Words.{role, is_numbered, sets_date, heard, ReplyValue}
use Rattle.tsp_promises.specs.{Kept.Example, Kept.Spot, Premises.Honest, Premises.Life, Premises.Few, Premises.NamesApart, Premises.Words}
use Rattle.tsp_promises.specs.{Fits.Fits, Fits.Finished, Fits.node_of, Measured.Measured, Measured.TripOf, Once.ActsOn, Once.OnceTaken}
use Rattle.tsp_promises.specs.{Answered.is_answer, Resolved.TakesQuit, Setting.Setting, Setting.setup_of, StepFacts.quits_master}
use Rattle.tsp_promises.specs.{Agreed.FromRound, Chained.Hop, Looped.GivesUp, Thrice.sent}

-- a history in which a port heeds a QUIT and answers it, and a stranger is answered
pub record AnsweredUse : Type 0 where
  pub history : Example
  pub quit : Spot history.world
  pub from : PeerId
  pub quits : quit.line.did.deed ≡ Acts (Quit from)
  -- what goes to a peer
  pub reply : Spot history.world
  pub to : PeerId
  pub answer : Datagram
  pub replies : reply.line.did.deed ≡ Acts (Post (Peer to) answer)
  pub answers : is_answer answer ≡ true
  pub post : Spot history.world
  pub datagram : Datagram
  pub posts : post.line.did.deed ≡ Acts (Post Stranger datagram)

-- a history in which a node replies to a stamp request and acknowledges a message in its quiet time, the first QUIET
-- ticks after its boot
pub record QuietUse : Type 0 where
  pub history : Example
  pub reply : Spot history.world
  pub to : Place
  pub value : ReplyValue
  pub replies : reply.line.did.deed ≡ Acts (Post to (Stamp (Reply value)))
  pub early : reply.line.did.tick < boot_tick (dids (of (node_of reply.line) reply.before)) + QUIET
  pub ack : Spot history.world
  pub for : Place
  pub message : MessageValue
  pub acknowledges : ack.line.did.deed ≡ Acts (Post for (Message message))
  pub early_too : ack.line.did.tick < boot_tick (dids (of (node_of ack.line) ack.before)) + QUIET

-- a history in which a message is posted for the third time, the last one that is allowed
pub record ThriceUse : Type 0 where
  pub history : Example
  pub post : Spot history.world
  pub peer : PeerId
  pub message : MessageValue
  pub deed : post.line.did.deed ≡ Acts (Post (Peer peer) (Message message))
  pub numbered : is_numbered message.kind ≡ true
  pub had : sent peer (view post.line.port (of (node_of post.line) (post.line ∷ post.before))) ≡ TRIES

-- a history in which a rival takes the QUIT of a resolution, as a master, its step ends and another begins, the rival
-- leads again later, and a node backs two candidates
pub record RivalsMeet : Type 0 where
  pub history : Example
  pub ring : Spot history.world
  pub rings : ring.line.did.deed ≡ Acts (Ring ResolveAlarm)
  pub rival : Spot history.world
  pub takes : TakesQuit ring.line ring.before rival.line rival.before
  pub mark : Spot history.world
  pub begins : mark.line.did.deed ≡ Begins
  -- it took the QUIT as a master
  pub as_master : quits_master (setup_of history.setting (node_of rival.line) rival.line.port).peers
      (view rival.line.port (of (node_of rival.line) mark.before)) ≡ Some (peer_of (node_of ring.line))
  pub last : steps (dids (rival.line ∷ rival.before)) ≡ steps (dids mark.before)
  pub later : Spot history.world
  pub earlier : Spot later.before
  pub node : node_of earlier.line ≡ node_of later.line
  pub port : earlier.line.port ≡ later.line.port
  pub again : Spot history.world
  pub leads : again.line.did.deed ≡ Acts (Become Master)
  pub again_node : node_of again.line ≡ node_of rival.line
  pub again_port : again.line.port ≡ rival.line.port
  pub again_after : Within (rival.line ∷ rival.before) again.before
  pub one : PeerId
  pub other : PeerId
  pub backs_one : earlier.line.did.deed ≡ Acts (Back one)
  pub backs_other : later.line.did.deed ≡ Acts (Back other)
  pub apart : one ≢ other

-- a history that keeps Few too, in which elections are strict and two nodes on one network win one after another
pub record StrictElections : Type 0 where
  pub history : Example
  pub strict : history.setting.strict ≡ true
  pub few : Few history.world
  pub later : Spot history.world
  pub earlier : Spot later.before
  pub wins : earlier.line.did.deed ≡ Acts (Become Master)
  pub wins_later : later.line.did.deed ≡ Acts (Become Master)
  pub apart : node_of earlier.line ≢ node_of later.line
  pub net : history.setting.net (node_of earlier.line) earlier.line.port ≡ history.setting.net (node_of later.line) later.line.port

-- a Correct that takes a date which is passed on
pub record SetsDate (world : List Line) : Type 0 where
  pub correct : Spot world
  pub post : Line
  pub older : List Line
  pub acts : ActsOn correct.line correct.before post older
  pub kind : acts.brings.message.kind ≡ SetDateReq

-- a history in which a Correct takes a date that is passed on, and in the next life of its node another does
pub record DateUse : Type 0 where
  pub history : Example
  pub later : SetsDate history.world
  pub first : SetsDate later.correct.before
  pub node : node_of first.correct.line ≡ node_of later.correct.line
  pub booted : lives (dids (of (node_of later.correct.line) first.correct.before)) < lives
      (dids (of (node_of later.correct.line) later.correct.before))

-- with forged octets, all else as it should be, such a date is taken twice: the promise needs that no peer's datagram
-- is forged
pub record ForgedDate : Type 0 where
  pub setting : Setting
  pub world : List Line
  pub fits : Fits setting world
  pub finished : Finished setting world
  pub life : Life world
  pub words : Words world
  pub twice : ¬ OnceTaken world

-- a history that keeps Few too, in which a clock is set to a date, and the one who passed that date on notes that it
-- was acknowledged
pub record DatedUse : Type 0 where
  pub history : Example
  pub few : Few history.world
  -- the Acked that ends the send of the date
  pub acked : Spot history.world
  -- the Correct that sets the clock
  pub correct : Spot acked.before
  pub amount : ℤ
  pub stepped : Bool
  pub shown : ℤ
  pub corrects : correct.line.did.deed ≡ Acts (Correct amount stepped shown)
  pub from : Place
  pub message : MessageValue
  pub took : heard (dids (of (node_of correct.line) correct.before)) ≡ Some (record { from = from; taken = Good (Message message) })
  pub sets : sets_date message.kind ≡ true
  pub peer : PeerId
  pub ends : acked.line.did.deed ≡ Acts (Acked peer)
  pub first : Did
  pub older : List Seen
  pub is_open : open_to peer (view acked.line.port (of (node_of acked.line) acked.before)) ≡ Here first ∷ older
  pub date : MessageValue
  pub posts : first.deed ≡ Acts (Post (Peer peer) (Message date))
  pub kind : date.kind ≡ SetDateReq
  pub same : date ≡ message

-- a history that keeps NamesApart too, in which a gateway leads on two networks that are joined by two other nodes: its
-- LOOP comes back over both, and it gives up the lead of the higher port
pub record LoopUse : Type 0 where
  pub history : Example
  pub names : NamesApart history.setting history.world
  pub loose : Spot history.world
  pub deed : loose.line.did.deed ≡ Acts (Become Loose)
  pub leads : role (view loose.line.port (of (node_of loose.line) loose.before)) ≡ Master
  pub gives_up : GivesUp loose.line loose.before
  pub by_two : length gives_up.rest ≡ 2
  -- it leads on the port on which the LOOP set out, too
  pub lower : Port
  pub is_lower : lower.0 < loose.line.port.0
  pub leads_lower : role (view lower (of (node_of loose.line) loose.before)) ≡ Master

-- a history in which a node takes the reply to a request that it posted in an earlier life: it ends no open exchange,
-- so no Sample may come of it
pub record LateReply : Type 0 where
  pub history : Example
  pub took : Spot history.world
  pub request : Spot took.before
  pub peer : PeerId
  pub reply : ReplyValue
  pub asked : request.line.did.deed ≡ Acts (Post (Peer peer) (Stamp (Request reply.word reply.counter)))
  pub deed : took.line.did.deed ≡ Acts (Took (Peer peer) (Good (Stamp (Reply reply))))
  pub node : node_of request.line ≡ node_of took.line
  pub port : request.line.port ≡ took.line.port
  pub booted : lives (dids (of (node_of took.line) request.before)) < lives (dids (of (node_of took.line) took.before))
  pub no_trip : (err : ℤ) → ¬ TripOf took.line (view took.line.port (of (node_of took.line) (took.line ∷ took.before))) peer reply.counter
      err

-- two boots of one node have the same word; this is the place of the later one
pub record Repeats (world : List Line) : Type 0 where
  pub again : Spot world
  pub once : Spot again.before
  pub node : node_of once.line ≡ node_of again.line
  pub boots : again.line.did.deed ≡ Acts Boot
  pub booted : once.line.did.deed ≡ Acts Boot
  pub word : ℕ
  pub wall : ℤ
  pub wall_once : ℤ
  pub word_is : again.line.did.step.cause ≡ Booted word wall
  pub word_once : once.line.did.step.cause ≡ Booted word wall_once

-- a Close of m corrects a node
pub record Round (m : ℕ) (world : List Line) : Type 0 where
  pub hop : Hop
  pub correct_in : Within (hop.correct ∷ hop.past) world
  pub from_round : FromRound m hop.close hop.cpast hop.correct hop.past hop.reading hop.older hop.err

-- a history that fits, in which no peer's datagram is forged and none outlives LIFE: a master boots again with its old
-- word, and in each of its two lives a round of it corrects a node
pub record SameWords : Type 0 where
  pub setting : Setting
  pub world : List Line
  pub fits : Fits setting world
  pub finished : Finished setting world
  pub honest : Honest world
  pub life : Life world
  pub repeats : Repeats world
  pub before : Round (node_of repeats.again.line) repeats.again.before
  pub after : Round (node_of repeats.again.line) world
  pub begins : Within (repeats.again.line ∷ repeats.again.before) after.hop.cpast

-- a history that fits, in which no peer's datagram is forged: a master boots again with its old word, and then takes a
-- reply of its first life, which is older than LIFE. It measures wrongly
pub record MeasuresWrongly : Type 0 where
  pub setting : Setting
  pub world : List Line
  pub fits : Fits setting world
  pub finished : Finished setting world
  pub honest : Honest world
  pub repeats : Repeats world
  pub wrong : ¬ Measured setting world

-- a history in which clocks aren't constant: before a round measures a node and corrects it, the node's counter gains 3,200
-- microseconds on true time in 40 s, and loses them again in the next 40 s. Later the node boots again, with a wall clock that
-- somebody set an hour ahead
pub record WanderUse : Type 0 where
  pub history : Example
  pub later : Spot history.world
  pub earlier : Spot later.before
  pub boots : later.line.did.deed ≡ Acts Boot
  pub booted : earlier.line.did.deed ≡ Acts Boot
  pub node : node_of earlier.line ≡ node_of later.line
  pub word : ℕ
  pub word_once : ℕ
  pub wall : ℤ
  pub wall_once : ℤ
  pub caused : later.line.did.step.cause ≡ Booted word wall
  pub caused_once : earlier.line.did.step.cause ≡ Booted word_once wall_once
  pub was_set : wall -ℤ pos later.line.did.tick ≡ (wall_once -ℤ pos earlier.line.did.tick) +ℤ pos 3600000000
  pub m : ℕ
  pub round : Round m later.before
  pub corrected : node_of round.hop.correct ≡ node_of later.line
  -- when the counter begins to gain, when it turns, and when it is right again
  pub start : ℕ
  pub turn : ℕ
  pub end : ℕ
  pub gained : history.setting.tick (node_of later.line) turn ≡ history.setting.tick (node_of later.line) start + 40003200
  pub lost : history.setting.tick (node_of later.line) end ≡ history.setting.tick (node_of later.line) turn + 39996800
  pub measured : end ≤ round.hop.reading.did.step.at
