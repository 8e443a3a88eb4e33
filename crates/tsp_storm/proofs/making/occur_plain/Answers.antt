-- Each kind of event is a call of the world.
use Rattle.tsp_storm.proofs.making.occur_plain.Goals as goal

pub boot-requires : goal.boot-requires
boot-requires c = rw c.in-Boot.is at c.requires

pub turn-requires : goal.turn-requires
turn-requires c = rw c.in-Turn.is at c.requires

pub take-requires : goal.take-requires
take-requires c = rw c.in-Take.is at c.requires

pub returns-in-Boot : goal.returns-in-Boot
returns-in-Boot c = rw c.in-Boot.is c.boot.ensures

pub returns-in-Turn : goal.returns-in-Turn
returns-in-Turn c = rw c.in-Turn.is c.turn.ensures

pub returns-in-Take : goal.returns-in-Take
returns-in-Take c = rw c.in-Take.is c.take.ensures
