use Rattle.tsp_codec.proofs.OneReading.{IsName_take, split_at_nul}
use Rattle.tsp_codec.proofs.fields.name_at.Goals as goal

pub new-requires : goal.new-requires
new-requires c = rw c.room_of-room.ensures (let e = rw c.room_of-room.ensures at c.in-Some.ensures in IsName_take _ _ e.0 e.1)

pub returns-in-Some : goal.returns-in-Some
returns-in-Some c = rw (c.new.ensures, c.room_of-room.ensures) (let e = rw c.room_of-room.ensures at c.in-Some.ensures in
    ((IsName_take _ _ e.0 e.1, split_at_nul _ 256 c.in-Some.end e.0 e.2), (c.in-Some.end, e.0, e.2)))
