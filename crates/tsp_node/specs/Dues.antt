-- When a port needs its next step, and what a master notes of its due sends.
use Rattle.std.specs.Prelude.{◌≡◌, ℕ, false, List, [], ◌∷◌, Option}
use Rattle.tsp_rules.specs.{Values.Post, Values.Placed, Values.Message, Values.Peer, Values.Port, SendRows.leaves_after}
use Rattle.tsp_base.specs.Words.{Past, Performs, acting, grown, earlier, least_deadline}
use Rattle.tsp_sends.specs.{Repeating.IsEarliest, Slots.sending_to, declared.due.Due.Due}
use Rattle.tsp_sends.specs.declared.due.Due.TheVariants.{Again, Gave}
use Rattle.tsp_master.specs.{MasterStands.MasterStands, declared.master.Master.Master}
use Rattle.tsp_node.specs.declared.part.Part.{Part}

-- the earliest deadline of a port's armed alarms and open sends, from the state of the port
pub record IsPartDue (part : Part) (due : Option ℕ) : Type 0 where
  pub sends : Option ℕ
  pub first : IsEarliest (sending_to part.station.sends) sends
  pub due_is : due ≡ earlier (least_deadline part.station.alarms) sends

-- what a master makes of a due send: of one that was posted again it has the new post; where one was given up, a slave may leave
abbrev pub IsNoted : Due → ℕ → Port → Master → Master → List Placed → List Placed → Type 0
IsNoted (Again p m) x port before after old new = (new ≡ old) × ((past : Past) → acting past.seen ≡ false → MasterStands past before →
    MasterStands (grown x past (Post (Peer p) (Message m) ∷ [])) after)
IsNoted (Gave p k) x port before after old new = Performs MasterStands MasterStands (leaves_after p k) x port before after old new

-- only what the port remembers as a master may have changed
pub record IsMasterAlone (before after : Part) : Type 0 where
  pub station : after.station ≡ before.station
  pub last : after.last ≡ before.last
  pub resolve : after.resolve ≡ before.resolve
  pub dates : after.dates ≡ before.dates
