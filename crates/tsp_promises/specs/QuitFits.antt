-- What a Quit owes to its port's past: it is the act by which a port heeds the message QUIT.
use Rattle.std.specs.Prelude.{◌≡◌, List, ◌∷◌}
use Rattle.tsp_rules.specs.Values.{Took, Message, Good, QuitKind, PeerId, Peer}
use Rattle.tsp_base.specs.Words.{Acts, Did, Seen, Here, MessageValue}

-- it stands right after the Took of a QUIT from this peer
pub record QuitFits (before : List Seen) (p : PeerId) : Type 0 where
  pub message : MessageValue
  pub took : Did
  pub past : List Seen
  pub is : before ≡ Here took ∷ past
  pub deed : took.deed ≡ Acts (Took (Peer p) (Good (Message message)))
  pub kind : message.kind ≡ QuitKind
