-- The promise of how many octets strangers are sent for an answer.
use Rattle.std.specs.Prelude.{◌≡◌, ◌≤◌, ◌<◌, List, length}
use Rattle.tsp_rules.specs.Values.{Post, Datagram, Message, Stamp, Stranger}
use Rattle.tsp_base.specs.Words.{Acts, Line, Seen, of, view, Setup, TakesFrom}
use Rattle.tsp_codec.specs.Canon.{written_size}
use Rattle.tsp_promises.specs.{DeedFits.answer_name, Everywhere.Everywhere, Fits.node_of, Setting.Setting, Setting.setup_of}

-- a stamp request of 28 octets is answered by 28. A message is answered by 76, if the name in the answer has at most 63
-- octets, and else by 268
abbrev pub SizeFits : Datagram → Datagram → Setup → List Seen → Type 0
SizeFits (Stamp request) (Stamp reply) setup before = (written_size (Stamp request) ≡ 28) × (written_size (Stamp reply) ≡ 28)
SizeFits (Message asked) (Message answer) setup before =
    (length (answer_name asked.kind setup before) ≤ 63 → written_size (Message answer) ≡ 76) × (63 < length (answer_name asked.kind setup before) →
    written_size (Message answer) ≡ 268)
SizeFits _ _ setup before = ⊥

-- a post to a stranger has the size that belongs to the datagram which its step has taken from one on that port
pub record AnswerSized (setting : Setting) (l : Line) (world : List Line) (datagram : Datagram) : Type 0 where
  pub asked : Datagram
  pub took : TakesFrom (view l.port (of (node_of l) world)) Stranger asked
  pub size : SizeFits asked datagram (setup_of setting (node_of l) l.port) (view l.port (of (node_of l) world))

-- each post to a stranger at this line has such a size
abbrev pub AnswerOctetsAt : Setting → Line → List Line → Type 0
AnswerOctetsAt setting l world = (datagram : Datagram) → l.did.deed ≡ Acts (Post Stranger datagram) → AnswerSized setting l world datagram

abbrev pub AnswerOctets : Setting → List Line → Type 0
AnswerOctets setting = Everywhere (AnswerOctetsAt setting)
