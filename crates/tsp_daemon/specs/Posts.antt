-- The datagrams that acts send, and the lines that show acts.
use Rattle.std.specs.Prelude.{ℕ, ◌+◌, Bool, if◌then◌else◌, List, [], ◌∷◌, ◌++◌, length, All}
use Rattle.tsp_codec.specs.Canon.{canon}
use Rattle.tsp_rules.specs.{Strangers.IsKnown, Values.Act, Values.Post, Values.Placed}
use Rattle.tsp_io.specs.Links.{Tried}
use Rattle.tsp_script.specs.Traces.{trace_text}

-- the send that an act asks for: a post sends its datagram to its addressee, in the one spelling in which it is written
abbrev pub send_of : Act → List Tried
send_of (Post to datagram) = (to, canon datagram) ∷ []
send_of _ = []

-- the sends that acts ask for, in order
abbrev pub sends_of : List Placed → List Tried
sends_of [] = []
sends_of (p ∷ rest) = send_of p.act ++ sends_of rest

-- the line of an act of a turn, with its line feed: turn and tick, node 0, and the datagram's number if it posts one
abbrev pub line_of : ℕ → ℕ → ℕ → Placed → List ℕ
line_of turn tick number p = trace_text turn 0 tick number p ++ 10 ∷ []

-- the lines of the acts of a turn; the first post among them has this number
abbrev pub act_lines : ℕ → ℕ → ℕ → List Placed → List ℕ
act_lines turn tick number [] = []
act_lines turn tick number (p ∷ rest) = line_of turn tick number p ++ act_lines turn tick (number + length (send_of p.act)) rest

-- the lines, if they are to be shown
abbrev pub shown_lines : Bool → ℕ → ℕ → ℕ → List Placed → List ℕ
shown_lines shown turn tick number acts = if shown then act_lines turn tick number acts else []

-- acts post to a stranger only if this is true: the last datagram that came was a stranger's
abbrev pub AreKnown : Bool → List Placed → Type 0
AreKnown stranger acts = All (λ p. IsKnown stranger p.act) acts
