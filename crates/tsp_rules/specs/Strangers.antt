-- Posts to strangers: a stranger gets answers and nothing else.
use Rattle.std.specs.Prelude.{◌≡◌, ℕ, Bool, true, false, All}
use Rattle.tsp_rules.specs.Values.{Act, Post, Place, Peer, Stranger}
use Rattle.tsp_base.specs.Words.{Past}
use Rattle.tsp_rules.specs.Answers.{Given, Turn, Got, answers}

-- whether a sender or an addressee isn't among the peers
abbrev pub is_stranger : Place → Bool
is_stranger (Peer p) = false
is_stranger Stranger = true

-- whether a step's input comes from a stranger
abbrev pub is_strange : Given → Bool
is_strange Turn = false
is_strange (Got from t) = is_stranger from

-- an act posts to a stranger only where this holds
abbrev pub IsKnown : Bool → Act → Type 0
IsKnown strange (Post Stranger datagram) = strange ≡ true
IsKnown strange _ = Unit {0}

-- a step posts to strangers only where it takes a stranger's datagram
abbrev pub StrangersAreAnswered : Type 0
StrangersAreAnswered = (g : Given) (x : ℕ) (past : Past) → All (IsKnown (is_strange g)) (answers g x past)
