-- Places of a history, each by a number.
use Rattle.std.specs.Prelude.{◌≡◌, ℕ, List, [], ◌∷◌, Option, None, Some}
use Rattle.tsp_base.specs.declared.{act.Act.TheVariants.Post, datagram.Datagram.Datagram, place.Place.Place, place.Port.Port}
use Rattle.tsp_promises.specs.Fits.{node_of}
use Rattle.tsp_base.specs.Words.{Acts, Line, Seen, Here, of, dids, view, Within, posted}

-- a place of what port q of node n sees is that of its post of datagram k
pub record PostedAt (n : ℕ) (q : Port) (h : List Line) (seen : List Seen) (k : ℕ) : Type 0 where
  pub line : Line
  pub before : List Line
  pub within : Within (line ∷ before) h
  pub node : node_of line ≡ n
  pub port : line.port ≡ q
  pub is : seen ≡ Here line.did ∷ view q (of n before)
  pub to : Place
  pub datagram : Datagram
  pub deed : line.did.deed ≡ Acts (Post to datagram)
  pub number : posted (dids before) ≡ k

-- the number of the datagram that is posted at a place; None means that there is no such place
abbrev pub IsPostAt : ℕ → Port → List Line → List Seen → Option ℕ → Type 0
IsPostAt n q h seen None = seen ≡ []
IsPostAt n q h seen (Some k) = PostedAt n q h seen k
