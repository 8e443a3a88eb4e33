-- The post of a datagram, among noted lines.
use Rattle.std.specs.Prelude.{◌≡◌, ◌<◌, ℕ, List, ◌∷◌, length, get_or, take, Some}
use Rattle.tsp_base.specs.declared.place.Place.{Place}
use Rattle.tsp_base.specs.{Words.dids, Words.Within, Words.posted, declared.act.Act.TheVariants.Post, declared.datagram.Datagram.Datagram}
use Rattle.tsp_history.specs.{Histories.line_of, Histories.history_of, declared.line.HistoryLine.HistoryLine}

-- a line posts something
pub record IsPost (noted : HistoryLine) : Type 0 where
  pub to : Place
  pub datagram : Datagram
  pub act : noted.act ≡ Some (Post to datagram)

-- the line at index i, of these lines, posts datagram k
pub record PostsAt (ns : List HistoryLine) (k i : ℕ) : Type 0 where
  pub noted : HistoryLine
  pub below : i < length ns
  pub noted_is : get_or ns i noted ≡ noted
  pub within : Within (line_of noted ∷ history_of (take i ns)) (history_of ns)
  pub to : Place
  pub datagram : Datagram
  pub act : noted.act ≡ Some (Post to datagram)
  pub number : posted (dids (history_of (take i ns))) ≡ k
