-- Two pasts of a port that are alike: since a boot they differ only in what its peers are called and in when its ticks begin. Whatever
-- was before the boot may differ.
use Rattle.std.specs.Prelude.{◌≡◌, ℕ, ◌+◌, ◌==◌, true, false, List, ◌∷◌, length, map, All}
use Rattle.tsp_base.specs.Words.{Deed, Begins, Acts, Step, Seen, Here, Elsewhere, Past, is_among, others, Row}
use Rattle.tsp_rules.specs.Renames.{Renaming, Naming, Knows, renamed_act}
use Rattle.tsp_rules.specs.{NodeRows.PortSetup, Values.Boot, Values.PeerId, Values.Act}
use Rattle.tsp_alike.specs.AlikeNodes.{KnowsDeed, SameBoot, is_later, renamed_deed}

-- a deed of a step, as it is seen here
abbrev pub here : Step → ℕ → Deed → Seen
here step x deed = Here (record { step = step; tick = x; deed = deed })

-- a deed of a step, as another port sees it
abbrev pub elsewhere : Step → ℕ → Deed → Seen
elsewhere step x deed = Elsewhere (record { step = step; tick = x; deed = deed })

-- what two ports have seen, the newest first, is alike
pub data Alike (m : Naming) : List Seen → List Seen → Type 0 where
  -- both begin a life: with the same word, and the same wall clock
  Booted : (s s' : Step) → SameBoot s s' → (x : ℕ) → (old old' : List Seen) → Alike m (here s x (Acts Boot) ∷ here s x Begins ∷
      old) (here s' (x + m.names.shift) (Acts Boot) ∷ here s' (x + m.names.shift) Begins ∷ old')
  -- both do the same
  Own : (s s' : Step) (x : ℕ) (deed : Deed) → is_later deed ≡ true → KnowsDeed m deed → {before before' : List Seen} → Alike m before before' →
      Alike m (here s x deed ∷ before) (here s' (x + m.names.shift) (renamed_deed m.names deed) ∷ before')
  -- other ports of both do the same; their peers are renamed otherwise
  Other : (n : Renaming) → n.shift ≡ m.names.shift → (s s' : Step) (x : ℕ) (deed : Deed) → is_later deed ≡ true → {before before' : List Seen} →
      Alike m before before' → Alike m (elsewhere s x deed ∷ before) (elsewhere s' (x + m.names.shift) (renamed_deed n deed) ∷ before')

-- two ports are set up alike: with as many peers, and the others in the same order; where the own number stands among them may differ
pub record AlikePort (m : Naming) (a b : PortSetup) : Type 0 where
  pub own : b.own ≡ m.names.peer a.own
  pub others_are : others b.own b.peers ≡ map m.names.peer (others a.own a.peers)
  pub count : length b.peers ≡ length a.peers
  -- known are the others, and the own number isn't
  pub apart : (p : PeerId) → m.known p → (p.0 == a.own.0) ≡ false
  pub known : (p : PeerId) → is_among p (others a.own a.peers) ≡ true → m.known p
  -- and so is whoever else something may come from
  pub heard : (p : PeerId) → m.comes p → (p.0 == a.own.0) ≡ false → m.known p

-- how the port of a past is set up
abbrev pub setup_in : Past → PortSetup
setup_in past = record { own = past.own; peers = past.peers }

-- two pasts of a port are alike
pub record AlikePast (m : Naming) (p q : Past) : Type 0 where
  pub setup : AlikePort m (setup_in p) (setup_in q)
  pub name : q.name ≡ p.name
  pub may : q.may ≡ p.may
  pub strict : m.stands → q.strict ≡ p.strict
  pub stands : p.may ≡ true → m.stands
  pub seen : Alike m p.seen q.seen

-- What a row does on a port's past, another does on a past that is alike, in the other names; and it names only known peers.
pub record MovesAt (m : Naming) (acts acts' : List Act) : Type 0 where
  pub same : acts' ≡ map (renamed_act m.names) acts
  pub known : All (Knows m) acts

pub record Moves (m : Naming) (row row' : Row) : Type 0 where
  pub at : (x : ℕ) (p q : Past) → AlikePast m p q → MovesAt m (row x p) (row' (x + m.names.shift) q)
