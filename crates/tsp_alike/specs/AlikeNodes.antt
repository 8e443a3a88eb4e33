-- Two pasts of a node that are alike: they differ in what the peers of its ports are called, and in when its ticks begin.
use Rattle.std.specs.Prelude.{◌≡◌, ℕ, ◌+◌, ◌<◌, ◌==◌, ℤ, Bool, true, false, List, ◌∷◌, length, map, All}
use Rattle.tsp_rules.specs.Values.{Boot, Placed, PeerId, Peer, Stranger, Port}
use Rattle.tsp_base.specs.Words.{Booted as BootedBy, Deed, Begins, Acts, Step, Line, first_port, line_of, is_among, others}
use Rattle.tsp_rules.specs.GateRows.{NodeGiven, NodeTurn, GotOn, answers_all, boots_all}
use Rattle.tsp_rules.specs.NodeRows.{NodePast, PortSetup, in_node_step, port_setup, spread}
use Rattle.tsp_rules.specs.Renames.{Renaming, Naming, Knows, renamed_act, renamed_place}

-- the renaming tells peers apart
abbrev pub TellsApart : Renaming → Type 0
TellsApart r = (p q : PeerId) → ((r.peer p).0 == (r.peer q).0) ≡ (p.0 == q.0)

-- what is known of a port that is set up so, of a node that may be master or not: its acts name its other peers, and it stands for election
-- only if the node may be master
abbrev pub naming_of : (r : Renaming) → TellsApart r → PortSetup → Bool → Naming
naming_of r apart a may = record {
  names = r;
  same = apart;
  comes = λ p. is_among p a.peers ≡ true;
  known = λ p. is_among p (others a.own a.peers) ≡ true;
  stands = may ≡ true;
}

-- a deed, with the peers of its act renamed and its tick later
abbrev pub renamed_deed : Renaming → Deed → Deed
renamed_deed m Begins = Begins
renamed_deed m (Acts a) = Acts (renamed_act m a)

-- what is known of a deed
abbrev pub KnowsDeed : Naming → Deed → Type 0
KnowsDeed m Begins = Unit {0}
KnowsDeed m (Acts a) = Knows m a

-- a deed after the boot of its life
abbrev pub is_later : Deed → Bool
is_later (Acts Boot) = false
is_later deed = true

-- a port is set up as another is, with other names: it has as many peers, and the others in the same order. Where its own number stands
-- among them may differ
pub record AlikeSetup (r : Renaming) (a b : PortSetup) : Type 0 where
  pub own : b.own ≡ r.peer a.own
  pub others_are : others b.own b.peers ≡ map r.peer (others a.own a.peers)
  pub count : length b.peers ≡ length a.peers

-- two steps in which nodes boot with the same word and the same wall clock
pub record SameBoot (s s' : Step) : Type 0 where
  pub word : ℕ
  pub wall : ℤ
  pub first : s.cause ≡ BootedBy word wall
  pub second : s'.cause ≡ BootedBy word wall

-- the lines of two nodes since a boot, the newest first. Whatever was before it may differ
pub data AlikeLines (ms : Port → Naming) (shift : ℕ) : List Line → List Line → Type 0 where
  -- both begin a life, with the same word and the same wall clock
  Booted : (s s' : Step) → SameBoot s s' → (x : ℕ) → (old old' : List Line) →
      AlikeLines ms shift (line_of s x first_port (Acts Boot) ∷ line_of s x first_port Begins ∷ old) (line_of s' (x + shift) first_port (Acts Boot) ∷
      line_of s' (x + shift) first_port Begins ∷ old')
  -- both do the same
  Both : (s s' : Step) (x : ℕ) (q : Port) (deed : Deed) → is_later deed ≡ true → KnowsDeed (ms q) deed → {before before' : List Line} →
      AlikeLines ms shift before before' →
      AlikeLines ms shift (line_of s x q deed ∷ before) (line_of s' (x + shift) q (renamed_deed (ms q).names deed) ∷ before')

-- the namings of a node's ports
abbrev pub namings : (rs : Port → Renaming) → ((q : Port) → TellsApart (rs q)) → NodePast → Port → Naming
namings rs apart p q = naming_of (rs q) (apart q) (port_setup q p) p.may

-- two pasts of a node are alike
pub record AlikeNodes (rs : Port → Renaming) (apart : (q : Port) → TellsApart (rs q)) (shift : ℕ) (p p' : NodePast) : Type 0 where
  pub name : p'.name ≡ p.name
  pub may : p'.may ≡ p.may
  -- elections matter only to a node that may be master
  pub strict : p.may ≡ true → p'.strict ≡ p.strict
  pub shifts : (q : Port) → (rs q).shift ≡ shift
  pub ports : length p'.ports ≡ length p.ports
  pub setups : (q : Port) → q.0 < length p.ports → AlikeSetup (rs q) (port_setup q p) (port_setup q p')
  pub lines : AlikeLines (namings rs apart p) shift p.lines p'.lines

-- what is given, in the other names
abbrev pub renamed_given : (Port → Renaming) → NodeGiven → NodeGiven
renamed_given rs NodeTurn = NodeTurn
renamed_given rs (GotOn q from taken) = GotOn q (renamed_place (rs q) from) taken

-- acts on their ports, in the other names
abbrev pub renamed_placed : (Port → Renaming) → Placed → Placed
renamed_placed rs a = record { port = a.port; act = renamed_act (rs a.port) a.act }

-- what is given comes on a port that the node has, from one of its peers there or from a stranger
abbrev pub ComesOn : NodePast → NodeGiven → Type 0
ComesOn p NodeTurn = Unit {0}
ComesOn p (GotOn q (Peer from) taken) = (q.0 < length p.ports) × (is_among from (port_setup q p).peers ≡ true)
ComesOn p (GotOn q Stranger taken) = q.0 < length p.ports

-- acts name only known peers
abbrev pub AllKnown : (Port → Naming) → List Placed → Type 0
AllKnown ms acts = All (λ (a : Placed). Knows (ms a.port) a.act) acts

-- a node's acts in a step: the second node's are the first one's in the other names, they name only known peers, and leave pasts that are alike
pub record StepsAlike (rs : Port → Renaming) (apart : (q : Port) → TellsApart (rs q)) (shift : ℕ) (x : ℕ) (p p' : NodePast) (acts acts' : List Placed) : Type 0
  where
    pub same : acts' ≡ map (renamed_placed rs) acts
    pub known : AllKnown (namings rs apart p) acts
    pub after : AlikeNodes rs apart shift (spread x p acts) (spread (x + shift) p' acts')

-- a node's answers to the same are the same, in the other names, and leave pasts that are alike again
abbrev pub AnswersAreAlike : Type 0
AnswersAreAlike = (rs : Port → Renaming) (apart : (q : Port) → TellsApart (rs q)) (shift : ℕ) (g : NodeGiven) (x : ℕ) (p p' : NodePast) →
    AlikeNodes rs apart shift p p' → ComesOn p g →
    StepsAlike rs apart shift x p p' (answers_all g x p) (answers_all (renamed_given rs g) (x + shift) p')

-- two nodes that are set up alike
pub record AlikeConfigs (rs : Port → Renaming) (shift : ℕ) (p p' : NodePast) : Type 0 where
  pub name : p'.name ≡ p.name
  pub may : p'.may ≡ p.may
  pub strict : p.may ≡ true → p'.strict ≡ p.strict
  pub shifts : (q : Port) → (rs q).shift ≡ shift
  pub ports : length p'.ports ≡ length p.ports
  pub setups : (q : Port) → q.0 < length p.ports → AlikeSetup (rs q) (port_setup q p) (port_setup q p')

-- the acts with which two nodes begin a life, whatever either did before it: a Boot, and then the same, in the other names
pub record BootsAlike (rs : Port → Renaming) (apart : (q : Port) → TellsApart (rs q)) (shift : ℕ) (x : ℕ) (p p' : NodePast) (acts acts' : List Placed) : Type 0
  where
    pub rest : List Placed
    pub is : acts ≡ record { port = first_port; act = Boot } ∷ rest
    pub known : AllKnown (namings rs apart p) rest
    pub same : acts' ≡ map (renamed_placed rs) acts
    pub after : AlikeNodes rs apart shift (spread x p acts) (spread (x + shift) p' acts')

-- two nodes that are set up alike, and boot with the same word and wall clock, begin alike
abbrev pub BootsAreAlike : Type 0
BootsAreAlike = (rs : Port → Renaming) (apart : (q : Port) → TellsApart (rs q)) (shift x : ℕ) (s s' : Step) (p p' : NodePast) → AlikeConfigs rs shift p p' →
    SameBoot s s' →
    BootsAlike rs apart shift x (in_node_step s x p) (in_node_step s' (x + shift) p') (boots_all x (in_node_step s x p))
    (boots_all (x + shift) (in_node_step s' (x + shift) p'))
