-- The promise that clocks along chains of corrected masters agree, as one does that a corrected master corrects with
-- the first master's.
use Rattle.std.specs.Prelude.{◌≡◌, ℕ, ◌+◌, ℤ, pos, ◌+ℤ◌, List, [], ◌∷◌}
use Rattle.tsp_promises.specs.{Agreed.FromRound, Agreed.Unchanged, Agreed.UnchangedBut, ClockAt.ClocksWithin, ClockAt.drifted, Everywhere.Lasting}
use Rattle.tsp_promises.specs.{Fits.node_of, Setting.Setting}
use Rattle.tsp_base.specs.Words.{Line, Within}

-- one link of a chain: a Close, the Correct that takes its ADJTIME, the reading on which that rests, and its error in
-- microseconds
pub record Hop : Type 0 where
  pub close : Line
  pub cpast : List Line
  pub correct : Line
  pub past : List Line
  pub reading : Line
  pub older : List Line
  pub err : ℤ

-- the node that a link corrects
abbrev pub node_at : Hop → ℕ
node_at x = node_of x.correct

-- the last link of a chain: its first one, and further ones, the last of them first
abbrev pub last_hop : Hop → List Hop → Hop
last_hop first [] = first
last_hop first (x ∷ rest) = x

-- how far one link may put its clock off, in microseconds: its error and drift
abbrev pub hop_bound : Setting → ℕ → Hop → ℤ
hop_bound setting t x = x.err +ℤ pos (drifted setting t x.reading)

-- how far these links may put the last clock off, against the first link's
abbrev pub bound : Setting → ℕ → List Hop → ℤ
bound setting t [] = pos 0
bound setting t (x ∷ rest) = bound setting t rest +ℤ hop_bound setting t x

-- a Close of m corrects the link's node, which since then neither booted nor corrected its clock
pub record Hops (m : ℕ) (x : Hop) (h : List Line) : Type 0 where
  pub from_round : FromRound m x.close x.cpast x.correct x.past x.reading x.older x.err
  pub unchanged : Unchanged (node_at x) (x.correct ∷ x.past) h

-- further links: each rests on a Close of the node that the one before it corrects, after that Correct
abbrev pub IsChain : Hop → List Hop → List Line → Type 0
IsChain first [] h = Unit {0}
IsChain first (x ∷ rest) h = Hops (node_at (last_hop first rest)) x h × Within ((last_hop first rest).correct ∷ (last_hop first rest).past) x.cpast ×
    IsChain first rest h

-- how far the last node of a chain may be off the one whose Close is the first link's
abbrev pub chain_bound : Setting → ℕ → Hop → List Hop → ℤ
chain_bound setting t first rest = bound setting t rest +ℤ hop_bound setting t first

-- this holds down each chain: of its last node and m, which is left alone since the first link's Close, and of the sum of the links' bounds
abbrev pub OfChain : (ℕ → ℕ → ℤ → Type 0) → Setting → List Line → ℕ → Type 0
OfChain Holds setting h t = (m : ℕ) (first : Hop) (rest : List Hop) → Hops m first h → IsChain first rest h → UnchangedBut m first.close first.cpast h →
    Holds (node_at (last_hop first rest)) m (chain_bound setting t first rest)

-- across: of the last nodes of two chains that begin with one Close; its master may have changed since
abbrev pub OfChains : (ℕ → ℕ → ℤ → Type 0) → Setting → List Line → ℕ → Type 0
OfChains Holds setting h t = (m : ℕ) (a b : Hop) (xs ys : List Hop) → Hops m a h → Hops m b h → a.close ≡ b.close → a.cpast ≡ b.cpast → IsChain a xs h →
    IsChain b ys h →
    Holds (node_at (last_hop a xs)) (node_at (last_hop b ys)) (chain_bound setting t a xs +ℤ chain_bound setting t b ys)

-- over a tree: of the last nodes of two chains that begin with two Closes of one node, which is left alone since each of them
abbrev pub OfTree : (ℕ → ℕ → ℤ → Type 0) → Setting → List Line → ℕ → Type 0
OfTree Holds setting h t = (g : ℕ) (a b : Hop) (xs ys : List Hop) → Hops g a h → Hops g b h → UnchangedBut g a.close a.cpast h →
    UnchangedBut g b.close b.cpast h → IsChain a xs h → IsChain b ys h →
    Holds (node_at (last_hop a xs)) (node_at (last_hop b ys)) (chain_bound setting t a xs +ℤ chain_bound setting t b ys)

-- the clocks of such nodes differ by at most that
abbrev pub ChainAgrees : Setting → List Line → ℕ → Type 0
ChainAgrees setting h t = OfChain (ClocksWithin setting h t) setting h t

abbrev pub ChainsAgree : Setting → List Line → ℕ → Type 0
ChainsAgree setting h t = OfChains (ClocksWithin setting h t) setting h t

abbrev pub TreeAgrees : Setting → List Line → ℕ → Type 0
TreeAgrees setting h t = OfTree (ClocksWithin setting h t) setting h t

-- after the history h, at true time t: down a chain, across two of one Close, and over a tree
pub record ChainedAt (setting : Setting) (h : List Line) (t : ℕ) : Type 0 where
  pub down : ChainAgrees setting h t
  pub across : ChainsAgree setting h t
  pub tree : TreeAgrees setting h t

-- so it is at each place and later
abbrev pub Chained : Setting → List Line → Type 0
Chained setting = Lasting (ChainedAt setting)

-- after the history h, at true time t: the Correct c of a node k takes an ADJTIME of a Close of g, and the Correct d of
-- g, before that Close, one of a Close of m. As long as k, g and m are left alone since, m but for the Correct right
-- after its Close, the clocks of k and m differ by at most both errors and drift
abbrev pub RelayAgrees : Setting → List Line → ℕ → Type 0
RelayAgrees setting h t =
    (g m : ℕ) (close shut : Line) (cpast spast : List Line) (c d : Line) (past qast : List Line) (r q : Line) (rolder qolder : List Line) (e f : ℤ) →
    FromRound g close cpast c past r rolder e → FromRound m shut spast d qast q qolder f → node_of d ≡ g → Within (d ∷ qast) cpast →
    Unchanged (node_of c) (c ∷ past) h → Unchanged (node_of d) (d ∷ qast) h → UnchangedBut m shut spast h →
    ClocksWithin setting h t (node_of c) m ((f +ℤ e) +ℤ pos (drifted setting t q + drifted setting t r))

-- so it is at each place and later
abbrev pub Relayed : Setting → List Line → Type 0
Relayed setting = Lasting (RelayAgrees setting)
