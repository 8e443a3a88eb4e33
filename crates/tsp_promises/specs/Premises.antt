-- What the promises ask of a schedule.
use Rattle.std.specs.Prelude.{◌≡◌, ◌≢◌, ◌≤◌, ◌<◌, ℕ, ◌+◌, ℤ, List, ◌∷◌}
use Rattle.tsp_rules.specs.Values.{Boot, Took, Post, Datagram, Taken, PeerId, Place, Peer, LIFE}
use Rattle.tsp_base.specs.Words.{Booted, Came, Handed, Acts, Line, of, dids, view, Within, begun, posted}
use Rattle.tsp_promises.specs.{Everywhere.Everywhere, Fits.node_of, Setting.Setting}

-- octets that are handed to a node from outside don't seem to come from a peer
abbrev pub HonestAt : Line → List Line → Type 0
HonestAt l world = l.did.step.cause ≡ Handed → (p : PeerId) (taken : Taken) → l.did.deed ≢ Acts (Took (Peer p) taken)

-- no peer's datagram is forged
abbrev pub Honest : List Line → Type 0
Honest = Everywhere HonestAt

-- what the line's step takes was posted at most `life` microseconds of true time before
abbrev pub TakenWithinAt : ℕ → Line → List Line → Type 0
TakenWithinAt life l world = (post : Line) (older : List Line) (to : Place) (datagram : Datagram) → Within (post ∷ older) world → post.did.deed ≡
    Acts (Post to datagram) →
    l.did.step.cause ≡ Came (posted (dids older)) → l.did.step.at ≤ post.did.step.at + life

-- no datagram lives longer than `life` microseconds of true time
abbrev pub TakenWithin : ℕ → List Line → Type 0
TakenWithin life = Everywhere (TakenWithinAt life)

-- no datagram lives longer than LIFE, 30 s
abbrev pub Life : List Line → Type 0
Life = TakenWithin LIFE

-- the boot at this line has another word than each boot before it, of any node
abbrev pub WordsAt : Line → List Line → Type 0
WordsAt l world = (other : Line) (older : List Line) (v w : ℕ) (x y : ℤ) → Within (other ∷ older) world → l.did.deed ≡ Acts Boot → other.did.deed ≡ Acts Boot →
    l.did.step.cause ≡ Booted w x → other.did.step.cause ≡ Booted v y → v ≢ w

-- the same, of boots of one node alone
abbrev pub OwnWordsAt : Line → List Line → Type 0
OwnWordsAt l world = (other : Line) (older : List Line) (v w : ℕ) (x y : ℤ) → node_of other ≡ node_of l → Within (other ∷ older) world → l.did.deed ≡
    Acts Boot → other.did.deed ≡ Acts Boot →
    l.did.step.cause ≡ Booted w x → other.did.step.cause ≡ Booted v y → v ≢ w

-- the words of any two boots of one node differ
abbrev pub OwnWords : List Line → Type 0
OwnWords = Everywhere OwnWordsAt

-- the words of any two boots differ
abbrev pub Words : List Line → Type 0
Words = Everywhere WordsAt

-- fewer than 32,768 sends with the port's own numbers began on this line's port since its node's boot
abbrev pub FewAt : Line → List Line → Type 0
FewAt l world = begun (view l.port (of (node_of l) (l ∷ world))) < 32768

-- no port begins 32,768 sends with its own numbers in one life of its node, from a boot to the next
abbrev pub Few : List Line → Type 0
Few = Everywhere FewAt

-- no other node with a line before this one has the name of this line's node
abbrev pub NamesApartAt : Setting → Line → List Line → Type 0
NamesApartAt setting l world = (other : Line) (older : List Line) → Within (other ∷ older) world → setting.name (node_of other) ≡ setting.name (node_of l) →
    node_of other ≡ node_of l

-- the names of the nodes differ
abbrev pub NamesApart : Setting → List Line → Type 0
NamesApart setting = Everywhere (NamesApartAt setting)
