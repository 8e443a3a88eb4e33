-- What a run posts and takes has its parts in their ranges, so a reader takes from its octets what was posted.
use Rattle.std.proofs.Common.{sym, subst, inl, inr, arith, eq-eqb, ◌≡◌, ℕ, ◌+◌, ◌<◌, ◌^◌, ◌==◌, Bool, true, false, if◌then◌else◌, List, [], ◌∷◌, refl}
use Rattle.tsp_rules.specs.Values.{Datagram, Message, Stamp, Taken, Good, Bad, Kind, Body, Nothing, TimeBody, Hops, Request, Reply}
use Rattle.tsp_base.specs.Words.{Line, of, body_fits, word, Within}
use Rattle.tsp_codec.specs.{Canon.canon, Canon.IsWritable, Canon.IsWritableBody, Faults.Reads, Spelling.Spells, Spelling.SpellsBody}
use Rattle.tsp_codec.specs.{Numbers.octet_at, Numbers.be16_at, Numbers.be64_at, Taken.taken_of}
use Rattle.tsp_codec.proofs.TakenOf.{Reads_taken_of, taken_of_canon}
use Rattle.tsp_promises.specs.Sound.{IsSound, IsSoundBody, IsSoundDeed, IsSoundTaken}
use Rattle.tsp_run.proofs.SoundAll.{AreSoundLines}

body_writable : (b : Body) → IsSoundBody b → IsWritableBody b
body_writable Nothing s = s
body_writable (Hops h) s = s
body_writable (TimeBody t) s = s

-- what is sound can be written, and is read as it was
pub sound_writable : (d : Datagram) → IsSound d → IsWritable d
sound_writable (Message m) s = (s.0, s.1, s.2, body_writable m.body s.3)
sound_writable (Stamp (Request word counter)) s = s
sound_writable (Stamp (Reply r)) s = s

pub sound_read : (d : Datagram) → IsSound d → taken_of (canon d) ≡ Good d
sound_read d s = taken_of_canon d (sound_writable d s)

-- numbers in octets
abbrev AreOctets : List ℕ → Type 0
AreOctets o = (i : ℕ) → octet_at o i < 256

be16_small : (o : List ℕ) (i : ℕ) → AreOctets o → be16_at o i < 2 ^ 16
be16_small o i h = let a = h i in let b = h (i + 1) in omega (arith, a, b)

be64_small : (o : List ℕ) (i : ℕ) → AreOctets o → be64_at o i < 2 ^ 64
be64_small o i h =
    let a = h i in let b = h (i + 1) in let c = h (i + 2) in let d = h (i + 3) in let e = h (i + 4) in let f = h (i + 5) in let g = h (i + 6) in let k =
    h (i + 7) in
    omega (arith, a, b, c, d, e, f, g, k)

body_sound : (o : List ℕ) (k : Kind) (b : Body) → AreOctets o → SpellsBody o k b → (body_fits k b ≡ true) × IsSoundBody b
unfolding body_fits
body_sound o k Nothing h s = (rw (s.0, s.1) refl, tt)
body_sound o k (Hops n) h s = (s.1, (let few = h 4 in let is = s.2 in omega (arith, few, is)))
body_sound o k (TimeBody t) h s = (s.0, rw s.2 s.1.value)

spelled_sound : (o : List ℕ) (d : Datagram) → AreOctets o → Spells o d → IsSound d
spelled_sound o (Message m) h s = let b = body_sound o m.kind m.body h s.body in (
  (let few = be16_small o 2 h in let is = s.number in omega (arith, few, is)),
  b.0,
  s.name.0,
  b.1,
)
spelled_sound o (Stamp (Request word counter)) h s = (
  (let few = be64_small o 4 h in let is = s.word_read in omega (arith, few, is)),
  (let few = be64_small o 12 h in let is = s.counter_read in
      omega (arith, few, is)),
)
spelled_sound o (Stamp (Reply r)) h s = (
  (let few = be64_small o 4 h in let is = s.word in omega (arith, few, is)),
  (let few = be64_small o 12 h in let is = s.counter in omega (arith, few, is)),
  s.valid,
)

taken_sound : (o : List ℕ) (t : Taken) → AreOctets o → Reads o t → IsSoundTaken t
taken_sound o (Good d) h r = spelled_sound o d h r
taken_sound o (Bad fault) h r = tt

-- what a reader takes from octets is sound
pub octets_sound : (o : List ℕ) → ((i : ℕ) → octet_at o i < 256) → IsSoundTaken (taken_of o)
octets_sound o h = taken_sound o (taken_of o) h (Reads_taken_of o)

-- each line of a sound history is sound
pub line_sound : (h : List Line) (l : Line) (older : List Line) → Within (l ∷ older) h → AreSoundLines (of l.did.step.node h) → IsSoundDeed l.did.deed
line_sound [] l older w s = let bad : ⊥ = cc in absurd bad
line_sound (k ∷ before) l older (inl e) s =
    let n = l.did.step.node in
    let own : (n == n) ≡ true = eq-eqb n n refl in
    let now : AreSoundLines (of n (l ∷ older)) = subst (λ h. AreSoundLines (of n h)) (sym e) s in
    (subst (λ b. AreSoundLines (if b then l ∷ of n older else of n older)) own now).0
line_sound (k ∷ before) l older (inr w) s = line_sound before l older w (by_node (k.did.step.node == l.did.step.node) s) where
  by_node : (b : Bool) → AreSoundLines (if b then k ∷ of l.did.step.node before else of l.did.step.node before) → AreSoundLines (of l.did.step.node before)
  by_node true s = s.1
  by_node false s = s
