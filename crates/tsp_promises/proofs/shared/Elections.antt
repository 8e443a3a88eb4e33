-- What a deed owes to elections, and why two lists of different peers that are longer together than the list of all
-- have one in common.
use Rattle.std.proofs.Common.{sym, inl, inr, true≢false, eq-eqb, ◌∙◌, ◌≡◌, ◌⊎◌, ℕ, ◌+◌, ◌%◌, ◌==◌, true, false, List, [], ◌∷◌, refl, ap, arith, ◌≤◌, ◌<◌, Bool}
use Rattle.std.proofs.Common.{◌||◌, if◌then◌else◌, length}
use Rattle.std.proofs.{Math.Bool.or-true, lemmas.Bool.or_cases}
use Rattle.tsp_rules.specs.Values.{Post, Become, Backer, Message, Kind, Accept, Election, PeerId, Peer, Master}
use Rattle.tsp_rules.proofs.GuardFacts.{same_peer}
use Rattle.tsp_base.specs.Words.{Deed, Acts, Did, Line, Seen, of, view, plain, MessageValue, word, is_among, acting, begun, Setup}
use Rattle.tsp_promises.specs.{DeedFits.DeedFits, DeedFits.MessageFits, HoldFits.AcceptFits, HoldFits.BackerFits, HoldFits.LeadFits}
use Rattle.tsp_promises.specs.{Everywhere.Everywhere, Fits.Fits, Fits.node_of, Setting.Setting, Setting.setup_of}
use Rattle.tsp_promises.proofs.promised.OwnFitsProof.{deed_fits}

-- p is one of these
abbrev pub In : PeerId → List PeerId → Type 0
In p [] = ⊥
In p (q ∷ rest) = (q ≡ p) ⊎ In p rest

pub in_among : (p : PeerId) (ps : List PeerId) → is_among p ps ≡ true → In p ps
in_among p [] e = absurd (true≢false (sym e))
in_among p (q ∷ rest) e = elim (or_cases (q.0 == p.0) (is_among p rest) e) [
  | inl h ↦ inl (same_peer q p h)
  | inr h ↦ inr (in_among p rest h)
]

among_in : (p : PeerId) (ps : List PeerId) → In p ps → is_among p ps ≡ true
among_in p [] i = absurd i
among_in p (q ∷ rest) (inl e) = (let same : (q.0 == p.0) ≡ true = eq-eqb q.0 p.0 (cc) in rw same refl)
among_in p (q ∷ rest) (inr i) = (let later = among_in p rest i in rw later (or-true (q.0 == p.0)))

pub not_among : (p : PeerId) (ps : List PeerId) → is_among p ps ≡ false → In p ps → ⊥
not_among p ps e i = true≢false (sym (among_in p ps i) ∙ e)

-- an ELECTION that begins has the port's next own number
pub record AskFits (before : List Seen) (number : ℕ) : Type 0 where
  pub next : acting before ≡ true → number ≡ 32768 + (word (plain before) + begun before) % 32768

abbrev pub VoteFits : Kind → List Seen → PeerId → MessageValue → Type 0
VoteFits Election before p m = AskFits before m.number
VoteFits Accept before p m = AcceptFits before p m.number
VoteFits _ before p m = Unit {0}

-- what is owed to elections
abbrev pub ElectFits : Setup → Deed → Did → List Seen → Type 0
ElectFits who (Acts (Post (Peer p) (Message m))) here before = VoteFits m.kind before p m
ElectFits who (Acts (Backer p)) here before = BackerFits who here before p
ElectFits who (Acts (Become Master)) here before = LeadFits who here before
ElectFits who _ here before = Unit {0}

vote_fits : (who : Setup) (k : Kind) (here : Did) (before : List Seen) (p : PeerId) (m : MessageValue) → MessageFits who k here before p m →
    VoteFits k before p m
vote_fits who Election here before p m f = record { next = f.numbered.next }
vote_fits who Accept here before p m f = f
vote_fits who _ here before p m f = tt

elect_fits : (who : Setup) (deed : Deed) (here : Did) (before : List Seen) → DeedFits who deed here before → ElectFits who deed here before
elect_fits who (Acts (Post (Peer p) (Message m))) here before f = vote_fits who m.kind here before p m f.fits
elect_fits who (Acts (Backer p)) here before f = f
elect_fits who (Acts (Become Master)) here before f = f
elect_fits who _ here before f = tt

abbrev pub ElectsAt : Setting → Line → List Line → Type 0
ElectsAt setting l world = ElectFits (setup_of setting (node_of l) l.port) l.did.deed l.did (view l.port (of (node_of l) world))

-- each line owes nothing to elections
abbrev pub Elects : Setting → List Line → Type 0
Elects setting = Everywhere (ElectsAt setting)

pub elects : (setting : Setting) (world : List Line) → Fits setting world → Elects setting world
elects setting [] f = tt
elects setting (l ∷ world) f = (
  elect_fits (setup_of setting (node_of l) l.port) l.did.deed l.did (view l.port (of (node_of l) world))
      (deed_fits setting l world l.did.deed refl f.0),
  elects setting world f.1,
)

-- no peer stands twice
abbrev pub Distinct : List PeerId → Type 0
Distinct [] = Unit {0}
Distinct (p ∷ rest) = (In p rest → ⊥) × Distinct rest

-- all of these are among those
abbrev pub AllIn : List PeerId → List PeerId → Type 0
AllIn [] all = Unit {0}
AllIn (p ∷ rest) all = In p all × AllIn rest all

abbrev pub among : List PeerId → PeerId → Bool
among [] z = false
among (p ∷ rest) z = (p.0 == z.0) || among rest z

abbrev pub counted : (PeerId → Bool) → List PeerId → ℕ
counted test [] = 0
counted test (z ∷ rest) = if test z then counted test rest + 1 else counted test rest

pub found_in : (xs : List PeerId) (z : PeerId) → among xs z ≡ true → In z xs
found_in [] z e = absurd (true≢false (sym e))
found_in (p ∷ rest) z e = by_case (p.0 == z.0) refl (found_in rest z) e where
  by_case : (b : Bool) → (p.0 == z.0) ≡ b → (among rest z ≡ true → In z rest) → (b || among rest z) ≡ true → In z (p ∷ rest)
  by_case true is h f = inl (same_peer p z is)
  by_case false is h f = inr (h f)

-- what one more peer adds to two counts, the second by a wider test
count_step : (k m n : ℕ) (a b : Bool) → (a ≡ true → b ≡ true) → m + k ≤ n → (if a then m + 1 else m) + k ≤ (if b then n + 1 else n)
count_step k m n true true i h = omega (arith, h)
count_step k m n true false i h = absurd (true≢false (sym (i refl)))
count_step k m n false true i h = omega (arith, h)
count_step k m n false false i h = h

either : (p z : PeerId) (rest : List PeerId) → among rest z ≡ true → among (p ∷ rest) z ≡ true
either p z rest e = rw e (or-true (p.0 == z.0))

wider : (p : PeerId) (rest all : List PeerId) → counted (among rest) all ≤ counted (among (p ∷ rest)) all
wider p rest [] = omega arith
wider p rest (z ∷ all) =
    let h =
    count_step 0 (counted (among rest) all) (counted (among (p ∷ rest)) all) (among rest z) (among (p ∷ rest) z) (either p z rest)
    (omega (arith, wider p rest all)) in
    omega (arith, h)

-- one more passes the wider test
one-more : (p : PeerId) (rest all : List PeerId) → (In p rest → ⊥) → In p all → counted (among rest) all + 1 ≤ counted (among (p ∷ rest)) all
one-more p rest [] n i = absurd i
one-more p rest (z ∷ all) n (inl e) =
    let here : (p.0 == z.0) ≡ true = eq-eqb p.0 z.0 (ap (λ (q : PeerId). q.0) (sym e)) in
    rw (here, none (among rest z) refl) (omega (arith, wider p rest all))
  where
    none : (b : Bool) → among rest z ≡ b → among rest z ≡ false
    none true b = absurd (n (found_in rest p (ap (among rest) (sym e) ∙ b)))
    none false b = b
one-more p rest (z ∷ all) n (inr i) =
    count_step 1 (counted (among rest) all) (counted (among (p ∷ rest)) all) (among rest z) (among (p ∷ rest) z) (either p z rest) (one-more p rest all n i)

-- different ones are no more than pass their test
few_in : (xs all : List PeerId) → Distinct xs → AllIn xs all → length xs ≤ counted (among xs) all
few_in [] all d i = omega arith
few_in (p ∷ rest) all d i = omega (arith, few_in rest all d.1 i.1, one-more p rest all d.0 i.0)

-- one that is in both
pub record Shared (xs ys : List PeerId) : Type 0 where
  pub peer : PeerId
  pub one : In peer xs
  pub two : In peer ys

shared_or_few : (xs ys all : List PeerId) → Shared xs ys ⊎ (counted (among xs) all + counted (among ys) all ≤ length all)
shared_or_few xs ys [] = inr (omega arith)
shared_or_few xs ys (z ∷ all) = elim (shared_or_few xs ys all) [
  | inl s ↦ inl s
  | inr h ↦ by_case (among xs z) (among ys z) refl refl h
] where
  by_case : (a b : Bool) → among xs z ≡ a → among ys z ≡ b → counted (among xs) all + counted (among ys) all ≤ length all →
      Shared xs ys ⊎ ((if a then counted (among xs) all + 1 else counted (among xs) all) + (if b then counted (among ys) all + 1 else counted (among ys) all) ≤
      length (z ∷ all))
  by_case true true a b h = inl (record { peer = z; one = found_in xs z a; two = found_in ys z b })
  by_case true false a b h = inr (omega (arith, h))
  by_case false true a b h = inr (omega (arith, h))
  by_case false false a b h = inr (omega (arith, h))

pub shared : (xs ys all : List PeerId) → Distinct xs → Distinct ys → AllIn xs all → AllIn ys all → length all < length xs + length ys → Shared xs ys
shared xs ys all dx dy ix iy more = elim (shared_or_few xs ys all) [
  | inl s ↦ s
  | inr h ↦ absurd (let a = few_in xs all dx ix in let b = few_in ys all dy iy in omega (arith, a, b, h, more))
]
