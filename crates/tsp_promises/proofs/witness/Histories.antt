-- Small histories, step by step, and what shows that they fit.
use Rattle.std.proofs.Common.{sym, ap, arith, subst, subst₂, inr, eq-eqb, ◌∙◌, ◌≡◌, ◌==◌, Bool, true, false, ℕ, zero, suc, pos, ◌+ℤ◌, if◌then◌else◌, List, []}
use Rattle.std.proofs.Common.{◌∷◌, None, refl}
use Rattle.tsp_rules.specs.Values.{Act, Boot, Took, Post, Placed, Taken, Kind, Body, PeerId, Place, Port}
use Rattle.tsp_base.specs.Words.{Cause, Booted, Step, Begins, Acts, Deed, Line, of, dids, plain, view, first_port, line_of, stepped, MessageValue, up, is_among}
use Rattle.tsp_base.specs.Words.{Within, heard, peer_of, posted}
use Rattle.tsp_promises.specs.{DeedFits.ActFits, DeedFits.DeedFits, Fits.Alive, Fits.Sees, Fits.TookFits}
use Rattle.tsp_promises.specs.Setting.{Network, Named, Alone, Setting, setup_of}
use Rattle.tsp_base.proofs.{PlaceLemmas.Within_all, ViewPlaces.port_same, ViewPlaces.or-false}

-- nodes 0, 1 and 2 are on one network by port 0; nodes 1 and 3 on another, by the ports 1 and 0; nodes 3 and 2 on a third, by their ports 1
abbrev pub net_of : ℕ → ℕ → Network
net_of zero zero = Named 0
net_of (suc zero) zero = Named 0
net_of (suc zero) (suc zero) = Named 1
net_of (suc (suc zero)) zero = Named 0
net_of (suc (suc zero)) (suc zero) = Named 2
net_of (suc (suc (suc zero))) zero = Named 1
net_of (suc (suc (suc zero))) (suc zero) = Named 2
net_of n q = Alone n q

abbrev pub members_of : Network → List PeerId
members_of (Named zero) = peer_of 0 ∷ (peer_of 1 ∷ (peer_of 2 ∷ []))
members_of (Named (suc zero)) = peer_of 1 ∷ (peer_of 3 ∷ [])
members_of (Named k) = peer_of 2 ∷ (peer_of 3 ∷ [])
members_of (Alone n q) = peer_of n ∷ []

abbrev port_back : ℕ → Network → ℕ
port_back (suc zero) (Named (suc zero)) = 1
port_back (suc (suc zero)) (Named (suc (suc zero))) = 1
port_back (suc (suc (suc zero))) (Named (suc (suc zero))) = 1
port_back n (Named k) = 0
port_back n (Alone m q) = q

pub alone : (n : ℕ) → is_among (peer_of n) (peer_of n ∷ []) ≡ true
alone n = rw (eq-eqb n n refl) refl

-- each port's network names the port, and has its node
back : (n q : ℕ) → (port_back n (net_of n q) ≡ q) × (is_among (peer_of n) (members_of (net_of n q)) ≡ true)
back zero zero = (refl, refl)
back zero (suc q) = (refl, refl)
back (suc zero) zero = (refl, refl)
back (suc zero) (suc zero) = (refl, refl)
back (suc zero) (suc (suc q)) = (refl, refl)
back (suc (suc zero)) zero = (refl, refl)
back (suc (suc zero)) (suc zero) = (refl, refl)
back (suc (suc zero)) (suc (suc q)) = (refl, refl)
back (suc (suc (suc zero))) zero = (refl, refl)
back (suc (suc (suc zero))) (suc zero) = (refl, refl)
back (suc (suc (suc zero))) (suc (suc q)) = (refl, refl)
back (suc (suc (suc (suc n)))) q = (refl, alone (suc (suc (suc (suc n)))))

pub nets_apart : (n : ℕ) (p q : Port) → net_of n p.0 ≡ net_of n q.0 → p ≡ q
nets_apart n p q e = ap (λ k. let r : Port = record { 0 = k } in r) (sym (back n p.0).0 ∙ (ap (port_back n) e ∙ (back n q.0).0))

pub in_own : (n q : ℕ) → is_among (peer_of n) (members_of (net_of n q)) ≡ true
in_own n q = (back n q).1

-- clocks that run alike, and whether elections are strict
abbrev pub still : Bool → Setting
still strict = record {
  drift = 0;
  tick = λ n t. t;
  wall = λ n life. pos 0;
  name = λ n. n ∷ [];
  strict = strict;
  net = λ n q. net_of n q.0;
  members = members_of;
  small = omega arith;
  ticks = λ n. record { rises = λ s x. omega arith; fast = λ s x. omega arith; slow = λ s x. omega arith };
  apart = nets_apart;
  own = λ n q. in_own n q.0;
}

abbrev pub msg : Kind → ℕ → Body → MessageValue
msg kind number body = record { kind = kind; number = number; body = body; name = [] }

-- the same in a node's own name
abbrev pub named_msg : ℕ → Kind → ℕ → Body → MessageValue
named_msg n kind number body = record { kind = kind; number = number; body = body; name = n ∷ [] }

abbrev pub on : Port → Act → Placed
on port act = record { port = port; act = act }

-- a step of a node at this time
abbrev pub step_at : ℕ → ℕ → Cause → Step
step_at at node cause = record { at = at; node = node; cause = cause }

-- a history, and then a step with these acts
abbrev pub then_step : Step → List Placed → List Line → List Line
then_step step acts history = stepped step step.at acts history

abbrev pub post_here : ℕ → Deed → ℕ → List Line → List Line → List Line
post_here k (Acts (Post to datagram)) n here was = if n == k then here else was
post_here k _ n here was = was

-- the place of the post number k
abbrev pub post_at : ℕ → List Line → List Line
post_at k [] = []
post_at k (l ∷ t) = post_here k l.did.deed (posted (dids t)) (l ∷ t) (post_at k t)

-- a history without its newest lines
abbrev pub skip : ℕ → List Line → List Line
skip zero h = h
skip (suc n) [] = []
skip (suc n) (l ∷ t) = skip n t

pub skipped : (n : ℕ) (h : List Line) → Within (skip n h) h
skipped zero h = Within_all h
skipped (suc n) [] = refl
skipped (suc n) (l ∷ t) = inr (skipped n t)

-- a line of a step
abbrev pub line : Step → Port → Act → Line
line step port a = line_of step step.at port (Acts a)

-- a line on port 0
abbrev pub does : ℕ → ℕ → Cause → Act → Line
does at node cause a = line (step_at at node cause) (record { 0 = 0 }) a

-- a mark
abbrev pub begins : ℕ → ℕ → Cause → Line
begins at node cause = line_of (step_at at node cause) at first_port Begins

-- what an act owes in a history whose newest line is of its step
abbrev pub ActOk : Bool → Step → Port → Act → List Line → Type 0
ActOk strict step port Boot h = (word : ℕ) × (step.cause ≡ Booted word (pos 0 +ℤ pos step.at))
ActOk strict step port (Took from taken) h =
    (up (dids (of step.node h)) ≡ true) × ((heard (plain (view port (of step.node h))) ≡ None) ×
    TookFits step.cause (still strict) (line_of step step.at port (Acts (Took from taken))) h from taken)
ActOk strict step port a h = (up (dids (of step.node h)) ≡ true) × ActFits (setup_of (still strict) step.node port) a (line_of step step.at port (Acts a)).did
    (view port (of step.node h))

abbrev pub ActsOk : Bool → Step → List Placed → List Line → Type 0
ActsOk strict step [] h = Unit {0}
ActsOk strict step (p ∷ rest) h = ActOk strict step p.port p.act h × ActsOk strict step rest (line_of step step.at p.port (Acts p.act) ∷ h)

pub alive_of : (strict : Bool) (step : Step) (port : Port) (a : Act) (h : List Line) → ActOk strict step port a h →
    Alive (still strict) (Acts a) (line_of step step.at port (Acts a)).did (dids (of step.node h))
alive_of strict step port Boot h ok = ok
alive_of strict step port _ h ok = ok.0

same_took : (f g : Place) (t u : Taken) → Acts (Took f t) ≡ Acts (Took g u) → (f ≡ g) × (t ≡ u)
same_took f g t u e = (cc, cc)

pub took_of : (strict : Bool) (step : Step) (port : Port) (a : Act) (h : List Line) → ActOk strict step port a h → (from : Place) (taken : Taken) → Acts a ≡
    Acts (Took from taken) → TookFits step.cause (still strict) (line_of step step.at port (Acts a)) h from taken
took_of strict step port (Took f t) h ok from taken e =
    let s = same_took f from t taken e in
    subst₂ (λ x y. TookFits step.cause (still strict) (line_of step step.at port (Acts (Took f t))) h x y) s.0 s.1 ok.1.1
took_of strict step port _ h ok from taken e = let bad : ⊥ = cc in absurd bad

pub deeds_of : (strict : Bool) (step : Step) (port : Port) (a : Act) (h : List Line) → ActOk strict step port a h → (q : Port) →
    Sees q (line_of step step.at port (Acts a)) →
    DeedFits (setup_of (still strict) step.node q) (Acts a) (line_of step step.at port (Acts a)).did (view q (of step.node h))
deeds_of strict step port Boot h ok q sees = tt
deeds_of strict step port (Took from taken) h ok q sees = subst (λ p. heard (plain (view p (of step.node h))) ≡
    None) (port_same port q (or-false (port.0 == q.0) false sees refl)) ok.1.0
deeds_of strict step port a h ok q sees =
    subst (λ p. ActFits (setup_of (still strict) step.node p) a (line_of step step.at port (Acts a)).did (view p (of step.node h)))
    (port_same port q (or-false (port.0 == q.0) false sees refl)) ok.1
