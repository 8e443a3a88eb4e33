-- The lines of one step fit the history before it.
use Rattle.std.proofs.Common.{sym, ap, subst, inl, inr, arith, eq-eqb, eqb-true, ◌≡◌, ◌⊎◌, ℕ, ◌+◌, ◌<◌, ◌≤◌, ◌^◌, ◌==◌, ◌||◌, Bool, true, false, if◌then◌else◌}
use Rattle.std.proofs.Common.{List, [], ◌∷◌, length, refl}
use Rattle.std.proofs.lemmas.Bool.{cases_lt}
use Rattle.tsp_promises.proofs.{witness.StepChecks.Empty, witness.StepChecks.far_deed, witness.StepChecks.far_ends, shared.SendPlaces.posted_mono}
use Rattle.tsp_promises.specs.{DeedFits.ActFits, StepFacts.StepEnds}
use Rattle.tsp_promises.specs.{PortFits.PortFits, Setting.Setting, Setting.setup_of, Fits.Alive, Fits.TookFits, Fits.LineFits, Fits.Fits}
use Rattle.tsp_rules.specs.Values.{Act, Boot, Took, Post, Placed, Taken, Place, Port}
use Rattle.tsp_base.specs.Words.{first_port, joined, line_of, Cause, Came, Step, Deed, Begins, Acts, Did, Line, Seen, of, view, seen_as, is_shared, dids}
use Rattle.tsp_base.specs.Words.{time_of, Within, Setup, posted, posted_after}
use Rattle.tsp_base.proofs.{PlaceLemmas.Within_all, PlaceLemmas.Within_through, ViewPlaces.port_same, ViewPlaces.sees_own}
use Rattle.tsp_run.specs.Networks.{ports_on}

-- a line on one of so many ports, or of the whole node
abbrev pub IsOn : ℕ → Line → Type 0
IsOn ports l = is_shared l.did.deed ≡ false → l.port.0 < ports

-- all lines are such
abbrev pub AreOn : ℕ → List Line → Type 0
AreOn ports [] = Unit {0}
AreOn ports (l ∷ before) = IsOn ports l × AreOn ports before

-- each line is on a port that its node has, or of the whole node
abbrev pub ArePlaced : List (List ℕ) → List Line → Type 0
ArePlaced nets [] = Unit {0}
ArePlaced nets (l ∷ before) = IsOn (length (ports_on l.did.step.node nets)) l × ArePlaced nets before

pub of_placed : (nets : List (List ℕ)) (n : ℕ) (h : List Line) → ArePlaced nets h → AreOn (length (ports_on n nets)) (of n h)
of_placed nets n [] f = tt
of_placed nets n (l ∷ before) f = by_case (l.did.step.node == n) refl (of_placed nets n before f.1) where
  by_case : (b : Bool) → (l.did.step.node == n) ≡ b → AreOn (length (ports_on n nets)) (of n before) →
      AreOn (length (ports_on n nets)) (if b then l ∷ of n before else of n before)
  by_case true e o = (subst (λ m. IsOn (length (ports_on m nets)) l) (eqb-true l.did.step.node n e) f.0, o)
  by_case false e o = o

-- the acts of a step are on its node's ports
abbrev pub ActsOn : ℕ → List Placed → Type 0
ActsOn ports [] = Unit {0}
ActsOn ports (p ∷ rest) = (is_shared (Acts p.act) ≡ false → p.port.0 < ports) × ActsOn ports rest

-- a port that has no lines of its own
bystands : (ports : ℕ) (q : Port) → ports ≤ q.0 → (ls : List Line) → AreOn ports ls → Empty (view q ls)
bystands ports q past [] f = record { backs = refl; none = refl; heeded = refl; untaken = λ peers. refl; shut = λ p c. refl }
bystands ports q past (l ∷ before) f = by_case (l.port.0 == q.0) refl (is_shared l.did.deed) refl (bystands ports q past before f.1) where
  by_case : (a : Bool) → (l.port.0 == q.0) ≡ a → (b : Bool) → is_shared l.did.deed ≡ b → Empty (view q before) → Empty (seen_as (a || b) l.did ∷ view q before)
  by_case false e b i s = far_deed b l.did l.did.deed (view q before) refl i s
  by_case true e true i s = far_deed true l.did l.did.deed (view q before) refl i s
  by_case true e false i s = let same = eqb-true l.port.0 q.0 e in let less = f.0 i in absurd (omega (arith, same, less, past))

or_left : (a : Bool) → (a || false) ≡ true → a ≡ true
or_left true e = refl
or_left false e = e

-- each port of a node ends its step well, if those do that it has
pub all_end : (setup : Setup) (ports : ℕ) (q : Port) (ls : List Line) → AreOn ports ls → (q.0 < ports → StepEnds setup (view q ls)) → StepEnds setup (view q ls)
all_end setup ports q ls f ends = elim (cases_lt q.0 ports) [
  | inl has ↦ ends has
  | inr past ↦ far_ends setup (view q ls) (bystands ports q past ls f)
]

boot_or : (a : Act) → (a ≡ Boot) ⊎ (is_shared (Acts a) ≡ false)
boot_or Boot = inl refl
boot_or _ = inr refl

-- an act owes to its own port alone, and a boot to none
act_fits : (setting : Setting) (n : ℕ) (p : Placed) (d : Did) (q : Port) (ls : List Line) →
    (is_shared (Acts p.act) ≡ false → ActFits (setup_of setting n p.port) p.act d (view p.port ls)) → ((p.port.0 == q.0) || is_shared (Acts p.act)) ≡ true →
    ActFits (setup_of setting n q) p.act d (view q ls)
act_fits setting n p d q ls f e = elim (boot_or p.act) [
  | inl boot ↦ subst (λ k. ActFits (setup_of setting n q) k d (view q ls)) (sym boot) tt
  | inr own ↦ subst (λ r. ActFits (setup_of setting n r) p.act d (view r ls)) (port_same p.port q
      (or_left (p.port.0 == q.0) (subst (λ b. ((p.port.0 == q.0) || b) ≡ true) own e))) (f own)
]

-- what a step's line of an act takes, over the history before the step
abbrev pub TakenOk : Setting → Step → ℕ → List Line → Port → Act → Type 0
TakenOk setting step x history port (Took from t) = TookFits step.cause setting (line_of step x port (Acts (Took from t))) history from t
TakenOk setting step x history port _ = Unit {0}

abbrev pub AllTaken : Setting → Step → ℕ → List Line → List Placed → Type 0
AllTaken setting step x history [] = Unit {0}
AllTaken setting step x history (p ∷ rest) = TakenOk setting step x history p.port p.act × AllTaken setting step x history rest

-- a deed of a step, at its tick
abbrev pub did_in : Step → ℕ → Deed → Did
did_in step x deed = record { step = step; tick = x; deed = deed }

-- each act of a step, after these deeds of its node, is of a node that is up, or is its boot
abbrev pub AllAlive : Setting → Step → ℕ → List Did → List Placed → Type 0
AllAlive setting step x before [] = Unit {0}
AllAlive setting step x before (p ∷ rest) =
    Alive setting (Acts p.act) (did_in step x (Acts p.act)) before × AllAlive setting step x (did_in step x (Acts p.act) ∷ before) rest

taken_more : (setting : Setting) (step : Step) (x : ℕ) (port : Port) (history h : List Line) (from : Place) (t : Taken) → Within history h → (cause : Cause) →
    step.cause ≡ cause →
    TookFits cause setting (line_of step x port (Acts (Took from t))) history from t →
    TookFits cause setting (line_of step x port (Acts (Took from t))) h from t
taken_more setting step x port history h from t w (Came k) is f = record {
  post = f.post;
  older = f.older;
  place = Within_through (f.post ∷ f.older) history h f.place w;
  number = f.number;
  datagram = f.datagram;
  deed = f.deed;
  net = f.net;
  from_is = f.from_is;
  taken_is = f.taken_is;
}
taken_more setting step x port history h from t w _ is f = f

one_line : (step : Step) (x : ℕ) (port : Port) (deed : Deed) (h : List Line) → of step.node (line_of step x port deed ∷ h) ≡ line_of step x port deed ∷
    of step.node h
one_line step x port deed h = let same : (step.node == step.node) ≡ true = eq-eqb step.node step.node refl in rw same refl

-- a longer past fits only if the shorter one does
head_off : (setup : Setup) (b : Bool) (d : Did) (seen : List Seen) → PortFits setup (seen_as b d ∷ seen) → PortFits setup seen
head_off setup true d seen f = f.1
head_off setup false d seen f = f

fits_before : (setup : Setup) (q : Port) (step : Step) (x : ℕ) (acts : List Placed) (h : List Line) →
    PortFits setup (view q (of step.node (joined step x acts h))) → PortFits setup (view q (of step.node h))
fits_before setup q step x [] h f = f
fits_before setup q step x (p ∷ rest) h f =
    let l = line_of step x p.port (Acts p.act) in
    let longer = fits_before setup q step x rest (l ∷ h) f in
    head_off setup ((p.port.0 == q.0) || is_shared (Acts p.act)) l.did (view q (of step.node h))
    (subst (λ ls. PortFits setup (view q ls)) (one_line step x p.port (Acts p.act) h) longer)

-- what an act owes to its own port
owes_here : (setup : Setup) (step : Step) (x : ℕ) (p : Placed) (h : List Line) → PortFits setup (view p.port (of step.node (line_of step x p.port (Acts p.act) ∷
    h))) → ActFits setup p.act (record { step = step; tick = x; deed = Acts p.act }) (view p.port (of step.node h))
owes_here setup step x p h f =
    let l = line_of step x p.port (Acts p.act) in
    let fits : PortFits setup (seen_as ((p.port.0 == p.port.0) || is_shared (Acts p.act)) l.did ∷ view p.port (of step.node h)) =
    subst (λ ls. PortFits setup (view p.port ls)) (one_line step x p.port (Acts p.act) h) f in
    (subst (λ b. PortFits setup (seen_as b l.did ∷ view p.port (of step.node h))) (sees_own p.port (is_shared (Acts p.act))) fits).0

took_is : (setting : Setting) (step : Step) (x : ℕ) (history : List Line) (port : Port) (a : Act) (from : Place) (t : Taken) → a ≡ Took from t →
    TakenOk setting step x history port a → TookFits step.cause setting (line_of step x port (Acts (Took from t))) history from t
took_is setting step x history port a from t e f = subst (λ k. TakenOk setting step x history port k) e f

some_deed : (a : Act) (from : Place) (t : Taken) → Acts a ≡ Acts (Took from t) → a ≡ Took from t
some_deed a from t e = ap act_in e where
  act_in : Deed → Act
  act_in Begins = a
  act_in (Acts b) = b

-- one act more
act_line : (setting : Setting) (step : Step) (x : ℕ) (history : List Line) (port : Port) (d : Deed) (before : List Line) (p : Placed) → x ≡
    setting.tick step.node step.at → Within history (line_of step x port d ∷ before) →
    posted (dids (line_of step x port d ∷ before)) < 2 ^ 64 →
    Alive setting (Acts p.act) (did_in step x (Acts p.act)) (dids (of step.node (line_of step x port d ∷ before))) →
    TakenOk setting step x history p.port p.act → (is_shared (Acts p.act) ≡ false →
    ActFits (setup_of setting step.node p.port) p.act (record { step = step; tick = x; deed = Acts p.act })
    (view p.port (of step.node (line_of step x port d ∷ before)))) →
    LineFits setting (line_of step x p.port (Acts p.act)) (line_of step x port d ∷ before)
act_line setting step x history port d before p tick w few alive took fits = record {
  order = omega arith;
  tick = tick;
  few = few;
  step = refl;
  alive = alive;
  took = λ from t e.
      let is = some_deed p.act from t e in
      subst (λ k. TookFits step.cause setting (line_of step x p.port (Acts k)) (line_of step x port d ∷ before) from t) (sym is)
      (taken_more setting step x p.port history (line_of step x port d ∷ before) from t w step.cause refl (took_is setting step x history p.port p.act from t is
      took));
  deeds = λ q sees. act_fits setting step.node p (record { step = step; tick = x; deed = Acts p.act }) q (of step.node (line_of step x port d ∷ before)) fits
      sees;
}

pub posted_more : (d : Deed) (n : ℕ) → posted_after d n ≤ n + 1
posted_more (Acts (Post to datagram)) n = omega arith
posted_more _ n = omega arith

-- what was posted stays posted
pub posted_joined : (step : Step) (x : ℕ) (acts : List Placed) (h : List Line) → posted (dids h) ≤ posted (dids (joined step x acts h))
posted_joined step x [] h = omega arith
posted_joined step x (p ∷ rest) h =
    let l = line_of step x p.port (Acts p.act) in
    omega (arith, posted_mono h (l ∷ h) (inr (Within_all h)), posted_joined step x rest (l ∷ h))

-- all acts of a step
pub acts_fit : (ports : ℕ) (setting : Setting) (step : Step) (x : ℕ) (history : List Line) (acts : List Placed) (port : Port) (d : Deed) (before : List Line) →
    x ≡ setting.tick step.node step.at →
    ActsOn ports acts → Within history (line_of step x port d ∷ before) → posted (dids (joined step x acts (line_of step x port d ∷ before))) < 2 ^ 64 →
    AllAlive setting step x (dids (of step.node (line_of step x port d ∷ before))) acts → AllTaken setting step x history acts →
    ((q : Port) → q.0 < ports → PortFits (setup_of setting step.node q) (view q (of step.node (joined step x acts (line_of step x port d ∷ before))))) →
    Fits setting (line_of step x port d ∷ before) →
    Fits setting (joined step x acts (line_of step x port d ∷ before))
acts_fit ports setting step x history [] port d before tick on w few alive took fits f = f
acts_fit ports setting step x history (p ∷ rest) port d before tick on w few alive took fits f =
    let h = line_of step x port d ∷ before in
    let own_is : dids (of step.node (line_of step x p.port (Acts p.act) ∷ h)) ≡ did_in step x (Acts p.act) ∷ dids (of step.node h) =
    ap dids (one_line step x p.port (Acts p.act) h) in
    let own = λ (e : is_shared (Acts p.act) ≡ false).
    owes_here (setup_of setting step.node p.port) step x p h (fits_before (setup_of setting step.node p.port) p.port step x rest
    (line_of step x p.port (Acts p.act) ∷ h) (fits p.port (on.0 e))) in
    let kept = posted_joined step x (p ∷ rest) h in
    let line = act_line setting step x history port d before p tick w (omega (arith, few, kept)) alive.0 took.0 own in
    acts_fit ports setting step x history rest p.port (Acts p.act) h tick on.1 (inr w) few
    (subst (λ ds. AllAlive setting step x ds rest) (sym own_is) alive.1) took.1 fits
    (line, f)

-- the mark of a step
pub mark_line : (ports : ℕ) (setting : Setting) (step : Step) (x : ℕ) (history : List Line) → x ≡ setting.tick step.node step.at →
    AreOn ports (of step.node history) → time_of (dids history) ≤ step.at → posted (dids history) < 2 ^ 64 →
    ((q : Port) → q.0 < ports → StepEnds (setup_of setting step.node q) (view q (of step.node history))) →
    LineFits setting (line_of step x first_port Begins) history
mark_line ports setting step x history tick on order few ends = record {
  order = order;
  tick = tick;
  few = few;
  step = tt;
  alive = tt;
  took = λ from t e. let bad : ⊥ = cc in absurd bad;
  deeds = λ q sees. all_end (setup_of setting step.node q) ports q (of step.node history) on (ends q);
}
