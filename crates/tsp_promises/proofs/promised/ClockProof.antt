-- The clock at a place is the target that the node's past gives. What a booted node's clock shows.
use Rattle.std.proofs.Common.{sym, ap, arith, subst, subst₂, true≢false, ◌∙◌, ◌≡◌, true, ℕ, ℤ, pos, ◌+ℤ◌, ◌-ℤ◌, List, [], ◌∷◌, refl, inl, inr}
use Rattle.std.proofs.lemmas.Int.{ints}
use Rattle.tsp_rules.specs.Values.{Boot, Post, Datagram, Place}
use Rattle.tsp_base.specs.Words.{Deed, Begins, Acts, Did, Line, of, dids, base, boot_after, boot_tick, lives, lives_after, moved, target, up, up_after, wall}
use Rattle.tsp_base.specs.Words.{wall_after, rest_at, Within}
use Rattle.tsp_promises.specs.{Fits.Fits, Fits.LineFits, Fits.Alive, Fits.node_of, Setting.Setting, ClockAt.left_at, ClockAt.shown_at}
use Rattle.tsp_promises.proofs.promised.OwnFitsProof.{node_walk}
use Rattle.tsp_promises.{proofs.shared.HistoryPlaces.of_own, proofs.shared.HistoryPlaces.Within_of, specs.ClockAt.clock, specs.ClockAt.clock_at}

base_deed : (setting : Setting) (d : Did) (t : List Did) (deed : Deed) → Alive setting deed d t → (up t ≡ true → base t ≡ setting.wall d.step.node (lives t)) →
    up_after deed (up t) ≡ true →
    wall_after deed d.step.cause (wall t) -ℤ pos (boot_after deed d.tick (boot_tick t)) ≡ setting.wall d.step.node (lives_after deed (lives t))
base_deed setting d t Begins a h u = h u
base_deed setting d t (Acts Boot) a h u = rw a.1 (omega (arith, ints))
base_deed setting d t (Acts act) a h u = h u

-- an uncorrected clock is the node's wall in this life and its ticks
pub base_is : (setting : Setting) (n : ℕ) (world : List Line) → Fits setting world → up (dids (of n world)) ≡ true →
    base (dids (of n world)) ≡ setting.wall n (lives (dids (of n world)))
base_is setting n = node_walk setting n (λ world own. up (dids own) ≡ true → base (dids own) ≡ setting.wall n (lives (dids own)))
    (λ u. absurd (true≢false (sym u)))
    (λ l world f node h u. base_deed setting l.did (dids (of n world)) l.did.deed
    (subst (λ k. Alive setting l.did.deed l.did (dids (of k world))) node f.0.alive) (λ e. h e ∙
    ap (λ k. setting.wall k (lives (dids (of n world)))) (sym node)) u
    ∙ ap (λ k. setting.wall k (lives_after l.did.deed (lives (dids (of n world))))) node)
    (λ l world f h. h)

-- a clock less its node's tick: the wall clock at tick 0 in this life, and what the Corrects since the boot moved it by
abbrev pub offset : Setting → ℕ → List Line → ℤ
offset setting n h = setting.wall n (lives (dids (of n h))) +ℤ moved (dids (of n h))

-- in one life it changes by what the Corrects move it by
pub offset_same : (setting : Setting) (n : ℕ) (s h : List Line) → lives (dids (of n s)) ≡ lives (dids (of n h)) → moved (dids (of n s)) ≡
    moved (dids (of n h)) →
    offset setting n s ≡ offset setting n h
offset_same setting n s h life still = subst₂ (λ x y. offset setting n s ≡ setting.wall n x +ℤ y) life still refl

plus_more : (w a b : ℤ) → w +ℤ (a +ℤ b) ≡ (w +ℤ a) +ℤ b
plus_more w a b = omega (arith, ints)

pub offset_more : (setting : Setting) (n : ℕ) (s h : List Line) (amount : ℤ) → lives (dids (of n s)) ≡ lives (dids (of n h)) →
    moved (dids (of n h)) ≡ moved (dids (of n s)) +ℤ amount → offset setting n h ≡ offset setting n s +ℤ amount
offset_more setting n s h amount life more =
    subst₂ (λ x y. setting.wall n x +ℤ y ≡ offset setting n s +ℤ amount) life (sym more) (plus_more (setting.wall n (lives (dids (of n s))))
    (moved (dids (of n s))) amount)

-- the clock before a line, at its time, is the target that its node's past gives
pub target_is : (setting : Setting) (l : Line) (world : List Line) → Fits setting (l ∷ world) → up (dids (of (node_of l) world)) ≡ true →
    clock_at setting (node_of l) world l.did.step.at ≡ target (dids (of (node_of l) world)) l.did.tick
target_is setting l world f u =
    let b = base_is setting (node_of l) world f.1 u in
    rw (f.0.tick, b) refl

-- a poster has booted, and its clock is its target
pub post_up : (setting : Setting) (l : Line) (world : List Line) (to : Place) (datagram : Datagram) → LineFits setting l world → l.did.deed ≡
    Acts (Post to datagram) → up (dids (of (node_of l) world)) ≡ true
post_up setting l world to datagram f e = subst (λ k. Alive setting k l.did (dids (of (node_of l) world))) e f.alive

pub clock_post : (setting : Setting) (l : Line) (world : List Line) (to : Place) (datagram : Datagram) → Fits setting (l ∷ world) → l.did.deed ≡
    Acts (Post to datagram) →
    clock setting (node_of l) (l ∷ world) ≡ target (dids (of (node_of l) world)) l.did.tick
clock_post setting l world to datagram f e =
    let own = of_own (node_of l) l world refl in
    let still : moved (dids (l ∷ of (node_of l) world)) ≡ moved (dids (of (node_of l) world)) = rw e refl in
    let life : lives (dids (l ∷ of (node_of l) world)) ≡ lives (dids (of (node_of l) world)) = rw e refl in
    rw (own, still, life) (target_is setting l world f (post_up setting l world to datagram f.0 e))

up_deed : (deed : Deed) (b : _) → b ≡ true → up_after deed b ≡ true
up_deed (Acts Boot) b e = refl
up_deed _ b e = e

up_lines : (s t : List Line) → Within s t → up (dids s) ≡ true → up (dids t) ≡ true
up_lines s [] w e = subst (λ k. up (dids k) ≡ true) w e
up_lines s (l ∷ t) (inl w) e = subst (λ k. up (dids k) ≡ true) w e
up_lines s (l ∷ t) (inr w) e = up_deed l.did.deed (up (dids t)) (up_lines s t w e)

-- a node that has booted stays so
pub stays_up : (n : ℕ) (s t : List Line) → Within s t → up (dids (of n s)) ≡ true → up (dids (of n t)) ≡ true
stays_up n s t w e = up_lines (of n s) (of n t) (Within_of n s t w) e

-- its clock is its target
pub clock_target : (setting : Setting) (n : ℕ) (h : List Line) (t : ℕ) → Fits setting h → up (dids (of n h)) ≡ true → clock_at setting n h t ≡
    target (dids (of n h)) (setting.tick n t)
clock_target setting n h t f u = rw (base_is setting n h f u) refl

-- and it shows that less what is left to slew
pub shown_is : (setting : Setting) (n : ℕ) (h : List Line) (t : ℕ) → Fits setting h → up (dids (of n h)) ≡ true → shown_at setting n h t ≡
    clock_at setting n h t -ℤ left_at setting n h t
shown_is setting n h t f u = ap (λ z. z -ℤ rest_at (dids (of n h)) (setting.tick n t)) (sym (clock_target setting n h t f u))
