-- Right after a correction that is slewed, a page shows hardly more than the clock.
use Rattle.std.proofs.Common.{◌≡◌, ℕ, ◌+◌, ◌-◌, ◌*◌, ◌/◌, ◌≤◌, false, ℤ, pos, negsuc, ◌+ℤ◌, ◌-ℤ◌, ◌≤ℤ◌, List, ◌∷◌, ap, sym, subst, arith}
use Rattle.std.proofs.lemmas.Int.{ints, clamps}
use Rattle.std.specs.Int.{int_max}
use Rattle.tsp_base.specs.declared.act.Act.TheVariants.{Correct}
use Rattle.tsp_base.specs.Words.{Acts, Did, base, eased, last_correct, moved, rest, rest_at, shown, target}
use Rattle.tsp_page.specs.{Formula.clock_shown_at, Formula.shown_at, Pasts.TellsOf}
use Rattle.tsp_page.specs.declared.daemon_half.DaemonHalf.{DaemonHalf}
use Rattle.tsp_page.proofs.{PastLemmas.shown_told, Rising.clock_rises}

-- slewing takes no more off a rest than it lasts, whichever sign the rest has
eased_least : (r : ℤ) (n m : ℕ) → n ≤ m → eased r n ≤ℤ (eased r m +ℤ pos (m - n))
eased_least (pos r) n m h = grind (arith, ints)
eased_least (negsuc r) n m h = grind (arith, ints)

eased_most : (r : ℤ) (n : ℕ) → eased r n ≤ℤ (r +ℤ pos n)
eased_most (pos r) n = grind (arith, ints)
eased_most (negsuc r) n = grind (arith, ints)

-- two-hundredths of a time that is counted from two moments
parts : (at c w : ℕ) → at ≤ c → c ≤ w → ((c - at) / 200 ≤ (w - at) / 200) × ((w - at) / 200 - (c - at) / 200 ≤ (w - c) / 200 + 1)
parts at c w h k = (omega arith, omega arith)

-- what is shown by the clock before the correction and by the one after it
near_by : (target amount old at_c fresh : ℤ) (d q : ℕ) → at_c ≤ℤ (old +ℤ pos d) → d ≤ q + 1 → fresh ≤ℤ ((at_c +ℤ amount) +ℤ pos q)
    → (target -ℤ old) ≤ℤ (((target +ℤ amount) -ℤ fresh) +ℤ pos (2 * q + 1))
near_by target amount old at_c fresh d q h l k = omega (arith, ints, h, l, k)

max_second : (m a : ℤ) → a ≤ℤ int_max m a
max_second m a = omega (arith, ints, clamps)

plus_moved : (b m amount : ℤ) (w : ℕ) → (b +ℤ (m +ℤ amount)) +ℤ pos w ≡ ((b +ℤ m) +ℤ pos w) +ℤ amount
plus_moved b m amount w = omega (arith, ints)

pub shown_near : (ds : List Did) (d : Did) (amount value : ℤ) (w : ℕ) → d.deed ≡ Acts (Correct amount false value) → last_correct ds ≤ d.tick → d.tick ≤ w
    → shown ds w ≤ℤ (shown (d ∷ ds) w +ℤ pos (2 * ((w - d.tick) / 200) + 1))
shown_near ds d amount value w deed after by =
    let at_c = eased (rest ds) ((d.tick - last_correct ds) / 200) in
    let fresh = eased (at_c +ℤ amount) ((w - d.tick) / 200) in
    let p = parts (last_correct ds) d.tick w after by in
    let e = eased_least (rest ds) ((d.tick - last_correct ds) / 200) ((w - last_correct ds) / 200) p.0 in
    let f = eased_most (at_c +ℤ amount) ((w - d.tick) / 200) in
    let near = near_by (target ds w) amount (rest_at ds w) at_c fresh ((w - last_correct ds) / 200 - (d.tick - last_correct ds) / 200) ((w - d.tick)
    / 200) e p.1 f in
    let new : shown (d ∷ ds) w ≡ (target ds w +ℤ amount) -ℤ fresh = rw deed (ap (λ z. z -ℤ fresh) (plus_moved (base ds) (moved ds) amount w)) in
    rw new near

-- a page whose least is no more than what was shown then shows hardly more than the clock later
above : (least old now later : ℤ) (n : ℕ) → least ≤ℤ old → old ≤ℤ (now +ℤ pos n) → now ≤ℤ later → (int_max least later) ≤ℤ (later +ℤ pos n)
above least old now later n h k l = omega (arith, ints, clamps, h, k, l)

pub page_near : (ds : List Did) (d : Did) (amount value : ℤ) (old new : DaemonHalf) (w x : ℕ) → d.deed ≡ Acts (Correct amount false value)
    → last_correct ds ≤ d.tick
    → d.tick ≤ w → w ≤ x → TellsOf ds old → TellsOf (d ∷ ds) new → new.least ≤ℤ clock_shown_at old w
    → shown_at new x ≤ℤ (clock_shown_at new x +ℤ pos (2 * ((w - d.tick) / 200) + 1))
page_near ds d amount value old new w x deed after by later t u least =
    let then = shown_told ds old w t in
    let now = shown_told (d ∷ ds) new w u in
    let near = shown_near ds d amount value w deed after by in
    above new.least (shown ds w) (clock_shown_at new w) (clock_shown_at new x) (2 * ((w - d.tick) / 200) + 1)
    (subst (λ z. new.least ≤ℤ z) then least) (subst (λ z. shown ds w ≤ℤ (z +ℤ pos (2 * ((w - d.tick) / 200) + 1))) (sym now) near) (clock_rises new w x later)

pub page_above : (new : DaemonHalf) (x : ℕ) → clock_shown_at new x ≤ℤ shown_at new x
page_above new x = max_second new.least (clock_shown_at new x)
