-- What a Correct prints is what the clock shows right after it.
use Rattle.std.proofs.Common.{sym, ap, arith, subst, ◌∙◌, ◌≡◌, ℕ, ◌-◌, ◌/◌, ℤ, pos, ◌+ℤ◌, ◌-ℤ◌, nat_lt, nat_abs, Bool, true, false, ◌||◌, if◌then◌else◌, List}
use Rattle.std.proofs.Common.{◌∷◌, Some, refl, neg_ℤ, ◌<ℤ◌}
use Rattle.std.proofs.lemmas.Int.{ints}
use Rattle.tsp_rules.specs.Values.{Took, Correct, Message, Good, Kind, SetTime, Place, MAXADJ, SLEW, LIMIT}
use Rattle.tsp_rules.proofs.Asides.{now}
use Rattle.tsp_rules.{specs.Guards.target_at, specs.Guards.is_in_range, proofs.GuardFacts.clock_low, proofs.GuardFacts.clock_high}
use Rattle.tsp_base.specs.Words.{Acts, Did, Here, Past, Seen, Step, plain, MessageValue, base, eased, moved, rest, rest_at, shown, target, taken_after}
use Rattle.tsp_base.specs.Words.{sets_date, heard, time_in}
use Rattle.tsp_base.proofs.TickLemmas.{eased_none}
use Rattle.tsp_promises.specs.{CorrectFits.is_stepped, CorrectFits.sets_time, CorrectionFits.SetsTarget}

-- what a SETTIME carries that a master sends a slave

-- a SETTIME carries the target, which is in a clock's range
pub sets_target : (x : ℕ) (past : Past) (d : Did) (m : MessageValue) → d.tick ≡ x → time_in m.body ≡ target_at x past → is_in_range x past ≡ true →
    SetsTarget d past.seen m
sets_target x past d m tick time e = record {
  time = time ∙ ap (λ y. target (plain past.seen) y) (sym tick);
  low = subst (λ y. neg_ℤ LIMIT <ℤ target (plain past.seen) y) (sym tick) (clock_low (target_at x past) e);
  high = subst (λ y. target (plain past.seen) y <ℤ LIMIT) (sym tick) (clock_high (target_at x past) e);
}

-- nothing is slewed in no time
eased_now : (r : ℤ) (x : ℕ) → eased r ((x - x) / SLEW) ≡ r
eased_now r x = let none : (x - x) / SLEW ≡ 0 = omega arith in subst (λ n. eased r n ≡ r) (sym none) (eased_none r)

moves_on : (c m a e f : ℤ) (x : ℕ) → e ≡ f → ((c +ℤ (m +ℤ a)) +ℤ pos x) -ℤ e ≡ (((c +ℤ m) +ℤ pos x) +ℤ a) -ℤ f
moves_on c m a e f x h = omega (arith, ints)

less_none : (z : ℤ) → z -ℤ pos 0 ≡ z
less_none z = omega (arith, ints)

leaves_as_it_was : (t a e : ℤ) → (t +ℤ a) -ℤ (e +ℤ a) ≡ t -ℤ e
leaves_as_it_was t a e = omega (arith, ints)

-- after a Correct that is stepped the clock shows its new target
pub after_step : (step : Step) (x : ℕ) (b : List Did) (amount value : ℤ) → shown (record { step = step; tick = x; deed = Acts (Correct amount true value) } ∷
    b) x ≡ target b x +ℤ amount
after_step step x b amount value = moves_on (base b) (moved b) amount (eased (pos 0) ((x - x) / SLEW)) (pos 0) x (eased_now (pos 0) x) ∙
    less_none (target b x +ℤ amount)

pub shows_target : (step : Step) (x : ℕ) (b : List Did) (amount value : ℤ) → let ds : List Did =
    record { step = step; tick = x; deed = Acts (Correct amount true value) } ∷ b in shown ds x ≡ target ds x
shows_target step x b amount value =
    let ds : List Did = record { step = step; tick = x; deed = Acts (Correct amount true value) } ∷ b in
    ap (λ e. target ds x -ℤ e) (eased_now (pos 0) x) ∙ less_none (target ds x)

-- after one that is slewed it shows what it showed
pub after_slew : (step : Step) (x : ℕ) (b : List Did) (amount value : ℤ) → shown (record { step = step; tick = x; deed = Acts (Correct amount false value) } ∷
    b) x ≡ shown b x
after_slew step x b amount value =
    moves_on (base b) (moved b) amount (eased (rest_at b x +ℤ amount) ((x - x) / SLEW)) (rest_at b x +ℤ amount) x (eased_now (rest_at b x +ℤ amount) x) ∙
    leaves_as_it_was (target b x) amount (rest_at b x)

-- a clock that is moved by an amount
pub adjusts_prints : (x : ℕ) (past : Past) (amount : ℤ) (b : Bool) →
    (if b then target_at x past +ℤ amount else shown (plain past.seen) x) ≡ shown
    (now x past (Correct amount b (if b then target_at x past +ℤ amount else shown (plain past.seen) x)) ∷ plain past.seen) x
adjusts_prints x past amount true = sym (after_step past.step x (plain past.seen) amount (target_at x past +ℤ amount))
adjusts_prints x past amount false = sym (after_slew past.step x (plain past.seen) amount (shown (plain past.seen) x))

there : (t value : ℤ) → value ≡ t +ℤ (value -ℤ t)
there t value = omega (arith, ints)

-- a clock that is set to a value
pub sets_prints : (x : ℕ) (past : Past) (value : ℤ) → value ≡ shown (now x past (Correct (value -ℤ target_at x past) true value) ∷ plain past.seen) x
sets_prints x past value = there (target_at x past) value ∙ sym (after_step past.step x (plain past.seen) (value -ℤ target_at x past) value)

-- what a step has taken that has just taken a message
pub heard_now : (from : Place) (m : MessageValue) (took : Did) (rest seen : List Seen) → seen ≡ Here took ∷ rest → took.deed ≡
    Acts (Took from (Good (Message m))) → heard (plain seen) ≡ Some (record { from = from; taken = Good (Message m) })
heard_now from m took rest seen is deed = ap (λ s. heard (plain s)) is ∙ ap (λ d. taken_after d (heard (plain rest))) deed

-- so whether it steps the clock is said by the message's kind and by the amount
pub flag_of : (from : Place) (m : MessageValue) (amount : ℤ) (took : Did) (rest seen : List Seen) (sets : Bool) → seen ≡ Here took ∷ rest → took.deed ≡
    Acts (Took from (Good (Message m))) → sets_time m.kind ≡ sets →
    (sets || nat_lt MAXADJ (nat_abs amount)) ≡ is_stepped amount (heard (plain seen))
flag_of from m amount took rest seen sets is deed kind = ap (λ b. b || nat_lt MAXADJ (nat_abs amount)) (sym kind) ∙
    ap (is_stepped amount) (sym (heard_now from m took rest seen is deed))

-- a date sets the clock
pub date_sets : (k : Kind) → sets_date k ≡ true → sets_time k ≡ true
date_sets SetTime e = refl
date_sets _ e = e
