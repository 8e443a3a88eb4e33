-- A minority of a round's estimates moves no clock of the majority by much.
use Rattle.tsp_promises.proofs.promised.OwnFitsProof.{given, Given, given_at, fits_at, deed_fits}
use Rattle.tsp_promises.specs.CorrectFits.{CorrectFits, is_stepped, sets_time}
use Rattle.tsp_promises.specs.Moderate.{AdjTimeNear, Agrees, MeanNear, Moderate, ModerateAt, ModerateClocks, OwnNear, PeerCorrects, PeerNear, WithMajority}
use Rattle.tsp_promises.specs.Moderate.{estimates_of}
use Rattle.tsp_promises.specs.{ClockAt.clock_at, Fits.Fits, Fits.node_of, RoundFits.group_mean, Setting.Setting, Setting.setup_of}
use Rattle.tsp_promises.{proofs.shared.RoundPlaces.some_is, proofs.shared.SendPlaces.post_fits, specs.Estimates.Moves}
use Rattle.tsp_promises.proofs.promised.TakingProof.{amount_adj, begun_by, corrects_adj, begun_facts, used_by}
use Rattle.tsp_promises.proofs.{promised.EstimatesProof.ended_near, promised.OnceTakenProof.heard_as, promised.OnceTakenProof.correct_fits}
use Rattle.tsp_promises.proofs.{shared.EverywhereLemmas.Everywhere_from, shared.HistoryPlaces.of_own, shared.MasterMoved.closed_here}
use Rattle.tsp_promises.proofs.{shared.MasterMoved.mean_is_holds, shared.MasterMoved.same_mean}
use Rattle.std.proofs.Common.{sym, ap, arith, subst, inl, inr, ◌∙◌, ◌≡◌, ◌==◌, ◌||◌, ◌≤◌, ◌≤ℤ◌, ℕ, ◌-◌, ◌*◌, ℤ, pos, ◌+ℤ◌, ◌-ℤ◌, nat_abs, Bool, true, false}
use Rattle.std.proofs.Common.{List, ◌∷◌, Some, refl, ◌+◌, ◌/◌, negsuc, neg_ℤ, if◌then◌else◌, nat_lt, Option, None}
use Rattle.std.proofs.{lemmas.Bool.ltb-true, lemmas.Int.ints}
use Rattle.tsp_rules.specs.Values.{Correct, Message, Good, AdjTime, Place, MAXADJ, SLEW, SPAN}
use Rattle.tsp_base.specs.Words.{Acts, Did, Line, of, dids, view, seen_as, is_shared, plain, MessageValue, Received, time_of, eased, last_correct, rest}
use Rattle.tsp_base.specs.Words.{rest_at, shown, target, Sampled, best, peer_of, time_in, heard, width}
use Rattle.tsp_base.proofs.ViewPlaces.{or-false, port_same}
use Rattle.tsp_group.specs.Groups.{IsWithin, group_of}
use Rattle.tsp_group.proofs.{LargestGroup.group_of_IsLargest, Majority.IsLargest_majority}

-- where the mean of a round comes from, and how the clock is moved by it
record Found (setting : Setting) (m : ℕ) (close : Line) (cpast : List Line) (mean amount : ℤ) (stepped : Bool) : Type 0 where
  pub is : amount ≡ mean
  pub group : amount ≡ group_mean (setup_of setting m close.port) (view close.port (of m cpast))
  pub flag : stepped ≡ nat_lt MAXADJ (nat_abs amount)

found : (setting : Setting) (m : ℕ) (close c : Line) (cpast : List Line) (amount : ℤ) → Fits setting (c ∷ (close ∷ cpast)) → (v : Moves m close c amount) →
    Found setting m close cpast v.mean amount v.stepped
found setting m close c cpast amount f v =
    let own : of m (close ∷ cpast) ≡ close ∷ of m cpast = of_own m close cpast v.node in
    let fits = deed_fits setting c (close ∷ cpast) (Acts (Correct amount v.stepped v.shown)) v.correct f.0 in
    let here : CorrectFits (setup_of setting m c.port) c.did (view c.port (close ∷ of m cpast)) amount v.stepped v.shown =
    subst (λ w. CorrectFits (setup_of setting m c.port) c.did (view c.port w) amount v.stepped v.shown) own
    (subst (λ k. CorrectFits (setup_of setting k c.port) c.did (view c.port (of k (close ∷ cpast))) amount v.stepped v.shown) v.correct_node fits) in
    let on = (close.port.0 == c.port.0) || is_shared close.did.deed in
    let seen = view c.port (of m cpast) in
    let closes = closed_here (setup_of setting m c.port) c.did close.did seen on v.count v.lo v.size v.mean amount v.deed here.why in
    let port : close.port ≡ c.port = port_same close.port c.port (or-false (close.port.0 == c.port.0) (is_shared close.did.deed) closes.on (rw v.deed refl)) in
    let group = subst (λ z. amount ≡ group_mean (setup_of setting m c.port) z) (sym closes.past) closes.round.mean_is in
    record {
      is = mean_is_holds (setup_of setting m c.port) c.did close.did seen on v.count v.lo v.size v.mean amount v.deed here.why;
      group = subst (λ q. amount ≡ group_mean (setup_of setting m q) (view q (of m cpast))) (sym port) group;
      flag = here.flag ∙ ap (is_stepped amount) (subst (λ b. heard (plain (seen_as b close.did ∷ seen)) ≡ None) (sym closes.on) closes.round.untaken);
    }

within_abs : (n : ℕ) (a mean x : ℤ) → a ≡ mean → IsWithin n mean x → nat_abs (a -ℤ x) ≤ n
within_abs n a mean x e w = let l = w.low in let h = w.high in omega (arith, ints)

-- so a Correct by that mean is near each value of it
follows : (setting : Setting) (m : ℕ) (close : Line) (cpast : List Line) (mean amount value : ℤ) (stepped : Bool) →
    Found setting m close cpast mean amount stepped → Agrees setting m close cpast value → nat_abs (amount -ℤ value) ≤ 2 * SPAN
follows setting m close cpast mean amount value stepped d a =
    let xs = estimates_of setting m close.port cpast in
    within_abs (2 * SPAN) amount (group_mean (setup_of setting m close.port) (view close.port (of m cpast))) value d.group
    (IsLargest_majority SPAN xs (group_of SPAN xs) (group_of_IsLargest SPAN xs (omega arith)) a.test a.majority.more a.majority.agrees value a.among a.passes)

mean_near : (setting : Setting) (l : Line) (world : List Line) → Fits setting (l ∷ world) → MeanNear setting l world
mean_near setting l world f m close cpast amount value at v a =
    let g : Fits setting (l ∷ (close ∷ cpast)) = subst (λ w. Fits setting (l ∷ w)) at f in
    let d = found setting m close l cpast amount g v in
    let near = follows setting m close cpast v.mean amount value v.stepped d a in
    record { moves = near; prints = subst (λ z. nat_abs (z -ℤ value) ≤ 2 * SPAN) d.is near }

from_none : (a : ℤ) (n : ℕ) → nat_abs (a -ℤ pos 0) ≤ n → nat_abs a ≤ n
from_none a n h = omega (arith, ints)

-- an amount of at most twice the span isn't more than MAXADJ
not_much : (n : ℕ) → n ≤ 2 * SPAN → nat_lt MAXADJ n ≡ false
not_much n few = by_case (nat_lt MAXADJ n) refl where
  by_case : (b : Bool) → nat_lt MAXADJ n ≡ b → b ≡ false
  by_case true e = (let more = ltb-true MAXADJ n e in absurd (omega (arith, more, few)))
  by_case false e = refl

own_near : (setting : Setting) (l : Line) (world : List Line) → Fits setting (l ∷ world) → OwnNear setting l world
own_near setting l world f m close cpast amount at v a =
    let g : Fits setting (l ∷ (close ∷ cpast)) = subst (λ w. Fits setting (l ∷ w)) at f in
    let few = from_none amount (2 * SPAN) (mean_near setting l world f m close cpast amount (pos 0) at v a).moves in
    record { near = few; slews = (found setting m close l cpast amount g v).flag ∙ not_much (nat_abs amount) few }

-- what an ADJTIME or its Correct says, where the mean and the sample are these
time_near : (time mean now amount diff other : ℤ) (n : ℕ) → time ≡ mean -ℤ other → mean ≡ now → amount ≡ now → other ≡ diff → nat_abs (amount -ℤ diff) ≤ n →
    nat_abs time ≤ n
time_near time mean now amount diff other n is same move sample near = omega (arith, ints)

adjtime_near : (setting : Setting) (f : Line) (fw : List Line) → Fits setting (f ∷ fw) → AdjTimeNear setting f fw
adjtime_near setting f fw fits m close c cpast mean amount b c_in v p =
    let fc = fits_at setting (c ∷ (close ∷ cpast)) (f ∷ fw) fits (inr c_in) in
    let d = found setting m close c cpast amount fc v in
    let post = post_fits setting m f fw b.peer b.message fits.0 b.first_node b.posts (corrects_adj b.message.kind b.kind) in
    let u = begun_by f.did (view f.port (of m fw)) b.peer b.message close.did (view f.port (of m cpast)) (inl b.kind) b.close_is (post.begins b.begins).from in
    let w = u.1.from in
    let mine : best b.peer (view f.port (of m cpast)) ≡ Some p.sample = subst (λ q. best b.peer (view q (of m cpast)) ≡ Some p.sample) b.port p.best_is in
    let sample : u.0 ≡ p.sample = some_is u.0 p.sample (sym w.best_is ∙ mine) in
    let mean = same_mean v.count w.count v.lo w.lo v.size w.size v.mean u.1.mean (sym v.deed ∙ w.deed) in
    time_near (time_in b.message.body) u.1.mean v.mean amount p.sample.diff u.0.diff (2 * SPAN) (w.value b.kind) mean d.is (ap (λ (z : Sampled). z.diff) sample)
    (follows setting m close cpast v.mean amount p.sample.diff v.stepped d p.agrees)

peer_few : (setting : Setting) (l : Line) (world : List Line) → Fits setting (l ∷ world) → (p : PeerCorrects setting l world) →
    nat_abs p.taking.acts.amount ≤ 2 * SPAN
peer_few setting l world f p =
    let k = node_of l in
    let t = p.taking in
    let v = p.moves in
    let q = t.post.port in
    let sample = p.agrees.sample in
    let fc = fits_at setting (p.c ∷ (p.close ∷ p.cpast)) (l ∷ world) f (inr p.ends) in
    let d = found setting p.m p.close p.c p.cpast p.amount fc v in
    let b = begun_facts setting p.m l world f t in
    let mine : best (peer_of k) (view q (of p.m p.cpast)) ≡ Some sample = subst (λ z. best (peer_of k) (view z (of p.m p.cpast)) ≡
    Some sample) p.port p.agrees.best_is in
    let u = used_by t.first t.begun (peer_of k) t.acts.brings.message p.close.did (view q (of p.m p.cpast)) sample (inl p.kind) p.close_is mine b.fits.from in
    let is = amount_adj l world t.post t.acts.amount t.acts.brings.message b.acting p.kind ∙ u.from.value p.kind in
    time_near t.acts.amount u.mean v.mean p.amount sample.diff sample.diff (2 * SPAN) is (same_mean v.count u.from.count v.lo u.from.lo v.size u.from.size
    v.mean u.mean (sym v.deed ∙ u.from.deed)) d.is refl
    (follows setting p.m p.close p.cpast v.mean p.amount sample.diff v.stepped d p.agrees.agrees)

-- an ADJTIME's Correct by so little
slews_by : (amount : ℤ) (stepped : Bool) (from : Place) (m : MessageValue) (took : Option Received) → stepped ≡ is_stepped amount took → took ≡
    Some (record { from = from; taken = Good (Message m) }) → m.kind ≡ AdjTime → nat_abs amount ≤ 2 * SPAN → stepped ≡ false
slews_by amount stepped from m took flag is kind few = flag ∙ (ap (is_stepped amount) is ∙ (ap (λ k. sets_time k || nat_lt MAXADJ (nat_abs amount)) kind ∙
    not_much (nat_abs amount) few))

-- what has been slewed for so long is slewed
eased_out : (z : ℤ) (n k : ℕ) → nat_abs z ≤ n → n ≤ k → eased z k ≡ pos 0
eased_out (pos a) n k few long = let e : a - k ≡ 0 = omega arith in ap pos e
eased_out (negsuc a) n k few long = let e : a + 1 - k ≡ 0 = omega (arith, ints) in ap (λ d. neg_ℤ (pos d)) e

rest_few : (amount : ℤ) (n : ℕ) (stepped : Bool) (left : ℤ) → left ≡ pos 0 → nat_abs amount ≤ n → nat_abs (if stepped then pos 0 else left +ℤ amount) ≤ n
rest_few amount n true left e h = omega arith
rest_few amount n false left e h = omega (arith, ints)

less_none : (z rest : ℤ) → rest ≡ pos 0 → z -ℤ rest ≡ z
less_none z rest e = omega (arith, ints)

-- after a Correct by so little, with nothing left before it
shows_target : (c : Did) (before : List Did) (amount : ℤ) (stepped : Bool) (value : ℤ) (x : ℕ) → c.deed ≡ Acts (Correct amount stepped value) →
    nat_abs amount ≤ 2 * SPAN → rest_at before c.tick ≡ pos 0 → c.tick + 2 * SPAN * SLEW ≤ x →
    shown (c ∷ before) x ≡ target (c ∷ before) x
shows_target c before amount stepped value x is few none late =
    let rest_is : rest (c ∷ before) ≡ (if stepped then pos 0 else rest_at before c.tick +ℤ amount) = rw is refl in
    let last_is : last_correct (c ∷ before) ≡ c.tick = rw is refl in
    let few_left : nat_abs (rest (c ∷ before)) ≤ 2 * SPAN = subst (λ z. nat_abs z ≤ 2 * SPAN) (sym rest_is)
    (rest_few amount (2 * SPAN) stepped (rest_at before c.tick) none few) in
    let long : 2 * SPAN ≤ (x - last_correct (c ∷ before)) / SLEW = omega (arith, last_is, late) in
    less_none (target (c ∷ before) x) (rest_at (c ∷ before) x) (eased_out (rest (c ∷ before)) (2 * SPAN) ((x - last_correct (c ∷ before)) / SLEW) few_left long)

peer_near : (setting : Setting) (l : Line) (world : List Line) → Fits setting (l ∷ world) → (p : PeerCorrects setting l world) → PeerNear setting l world p
peer_near setting l world f p =
    let a = p.taking.acts in
    let post = p.taking.post in
    let before = p.taking.before in
    let few = peer_few setting l world f p in
    let fits = correct_fits setting l world post before f a in
    let h = heard_as setting l world post before (Correct a.amount a.stepped a.shown) a.amount f a.correct a.brings a.took fits.why in
    record {
      little = record {
        near = few;
        slews = slews_by a.amount a.stepped h.0 a.brings.message (heard (plain (view l.port (of (node_of l) world)))) fits.flag h.1
            p.kind few;
      };
      meets = λ none x late.
          subst (λ ds. shown ds x ≡ target ds x) (sym (ap dids (of_own (node_of l) l world refl))) (shows_target l.did (dids (of (node_of l) world)) a.amount
          a.stepped a.shown x a.correct few none late);
    }

pub moderate : (setting : Setting) (world : List Line) → Fits setting world → Moderate setting world
moderate setting world f = Everywhere_from (ModerateAt setting) world (λ l s w.
    let g = fits_at setting (l ∷ s) world f w in
    record { mean = mean_near setting l s g; own = own_near setting l s g; adjtime = adjtime_near setting l s g; peer = peer_near setting l s g })

widened : (apart mean amount diff e : ℤ) (n w : ℕ) → apart ≤ℤ ((pos (nat_abs (mean -ℤ diff)) +ℤ e) +ℤ pos w) → amount ≡ mean → nat_abs (amount -ℤ diff) ≤ n →
    apart ≤ℤ ((pos n +ℤ e) +ℤ pos w)
widened apart mean amount diff e n w h is near = omega (arith, ints)

with_majority : (setting : Setting) (h : List Line) (t : ℕ) → Given setting h → time_of (dids h) ≤ t → WithMajority setting h t
with_majority setting h t g by m k close c cpast amount x r older un v e a =
    let d = found setting m close c cpast amount (fits_at setting (c ∷ (close ∷ cpast)) h g.fits un.within) v in
    let apart = ended_near setting h t g by m k close c cpast amount x r older un v e in
    widened (pos (nat_abs (clock_at setting m h t -ℤ clock_at setting k h t))) v.mean amount x.diff x.err (2 * SPAN)
    (2 * width setting.drift (t - r.did.step.at)) apart d.is (follows setting m close cpast v.mean amount x.diff v.stepped d a)

pub moderate_clocks : (setting : Setting) (world : List Line) → Given setting world → ModerateClocks setting world
moderate_clocks setting world g = Everywhere_from (λ (l : Line) (s : List Line). (t : ℕ) → l.did.step.at ≤ t → WithMajority setting (l ∷ s) t) world
    (λ l s w t by. with_majority setting (l ∷ s) t (given_at setting (l ∷ s) world g w) by)

-- for the theorem
pub ruleset all_moderate = (given, moderate, moderate_clocks)
