-- What a master's own clock has moved by since its Close. A correction is the first after the place where its number
-- comes from.
use Rattle.std.proofs.Common.{ap, arith, subst, inl, inr, ◌∙◌, ◌≡◌, ℕ, ◌+◌, ◌<◌, ◌≤◌, List, ◌∷◌, sym, subst₂, ◌==◌, ◌||◌, ◌⊎◌, Bool, ℤ, pos, ◌+ℤ◌, refl}
use Rattle.std.proofs.{lemmas.Bool.cases_lt, lemmas.Int.ints}
use Rattle.tsp_rules.specs.Values.{Post, Datagram, Place, QUIET, Close, Correct, Port}
use Rattle.tsp_base.specs.Words.{Acts, Did, Line, of, dids, all_corrects, boot_tick, moved, tick_of, ticket, Within, Undisturbed, Seen, Here, view, plain}
use Rattle.tsp_base.specs.Words.{seen_as, is_shared, lives, Setup}
use Rattle.tsp_base.proofs.{PlaceLemmas.Within_through, Views.plain_view}
use Rattle.tsp_promises.proofs.promised.OwnFitsProof.{own_tick, own_fits, place_time, fits_at, deed_fits, tick_in, locate, fits_in}
use Rattle.tsp_promises.proofs.{shared.SendPlaces.Closes, shared.SendPlaces.after_close, shared.SendPlaces.right_after, promised.SinceProof.since}
use Rattle.tsp_promises.proofs.{shared.Clocks.near}
use Rattle.tsp_promises.proofs.shared.HistoryPlaces.{line_on, of_own, Within_of}
use Rattle.tsp_promises.proofs.promised.ClockProof.{offset, offset_more, offset_same}
use Rattle.tsp_promises.specs.{Agreed.RightAfter, Agreed.UnchangedBut, Setting.Setting, Setting.setup_of, CorrectionFits.FollowedBy}
use Rattle.tsp_promises.specs.{CorrectFits.WhyCorrect, Since.Since, Since.OneLife, Fits.Fits, Fits.node_of}

-- the node is left alone between, so its clock only runs on
pub record Kept (s t : List Did) : Type 0 where
  pub undisturbed : Undisturbed s t
  pub moved : moved s ≡ moved t

-- two places with one ticket, less than QUIET apart
pub matching : (s t : List Did) (x : ℕ) → Since s t → tick_of t ≤ x → boot_tick t + QUIET ≤ x → x < tick_of s + QUIET → ticket s ≡ ticket t → Kept s t
matching s t x i by rested soon same =
    let life : OneLife s t = elim i.life [ inl o ↦ o | inr o ↦ absurd (omega (arith, o.boot)) ] in
    let all : all_corrects s ≡ all_corrects t = elim (cases_lt (all_corrects s) (all_corrects t)) [
      | inl more ↦ absurd (omega (arith, i.spaced more, i.last, life.word, life.corrects))
      | inr none ↦ omega (arith, i.all)
    ] in
    record { undisturbed = record { corrects = all; lives = life.lives }; moved = life.still all }

-- where a node is left alone, its clock only runs on
pub kept_by : (s t : List Did) → Since s t → Undisturbed s t → Kept s t
kept_by s t i u =
    let life : OneLife s t = elim i.life [ inl o ↦ o | inr o ↦ absurd (omega (arith, o.lives, u.lives)) ] in
    record { undisturbed = u; moved = life.still u.corrects }

-- a later place is left alone with an earlier one
pub kept_from : (first s t : List Did) → Since first s → Since s t → Undisturbed first t → Kept s t
kept_from first s t a b u = kept_by s t b (record { corrects = omega (arith, a.all, b.all, u.corrects); lives = omega (arith, a.lives, b.lives, u.lives) })

-- the Correct c of k comes soon after k's post r, and has the ticket that stood there
pub first_after : (setting : Setting) (k : ℕ) (c r : Line) (past rolder : List Line) (to : Place) (datagram : Datagram) → Fits setting (c ∷ past) → node_of c ≡
    k → node_of r ≡ k → r.did.deed ≡ Acts (Post to datagram) → Within (r ∷ rolder) past →
    boot_tick (dids (of k past)) + QUIET ≤ c.did.tick → ticket (dids (of k rolder)) ≡ ticket (dids (of k past)) → c.did.step.at ≤ r.did.step.at + 65000000 →
    Kept (dids (of k (r ∷ rolder))) (dids (of k past))
first_after setting k c r past rolder to datagram f c_node r_node deed place rested same soon =
    let order : r.did.step.at ≤ c.did.step.at = (let p = place_time setting (r ∷ rolder) past f.1 place in omega (arith, f.0.order)) in
    let tick_c : c.did.tick ≡ setting.tick k c.did.step.at = subst (λ x. c.did.tick ≡ setting.tick x c.did.step.at) c_node f.0.tick in
    let tick_r : r.did.tick ≡ setting.tick k r.did.step.at = tick_in setting k r rolder past f.1 r_node place in
    let own : dids (of k (r ∷ rolder)) ≡ r.did ∷ dids (of k rolder) = ap dids (of_own k r rolder r_node) in
    let by : tick_of (dids (of k past)) ≤ c.did.tick = subst (λ x. tick_of (dids (of x past)) ≤ c.did.tick) c_node (own_tick setting c past f) in
    let t : ticket (dids (of k (r ∷ rolder))) ≡ ticket (dids (of k past)) = ap ticket own ∙ rw deed same in
    let at : tick_of (dids (of k (r ∷ rolder))) ≡ r.did.tick = ap tick_of own in
    matching (dids (of k (r ∷ rolder))) (dids (of k past)) c.did.tick (since setting (of k (r ∷ rolder)) (of k past) (own_fits setting k past f.1)
    (Within_of k (r ∷ rolder) past place)) by rested
    (let q = (near setting k r.did.step.at c.did.step.at order).most in omega arith) t

-- where a node is left alone since a place, its clock moved no more
pub unmoved : (setting : Setting) (n : ℕ) (s h : List Line) → Fits setting h → Within s h → Undisturbed (dids (of n s)) (dids (of n h)) →
    moved (dids (of n s)) ≡ moved (dids (of n h))
unmoved setting n s h f w u = (kept_by (dids (of n s)) (dids (of n h)) (since setting (of n s) (of n h) (own_fits setting n h f) (Within_of n s h w)) u).moved

-- so what its clock is besides its ticks stays
pub offset_kept : (setting : Setting) (n : ℕ) (s h : List Line) → Fits setting h → Within s h → Undisturbed (dids (of n s)) (dids (of n h)) →
    offset setting n s ≡ offset setting n h
offset_kept setting n s h f w u = offset_same setting n s h u.lives (unmoved setting n s h f w u)

-- a Close changes no clock
pub record CloseKeeps (close : Did) (before : List Did) : Type 0 where
  pub lives : lives (close ∷ before) ≡ lives before
  pub moved_is : moved (close ∷ before) ≡ moved before
  pub corrects : all_corrects (close ∷ before) ≡ all_corrects before

pub close_keeps : (close : Did) (before : List Did) (count : ℕ) (lo size mean : ℤ) → close.deed ≡ Acts (Close count lo size mean) → CloseKeeps close before
close_keeps close before count lo size mean e = record { lives = rw e refl; moved_is = rw e refl; corrects = rw e refl }

-- a node lives on through its Close
pub close_life : (m : ℕ) (close : Line) (cpast h : List Line) (count : ℕ) (lo size mean : ℤ) → close.did.deed ≡ Acts (Close count lo size mean) →
    node_of close ≡ m →
    lives (dids (of m (close ∷ cpast))) ≡ lives (dids (of m h)) → lives (dids (of m cpast)) ≡ lives (dids (of m h))
close_life m close cpast h count lo size mean deed node life =
    sym (ap (λ w. lives (dids w)) (of_own m close cpast node) ∙ (close_keeps close.did (dids (of m cpast)) count lo size mean deed).lives) ∙ life

-- a Correct changes it by its amount
pub record CorrectMoves (next : Did) (before : List Did) (amount : ℤ) : Type 0 where
  pub moved_is : moved (next ∷ before) ≡ moved before +ℤ amount
  pub corrects : all_corrects (next ∷ before) ≡ all_corrects before + 1
  pub lives : lives (next ∷ before) ≡ lives before

pub correct_moves : (next : Did) (before : List Did) (amount : ℤ) (stepped : Bool) (shown : ℤ) → next.deed ≡ Acts (Correct amount stepped shown) →
    CorrectMoves next before amount
correct_moves next before amount stepped shown e = record { moved_is = rw e refl; corrects = rw e refl; lives = rw e refl }

-- so does the clock besides its ticks
pub offset_corrected : (setting : Setting) (c : Line) (past : List Line) (amount : ℤ) (stepped : Bool) (shown : ℤ) → c.did.deed ≡
    Acts (Correct amount stepped shown) →
    offset setting (node_of c) (c ∷ past) ≡ offset setting (node_of c) past +ℤ amount
offset_corrected setting c past amount stepped shown e =
    let k = node_of c in
    let own : dids (of k (c ∷ past)) ≡ c.did ∷ dids (of k past) = ap dids (of_own k c past refl) in
    let moves = correct_moves c.did (dids (of k past)) amount stepped shown e in
    offset_more setting k past (c ∷ past) amount (sym (ap lives own ∙ moves.lives)) (ap moved own ∙ moves.moved_is)

-- and so does m's, where it has moved by the mean since before its Close
pub offset_meant : (setting : Setting) (m : ℕ) (close : Line) (cpast h : List Line) (count : ℕ) (lo size mean : ℤ) → close.did.deed ≡
    Acts (Close count lo size mean) → node_of close ≡ m →
    lives (dids (of m (close ∷ cpast))) ≡ lives (dids (of m h)) → moved (dids (of m h)) ≡ moved (dids (of m cpast)) +ℤ mean → offset setting m h ≡
    offset setting m cpast +ℤ mean
offset_meant setting m close cpast h count lo size mean deed node life more = offset_more setting m cpast h mean
    (close_life m close cpast h count lo size mean deed node life) more

pub same_mean : (count c : ℕ) (lo l size s mean amount : ℤ) → Acts (Close count lo size mean) ≡ Acts (Close c l s amount) → amount ≡ mean
same_mean count c lo l size s mean amount e = cc

-- what a Correct rests on right after a Close
pub closed_here : (setup : Setup) (here close : Did) (vs : List Seen) (b : Bool) (count : ℕ) (lo size mean amount : ℤ) →
    close.deed ≡ Acts (Close count lo size mean) → WhyCorrect setup here (seen_as b close ∷ vs) amount → Closes setup close vs b amount
closed_here setup here close vs b count lo size mean amount e = after_close setup here close vs b amount (λ from t is. (let k = sym e ∙ is in cc))

-- it moves the clock by the mean
pub mean_is_holds : (setup : Setup) (here close : Did) (vs : List Seen) (b : Bool) (count : ℕ) (lo size mean amount : ℤ) → close.deed ≡
    Acts (Close count lo size mean) → WhyCorrect setup here (seen_as b close ∷ vs) amount → amount ≡ mean
mean_is_holds setup here close vs b count lo size mean amount e why =
    let c = closed_here setup here close vs b count lo size mean amount e why in
    same_mean count c.round.count lo c.round.lo size c.round.size mean amount (sym e ∙ (ap (λ (d : Did). d.deed) c.close ∙ c.round.deed))

plus_none : (a b mean : ℤ) → a ≡ b → mean ≡ pos 0 → a ≡ b +ℤ mean
plus_none a b mean e z = omega (arith, ints)

-- the line right after the Close was m's last Correct
pub moved_right_after : (setting : Setting) (m : ℕ) (close next : Line) (cpast h : List Line) (count : ℕ) (lo size mean amount : ℤ) (stepped : Bool) (shown : ℤ)
    → Fits setting h → close.did.deed ≡ Acts (Close count lo size mean) → node_of close ≡ m →
    lives (dids (of m (close ∷ cpast))) ≡ lives (dids (of m h)) → Within (next ∷ (close ∷ cpast)) h → node_of next ≡ m → next.did.deed ≡
    Acts (Correct amount stepped shown) →
    all_corrects (dids (of m (next ∷ (close ∷ cpast)))) ≡ all_corrects (dids (of m h)) → moved (dids (of m h)) ≡ moved (dids (of m cpast)) +ℤ mean
moved_right_after setting m close next cpast h count lo size mean amount stepped shown f deed node lives_is place next_node next_deed all =
    let own_c : of m (close ∷ cpast) ≡ close ∷ of m cpast = of_own m close cpast node in
    let own_n : dids (of m (next ∷ (close ∷ cpast))) ≡ next.did ∷ dids (of m (close ∷ cpast)) = ap dids (of_own m next (close ∷ cpast) next_node) in
    let fits = deed_fits setting next (close ∷ cpast) (Acts (Correct amount stepped shown)) next_deed (fits_in setting next (close ∷ cpast) h f place) in
    let setup = setup_of setting (node_of next) next.port in
    let why : WhyCorrect setup next.did (view next.port (close ∷ of m cpast)) amount =
    subst (λ w. WhyCorrect setup next.did (view next.port w) amount) own_c (subst (λ k. WhyCorrect setup next.did (view next.port (of k (close ∷ cpast)))
    amount) next_node fits.why) in
    let amount_is = mean_is_holds setup next.did close.did (view next.port (of m cpast)) ((close.port.0 == next.port.0) || is_shared close.did.deed) count lo
    size
    mean amount deed why in
    let keeps = close_keeps close.did (dids (of m cpast)) count lo size mean deed in
    let moves = correct_moves next.did (dids (of m (close ∷ cpast))) amount stepped shown next_deed in
    let still = unmoved setting m (next ∷ (close ∷ cpast)) h f place (record { corrects = all; lives = (ap lives own_n ∙ moves.lives) ∙ lives_is }) in
    let closed : moved (dids (of m (close ∷ cpast))) ≡ moved (dids (of m cpast)) = ap (λ w. moved (dids w)) own_c ∙ keeps.moved_is in
    sym still ∙ (ap moved own_n ∙ (moves.moved_is ∙ subst₂ (λ x y. moved (dids (of m (close ∷ cpast))) +ℤ amount ≡ x +ℤ y) closed amount_is refl))

-- m's last Correct was the next act after its Close
moved_next : (setting : Setting) (m : ℕ) (close : Line) (cpast h : List Line) (count : ℕ) (lo size mean : ℤ) → Fits setting h → close.did.deed ≡
    Acts (Close count lo size mean) → node_of close ≡ m →
    lives (dids (of m (close ∷ cpast))) ≡ lives (dids (of m h)) → RightAfter m close cpast h → moved (dids (of m h)) ≡ moved (dids (of m cpast)) +ℤ mean
moved_next setting m close cpast h count lo size mean f deed node lives_is n =
    let same = right_after setting n.next n.before close cpast n.amount n.stepped n.shown (fits_at setting (n.next ∷ n.before) h f n.place) n.deed n.is in
    moved_right_after setting m close n.next cpast h count lo size mean n.amount n.stepped n.shown f deed node lives_is
    (subst (λ w. Within (n.next ∷ w) h) same n.place) n.node n.deed
    (subst (λ w. all_corrects (dids (of m (n.next ∷ w))) ≡ all_corrects (dids (of m h))) same n.corrects)

-- m made no Correct since its Close: so the mean is 0
moved_none : (setting : Setting) (m : ℕ) (q : Port) (close : Line) (cpast fw h : List Line) (count : ℕ) (lo size mean : ℤ) → Fits setting h → close.did.deed ≡
    Acts (Close count lo size mean) → node_of close ≡ m → Within (close ∷ cpast) h →
    lives (dids (of m (close ∷ cpast))) ≡ lives (dids (of m h)) → all_corrects (dids (of m (close ∷ cpast))) ≡ all_corrects (dids (of m h)) → Within fw h →
    (mean ≡ pos 0) ⊎ FollowedBy close.did (view q (of m cpast)) (view q (of m fw)) mean → moved (dids (of m h)) ≡ moved (dids (of m cpast)) +ℤ mean
moved_none setting m q close cpast fw h count lo size mean f deed node close_in lives_is none fw_in (inl zero_mean) =
    let own_c : of m (close ∷ cpast) ≡ close ∷ of m cpast = of_own m close cpast node in
    let keeps = close_keeps close.did (dids (of m cpast)) count lo size mean deed in
    let still = unmoved setting m (close ∷ cpast) h f close_in (record { corrects = none; lives = lives_is }) in
    plus_none (moved (dids (of m h))) (moved (dids (of m cpast))) mean (sym still ∙ (ap (λ w. moved (dids w)) own_c ∙ keeps.moved_is)) zero_mean
moved_none setting m q close cpast fw h count lo size mean f deed node close_in lives_is none fw_in (inr n) =
    let l = locate m q fw n.next (Here close.did ∷ view q (of m cpast)) (rw n.deed refl) n.place in
    let own_c : dids (of m (close ∷ cpast)) ≡ close.did ∷ dids (of m cpast) = ap dids (of_own m close cpast node) in
    let older_is : dids (of m l.older) ≡ close.did ∷ dids (of m cpast) = sym (plain_view q (of m l.older)) ∙
    (ap plain l.before ∙ ap (λ z. close.did ∷ z) (plain_view q (of m cpast))) in
    let own_n : dids (of m (line_on q n.next ∷ l.older)) ≡ n.next ∷ dids (of m l.older) = ap dids (of_own m (line_on q n.next) l.older l.node) in
    let moves = correct_moves n.next (dids (of m l.older)) mean n.stepped n.shown n.deed in
    let i = since setting (of m (line_on q n.next ∷ l.older)) (of m h) (own_fits setting m h f) (Within_of m (line_on q n.next ∷
    l.older) h (Within_through (line_on q n.next ∷ l.older) fw h l.place fw_in)) in
    let all_n : all_corrects (dids (of m (line_on q n.next ∷ l.older))) ≡ all_corrects (dids (of m (close ∷ cpast))) + 1 = ap all_corrects own_n ∙
    (moves.corrects ∙ ap (λ z. all_corrects z + 1) (older_is ∙ sym own_c)) in
    absurd (omega (arith, i.all))

-- m's clock has moved by the mean, whichever it is
pub master_moved : (setting : Setting) (m : ℕ) (q : Port) (close : Line) (cpast fw h : List Line) (count : ℕ) (lo size mean : ℤ) → Fits setting h →
    close.did.deed ≡ Acts (Close count lo size mean) → node_of close ≡ m → Within (close ∷ cpast) h →
    UnchangedBut m close cpast h → Within fw h → (mean ≡ pos 0) ⊎ FollowedBy close.did (view q (of m cpast)) (view q (of m fw)) mean → moved (dids (of m h)) ≡
    moved (dids (of m cpast)) +ℤ mean
master_moved setting m q close cpast fw h count lo size mean f deed node close_in u fw_in followed = elim u.corrects [
  | inl none ↦ moved_none setting m q close cpast fw h count lo size mean f deed node close_in u.lives none fw_in followed
  | inr n ↦ moved_next setting m close cpast h count lo size mean f deed node u.lives n
]
