-- How far a clock is behind its master's after a SETTIME.
use Rattle.std.proofs.Common.{sym, ap, arith, subst, subst₂, mul-le-mul_left, ◌∙◌, ◌≡◌, ◌≤◌, ◌≤ℤ◌, ℕ, ◌+◌, ◌-◌, ◌*◌, ℤ, pos, ◌+ℤ◌, ◌-ℤ◌, nat_abs, true, List}
use Rattle.std.proofs.Common.{◌∷◌, refl}
use Rattle.std.proofs.lemmas.Int.{ints}
use Rattle.tsp_rules.specs.Values.{Message, Peer, LAST, LIFE}
use Rattle.tsp_base.specs.Words.{Did, Line, of, dids, plain, view, target, up, Within, Undisturbed, peer_of, time_in, width}
use Rattle.tsp_promises.specs.{CorrectFits.amount_of, Fits.Alive, Fits.Fits, Fits.node_of, Premises.Life, Premises.TakenWithinAt}
use Rattle.tsp_promises.specs.FirstSet.{BehindAtOnce, BehindBy, FirstSet, FirstSetAt, FirstSetSoon, SetBy, behind}
use Rattle.tsp_base.proofs.{PlaceLemmas.Within_through, PlaceLemmas.Within_tail, Views.plain_view}
use Rattle.tsp_promises.proofs.{promised.ClockProof.post_up, shared.Clocks.tick_mono, shared.Clocks.ticks_over, promised.TakingProof.begun_facts}
use Rattle.tsp_promises.{proofs.shared.EverywhereLemmas.Everywhere_from, proofs.shared.EverywhereLemmas.Everywhere_within, specs.Setting.Setting}
use Rattle.tsp_promises.proofs.{promised.OwnFitsProof.fits_in, shared.HistoryPlaces.line_on, promised.OwnFitsProof.tick_in, promised.ClockProof.offset}
use Rattle.tsp_promises.proofs.{shared.MasterMoved.offset_corrected}
use Rattle.tsp_promises.proofs.{shared.MasterMoved.offset_kept}
use Rattle.tsp_promises.proofs.{promised.OwnFitsProof.fits_at, promised.OwnFitsProof.place_time, promised.ClockProof.clock_target, promised.ClockProof.stays_up}

-- what the clock is behind by, in ticks of both nodes
core : (master time before after amount : ℤ) (tf tm tc tk : ℕ) → time ≡ master +ℤ pos tf → amount ≡ time -ℤ (before +ℤ pos tc) → after ≡ before +ℤ amount →
    (master +ℤ pos tm) -ℤ (after +ℤ pos tk) ≡ (pos tm -ℤ pos tf) -ℤ (pos tk -ℤ pos tc)
core master time before after amount tf tm tc tk e f g = omega (arith, ints)

-- where a SETTIME and its Correct stand, and what the clock is behind by then
record Set (setting : Setting) (m : ℕ) (c : Line) (past h : List Line) (s : SetBy m c past h) : Type 0 where
  pub gap : (t : ℕ) → behind setting m c h t ≡ (pos (setting.tick m t) -ℤ pos (setting.tick m s.taking.first.step.at)) -ℤ
      (pos (setting.tick (node_of c) t) -ℤ pos (setting.tick (node_of c) c.did.step.at))
  pub order : s.taking.first.step.at ≤ s.taking.post.did.step.at
  pub after : s.taking.post.did.step.at ≤ c.did.step.at
  pub ticks : setting.tick m s.taking.post.did.step.at ≤ setting.tick m s.taking.first.step.at + LAST

set : (setting : Setting) (m : ℕ) (c : Line) (past h : List Line) → Fits setting h → (s : SetBy m c past h) → Set setting m c past h s
set setting m c past h f s =
    let k = node_of c in
    let t = s.taking in
    let fc = fits_at setting (c ∷ past) h f s.unchanged.within in
    let past_h : Within past h = Within_tail c past h s.unchanged.within in
    let d = begun_facts setting m c past fc t in
    let q = t.post.port in
    let line = line_on q d.begins.first in
    let fw = d.begins.fw in
    let post_in : Within (t.post ∷ t.before) past = t.acts.brings.place in
    let line_in : Within (line ∷ fw) past = Within_through (line ∷ fw) (t.post ∷ t.before) past d.begins.place post_in in
    let line_h : Within (line ∷ fw) h = Within_through (line ∷ fw) past h line_in past_h in
    let fw_h : Within fw h = Within_tail line fw h line_h in
    let node : d.begins.first.step.node ≡ m = d.begins.node ∙ t.node in
    let begun : plain t.begun ≡ dids (of m fw) = ap plain (sym d.begun_is) ∙ plain_view q (of m fw) in
    -- the master
    let m_up : up (dids (of m fw)) ≡ true = subst (λ n. up (dids (of n fw)) ≡ true) node
    (post_up setting line fw (Peer (peer_of k)) (Message t.acts.brings.message) (fits_in setting line fw h f line_h) d.begins.sends.deed) in
    let m_now : up (dids (of m h)) ≡ true = stays_up m fw h fw_h m_up in
    let m_left : Undisturbed (dids (of m fw)) (dids (of m h)) = subst (λ b. Undisturbed b (dids (of m h))) begun s.unchanged_master in
    let m_same = offset_kept setting m fw h f fw_h m_left in
    let f_at : d.begins.first.step.at ≡ t.first.step.at = ap (λ (z : Did). z.step.at) d.first_is in
    let f_tick : t.first.tick ≡ setting.tick m t.first.step.at = subst (λ (z : Did). z.tick ≡ setting.tick m z.step.at) d.first_is
    (tick_in setting m line fw h f node line_h) in
    let time : time_in t.acts.brings.message.body ≡ offset setting m h +ℤ pos (setting.tick m t.first.step.at) =
    ((d.fits.sets s.sets).time ∙ subst₂ (λ b x. target (plain t.begun) t.first.tick ≡ target b x) begun f_tick refl)
    ∙ (sym (clock_target setting m fw t.first.step.at (fits_at setting fw h f fw_h) m_up) ∙ ap (λ z. z +ℤ pos (setting.tick m t.first.step.at)) m_same) in
    -- the node that is set
    let k_up : up (dids (of k past)) ≡ true = subst (λ z. Alive setting z c.did (dids (of k past))) t.acts.correct fc.0.alive in
    let seen : plain (view c.port (of k past)) ≡ dids (of k past) = plain_view c.port (of k past) in
    let amount : t.acts.amount ≡ time_in t.acts.brings.message.body -ℤ (offset setting k past +ℤ pos (setting.tick k c.did.step.at)) =
    d.acting.takes.amount_is ∙ (ap (λ z. amount_of z (time_in t.acts.brings.message.body) (target (plain (view c.port (of k past))) c.did.tick)) s.sets
    ∙ ap (λ z. time_in t.acts.brings.message.body -ℤ z) (subst₂ (λ b x. target (plain (view c.port (of k past))) c.did.tick ≡ target b x) seen fc.0.tick refl ∙
    sym (clock_target setting k past c.did.step.at fc.1 k_up))) in
    let k_now : offset setting k h ≡ offset setting k past +ℤ t.acts.amount =
    sym (offset_kept setting k (c ∷ past) h f s.unchanged.within s.unchanged.since) ∙
    offset_corrected setting c past t.acts.amount t.acts.stepped t.acts.shown t.acts.correct in
    let post_tick : t.post.did.tick ≡ setting.tick m t.post.did.step.at = tick_in setting m t.post t.before past fc.1 t.node post_in in
    let after = place_time setting (t.post ∷ t.before) past fc.1 post_in in
    record {
      gap = λ at. core (offset setting m h) (time_in t.acts.brings.message.body) (offset setting k past) (offset setting k h) t.acts.amount
          (setting.tick m t.first.step.at) (setting.tick m at) (setting.tick k c.did.step.at) (setting.tick k at) time amount k_now;
      order = (let o = d.begins.after in omega (arith, f_at));
      after = omega (arith, fc.0.order, after);
      ticks = (let o = d.begins.ticks in let e = ap (λ (z : Did). z.tick) d.first_is in omega (arith, e, f_tick, post_tick));
    }

low_sum : (b : ℤ) (tm tf tk tc t f c v w : ℕ) → b ≡ (pos tm -ℤ pos tf) -ℤ (pos tk -ℤ pos tc) → f ≤ c → c ≤ t → tf + (t - f) ≤ tm + v → tk ≤ tc + (t - c) + w →
    (pos (c - f) -ℤ pos (v + w)) ≤ℤ b
low_sum b tm tf tk tc t f c v w e o p x y = rw e (omega (arith, ints))

high_sum : (b : ℤ) (tm tf tk tc t f c v w : ℕ) → b ≡ (pos tm -ℤ pos tf) -ℤ (pos tk -ℤ pos tc) → f ≤ c → c ≤ t → tm ≤ tf + (t - f) + v → tc + (t - c) ≤ tk + w →
    b ≤ℤ pos (c - f + (v + w))
high_sum b tm tf tk tc t f c v w e o p x y = rw e (omega (arith, ints))

both_sides : (b : ℤ) (n w : ℕ) → (pos n -ℤ pos w) ≤ℤ b → b ≤ℤ pos (n + w) → pos (nat_abs (b -ℤ pos n)) ≤ℤ pos w
both_sides b n w low high = omega (arith, ints, low, high)

not_ahead : (b : ℤ) (tm tf tk : ℕ) → b ≡ (pos tm -ℤ pos tf) -ℤ (pos tk -ℤ pos tk) → tf ≤ tm → pos 0 ≤ℤ b
not_ahead b tm tf tk e x = rw e (omega (arith, ints))

at_most : (b : ℤ) (tm tf tk n : ℕ) → b ≡ (pos tm -ℤ pos tf) -ℤ (pos tk -ℤ pos tk) → tm ≤ tf + n → b ≤ℤ pos n
at_most b tm tf tk n e x = rw e (omega (arith, ints))

later : (setting : Setting) (m : ℕ) (c : Line) (past h : List Line) → Fits setting h → (s : SetBy m c past h) (t : ℕ) → c.did.step.at ≤ t →
    BehindBy setting m c past h s t
later setting m c past h f s t by =
    let k = node_of c in
    let d = set setting m c past h f s in
    let a = s.taking.first.step.at in
    let b = c.did.step.at in
    let order : a ≤ b = (let o = d.order in let p = d.after in omega arith) in
    let one = ticks_over setting m a t (omega arith) in
    let two = ticks_over setting k b t by in
    let rm = setting.tick m in
    let rk = setting.tick k in
    let v = width setting.drift (t - a) in
    let w = width setting.drift (t - b) in
    let low = low_sum (behind setting m c h t) (rm t) (rm a) (rk t) (rk b) t a b v w (d.gap t) order by one.1 two.0 in
    let high = high_sum (behind setting m c h t) (rm t) (rm a) (rk t) (rk b) t a b v w (d.gap t) order by one.0 two.1 in
    record { near = both_sides (behind setting m c h t) (b - a) (v + w) low high }

at_once_holds : (setting : Setting) (m : ℕ) (c : Line) (past h : List Line) → Fits setting h → (s : SetBy m c past h) → BehindAtOnce setting m c past h s
at_once_holds setting m c past h f s =
    let d = set setting m c past h f s in
    let a = s.taking.first.step.at in
    let b = c.did.step.at in
    let order : a ≤ b = (let o = d.order in let p = d.after in omega arith) in
    let one = ticks_over setting m a b order in
    let rm = setting.tick m in
    let tk = setting.tick (node_of c) b in
    record {
      low = not_ahead (behind setting m c h b) (rm b) (rm a) tk (d.gap b) (tick_mono setting m a b order);
      high = at_most (behind setting m c h b) (rm b) (rm a) tk (b - a + width setting.drift (b - a)) (d.gap b) (omega (arith, one.0));
    }

pub first_set : (setting : Setting) (world : List Line) → Fits setting world → FirstSet setting world
first_set setting world f = Everywhere_from (λ (l : Line) (before : List Line). FirstSetAt setting (l ∷ before)) world (λ l before w.
    let g = fits_at setting (l ∷ before) world f w in
    record { later = λ m c past s t by. later setting m c past (l ∷ before) g s t by; at_once = λ m c past s. at_once_holds setting m c past (l ∷ before) g s })

-- a longer time has no less width
width_mono : (drift a b : ℕ) → a ≤ b → width drift a ≤ width drift b
width_mono drift a b h = let m : drift * a ≤ drift * b = mul-le-mul_left drift h in omega arith

soon : (setting : Setting) (m : ℕ) (c : Line) (past h : List Line) → Fits setting h → Life h → (s : SetBy m c past h) →
    behind setting m c h c.did.step.at ≤ℤ pos (LAST + LIFE + width setting.drift LIFE)
soon setting m c past h f life s =
    let d = set setting m c past h f s in
    let t = s.taking in
    let a = t.first.step.at in
    let p = t.post.did.step.at in
    let b = c.did.step.at in
    let brings = t.acts.brings in
    let lived : b ≤ p + LIFE = (Everywhere_within (TakenWithinAt LIFE) (c ∷ past) h life s.unchanged.within).0 t.post t.before (Peer (peer_of (node_of c)))
    (Message brings.message) brings.place brings.deed brings.cause in
    let one = ticks_over setting m p b d.after in
    let wide = width_mono setting.drift (b - p) LIFE (omega arith) in
    let rm = setting.tick m in
    at_most (behind setting m c h b) (rm b) (rm a) (setting.tick (node_of c) b) (LAST + LIFE + width setting.drift LIFE) (d.gap b) (let q = d.ticks in
    omega (arith, one.0))

pub first_set_soon : (setting : Setting) (world : List Line) → Fits setting world → Life world → FirstSetSoon setting world
first_set_soon setting world f life = Everywhere_from (λ (l : Line) (before : List Line). (m : ℕ) (c : Line) (past : List Line) (s : SetBy m c past (l ∷
    before)) → behind setting m c (l ∷ before) c.did.step.at ≤ℤ pos (LAST + LIFE + width setting.drift LIFE)) world
    (λ l before w m c past s. soon setting m c past (l ∷ before) (fits_at setting (l ∷ before) world f w) (Everywhere_within (TakenWithinAt LIFE) (l ∷
    before) world life w) s)
