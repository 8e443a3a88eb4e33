-- A restart with another wall clock counts: with the wall clock of its first life in its second too, b's clock isn't what a measured.
use Rattle.std.proofs.Common.{sym, ap, subst, arith, ◌∙◌, ◌≡◌, ℕ, zero, suc, drop, pos, ◌+ℤ◌, ◌-ℤ◌, ◌≤ℤ◌, nat_abs, List, [], ◌∷◌, Option, None, Some, refl}
use Rattle.tsp_rules.specs.Values.{Event, Peer, Placed, Stamp, Reply}
use Rattle.tsp_base.specs.Words.{Acts, Begins, Line, Step, Within, dids, first_port, joined, line_of, lives, moved, of, peer_of as peer, posted, time_of}
use Rattle.tsp_query.specs.Arrivals.{all_but_first}
use Rattle.tsp_promises.specs.{ClockAt.clock, Everywhere.Everywhere, Measured.Measured, Measured.MeasuredAt, Measured.ReadBy, Setting.Setting}
use Rattle.tsp_promises.proofs.shared.SendPlaces.{post_unique, same_number}
use Rattle.tsp_run.specs.{Clocked.happening_by, Clocked.run_by, Run.Happening, Run.joins}
use Rattle.tsp_network.specs.{ClocksUse.ForgetsLives, ClocksUse.LivesCount, ClocksUse.two_wanderers, ClocksUse.wandered, ClocksUse.wandering}
use Rattle.tsp_network.proofs.WanderLemmas.{after_reply, clock_of, is_wandered, reply_line, sample_line, sampled}
use Rattle.tsp_network.proofs.WanderUse.{history_is}

abbrev ran : List Event → List Line
ran = run_by wandering two_wanderers

-- what holds everywhere after a step held before it
before_acts : (P : Line → List Line → Type 0) (step : Step) (x : ℕ) (acts : List Placed) (h : List Line) → Everywhere P (joined step x acts h) → Everywhere P h
before_acts P step x [] h e = e
before_acts P step x (a ∷ rest) h e = (before_acts P step x rest (line_of step x a.port (Acts a.act) ∷ h) e).1

before_step : (P : Line → List Line → Type 0) (o : Option Happening) (h : List Line) → Everywhere P (joins o h) → Everywhere P h
before_step P None h e = e
before_step P (Some s) h e = (before_acts P s.step s.tick s.acts (line_of s.step s.tick first_port Begins ∷ h) e).1

-- what holds everywhere after events held before the last one
earlier : (P : Line → List Line → Type 0) (e : Event) (before : List Event) → Everywhere P (ran (e ∷ before)) → Everywhere P (ran before)
earlier P e before all = before_step P (happening_by wandering two_wanderers (ran before) e) (ran before) all

earlier_by : (P : Line → List Line → Type 0) (k : ℕ) (events : List Event) → Everywhere P (ran events) → Everywhere P (ran (drop k events))
earlier_by P zero [] all = all
earlier_by P zero (e ∷ before) all = all
earlier_by P (suc k) [] all = all
earlier_by P (suc k) (e ∷ before) all = earlier_by P k before (earlier P e before all)

module _ (setting : Setting) (forgets : ForgetsLives wandering setting) where
  -- a clock at the reply
  clock_is : (n : ℕ) → clock setting n after_reply ≡ clock_of n (wandering.wall n 1)
  clock_is n =
      ap (λ w. (w +ℤ moved (dids (of n after_reply))) +ℤ pos (setting.tick n (time_of (dids after_reply))))
      (forgets.wall_is n (lives (dids (of n after_reply))))
      ∙ ap (λ x. (wandering.wall n 1 +ℤ moved (dids (of n after_reply))) +ℤ pos x) (forgets.tick_is n (time_of (dids after_reply)))

  not_read : ReadBy setting sample_line (all_but_first (ran sampled)) (peer 1) (pos 5446606) (pos 311) → ⊥
  not_read r =
      let number : 30 ≡ posted (dids r.older) = same_number 30 (posted (dids r.older)) r.takes in
      let there : Within (reply_line ∷ all_but_first after_reply) (all_but_first (ran sampled)) =
      subst (λ h. Within h (all_but_first (ran sampled))) is_wandered.replies is_wandered.place in
      let one = post_unique (all_but_first (ran sampled)) r.post reply_line r.older (all_but_first after_reply) (Peer (peer 0)) (Peer (peer 0))
      (Stamp (Reply r.reply))
      (Stamp (Reply (record { ticket = 1899; word = 737; counter = 9; reading = pos 1116976788 }))) r.place there r.deed refl (sym number ∙
      sym is_wandered.number) in
      let same : r.post ∷ r.older ≡ after_reply = one ∙ sym is_wandered.replies in
      let near : pos (nat_abs (pos 5446606 -ℤ (clock setting 1 after_reply -ℤ clock setting 0 after_reply))) ≤ℤ pos 311 =
      subst (λ h. pos (nat_abs (pos 5446606 -ℤ (clock setting 1 h -ℤ clock setting 0 h))) ≤ℤ pos 311) same r.near in
      let first : pos (nat_abs (pos 5446606 -ℤ (clock_of 1 (wandering.wall 1 1) -ℤ clock setting 0 after_reply))) ≤ℤ pos 311 =
      subst (λ c. pos (nat_abs (pos 5446606 -ℤ (c -ℤ clock setting 0 after_reply))) ≤ℤ pos 311) (clock_is 1) near in
      let both : pos (nat_abs (pos 5446606 -ℤ (clock_of 1 (wandering.wall 1 1) -ℤ clock_of 0 (wandering.wall 0 1)))) ≤ℤ pos 311 =
      subst (λ c. pos (nat_abs (pos 5446606 -ℤ (clock_of 1 (wandering.wall 1 1) -ℤ c))) ≤ℤ pos 311) (clock_is 0) first in
      let wrong : pos 2046875 ≤ℤ pos 311 = subst (λ k. pos k ≤ℤ pos 311) is_wandered.error both in
      omega (arith, wrong)

  not_measured : Measured setting (ran wandered) → ⊥
  not_measured all =
      let at-sample : Everywhere (MeasuredAt setting) (ran sampled) = earlier_by (MeasuredAt setting) 5 wandered all in
      let here = subst (λ h. Everywhere (MeasuredAt setting) h) is_wandered.samples at-sample in
      not_read (here.0 (peer 1) 9 (pos 5446606) (pos 311) 1899 refl)

pub lives_count : LivesCount
lives_count setting forgets all = not_measured setting forgets (subst (λ h. Measured setting h) history_is all)
