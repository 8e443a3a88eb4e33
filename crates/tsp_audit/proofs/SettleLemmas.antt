-- Clocks that settled agree from then on.
use Rattle.std.proofs.Common.{sym, subst, subst₂, arith, ◌≡◌, ◌≤◌, ◌+◌, ◌-◌, ◌*◌, ◌≤ℤ◌, ℕ, ℤ, pos, ◌+ℤ◌, ◌-ℤ◌, nat_abs, Option, None, Some, List, MatchOption}
use Rattle.std.proofs.lemmas.Int.{ints}
use Rattle.tsp_audit.specs.Agreeing.{AgreementIs, AllAgree, AllBounded, SettledAt, Settles, StillSettled}
use Rattle.tsp_audit.specs.{Changes.LeavesState, Settings.HasClocks, declared.agreement_tracker.AgreementTracker.AgreementTracker}
use Rattle.tsp_audit.specs.declared.round_correction.NodeState.{NodeState}
use Rattle.tsp_base.specs.Words.{HeaderValue, Line, tick_at, width}
use Rattle.tsp_history.specs.{Histories.deed_of, declared.line.HistoryLine.HistoryLine}
use Rattle.tsp_promises.{proofs.shared.Clocks.ticks_over, specs.Setting.Setting}
use Rattle.tsp_run.specs.Setup.{node_line}

-- by how much a tick may leave the true time over a while, s before it and s' after it
record Ticks (s r x w : ℕ) : Type 0 where
  pub most : r ≤ s + x + w
  pub least : s + x ≤ r + w

ticks_later : (header : HeaderValue) (setting : Setting) (n t at : ℕ) → HasClocks header setting → t ≤ at →
    Ticks (tick_at (node_line header n).rate t) (tick_at (node_line header n).rate at) (at - t) (width header.drift (at - t))
ticks_later header setting n t at has le =
    let over = ticks_over setting n t at le in
    subst₂ (λ (x y : ℕ). Ticks x y (at - t) (width header.drift (at - t))) (has.tick_is n t) (has.tick_is n at)
    (subst (λ (d : ℕ). Ticks (setting.tick n t) (setting.tick n at) (at - t) (width d (at - t))) has.drift_is (record { most = over.0; least = over.1 }))

-- the width of two whiles together is that of each but for 2
width_whole : (d x y : ℕ) → width d x + width d y ≤ width d (x + y) + 2
width_whole d x y = omega arith

width_later : (d p t at : ℕ) → p ≤ t → t ≤ at → width d (t - p) + width d (at - t) ≤ width d (at - p) + 2
width_later d p t at past le =
    let whole : (t - p) + (at - t) ≡ at - p = omega (arith, past, le) in
    subst (λ (z : ℕ). width d (t - p) + width d (at - t) ≤ width d z + 2) whole (width_whole d (t - p) (at - t))

-- two clocks that one round corrected, a and b before their ticks
near_later : (a b e f : ℤ) (s r q o x w u v k m : ℕ) → Ticks s r x w → Ticks q o x w → u + w ≤ k + 2 → v + w ≤ m + 2 →
    pos (nat_abs ((a +ℤ pos s) -ℤ (b +ℤ pos q))) ≤ℤ (((e -ℤ pos 4) +ℤ (f -ℤ pos 4)) +ℤ pos (2 * u + 2 * v)) →
    pos (nat_abs ((a +ℤ pos r) -ℤ (b +ℤ pos o))) ≤ℤ (((e -ℤ pos 0) +ℤ (f -ℤ pos 0)) +ℤ pos (2 * k + 2 * m))
near_later a b e f s r q o x w u v k m one two ku mv near = let i = one.most in let j = one.least in let g = two.most in let h = two.least in
    omega (arith, ints, i, j, g, h, ku, mv, near)

-- a clock that a round corrected, and its master's
close_later : (a b e : ℤ) (s r q o x w u k : ℕ) → Ticks s r x w → Ticks q o x w → u + w ≤ k + 2 →
    pos (nat_abs ((a +ℤ pos s) -ℤ (b +ℤ pos q))) ≤ℤ ((e -ℤ pos 4) +ℤ pos (2 * u)) →
    pos (nat_abs ((a +ℤ pos r) -ℤ (b +ℤ pos o))) ≤ℤ ((e -ℤ pos 0) +ℤ pos (2 * k))
close_later a b e s r q o x w u k one two ku near = let i = one.most in let j = one.least in let g = two.most in let h = two.least in
    omega (arith, ints, i, j, g, h, ku, near)

-- clocks that settled agree at any later time
all_later : (header : HeaderValue) (setting : Setting) (t at : ℕ) (states : List NodeState) → HasClocks header setting → t ≤ at → Settles header t states →
    AllAgree header at 0 states
all_later header setting t at states has le s = λ n a nat. record {
  pairs = λ k b kat c d ac bd masters closes.
      near_later ((node_line header n).wall +ℤ a.moved) ((node_line header k).wall +ℤ b.moved) c.err d.err _ _ _ _ (at - t) (width header.drift (at - t))
      (width header.drift (t - c.at)) (width header.drift (t - d.at)) (width header.drift (at - c.at)) (width header.drift (at - d.at))
      (ticks_later header setting n t at has le) (ticks_later header setting k t at has le) (width_later header.drift c.at t at (s.past n a nat c ac) le)
      (width_later header.drift d.at t at (s.past k b kat d bd) le)
      ((s.agree n a nat).pairs k b kat c d ac bd masters closes);
  master = λ c b ac bat stands.
      close_later ((node_line header n).wall +ℤ a.moved) ((node_line header c.master).wall +ℤ b.moved) c.err _ _ _ _ (at - t) (width header.drift (at - t))
      (width header.drift (t - c.at)) (width header.drift (at - c.at))
      (ticks_later header setting n t at has le) (ticks_later header setting c.master t at has le) (width_later header.drift c.at t at (s.past n a nat c ac) le)
      ((s.agree n a nat).master c b ac bat stands);
}

-- clocks that are known to have settled agree
pub known_agree : (header : HeaderValue) (setting : Setting) (settled : Option ℕ) (at : ℕ) (states : List NodeState) → MatchOption settled ⊥ (λ t. t ≤ at) →
    HasClocks header setting → at ≤ 1000000000000000 → AllBounded states → SettledAt header settled states → AllAgree header at 0 states
known_agree header setting None at states known has soon bounded settled = absurd known
known_agree header setting (Some t) at states le has soon bounded settled = all_later header setting t at states has le
    (settled (omega (arith, le, soon)) bounded)

-- what was settled is so after a line that moves no clock
pub still_settled : (header : HeaderValue) (line : HistoryLine) (was is : Option ℕ) (old new : List NodeState) → StillSettled line was is →
    (LeavesState (deed_of line.act) → new ≡ old) → SettledAt header was old → SettledAt header is new
still_settled header line was None old new still same settled = tt
still_settled header line was (Some t) old new still same settled =
    subst (λ (states : List NodeState). SettledAt header (Some t) states) (sym (same still.1)) (subst (λ (o : Option ℕ). SettledAt header o old) still.0
    settled)

-- what is settled says nothing of a history
pub agreement_settled : (count : ℕ) (h : List Line) (a : AgreementTracker) (settled : Option ℕ) → AgreementIs count h a →
    AgreementIs count h (record { trips = a.trips; last = a.last; nodes = a.nodes; settled = settled })
agreement_settled count h a settled is = record {
  few = is.few;
  many = is.many;
  lines = is.lines;
  trips_tell = is.trips_tell;
  last_is = is.last_is;
  nodes_are = is.nodes_are;
}
