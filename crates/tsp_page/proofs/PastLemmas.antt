-- What the daemon's half gives at a tick is what its node's past gives.
use Rattle.std.proofs.Common.{◌≡◌, ℕ, ◌-◌, ◌/◌, ℤ, pos, ◌+ℤ◌, ◌-ℤ◌, false, List, ◌∷◌, refl, sym, ◌∙◌, arith}
use Rattle.std.proofs.lemmas.{Int.ints, Bool.false≢true}
use Rattle.tsp_base.specs.declared.act.Act.TheVariants.{Boot, Correct}
use Rattle.tsp_base.specs.Words.{
  boot_tick,
  boot_after,
  last_correct_after,
  moved_after,
  rest_after,
  wall,
  wall_after,
  Cause,
  Deed,
  Acts,
  Did,
  Past,
  plain,
  base,
  moved,
  target,
  rest,
  last_correct,
  shown,
  eased,
}
use Rattle.tsp_clock.specs.{Clocks.ClockValue, Clocks.target_of, ClockStands.ClockStands}
use Rattle.tsp_page.specs.{Formula.target_at, Formula.clock_shown_at, Pasts.TellsOf, Pasts.changes_clock}
use Rattle.tsp_page.specs.declared.daemon_half.DaemonHalf.{DaemonHalf}

shift : (w : ℤ) (x y : ℕ) → (w +ℤ pos y) +ℤ (pos x -ℤ pos y) ≡ w +ℤ pos x
shift w x y = omega (arith, ints)

pub target_told : (ds : List Did) (h : DaemonHalf) (x : ℕ) → TellsOf ds h → target_at h x ≡ target ds x
target_told ds h x t = rw (t.target_is, t.tick_is) (shift (base ds +ℤ moved ds) x (last_correct ds))

pub shown_told : (ds : List Did) (h : DaemonHalf) (x : ℕ) → TellsOf ds h → clock_shown_at h x ≡ shown ds x
shown_told ds h x t =
    let e = target_told ds h x t in
    rw (e, t.rest_is, t.tick_is) refl

-- a deed that doesn't change the clock leaves each fact of it as it was
kept : (deed : Deed) (cause : Cause) (x at boot : ℕ) (m left r w : ℤ) → changes_clock deed ≡ false
    → (last_correct_after deed x at ≡ at) × (moved_after deed m ≡ m) × (rest_after deed left r ≡ r) × (wall_after deed cause w ≡ w) × (boot_after
    deed x boot ≡ boot)
kept (Acts Boot) cause x at boot m left r w e = absurd (false≢true (sym e))
kept (Acts (Correct amount stepped shown)) cause x at boot m left r w e = absurd (false≢true (sym e))
kept _ cause x at boot m left r w e = (refl, refl, refl, refl, refl)

pub told_on : (d : Did) (ds : List Did) (h : DaemonHalf) → TellsOf ds h → changes_clock d.deed ≡ false → TellsOf (d ∷ ds) h
told_on d ds h t e =
    let k = kept d.deed d.step.cause d.tick (last_correct ds) (boot_tick ds) (moved ds) (eased (rest ds) ((d.tick - last_correct ds) / 200)) (rest
    ds) (wall ds) e in record {
      tick_is = rw k.0 t.tick_is;
      target_is = rw (k.0, k.1, k.3, k.4) t.target_is;
      rest_is = rw k.2 t.rest_is;
    }

pub told_by_clock : (past : Past) (c : ClockValue) (h : DaemonHalf) → ClockStands past c → h.tick ≡ c.at → h.target ≡ target_of c c.at → h.rest ≡ c.rest
    → TellsOf (plain past.seen) h
told_by_clock past c h s tick target rest = record {
  tick_is = tick ∙ s.at_is;
  target_is = target ∙ rw (s.offset_is, s.at_is) refl;
  rest_is = rest ∙ s.rest_is;
}
