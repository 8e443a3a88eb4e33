-- Each history in which a node has booted has a page.
use Rattle.std.proofs.Common.{◌≡◌, ℕ, ℤ, ◌≤ℤ◌, List, true, refl, arith}
use Rattle.std.proofs.lemmas.Int.{ints}
use Rattle.tsp_base.proofs.PlaceLemmas.{Within_all}
use Rattle.tsp_base.specs.Words.{Line, of, dids, up}
use Rattle.tsp_promises.specs.Setting.{Setting}
use Rattle.tsp_page_laws.specs.{Looks.SaysClock, Looks.SaysLook, Pages.half_of, Pages.glance_of}

≤ℤ-refl : (z : ℤ) → z ≤ℤ z
≤ℤ-refl z = omega (arith, ints)

pub half_says : (k : ℕ) (h : List Line) → up (dids (of k h)) ≡ true → SaysClock k h (half_of k h)
half_says k h booted = record {
  booted = booted;
  clock = record { tick_is = refl; target_is = refl; rest_is = refl };
  moved_is = refl;
}

pub glance_says : (setting : Setting) (k m t : ℕ) (h : List Line) → SaysLook setting k m h t (glance_of setting k m h t)
glance_says setting k m t h = record {
  first = t;
  middle = t;
  last = t;
  begins = omega arith;
  ends = omega arith;
  passed = omega arith;
  there = h;
  other = record { within = Within_all h; since = record { corrects = refl; lives = refl } };
  seen = h;
  seen_in = Within_all h;
  same_life = refl;
  moved_is = refl;
  looked_is = refl;
  drift_is = refl;
  low_is = ≤ℤ-refl _;
  high_is = ≤ℤ-refl _;
}
