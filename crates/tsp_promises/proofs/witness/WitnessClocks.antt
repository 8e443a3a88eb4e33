-- Ordinary use by a node whose counter changes its rate, and its next life with another wall clock.
use Rattle.std.proofs.Common.{sym, ap, arith, ◌∙◌, ◌≡◌, ◌==◌, ◌&&◌, ◌||◌, ◌≤◌, eqb-true, nat_le, Bool, true, false, ℕ, zero, suc, ◌+◌, ◌-◌, ◌*◌, ◌/◌}
use Rattle.std.proofs.Common.{ℤ, pos, ◌+ℤ◌, List, [], ◌∷◌, refl, inl, inr, ◌⊎◌}
use Rattle.std.proofs.lemmas.Bool.{leb-true, ltb-true, and_parts}
use Rattle.tsp_rules.specs.Values.{Act, Boot, Took, Taken, Place}
use Rattle.tsp_base.specs.Words.{Acts, Begins, Booted, Came, Handed, Turned, Cause, Deed, Did, Line, Step, of, dids, lives, time_of, posted}
use Rattle.tsp_promises.specs.{Fits.Alive, Fits.Fits, Fits.LineFits, Fits.TookFits, Fits.node_of, Setting.KeepsTime, Setting.Setting}
use Rattle.tsp_promises.specs.{Setting.setup_of, Uses.WanderUse}
use Rattle.tsp_promises.proofs.{witness.Histories.on, witness.Histories.skip, witness.Histories.skipped, witness.Histories.step_at, witness.Histories.still}
use Rattle.tsp_promises.proofs.{witness.Histories.then_step}
use Rattle.tsp_promises.proofs.{witness.HistoriesFit.all_finished, witness.PremiseChecks.honest_by, witness.PremiseChecks.life_by}
use Rattle.tsp_promises.proofs.{witness.PremiseChecks.words_by}
use Rattle.tsp_promises.proofs.{witness.Spots.spot, witness.StepChecks.port0, witness.StepChecks.settled_ends, witness.WitnessUse.first_hop}
use Rattle.tsp_promises.proofs.{witness.WitnessUse.first_round, witness.WitnessUse.fits}
use Rattle.tsp_promises.proofs.witness.WitnessUse.{usual}

-- from 306 s on node 1 gains 80 parts in a million, from 346 s on it loses as much, and from 386 s on it is right again
abbrev wander : ℕ → ℕ → ℕ
wander (suc zero) t = (1000000 * t + 80 * (t - 306000000) + 80 * (t - 386000000) - 160 * (t - 346000000)) / 1000000
wander n t = t

-- of two times the earlier one is passed by no less
passed : (early late s x : ℕ) → early ≤ late → ((s + x) - late) + (s - early) ≤ ((s + x) - early) + (s - late)
passed early late s x o = omega arith

wander_keeps : (n : ℕ) → KeepsTime 100 (wander n)
wander_keeps zero = record { rises = λ s x. omega arith; fast = λ s x. omega arith; slow = λ s x. omega arith }
wander_keeps (suc zero) = record {
  rises = λ s x. (let a = passed 306000000 346000000 s x (omega arith) in let b = passed 346000000 386000000 s x (omega arith) in omega (arith, a, b));
  fast = λ s x. (let a = passed 306000000 346000000 s x (omega arith) in let b = passed 346000000 386000000 s x (omega arith) in omega (arith, a, b));
  slow = λ s x. (let a = passed 306000000 346000000 s x (omega arith) in let b = passed 346000000 386000000 s x (omega arith) in omega (arith, a, b));
}
wander_keeps (suc (suc n)) = record { rises = λ s x. omega arith; fast = λ s x. omega arith; slow = λ s x. omega arith }

-- before and after that its ticks are true time
there : (n at : ℕ) → (at ≤ 306000000) ⊎ (386000000 ≤ at) → wander n at ≡ at
there zero at o = refl
there (suc zero) at (inl o) = omega (arith, o)
there (suc zero) at (inr o) = omega (arith, o)
there (suc (suc n)) at o = refl

-- in its second life node 1 has a wall clock that was set an hour ahead
abbrev walls : ℕ → ℕ → ℤ
walls (suc zero) (suc (suc zero)) = pos 3600000000
walls n life = pos 0

first_wall : (n : ℕ) → walls n 1 ≡ pos 0
first_wall zero = refl
first_wall (suc zero) = refl
first_wall (suc (suc n)) = refl

abbrev wandering : Setting
wandering = record (still false) { drift = 100; tick = wander; wall = walls; small = omega arith; ticks = wander_keeps }

abbrev boots_first : Deed → ℕ → Bool
boots_first (Acts Boot) n = n == 0
boots_first _ n = true

-- whether the line stands before or after the wandering, and is no boot but a first one
abbrev is_usual : Line → List Line → Bool
is_usual l world = (nat_le l.did.step.at 306000000 || nat_le 386000000 l.did.step.at) && boots_first l.did.deed (lives (dids (of (node_of l) world)))

abbrev all_usual : List Line → Bool
all_usual [] = true
all_usual (l ∷ t) = is_usual l t && all_usual t

either : (a b : ℕ) (early late : Bool) → nat_le a 306000000 ≡ early → nat_le 386000000 b ≡ late → (early || late) ≡ true → (a ≤ 306000000) ⊎ (386000000 ≤ b)
either a b true late e f o = inl (leb-true a 306000000 e)
either a b false true e f o = inr (leb-true 386000000 b f)
either a b false false e f o = let bad : ⊥ = cc in absurd bad

alive_there : (deed : Deed) (d : Did) (before : List Did) → boots_first deed (lives before) ≡ true → Alive (still false) deed d before →
    Alive wandering deed d before
alive_there Begins d before e a = tt
alive_there (Acts Boot) d before e a =
    let first : lives before ≡ 0 = eqb-true (lives before) 0 e in
    let wall : walls d.step.node (lives before + 1) ≡ pos 0 = ap (λ k. walls d.step.node (k + 1)) first ∙ first_wall d.step.node in
    (a.0, a.1 ∙ ap (λ w. Booted a.0 (w +ℤ pos d.tick)) (sym wall))
alive_there (Acts act) d before e a = a

took_there : (cause : Cause) (l : Line) (world : List Line) (from : Place) (taken : Taken) → TookFits cause (still false) l world from taken →
    TookFits cause wandering l world from taken
took_there (Came k) l world from taken f =
    record {
      post = f.post;
      older = f.older;
      place = f.place;
      number = f.number;
      datagram = f.datagram;
      deed = f.deed;
      net = f.net;
      from_is = f.from_is;
      taken_is = f.taken_is;
    }
took_there (Booted word wall) l world from taken f = f
took_there Handed l world from taken f = f
took_there Turned l world from taken f = f

line_there : (l : Line) (world : List Line) → is_usual l world ≡ true → LineFits (still false) l world → LineFits wandering l world
line_there l world e f =
    let a = and_parts (nat_le l.did.step.at 306000000 || nat_le 386000000 l.did.step.at) (boots_first l.did.deed (lives (dids (of (node_of l) world)))) e in
    let time = either l.did.step.at l.did.step.at (nat_le l.did.step.at 306000000) (nat_le 386000000 l.did.step.at) refl refl a.0 in
    record {
      order = f.order;
      tick = f.tick ∙ sym (there (node_of l) l.did.step.at time);
      few = f.few;
      step = f.step;
      alive = alive_there l.did.deed l.did (dids (of (node_of l) world)) a.1 f.alive;
      took = λ from taken is. took_there l.did.step.cause l world from taken (f.took from taken is);
      deeds = f.deeds;
    }

fits_there : (h : List Line) → all_usual h ≡ true → Fits (still false) h → Fits wandering h
fits_there [] e f = tt
fits_there (l ∷ t) e f = let a = and_parts (is_usual l t) (all_usual t) e in (line_there l t a.0 f.0, fits_there t a.1 f.1)

-- after ordinary use node 1 boots again
abbrev again : Step
again = step_at 500000000 1 (Booted 13 (pos 4100000000))

abbrev two_lives : List Line
two_lives = then_step again (on port0 Boot ∷ []) (usual 23)

no_took : {B : Type 0} {from : Place} {taken : Taken} → Acts Boot ≡ Acts (Took from taken) → B
no_took e = let bad : ⊥ = cc in absurd bad

no_mark : {B : Type 0} {a : Act} → Begins ≡ Acts a → B
no_mark e = let bad : ⊥ = cc in absurd bad

lives_fit : Fits wandering two_lives
lives_fit = (
  record {
    order = omega arith;
    tick = refl;
    few = ltb-true (posted (dids (skip 1 two_lives))) 18446744073709551616 refl;
    step = refl;
    alive = (13, refl);
    took = λ from taken e. no_took e;
    deeds = λ q sees. tt;
  },
  (
    record {
      order = leb-true (time_of (dids (usual 23))) 500000000 refl;
      tick = refl;
      few = ltb-true (posted (dids (usual 23))) 18446744073709551616 refl;
      step = tt;
      alive = tt;
      took = λ from taken e. no_mark e;
      deeds = λ q sees. settled_ends (setup_of wandering 1) (of 1 (usual 23)) refl q;
    },
    fits_there (usual 23) refl fits,
  ),
)

pub wander_use : WanderUse
wander_use = record {
  history = record {
    setting = wandering;
    world = two_lives;
    kept = record {
      fits = lives_fit;
      finished = all_finished false two_lives refl;
      honest = honest_by two_lives refl;
      life = life_by two_lives refl;
      words = words_by two_lives refl;
    };
  };
  later = spot 0 two_lives refl;
  earlier = spot 73 (skip 1 two_lives) refl;
  boots = refl;
  booted = refl;
  node = refl;
  word = 13;
  word_once = 9;
  wall = pos 4100000000;
  wall_once = pos 0;
  caused = refl;
  caused_once = refl;
  was_set = refl;
  m = 0;
  round = record { hop = first_hop; correct_in = skipped 12 (skip 1 two_lives); from_round = first_round };
  corrected = refl;
  start = 306000000;
  turn = 346000000;
  end = 386000000;
  gained = refl;
  lost = refl;
  measured = omega arith;
}
