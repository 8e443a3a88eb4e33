-- Where Resolve was armed, what comes next in the history, and ticks by true time.
use Rattle.std.proofs.Common.{sym, ap, subst, arith, inl, inr, ◌∙◌, ◌≡◌, ◌≤◌, ◌<◌, ℕ, ◌+◌}
use Rattle.std.proofs.Common.{List, [], ◌∷◌, Some, refl}
use Rattle.std.proofs.lemmas.Bool.{cases_lt}
use Rattle.tsp_rules.specs.Values.{Act, Arm, Become, Boot, Late, Ring, Alarm}
use Rattle.tsp_rules.specs.Values.{ResolveAlarm}
use Rattle.tsp_base.specs.Words.{Acts, Deed, Did, Elsewhere, Here, Line, Seen, Within, armed, armed_after}
use Rattle.tsp_base.specs.Words.{joined, line_of, of, placed}
use Rattle.tsp_base.proofs.PlaceLemmas.{Within_all}
use Rattle.tsp_promises.specs.{Fits.node_of, Setting.Setting}
use Rattle.tsp_promises.proofs.{shared.Clocks.tick_mono}
use Rattle.tsp_progress.specs.{Heeds.DoesNext}
use Rattle.tsp_progress.specs.OneStops.{Spans}
use Rattle.tsp_progress.proofs.{InTimeProof.value_of}
use Rattle.tsp_progress.proofs.{TableRows.within_joined}
use Rattle.tsp_progress.proofs.WorldPlaces.{Among, act_place, in_order, world_place}

-- where Resolve is armed for a tick, it was armed for that
pub record ArmedFrom (at : ℕ) (seen : List Seen) : Type 0 where
  pub arm : Did
  pub idle : List Seen
  pub place : Within (Here arm ∷ idle) seen
  pub deed : arm.deed ≡ Acts (Arm ResolveAlarm at)

pub armed_from : (at : ℕ) (seen : List Seen) → (armed seen).resolve ≡ Some at → ArmedFrom at seen
armed_from at [] e = let bad : ⊥ = cc in absurd bad
armed_from at (Elsewhere d ∷ before) e = let o = armed_from at before e in record { arm = o.arm; idle = o.idle; place = inr o.place; deed = o.deed }
armed_from at (Here d ∷ before) e = by_deed d.deed refl e (λ k. armed_from at before k) where
  older : ArmedFrom at before → ArmedFrom at (Here d ∷ before)
  older o = record { arm = o.arm; idle = o.idle; place = inr o.place; deed = o.deed }

  arms : (a : Alarm) (to : ℕ) → d.deed ≡ Acts (Arm a to) → (armed_after (Acts (Arm a to)) (armed before)).resolve ≡ Some at →
      ((armed before).resolve ≡ Some at → ArmedFrom at before) → ArmedFrom at (Here d ∷ before)
  arms ResolveAlarm to is e k = record { arm = d; idle = before; place = inl refl; deed = is ∙ ap (λ n. Acts (Arm ResolveAlarm n)) (value_of e) }
  arms _ to is e k = older (k e)

  rings : (a : Alarm) → (armed_after (Acts (Ring a)) (armed before)).resolve ≡ Some at → ((armed before).resolve ≡ Some at → ArmedFrom at before) →
      ArmedFrom at (Here d ∷ before)
  rings ResolveAlarm e k = let bad : ⊥ = cc in absurd bad
  rings _ e k = older (k e)

  lates : (a : Alarm) → (armed_after (Acts (Late a)) (armed before)).resolve ≡ Some at → ((armed before).resolve ≡ Some at → ArmedFrom at before) →
      ArmedFrom at (Here d ∷ before)
  lates ResolveAlarm e k = let bad : ⊥ = cc in absurd bad
  lates _ e k = older (k e)

  by_deed : (deed : Deed) → d.deed ≡ deed → (armed_after deed (armed before)).resolve ≡ Some at → ((armed before).resolve ≡ Some at → ArmedFrom at before) →
      ArmedFrom at (Here d ∷ before)
  by_deed (Acts Boot) is e k = let bad : ⊥ = cc in absurd bad
  by_deed (Acts (Become r)) is e k = let bad : ⊥ = cc in absurd bad
  by_deed (Acts (Arm a to)) is e k = arms a to is e k
  by_deed (Acts (Ring a)) is e k = rings a e k
  by_deed (Acts (Late a)) is e k = lates a e k
  by_deed _ is e k = older (k e)

-- an act that comes next stands in the history
pub record NextPlace (world : List Line) (l : Line) (older : List Line) (act : Act) : Type 0 where
  pub before : List Line
  pub place : Within (line_of l.did.step l.did.tick l.port (Acts act) ∷ before) world
  pub after : Within (l ∷ older) before

pub next_place : (world : List Line) (n : ℕ) (l : Line) (older : List Line) → Within (l ∷ older) world → node_of l ≡ n → (acts : List Act) (act : Act) →
    Among act acts → DoesNext acts l (of n older) (of n world) → NextPlace world l older act
next_place world n l older place node acts act among next =
    let line = line_of l.did.step l.did.tick l.port (Acts act) in
    let own = joined l.did.step l.did.tick (placed l.port among.front) (l ∷ of n older) in
    let w = world_place n line own world (act_place l.did.step l.did.tick l.port act acts (l ∷ of n older) (of n world) among next) in
    record {
      before = w.older;
      place = w.place;
      after = in_order n l older line w.older world place w.place (subst (λ ls. Within (l ∷ of n older) ls) (sym w.own_is)
          (within_joined l.did.step l.did.tick (placed l.port among.front) (l ∷ of n older) (l ∷ of n older) (Within_all (l ∷ of n older))));
    }

-- true time and ticks
module _ (setting : Setting) (n : ℕ) where
  -- a line of a later tick is of a later time
  pub later_time : (a b : ℕ) → setting.tick n a < setting.tick n b → a < b
  later_time a b less = elim (cases_lt a b) [
    | inl yes_less ↦ yes_less
    | inr most ↦ let mono = tick_mono setting n b a most in absurd (omega (arith, less, mono))
  ]

  -- after a span of true time more ticks have passed than it counts
  pub passed : (a b ticks span : ℕ) → Spans setting ticks span → a + span ≤ b → setting.tick n a + ticks < setting.tick n b
  passed a b ticks span spans le =
      let slow = (setting.ticks n).slow a span in
      let mono = tick_mono setting n (a + span) b le in
      omega (arith, slow, mono, spans)

  -- so what comes in so many ticks comes in the span
  pub within_span : (a b ticks span : ℕ) → Spans setting ticks span → setting.tick n b ≤ setting.tick n a + ticks → b < a + span
  within_span a b ticks span spans few = elim (cases_lt b (a + span)) [
    | inl less ↦ less
    | inr most ↦ let many = passed a b ticks span spans most in absurd (omega (arith, few, many))
  ]
