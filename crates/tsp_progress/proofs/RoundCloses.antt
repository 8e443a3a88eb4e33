-- A round that isn't given up closes.
use Rattle.std.proofs.Common.{sym, ap, arith, true≢false, inl, inr, ◌∙◌, ◌≡◌, ◌≢◌, ◌≤◌, ◌<◌, ◌⊎◌, ℕ, ◌+◌, Bool, true, false, List}
use Rattle.std.proofs.Common.{[], ◌∷◌, ℤ, Some, refl}
use Rattle.tsp_rules.specs.Values.{Abandon, Arm, Become, Boot, Close, Late, Ring, Alarm, CloseAlarm, PeerId, CLOSE, ROUND}
use Rattle.tsp_base.specs.Words.{Acts, Deed, Did, Elsewhere, Here, Seen, armed, in_table}
use Rattle.tsp_base.specs.Words.{started}
use Rattle.tsp_base.specs.PortFacts.{in_table_after}
use Rattle.tsp_promises.specs.{RoundFits.CloseFits, RoundFits.StartFits}
use Rattle.tsp_progress.specs.AlarmsFit.{Manner, NextFits, NextTo, asks_next, newest_is, owes_next}

abbrev pub rings_close : Deed → Bool
rings_close (Acts (Ring CloseAlarm)) = true
rings_close _ = false

-- a round goes on, or is about to close
pub data Goes (y : Did) (idle seen : List Seen) : Type 0 where
  Going : started seen ≡ Here y ∷ idle → (armed seen).close ≡ Some (y.tick + CLOSE) → Goes y idle seen
  Rung : started seen ≡ Here y ∷ idle → newest_is rings_close seen ≡ true → Goes y idle seen

-- the deed closes it, CLOSE ticks or more after it began
pub record ClosedBy (y d : Did) : Type 0 where
  pub count : ℕ
  pub lo : ℤ
  pub size : ℤ
  pub mean : ℤ
  pub deed : d.deed ≡ Acts (Close count lo size mean)
  pub over : y.tick + CLOSE ≤ d.tick

-- what is so of each deed of the port
pub record KeepsRound (m : Manner) (p : PeerId) (y : Did) (d : Did) (before : List Seen) : Type 0 where
  pub unbooted : d.deed ≢ Acts Boot
  pub timely : (a : Alarm) → d.deed ≢ Acts (Late a)
  pub given : d.deed ≢ Acts Abandon
  pub starts : (at : ℕ) → d.deed ≡ Acts (Arm CloseAlarm at) → StartFits d before
  pub closes : (count : ℕ) (lo size mean : ℤ) → d.deed ≡ Acts (Close count lo size mean) → CloseFits d before
  pub there : in_table_after p d.deed (in_table p before) ≡ true
  pub early : d.tick < y.tick + ROUND
  pub next : NextTo m before d.deed

closed_here : (y : Did) (idle : List Seen) (d : Did) (before : List Seen) (count : ℕ) (lo size mean : ℤ) → d.deed ≡ Acts (Close count lo size mean) →
    CloseFits d before → started before ≡ Here y ∷ idle → ClosedBy y d
closed_here y idle d before count lo size mean is f st =
    let same : Here y ∷ idle ≡ Here f.start ∷ f.idle = sym st ∙ f.start_is in
    let did : y ≡ f.start = cc in
    let over = f.over in
    let tick : y.tick ≡ f.start.tick = ap (λ (k : Did). k.tick) did in
    record { count = count; lo = lo; size = size; mean = mean; deed = is; over = omega (arith, over, tick) }

newest_close : (m : Manner) (seen : List Seen) (next : Deed) → newest_is rings_close seen ≡ true → NextTo m seen next →
    ((count : ℕ) × ((lo : ℤ) × ((size : ℤ) × ((mean : ℤ) × (next ≡ Acts (Close count lo size mean)))))) ⊎ (next ≡ Acts Abandon)
newest_close m [] next e n = absurd (true≢false (sym e))
newest_close m (Elsewhere d ∷ before) next e n = absurd (true≢false (sym e))
newest_close m (Here d ∷ before) next e n = by_deed d.deed e n where
  by_ring : (a : Alarm) → rings_close (Acts (Ring a)) ≡ true → NextFits m (Acts (Ring a)) d.tick before next →
      ((count : ℕ) × ((lo : ℤ) × ((size : ℤ) × ((mean : ℤ) × (next ≡ Acts (Close count lo size mean)))))) ⊎ (next ≡ Acts Abandon)
  by_ring CloseAlarm e n = n
  by_ring _ e n = absurd (true≢false (sym e))

  by_deed : (deed : Deed) → rings_close deed ≡ true → NextFits m deed d.tick before next →
      ((count : ℕ) × ((lo : ℤ) × ((size : ℤ) × ((mean : ℤ) × (next ≡ Acts (Close count lo size mean)))))) ⊎ (next ≡ Acts Abandon)
  by_deed (Acts (Ring a)) e n = by_ring a e n
  by_deed _ e n = absurd (true≢false (sym e))

pub goes_deed : (m : Manner) (p : PeerId) (y : Did) (idle : List Seen) (d : Did) (before : List Seen) → KeepsRound m p y d before → Goes y idle before →
    ClosedBy y d ⊎ Goes y idle (Here d ∷ before)
goes_deed m p y idle d before f (Rung st e) = elim (newest_close m before d.deed e f.next) [
  | inl k ↦ inl (closed_here y idle d before k.0 k.1.0 k.1.1.0 k.1.1.1.0 k.1.1.1.1 (f.closes k.0 k.1.0 k.1.1.0 k.1.1.1.0 k.1.1.1.1) st)
  | inr k ↦ absurd (f.given k)
]
goes_deed m p y idle d before f (Going st at) = by_deed d.deed refl where
  arms : (a : Alarm) (to : ℕ) → d.deed ≡ Acts (Arm a to) → ClosedBy y d ⊎ Goes y idle (Here d ∷ before)
  arms CloseAlarm to is = absurd (let far = (f.starts to is).spaced y idle st in let near = f.early in omega (arith, far, near))
  arms _ to is = inr (Going (rw is st) (rw is at))

  rings : (a : Alarm) → d.deed ≡ Acts (Ring a) → ClosedBy y d ⊎ Goes y idle (Here d ∷ before)
  rings CloseAlarm is = inr (Rung (rw is st) (ap rings_close is))
  rings _ is = inr (Going (rw is st) (rw is at))

  by_deed : (deed : Deed) → d.deed ≡ deed → ClosedBy y d ⊎ Goes y idle (Here d ∷ before)
  by_deed (Acts Boot) is = absurd (f.unbooted is)
  by_deed (Acts (Become r)) is = absurd (let there = f.there in true≢false (sym there ∙ rw is refl))
  by_deed (Acts (Arm a to)) is = arms a to is
  by_deed (Acts (Ring a)) is = rings a is
  by_deed (Acts (Late a)) is = absurd (f.timely a is)
  by_deed (Acts Abandon) is = absurd (f.given is)
  by_deed (Acts (Close count lo size mean)) is = inl (closed_here y idle d before count lo size mean is (f.closes count lo size mean is) st)
  by_deed _ is = inr (Going (rw is st) (rw is at))

-- what has rung owes a Close
pub rung_owes : (seen : List Seen) → newest_is rings_close seen ≡ true → owes_next seen ≡ true
rung_owes [] e = absurd (true≢false (sym e))
rung_owes (Elsewhere d ∷ before) e = absurd (true≢false (sym e))
rung_owes (Here d ∷ before) e = by_deed d.deed e where
  by_ring : (a : Alarm) → rings_close (Acts (Ring a)) ≡ true → asks_next (Acts (Ring a)) d.tick before ≡ true
  by_ring CloseAlarm e = refl
  by_ring _ e = absurd (true≢false (sym e))

  by_deed : (deed : Deed) → rings_close deed ≡ true → asks_next deed d.tick before ≡ true
  by_deed (Acts (Ring a)) e = by_ring a e
  by_deed _ e = absurd (true≢false (sym e))
