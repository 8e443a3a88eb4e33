-- All clocks of the network agree at each time, also soon after a Close.
use Rattle.std.proofs.Common.{sym, subst, arith, inl, inr, ◌∙◌, ◌≡◌, ◌≤◌, ◌<◌, ℕ, ◌+◌, ◌-◌, ◌*◌, ◌==◌, pos, Bool, true, false, List}
use Rattle.std.proofs.Common.{◌∷◌, eqb-true, refl}
use Rattle.std.proofs.lemmas.{Bool.cases_lt}
use Rattle.tsp_rules.specs.Values.{SLACK}
use Rattle.tsp_base.specs.Words.{HeaderValue, Line, Within, dids, time_of, width}
use Rattle.tsp_base.proofs.PlaceLemmas.{Within_all, Within_strict, Within_tail, Within_through}
use Rattle.tsp_promises.specs.{ClockAt.ClocksWithin, ClockAt.clock_at, Premises.Honest, Premises.Life, Setting.Setting}
use Rattle.tsp_promises.proofs.promised.OwnFitsProof.{Given, fits_at, fits_in, given, place_time}
use Rattle.tsp_run.specs.Clocked.{Clocks, clocks_of, run_by}
use Rattle.tsp_run.proofs.{OwnClocks.possible_own, OwnClocks.runs_by_own_clocks, OwnClocks.set_own, RunFits.clocked_runs_fit}
use Rattle.tsp_progress.specs.{AgreesAlways.agreed_after, AgreesAlways.round_age, AgreesMeanwhile.AgreesMeanwhile, AgreesMeanwhile.ClockedRunsAgreeMeanwhile}
use Rattle.tsp_progress.specs.{AgreesMeanwhile.RunsAgreeMeanwhile, AgreesMeanwhile.agree_meanwhile, AgreesMeanwhile.agreed_long_after, AgreesOn.HistoryAt}
use Rattle.tsp_progress.specs.{AgreesOn.agree_within, Delivered.Delivered, ErrSoon.soon_err, FollowOn.Calm, FollowOn.FollowUntil, InTable.GivesUpNone}
use Rattle.tsp_progress.specs.{InTable.InTable, InTable.KeepsRange, InTable.SetsNone, InTable.Undated, LateClose.LateClose, OneWire.OneWire}
use Rattle.tsp_progress.specs.{SampledInTime.IsSwift, Watched.Attended, Watched.Told}
use Rattle.tsp_progress.proofs.{AgreesAlwaysProof.C, AgreesAlwaysProof.Cp, AgreesAlwaysProof.LastClose, AgreesAlwaysProof.age, AgreesAlwaysProof.c-upto}
use Rattle.tsp_progress.proofs.{AgreesAlwaysProof.last, AgreesAlwaysProof.last_close, AgreesAlwaysProof.late-close, AgreesOnProof.agree_at}
use Rattle.tsp_progress.proofs.{AgreesOnProof.no_way}
use Rattle.tsp_progress.proofs.{AgreesOnProof.wider, AgreesOnProof.within_more, AllAsked.Tended, AllAsked.all_asked, AllAsked.on_first, CloseComes.Recent}
use Rattle.tsp_progress.proofs.{CloseComes.recent_close, LateCloses.close_apart, MeanwhileProof.agree_between, TakesProof.one_network, TimePlaces.before_time}

module _ {clocks : Clocks} {header : HeaderValue} {setting : Setting} (late long t : ℕ) (stays : ℕ → Bool) (c : ℕ) (s world : List Line)
    (a : Tended clocks header setting late long t stays c s world) (whole : Given setting world) (wire : OneWire header setting stays)
    (undated : Undated c s world) (gives : GivesUpNone c s world) (x : ℕ) (h : List Line) (now : HistoryAt x h world)
    (lower : time_of (dids s) + agreed_long_after long ≤ x) (upper : x + long < t) where
  abbrev Bound : ℕ
  Bound = agree_meanwhile setting late long

  lower-one : time_of (dids s) + agreed_after long ≤ x
  lower-one = omega (arith, lower)

  module _ (k : ℕ) (there : stays k ≡ true) (other : (k == c) ≡ false) where
    -- the last Close, and the one before it
    abbrev Last : Line
    Last = C late long t stays c s world a whole wire undated gives x h now lower-one upper k there other

    abbrev Past : List Line
    Past = Cp late long t stays c s world a whole wire undated gives x h now lower-one upper k there other

    r : LateClose long t c s Last Past world
    r = late-close late long t stays c s world a whole wire undated gives x h now lower-one upper k there other

    young : x ≤ Last.did.step.at + round_age late
    young = age late long t stays c s world a whole wire undated gives x h now lower-one upper k there other

    upto : Last.did.step.at ≤ x
    upto = c-upto late long t stays c s world a whole wire undated gives x h now lower-one upper k there other

    abbrev Then : ℕ
    Then = Last.did.step.at - 1

    recent : Recent late long t stays c s world a gives k there other Then (let y = young in let small = a.slack in omega (arith, y, lower, small))
        (let u = upto in omega (arith, u, upper))
    recent = recent_close late long t stays c s world a gives k there other Then (let y = young in let small = a.slack in omega (arith, y, lower, small))
        (let u = upto in omega (arith, u, upper))

    d-first : Within (recent.close.line ∷ recent.close.before) Past
    d-first = before_time setting world a.fits recent.close.line recent.close.before Last Past recent.close.place r.place
        (let by = recent.by in let y = young in let small = a.slack in omega (arith, by, y, lower, small))

    before : LastClose c recent.close.line recent.close.before Past
    before = last_close c recent.close.line recent.close.before Past d-first (record {
      node = recent.close.node;
      count = recent.close.count;
      lo = recent.close.lo;
      size = recent.close.size;
      mean = recent.close.mean;
      deed = recent.close.deed;
    })

    abbrev D : Line
    D = before.close.line

    abbrev Dp : List Line
    Dp = before.close.before

    d-in : Within (D ∷ Dp) world
    d-in = Within_through (D ∷ Dp) Past world before.close.place (Within_tail Last Past world r.place)

    d-age : Last.did.step.at ≤ D.did.step.at + (round_age late + 1)
    d-age =
        let order = place_time setting (recent.close.line ∷ recent.close.before) (D ∷ Dp) (fits_at setting (D ∷ Dp) world a.fits d-in) before.after in
        let recently = recent.recent in
        omega (arith, order, recently)

    d-upto : D.did.step.at ≤ Last.did.step.at
    d-upto =
        let past-in = Within_tail Last Past world r.place in
        let le = place_time setting (D ∷ Dp) Past (fits_at setting Past world a.fits past-in) before.close.place in
        let order = (fits_in setting Last Past world a.fits r.place).order in
        omega (arith, le, order)

    d : LateClose long t c s D Dp world
    d = record {
      place = d-in;
      node = before.close.node;
      count = before.close.count;
      lo = before.close.lo;
      size = before.close.size;
      mean = before.close.mean;
      deed = before.close.deed;
      late = (let one = d-age in let two = young in let small = a.slack in omega (arith, one, two, lower, small));
      early = (let one = d-upto in let two = r.early in omega (arith, one, two));
    }

    apart : D.did.step.at + 237000000 ≤ Last.did.step.at
    apart = elim (close_apart setting world a.fits long t c stays s a.s_in a.calm (on_first a) Last Past r D Dp d-in d.node d.count d.lo d.size d.mean d.deed) [
      | inl e ↦ absurd (Within_strict Last Past Past (subst (λ (z : List Line). Within z Past) e before.close.place)
          (Within_all Past))
      | inr (inl q) ↦ q.1
      | inr (inr q) ↦ absurd (let le = d-upto in let far = q.1 in omega (arith, le, far))
    ]

    abbrev Age : ℕ
    Age = round_age late + long + 1

    with_peer : (n m : ℕ) → stays n ≡ true → stays m ≡ true → ClocksWithin setting h x n m (pos Bound)
    with_peer n m nt mt = elim (cases_lt x (Last.did.step.at + long)) [
      | inl soon ↦
          let near = agree_between late long t stays c s world a whole wire undated Last Past r D Dp d before.close.place apart before.none x h now.within
          now.upto (last late long t stays c s world a whole wire undated gives x h now lower-one upper k there other).close.place
          (last late long t stays c s world a whole wire undated gives x h now lower-one upper k there other).none now.all soon upper Age
          (let one = d-age in omega (arith, one, soon)) n m nt mt in
          within_more _ (4 * soon_err setting long + 6 * width setting.drift (Age + 9009011)) Bound (let w = wider setting.drift (Age + 9009011)
          (round_age late + long + 9009012) (omega arith) in omega (arith, w)) near
      | inr later ↦
          let u = upto in
          let y = young in
          let near = agree_at late long t stays c s world a whole wire undated Last Past r (omega (arith, u, upper)) x h now (omega (arith, later))
          (omega (arith, upper)) (last late long t stays c s world a whole wire undated gives x h now lower-one upper k there other).none n m nt mt in
          let w = wider setting.drift ((x - Last.did.step.at) + 9009011) (round_age late + long + 9009012) (omega (arith, y)) in
          within_more _ (agree_within setting long (x - Last.did.step.at)) Bound (omega (arith, w)) near
    ]

  pub agree_meanwhile_at : (n m : ℕ) → stays n ≡ true → stays m ≡ true → ClocksWithin setting h x n m (pos Bound)
  agree_meanwhile_at n m nt mt = by_nodes (n == c) (m == c) refl refl where
    by_nodes : (b e : Bool) → (n == c) ≡ b → (m == c) ≡ e → ClocksWithin setting h x n m (pos Bound)
    by_nodes false e f g = with_peer n nt f n m nt mt
    by_nodes true false f g = with_peer m mt g n m nt mt
    by_nodes true true f g = subst (λ z. ClocksWithin setting h x z m (pos Bound)) (sym (eqb-true n c f ∙ sym (eqb-true m c g)))
        (no_way (clock_at setting m h x) Bound)

pub clocked_runs_agree_meanwhile : ClockedRunsAgreeMeanwhile
clocked_runs_agree_meanwhile clocks header setting events late long t stays c s set possible attended slack told wire there s-in calm delivered swift honest
    life follow members sets undated gives range x h now lower upper n m n-there m-there =
    let world = run_by clocks header events in
    agree_meanwhile_at late long t stays c s world
    (all_asked clocks header setting events late long t stays c s set possible attended slack told (one_network c wire there) s-in calm delivered swift follow
    members sets range)
    (given setting world (clocked_runs_fit clocks header setting events set possible).0 honest life) wire undated gives x h now lower upper n m n-there m-there

pub runs_agree_meanwhile : RunsAgreeMeanwhile
runs_agree_meanwhile header setting events late long t stays c s set possible = subst (λ h. Attended late h → late ≤ SLACK → Told late setting t c h →
    OneWire header setting stays → stays c ≡ true → Within s h → Calm long stays s h → Delivered setting long t stays s h → IsSwift setting long →
    Honest h → Life h → FollowUntil stays c t s h → InTable stays c t s h → SetsNone c s h → Undated c s h → GivesUpNone c s h → KeepsRange s h →
    AgreesMeanwhile setting late long t stays s h) (runs_by_own_clocks header events)
    (clocked_runs_agree_meanwhile (clocks_of header) header setting events late long t stays c s (set_own header setting set)
    (possible_own header events possible))
