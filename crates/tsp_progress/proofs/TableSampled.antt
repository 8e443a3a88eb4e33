-- Each node in its master's table has a sample when a round closes.
use Rattle.std.proofs.Common.{sym, ap, subst, arith, inr, length, ◌∙◌, ◌≡◌, ◌≤◌, ℕ, ◌+◌, ◌==◌, Bool, true, false, List, ◌∷◌, is_some, refl}
use Rattle.tsp_rules.specs.Values.{Close, Port, SLACK}
use Rattle.tsp_rules.specs.Guards.{is_clock_value, is_in_range}
use Rattle.tsp_base.specs.Words.{Acts, HeaderValue, Here, Line, Within, dids, estimate, first_port, is_among, is_measured, is_shared, of, peer_of, plain}
use Rattle.tsp_base.specs.Words.{started, target, view}
use Rattle.tsp_base.proofs.{PlaceLemmas.Within_tail, PlaceLemmas.Within_through, Views.plain_view}
use Rattle.tsp_promises.specs.{Fits.Fits, Fits.node_of, RoundFits.CloseFits, Setting.Setting}
use Rattle.tsp_promises.proofs.{shared.HistoryPlaces.line_on, shared.RoundPlaces.started_at, promised.TakingProof.round_soon}
use Rattle.tsp_promises.proofs.promised.OwnFitsProof.{Located, deed_fits, fits_in, locate}
use Rattle.tsp_run.specs.Clocked.{Clocks, SetByClocks, clocks_of, run_by}
use Rattle.tsp_run.proofs.{OwnClocks.possible_own, OwnClocks.runs_by_own_clocks, OwnClocks.set_own, RunFits.clocked_runs_fit}
use Rattle.tsp_progress.specs.{AlarmsFit.Manner, AnswersInTime.Meanwhile, ByTable.ByTable, ByTable.node_in, Delivered.Delivered, FollowOn.Calm}
use Rattle.tsp_progress.specs.{FollowOn.FollowUntil}
use Rattle.tsp_progress.specs.{FollowOn.OneNetwork, InTable.InTable, InTable.KeepsRange, LateClose.LateClose, RunsWake.manner_of}
use Rattle.tsp_progress.specs.MeasuresTable.{ClockedRunsMeasureTable, HasSample, MeasuresTable, RunsMeasureTable}
use Rattle.tsp_progress.specs.SampledInTime.{ClosesSince, IsSwift}
use Rattle.tsp_progress.specs.{Wakes.AllWake, Wakes.Woken, Watched.Attended, Watched.Told}
use Rattle.tsp_progress.proofs.{LateCloses.after_time, LateCloses.port, OnePortProof.clocked_runs_use_one_port}
use Rattle.tsp_progress.proofs.{RunWakes.clocked_runs_wake, SampledProof.sampled_in_time, TableMeasured.measured, TableProof.clocked_runs_by_table}

-- where the round of a Close began
module _ (setting : Setting) (world : List Line) (fits : Fits setting world) (long t c : ℕ) (stays : ℕ → Bool) (s : List Line) (s-in : Within s world)
    (calm : Calm long stays s world)
    (first : (l : Line) (older : List Line) → Within (l ∷ older) world → node_of l ≡ c → is_shared l.did.deed ≡ false → l.port ≡ first_port)
    (C : Line) (cp : List Line) (r : LateClose long t c s C cp world) where
  pub close_fits : CloseFits C.did (view first_port (of c cp))
  close_fits = subst (λ q. CloseFits C.did (view q (of c cp))) (port setting world fits long t c stays s s-in calm first C cp r)
      (subst (λ k. CloseFits C.did (view C.port (of k cp))) r.node
      (deed_fits setting C cp (Acts (Close r.count r.lo r.size r.mean)) r.deed (fits_in setting C cp world fits r.place)))

  pub begin_at : Located c first_port cp close_fits.start close_fits.idle
  begin_at =
      let sa = started_at (view first_port (of c cp)) close_fits.start close_fits.idle close_fits.start_is in
      locate c first_port cp close_fits.start close_fits.idle (rw sa.deed refl) sa.place

  pub begin_in : Within (line_on first_port close_fits.start ∷ begin_at.older) world
  begin_in = Within_through (line_on first_port close_fits.start ∷ begin_at.older) cp world begin_at.place (Within_tail C cp world r.place)

  pub begin_young : C.did.step.at ≤ close_fits.start.step.at + 9009011
  begin_young = round_soon setting c first_port C cp world close_fits.start close_fits.idle fits r.place r.node close_fits.start_is close_fits.soon

  pub begin_since : Within s begin_at.older
  begin_since = after_time setting world fits s s-in (line_on first_port close_fits.start) begin_at.older begin_in
      (let young = begin_young in let after = r.late in omega (arith, young, after))

module _ {clocks : Clocks} {header : HeaderValue} {setting : Setting} (set : SetByClocks clocks header setting) (world : List Line)
    (table : ByTable header world) (fits : Fits setting world) (m : ℕ → Manner) (woken : Woken m world) (wakes : AllWake m world) (late long t c : ℕ)
    (stays : ℕ → Bool) (s : List Line) (attended : Attended late world) (slack : late ≤ SLACK) (told : Told late setting t c world)
    (one : OneNetwork header setting stays c) (delivered : Delivered setting long t stays s world) (s-in : Within s world)
    (calm : Calm long stays s world) (follow : FollowUntil stays c t s world) (members : InTable stays c t s world) (swift : IsSwift setting long)
    (range : KeepsRange s world)
    (first : (l : Line) (older : List Line) → Within (l ∷ older) world → node_of l ≡ c → is_shared l.did.deed ≡ false → l.port ≡ first_port) where
  -- a clock is in its range
  pub in_range : (l : Line) (older : List Line) → Within (l ∷ older) world → Within s older → (n : ℕ) → node_of l ≡ n → (q : Port) →
      is_clock_value (target (plain (view q (of n older))) l.did.tick) ≡ true
  in_range l older place since-s n node q =
      let here = range.now l older place since-s in
      subst (λ ds. is_clock_value (target ds l.did.tick) ≡ true) (ap (λ k. dids (of k older)) node ∙ sym (plain_view q (of n older))) here

  module _ (C : Line) (cp : List Line) (r : LateClose long t c s C cp world) (n : ℕ) (there : stays n ≡ true) (other : (n == c) ≡ false) where
    c-port : C.port ≡ first_port
    c-port = port setting world fits long t c stays s s-in calm first C cp r

    on-port : is_measured (peer_of n) (view C.port (of c cp)) ≡ true
    on-port = subst (λ q. is_measured (peer_of n) (view q (of c cp)) ≡ true) (sym c-port)
        (measured set world table fits m woken wakes late long t c stays s attended slack told one delivered s-in calm follow members first n there other C cp
        r)

    abbrev Begin : Line
    Begin = line_on first_port (close_fits setting world fits long t c stays s s-in calm first C cp r).start

    closes : ClosesSince s C cp world
    closes = record {
      place = r.place;
      count = r.count;
      lo = r.lo;
      size = r.size;
      mean = r.mean;
      deed = r.deed;
      begin = Begin;
      before = (begin_at setting world fits long t c stays s s-in calm first C cp r).older;
      began = (begin_at setting world fits long t c stays s s-in calm first C cp r).place;
      node = (begin_at setting world fits long t c stays s s-in calm first C cp r).node ∙ sym r.node;
      port = sym c-port;
      started_is = started-here;
      since = begin_since setting world fits long t c stays s s-in calm first C cp r;
    } where
      started-here : started (view C.port (of (node_of C) cp)) ≡ Here Begin.did ∷ view C.port (of (node_of C)
          (begin_at setting world fits long t c stays s s-in calm first C cp r).older)
      started-here =
          let a = begin_at setting world fits long t c stays s s-in calm first C cp r in
          let f = close_fits setting world fits long t c stays s s-in calm first C cp r in
          subst (λ k. started (view C.port (of k cp)) ≡ Here Begin.did ∷ view C.port (of k a.older)) (sym r.node)
          (subst (λ q. started (view q (of c cp)) ≡ Here Begin.did ∷ view q (of c a.older)) (sym c-port)
          (f.start_is ∙ ap (λ z. Here f.start ∷ z) (sym a.before)))

    member : is_among (peer_of n) (setting.members (setting.net (node_of C) C.port)) ≡ true
    member =
        let net : setting.net n first_port ≡ setting.net (node_of C) C.port =
        one.net n there ∙ (ap (λ k. setting.net k first_port) (sym r.node) ∙ ap (setting.net (node_of C)) (sym c-port)) in
        ap (λ k. is_among (peer_of n) (setting.members k)) (sym net) ∙ setting.own n first_port

    meanwhile : Meanwhile header setting long closes.begin closes.before world (peer_of n) is_in_range
    meanwhile line before place later node net soon = in_range line before place
        (Within_through s (closes.begin ∷ closes.before) before (inr-since) later) n node line.port where
          inr-since : Within s (closes.begin ∷ closes.before)
          inr-since = inr closes.since

    pub has_sample : HasSample c n C cp
    has_sample = record {
      measured = on-port;
      sampled = subst (λ k. is_some (estimate (peer_of n) (view C.port (of k cp))) ≡ true) r.node
          (sampled_in_time set world table fits long t stays s delivered swift C cp closes (peer_of n) (record {
            member = member;
            other = subst (λ k. (n == k) ≡ false) (sym r.node) other;
            there = there;
            here = subst (λ k. stays k ≡ true) (sym r.node) one.there;
            told = r.early;
            measured = subst (λ k. is_measured (peer_of n) (view C.port (of k cp)) ≡ true) (sym r.node) on-port;
          }) meanwhile);
    }

  pub measures_table : MeasuresTable long t stays c s world
  measures_table C cp r n there other = has_sample C cp r n there other

pub clocked_runs_measure_table : ClockedRunsMeasureTable
clocked_runs_measure_table clocks header setting events late long t stays c s set possible attended slack told one s-in calm delivered swift follow members
    range =
    let world = run_by clocks header events in
    let w = clocked_runs_wake clocks header events in
    measures_table set world (clocked_runs_by_table clocks header events) (clocked_runs_fit clocks header setting events set possible).0 (manner_of header)
    w.0 w.1 late long t c stays s attended slack told one delivered s-in calm follow members swift range (λ l older place node unshared.
    clocked_runs_use_one_port clocks header setting events set possible l older place
    (subst (λ k. length (node_in header k).ports ≡ 1) (sym node) one.single) unshared)

pub runs_measure_table : RunsMeasureTable
runs_measure_table header setting events late long t stays c s set possible = subst (λ h. Attended late h → late ≤ SLACK → Told late setting t c h →
    OneNetwork header setting stays c → Within s h → Calm long stays s h → Delivered setting long t stays s h → IsSwift setting long →
    FollowUntil stays c t s h → InTable stays c t s h → KeepsRange s h → MeasuresTable long t stays c s h) (runs_by_own_clocks header events)
    (clocked_runs_measure_table (clocks_of header) header setting events late long t stays c s (set_own header setting set)
    (possible_own header events possible))
