-- So no member leaves its master's table, and all are in it from some time on.
use Rattle.std.proofs.Common.{subst, arith, inl, inr, ◌≡◌, ◌≤◌, ◌<◌, ◌+◌, true, List, ◌∷◌}
use Rattle.tsp_rules.specs.Values.{SLACK}
use Rattle.tsp_base.specs.Words.{Line, Within, dids}
use Rattle.tsp_base.specs.Words.{time_of}
use Rattle.tsp_base.proofs.{PlaceLemmas.Within_comparable, PlaceLemmas.Within_through}
use Rattle.tsp_promises.specs.{Fits.Fits, Premises.Honest, Premises.Life}
use Rattle.tsp_promises.proofs.{promised.OwnFitsProof.fits_at}
use Rattle.tsp_promises.proofs.promised.OwnFitsProof.{given, place_time}
use Rattle.tsp_run.specs.Clocked.{clocks_of, run_by}
use Rattle.tsp_run.proofs.{OwnClocks.possible_own, OwnClocks.runs_by_own_clocks, OwnClocks.set_own, RunFits.clocked_runs_fit}
use Rattle.tsp_progress.specs.{Delivered.Delivered, FollowOn.Calm, FollowOn.FollowUntil, FollowOn.OneNetwork}
use Rattle.tsp_progress.specs.{OneWire.OneWire}
use Rattle.tsp_progress.specs.SettlesTable.{ClockedRunsSettleTable, RunsSettleTable, SettlesTable}
use Rattle.tsp_progress.specs.StaysIn.{ClockedRunsStayMember, InRange, IsBrief, NoneLeaves, RunsStayMember, over_after}
use Rattle.tsp_progress.specs.{Watched.Attended, Watched.Told}
use Rattle.tsp_progress.proofs.{GiveUpProof.clocked_runs_give_up, LeaveProof.clocked_runs_leave, OnePortProof.clocked_runs_use_one_port}
use Rattle.tsp_progress.proofs.{ReadyProof.ready, ReportsProof.clocked_runs_report, RolesProof.clocked_runs_keep_roles}
use Rattle.tsp_progress.proofs.{StaysProof.none_leaves, TableProof.clocked_runs_by_table}
use Rattle.tsp_progress.proofs.PassedRows.{runs_passed}
use Rattle.tsp_progress.proofs.{ApartProof.begin_apart, AskedRows.runs_asked, SentTakes.runs_sent, TableStays.stays_table}
use Rattle.tsp_progress.specs.CorrectsApart.{ClockedRunsCorrectApart, CorrectsApart, RunsCorrectApart}

pub clocked_runs_correct_apart : ClockedRunsCorrectApart
clocked_runs_correct_apart clocks header setting events late long t stays c s set possible attended slack there wire s-in calm delivered brief honest life
    range follow l older place since until n stay other m k early before posts posts-e far begins begins-e =
    let world = run_by clocks header events in
    let whole = given setting world (clocked_runs_fit clocks header setting events set possible).0 honest life in
    begin_apart set world (clocked_runs_by_table clocks header events) whole (clocked_runs_give_up clocks header events)
    (clocked_runs_leave clocks header events) (clocked_runs_use_one_port clocks header setting events set possible)
    (clocked_runs_keep_roles clocks header setting events set possible) (runs_sent clocks header events) (runs_asked clocks header events) late long t c stays s
    s-in attended slack there wire calm delivered brief (runs_passed clocks header events) range follow n stay other l older place since until m k early before
    posts posts-e far begins
    begins-e

pub runs_correct_apart : RunsCorrectApart
runs_correct_apart header setting events late long t stays c s set possible = subst (λ h. Attended late h → late ≤ SLACK → stays c ≡ true →
    OneWire header setting stays → Within s h → Calm long stays s h → Delivered setting long t stays s h → IsBrief setting long → Honest h → Life h →
    InRange header long c s h → FollowUntil stays c t s h → CorrectsApart t stays c s h) (runs_by_own_clocks header events)
    (clocked_runs_correct_apart (clocks_of header) header setting events late long t stays c s (set_own header setting set)
    (possible_own header events possible))

pub clocked_runs_stay_member : ClockedRunsStayMember
clocked_runs_stay_member clocks header setting events late long t stays c s set possible attended slack there wire s-in calm delivered brief honest life range
    follow =
    let world = run_by clocks header events in
    let whole = given setting world (clocked_runs_fit clocks header setting events set possible).0 honest life in
    let uses = clocked_runs_use_one_port clocks header setting events set possible in
    none_leaves set world (clocked_runs_by_table clocks header events) whole (clocked_runs_give_up clocks header events)
    (clocked_runs_leave clocks header events) uses late long t c stays s s-in attended slack there wire calm delivered brief (runs_passed clocks header events)
    range
    (ready set world whole uses long t c stays s s-in there wire calm follow brief range
    (clocked_runs_correct_apart clocks header setting events late long t stays c s set possible attended slack there wire s-in calm delivered brief honest life
    range follow))

pub runs_stay_member : RunsStayMember
runs_stay_member header setting events late long t stays c s set possible = subst (λ h. Attended late h → late ≤ SLACK → stays c ≡ true →
    OneWire header setting stays → Within s h → Calm long stays s h → Delivered setting long t stays s h → IsBrief setting long → Honest h → Life h →
    InRange header long c s h → FollowUntil stays c t s h → NoneLeaves t stays c s h) (runs_by_own_clocks header events)
    (clocked_runs_stay_member (clocks_of header) header setting events late long t stays c s (set_own header setting set)
    (possible_own header events possible))

pub clocked_runs_settle_table : ClockedRunsSettleTable
clocked_runs_settle_table clocks header setting events late long t stays c s set possible attended slack told there wire s-in calm delivered brief honest life
    range follow g g-since g-in g-late h h-in g-h le n stay other =
    let world = run_by clocks header events in
    let fits = (clocked_runs_fit clocks header setting events set possible).0 in
    let order = place_time setting g h (fits_at setting h world fits h-in) g-h in
    let one : OneNetwork header setting stays c = record { there = there; single = wire.single c there; net = λ k stays-k. wire.net k c stays-k there } in
    let r = clocked_runs_report clocks header setting events late long t stays c s set possible attended slack told one delivered s-in follow n
    (time_of (dids s) + over_after) stay other (omega arith) (omega (arith, order, le, g-late)) in
    let none = clocked_runs_stay_member clocks header setting events late long t stays c s set possible attended slack there wire s-in calm delivered brief
    honest life range follow in
    let before : Within r.at h = before_h r.at h world r.place h-in fits (let soon = r.soon in omega (arith, soon, order, g-late)) in
    elim (stays_table setting world fits (clocked_runs_keep_roles clocks header setting events set possible)
    (clocked_runs_use_one_port clocks header setting events set possible) long t c stays s wire calm follow n r.at h r.since before h-in le r.member) [
      | inl now ↦ now
      | inr l ↦ absurd (
          let l-world : Within (l.line ∷ l.before) world = Within_through (l.line ∷ l.before) h world l.place h-in in
          let at-before = place_time setting r.at (l.line ∷ l.before) (fits_at setting (l.line ∷ l.before) world fits l-world) (inr l.since) in
          let line-before = place_time setting (l.line ∷ l.before) h (fits_at setting h world fits h-in) l.place in
          let later = r.later in
          none l.line l.before l-world (Within_through s r.at l.before r.since l.since) (omega (arith, at-before, later)) (omega (arith, line-before, le))
          l.node
          n stay other l.deed)
    ]
  where
    before_h : (a h world : List Line) → Within a world → Within h world → Fits setting world → time_of (dids a) < time_of (dids h) → Within a h
    before_h a h world v w f less = elim (Within_comparable a h world v w) [
      | inl u ↦ u
      | inr u ↦ absurd (let le = place_time setting h a (fits_at setting a world f v) u in omega (arith, le, less))
    ]

pub runs_settle_table : RunsSettleTable
runs_settle_table header setting events late long t stays c s set possible = subst (λ h. Attended late h → late ≤ SLACK → Told late setting t c h →
    stays c ≡ true → OneWire header setting stays → Within s h → Calm long stays s h → Delivered setting long t stays s h → IsBrief setting long → Honest h →
    Life h → InRange header long c s h → FollowUntil stays c t s h → SettlesTable long t stays c s h)
    (runs_by_own_clocks header events)
    (clocked_runs_settle_table (clocks_of header) header setting events late long t stays c s (set_own header setting set)
    (possible_own header events possible))
