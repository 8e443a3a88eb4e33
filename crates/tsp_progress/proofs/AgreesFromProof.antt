-- In a calm network that follows its master all clocks agree from some time on.
use Rattle.std.proofs.Common.{sym, ap, subst, arith, inl, inr, ◌∙◌, ◌≡◌, ◌≤◌, ◌<◌, ℕ, ◌+◌, ◌-◌, ◌==◌, ◌+ℤ◌, pos, Bool, true, false, List, []}
use Rattle.std.proofs.Common.{◌∷◌, eqb-true, length, refl}
use Rattle.std.proofs.lemmas.{Bool.cases_lt}
use Rattle.tsp_rules.specs.Values.{AdjTime, Event, Good, Master, Message, Peer, Place, Post, Took, SLACK, WINDOW}
use Rattle.tsp_rules.specs.Guards.{is_clock_value}
use Rattle.tsp_base.specs.Words.{Acts, HeaderValue, Line, MessageValue, Within, dids, first_port, is_correction, of, peer_of, role, sets_date, target}
use Rattle.tsp_base.specs.Words.{in_table, is_shared, time_in, time_of, view}
use Rattle.tsp_base.proofs.{PlaceLemmas.Within_all, PlaceLemmas.Within_strict, PlaceLemmas.Within_tail, PlaceLemmas.Within_through, Views.plain_view}
use Rattle.tsp_promises.specs.{ClockAt.ClocksWithin, Fits.Fits, Fits.node_of, Premises.Honest, Premises.Life, Setting.Setting}
use Rattle.tsp_promises.proofs.{shared.EverywhereLemmas.Everywhere_within, shared.SendPlaces.post_fits}
use Rattle.tsp_promises.proofs.promised.OwnFitsProof.{Given, fits_at, fits_in, given, given_at, place_time}
use Rattle.tsp_run.specs.Clocked.{Clocks, PossibleBy, SetByClocks, clocks_of, run_by}
use Rattle.tsp_run.proofs.{OwnClocks.possible_own, OwnClocks.runs_by_own_clocks, OwnClocks.set_own, RunFits.clocked_runs_fit}
use Rattle.tsp_progress.specs.{AgreesFrom.AgreesFrom, AgreesFrom.ClockedRunsAgreeFrom, AgreesFrom.NoneFar, AgreesFrom.RunsAgreeFrom}
use Rattle.tsp_progress.specs.{AgreesFrom.agreed_from_after}
use Rattle.tsp_progress.specs.{AgreesMeanwhile.agree_meanwhile, AgreesOn.HistoryAt, ByTable.node_in, Delivered.Delivered, FollowOn.AfterPlace, FollowOn.Calm}
use Rattle.tsp_progress.specs.{FollowOn.FollowUntil, FollowOn.OneNetwork, FollowOn.role_of, InTable.GivesUpNone, InTable.InTable, InTable.KeepsRange}
use Rattle.tsp_progress.specs.{InTable.SetsNone}
use Rattle.tsp_progress.specs.{InTable.Undated, OneWire.OneWire, SettlesTable.settled_table_after, StaysIn.InRange, StaysIn.IsBrief}
use Rattle.tsp_progress.specs.{StaysIn.over_after, Watched.Attended, Watched.Told}
use Rattle.tsp_progress.proofs.{AgreesMeanwhileProof.agree_meanwhile_at, AllAsked.Tended, CutRun.cut, CutRun.cut_has, CutRun.cut_time, CutRun.cut_within}
use Rattle.tsp_progress.proofs.{LeaveProof.clocked_runs_leave, SentTakes.runs_sent, SetsNoneProof.sets-no}
use Rattle.tsp_progress.proofs.{CutRun.delivered_cut, CutRun.told_cut, MovedByProof.follows_not, NoDateProof.sent, NoDateProof.takes-no-date}
use Rattle.tsp_progress.proofs.{OnePortProof.clocked_runs_use_one_port, PassedRows.runs_passed, ReportsProof.clocked_runs_report}
use Rattle.tsp_progress.proofs.{RolesProof.clocked_runs_keep_roles, RunWakes.clocked_runs_wake, SettlesProof.clocked_runs_stay_member, StaysProof.brief_swift}
use Rattle.tsp_progress.proofs.{TableProof.clocked_runs_by_table, TableStays.stays_table, TakesProof.one_network, TookPlaces.after_place}

-- a place that isn't later stands in the run up to that time
has_place : (clocks : Clocks) (header : HeaderValue) (y : ℕ) (events : List Event) (h : List Line) → Within h (run_by clocks header events) →
    time_of (dids h) ≤ y → Within h (run_by clocks header (cut clocks header y events))
has_place clocks header y events [] w le = nothing_in (run_by clocks header (cut clocks header y events)) where
  nothing_in : (h : List Line) → Within [] h
  nothing_in [] = refl
  nothing_in (l ∷ h) = inr (nothing_in h)
has_place clocks header y events (k ∷ h) w le = cut_has clocks header y events k h w le

module _ (clocks : Clocks) (header : HeaderValue) (setting : Setting) (events : List Event) (late long t : ℕ) (stays : ℕ → Bool) (c : ℕ) (s : List Line)
    (set : SetByClocks clocks header setting) (possible : PossibleBy clocks header events) (attended : Attended late (run_by clocks header events))
    (slack : late ≤ SLACK) (told : Told late setting t c (run_by clocks header events)) (wire : OneWire header setting stays) (there : stays c ≡ true)
    (s-in : Within s (run_by clocks header events)) (calm : Calm long stays s (run_by clocks header events))
    (delivered : Delivered setting long t stays s (run_by clocks header events)) (brief : IsBrief setting long)
    (honest : Honest (run_by clocks header events)) (life : Life (run_by clocks header events)) (range : InRange header long c s (run_by clocks header events))
    (follow : FollowUntil stays c t s (run_by clocks header events)) (x : ℕ) (h : List Line) (now : HistoryAt x h (run_by clocks header events))
    (lower : time_of (dids s) + agreed_from_after long ≤ x) (upper : x + long < t) where
  abbrev World : List Line
  World = run_by clocks header events

  -- what comes before t
  abbrev Before : List Event
  Before = cut clocks header (t - 1) events

  abbrev Part : List Line
  Part = run_by clocks header Before

  -- when all are in the table
  abbrev Bound : ℕ
  Bound = time_of (dids s) + settled_table_after long + WINDOW

  abbrev G : List Line
  G = run_by clocks header (cut clocks header Bound Before)

  fits : Fits setting World
  fits = (clocked_runs_fit clocks header setting events set possible).0

  whole : Given setting World
  whole = given setting World fits honest life

  part-in : Within Part World
  part-in = cut_within clocks header (t - 1) events

  g-part : Within G Part
  g-part = cut_within clocks header Bound Before

  g-in : Within G World
  g-in = Within_through G Part World g-part part-in

  part-time : time_of (dids Part) ≤ t - 1
  part-time = cut_time clocks header (t - 1) events

  g-time : time_of (dids G) ≤ Bound
  g-time = cut_time clocks header Bound Before

  bound-early : Bound ≤ t - 1
  bound-early = omega (arith, lower, upper)

  in-g : (k : List Line) → Within k World → time_of (dids k) ≤ Bound → Within k G
  in-g k w le = has_place clocks header Bound Before k
      (has_place clocks header (t - 1) events k w (let early = bound-early in omega (arith, le, early))) le

  s-g : Within s G
  s-g = in-g s s-in (omega arith)

  line-in : (l : Line) (older : List Line) → Within (l ∷ older) Part → Within (l ∷ older) World
  line-in l older place = Within_through (l ∷ older) Part World place part-in

  s-older : (older : List Line) → Within G older → Within s older
  s-older older g-older = Within_through s G older s-g g-older

  later : (P : Line → List Line → Type 0) → AfterPlace s World P → AfterPlace G Part P
  later P all l older place since = all l older (line-in l older place) (s-older older since)

  -- its lines come later than the bound, and before t
  line-late : (l : Line) (older : List Line) → Within (l ∷ older) Part → Within G older → Bound < l.did.step.at
  line-late l older place since = elim (cases_lt Bound l.did.step.at) [
    | inl less ↦ less
    | inr most ↦ absurd (Within_strict l older older (Within_through (l ∷ older) G older
        (in-g (l ∷ older) (line-in l older place) (omega (arith, most))) since) (Within_all older))
  ]

  line-early : (l : Line) (older : List Line) → Within (l ∷ older) Part → l.did.step.at < t
  line-early l older place =
      let le = place_time setting (l ∷ older) Part (fits_at setting Part World fits part-in) place in
      let most = part-time in
      omega (arith, le, most, upper)

  abbrev One : Type 0
  One = OneNetwork header setting stays c

  one : One
  one = one_network c wire there

  abbrev Settled : ℕ
  Settled = time_of (dids s) + settled_table_after long

  -- all are in the table, at each place that stands after all that isn't later
  in-table-at : (k : List Line) → Within k World → ((a : List Line) → Within a World → time_of (dids a) ≤ Settled → Within a k) → time_of (dids k) ≤ t →
      (n : ℕ) → stays n ≡ true → (n == c) ≡ false → in_table (peer_of n) (view first_port (of c k)) ≡ true
  in-table-at k k-in after-all le n stay other =
      let r = clocked_runs_report clocks header setting events late long t stays c s set possible attended slack told one delivered s-in follow n
      (time_of (dids s) + over_after) stay other (omega arith) (omega (arith, lower, upper)) in
      let none = clocked_runs_stay_member clocks header setting events late long t stays c s set possible attended slack there wire s-in calm delivered brief
      honest life range follow in
      let before : Within r.at k = after-all r.at r.place (let soon = r.soon in omega (arith, soon)) in
      elim (stays_table setting World fits (clocked_runs_keep_roles clocks header setting events set possible)
      (clocked_runs_use_one_port clocks header setting events set possible) long t c stays s wire calm follow n r.at k r.since before k-in le r.member) [
        | inl found ↦ found
        | inr l ↦ absurd (
            let l-world : Within (l.line ∷ l.before) World = Within_through (l.line ∷ l.before) k World l.place k-in in
            let at-before = place_time setting r.at (l.line ∷ l.before) (fits_at setting (l.line ∷ l.before) World fits l-world) (inr l.since) in
            let line-before = place_time setting (l.line ∷ l.before) k (fits_at setting k World fits k-in) l.place in
            let after = r.later in
            none l.line l.before l-world (Within_through s r.at l.before r.since l.since) (omega (arith, at-before, after)) (omega (arith, line-before, le))
            l.node n stay other l.deed)
      ]

  members : InTable stays c t G Part
  members k k-part g-k le n stay other = in-table-at k (Within_through k Part World k-part part-in)
      (λ a a-in a-le. Within_through a G k (in-g a a-in (omega (arith, a-le))) g-k) le n stay other

  member : (l : Line) (older : List Line) → Within (l ∷ older) World → Settled < l.did.step.at → l.did.step.at < t → (n : ℕ) → stays n ≡ true →
      (n == c) ≡ false → in_table (peer_of n) (view first_port (of c older)) ≡ true
  member l older place after until n stay other =
      let order = (fits_in setting l older World fits place).order in
      in-table-at older (Within_tail l older World place) (λ a a-in a-le. after_place setting a World fits a-in l older place (omega (arith, a-le, after)))
      (omega (arith, order, until)) n stay other

  -- nobody takes a date
  undated : Undated c G Part
  undated l older place since node from m deed = by_case (sets_date m.kind) refl where
    by_case : (b : Bool) → sets_date m.kind ≡ b → sets_date m.kind ≡ false
    by_case true e = absurd (takes-no-date setting World fits (runs_passed clocks header events) long stays s s-in calm l older (line-in l older place)
        (s-older older since) (let time = line-late l older place since in omega (arith, time)) from m deed e)
    by_case false e = e

  -- clocks stay in their range
  keeps : KeepsRange G Part
  keeps = record { now = in-range; moved = stays-in } where
    in-range : AfterPlace G Part (λ l older. is_clock_value (target (dids (of (node_of l) older)) l.did.tick) ≡ true)
    in-range l older place since = subst (λ z. is_clock_value (target z l.did.tick) ≡ true) (plain_view l.port (of (node_of l) older))
        (range.clock l older (line-in l older place) (s-older older since))

    stays-in : AfterPlace G Part (λ l older. (from : Place) (m : MessageValue) → l.did.deed ≡ Acts (Took from (Good (Message m))) → m.kind ≡ AdjTime →
        is_clock_value (target (dids (of (node_of l) older)) l.did.tick +ℤ time_in m.body) ≡ true)
    stays-in l older place since from m deed kind =
        let k = sent setting World fits (runs_passed clocks header events) long stays s s-in calm l older (line-in l older place) (s-older older since) from m
        deed in
        let older-in = Within_tail l older World (line-in l older place) in
        let p-in : Within (k.post ∷ k.before) World = Within_through (k.post ∷ k.before) older World k.place older-in in
        let soon = k.soon in
        let time = line-late l older place since in
        let early = line-early l older place in
        let order = place_time setting (k.post ∷ k.before) (l ∷ older) (fits_at setting (l ∷ older) World fits (line-in l older place)) (inr k.place) in
        let p-since : Within s k.before = after_place setting s World fits s-in k.post k.before p-in (omega (arith, soon, time)) in
        let p-stays = calm.only k.post k.before p-in p-since in
        let corrects : is_correction m.kind ≡ true = rw kind refl in
        let port : k.post.port ≡ first_port = clocked_runs_use_one_port clocks header setting events set possible k.post k.before p-in
        (wire.single (node_of k.post) p-stays) (let posts = k.deed in rw posts refl) in
        let fit = fits_in setting k.post k.before World fits p-in in
        let leads : role_of (node_of k.post) k.before ≡ Master = ap (λ q. role (view q (of (node_of k.post) k.before))) (sym port) ∙
        (post_fits setting (node_of k.post) k.post k.before (peer_of (node_of l)) m fit refl k.deed corrects).leads in
        let before-time = fit.order in
        by_node (node_of k.post == c) k.post refl k.before k.place k.deed corrects soon p-stays leads
        (Within_tail k.post k.before World p-in) p-since (omega (arith, before-time, order, early))
      where
        by_node : (b : Bool) (post : Line) → (node_of post == c) ≡ b → (before : List Line) → Within (post ∷ before) older →
            post.did.deed ≡ Acts (Post (Peer (peer_of (node_of l))) (Message m)) → is_correction m.kind ≡ true → l.did.step.at ≤ post.did.step.at + long →
            stays (node_of post) ≡ true → role_of (node_of post) before ≡ Master → Within before World → Within s before → time_of (dids before) ≤ t →
            is_clock_value (target (dids (of (node_of l) older)) l.did.tick +ℤ time_in m.body) ≡ true
        by_node true post e before p-place posts corrects soon stay leads b-in b-since le =
            subst (λ z. is_clock_value (target z l.did.tick +ℤ time_in m.body) ≡ true) (plain_view l.port (of (node_of l) older))
            (range.moved l older (line-in l older place) (s-older older since) post before m
            (record { place = p-place; node = eqb-true (node_of post) c e; deed = posts; kind = corrects }) kind soon)
        by_node false post e before p-place posts corrects soon stay leads b-in b-since le = follows_not (peer_of c) (role_of (node_of post) before)
            ((follow before b-in b-since le).follow (node_of post) stay e) leads

  calm-g : Calm long stays G Part
  calm-g = record {
    only = later _ calm.only;
    unbooted = later _ calm.unbooted;
    unhanded = later _ calm.unhanded;
    unsent = later _ calm.unsent;
    soon = later _ calm.soon;
  }

  delivered-g : Delivered setting long t stays G Part
  delivered-g l older p d posts since stay early = delivered_cut clocks header (t - 1) setting events fits long t stays s delivered (omega (arith, upper)) l
      older
      p d posts (s-older older since) stay (omega (arith, early, upper))

  told-part : Told late setting t c Part
  told-part = subst (λ z. Told late setting z c Part) (omega (arith, upper)) (told_cut clocks header (t - 1) setting events fits late t c attended told
      (omega (arith, upper)))

  follow-g : FollowUntil stays c t G Part
  follow-g k w g-k le = follow k (Within_through k Part World w part-in) (Within_through s G k s-g g-k) le

  on-first : (l : Line) (older : List Line) → Within (l ∷ older) World → node_of l ≡ c → is_shared l.did.deed ≡ false → l.port ≡ first_port
  on-first l older place node own = clocked_runs_use_one_port clocks header setting events set possible l older place
      (subst (λ k. length (node_in header k).ports ≡ 1) (sym node) (wire.single c there)) own

  module _ (near : NoneFar c s World) (gives : GivesUpNone c s World) where
    -- no SETTIME is posted
    sets : SetsNone c G Part
    sets l older place since node p m deed = sets-no setting World fits (runs_passed clocks header events) (runs_sent clocks header events)
        (clocked_runs_leave clocks header events) long t c stays s s-in calm Settled (omega arith) member on-first near l older (line-in l older place)
        (let time = line-late l older place since in omega (arith, time)) (line-early l older place) node p m deed

    tended : Tended clocks header setting late long t stays c G Part
    tended =
        let w = clocked_runs_wake clocks header Before in
        record {
          set = set;
          table = clocked_runs_by_table clocks header Before;
          fits = fits_at setting Part World fits part-in;
          woken = w.0;
          wakes = w.1;
          attended = Everywhere_within _ Part World attended part-in;
          slack = slack;
          told = told-part;
          one = one;
          s_in = g-part;
          calm = calm-g;
          delivered = delivered-g;
          swift = brief_swift setting long brief;
          follow = follow-g;
          members = members;
          sets = sets;
          range = keeps;
          single = λ l older place. clocked_runs_use_one_port clocks header setting events set possible l older (line-in l older place);
        }

    here : HistoryAt x h Part
    here = record {
      within = has_place clocks header (t - 1) events h now.within (let upto = now.upto in omega (arith, upto, upper));
      upto = now.upto;
      all = λ k w place le. now.all k w (line-in k w place) le;
    }

    agree_from_at : (n m : ℕ) → stays n ≡ true → stays m ≡ true → ClocksWithin setting h x n m (pos (agree_meanwhile setting late long))
    agree_from_at n m nt mt = agree_meanwhile_at late long t stays c G Part tended (given_at setting Part World whole part-in) wire undated (later _ gives) x h
        here
        (let time = g-time in omega (arith, time, lower)) upper n m nt mt

pub clocked_runs_agree_from : ClockedRunsAgreeFrom
clocked_runs_agree_from clocks header setting events late long t stays c s set possible attended slack told wire there s-in calm delivered brief honest life
    range follow near gives x h now lower upper =
    agree_from_at clocks header setting events late long t stays c s set possible attended slack told wire there s-in calm delivered brief honest life range
    follow x h now lower upper near gives

pub runs_agree_from : RunsAgreeFrom
runs_agree_from header setting events late long t stays c s set possible = subst (λ h. Attended late h → late ≤ SLACK → Told late setting t c h →
    OneWire header setting stays → stays c ≡ true → Within s h → Calm long stays s h → Delivered setting long t stays s h → IsBrief setting long →
    Honest h → Life h → InRange header long c s h → FollowUntil stays c t s h → NoneFar c s h → GivesUpNone c s h →
    AgreesFrom setting late long t stays s h) (runs_by_own_clocks header events)
    (clocked_runs_agree_from (clocks_of header) header setting events late long t stays c s (set_own header setting set)
    (possible_own header events possible))
