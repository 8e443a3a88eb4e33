-- Two corrections that a master begins to one of its followers begin at least a round's length apart.
use Rattle.std.proofs.Common.{sym, ap, subst, arith, true≢false, inl, inr, ◌∙◌, ◌≡◌, ◌≢◌, ◌≤◌, ◌<◌, ◌⊎◌, ℕ, ◌+◌, ◌*◌, ◌==◌, Bool, true, false}
use Rattle.std.proofs.Common.{List, ◌∷◌, None, Some, eq-eqb, refl}
use Rattle.tsp_rules.specs.Values.{Post, Acked, Close, Gave, Join, Ring, CloseAlarm, Message, Good, Peer, PeerId, Port}
use Rattle.tsp_rules.specs.Values.{Master, CLOSE, SLACK, WINDOW}
use Rattle.tsp_base.specs.Words.{Acts, Deed, Did, HeaderValue, Here, Line, MessageValue, Received, Seen, Step, Within, acting}
use Rattle.tsp_base.specs.Words.{corrects_by, dids, first_port, in_table, is_correction, is_measured, is_starting, last_to, lives}
use Rattle.tsp_base.specs.Words.{message_at, of, open_to, peer_of, role, started, time_of, view}
use Rattle.tsp_base.specs.{PortFacts.in_table_after}
use Rattle.tsp_base.proofs.PlaceLemmas.{Within_all, Within_comparable, Within_tail, Within_through}
use Rattle.tsp_promises.specs.{AckFits.AckedFits, CorrectionFits.Follows, Fits.Fits, Fits.SameStep, Fits.node_of, OwnFits.OwnFits}
use Rattle.tsp_promises.specs.{RoundFits.CloseFits, Seldom.SeldomAt, Setting.Setting, StepFacts.closed}
use Rattle.tsp_promises.proofs.{promised.ErrsProof.seldom, promised.KnownProof.in_step_holds, promised.KnownProof.line_is}
use Rattle.tsp_promises.proofs.promised.OwnFitsProof.{Given, Located, deed_fits, fits_at, fits_in, locate, own_fits, own_fits_at, place_time, seen_before}
use Rattle.tsp_promises.proofs.promised.OwnFitsProof.{seen_in}
use Rattle.tsp_promises.proofs.promised.OwnFitsProof.{seen_same, tick_in}
use Rattle.tsp_promises.proofs.promised.SameSendProof.{AckedAt, acked_at, open_last}
use Rattle.tsp_promises.proofs.promised.SendProof.{Opened, last_of, opened, starts_at, starts_late}
use Rattle.tsp_promises.proofs.{shared.Clocks.tick_mono, shared.EverywhereLemmas.Everywhere_at, shared.HistoryPlaces.Within_of, shared.HistoryPlaces.line_on}
use Rattle.tsp_promises.proofs.{shared.HistoryPlaces.own_in, shared.RoundPlaces.closed_at, shared.RoundPlaces.started_at}
use Rattle.tsp_run.specs.Clocked.{Clocks, SetByClocks}
use Rattle.tsp_progress.specs.AckedInTime.{EndedBefore, ends_otherwise}
use Rattle.tsp_progress.specs.{ByTable.ByTable, Delivered.Delivered, FollowOn.Calm, FollowOn.FollowUntil, GivenUp.GivesUpLate, GivenUp.Owes}
use Rattle.tsp_progress.specs.{OnePort.UsesOnePort, OneWire.OneWire, ReportsSoon.is_slave_of, RolesLast.RolesLast}
use Rattle.tsp_progress.specs.StaysIn.{InRange, IsBrief, PostsCorrection}
use Rattle.tsp_progress.specs.TableKept.{JoinsFor, LeavesFor, TableFits, TablesLast}
use Rattle.tsp_progress.specs.{Watched.Attended}
use Rattle.tsp_progress.proofs.ApartBegins.{Begins_at, again-no, begin_fits, rested_first, why}
use Rattle.tsp_progress.proofs.ApartLemmas.{ack_slaveup, measured_since, one_life, owes_sub, same_taken, within_same}
use Rattle.tsp_progress.proofs.{AskedRows.AskFits, AskedRows.measured_in, FollowProof.owes_at, ReportsProof.joined_now, ReportsProof.seen_first}
use Rattle.tsp_progress.proofs.{RoundKept.Going, RoundKept.back, SampledProof.step_of_start, SearchKept.view_within, SendKept.never}
use Rattle.tsp_progress.proofs.SentRows.{AtRound, JoinedNow, SentFits, SentFor}
use Rattle.tsp_progress.proofs.TableStays.{LeftBetween, stays_table}
use Rattle.tsp_progress.proofs.{PassedRows.PassFits, TookPlaces.after_place}
use Rattle.tsp_progress.proofs.StaysProof.{OpenCorrection, correction_numbered, date-no, open_correction, sample-no}

module _ {clocks : Clocks} {header : HeaderValue} {setting : Setting} (set : SetByClocks clocks header setting) (world : List Line)
    (table : ByTable header world) (whole : Given setting world) (gives : GivesUpLate world) (tables : TablesLast world) (uses : UsesOnePort header world)
    (roles : RolesLast world) (sent : (n : ℕ) (q : Port) → Owes SentFits (view q (of n world))) (asks : (n : ℕ) (q : Port) → Owes AskFits (view q (of n world)))
    (late long t c : ℕ) (stays : ℕ → Bool) (s : List Line) (s-in : Within s world) (attended : Attended late world) (slack : late ≤ SLACK)
    (there : stays c ≡ true) (wire : OneWire header setting stays) (calm : Calm long stays s world) (delivered : Delivered setting long t stays s world)
    (brief : IsBrief setting long) (passed : (n : ℕ) (q : Port) → Owes PassFits (view q (of n world))) (range : InRange header long c s world)
    (follow : FollowUntil stays c t s world) (n : ℕ)
    (stay : stays n ≡ true) (other : (n == c) ≡ false) where
  fits : Fits setting world
  fits = whole.fits

  abbrev P : PeerId
  P = peer_of n

  -- what c's port sees up to a place
  abbrev V : List Line → List Seen
  V h = view first_port (of c h)

  abbrev At : Did → List Line → List Line
  At d o = line_on first_port d ∷ o

  -- C begins, because its last correction L was acknowledged
  module _ (d : Did) (o : List Line) (m : MessageValue) (x : Begins_at setting world fits sent c n d o m) (since : Within s o) (until : d.step.at ≤ t)
      (g : Follows (V o) P m) where
    o-in : Within o world
    o-in = Within_tail (line_on first_port d) o world x.place

    op : Opened is_correction P g.last g.older (V o)
    op = starts_at (last_of P) (V o) g.last g.older g.is

    lf : Located c first_port o g.last g.older
    lf = locate c first_port o g.last g.older (let deed = op.begins.deed in rw deed refl) op.place

    abbrev L : List Line
    L = At g.last lf.older

    l-o : Within L o
    l-o = lf.place

    l-begins : Begins_at setting world fits sent c n g.last lf.older op.message
    l-begins = record {
      place = Within_through L o world lf.place o-in;
      node = lf.node;
      corrects = record { deed = op.begins.deed; kind = op.begins.kind; begins = ap acting lf.before ∙ op.begins.begins };
    }

    -- L isn't another sort of deed
    not_post : (k : Did) (w : List Seen) (deed : Deed) → k.deed ≡ deed → ((z : MessageValue) → deed ≢ Acts (Post (Peer P) (Message z))) →
        Here g.last ∷ g.older ≡ Here k ∷ w → ⊥
    not_post k w deed is none e =
        let same : g.last ≡ k = cc in
        none op.message (sym is ∙ (ap (λ (z : Did). z.deed) (sym same) ∙ op.begins.deed))

    acked : AckedAt P (last_to P (V o)) (V o)
    acked = acked_at P (V o) g.acknowledged

    acked-open : open_to P acked.rest ≡ Here g.last ∷ g.older
    acked-open = acked.is ∙ g.is

    l-rest : Within (Here g.last ∷ g.older) acked.rest
    l-rest = (opened P acked.rest g.last g.older acked-open).place

    -- nothing gave it up
    gave-no : (gave : Did) (w : List Seen) → Within (Here gave ∷ w) (V o) → gave.deed ≡ Acts (Gave P) → Within (Here g.last ∷ g.older) w →
        OpenCorrection P w → ⊥
    gave-no gave w place deed l-w oc =
        let kind : corrects_by (message_at (Here oc.first ∷ oc.older)) ≡ is_correction oc.opens.message.kind =
        (let fd = oc.opens.begins.deed in rw fd refl) in
        let last : last_to P w ≡ Here oc.first ∷ oc.older =
        open_last P w (ap (λ z. corrects_by (message_at z)) oc.is ∙ (kind ∙ oc.corrects)) ∙ oc.is in
        let one = starts_late (last_of P) op.message g.last g.older w oc.first oc.older op.begins l-w last in
        let f-v : Within (Here oc.first ∷ oc.older) (V o) = Within_through (Here oc.first ∷ oc.older) w (V o) oc.opens.place
        (Within_tail (Here gave) w (V o) place) in
        let two = starts_late (last_of P) oc.opens.message oc.first oc.older (V o) g.last g.older
        (record { deed = oc.opens.begins.deed; kind = oc.corrects; begins = oc.opens.begins.begins }) f-v g.is in
        let same = within_same (Here g.last ∷ g.older) (Here oc.first ∷ oc.older) one two in
        let ended : EndedBefore P (Here g.last ∷ g.older) (V o) = record {
          end = acked.acked;
          before = acked.rest;
          place = acked.place;
          open_is = acked-open;
          is = ap (λ k. ends_otherwise P k (acting acked.rest)) acked.deed ∙ eq-eqb n n refl;
        } in
        never P op.message g.last g.older op.begins.deed (correction_numbered op.message.kind op.begins.kind) op.begins.begins (V o) ended gave w place deed
        (oc.is ∙ sym same)

    -- nor does a round of C's step end before it
    same-step-no : (close : Did) (past : List Seen) → closed (V o) ≡ Here close ∷ past → Within (Here close ∷ past) g.older → ⊥
    same-step-no close past c-is within =
        let la = locate c first_port o acked.acked acked.rest (let deed = acked.deed in rw deed refl) acked.place in
        let a-world : Within (At acked.acked la.older) world = Within_through (At acked.acked la.older) o world la.place o-in in
        let fit : AckedFits (V la.older) P = subst (λ j. AckedFits (view first_port (of j la.older)) P) la.node
        (deed_fits setting (line_on first_port acked.acked) la.older (Acts (Acked P)) acked.deed
        (fits_in setting (line_on first_port acked.acked) la.older world fits a-world)) in
        let ends = fit g.last g.older op.message (ap (open_to P) la.before ∙ acked-open) op.begins.deed in
        let ack = ends.correction op.begins.kind in
        let r : Received = record { from = Peer P; taken = Good (Message ack.message) } in
        let close-a : Within (Here close ∷ past) (V la.older) = subst (λ z. Within (Here close ∷ past) z) (sym la.before)
        (Within_through (Here close ∷ past) (Here g.last ∷ g.older) acked.rest (inr within) l-rest) in
        let took = same_taken setting first_port close past r (of c o) (of c la.older) (own_fits setting c o (fits_at setting o world fits o-in))
        (Within_of c la.older o (Within_tail (line_on first_port acked.acked) la.older o la.place)) c-is close-a ack.took in
        elim (begin_fits setting world fits sent c n d o m x).from [
          | inl up ↦ ack_slaveup ack.message up.message P ack.kind up.kind (sym took ∙ up.took)
          | inr k ↦ let bad : None ≡ Some r = sym k.is.untaken ∙ took in some-no r bad
        ]
      where
        some-no : (r : Received) → None ≡ Some r → ⊥
        some-no r e = cc

    l-late : time_of (dids s) + 3 * WINDOW < g.last.step.at → Within s lf.older
    l-late less = after_place setting s world fits s-in (line_on first_port g.last) lf.older l-begins.place (omega (arith, less))

    -- right after L its addressee is in the table
    l-table : is_slave_of c n L ≡ true
    l-table = ap (in_table P) (seen_first c (line_on first_port g.last) lf.older lf.node refl) ∙
        (ap (λ k. in_table_after P k (in_table P (V lf.older))) op.begins.deed ∙ was (why setting world fits sent c n g.last lf.older op.message l-begins))
      where
        was : SentFor P g.last (V lf.older) op.message → in_table P (V lf.older) ≡ true
        was (inl j) = ap (in_table P) j.is ∙ (ap (λ k. in_table_after P k (in_table P j.older)) j.deed ∙
            joined_now (n == n) (in_table P j.older) (eq-eqb n n refl))
        was (inr (inl r)) = r.kept (measured_in P r.past (owes_sub AskFits r.past (V world) (past-in r) (asks c first_port)) r.measured) where
          past-in : (r : AtRound P g.last (V lf.older) op.message) → Within r.past (V world)
          past-in r = Within_through r.past (V lf.older) (V world) (Within_tail (Here r.close) r.past (V lf.older)
              (closed_at (V lf.older) r.close r.past r.is))
              (view_within first_port (of c lf.older) (of c world) (Within_of c lf.older world (Within_tail (line_on first_port g.last) lf.older world
              l-begins.place)))
        was (inr (inr a)) = absurd (again-no setting world fits sent c n g.last lf.older op.message l-begins a)

    -- so C doesn't follow a Join
    module _ (far : time_of (dids s) + 3 * WINDOW < g.last.step.at) where
      joined-no : JoinedNow P d.step (V o) → ⊥
      joined-no j =
          let lj = locate c first_port o j.join j.older (let deed = j.deed in rw deed refl) (subst (λ z. Within (Here j.join ∷ j.older) z) (sym j.is)
          (Within_all (Here j.join ∷ j.older))) in
          let j-world : Within (At j.join lj.older) world = Within_through (At j.join lj.older) o world lj.place o-in in
          let fit : JoinsFor P j.older = subst (λ k. TableFits k j.join j.older) j.deed (owes_at TableFits j.join j.older (V world)
          (subst (λ z. Within (Here j.join ∷ z) (V world)) lj.before (seen_in c (line_on first_port j.join) lj.older world lj.node j-world))
          (tables c first_port)) in
          let l-seen : Within (Here g.last ∷ g.older) j.older = elim (subst (λ z. Within (Here g.last ∷ g.older) z) j.is op.place) [
            | inl e ↦ absurd (not_post j.join j.older (Acts (Join P)) j.deed (λ z e. let bad : ⊥ = cc in bad) e)
            | inr v ↦ v
          ] in
          let l-j : Within L lj.older = seen_before c first_port g.last j.join lf.older lj.older o lf.node lj.node lf.place lj.place
          (subst (λ z. Within (Here g.last ∷ z) (V lj.older)) (sym lf.before) (subst (λ z. Within (Here g.last ∷ g.older) z) (sym lj.before) l-seen)) in
          let h-world = Within_tail (line_on first_port j.join) lj.older world j-world in
          let h-until : time_of (dids lj.older) ≤ t = (let le = place_time setting lj.older (At d o) (fits_at setting (At d o) world fits x.place)
          (inr (Within_tail (line_on first_port j.join) lj.older o lj.place)) in omega (arith, le, until)) in
          elim (stays_table setting world fits roles uses long t c stays s wire calm follow n L lj.older (inr (l-late far)) l-j h-world h-until l-table) [
            | inl now ↦ true≢false (sym now ∙ (ap (in_table P) lj.before ∙ fit.new))
            | inr y ↦ left-no lj.older h-world h-until (Within_tail (line_on first_port j.join) lj.older o lj.place) y
          ]
        where
          left-no : (h : List Line) → Within h world → time_of (dids h) ≤ t → Within h o → LeftBetween c n L h → ⊥
          left-no h h-world h-until h-o y =
              let y-h = y.place in
              let y-world : Within (y.line ∷ y.before) world = Within_through (y.line ∷ y.before) h world y-h h-world in
              let y-since : Within s y.before = Within_through s L y.before (inr (l-late far)) y.since in
              let y-port : y.line.port ≡ first_port = uses y.line y.before y-world (wire.single (node_of y.line) (calm.only y.line y.before y-world y-since))
              (let deed = y.deed in rw deed refl) in
              let up = place_time setting (y.line ∷ y.before) h (fits_at setting h world fits h-world) y-h in
              let down = place_time setting L (y.line ∷ y.before) (fits_at setting (y.line ∷ y.before) world fits y-world) (inr y.since) in
              let y-until : y.line.did.step.at ≤ t = omega (arith, up, h-until) in
              let y-far : time_of (dids s) + 3 * WINDOW < y.line.did.step.at = omega (arith, down, far) in
              let before-is : view y.line.port (of (node_of y.line) y.before) ≡ V y.before =
              ap (λ q. view q (of (node_of y.line) y.before)) y-port ∙ ap (λ j. view first_port (of j y.before)) y.node in
              let fit : LeavesFor P y.line.did (view y.line.port (of (node_of y.line) y.before)) = subst (λ k. TableFits k y.line.did
              (view y.line.port (of (node_of y.line) y.before))) y.deed (owes_at TableFits y.line.did (view y.line.port (of (node_of y.line) y.before))
              (view y.line.port (of (node_of y.line) world)) (seen_in (node_of y.line) y.line y.before world refl y-world)
              (tables (node_of y.line) y.line.port)) in
              elim fit [
                | inl gv ↦
                    let is : V y.before ≡ Here gv.gave ∷ gv.older = sym before-is ∙ gv.is in
                    let l-seen : Within (Here g.last ∷ g.older) (Here gv.gave ∷ gv.older) = subst (λ z. Within (Here g.last ∷ g.older) z) is
                    (subst (λ z. Within (Here g.last ∷ z) (V y.before)) lf.before (seen_in c (line_on first_port g.last) lf.older y.before lf.node y.since)) in
                    let l-w : Within (Here g.last ∷ g.older) gv.older = elim l-seen [
                      | inl e ↦ absurd (not_post gv.gave gv.older (Acts (Gave P)) gv.deed (λ z e. let bad : ⊥ = cc in bad) e)
                      | inr v ↦ v
                    ] in
                    let y-o : Within y.before o = Within_through y.before h o (Within_tail y.line y.before h y-h) h-o in
                    gave-no gv.gave gv.older (subst (λ z. Within z (V o)) is (view_within first_port (of c y.before) (of c o) (Within_of c y.before o y-o)))
                    gv.deed
                    l-w (open_correction P gv.older gv.sending gv.open_is gv.kind)
                | inr (inl u) ↦ sample-no set world table whole gives tables uses late long t c stays s s-in attended slack there wire calm delivered brief
                    passed
                    range y.line y.before y-world y-since y-far y-until y.node n stay other y.deed u
                | inr (inr k) ↦ date-no set world table whole gives tables uses late long t c stays s s-in attended slack there wire calm delivered brief
                    passed
                    range y.line y.before y-world y-since y-far y-until y.node n stay other y.deed k
              ]

      -- a round that measures it and closes with C began after L did
      round_apart : AtRound P d (V o) m → g.last.tick + CLOSE ≤ d.tick
      round_apart r = by_order (Within_comparable L S o lf.place s-o) where
        lc : Located c first_port o r.close r.past
        lc = locate c first_port o r.close r.past (let deed = r.deed in rw deed refl) (closed_at (V o) r.close r.past r.is)

        K-world : Within (At r.close lc.older) world
        K-world = Within_through (At r.close lc.older) o world lc.place o-in

        close : CloseFits r.close (V lc.older)
        close = subst (λ j. CloseFits r.close (view first_port (of j lc.older))) lc.node (deed_fits setting (line_on first_port r.close) lc.older
            (Acts (Close r.count r.lo r.size r.mean)) r.deed (fits_in setting (line_on first_port r.close) lc.older world fits K-world))

        ls : Located c first_port lc.older close.start close.idle
        ls = let sa = started_at (V lc.older) close.start close.idle close.start_is in
            locate c first_port lc.older close.start close.idle (let deed = sa.deed in rw deed refl) sa.place

        S : List Line
        S = At close.start ls.older

        s-o : Within (At close.start ls.older) o
        s-o = Within_through (At close.start ls.older) lc.older o ls.place (Within_tail (line_on first_port r.close) lc.older o lc.place)

        s-world : Within (At close.start ls.older) world
        s-world = Within_through (At close.start ls.older) o world s-o o-in

        same-tick : r.close.tick ≡ d.tick
        same-tick =
            let at = ap (λ (z : Step). z.at) r.step in
            let one = tick_in setting c (line_on first_port r.close) lc.older world fits lc.node K-world in
            let two = tick_in setting c (line_on first_port d) o world fits x.node x.place in
            one ∙ (ap (setting.tick c) at ∙ sym two)

        l-tick : g.last.tick ≡ setting.tick c g.last.step.at
        l-tick = tick_in setting c (line_on first_port g.last) lf.older world fits lf.node l-begins.place

        s-tick : close.start.tick ≡ setting.tick c close.start.step.at
        s-tick = tick_in setting c (line_on first_port close.start) ls.older world fits ls.node s-world

        -- L isn't later than the round's begin
        if-before : g.last.step.at ≤ close.start.step.at → g.last.tick + CLOSE ≤ d.tick
        if-before le =
            let mono = tick_mono setting c g.last.step.at close.start.step.at le in
            let over = close.over in
            let tick = same-tick in
            let one = l-tick in
            let two = s-tick in
            omega (arith, mono, over, tick, one, two)

        -- L stands before the Close
        l-past : Within (Here g.last ∷ g.older) r.past
        l-past = elim (Within_comparable (Here g.last ∷ g.older) (Here r.close ∷ r.past) (V o) op.place (closed_at (V o) r.close r.past r.is)) [
          | inl (inl e) ↦ absurd (not_post r.close r.past (Acts (Close r.count r.lo r.size r.mean)) r.deed (λ z e. let bad : ⊥ = cc in bad) e)
          | inl (inr v) ↦ v
          | inr (inl e) ↦ absurd (not_post r.close r.past (Acts (Close r.count r.lo r.size r.mean)) r.deed (λ z e. let bad : ⊥ = cc in bad) (sym e))
          | inr (inr v) ↦ absurd (same-step-no r.close r.past r.is v)
        ]

        -- and before the ring
        l-ring : Within (Here g.last ∷ g.older) close.past
        l-ring = elim (subst (λ z. Within (Here g.last ∷ g.older) z) (sym lc.before ∙ close.is) l-past) [
          | inl e ↦ absurd (not_post close.ring close.past (Acts (Ring CloseAlarm)) close.rings (λ z e. let bad : ⊥ = cc in bad) e)
          | inr v ↦ v
        ]

        going : Going close.start close.idle Master close.past
        going = record {
          going = close.going;
          started_is = (let same : started (V lc.older) ≡ started close.past = ap started close.is ∙ (let rings = close.rings in rw rings refl) in
              sym same ∙ close.start_is);
          role_is = (let same : role (V lc.older) ≡ role close.past = ap role close.is ∙ (let rings = close.rings in rw rings refl) in sym same ∙ close.leads);
        }

        -- L came while the round went on
        by-why : Within (At close.start ls.older) lf.older → SentFor P g.last (V lf.older) op.message → g.last.tick + CLOSE ≤ d.tick
        by-why begun (inl j) = if-joined j (is_starting (V lf.older)) refl where
          start-v : Within (Here close.start ∷ close.idle) (V lf.older)
          start-v = subst (λ z. Within (Here close.start ∷ z) (V lf.older)) ls.before (seen_in c (line_on first_port close.start) ls.older lf.older ls.node
              begun)

          v-ring : Within (V lf.older) close.past
          v-ring = subst (λ z. Within z close.past) (sym lf.before) (Within_tail (Here g.last) g.older close.past l-ring)

          now : Going close.start close.idle Master (V lf.older)
          now = back close.start close.idle Master (V lf.older) close.past v-ring start-v going

          own : OwnFits setting (line_on first_port g.last ∷ of c lf.older)
          own = own_fits_at setting (line_on first_port g.last ∷ of c lf.older) (of c world) (own_fits setting c world fits)
              (own_in c (line_on first_port g.last) lf.older world lf.node l-begins.place)

          lj : Located c first_port lf.older j.join j.older
          lj = locate c first_port lf.older j.join j.older (let deed = j.deed in rw deed refl) (subst (λ z. Within (Here j.join ∷ j.older) z) (sym j.is)
              (Within_all (Here j.join ∷ j.older)))

          fit : JoinsFor P j.older
          fit = subst (λ k. TableFits k j.join j.older) j.deed (owes_at TableFits j.join j.older (V world)
              (subst (λ z. Within (Here j.join ∷ z) (V world)) lj.before (seen_in c (line_on first_port j.join) lj.older world lj.node
              (Within_through (At j.join lj.older) lf.older world lj.place (Within_tail (line_on first_port g.last) lf.older world l-begins.place))))
              (tables c first_port))

          if-joined : (j : JoinedNow P g.last.step (V lf.older)) (b : Bool) → is_starting (V lf.older) ≡ b → g.last.tick + CLOSE ≤ d.tick
          if-joined k true e =
              let same = step_of_start setting first_port (of c lf.older) own.1 e close.start close.idle now.started_is g.last.step
              (in_step_holds (Post (Peer P) (Message op.message)) g.last.step (of c lf.older)
              (subst (λ z. SameStep z g.last.step (dids (of c lf.older))) op.begins.deed own.0.step)) in
              if-before (let at = ap (λ (z : Step). z.at) same in omega (arith, at))
          if-joined k false e =
              let was = measured_since P close.start close.idle (V lf.older) start-v e close.past v-ring going.started_is in
              let ring-measured : is_measured P close.past ≡ true = sym (ap (is_measured P) close.is ∙ (let rings = close.rings in rw rings refl)) ∙
              (ap (is_measured P) lc.before ∙ r.measured) in
              let m-now : is_measured P (V lf.older) ≡ true = was.1 ring-measured in
              let m-join : is_measured P j.older ≡ true = sym (ap (is_measured P) j.is ∙ (let deed = j.deed in rw deed refl)) ∙ m-now in
              let in-v : Within j.older (V world) = Within_through j.older (V lf.older) (V world)
              (subst (λ z. Within j.older z) (sym j.is) (inr (Within_all j.older)))
              (view_within first_port (of c lf.older) (of c world) (Within_of c lf.older world
              (Within_tail (line_on first_port g.last) lf.older world l-begins.place))) in
              absurd (true≢false (sym (measured_in P j.older (owes_sub AskFits j.older (V world) in-v (asks c first_port)) m-join) ∙ fit.new))
        by-why begun (inr (inl q)) =
            let lq = locate c first_port lf.older q.close q.past (let deed = q.deed in rw deed refl) (closed_at (V lf.older) q.close q.past q.is) in
            let l-lc : Within L lc.older = seen_before c first_port g.last r.close lf.older lc.older o lf.node lc.node lf.place lc.place
            (subst (λ z. Within (Here g.last ∷ z) (V lc.older)) (sym lf.before) (subst (λ z. Within (Here g.last ∷ g.older) z) (sym lc.before) l-past)) in
            let q-lc : Within (At q.close lq.older) lc.older = Within_through (At q.close lq.older) lf.older lc.older lq.place
            (Within_tail (line_on first_port g.last) lf.older lc.older l-lc) in
            let lc-world : Within lc.older world = Within_tail (line_on first_port r.close) lc.older world K-world in
            let q-world : Within (At q.close lq.older) world = Within_through (At q.close lq.older) lc.older world q-lc lc-world in
            let at = ap (λ (z : Step). z.at) q.step in
            let q-since : Within s lq.older = after_place setting s world fits s-in (line_on first_port q.close) lq.older q-world (omega (arith, at, far)) in
            let one = one_life c long stays s world calm lq.older lc.older q-since (Within_tail (line_on first_port q.close) lq.older lc.older q-lc) lc-world in
            let node-q : q.close.step.node ≡ r.close.step.node = lq.node ∙ sym lc.node in
            let lives-are : lives (dids (of (node_of (line_on first_port r.close)) lq.older)) ≡
            lives (dids (of (node_of (line_on first_port r.close)) lc.older)) =
            subst (λ j. lives (dids (of j lq.older)) ≡ lives (dids (of j lc.older))) (sym lc.node) one in
            let far-apart = Everywhere_at SeldomAt (line_on first_port r.close) lc.older world (seldom setting world fits) K-world (line_on first_port q.close)
            lq.older r.count q.count r.lo r.size r.mean q.lo q.size q.mean r.deed q-lc node-q refl q.deed lives-are in
            let q-tick = tick_in setting c (line_on first_port q.close) lq.older world fits lq.node q-world in
            let same : setting.tick c q.close.step.at ≡ setting.tick c g.last.step.at = ap (setting.tick c) at in
            let tick = same-tick in
            let l-is = l-tick in
            omega (arith, far-apart, q-tick, same, tick, l-is)
        by-why begun (inr (inr a)) = absurd (again-no setting world fits sent c n g.last lf.older op.message l-begins a)

        by_order : Within L S ⊎ Within S L → g.last.tick + CLOSE ≤ d.tick
        by_order (inl v) = if-before (place_time setting L (At close.start ls.older) (fits_at setting (At close.start ls.older) world fits s-world) v)
        by_order (inr (inl e)) = if-before (let same = ap (λ (z : List Line). time_of (dids z)) e in omega (arith, same))
        by_order (inr (inr v)) = by-why v (why setting world fits sent c n g.last lf.older op.message l-begins)

      -- so they begin apart
      last_apart : g.last.tick + CLOSE ≤ d.tick
      last_apart = by_reason (why setting world fits sent c n d o m x) where
        by_reason : SentFor P d (V o) m → g.last.tick + CLOSE ≤ d.tick
        by_reason (inl j) = absurd (joined-no j)
        by_reason (inr (inl r)) = round_apart r
        by_reason (inr (inr a)) = absurd (again-no setting world fits sent c n d o m x a)

    -- each correction that began before C did so by then
    all_apart : (f : Did) (fo : List Line) (k : MessageValue) → Begins_at setting world fits sent c n f fo k → Within (At f fo) o →
        time_of (dids s) + 3 * WINDOW < f.step.at →
        f.tick + CLOSE ≤ d.tick
    all_apart f fo k y f-in f-far =
        let f-seen : Within (Here f ∷ V fo) (V o) = seen_in c (line_on first_port f) fo o y.node f-in in
        let order = starts_late (last_of P) k f (V fo) (V o) g.last g.older y.corrects f-seen g.is in
        let f-l : Within (At f fo) L = elim order [
          | inl e ↦ subst (λ z. Within (At f fo) z) (seen_same c first_port first_port f g.last fo lf.older o y.node lf.node f-in lf.place
              (e ∙ ap (λ z. Here g.last ∷ z) (sym lf.before))) (Within_all (At f fo))
          | inr v ↦ inr (seen_before c first_port f g.last fo lf.older o y.node lf.node f-in lf.place (subst (λ z. Within (Here f ∷ V fo) z) (sym lf.before) v))
        ] in
        let le = place_time setting (At f fo) L (fits_at setting L world fits l-begins.place) f-l in
        let f-tick = tick_in setting c (line_on first_port f) fo world fits y.node y.place in
        let g-tick = tick_in setting c (line_on first_port g.last) lf.older world fits lf.node l-begins.place in
        let mono = tick_mono setting c f.step.at g.last.step.at le in
        let apart = last_apart (omega (arith, le, f-far)) in
        omega (arith, f-tick, g-tick, mono, apart)

  begins_line : (l : Line) (older : List Line) (m : MessageValue) → PostsCorrection c n l older world m → acting (view l.port (of c older)) ≡ true →
      Within s older → Begins_at setting world fits sent c n l.did older m
  begins_line l older m posts begins since =
      let port : l.port ≡ first_port = uses l older posts.place (wire.single (node_of l) (calm.only l older posts.place since))
      (let deed = posts.deed in rw deed refl) in
      record {
        place = subst (λ z. Within (z ∷ older) world) (sym (line_is l first_port port)) posts.place;
        node = posts.node;
        corrects = record { deed = posts.deed; kind = posts.kind; begins = ap (λ q. acting (view q (of c older))) (sym port) ∙ begins };
      }

  pub begin_apart : (l : Line) (older : List Line) → Within (l ∷ older) world → Within s older → l.did.step.at ≤ t → (m k : MessageValue) (early : Line)
      (before : List Line) → PostsCorrection c n l older world m → PostsCorrection c n early before older k →
      time_of (dids s) + 3 * WINDOW < early.did.step.at → acting (view l.port (of c older)) ≡ true → acting (view early.port (of c before)) ≡ true →
      early.did.tick + CLOSE ≤ l.did.tick
  begin_apart l older place since until m k early before posts posts-e far begins begins-e =
      let e-world : Within (early ∷ before) world = Within_through (early ∷ before) older world posts-e.place (Within_tail l older world place) in
      let e-since = after_place setting s world fits s-in early before e-world (omega (arith, far)) in
      let x = begins_line l older m posts begins since in
      let y = begins_line early before k (record { place = e-world; node = posts-e.node; deed = posts-e.deed; kind = posts-e.kind }) begins-e e-since in
      let e-port : early.port ≡ first_port = uses early before e-world (wire.single (node_of early) (calm.only early before e-world e-since))
      (let deed = posts-e.deed in rw deed refl) in
      let e-in : Within (At early.did before) older = subst (λ z. Within (z ∷ before) older) (sym (line_is early first_port e-port)) posts-e.place in
      elim (rested_first setting world fits sent c n l.did older m x early.did before k e-in y.node posts-e.deed posts-e.kind) [
        | inl old ↦ omega (arith, old)
        | inr g ↦ all_apart l.did older m x since until g early.did before k y e-in far
      ]
