-- In a network that follows its master, a follower's clock takes what a round corrects it by, and agrees with the master's then.
use Rattle.std.proofs.Common.{sym, ap, subst, arith, inl, inr, ◌∙◌, ◌≡◌, ◌≤◌, ℕ, ◌==◌, Bool, true, false, List, [], ◌∷◌, Some}
use Rattle.std.proofs.Common.{is_some, ℤ, pos, ◌+ℤ◌, ◌⊎◌, refl}
use Rattle.tsp_rules.specs.Values.{Act, Correct, Post, Ack, AdjTime, Follow, Good, Kind, Message, PeerId, Peer}
use Rattle.tsp_rules.specs.{GateRows.steers, Guards.is_follow, SlaveRows.takes_amount}
use Rattle.tsp_base.specs.Words.{Acts, Did, HeaderValue, Line, MessageValue, Past, Seen, Within, dids, first_port, heard, is_correction, is_numbered}
use Rattle.tsp_base.specs.Words.{line_of, of, peer_of, role, taken, taken_after, time_in, time_of, view}
use Rattle.tsp_base.proofs.PlaceLemmas.{Within_all, Within_tail, Within_through}
use Rattle.tsp_promises.specs.{Agreed.FromRound, CorrectionFits.AnswersSlaveUp, CorrectionFits.AtClose, Fits.Fits, Fits.node_of, Once.ActsOn, Once.OfSend}
use Rattle.tsp_promises.specs.{OneError.SourceReading, OneError.Taking, Premises.Honest, Premises.Life}
use Rattle.tsp_promises.specs.{Agreed.ClocksAgree, Agreed.Unchanged, Agreed.UnchangedBut, ClockAt.ClocksWithin, ClockAt.drifted, OneError.OneErrorAt}
use Rattle.tsp_promises.specs.{Seldom.ErrAt, Setting.Setting}
use Rattle.tsp_promises.proofs.{promised.AgreedProof.stay_agreed, promised.ErrsProof.errs_bounded, shared.EverywhereLemmas.Everywhere_at}
use Rattle.tsp_promises.proofs.{promised.OneErrorProof.one_error}
use Rattle.tsp_promises.proofs.{promised.OwnFitsProof.Given, promised.OwnFitsProof.fits_at, promised.OwnFitsProof.fits_in, promised.OwnFitsProof.given}
use Rattle.tsp_promises.proofs.{shared.SendPlaces.SendPlace, shared.SendPlaces.send_place}
use Rattle.tsp_promises.proofs.{promised.TakingProof.BegunFacts, promised.TakingProof.begun_facts}
use Rattle.tsp_run.specs.Clocked.{Clocks, SetByClocks, clocks_of, run_by}
use Rattle.tsp_run.proofs.{OwnClocks.possible_own, OwnClocks.runs_by_own_clocks, OwnClocks.set_own, RunFits.clocked_runs_fit}
use Rattle.tsp_progress.specs.{ByTable.ByTable, ByTable.before_line, ByTable.node_in, Delivered.Delivered, FollowOn.FollowUntil}
use Rattle.tsp_progress.specs.{FollowOn.OneNetwork, FollowOn.role_of, Heeds.DoesNext, Heeds.arms_for_delay, Heeds.moved_by, Heeds.posts_bare, Heeds.role_before}
use Rattle.tsp_progress.specs.{ReachesInTime.Corrects, SentAway.past_there}
use Rattle.tsp_progress.specs.Obeyed.{Adjusts, AllObey, ClockedRunsObey, MovedIn, Obeyed, RunsObey}
use Rattle.tsp_progress.proofs.{FollowHeard.first_steers, ReachesProof.reaches_in_time, TableProof.clocked_runs_by_table}
use Rattle.tsp_progress.proofs.WorldPlaces.{WorldPlace, act_place, in_order, world_place}

-- the act that moves a clock
record Moving (a : Act) : Type 0 where
  pub amount : ℤ
  pub stepped : Bool
  pub shown : ℤ
  pub is : a ≡ Correct amount stepped shown

moving : (amount : ℤ) (x : ℕ) (past : Past) → Moving (moved_by amount x past)
moving amount x past = record { amount = _; stepped = _; shown = _; is = refl }

adjusts_kind : (k : Kind) → k ≡ AdjTime → is_correction k ≡ true
adjusts_kind k e = ap is_correction e

numbered_kind : (k : Kind) → k ≡ AdjTime → is_numbered k ≡ true
numbered_kind k e = ap is_numbered e

-- an ADJTIME doesn't begin for a SLAVEUP
no_slaveup : (first : Did) (begun : List Seen) (p q : PeerId) (m k : MessageValue) → m.kind ≡ AdjTime → taken begun ≡ Some (record {
  from = Peer q;
  taken = Good (Message k);
}) → AnswersSlaveUp begun p m ⊎ AtClose first begun p m → ⊥
no_slaveup first begun p q m k kind took (inl s) = let bad : ⊥ = (let e = sym kind ∙ s.sets in cc) in bad
no_slaveup first begun p q m k kind took (inr a) = let bad : ⊥ = (let e = sym a.is.untaken ∙ took in cc) in bad

module _ {clocks : Clocks} {header : HeaderValue} {setting : Setting} (set : SetByClocks clocks header setting) (world : List Line)
    (table : ByTable header world) (whole : Given setting world) (long t c : ℕ) (stays : ℕ → Bool) (s : List Line) (one : OneNetwork header setting stays c)
    (delivered : Delivered setting long t stays s world) (follow : FollowUntil stays c t s world) where
  module _ (l : Line) (older : List Line) (p : PeerId) (m : MessageValue) (adjusts : Adjusts setting long t stays c s l older world p m) where
    reaches : Corrects header setting long l older world p m (takes_amount m.number (time_in m.body)) (λ x past. moved_by (time_in m.body) x past ∷
        arms_for_delay x past ∷ posts_bare Ack m.number past (peer_of (node_of l)) ∷ [])
    reaches = (reaches_in_time set world table long t stays s delivered).adjtime l older p m adjusts.tells adjusts.kind

    abbrev A : Line
    A = reaches.arrives.line

    abbrev B : List Line
    B = reaches.arrives.before

    other : (p.0 == c) ≡ false
    other = subst (λ n. (p.0 == n) ≡ false) adjusts.node adjusts.tells.posts.other

    net-same : setting.net (node_of l) l.port ≡ setting.net p.0 first_port
    net-same = ap (λ q. setting.net (node_of l) q) adjusts.port ∙ (ap (λ n. setting.net n first_port) adjusts.node ∙ sym (one.net p.0 adjusts.tells.there))

    port : A.port ≡ first_port
    port = setting.apart p.0 A.port first_port (subst (λ n. setting.net n A.port ≡ setting.net p.0 first_port) reaches.arrives.node
        (reaches.arrives.net ∙ net-same))

    since : Within s B
    since = Within_through s (l ∷ older) B (inr adjusts.tells.since) reaches.arrives.later

    b-in : Within B world
    b-in = Within_tail A B world reaches.arrives.place

    follows : role_of p.0 B ≡ Follow (peer_of c)
    follows =
        let order = (fits_in setting A B world whole.fits reaches.arrives.place).order in
        let soon = reaches.arrives.soon in
        let early = adjusts.tells.early in
        (follow B b-in since (omega (arith, order, soon, early))).follow p.0 adjusts.tells.there other

    role-there : role_before (node_in header p.0) A (of p.0 B) ≡ Follow (peer_of (node_of l))
    role-there = ap (λ q. role (view q (of p.0 B))) port ∙ follows ∙ ap (λ n. Follow (peer_of n)) (sym adjusts.node)

    steers-there : steers A.port A.did.tick (before_line (node_in header p.0) A (of p.0 B)) ≡ true
    steers-there = ap (λ q. steers q A.did.tick (before_line (node_in header p.0) A (of p.0 B))) port ∙
        first_steers A.did.tick (before_line (node_in header p.0) A (of p.0 B)) (ap is_follow follows)

    abbrev There : Past
    There = past_there header p.0 A B

    module _ (takes : takes_amount m.number (time_in m.body) A.did.tick There ≡ true) where
      abbrev Moves : Act
      Moves = moved_by (time_in m.body) A.did.tick There

      abbrev Rest : List Act
      Rest = arms_for_delay A.did.tick There ∷ posts_bare Ack m.number There (peer_of (node_of l)) ∷ []

      abbrev K : Line
      K = line_of A.did.step A.did.tick A.port (Acts Moves)

      next : DoesNext (Moves ∷ Rest) A (of p.0 B) (of p.0 world)
      next = reaches.does role-there steers-there takes

      at : WorldPlace p.0 K (A ∷ of p.0 B) world
      at = world_place p.0 K (A ∷ of p.0 B) world (act_place A.did.step A.did.tick A.port Moves (Moves ∷ Rest) (A ∷ of p.0 B) (of p.0 world)
          (record { front = []; back = Rest; is = refl }) next)

      abbrev W : List Line
      W = at.older

      after : Within (A ∷ B) W
      after = in_order p.0 A B K W world reaches.arrives.place at.place (subst (λ ls. Within (A ∷ of p.0 B) ls) (sym at.own_is) (Within_all (A ∷ of p.0 B)))

      posted-before : Within (l ∷ older) W
      posted-before = Within_through (l ∷ older) (A ∷ B) W (inr reaches.arrives.later) after

      deed : l.did.deed ≡ Acts (Post (Peer (peer_of (node_of K))) (Message m))
      deed = adjusts.tells.posts.deed ∙ ap (λ n. Acts (Post (Peer (peer_of n)) (Message m))) (sym at.node)

      took : is_some (heard (dids (of (node_of K) W))) ≡ true
      took =
          let own : of (node_of K) W ≡ A ∷ of p.0 B = ap (λ n. of n W) at.node ∙ at.own_is in
          ap (λ ls. is_some (heard (dids ls))) own ∙ ap (λ d. is_some (taken_after d (heard (dids (of p.0 B))))) reaches.arrives.took

      abbrev acts : ActsOn K W l older
      acts =
          let mv = moving (time_in m.body) A.did.tick There in
          record {
            amount = mv.amount;
            stepped = mv.stepped;
            shown = mv.shown;
            correct = ap (λ a. Acts a) mv.is;
            brings = record { place = posted-before; cause = reaches.arrives.came; message = m; deed = deed };
            took = took;
          }

      l-fits : Fits setting (l ∷ older)
      l-fits = fits_at setting (l ∷ older) world whole.fits adjusts.tells.posts.place

      send : SendPlace (node_of l) (node_of K) l older m
      send = send_place setting (node_of l) (node_of K) l older m l-fits refl deed (numbered_kind m.kind adjusts.kind)

      abbrev of-send : OfSend (node_of K) l older send.first (view l.port (of (node_of l) send.fw))
      of-send = record { message = m; deed = deed; numbered = numbered_kind m.kind adjusts.kind; is = send.is }

      abbrev taking : Taking c K W
      taking = record {
        post = l;
        before = older;
        acts = acts;
        kind = adjusts_kind m.kind adjusts.kind;
        node = adjusts.node;
        first = send.first;
        begun = view l.port (of (node_of l) send.fw);
        of_send = of-send;
      }

      k-fits : Fits setting (K ∷ W)
      k-fits = fits_at setting (K ∷ W) world whole.fits at.place

      facts : BegunFacts c K W taking
      facts = begun_facts setting c K W k-fits taking

      reading : SourceReading c K W taking
      reading = elim ((Everywhere_at OneErrorAt K W world (one_error setting world whole) at.place).source c taking) [
        | inl r ↦ r
        | inr k ↦ absurd (no_slaveup taking.first taking.begun (peer_of (node_of K)) (peer_of (node_of K)) m k.is.message adjusts.kind k.is.took
            facts.fits.from)
      ]

      rests : FromRound c reading.close reading.cpast K W reading.r reading.older reading.is.sample.err
      rests = record {
        post = l;
        before = older;
        acts = acts;
        node = adjusts.node;
        first = send.first;
        begun = view l.port (of (node_of l) send.fw);
        of_send = of-send;
        message = m;
        begins = send.sends.deed;
        kind = adjusts.kind;
        closes = reading.is.closes;
        close_node = reading.is.close_node;
        close_port = reading.is.close_port;
        close_is = reading.is.close_is;
        sample = reading.is.sample;
        best_is = reading.is.best_is;
        err_is = refl;
        reading = reading.is.reading;
      }

      moved : MovedIn setting c p.0 A.did.step world
      moved = record {
        correct = K;
        past = W;
        place = at.place;
        node = at.node;
        same = refl;
        close = reading.close;
        before = reading.cpast;
        reading = reading.r;
        older = reading.older;
        err = reading.is.sample.err;
        rests = rests;
        bounded = Everywhere_at ErrAt K W world (errs_bounded setting world whole.fits) at.place c reading.close reading.cpast reading.r reading.older
            reading.is.sample.err rests;
        agrees = λ h time w le un but. agree h time w le un but;
      } where
        agree : (h : List Line) (time : ℕ) → Within h world → time_of (dids h) ≤ time → Unchanged p.0 (K ∷ W) h →
            UnchangedBut c reading.close reading.cpast h →
            ClocksWithin setting h time p.0 c (reading.is.sample.err +ℤ pos (drifted setting time reading.r))
        agree [] time w le un but = let bad : ⊥ = (let v = un.within in cc) in absurd bad
        agree (k ∷ rest) time w le un but =
            let all = Everywhere_at (λ (j : Line) (z : List Line). (x : ℕ) → j.did.step.at ≤ x → ClocksAgree setting (j ∷ z) x) k rest world
            (stay_agreed setting world whole) w time le in
            subst (λ n. ClocksWithin setting (k ∷ rest) time n c (reading.is.sample.err +ℤ pos (drifted setting time reading.r))) at.node
            (all.master c reading.close reading.cpast K W reading.r reading.older reading.is.sample.err rests
            (subst (λ n. Unchanged n (K ∷ W) (k ∷ rest)) (sym at.node) un) but)

    obeyed : Obeyed header setting long c l older world p m
    obeyed = record { arrives = reaches.arrives; moves = moved }

  pub all_obey : AllObey header setting long t stays c s world
  all_obey l older p m adjusts = obeyed l older p m adjusts

pub clocked_runs_obey : ClockedRunsObey
clocked_runs_obey clocks header setting events long t stays c s set possible one delivered honest life follow =
    let world = run_by clocks header events in
    all_obey set world (clocked_runs_by_table clocks header events)
    (given setting world (clocked_runs_fit clocks header setting events set possible).0 honest life) long t c stays s one delivered follow

pub runs_obey : RunsObey
runs_obey header setting events long t stays c s set possible = subst (λ h. OneNetwork header setting stays c → Delivered setting long t stays s h →
    Honest h → Life h → FollowUntil stays c t s h → AllObey header setting long t stays c s h) (runs_by_own_clocks header events)
    (clocked_runs_obey (clocks_of header) header setting events long t stays c s (set_own header setting set) (possible_own header events possible))
