-- The close of a round keeps what is known of a port.
use Rattle.std.proofs.Common.{sym, subst, inl, inr, ap, arith, ◌∙◌, ◌≡◌, ◌≤◌, ◌⊎◌, ℕ, ◌+◌, ℤ, pos, Bool, true, false, List, [], ◌∷◌, map, Option, None, Some}
use Rattle.std.proofs.Common.{is_some, refl, true≢false, ◌-ℤ◌, if◌then◌else◌}
use Rattle.std.proofs.lemmas.Bool.{and_parts}
use Rattle.tsp_rules.specs.Values.{Act, Ring, Late, Abandon, Close, Correct, CloseAlarm, PeerId, Master, GAP, QUIET, SPAN, Post, Leave, Message, AdjTime}
use Rattle.tsp_rules.specs.Values.{SetTime, Peer}
use Rattle.tsp_rules.specs.{Answers.alarm_rings, Answers.rings, Guards.is_due, Guards.is_in_time, Guards.is_in_range, Guards.target_at}
use Rattle.tsp_rules.{specs.ClockRows.can_adjust, specs.ClockRows.adjusts, specs.ClockRows.is_step, proofs.Asides.now}
use Rattle.tsp_rules.specs.RoundRows.{Standing, standing, round_at, measured_at, estimates, corrects_peer, mean_by, close_act, moves, closes_with, closes}
use Rattle.tsp_rules.specs.RoundRows.{close_rings, abandons, is_near, corrects_by}
use Rattle.tsp_rules.proofs.GuardFacts.{due_is, met_is}
use Rattle.tsp_rules.specs.SendRows.{may_correct, begins_adjtime, may_set, begins_settime}
use Rattle.tsp_base.specs.Words.{Did, Seen, Here, Past, plain, Leads, boot_tick, last_correct, shown, role, armed, grown, puts, ◌followed_by◌, reading}
use Rattle.tsp_base.specs.Words.{for_each, heard, Step, Acts, MessageValue, Sampled, best, Estimate, estimate_of, nothing, timed, posts_time, time_in}
use Rattle.tsp_base.proofs.LeadsLemmas.{Leads_then, Leads_either, Leads_reading, Leads_nothing, Leads_puts, Leads_to, Leads_from}
use Rattle.tsp_promises.specs.{CorrectFits.ByRound, CorrectFits.is_stepped, RoundFits.CloseFits, RoundFits.measured_peers}
use Rattle.tsp_promises.proofs.{shared.Printed.adjusts_prints, shared.Printed.sets_target, leads.Changes.open_of, leads.Changes.ring_close}
use Rattle.tsp_promises.proofs.{leads.Changes.late_close}
use Rattle.tsp_promises.{specs.StepFacts.closed, specs.StepFacts.closed_after, proofs.leads.Known.Free, proofs.leads.Known.Open, proofs.leads.Known.Untaken}
use Rattle.tsp_promises.specs.{PortFits.setup_in, CorrectionFits.FollowedBy, CorrectionFits.CorrectionFits, CorrectionFits.SetsTarget}
use Rattle.tsp_promises.proofs.{leads.CorrectionLeads.may_fits, leads.RoundLeads.Probed}
use Rattle.tsp_promises.proofs.{leads.PostLeaves.Leads_posts_time, leads.PostLeaves.post_message, leads.AlarmLeads.rings_lead, leads.AlarmLeads.master_rested}
use Rattle.tsp_promises.proofs.leads.Leaves.{some_same, correct, abandon, close_act as close_leaf, leave, then_seen}
use Rattle.tsp_group.specs.{Groups.group_of, Groups.mean_of, declared.group.Group.Group}

-- how a Close corrects the measured peers, and what stays known of the port

-- a Close: what it came to, and what it owes
pub record ClosedRound (mean : ℤ) (close : Did) (before : List Seen) : Type 0 where
  pub count : ℕ
  pub lo : ℤ
  pub size : ℤ
  pub deed : close.deed ≡ Acts (Close count lo size mean)
  pub fits : CloseFits close before

-- after the own clock's correction, if there is one, while the peers are corrected
pub record CorrectingPeers (mean : ℤ) (close : Did) (before : List Seen) (x : ℕ) (past : Past) : Type 0 where
  pub free : Free Untaken x past
  pub leads : role past.seen ≡ Master
  pub close_is : closed past.seen ≡ Here close ∷ before
  pub step_is : close.step ≡ past.step
  pub round : ClosedRound mean close before
  pub followed : (mean ≡ pos 0) ⊎ FollowedBy close before past.seen mean

module _ {mean : ℤ} {close : Did} {before : List Seen} where
  still_followed : {seen : List Seen} (s : Seen) → ((mean ≡ pos 0) ⊎ FollowedBy close before seen mean) → (mean ≡ pos 0) ⊎
      FollowedBy close before (s ∷ seen) mean
  still_followed s (inl zero) = inl zero
  still_followed s (inr f) = inr (record { next = f.next; place = inr f.place; stepped = f.stepped; shown = f.shown; deed = f.deed })

  -- after an act that changes neither the role nor which Close is the last one
  still_correcting : (x : ℕ) (past : Past) (a : Act) → role (then_seen x past a) ≡ role past.seen → closed (then_seen x past a) ≡ closed past.seen →
      Free Untaken x (grown x past (a ∷ [])) →
      CorrectingPeers mean close before x past → CorrectingPeers mean close before x (grown x past (a ∷ []))
  still_correcting x past a r c free h = record {
    free = free;
    leads = r ∙ h.leads;
    close_is = c ∙ h.close_is;
    step_is = h.step_is;
    round = h.round;
    followed = still_followed (Here (now x past a)) h.followed;
  }

  -- a correction that this Close begins
  correction_of : (x : ℕ) (past : Past) (p : PeerId) (number : ℕ) (m : MessageValue) (b : Sampled) → best p before ≡ Some b → m.number ≡ number → number ≡
      b.ticket → (m.kind ≡ AdjTime → time_in m.body ≡ mean -ℤ b.diff) → (m.kind ≡ SetTime → SetsTarget (now x past (Post (Peer p) (Message m))) past.seen m) →
      may_correct p number x past ≡ true → CorrectingPeers mean close before x past → CorrectionFits (now x past (Post (Peer p) (Message m))) past.seen p m
  correction_of x past p number m b is number_is ticket_is value sets may h = record {
    leads = h.leads;
    begins = λ acts. record {
      rested = h.free.rested refl;
      from = inr (record {
        close = close;
        past = before;
        mean = mean;
        sample = b;
        is = record {
          is = h.close_is;
          count = h.round.count;
          lo = h.round.lo;
          size = h.round.size;
          deed = h.round.deed;
          at = ap (λ (s : Step). s.at) h.step_is;
          start = h.round.fits.start;
          idle = h.round.fits.idle;
          start_is = h.round.fits.start_is;
          soon = h.round.fits.soon;
          undisturbed = h.round.fits.undisturbed;
          best_is = is;
          number = number_is ∙ ticket_is;
          value = value;
          untaken = h.free.took.0;
          followed = h.followed;
        };
      });
      may = may_fits p number x past (now x past (Post (Peer p) (Message m))) m refl number_is may;
      sets = sets;
    };
    repeats = λ still. absurd (true≢false (sym h.free.acting_is ∙ still));
  }

  adjtime_leads : (p : PeerId) (e : Estimate) (b : Sampled) → best p before ≡ Some b → e.diff ≡ b.diff → e.ticket ≡ b.ticket →
      Leads (CorrectingPeers mean close before) (begins_adjtime p e.ticket (mean -ℤ e.diff)) (CorrectingPeers mean close before)
  unfolding begins_adjtime
  adjtime_leads p e b is diff ticket = Leads_either (may_correct p e.ticket) (posts_time p AdjTime e.ticket (mean -ℤ e.diff)) nothing
      (Leads_posts_time p AdjTime e.ticket (mean -ℤ e.diff) (λ x past h.
      let m = timed AdjTime e.ticket (mean -ℤ e.diff) past.name in
      let f = correction_of x past p e.ticket m b is refl ticket (λ k. ap (λ z. mean -ℤ z) diff) (λ k. let bad : ⊥ = cc in absurd bad) h.1 h.0 in
      still_correcting x past (Post (Peer p) (Message m)) refl refl (post_message p m refl f h.0.free) h.0))
      (Leads_from (λ x past h. h.0) Leads_nothing)

  settime_leads : (p : PeerId) (e : Estimate) (b : Sampled) → best p before ≡ Some b → e.ticket ≡ b.ticket →
      Leads (CorrectingPeers mean close before) (begins_settime p e.ticket) (CorrectingPeers mean close before)
  unfolding begins_settime
  settime_leads p e b is ticket = Leads_either (may_set p e.ticket) (reading target_at (posts_time p SetTime e.ticket)) nothing
      (Leads_reading target_at (posts_time p SetTime e.ticket) (λ t. Leads_posts_time p SetTime e.ticket t (λ x past h.
      let m = timed SetTime e.ticket t past.name in
      let may = and_parts (may_correct p e.ticket x past) (is_in_range x past) h.0.1 in
      let f = correction_of x past p e.ticket m b is refl ticket (λ k. let bad : ⊥ = cc in
      absurd bad) (λ k. sets_target x past (now x past (Post (Peer p) (Message m))) m refl (sym h.1) may.1) may.0 h.0.0 in
      still_correcting x past (Post (Peer p) (Message m)) refl refl (post_message p m refl f h.0.0.free) h.0.0)))
      (Leads_from (λ x past h. h.0) Leads_nothing)

  corrects_by_leads : (p : PeerId) (o : Option Sampled) → best p before ≡ o → Leads (CorrectingPeers mean close before) (corrects_by mean p (estimate_of o))
      (CorrectingPeers mean close before)
  unfolding corrects_by
  corrects_by_leads p None is = Leads_puts (Leave p) (λ x past h. still_correcting x past (Leave p) refl refl (leave p h.free) h)
  corrects_by_leads p (Some b) is = by_case (is_near b.diff) where
    by_case : (near : Bool) → Leads (CorrectingPeers mean close before) (if near then begins_adjtime p b.ticket (mean -ℤ b.diff) else begins_settime p b.ticket)
        (CorrectingPeers mean close before)
    by_case true = adjtime_leads p (record { diff = b.diff; ticket = b.ticket }) b is refl refl
    by_case false = settime_leads p (record { diff = b.diff; ticket = b.ticket }) b is refl

  pub peers_lead : (ps : List PeerId) → Leads (CorrectingPeers mean close before) (for_each (corrects_peer mean) (map (standing before) ps))
      (CorrectingPeers mean close before)
  unfolding for_each corrects_peer
  peers_lead [] = Leads_nothing
  peers_lead (p ∷ ps) = Leads_then (corrects_peer mean (standing before p)) (for_each (corrects_peer mean) (map (standing before) ps))
      (corrects_by_leads p (best p before) refl) (peers_lead ps)

-- a round that closes now, with what it has come to
record Closing (round : List Standing) (x : ℕ) (past : Past) : Type 0 where
  pub free : Free Untaken x past
  pub closed : (armed past.seen).close ≡ None
  pub fits : (a : Act) → CloseFits (now x past a) past.seen
  pub gap : last_correct (plain past.seen) + GAP ≤ x
  pub peers : List PeerId
  pub round_is : round ≡ map (standing past.seen) peers
  pub peers_are : peers ≡ measured_peers (setup_in past) past.seen

-- after the Close itself: it is the newest act
record Closed (mean : ℤ) (round : List Standing) (x : ℕ) (past : Past) : Type 0 where
  pub free : Free Untaken x past
  pub leads : role past.seen ≡ Master
  pub closed : (armed past.seen).close ≡ None
  pub close : Did
  pub before : List Seen
  pub newest : past.seen ≡ Here close ∷ before
  pub step_is : close.step ≡ past.step
  pub round_closed : ClosedRound mean close before
  pub gap : last_correct (plain past.seen) + GAP ≤ x
  pub peers : List PeerId
  pub round_is : round ≡ map (standing before) peers
  pub peers_are : peers ≡ measured_peers (setup_in past) before

-- the same, while the measured peers are corrected
record CorrectingRound (mean : ℤ) (round : List Standing) (x : ℕ) (past : Past) : Type 0 where
  pub close : Did
  pub before : List Seen
  pub correcting : CorrectingPeers mean close before x past
  pub peers : List PeerId
  pub round_is : round ≡ map (standing before) peers

corrects_round : (mean : ℤ) (round : List Standing) → Leads (CorrectingRound mean round) (for_each (corrects_peer mean) round) Open
corrects_round mean round = record {
  run = λ x past h.
      let t = (peers_lead h.peers).run x past h.correcting in
      subst (λ r. Open x (grown x past (for_each (corrects_peer mean) r x past))) (sym h.round_is) (open_of t.free);
}

-- the peers are corrected once the clock was moved by the mean, or has to stay
correcting : {mean : ℤ} {round : List Standing} (x : ℕ) (past after : Past) → Closed mean round x past → Free Untaken x after → role after.seen ≡
    role past.seen → closed after.seen ≡ closed past.seen →
    past.step ≡ after.step → ((h : Closed mean round x past) → (mean ≡ pos 0) ⊎ FollowedBy h.close h.before after.seen mean) →
    CorrectingRound mean round x after
correcting {mean = mean} x past after h free r c same followed = let round = h.round_closed in record {
  close = h.close;
  before = h.before;
  correcting = record {
    free = free;
    leads = r ∙ h.leads;
    close_is = c ∙ (ap closed h.newest ∙ ap (λ t. closed_after t (Here h.close ∷ h.before) (closed h.before)) round.deed);
    step_is = h.step_is ∙ same;
    round = round;
    followed = followed h;
  };
  peers = h.peers;
  round_is = h.round_is;
}

-- the own clock's correction comes right after the Close
adjusts_lead : (mean : ℤ) (round : List Standing) → mean ≡ mean_of (group_of SPAN (estimates round)) →
    Leads (Closed mean round) (adjusts mean) (CorrectingRound mean round)
unfolding adjusts
adjusts_lead mean round is = record {
  run = λ x past h. corrected x past h (is_step mean) _ (ap (is_stepped mean) (sym h.free.took.1))
      (adjusts_prints x past mean (is_step mean));
} where
  corrected : (x : ℕ) (past : Past) → Closed mean round x past → (stepped : Bool) (printed : ℤ) → stepped ≡ is_stepped mean (heard (plain past.seen)) →
      printed ≡ shown (now x past (Correct mean stepped printed) ∷ plain past.seen) x →
      CorrectingRound mean round x (grown x past (Correct mean stepped printed ∷ []))
  corrected x past h stepped printed flag prints =
      let came = h.round_closed in
      let mean_is = is ∙ ap (λ r. mean_of (group_of SPAN (estimates r))) (h.round_is ∙ ap (map (standing h.before)) h.peers_are) in
      correcting x past (grown x past (Correct mean stepped printed ∷ [])) h (correct mean stepped printed h.closed (record {
        gap = h.gap;
        rested = h.free.rested refl;
        why = ByRound (record {
          close = h.close;
          past = h.before;
          is = h.newest;
          count = came.count;
          lo = came.lo;
          size = came.size;
          deed = came.deed;
          untaken = h.free.took.1;
          mean_is = mean_is;
        });
        flag = flag;
        prints = prints;
      }) h.free) refl refl refl (λ c. inr (record {
        next = now x past (Correct mean stepped printed);
        place = inl (ap (λ z. Here (now x past (Correct mean stepped printed)) ∷ z) (sym c.newest));
        stepped = stepped;
        shown = printed;
        deed = refl;
      }))

-- where another port leads the clock it stays, and the mean is 0
moves_lead : (own : Bool) (g : Group) (round : List Standing) → g ≡ group_of SPAN (estimates round) →
    Leads (Closed (mean_by own g) round) (moves own (mean_by own g)) (CorrectingRound (mean_by own g) round)
unfolding moves
moves_lead true g round is = adjusts_lead (mean_of g) round (ap mean_of is)
moves_lead false g round is = Leads_to (λ x past h. correcting x past past h h.free refl refl refl (λ c. inl refl)) (Leads_nothing {P = Closed (pos 0) round})

closes_now : (own : Bool) (g : Group) (round : List Standing) (x : ℕ) (past : Past) → Closing round x past →
    Closed (mean_by own g) round x (grown x past (close_act own g ∷ []))
closes_now own g round x past h = let fits = h.fits (close_act own g) in record {
  free = close_leaf g.count g.lo g.width (mean_by own g) fits h.free;
  leads = fits.leads;
  closed = h.closed;
  close = now x past (close_act own g);
  before = past.seen;
  newest = refl;
  step_is = refl;
  round_closed = record { count = g.count; lo = g.lo; size = g.width; deed = refl; fits = fits };
  gap = h.gap;
  peers = h.peers;
  round_is = h.round_is;
  peers_are = h.peers_are;
}

closes_with_lead : (own : Bool) (g : Group) (round : List Standing) → g ≡ group_of SPAN (estimates round) → Leads (Closing round) (closes_with own g round) Open
unfolding closes_with abandons
closes_with_lead own g round is = Leads_either (can_adjust (mean_by own g)) (puts (close_act own g) followed_by
    (moves own (mean_by own g) followed_by for_each (corrects_peer (mean_by own g)) round)) (puts Abandon)
    (Leads_then {Q = Closed (mean_by own g) round} (puts (close_act own g)) (moves own (mean_by own g) followed_by for_each (corrects_peer (mean_by own g))
    round)
    (Leads_puts (close_act own g) (λ x past c. closes_now own g round x past c.0))
    (Leads_then {Q = CorrectingRound (mean_by own g) round} (moves own (mean_by own g)) (for_each (corrects_peer (mean_by own g)) round)
    (moves_lead own g round is) (corrects_round (mean_by own g) round)))
    (Leads_puts Abandon (λ x past c. open_of (abandon c.0.free)))

-- no probe is left when a round closes
unprobed : (x : ℕ) (past : Past) (at : ℕ) → Probed x past → (armed past.seen).close ≡ Some at → at ≤ x → (o : Option ℕ) → (armed past.seen).probe ≡ o →
    (armed past.seen).probe ≡ None
unprobed x past at h goes over None is = is
unprobed x past at h goes over (Some next) is =
    let probing = h.open_port.knows.round.probing next is in
    let until_is = some_same probing.until at (sym probing.goes ∙ goes) in
    let bad : ⊥ = omega (arith, until_is, h.later next is, probing.soon, probing.few, over) in
    absurd bad

abbrev pub ClosesDue : ℕ → Past → Type 0
ClosesDue x past = Probed x past × (is_due CloseAlarm x past ≡ true)

close_rested : (x : ℕ) (past : Past) → ClosesDue x past → boot_tick (plain past.seen) + QUIET ≤ x
close_rested x past h =
    let due = due_is (armed past.seen).close x h.1 in
    master_rested x past h.0.open_port (h.0.open_port.knows.round.closes refl due.at due.is).leads

closing : (x : ℕ) (past : Past) (round : List Standing) → ClosesDue x past → is_in_time CloseAlarm x past ≡ true → round_at x past ≡ round →
    Closing round x (grown x past (Ring CloseAlarm ∷ []))
closing x past round h timely is =
    let due = due_is (armed past.seen).close x h.1 in
    let met = met_is (armed past.seen).close x due.at due.is timely in
    let goes = h.0.open_port.knows.round.closes refl due.at due.is in
    let at_is = goes.at_is in
    let over = due.over in
    record {
      free = ring_close (unprobed x past due.at h.0 due.is due.over _ refl) (close_rested x past h) h.0.open_port;
      closed = refl;
      fits = λ a. record {
        leads = goes.leads;
        ring = now x past (Ring CloseAlarm);
        past = past.seen;
        is = refl;
        rings = refl;
        going = ap is_some due.is;
        start = goes.start;
        idle = goes.idle;
        start_is = goes.start_is;
        over = omega (arith, at_is, over);
        soon = omega (arith, at_is, met);
        undisturbed = record { corrects = goes.corrects; lives = goes.life };
      };
      gap = omega (arith, at_is, over, goes.last_le);
      peers = measured_at x past;
      round_is = sym is;
      peers_are = refl;
    }

pub close_leads : (own wait : Bool) → Leads Probed (rings own wait CloseAlarm) Open
unfolding alarm_rings close_rings closes abandons
close_leads own wait = rings_lead own wait CloseAlarm
    (Leads_either (is_in_time CloseAlarm) (reading round_at (closes own)) (puts (Late CloseAlarm) followed_by puts Abandon)
    (Leads_reading round_at (closes own) (λ round. Leads_then {Q = Closing round} (puts (Ring CloseAlarm)) (closes_with own (group_of SPAN (estimates round))
    round)
    (Leads_puts (Ring CloseAlarm) (λ x past h. closing x past round h.0.0 h.0.1 h.1))
    (closes_with_lead own (group_of SPAN (estimates round)) round refl)))
    (Leads_then {Q = Free Untaken} (puts (Late CloseAlarm)) (puts Abandon)
    (Leads_puts (Late CloseAlarm) (λ x past h. let due = due_is (armed past.seen).close x h.0.1 in
    late_close (unprobed x past due.at h.0.0 due.is due.over _ refl) (close_rested x past h.0) h.0.0.open_port))
    (Leads_puts Abandon (λ x past h. open_of (abandon h)))))
    (λ x past h e. h.open_port)
