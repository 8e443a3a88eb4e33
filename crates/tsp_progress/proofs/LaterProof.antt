-- Of two candidatures near each other the later one loses.
use Rattle.std.proofs.Common.{sym, ap, subst, arith, inl, inr, true≢false, ◌∙◌, ◌≡◌, ◌≢◌, ◌≤◌, ◌<◌, ◌⊎◌, ℕ, ◌+◌, ◌-◌, ◌*◌, ◌==◌, ◌&&◌}
use Rattle.std.proofs.Common.{Bool, true, false, if◌then◌else◌, List, [], ◌∷◌, length, eq-eqb, eqb-true, refl}
use Rattle.std.proofs.lemmas.Bool.{and_parts, cases_lt}
use Rattle.tsp_rules.specs.Values.{Accept, Acked, Back, Become, Boot, Candidate, Follow, Loose, Master, Message, Refuse, Starting}
use Rattle.tsp_rules.specs.Values.{PeerId, Port, QuitKind, Role, HOLD, LIFE, RETRY, TRIES, WINDOW}
use Rattle.tsp_rules.specs.{CommonRows.is_idle, Guards.may_back_at, SendRows.answers_election, SendRows.has_election}
use Rattle.tsp_rules.specs.SendRows.{has_quit, is_quit, next_number}
use Rattle.tsp_base.specs.Words.{Acts, Did, Elsewhere, HeaderValue, Here, Line, MessageValue, Past, Receives, Seen, Within, acting, bare, dids, is_among}
use Rattle.tsp_base.specs.Words.{line_of, of, open_send, peer_of, plain, role, stood, tick_of, time_of, view}
use Rattle.tsp_base.proofs.{PlaceLemmas.Within_all, PlaceLemmas.Within_comparable, PlaceLemmas.Within_length, PlaceLemmas.Within_strict}
use Rattle.tsp_base.proofs.{PlaceLemmas.Within_tail, PlaceLemmas.Within_through, Views.plain_view}
use Rattle.tsp_promises.specs.{Fits.Fits, Fits.node_of, Premises.Honest, Premises.Life, Setting.Setting, Setting.setup_of}
use Rattle.tsp_base.proofs.ViewPlaces.{Within_view}
use Rattle.tsp_promises.proofs.{shared.Clocks.tick_mono, shared.HistoryPlaces.Within_of, shared.HistoryPlaces.line_on, promised.OwnFitsProof.Located}
use Rattle.tsp_promises.proofs.{promised.OwnFitsProof.fits_at}
use Rattle.tsp_promises.proofs.{promised.OwnFitsProof.fits_in}
use Rattle.tsp_promises.proofs.{promised.OwnFitsProof.locate, promised.OwnFitsProof.of_tick, promised.OwnFitsProof.own_fits, promised.OwnFitsProof.place_time}
use Rattle.tsp_promises.proofs.{promised.OwnFitsProof.port_fits}
use Rattle.tsp_promises.proofs.{promised.OwnFitsProof.seen_before, promised.OwnFitsProof.seen_in, promised.OwnFitsProof.tick_in}
use Rattle.tsp_run.specs.{Clocked.Clocks, Clocked.SetByClocks}
use Rattle.tsp_progress.specs.{AckedInTime.IsPrompt, AckedInTime.refuses_vote, AnswersInTime.AnswerTaken, AnswersInTime.Asks, ByTable.ByTable}
use Rattle.tsp_progress.specs.{ByTable.node_in, Decided.AllDecided, Decided.Decided, Decided.DecidedFits, Delivered.Arrives, Delivered.Delivered}
use Rattle.tsp_progress.specs.{FoundInTime.IsQuick, GivenUp.GivesUpLate, Heeds.arms_for_delay}
use Rattle.tsp_progress.specs.Heeds.{Hears, is_candidate_role, is_master_role, posts_bare, role_before}
use Rattle.tsp_progress.specs.OneAtATime.{Unbooted, TwoStand, WinsIt}
use Rattle.tsp_progress.specs.{RefusedLoses.WinsAfter, SentAway.SentAway, SentAway.past_there, WinsLate.StoodLong, WinsLate.WinsLate, WinsLate.WonFits}
use Rattle.tsp_progress.proofs.{AckedProof.owes_within, AckedProof.refused, AnswersProof.answer_heard, AnswersProof.answered, AnswersProof.arrival}
use Rattle.tsp_progress.proofs.{AnswersProof.candidate_awake, AnswersProof.first_of, AnswersProof.hears, HeedsProof.all_heed}
use Rattle.tsp_progress.proofs.HoldKept.{awake_since, hold_apart, seen_at, votes_for}
use Rattle.tsp_progress.proofs.{NoSecondProof.none, PortSetups.differ, PortSetups.member_port}
use Rattle.tsp_progress.proofs.{SearchKept.view_within, SentAwayProof.lone_awake, StandsProof.rising, TimePlaces.before_time}
use Rattle.tsp_progress.proofs.OpenKept.{AskingIs, LastAfter, Open, asking_is, asks_by, is_asking, kept_open, last_after, sending_of}
use Rattle.tsp_progress.proofs.StandActs.{Kept, Sound, yields_now}
use Rattle.tsp_progress.proofs.QuitAnswered.{open_since, quit_open}
use Rattle.tsp_progress.proofs.SentBefore.{sent}
use Rattle.tsp_progress.proofs.StandPlaces.{AsksPeer, BacksItself, asks_peer, backs_itself, rang}
use Rattle.tsp_promises.proofs.shared.ElectionFacts.{open_at}
use Rattle.tsp_progress.specs.{AlarmsFit.Manner, Wakes.AllWake}
use Rattle.tsp_progress.proofs.WinsNot.{last_change, no_change, owed_at, stood_back, stood_role, then_wins}
use Rattle.tsp_progress.proofs.WorldPlaces.{act_place, world_place}
use Rattle.tsp_progress.proofs.StandAlarms.{not_starting}

-- what was kept up to a place
pub kept_within : (s seen : List Seen) → Within s seen → Kept seen → Kept s
kept_within s [] w k = subst (λ u. Kept u) (sym w) tt
kept_within s (c ∷ before) (inl e) k = subst (λ u. Kept u) (sym e) k
kept_within s (Here d ∷ before) (inr w) k = kept_within s before w k.1
kept_within s (Elsewhere d ∷ before) (inr w) k = kept_within s before w k.1

-- who yields becomes Loose next
record Yields (e : Did) (b seen : List Seen) : Type 0 where
  pub next : Did
  pub place : Within (Here next ∷ (Here e ∷ b)) seen
  pub deed : next.deed ≡ Acts (Become Loose)

yields_next : (e : Did) (b seen : List Seen) → Kept seen → Within (Here e ∷ b) seen → yields_now (Here e ∷ b) ≡ true → (seen ≡ Here e ∷ b) ⊎ Yields e b seen
yields_next e b [] k w y = let bad : ⊥ = cc in absurd bad
yields_next e b (s ∷ rest) k (inl same) y = inl (sym same)
yields_next e b (Elsewhere d ∷ rest) k (inr w) y = elim (yields_next e b rest k.1 w y) [
  | inl now ↦ absurd (true≢false (sym (ap yields_now now ∙ y) ∙ k.0))
  | inr n ↦ inr (record { next = n.next; place = inr n.place; deed = n.deed })
]
yields_next e b (Here d ∷ rest) k (inr w) y = elim (yields_next e b rest k.1 w y) [
  | inl now ↦ inr (record {
    next = d;
    place = subst (λ r. Within (Here d ∷ r) (Here d ∷ rest)) now (Within_all (Here d ∷ rest));
    deed = k.0.next (ap yields_now now ∙ y);
  })
  | inr n ↦ inr (record { next = n.next; place = inr n.place; deed = n.deed })
]

module _ {clocks : Clocks} {header : HeaderValue} {setting : Setting} (set : SetByClocks clocks header setting) (world : List Line)
    (table : ByTable header world) (fits : Fits setting world) (sound : (n : ℕ) (q : Port) → Sound (view q (of n world))) (m : ℕ →
    Manner) (wakes : AllWake m world)
    (late : GivesUpLate world) (decided : AllDecided world) (wins : WinsLate world) (long t : ℕ) (stays : ℕ →
    Bool) (s : List Line) (delivered : Delivered setting long t stays s world)
    (prompt : IsPrompt setting long) (calm : Unbooted stays s world) (honest : Honest world) (life : Life world) (c : Line) (older : List Line) (d : Line)
    (newer : List Line) (two : TwoStand setting long t stays s c older d newer world) where
  abbrev A : ℕ
  A = node_of c

  abbrev B : ℕ
  B = node_of d

  abbrev PA : PeerId
  PA = peer_of A

  abbrev Q : Port
  Q = d.port

  abbrev R : Port
  R = c.port

  quick : IsQuick setting long
  quick = omega (arith, prompt)

  other : (B == A) ≡ false
  other = differ A B two.differ

  member : is_among PA (setting.members (setting.net B Q)) ≡ true
  member = ap (λ k. is_among PA (setting.members k)) (sym two.net) ∙ setting.own A R

  member_there : is_among (peer_of B) (setting.members (setting.net A R)) ≡ true
  member_there = ap (λ k. is_among (peer_of B) (setting.members k)) two.net ∙ setting.own B Q

  since : Within s newer
  since = Within_through s (c ∷ older) newer (inr two.since) two.order

  abbrev Idle : List Seen
  Idle = view Q (of B newer)

  abbrev First_idle : List Seen
  First_idle = view R (of A older)

  backs_first : BacksItself world table fits sound A R (member_port set A R (peer_of B) member_there two.differ) c.did First_idle
      (seen_in A c older world refl two.first.place) two.first.stands two.first.unasked
  backs_first = backs_itself world table fits sound A R (member_port set A R (peer_of B) member_there two.differ) c.did First_idle
      (seen_in A c older world refl two.first.place) two.first.stands two.first.unasked

  abbrev DAt : ℕ
  DAt = d.did.step.at

  abbrev CAt : ℕ
  CAt = c.did.step.at

  in_turn : CAt ≤ DAt
  in_turn = place_time setting (c ∷ older) (d ∷ newer) (fits_at setting (d ∷ newer) world fits two.second.place) (inr two.order)

  -- by its own clock the first one holds itself until twice `long` after the second stood
  near_tick : setting.tick A (DAt + 2 * long) < c.did.tick + HOLD
  near_tick =
      let gap = (DAt + 2 * long) - CAt in
      let order = in_turn in
      let sum : DAt + 2 * long ≡ CAt + gap = omega (arith, order) in
      let small = two.near gap sum in
      let fast = (setting.ticks A).fast CAt gap in
      let there : setting.tick A (DAt + 2 * long) ≡ setting.tick A (CAt + gap) = ap (setting.tick A) sum in
      let first = tick_in setting A c older world fits refl two.first.place in
      omega (arith, small, fast, there, first)

  -- so it backs nobody else from 30 s before that until then
  backs_alone : (x : Line) (xo : List Line) → Within (x ∷ xo) world → node_of x ≡ A → x.port ≡ R → x.did.deed ≡ Acts (Back (peer_of B)) →
      CAt ≤ x.did.step.at + LIFE → x.did.step.at ≤ DAt + 2 * long → ⊥
  backs_alone x xo place node port deed after by =
      let back = backs_first in
      let l = locate A R world back.back (Here c.did ∷ First_idle) (rw back.deed refl) back.place in
      let line = line_on R back.back in
      let at : back.back.step.at ≡ CAt = ap (λ k. k.at) back.step in
      let when = tick_in setting A line l.older world fits l.node l.place in
      let x_when = tick_in setting A x xo world fits node place in
      let c_when = tick_in setting A c older world fits refl two.first.place in
      let same : setting.tick A back.back.step.at ≡ setting.tick A CAt = ap (setting.tick A) at in
      let apart : ((peer_of B).0 == back.own.0) ≡ false = ap (λ k. B == k) back.own_is ∙ other in
      elim (hold_apart setting world fits line l.older x xo l.place place (l.node ∙ sym node) (sym port) (peer_of B) back.own deed back.deed apart) [
        | inl gap ↦
            let mono = tick_mono setting A x.did.step.at (DAt + 2 * long) by in
            let hold = near_tick in
            omega (arith, gap, mono, hold, when, x_when, c_when, same)
        | inr gap ↦
            let mono = tick_mono setting A CAt (x.did.step.at + LIFE) after in
            let fast = (setting.ticks A).fast x.did.step.at LIFE in
            let small = setting.small in
            omega (arith, gap, mono, fast, small, when, x_when, c_when, same)
      ]

  -- a win of the later one
  module _ (w : Line) (before : List Line) (win : WinsIt d newer w before world) where
    abbrev Whole : List Seen
    Whole = view Q (of B world)

    abbrev Wins : List Seen
    Wins = view Q (of B before)

    stood-place : Within (Here d.did ∷ Idle) Whole
    stood-place = seen_in B d newer world refl two.second.place

    -- it asks the first one
    asks : AsksPeer world table fits sound B Q (member_port set B Q PA member other) d.did Idle stood-place two.second.stands
        two.second.unasked PA
    asks = asks_peer world table fits sound B Q (member_port set B Q PA member other) d.did Idle stood-place two.second.stands
        two.second.unasked PA member two.differ

    win-seen : Within (Here w.did ∷ Wins) Whole
    win-seen = subst (λ q. Within (Here w.did ∷ view q (of B before)) (view q (of B world))) win.port (seen_in B w before world win.node win.place)

    won : StoodLong w.did Wins
    won = subst (λ k. WonFits k w.did Wins) win.wins (owed_at WonFits w.did Wins Whole (wins B Q) win-seen)

    late_tick : d.did.tick + WINDOW ≤ w.did.tick
    late_tick =
        let same : Here won.start ∷ won.idle ≡ Here d.did ∷ Idle = sym won.stood_is ∙ win.still in
        let start : won.start ≡ d.did = cc in
        let tick = ap (λ (k : Did). k.tick) start in
        let far = won.long in
        omega (arith, tick, far)

    d_when : d.did.tick ≡ setting.tick B DAt
    d_when = tick_in setting B d newer world fits refl two.second.place

    -- what comes at most twice `long` after it stood comes before it wins
    less : (at : ℕ) → at ≤ DAt + 2 * long → at < w.did.step.at
    less at soon = elim (cases_lt at w.did.step.at) [
      | inl early ↦ early
      | inr none ↦
          let far = late_tick in
          let mono = tick_mono setting B w.did.step.at (DAt + 2 * long) (omega (arith, none, soon)) in
          let fast = (setting.ticks B).fast DAt (2 * long) in
          let when = tick_in setting B w before world fits win.node win.place in
          let start = d_when in
          absurd (omega (arith, far, mono, fast, when, start, quick))
    ]

    asked-inside : Within (Here asks.ask ∷ asks.asked) Wins
    asked-inside =
        let l = locate B Q world asks.ask asks.asked (let is = asks.deed in rw is refl) asks.place in
        let line = line_on Q asks.ask in
        let at : asks.ask.step.at ≡ DAt = ap (λ k. k.at) asks.step in
        let early : asks.ask.step.at < w.did.step.at = less asks.ask.step.at (omega (arith, at)) in
        let inside = before_time setting world fits line l.older w before l.place win.place early in
        subst (λ v. Within (Here asks.ask ∷ v) Wins) l.before (seen_in B line l.older before l.node inside)

    asks-then : is_asking PA DAt asks.ask asks.asked ≡ true
    asks-then =
        let own : (A == A) ≡ true = eq-eqb A A refl in
        let at : (asks.ask.step.at == DAt) ≡ true = eq-eqb asks.ask.step.at DAt (ap (λ k. k.at) asks.step) in
        let is = asks.deed in
        let kind = asks.kind in
        let begins = asks.begins in
        rw (is, own, kind, begins, at) refl

    found : LastAfter PA DAt asks.ask asks.asked Wins
    found = last_after PA DAt asks.ask asks.asked Wins asks-then asked-inside

    -- the last question
    abbrev K : Did
    K = found.last_ask.ask

    abbrev KB : List Seen
    KB = found.last_ask.asked

    flags : (asks_by PA K.deed ≡ true) × ((acting KB && (K.step.at == DAt)) ≡ true)
    flags = and_parts (asks_by PA K.deed) (acting KB && (K.step.at == DAt)) found.last_ask.asks

    begins : acting KB ≡ true
    begins = (and_parts (acting KB) (K.step.at == DAt) flags.1).0

    now : K.step.at ≡ DAt
    now = eqb-true K.step.at DAt (and_parts (acting KB) (K.step.at == DAt) flags.1).1

    question : AskingIs PA K
    question = asking_is PA K flags.0

    abbrev M : MessageValue
    M = question.message

    start-in : Within (Here d.did ∷ Idle) KB
    start-in = elim found.after [
      | inl e ↦ let tail : asks.asked ≡ KB = cc in subst (λ v. Within (Here d.did ∷ Idle) v) tail asks.after
      | inr v ↦ Within_through (Here d.did ∷ Idle) (Here asks.ask ∷ asks.asked) KB (inr asks.after) v
    ]

    there : Located B Q before K KB
    there = locate B Q before K KB (let is = question.deed in rw is refl) found.last_ask.place

    abbrev L : Line
    L = line_on Q K

    abbrev LO : List Line
    LO = there.older

    abbrev N : ℕ
    N = node_of L

    node : N ≡ B
    node = there.node

    l-place : Within (L ∷ LO) world
    l-place = Within_through (L ∷ LO) before world there.place (Within_tail w before world win.place)

    order : Within (d ∷ newer) LO
    order = seen_before B Q d.did K newer LO world refl node two.second.place l-place (subst (λ v. Within (Here d.did ∷ Idle) v) (sym there.before) start-in)

    asking : Asks setting long t stays s L LO world PA (Message M)
    asking = record {
      posts = record {
        place = l-place;
        deed = question.deed;
        member = ap (λ n. is_among PA (setting.members (setting.net n Q))) node ∙ member;
        other = ap (λ n. A == n) node ∙ two.differ;
      };
      since = Within_through s (d ∷ newer) LO (inr since) order;
      there = two.first_stays;
      here = ap stays node ∙ two.second_stays;
      early = (let early = two.early in let at = now in omega (arith, early, at));
    }

    stood-then : stood (view Q (of N LO)) ≡ Here d.did ∷ Idle
    stood-then = subst (λ n. stood (view Q (of n LO)) ≡ Here d.did ∷ Idle) (sym node) (ap stood there.before ∙
        stood_back d.did Idle KB Wins (Within_tail (Here K) KB Wins found.last_ask.place) start-in win.still)

    k-tick : K.tick ≡ d.did.tick
    k-tick = tick_in setting B L LO world fits node l-place ∙ (ap (setting.tick B) now ∙ sym d_when)

    wins-after : WinsAfter L LO w before world
    wins-after = record {
      place = win.place;
      later = there.place;
      node = win.node ∙ sym node;
      port = win.port;
      wins = win.wins;
      start = d.did;
      idle = Idle;
      stood_then = stood-then;
      stood_still = subst (λ n. stood (view Q (of n before)) ≡ Here d.did ∷ Idle) (sym node) win.still;
      tick = k-tick;
    }

    arrives : Arrives setting long L LO world PA (Message M)
    arrives = arrival set world table long t stays s delivered L LO PA (Message M) asking

    -- an answer comes before the win
    module _ (answer : MessageValue) (taken : AnswerTaken long L LO world PA (Message answer)) where
      abbrev Later : List Seen
      Later = view Q (of B taken.before)

      abbrev Prior : List Line
      Prior = taken.before

      prior-place : Within (taken.line ∷ Prior) world
      prior-place = taken.place

      prior : Within Prior world
      prior = Within_tail taken.line Prior world taken.place

      taken-less : taken.line.did.step.at < w.did.step.at
      taken-less = less taken.line.did.step.at (let soon = taken.soon in let at = now in omega (arith, soon, at))

      prior-before : Within Prior before
      prior-before = Within_tail taken.line Prior before (before_time setting world fits taken.line Prior w before taken.place win.place taken-less)

      later-wins : Within Later Wins
      later-wins = subst (λ n. Within (view Q (of n Prior)) (view Q (of n before))) node
          (then_wins setting world fits wins long quick L LO l-place PA (Message answer) taken w before wins-after)

      first-later : Within (Here K ∷ KB) Later
      first-later = subst (λ v. Within (Here K ∷ v) Later) there.before (seen_in B L LO Prior node taken.later)

      prior-fits : Fits setting Prior
      prior-fits = fits_at setting Prior world fits prior

      later-whole : Within Later Whole
      later-whole = Within_through Later Wins Whole later-wins (Within_tail (Here w.did) Wins Whole win-seen)

      high : tick_of (plain Later) < K.tick + TRIES * RETRY
      high =
          let last = of_tick setting B Prior prior-fits in
          let same : tick_of (plain Later) ≡ tick_of (dids (of B Prior)) = ap tick_of (plain_view Q (of B Prior)) in
          let time = (fits_in setting taken.line Prior world fits taken.place).order in
          let soon = taken.soon in
          let at = now in
          let mono = tick_mono setting B (time_of (dids Prior)) (DAt + 2 * long) (omega (arith, time, soon, at)) in
          let fast = (setting.ticks B).fast DAt (2 * long) in
          let when = d_when in
          let begun = k-tick in
          omega (arith, last, same, mono, fast, when, begun, prompt)

      still-there : (v : List Seen) → Within v Later → Within (Here K ∷ KB) v → stood v ≡ Here d.did ∷ Idle
      still-there v inside first = stood_back d.did Idle v Wins (Within_through v Later Wins inside later-wins)
          (Within_through (Here d.did ∷ Idle) (Here K ∷ KB) v (inr start-in) first) win.still

      -- the candidate's send isn't ended by the first one's vote
      unacked : (e : Did) (b : List Seen) → Within (Here e ∷ b) Later → Within (Here K ∷ KB) b → Open PA M K.tick b → e.deed ≢ Acts (Acked PA)
      unacked e b inside first o is = elim dec.kind [
        | inl accept ↦ voted accept
        | inr refuse ↦ yields refuse
      ] where
        fit : DecidedFits (Acts (Acked PA)) e b
        fit = subst (λ k. DecidedFits k e b) is
            (owed_at DecidedFits e b Whole (decided B Q) (Within_through (Here e ∷ b) Later Whole inside later-whole))

        dec : Decided PA M.number b
        dec = fit o.first o.older M o.open_is o.deed question.kind

        at_place : Located B Q Prior e b
        at_place = locate B Q Prior e b (rw is refl) inside

        e-place : Within (line_on Q e ∷ at_place.older) world
        e-place = Within_through (line_on Q e ∷ at_place.older) Prior world at_place.place prior

        voted : dec.answer.kind ≡ Accept → ⊥
        voted accept =
            let took : Receives (view Q (of (node_of (line_on Q e)) at_place.older)) PA (Message dec.answer) =
            subst (λ n. Receives (view Q (of n at_place.older)) PA (Message dec.answer)) (sym at_place.node)
            (subst (λ v. Receives v PA (Message dec.answer)) (sym at_place.before) dec.took) in
            let v = votes_for setting world fits honest life A B (line_on Q e) at_place.older (Acked PA) dec.answer e-place at_place.node is took accept in
            let net : setting.net A v.line.port ≡ setting.net A R =
            subst (λ n. setting.net n v.line.port ≡ setting.net A R) v.node (v.net ∙ sym two.net) in
            let e_late = place_time setting (line_on Q e ∷ at_place.older) (taken.line ∷ Prior) (fits_at setting (taken.line ∷ Prior) world fits taken.place)
            (inr at_place.place) in
            let k_in : Within (L ∷ LO) at_place.older = seen_before B Q K e LO at_place.older world node at_place.node l-place e-place
            (subst (λ z. Within (Here K ∷ z) (view Q (of B at_place.older))) (sym there.before)
            (subst (λ z. Within (Here K ∷ KB) z) (sym at_place.before) first)) in
            let e_early = place_time setting (L ∷ LO) (line_on Q e ∷ at_place.older) (fits_at setting (line_on Q e ∷ at_place.older) world fits e-place)
            (inr k_in) in
            let soon = taken.soon in
            let at = now in
            let turn = in_turn in
            let after = v.after in
            let by = v.by in
            backs_alone v.line v.older v.place v.node (setting.apart A v.line.port R net) v.deed (omega (arith, turn, at, e_early, after))
            (omega (arith, by, e_late, soon, at))

        candidate-there : role b ≡ Candidate
        candidate-there =
            let b_in : Within b Later = Within_tail (Here e) b Later inside in
            stood_role d.did Idle b (still-there b b_in first) ∙ (let stands = two.second.stands in rw stands refl)

        yields : dec.answer.kind ≡ Refuse → ⊥
        yields refuse =
            let took = dec.took in
            let cand = candidate-there in
            let y : yields_now (Here e ∷ b) ≡ true = rw (is, took, refuse, cand) refl in
            let kept = kept_within (Here w.did ∷ Wins) Whole win-seen (sound B Q).kept in
            let inside' : Within (Here e ∷ b) (Here w.did ∷ Wins) = inr (Within_through (Here e ∷ b) Later Wins inside later-wins) in
            elim (yields_next e b (Here w.did ∷ Wins) kept inside' y) [
              | inl same ↦
                  let did : w.did ≡ e = cc in
                  let both : Acts (Become Master) ≡ Acts (Acked PA) = sym win.wins ∙ (ap (λ (k : Did). k.deed) did ∙ is) in
                  let bad : ⊥ = cc in
                  bad
              | inr n ↦ elim n.place [
                | inl same ↦
                    let did : n.next ≡ w.did = cc in
                    let both : Acts (Become Loose) ≡ Acts (Become Master) = sym n.deed ∙ (ap (λ (k : Did). k.deed) did ∙ win.wins) in
                    let bad : ⊥ = cc in
                    bad
                | inr v ↦
                    let first_in : Within (Here d.did ∷ Idle) (Here e ∷ b) =
                    inr (Within_through (Here d.did ∷ Idle) (Here K ∷ KB) b (inr start-in) first) in
                    changed-since n.next (Here e ∷ b) Loose n.deed v first_in
              ]
            ]
          where
            changed-since : (x : Did) (v : List Seen) (r : Role) → x.deed ≡ Acts (Become r) → Within (Here x ∷ v) Wins → Within (Here d.did ∷ Idle) v → ⊥
            changed-since x v r deed place first = Within_strict (Here x) v (Here d.did ∷ Idle)
                (last_change d.did Idle Wins win.still x v r deed place) first

      open-there : Open PA M K.tick Later
      open-there = kept_open (setup_of setting B Q) PA M d.did Idle two.second.stands K KB question.deed question.kind begins start-in Later first-later
          (port_fits setting B Prior prior-fits Q) (kept_within Later Whole later-whole (sound B Q).kept)
          (owes_within Later Whole later-whole (late B Q)) (rising setting Q (of B Prior) (own_fits setting B Prior prior-fits)) high still-there unacked
          (λ x v place first. found.last_ask.last x v (Within_through (Here x ∷ v) Later Wins place later-wins) first)

    refuse : MessageValue
    refuse = bare Refuse M.number (node_in header A).name

    stands-still : (v : List Seen) → stood v ≡ Here d.did ∷ Idle → role v ≡ Candidate
    stands-still v e = stood_role d.did Idle v e ∙ (let is = two.second.stands in rw is refl)

    -- where the first one refuses
    refused-loses : AnswerTaken long L LO world PA (Message refuse) → ⊥
    unfolding refuse
    refused-loses taken =
        let o = open-there refuse taken in
        let later = view Q (of B taken.before) in
        let first = first-later refuse taken in
        let same : view taken.line.port (of N taken.before) ≡ later = ap (λ q. view q (of N taken.before)) taken.port ∙
        ap (λ n. view Q (of n taken.before)) node in
        let role_is : role_before (node_in header N) taken.line (of N taken.before) ≡ Candidate = ap role same ∙
        stands-still later (still-there refuse taken later (Within_all later) first) in
        let stands : is_candidate_role (role_before (node_in header N) taken.line (of N taken.before)) ≡ true = ap is_candidate_role role_is in
        let hears = answer_heard set world table long t stays s delivered L LO PA (Message M) asking refuse taken
        (candidate_awake set world table long t stays s delivered (role_before (node_in header N) taken.line (of N taken.before)) stands) in
        let kind = question.kind in
        let own : (M.number == M.number) ≡ true = eq-eqb M.number M.number refl in
        let opens : answers_election M.number (open_send PA later) ≡ true = ap (answers_election M.number) (sending_of PA M K.tick later o) ∙
        rw (kind, own) refl in
        let has : has_election PA M.number taken.line.did.tick (past_there header N taken.line taken.before) ≡ true =
        ap (λ v. answers_election M.number (open_send PA v)) same ∙ opens in
        let arm = arms_for_delay taken.line.did.tick (past_there header N taken.line taken.before) in
        let next = (all_heed header world table N).ends.refuse taken.line (of N taken.before) PA refuse hears refl stands has in
        no_change setting world fits wins long quick L LO l-place PA (Message refuse) taken w before wins-after (Acked PA ∷ Become Loose ∷ arm ∷ []) Loose
        (record { front = Acked PA ∷ []; back = arm ∷ []; is = refl }) next

    -- when the question arrives
    abbrev Then : List Line
    Then = arrives.before

    abbrev PastA : Past
    PastA = past_there header A arrives.line Then

    abbrev X : ℕ
    X = arrives.line.did.tick

    arrived-in : Within Then world
    arrived-in = Within_tail arrives.line Then world arrives.place

    port_there : arrives.line.port ≡ R
    port_there = setting.apart A arrives.line.port R (subst (λ n. setting.net n arrives.line.port ≡ setting.net A R) arrives.node
        (arrives.net ∙ (ap (λ n. setting.net n Q) node ∙ sym two.net)))

    c-then : Within (c ∷ older) Then
    c-then = Within_through (c ∷ older) (L ∷ LO) Then (inr (Within_through (c ∷ older) (d ∷ newer) LO (inr two.order) order)) arrives.later

    abbrev There : List Seen
    There = view R (of A Then)

    seen_there : PastA.seen ≡ There
    seen_there = ap (λ q. view q (of A Then)) port_there

    c-there : Within (Here c.did ∷ First_idle) There
    c-there = seen_in A c older Then refl c-then

    no_boot : (x : Did) (v : List Seen) → Within (Here x ∷ v) There → Within (Here c.did ∷ First_idle) v → x.deed ≢ Acts Boot
    no_boot x v place first is =
        let k = seen_at A R x v Then place in
        let turn : Within (c ∷ older) k.older = elim (Within_comparable (c ∷ older) (k.line ∷ k.older) Then c-then k.place) [
          | inl i ↦ elim i [
            | inl e ↦ let tail : k.older ≡ older = cc in absurd (too-few k.older k.before_is (subst (λ o. Within k.older o) tail (Within_all k.older)))
            | inr i ↦ i
          ]
          | inr i ↦ elim i [
            | inl e ↦ let tail : k.older ≡ older = cc in absurd (too-few k.older k.before_is (subst (λ o. Within k.older o) tail (Within_all k.older)))
            | inr i ↦ absurd (too-few k.older k.before_is (Within_tail k.line k.older older i))
          ]
        ] in
        let world_place : Within (k.line ∷ k.older) world = Within_through (k.line ∷ k.older) Then world k.place arrived-in in
        calm k.line k.older world_place (Within_through s (c ∷ older) k.older (inr two.since) turn) (ap stays k.node ∙ two.first_stays)
        (ap (λ (z : Did). z.deed) k.did_is ∙ is)
      where
        too-few : (o : List Line) → view R (of A o) ≡ v → Within o older → ⊥
        too-few o is inside =
            let small = Within_length (view R (of A o)) First_idle (Within_view R (of A o) (of A older) (Within_of A o older inside)) in
            let big = Within_length (Here c.did ∷ First_idle) v first in
            let same = ap length is in
            omega (arith, small, big, same)

    awake : role PastA.seen ≢ Starting
    awake e = awake_since c.did First_idle two.first.stands There c-there
        (kept_within There (view R (of A world)) (view_within R (of A Then) (of A world) (Within_of A Then world arrived-in)) (sound A R).kept) no_boot
        (ap role (sym seen_there) ∙ e)

    hears-there : Hears (node_in header A) (of A world) arrives.line (of A Then) (peer_of N) M
    hears-there = hears set world table long t stays s delivered L LO PA M asking arrives (not_starting (role PastA.seen) awake)

    denied : refuses_vote (peer_of N) X PastA ≡ true → ⊥
    unfolding refuse
    denied denies = refused-loses (refused set world table fits late long t stays s delivered prompt L LO PA M asking question.kind arrives denies)

    -- where it would vote
    backs : is_idle (role PastA.seen) ≡ true → may_back_at (peer_of N) X PastA ≡ true → ⊥
    backs idle may =
        let next = (all_heed header world table A).votes.backs arrives.line (of A Then) (peer_of N) M hears-there question.kind idle may in
        let back = Back (peer_of N) in
        let rest = arms_for_delay X PastA ∷ posts_bare Accept M.number PastA (peer_of N) ∷ [] in
        let line = line_of arrives.line.did.step X arrives.line.port (Acts back) in
        let own = arrives.line ∷ of A Then in
        let k = world_place A line own world (act_place arrives.line.did.step X arrives.line.port back (back ∷ rest) own (of A world)
        (record { front = []; back = rest; is = refl }) next) in
        let before_it = place_time setting (c ∷ older) (arrives.line ∷ Then) (fits_at setting (arrives.line ∷ Then) world fits arrives.place) (inr c-then) in
        let soon = arrives.soon in
        let at = now in
        backs_alone line k.older k.place k.node port_there (ap (λ n. Acts (Back (peer_of n))) node) (omega (arith, before_it)) (omega (arith, soon, at))

    idle-case : is_idle (role PastA.seen) ≡ true → (b : Bool) → may_back_at (peer_of N) X PastA ≡ b → ⊥
    idle-case idle true e = backs idle e
    idle-case idle false e = by_candidate (is_candidate_role (role PastA.seen)) refl where
      by_candidate : (b : Bool) → is_candidate_role (role PastA.seen) ≡ b → ⊥
      by_candidate true cand = denied (rw cand refl)
      by_candidate false cand = denied (rw (cand, idle, e) refl)

    -- where it leads
    master-case : is_master_role (role PastA.seen) ≡ true → has_quit (peer_of N) X PastA ≡ false → ⊥
    master-case leads free =
        let number = next_number X PastA in
        let quit = posts_bare QuitKind number PastA (peer_of N) in
        let message = bare QuitKind number (node_in header A).name in
        let so : (if has_quit (peer_of N) X PastA then false else true) ≡ true = rw free refl in
        let back = answered set world table long t stays s delivered L LO PA (Message M) asking arrives (quit ∷ []) (Message message)
        (first_of set world table long t stays s delivered quit [])
        ((all_heed header world table A).votes.sends_away arrives.line (of A Then) (peer_of N) M hears-there question.kind leads so) in
        let away : SentAway header long L LO world PA = record {
          number = number;
          answer = back;
          follows = λ alone. (all_heed header world table N).follows.quit back.line (of N back.before) PA message
              (answer_heard set world table long t stays s delivered L LO PA (Message M) asking message back
              (lone_awake (role_before (node_in header N) back.line (of N back.before)) alone)) refl alone refl;
        } in
        let stands : is_candidate_role (role (view Q (of N LO))) ≡ true = ap is_candidate_role (stands-still (view Q (of N LO)) stood-then) in
        none set world table fits wins long t stays s delivered quick L LO PA M asking stands away w before wins-after

    -- where it is sending it away already
    sending : has_quit (peer_of N) X PastA ≡ true → ⊥
    sending quit =
        let same : is_quit (open_send (peer_of N) PastA.seen) ≡ is_quit (open_send (peer_of B) There) =
        ap (λ n. is_quit (open_send (peer_of n) PastA.seen)) node ∙ ap (λ v. is_quit (open_send (peer_of B) v)) seen_there in
        let k = quit_open (peer_of B) There (sym same ∙ quit) in
        let l = locate A R Then k.first k.older (let is = k.deed in rw is refl) (open_at (peer_of B) There k.first k.older k.open_is).place in
        let line = line_on R k.first in
        let line_in : Within (line ∷ l.older) world = Within_through (line ∷ l.older) Then world l.place arrived-in in
        let first = open_since (peer_of B) There k.first k.older k.open_is c.did First_idle Candidate two.first.stands c-there in
        let after = seen_before A R c.did k.first older l.older world refl l.node two.first.place line_in
        (subst (λ v. Within (Here c.did ∷ First_idle) v) (sym l.before) first) in
        let early = place_time setting (line ∷ l.older) (arrives.line ∷ Then) (fits_at setting (arrives.line ∷ Then) world fits arrives.place) (inr l.place) in
        let soon = arrives.soon in
        let at = now in
        let rung = rang world table fits sound B Q (member_port set B Q PA member other) d.did Idle stood-place two.second.stands
        two.second.unasked in
        sent set world table fits sound m wakes long t stays s delivered c older d newer two w before win less rung other member_there line l.older line_in
        after
        l.node refl k.message k.deed k.kind (omega (arith, early, soon, at))

    -- so it loses
    pub loses : ⊥
    loses = by_role (role PastA.seen) refl where
      by_quit : is_master_role (role PastA.seen) ≡ true → (b : Bool) → has_quit (peer_of N) X PastA ≡ b → ⊥
      by_quit leads true e = sending e
      by_quit leads false e = master-case leads e

      by_role : (r : Role) → role PastA.seen ≡ r → ⊥
      by_role Starting is = awake is
      by_role Loose is = idle-case (ap is_idle is) (may_back_at (peer_of N) X PastA) refl
      by_role (Follow p) is = idle-case (ap is_idle is) (may_back_at (peer_of N) X PastA) refl
      by_role Candidate is = denied (rw is refl)
      by_role Master is = by_quit (ap is_master_role is) (has_quit (peer_of N) X PastA) refl
