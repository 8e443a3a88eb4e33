-- In a stretch without a master each backing is of somebody who stood not long before, and who takes a question for a vote has backed somebody since.
use Rattle.std.proofs.Common.{sym, ap, subst, arith, true≢false, inl, inr, ◌∙◌, ◌≡◌, ◌≢◌, ◌≤◌, ◌<◌, ◌⊎◌, ℕ, ◌+◌, ◌==◌}
use Rattle.std.proofs.Common.{Bool, true, false, List, [], ◌∷◌, length, refl}
use Rattle.tsp_rules.specs.Values.{Accept, Back, Become, Boot, Took, Election, Good, Message, PeerId, Peer}
use Rattle.tsp_rules.specs.Values.{Place, Role, Candidate, Follow, Loose, Master, Starting, HOLD}
use Rattle.tsp_rules.specs.{CommonRows.is_idle, Guards.is_starting_role, Guards.may_back_at}
use Rattle.tsp_base.specs.Words.{Acts, Deed, Did, Elsewhere, HeaderValue, Held, Here, Line, MessageValue, Past, Seen, Step, TakesFrom, Within, dids}
use Rattle.tsp_base.specs.Words.{first_port, held, is_among, line_of, of, peer_of, plain, role, stood, stood_after, tick_of, time_of, view}
use Rattle.tsp_base.proofs.PlaceLemmas.{Within_all, Within_tail, Within_through}
use Rattle.tsp_promises.specs.{Fits.node_of, Setting.Setting}
use Rattle.tsp_promises.proofs.{shared.Clocks.near, shared.ElectionFacts.stood_at}
use Rattle.tsp_promises.proofs.{shared.HistoryPlaces.line_on}
use Rattle.tsp_promises.proofs.promised.OwnFitsProof.{Located, fits_at, fits_in, locate, place_time, seen_in, tick_in, view_line}
use Rattle.tsp_run.specs.Clocked.{Clocks}
use Rattle.tsp_progress.specs.AlarmsFit.{NextFits, NextTo, newest_is, stands_by, stands_now}
use Rattle.tsp_progress.specs.{AsksAll.AsksPeer, Delivered.Arrives, Delivered.PostsTo}
use Rattle.tsp_progress.specs.{ByTable.node_in, ByTable.port_before, Heeds.Hears, Heeds.arms_for_delay, Heeds.posts_bare}
use Rattle.tsp_progress.specs.{Motives.MotiveFits, OneAtATime.StandsAt, RolesLast.TookOf, RunsWake.manner_of}
use Rattle.tsp_progress.proofs.{AloneProof.PacedAt, AnswersProof.hears_there, FollowHeard.paced_at, FollowProof.owes_at, HeedsProof.all_heed, PaceProof.paced}
use Rattle.tsp_progress.proofs.{SearchKept.alarms_within}
use Rattle.tsp_progress.proofs.StretchFacts.{Source, Candidacy, Stretch, asks_as, source, stood_soon, term}
use Rattle.tsp_progress.proofs.WaveFacts.{Backed, act_time, alarms_of, held_by, rise_of, stand_at, stand_back, stand_since}
use Rattle.tsp_progress.proofs.WaveFacts.{stand_tick}
use Rattle.tsp_progress.proofs.WorldPlaces.{act_place, in_order, world_place}
use Rattle.tsp_base.proofs.PlaceLemmas.{Within_length}

-- since the last change of the role no boot came
kept_life : (seen : List Seen) (start : Did) (idle : List Seen) → stood seen ≡ Here start ∷ idle → (d : Did) (before : List Seen) →
    Within (Here d ∷ before) seen → Within (Here start ∷ idle) before → d.deed ≢ Acts Boot
kept_life [] start idle e d before place after boot = let bad : ⊥ = cc in bad
kept_life (Elsewhere c ∷ rest) start idle e d before (inl same) after boot = let bad : ⊥ = cc in bad
kept_life (Elsewhere c ∷ rest) start idle e d before (inr w) after boot = kept_life rest start idle e d before w after boot
kept_life (Here c ∷ rest) start idle e d before (inl same) after boot =
    let own : d ≡ c = cc in
    let is : c.deed ≡ Acts Boot = ap (λ (z : Did). z.deed) (sym own) ∙ boot in
    let none : [] ≡ Here start ∷ idle = ap (λ z. stood_after z (Here c ∷ rest) (stood rest)) (sym is) ∙ e in
    let bad : ⊥ = cc in bad
kept_life (Here c ∷ rest) start idle e d before (inr w) after boot = by_deed c.deed e (λ f. kept_life rest start idle f d before w after boot) where
  by_deed : (deed : Deed) → stood_after deed (Here c ∷ rest) (stood rest) ≡ Here start ∷ idle → (stood rest ≡ Here start ∷ idle → ⊥) → ⊥
  by_deed (Acts Boot) f more = let bad : ⊥ = cc in bad
  by_deed (Acts (Become r)) f more =
      let same : rest ≡ idle = tails f in
      let long = Within_length (Here start ∷ idle) before after in
      let short = Within_length (Here d ∷ before) rest w in
      let len = ap length same in
      omega (arith, long, short, len)
    where
      tails : Here c ∷ rest ≡ Here start ∷ idle → rest ≡ idle
      tails e = cc
  by_deed _ f more = more f

module _ {clocks : Clocks} {header : HeaderValue} {setting : Setting} {late long t : ℕ} {stays : ℕ → Bool} {s world : List Line}
    (k : Stretch clocks header setting late long t stays s world) where
  -- somebody stood not long before the true time v
  pub record StoodBy (x v : ℕ) : Type 0 where
    pub there : stays x ≡ true
    pub at : ℕ
    pub stood : Candidacy x at world
    pub early : at ≤ v
    pub soon : v ≤ at + term late + long

  -- who asks for a vote did
  pub asked_by : {n at : ℕ} {from : Place} {m : MessageValue} (o : Source k n at from m) → m.kind ≡ Election → at ≤ t → StoodBy (node_of o.post) at
  asked_by {n} {at} {from} {m} o kind until =
      let early = o.early in
      let soon = o.soon in
      let c = stood_soon k (node_of o.post) o.there (o.post ∷ o.before) o.place (omega (arith, early, until)) (asks_as k o kind) in
      let low = c.early in
      let high = c.soon in
      record { there = o.there; at = c.at; stood = c.standing; early = omega (arith, early, low); soon = omega (arith, soon, high) }

  -- a backing is of somebody who stood so, or of the node itself, which did
  pub record BackedFor (n v : ℕ) (p : PeerId) : Type 0 where
    pub x : ℕ
    pub which : (x ≡ p.0) ⊎ (x ≡ n)
    pub stood : StoodBy x v

  module _ (n : ℕ) (there : stays n ≡ true) (d : Did) (before : List Seen) (place : Within (Here d ∷ before) (view first_port (of n world))) (p : PeerId)
      (back : d.deed ≡ Acts (Back p)) (settled : time_of (dids s) + long < d.step.at) (until : d.step.at ≤ t) where
    at-line : Located n first_port world d before
    at-line = locate n first_port world d before (rw back refl) place

    motive : MotiveFits (Acts (Back p)) d before
    motive = subst (λ z. MotiveFits z d before) back (owes_at MotiveFits d before (view first_port (of n world)) place (k.motives n first_port))

    by-question : TookOf Election p before → BackedFor n d.step.at p
    by-question q =
        let l = line_on first_port d in
        let took : TakesFrom (view first_port (of (node_of l) at-line.older)) (Peer p) (Message q.message) =
        subst (λ v. TakesFrom v (Peer p) (Message q.message)) (sym (ap (λ z. view first_port (of z at-line.older)) at-line.node ∙ at-line.before)) q.took in
        let o = source k l at-line.older at-line.place settled (Back p) back refl (Peer p) q.message took in
        record { x = node_of o.post; which = inl (ap (λ z. number z p) (sym o.from_is)); stood = asked_by o q.kind_is until } where
          number : Place → PeerId → ℕ
          number (Peer z) other = z.0
          number _ other = other.0

    pacing : PacedAt late (Here d) before
    pacing = paced_at late (Here d) before (view first_port (of n world)) place
        (paced setting late world k.fits k.attended (manner_of header n) n first_port (k.wakes n first_port).acts)

    by-itself : stands_now before ≡ true → BackedFor n d.step.at p
    by-itself e = by_list before refl e where
      stands-deed : (deed : Deed) → stands_by deed ≡ true → deed ≡ Acts (Become Candidate)
      stands-deed (Acts (Become Candidate)) e = refl
      stands-deed _ e = absurd (true≢false (sym e))

      by_list : (seen : List Seen) → before ≡ seen → stands_now seen ≡ true → BackedFor n d.step.at p
      by_list [] is e = absurd (true≢false (sym e))
      by_list (Elsewhere c ∷ rest) is e = absurd (true≢false (sym e))
      by_list (Here c ∷ rest) is e =
          let stands = stands-deed c.deed e in
          let inside : Within (Here c ∷ rest) (view first_port (of n world)) = subst (λ z. Within z (view first_port (of n world))) is
          (Within_tail (Here d) before (view first_port (of n world)) place) in
          let st : Candidacy n c.step.at world = record { start = c; idle = rest; place = inside; deed = stands; at = refl } in
          let level : d.tick ≡ c.tick = pacing.level (Back p) back ∙ ap (λ z. tick_of (plain z)) is in
          let tick = tick_in setting n (line_on first_port d) at-line.older world k.fits at-line.node at-line.place in
          let tick' = stand_tick k st in
          let lower : Within (Here c ∷ rest) (view first_port (of n at-line.older)) = subst (λ z. Within (Here c ∷ rest) z) (sym (at-line.before ∙ is))
          (Within_all (Here c ∷ rest)) in
          let l = locate n first_port at-line.older c rest (rw stands refl) lower in
          let inner = Within_tail (line_on first_port d) at-line.older world at-line.place in
          let order = place_time setting (line_on first_port c ∷ l.older) (line_on first_port d ∷ at-line.older)
          (fits_at setting (line_on first_port d ∷ at-line.older) world k.fits at-line.place) (inr l.place) in
          let nr = near setting n c.step.at d.step.at order in
          let least = nr.least in
          record {
            x = n;
            which = inr refl;
            stood = record { there = there; at = c.step.at; stood = st; early = order; soon = omega (arith, level, tick, tick', least) };
          }

    pub backed_for : BackedFor n d.step.at p
    backed_for = elim motive [
      | inl q ↦ by-question q
      | inr e ↦ by-itself e
    ]

  -- another node that stays takes the question of one that stands, and has backed somebody since not long before
  pub record Struck (u n : ℕ) : Type 0 where
    pub at : ℕ
    pub early : u ≤ at
    pub soon : at ≤ u + long
    pub b : ℕ
    pub recent : setting.tick n at < b + HOLD
    pub backed : Backed k n b at

  module _ {x n u : ℕ} (st : Candidacy x u world) (settled : time_of (dids s) + long < u) (there : stays x ≡ true) (here : stays n ≡ true)
      (other : (n == x) ≡ false) (early : u + long < t) where
    abbrev C : Line
    C = line_on first_port st.start

    abbrev Older : List Line
    Older = (stand_at k st).older

    c-since : Within s Older
    c-since = stand_since k st settled

    stands-at : StandsAt C Older world
    stands-at = record { place = (stand_at k st).place; stands = st.deed; unasked = k.calm.unhanded C Older (stand_at k st).place c-since }

    net-x : (z : ℕ) → z ≡ x → setting.net z first_port ≡ setting.net n first_port
    net-x z e = subst (λ v. setting.net v first_port ≡ setting.net n first_port) (sym e) (k.wire.net x n there here)

    ask : AsksPeer C Older world (peer_of n)
    ask = (k.asks C Older stands-at (peer_of n)
        (ap (λ z. is_among (peer_of n) (setting.members z)) (net-x (node_of C) (stand_at k st).node) ∙ setting.own n first_port)
        (ap (λ z. n == z) (stand_at k st).node ∙ other)).1

    ask-node : node_of ask.line ≡ x
    ask-node = ap (λ (z : Step). z.node) ask.step ∙ (stand_at k st).node

    ask-at : ask.line.did.step.at ≡ u
    ask-at = ap (λ (z : Step). z.at) ask.step ∙ st.at

    net-same : setting.net (node_of ask.line) ask.line.port ≡ setting.net n first_port
    net-same = ap (setting.net (node_of ask.line)) ask.port ∙ net-x (node_of ask.line) ask-node

    posts : PostsTo setting ask.line ask.before world (peer_of n) (Message ask.message)
    posts = record {
      place = ask.place;
      deed = ask.deed;
      member = ap (λ z. is_among (peer_of n) (setting.members z)) net-same ∙ setting.own n first_port;
      other = ap (λ z. n == z) ask-node ∙ other;
    }

    ask-since : Within s ask.before
    ask-since = Within_through s (C ∷ Older) ask.before (inr c-since) ask.later

    a : Arrives setting long ask.line ask.before world (peer_of n) (Message ask.message)
    a = k.delivered ask.line ask.before (peer_of n) (Message ask.message) posts ask-since here (let at = ask-at in omega (arith, at, early))

    a-port : a.line.port ≡ first_port
    a-port = setting.apart n a.line.port first_port (subst (λ z. setting.net z a.line.port ≡ setting.net n first_port) a.node (a.net ∙ net-same))

    a-since : Within s a.before
    a-since = Within_through s (ask.line ∷ ask.before) a.before (inr ask-since) a.later

    a-in : Within a.before world
    a-in = Within_tail a.line a.before world a.place

    abbrev V : ℕ
    V = a.line.did.step.at

    v-late : u ≤ V
    v-late =
        let order = place_time setting (ask.line ∷ ask.before) (a.line ∷ a.before) (fits_at setting (a.line ∷ a.before) world k.fits a.place) (inr a.later) in
        let at = ask-at in omega (arith, order, at)

    v-soon : V ≤ u + long
    v-soon = let soon = a.soon in let at = ask-at in omega (arith, soon, at)

    a-tick : a.line.did.tick ≡ setting.tick n V
    a-tick = tick_in setting n a.line a.before world k.fits a.node a.place

    a-time : time_of (dids a.before) ≤ V
    a-time = (fits_in setting a.line a.before world k.fits a.place).order

    abbrev Then : List Seen
    Then = view first_port (of n a.before)

    awake : is_starting_role (role Then) ≡ false
    awake = k.up n here a.before a-since a-in

    abbrev There : Past
    There = port_before (node_in header n) a.line (of n a.before)

    seen-is : There.seen ≡ Then
    seen-is = ap (λ q. view q (of n a.before)) a-port

    hears : Hears (node_in header n) (of n world) a.line (of n a.before) (peer_of (node_of ask.line)) ask.message
    hears = hears_there k.set world k.table long t stays s k.delivered ask.line ask.before (peer_of n) ask.message posts a
        (ap (λ z. is_starting_role (role z)) seen-is ∙ awake)

    -- a candidate backed itself
    took-next : NextTo (manner_of header n) Then a.line.did.deed
    took-next =
        let seen = seen_in n a.line a.before world a.node a.place in
        let seen' : Within (Here a.line.did ∷ Then) (view first_port (of n world)) =
        subst (λ q. Within (Here a.line.did ∷ view q (of n a.before)) (view q (of n world))) a-port seen in
        (alarms_within (manner_of header n) (Here a.line.did ∷ Then) (view first_port (of n world)) seen' (k.wakes n first_port).acts).1.0

    not-just : newest_is stands_by Then ≡ true → ⊥
    not-just e = by_list Then refl took-next e where
      by_next : (last : Deed) (y : ℕ) (older : List Seen) → stands_by last ≡ true → NextFits (manner_of header n) last y older a.line.did.deed → ⊥
      by_next (Acts (Become Candidate)) y older e f = let took = a.took in let is = f.1 in let bad : ⊥ = cc in bad
      by_next _ y older e f = true≢false (sym e)

      by_list : (seen : List Seen) → Then ≡ seen → NextTo (manner_of header n) seen a.line.did.deed → newest_is stands_by seen ≡ true → ⊥
      by_list [] is f e = true≢false (sym e)
      by_list (Here c ∷ older) is f e = by_next c.deed c.tick older e f
      by_list (Elsewhere c ∷ older) is f e = true≢false (sym e)

    until : V ≤ t
    until = let soon = v-soon in omega (arith, soon, early)

    candidate-struck : role Then ≡ Candidate → Struck u n
    candidate-struck e =
        let c = stood_soon k n here a.before a-in (let at = a-time in let le = until in omega (arith, at, le)) e in
        let w = (stood_at Then (Here c.standing.start) c.standing.idle c.last).place in
        let back = (stand_back (manner_of header n) Then (alarms_of k n a.before a-in) (rise_of k n a.before a-in) c.standing.start c.standing.idle
        c.standing.deed w
        (λ d before place after. kept_life Then c.standing.start c.standing.idle c.last d before place after)).0 in
        let low = c.early in
        let high = c.soon in
        let tick = stand_tick k c.standing in
        let nr = near setting n c.at V (let at = a-time in omega (arith, low, at)) in
        let most = nr.most in
        let time = time-is in
        let slack = k.slack in
        elim back [
          | inl just ↦ absurd (not-just just)
          | inr b ↦ record {
            at = V;
            early = v-late;
            soon = v-soon;
            b = c.standing.start.tick;
            recent = omega (arith, tick, most, high, time, slack);
            backed = record { early = a.before; inside = a-in; since = a-since; by = a-time; back = b };
          }
        ]
      where
        time-is : V ≤ time_of (dids a.before)
        time-is = let e = act_time k a.line a.before (Took (Peer (peer_of (node_of ask.line))) (Good (Message ask.message))) a.place a.took in omega (arith, e)

    idle-struck : is_idle (role Then) ≡ true → Struck u n
    idle-struck e = by_hold (may_back_at (peer_of (node_of ask.line)) a.line.did.tick There) refl where
      by_hold : (b : Bool) → may_back_at (peer_of (node_of ask.line)) a.line.did.tick There ≡ b → Struck u n
      by_hold true may =
          let p = peer_of (node_of ask.line) in
          let next = (all_heed header world k.table n).votes.backs a.line (of n a.before) p ask.message hears ask.kind (ap (λ z. is_idle (role z)) seen-is ∙ e)
          may in
          let backing = line_of a.line.did.step a.line.did.tick a.line.port (Acts (Back p)) in
          let w = world_place n backing (a.line ∷ of n a.before) world (act_place a.line.did.step a.line.did.tick a.line.port (Back p)
          (Back p ∷ arms_for_delay a.line.did.tick There ∷ posts_bare Accept ask.message.number There p ∷ []) (a.line ∷ of n a.before) (of n world)
          (record { front = []; back = arms_for_delay a.line.did.tick There ∷ posts_bare Accept ask.message.number There p ∷ []; is = refl }) next) in
          let seen : view a.line.port (of n (backing ∷ w.older)) ≡ Here backing.did ∷ view a.line.port (of n w.older) = view_line n backing w.older w.node in
          let seen' : view first_port (of n (backing ∷ w.older)) ≡ Here backing.did ∷ view first_port (of n w.older) =
          subst (λ q. view q (of n (backing ∷ w.older)) ≡ Here backing.did ∷ view q (of n w.older)) a-port seen in
          let after : Within s w.older = Within_through s (a.line ∷ a.before) w.older (inr a-since) (in_order n a.line a.before backing w.older world a.place
          w.place (subst (λ ls. Within (a.line ∷ of n a.before) ls) (sym w.own_is) (Within_all (a.line ∷ of n a.before)))) in
          let tick = a-tick in
          record {
            at = V;
            early = v-late;
            soon = v-soon;
            b = a.line.did.tick;
            recent = omega (arith, tick);
            backed = record {
              early = backing ∷ w.older;
              inside = w.place;
              since = inr after;
              by = omega arith;
              back = record { at = a.line.did.tick; of_peer = p; back_is = ap (λ (z : Held). z.back) (ap held seen'); since = omega arith };
            };
          }
      by_hold false may =
          let h = held_by (held There.seen).back a.line.did.tick (peer_of (node_of ask.line)) may in
          let tick = a-tick in
          let less = h.recent in
          record {
            at = V;
            early = v-late;
            soon = v-soon;
            b = h.at;
            recent = omega (arith, tick, less);
            backed = record {
              early = a.before;
              inside = a-in;
              since = a-since;
              by = a-time;
              back = record { at = h.at; of_peer = h.of_peer; back_is = ap (λ z. (held z).back) (sym seen-is) ∙ h.is; since = omega arith };
            };
          }

    pub struck : Struck u n
    struck = by_role (role Then) refl where
      by_role : (r : Role) → role Then ≡ r → Struck u n
      by_role Loose e = idle-struck (ap is_idle e)
      by_role (Follow q) e = idle-struck (ap is_idle e)
      by_role Candidate e = candidate-struck e
      by_role Starting e = absurd (true≢false (sym (ap is_starting_role e) ∙ awake))
      by_role Master e = absurd (k.headless a.before a-in a-since (let at = a-time in let le = until in omega (arith, at, le)) n here e)
