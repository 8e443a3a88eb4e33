-- A stretch of a history without a master: who posted what is taken in it, and how long a candidature lasts.
use Rattle.std.proofs.Common.{sym, ap, subst, arith, true≢false, inl, inr, ◌∙◌, ◌≡◌, ◌≤◌, ◌<◌, ◌⊎◌, ℕ, ◌+◌, ◌==◌, Bool, true, false}
use Rattle.std.proofs.Common.{List, [], ◌∷◌, eqb-true, refl}
use Rattle.std.proofs.lemmas.Bool.{cases_lt}
use Rattle.tsp_rules.specs.Values.{Act, Become, Boot, Post, Took, Datagram, Election, Good, Kind, Message, Peer, Place, Port, Role, Candidate, Master}
use Rattle.tsp_rules.specs.Values.{AdjTime, SetTime, MasterUp, MasterAck, QuitKind, SLACK, WINDOW}
use Rattle.tsp_rules.specs.Guards.{is_master}
use Rattle.tsp_base.specs.Words.{Acts, Begins, Came, Cause, Deed, Did, Elsewhere, Handed, HeaderValue, Here, Line, MessageValue, Seen, TakesFrom, Within, dids}
use Rattle.tsp_base.specs.Words.{first_port, of, peer_of, role, role_after, stood, stood_after, time_of, view}
use Rattle.tsp_base.proofs.PlaceLemmas.{Within_comparable, Within_tail, Within_through}
use Rattle.tsp_promises.specs.{Fits.Fits, Fits.TookFits, Fits.node_of, Setting.Setting}
use Rattle.tsp_promises.proofs.{shared.Clocks.near, shared.Clocks.tick_mono, shared.ElectionFacts.stood_at, shared.EverywhereLemmas.Everywhere_at}
use Rattle.tsp_promises.proofs.{shared.HistoryPlaces.Within_of, shared.HistoryPlaces.line_on}
use Rattle.tsp_promises.proofs.promised.OwnFitsProof.{fits_at, fits_in, locate, place_time, seen_in, tick_in, view_line}
use Rattle.tsp_run.specs.Clocked.{Clocks, SetByClocks}
use Rattle.tsp_progress.specs.{AlarmsFit.is_candidate, AsksAll.AsksAll, ByTable.ByTable, Delivered.Delivered, FollowOn.Calm, FollowOn.IsMild, FollowOn.role_of}
use Rattle.tsp_progress.specs.{Headless.AllUp, Headless.Headless, InTime.CandidatureEnds, Motives.HaveMotives, Motives.MotiveFits}
use Rattle.tsp_progress.specs.{Calling.is_masters, Motives.may_say, OneWire.OneWire, RunsWake.manner_of, Wakes.AllWake, Wakes.Woken, Watched.Attended}
use Rattle.tsp_progress.specs.{Watched.Told}
use Rattle.tsp_progress.proofs.{FollowCalls.Cut, FollowCalls.cut, FollowProof.owes_at, FollowTaken.PostTaken, FollowTaken.taken_post}
use Rattle.tsp_progress.proofs.{InTimeProof.attended_in_time}
use Rattle.tsp_progress.proofs.{InTimeProof.told_in_time, SearchKept.view_within, StandActs.Sound, WinsNot.stood_back}
use Rattle.tsp_progress.proofs.{WinsNot.stood_role}

-- a run of a network that is calm after the place s, in which no node that stays is master until the true time t
pub record Stretch (clocks : Clocks) (header : HeaderValue) (setting : Setting) (late long t : ℕ) (stays : ℕ → Bool) (s world : List Line) : Type 0 where
  pub set : SetByClocks clocks header setting
  pub table : ByTable header world
  pub fits : Fits setting world
  pub woken : Woken (manner_of header) world
  pub wakes : AllWake (manner_of header) world
  pub sound : (n : ℕ) (q : Port) → Sound (view q (of n world))
  pub motives : HaveMotives world
  pub attended : Attended late world
  pub slack : late ≤ SLACK
  pub told : (n : ℕ) → stays n ≡ true → Told late setting t n world
  pub asks : AsksAll setting world
  pub wire : OneWire header setting stays
  pub calm : Calm long stays s world
  pub delivered : Delivered setting long t stays s world
  pub mild : IsMild long
  pub headless : Headless stays t s world
  pub up : AllUp stays s world
  pub inside : Within s world

-- the last change of the role of a candidate
pub record StoodLast (seen : List Seen) : Type 0 where
  pub start : Did
  pub idle : List Seen
  pub stood_is : stood seen ≡ Here start ∷ idle
  pub deed : start.deed ≡ Acts (Become Candidate)

pub stood_last : (seen : List Seen) → role seen ≡ Candidate → StoodLast seen
stood_last [] e = let bad : ⊥ = cc in absurd bad
stood_last (Elsewhere d ∷ before) e = let o = stood_last before e in
    record { start = o.start; idle = o.idle; stood_is = o.stood_is; deed = o.deed }
stood_last (Here d ∷ before) e = by_deed d.deed refl e (λ f. stood_last before f) where
  by_deed : (deed : Deed) → d.deed ≡ deed → role_after deed (role before) ≡ Candidate → (role before ≡ Candidate → StoodLast before) →
      StoodLast (Here d ∷ before)
  by_deed (Acts Boot) is f more = let bad : ⊥ = cc in absurd bad
  by_deed (Acts (Become r)) is f more =
      record {
        start = d;
        idle = before;
        stood_is = rw is refl;
        deed = is ∙ ap (λ z. Acts (Become z)) f;
      }
  by_deed deed is f more =
      let o = more f in
      record {
        start = o.start;
        idle = o.idle;
        stood_is = ap (λ k. stood_after k (Here d ∷ before) (stood before)) is ∙ o.stood_is;
        deed = o.deed;
      }

-- node n stands for election at the true time y, on its first port
pub record Candidacy (n y : ℕ) (world : List Line) : Type 0 where
  pub start : Did
  pub idle : List Seen
  pub place : Within (Here start ∷ idle) (view first_port (of n world))
  pub deed : start.deed ≡ Acts (Become Candidate)
  pub at : start.step.at ≡ y

-- a candidature lasts at most so long, in true time
abbrev pub term : ℕ → ℕ
term late = WINDOW + late + 9000

call_master : (k : Kind) (r : Role) → is_masters k ≡ true → may_say k r ≡ true → is_master r ≡ true
call_master AdjTime r e f = f
call_master SetTime r e f = f
call_master MasterUp r e f = f
call_master MasterAck r e f = f
call_master QuitKind r e f = f
call_master _ r e f = absurd (true≢false (sym e))

master_by : (r : Role) → is_master r ≡ true → r ≡ Master
master_by Master e = refl
master_by _ e = absurd (true≢false (sym e))

candidate_by : (r : Role) → is_candidate r ≡ true → r ≡ Candidate
candidate_by Candidate e = refl
candidate_by _ e = absurd (true≢false (sym e))

-- a place of nothing
pub nil_in : {A : Type 0} (h : List A) → Within [] h
nil_in [] = refl
nil_in (l ∷ h) = inr (nil_in h)

module _ {clocks : Clocks} {header : HeaderValue} {setting : Setting} {late long t : ℕ} {stays : ℕ → Bool} {s world : List Line}
    (k : Stretch clocks header setting late long t stays s world) where
  -- what comes later than the place s stands after it
  pub after_s : (l : Line) (older : List Line) → Within (l ∷ older) world → time_of (dids s) < l.did.step.at → Within s older
  after_s l older v less = elim (Within_comparable s (l ∷ older) world k.inside v) [
    | inl (inl e) ↦ absurd (let same = ap (λ (z : List Line). time_of (dids z)) e in omega (arith, same, less))
    | inl (inr u) ↦ u
    | inr u ↦ absurd (let le = place_time setting (l ∷ older) s (fits_at setting s world k.fits k.inside) u in omega (arith, le, less))
  ]

  -- a later place stands after an earlier one
  pub in_time_order : (g h : List Line) → Within g world → Within h world → time_of (dids g) < time_of (dids h) → Within g h
  in_time_order g h v w less = elim (Within_comparable g h world v w) [
    | inl u ↦ u
    | inr u ↦ absurd (let le = place_time setting h g (fits_at setting g world k.fits v) u in omega (arith, le, less))
  ]

  -- the line of a deed of a node's first port
  pub record AtLine (n : ℕ) (d : Did) (before : List Seen) : Type 0 where
    pub older : List Line
    pub place : Within (line_on first_port d ∷ older) world
    pub node : d.step.node ≡ n
    pub before_is : view first_port (of n older) ≡ before
    pub tick : d.tick ≡ setting.tick n d.step.at

  -- what a step took was posted after the place s, on the first port of another node that stays, and not long before
  pub record Source (n at : ℕ) (from : Place) (m : MessageValue) : Type 0 where
    pub post : Line
    pub before : List Line
    pub place : Within (post ∷ before) world
    pub since : Within s before
    pub deed : post.did.deed ≡ Acts (Post (Peer (peer_of n)) (Message m))
    pub port : post.port ≡ first_port
    pub there : stays (node_of post) ≡ true
    pub other : (node_of post == n) ≡ false
    pub from_is : from ≡ Peer (peer_of (node_of post))
    pub early : post.did.step.at ≤ at
    pub soon : at ≤ post.did.step.at + long

  module _ (l : Line) (older : List Line) (place : Within (l ∷ older) world) (settled : time_of (dids s) + long < l.did.step.at) where
    since : Within s older
    since = after_s l older place (omega (arith, settled))

    apart-from : (post : Line) (before : List Line) → Within (post ∷ before) world → Within s before → (d : Datagram) → post.did.deed ≡
        Acts (Post (Peer (peer_of (node_of l))) d) → (b : Bool) → (node_of post == node_of l) ≡ b → (node_of post == node_of l) ≡ false
    apart-from post before w v d e true is = absurd (k.calm.unsent post before w v d
        (subst (λ n. post.did.deed ≡ Acts (Post (Peer (peer_of n)) d)) (sym (eqb-true (node_of post) (node_of l) is)) e))
    apart-from post before w v d e false is = is

    message-of : (d : Datagram) (m : MessageValue) → Good d ≡ Good (Message m) → d ≡ Message m
    message-of d m e = cc

    source-of : (from : Place) (m : MessageValue) → PostTaken setting l older from (Good (Message m)) → l.port ≡ first_port →
        Source (node_of l) l.did.step.at from m
    source-of from m p port =
        let line-fits = fits_at setting (l ∷ older) world k.fits place in
        let is : p.datagram ≡ Message m = message-of p.datagram m (sym p.taken_is) in
        let older-in = Within_tail l older world place in
        let post-in : Within (p.post ∷ p.older) world = Within_through (p.post ∷ p.older) older world p.place older-in in
        let soon : l.did.step.at ≤ p.post.did.step.at + long = k.calm.soon l older place since p.post p.older
        (Peer (peer_of (node_of l))) p.datagram p.place p.deed p.takes in
        let less : time_of (dids s) < p.post.did.step.at = omega (arith, soon, settled) in
        let after : Within s p.older = after_s p.post p.older post-in less in
        let here = k.calm.only l older place since in
        let there = k.calm.only p.post p.older post-in after in
        let net : setting.net (node_of p.post) p.post.port ≡ setting.net (node_of p.post) first_port = p.net ∙
        (ap (setting.net (node_of l)) port ∙ k.wire.net (node_of l) (node_of p.post) here there) in
        let order = place_time setting (p.post ∷ p.older) (l ∷ older) line-fits (inr p.place) in
        record {
          post = p.post;
          before = p.older;
          place = post-in;
          since = after;
          deed = p.deed ∙ ap (λ d. Acts (Post (Peer (peer_of (node_of l))) d)) is;
          port = setting.apart (node_of p.post) p.post.port first_port net;
          there = there;
          other = apart-from p.post p.older post-in after p.datagram p.deed (node_of p.post == node_of l) refl;
          from_is = p.from_is;
          early = order;
          soon = soon;
        }

    pub source : (a : Act) → l.did.deed ≡ Acts a → l.port ≡ first_port → (from : Place) (m : MessageValue) →
        TakesFrom (view l.port (of (node_of l) older)) from (Message m) → Source (node_of l) l.did.step.at from m
    source a act port from m took = source-of from m
        (taken_post setting l older a (record { from = from; taken = Good (Message m) }) (fits_at setting (l ∷ older) world k.fits place) act
        (k.calm.unhanded l older place since) took) port

    -- the same of the line at which it is taken
    pub took_source : (from : Place) (m : MessageValue) → l.did.deed ≡ Acts (Took from (Good (Message m))) → l.port ≡ first_port →
        Source (node_of l) l.did.step.at from m
    took_source from m took port = source-of from m (by_cause l.did.step.cause refl
        ((fits_in setting l older world k.fits place).took from (Good (Message m)) took)) port where
          by_cause : (cause : Cause) → l.did.step.cause ≡ cause → TookFits cause setting l older from (Good (Message m)) →
              PostTaken setting l older from (Good (Message m))
          by_cause Handed is f = absurd (k.calm.unhanded l older place since is)
          by_cause (Came j) is f = record {
            post = f.post;
            older = f.older;
            place = f.place;
            takes = is ∙ ap Came (sym f.number);
            datagram = f.datagram;
            deed = f.deed;
            from_is = f.from_is;
            taken_is = f.taken_is;
            net = f.net;
          }
          by_cause _ is f = absurd f

  module _ {n at : ℕ} {from : Place} {m : MessageValue} (o : Source n at from m) where
    abbrev N : ℕ
    N = node_of o.post

    says : may_say m.kind (role (view o.post.port (of N o.before))) ≡ true
    says = subst (λ d. MotiveFits d o.post.did (view o.post.port (of N o.before))) o.deed
        (owes_at MotiveFits o.post.did (view o.post.port (of N o.before)) (view o.post.port (of N world))
        (seen_in N o.post o.before world refl o.place) (k.motives N o.post.port))

    pub says_first : may_say m.kind (role_of N o.before) ≡ true
    says_first = subst (λ q. may_say m.kind (role (view q (of N o.before))) ≡ true) o.port says

    -- it is no master's word
    pub no_call : is_masters m.kind ≡ true → at ≤ t → ⊥
    no_call call until =
        let order = (fits_in setting o.post o.before world k.fits o.place).order in
        let early = o.early in
        k.headless o.before (Within_tail o.post o.before world o.place) o.since (omega (arith, order, early, until)) N o.there
        (master_by (role_of N o.before) (call_master m.kind (role_of N o.before) call says_first))

    -- and who asks for a vote is a candidate, also after that
    pub asks_as : m.kind ≡ Election → role_of N (o.post ∷ o.before) ≡ Candidate
    asks_as kind =
        let was : role_of N o.before ≡ Candidate = candidate_by (role_of N o.before) (subst (λ z. may_say z (role_of N o.before) ≡ true) kind says_first) in
        let now : view first_port (of N (o.post ∷ o.before)) ≡ Here o.post.did ∷ view first_port (of N o.before) =
        subst (λ q. view q (of N (o.post ∷ o.before)) ≡ Here o.post.did ∷ view q (of N o.before)) o.port (view_line N o.post o.before refl) in
        ap role now ∙ (ap (λ d. role_after d (role_of N o.before)) o.deed ∙ was)

  -- a candidature that is short
  module _ (n : ℕ) (there : stays n ≡ true) (h : List Line) (inside : Within h world) (stands : role_of n h ≡ Candidate) where
    abbrev Then : List Seen
    Then = view first_port (of n h)

    last-one : StoodLast Then
    last-one = stood_last Then stands

    start-in : Within (Here last-one.start ∷ last-one.idle) Then
    start-in = (stood_at Then (Here last-one.start) last-one.idle last-one.stood_is).place

    then-in : Within Then (view first_port (of n world))
    then-in = view_within first_port (of n h) (of n world) (Within_of n h world inside)

    abbrev Y : ℕ
    Y = last-one.start.step.at

    abbrev stood-now : Candidacy n Y world
    stood-now = record {
      start = last-one.start;
      idle = last-one.idle;
      place = Within_through (Here last-one.start ∷ last-one.idle) Then (view first_port (of n world)) start-in then-in;
      deed = last-one.deed;
      at = refl;
    }

    start-line : Within (line_on first_port last-one.start ∷ (locate n first_port h last-one.start last-one.idle (rw last-one.deed refl) start-in).older) h
    start-line = (locate n first_port h last-one.start last-one.idle (rw last-one.deed refl) start-in).place

    order : Y ≤ time_of (dids h)
    order = place_time setting (line_on first_port last-one.start ∷ (locate n first_port h last-one.start last-one.idle (rw last-one.deed refl) start-in).older)
        h (fits_at setting h world k.fits inside) start-line

    module _ (over : Y + term late < time_of (dids h)) (short : Y + term late ≤ t) where
      abbrev X : ℕ
      X = Y + term late

      R : List Line → Type 0
      R lines = CandidatureEnds late (setting.tick n X) (view first_port lines)

      marks : (l : Line) (w : List Line) → Within (l ∷ w) world → l.did.deed ≡ Begins → node_of l ≡ n → X < l.did.step.at → R (of n w)
      unfolding R
      marks l w v begins node later = λ r.
          let ends = (Everywhere_at _ l w world (attended_in_time (manner_of header) late world k.woken k.attended) v begins first_port).candidature in
          let ends' : CandidatureEnds late l.did.tick (view first_port (of n w)) =
          subst (λ z. CandidatureEnds late l.did.tick (view first_port (of z w))) node ends in
          let e = ends' r in
          let tick = tick_in setting n l w world k.fits node v in
          let mono = tick_mono setting n X l.did.step.at (omega (arith, later)) in
          let since = e.since in
          record { start = e.start; idle = e.idle; stood_is = e.stood_is; since = omega (arith, tick, mono, since) }

      ends : R (of n world)
      unfolding R
      ends = λ r.
          let e = (told_in_time (manner_of header) late setting t n world k.wakes (k.told n there) first_port).candidature r in
          let mono = tick_mono setting n X t short in
          let since = e.since in
          record { start = e.start; idle = e.idle; stood_is = e.stood_is; since = omega (arith, mono, since) }

      upto : Cut n X R world
      upto = cut setting n X R world k.fits marks ends

      cut-in : Within upto.h h
      cut-in = let le = upto.upto in in_time_order upto.h h upto.within inside (omega (arith, le, over))

      start-cut : Within (Here last-one.start ∷ last-one.idle) (view first_port (of n upto.h))
      start-cut =
          let l = locate n first_port h last-one.start last-one.idle (rw last-one.deed refl) start-in in
          let there = upto.all (line_on first_port last-one.start) l.older
          (Within_through (line_on first_port last-one.start ∷ l.older) h world l.place inside) (omega (arith, over)) in
          subst (λ v. Within (Here last-one.start ∷ v) (view first_port (of n upto.h))) l.before
          (seen_in n (line_on first_port last-one.start) l.older upto.h l.node there)

      still : stood (view first_port (of n upto.h)) ≡ Here last-one.start ∷ last-one.idle
      still = stood_back last-one.start last-one.idle (view first_port (of n upto.h)) Then
          (view_within first_port (of n upto.h) (of n h) (Within_of n upto.h h cut-in)) start-cut last-one.stood_is

      too-long : ⊥
      unfolding R
      too-long =
          let r : role (view first_port (of n upto.h)) ≡ Candidate = stood_role last-one.start last-one.idle (view first_port (of n upto.h)) still ∙
          (let d = last-one.deed in rw d refl) in
          let e = upto.holds r in
          let same : Here e.start ∷ e.idle ≡ Here last-one.start ∷ last-one.idle = sym e.stood_is ∙ still in
          let did : e.start ≡ last-one.start = cc in
          let at = ap (λ (z : Did). z.tick) did in
          let since = e.since in
          let l = locate n first_port h last-one.start last-one.idle (rw last-one.deed refl) start-in in
          let tick = tick_in setting n (line_on first_port last-one.start) l.older world k.fits l.node
          (Within_through (line_on first_port last-one.start ∷ l.older) h world l.place inside) in
          let nr = near setting n Y X (omega (arith, over)) in
          let least = nr.least in
          let slack = k.slack in
          omega (arith, at, since, tick, least, over, slack)

    -- who is a candidate there stood not long before
    pub record StoodSoon : Type 0 where
      pub at : ℕ
      pub standing : Candidacy n at world
      pub early : at ≤ time_of (dids h)
      pub soon : time_of (dids h) ≤ at + term late
      pub last : stood (view first_port (of n h)) ≡ Here standing.start ∷ standing.idle

    pub stood_short : (time_of (dids h) ≤ t) ⊎ ((start : Did) (idle : List Seen) → stood (view first_port (of n h)) ≡ Here start ∷ idle →
        start.step.at + term late ≤ t) → StoodSoon
    stood_short bound = record {
      at = Y;
      standing = stood-now;
      early = order;
      soon = elim (cases_lt (Y + term late) (time_of (dids h))) [
        | inl over ↦ absurd (too-long over (elim bound [
          | inl le ↦ omega (arith, over, le)
          | inr f ↦ f last-one.start last-one.idle last-one.stood_is
        ]))
        | inr le ↦ le
      ];
      last = last-one.stood_is;
    }

  pub stood_soon : (n : ℕ) (there : stays n ≡ true) (h : List Line) (inside : Within h world) → time_of (dids h) ≤ t → (stands : role_of n h ≡ Candidate) →
      StoodSoon n there h inside stands
  stood_soon n there h inside until stands = stood_short n there h inside stands (inl until)
