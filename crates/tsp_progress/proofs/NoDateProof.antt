-- In a calm network nobody takes a date: clients are outside, and what was passed on before is over soon.
use Rattle.std.proofs.Common.{sym, ap, subst, arith, true≢false, inl, inr, ◌∙◌, ◌≡◌, ◌≤◌, ◌<◌, ◌⊎◌, ℕ, ◌+◌, Bool, true, false, List, []}
use Rattle.std.proofs.Common.{◌∷◌, Option, None, Some, refl}
use Rattle.tsp_rules.specs.Values.{Act, Post, Took, Date, DateReq, SetDate, SetDateReq, Kind, Message, Datagram, Good, Peer, PeerId, Place, Port, LAST}
use Rattle.tsp_base.specs.Words.{Acts, Came, Cause, Did, Handed, Here, Line, MessageValue, Seen, Sending, Step, Within, acting, dids, is_numbered}
use Rattle.tsp_base.specs.Words.{is_set_date_request, is_shared, lives, of, open_send, open_to, peer_of, posts_of, sending_at, sets_date, time_of, view}
use Rattle.tsp_base.proofs.{PlaceLemmas.Within_tail, PlaceLemmas.Within_through, ViewPlaces.sees_own}
use Rattle.tsp_promises.specs.{DeedFits.DateRequestFits, DeedFits.MessageFits, DeedFits.PostsFit, Fits.Fits, Fits.TookFits, Fits.node_of}
use Rattle.tsp_promises.specs.{Setting.Setting, Setting.setup_of}
use Rattle.tsp_promises.proofs.{promised.LastTakenProof.asked_late, promised.SendProof.Opened, promised.SendProof.opened, shared.Clocks.near}
use Rattle.tsp_promises.proofs.{shared.HistoryPlaces.line_on, shared.HistoryPlaces.of_own, shared.HistoryPlaces.own_in}
use Rattle.tsp_promises.proofs.promised.OwnFitsProof.{deed_fits, fits_at, fits_in, locate, own_fits, place_time, seen_in, tick_in}
use Rattle.tsp_run.specs.Clocked.{clocks_of, run_by}
use Rattle.tsp_run.proofs.{OwnClocks.possible_own, OwnClocks.runs_by_own_clocks, OwnClocks.set_own, RunFits.clocked_runs_fit}
use Rattle.tsp_progress.specs.{FollowOn.Calm, GivenUp.Owes}
use Rattle.tsp_progress.specs.NoDate.{ClockedRunsTakeNoDate, NoneDates, RunsTakeNoDate, undated_after}
use Rattle.tsp_progress.proofs.{ApartLemmas.one_life, FollowProof.owes_at, PassedRows.PassFits, PassedRows.TookDate, PassedRows.runs_passed}
use Rattle.tsp_progress.proofs.{SendYoung.open_here, SendYoung.send_is, SentRows.Again, TookPlaces.after_place, TookPlaces.took_line}

-- where an open send begins
record OpenFirst (p : PeerId) (seen : List Seen) (s : Sending) : Type 0 where
  pub first : Did
  pub older : List Seen
  pub opens : Opened is_numbered p first older seen
  pub message : opens.message ≡ s.message
  pub began : first.tick ≡ s.began

open_first : (p : PeerId) (seen : List Seen) (s : Sending) → open_send p seen ≡ Some s → OpenFirst p seen s
open_first p seen s e = by_open (open_to p seen) refl where
  none : None ≡ Some s → ⊥
  none e = cc

  message_in : Option Sending → MessageValue
  message_in None = s.message
  message_in (Some z) = z.message

  began_in : Option Sending → ℕ
  began_in None = s.began
  began_in (Some z) = z.began

  by_open : (o : List Seen) → open_to p seen ≡ o → OpenFirst p seen s
  by_open [] is = absurd (none (sym (ap (λ z. sending_at z (posts_of p seen)) is) ∙ e))
  by_open (k ∷ o) is =
      let h = open_here p seen k o is in
      let place : open_to p seen ≡ Here h.0 ∷ o = is ∙ ap (λ z. z ∷ o) h.1 in
      let op = opened p seen h.0 o place in
      let send = send_is p seen h.0 o op.message place op.begins.deed in
      record { first = h.0; older = o; opens = op; message = ap message_in (sym send ∙ e); began = ap began_in (sym send ∙ e) }

which_date : (k : Kind) → sets_date k ≡ true → ((k ≡ Date) ⊎ (k ≡ SetDate)) ⊎ ((k ≡ DateReq) ⊎ (k ≡ SetDateReq))
which_date Date e = inl (inl refl)
which_date SetDate e = inl (inr refl)
which_date DateReq e = inr (inl refl)
which_date SetDateReq e = inr (inr refl)
which_date _ e = absurd (true≢false (sym e))

message_is : (d : Datagram) (m : MessageValue) → Good (Message m) ≡ Good d → d ≡ Message m
message_is d m e = cc

module _ (setting : Setting) (world : List Line) (fits : Fits setting world) (passed : (n : ℕ) (q : Port) → Owes PassFits (view q (of n world)))
    (long : ℕ) (stays : ℕ → Bool) (s : List Line) (s-in : Within s world) (calm : Calm long stays s world) where
  -- what is taken after s was posted at most `long` before
  pub record Sent (l : Line) (older : List Line) (from : Place) (m : MessageValue) : Type 0 where
    pub post : Line
    pub before : List Line
    pub place : Within (post ∷ before) older
    pub deed : post.did.deed ≡ Acts (Post (Peer (peer_of (node_of l))) (Message m))
    pub soon : l.did.step.at ≤ post.did.step.at + long
    pub from_is : from ≡ Peer (peer_of (node_of post))

  sent_by : (l : Line) (older : List Line) → Within (l ∷ older) world → Within s older → (from : Place) (m : MessageValue) → (cause : Cause) →
      cause ≡ l.did.step.cause → TookFits cause setting l older from (Good (Message m)) → Sent l older from m
  sent_by l older place since from m Handed is f = absurd (calm.unhanded l older place since (sym is))
  sent_by l older place since from m (Came k) is f = record {
    post = f.post;
    before = f.older;
    place = f.place;
    from_is = f.from_is;
    deed = f.deed ∙ ap (λ d. Acts (Post (Peer (peer_of (node_of l))) d)) (message_is f.datagram m f.taken_is);
    soon = calm.soon l older place since f.post f.older (Peer (peer_of (node_of l))) f.datagram f.place f.deed (sym is ∙ ap Came (sym f.number));
  }
  sent_by l older place since from m _ is f = absurd f

  pub sent : (l : Line) (older : List Line) → Within (l ∷ older) world → Within s older → (from : Place) (m : MessageValue) →
      l.did.deed ≡ Acts (Took from (Good (Message m))) → Sent l older from m
  sent l older place since from m deed = sent_by l older place since from m l.did.step.cause refl
      ((fits_in setting l older world fits place).took from (Good (Message m)) deed)

  -- what its post owes
  post_owes : (p : Line) (o : List Line) (q : PeerId) (m : MessageValue) → Within (p ∷ o) world → p.did.deed ≡ Acts (Post (Peer q) (Message m)) →
      MessageFits (setup_of setting (node_of p) p.port) m.kind p.did (view p.port (of (node_of p) o)) q m
  post_owes p o q m place deed =
      let k : PostsFit (setup_of setting (node_of p) p.port) (Peer q) (Message m) p.did (view p.port (of (node_of p) o)) =
      deed_fits setting p o (Acts (Post (Peer q) (Message m))) deed (fits_in setting p o world fits place) in
      k.fits

  in_world : (l : Line) (older : List Line) → Within (l ∷ older) world → (p : Line) (o : List Line) → Within (p ∷ o) older → Within (p ∷ o) world
  in_world l older place p o w = Within_through (p ∷ o) older world w (Within_tail l older world place)

  -- clients are outside
  client-no : (l : Line) (older : List Line) → Within (l ∷ older) world → Within s older → (from : Place) (m : MessageValue) →
      l.did.deed ≡ Acts (Took from (Good (Message m))) → (m.kind ≡ Date) ⊎ (m.kind ≡ SetDate) → ⊥
  client-no l older place since from m deed kind =
      let k = sent l older place since from m deed in
      let owes = post_owes k.post k.before (peer_of (node_of l)) m (in_world l older place k.post k.before k.place) k.deed in
      elim kind [
        | inl e ↦ subst (λ z. MessageFits (setup_of setting (node_of k.post) k.post.port) z k.post.did (view k.post.port (of (node_of k.post) k.before))
            (peer_of (node_of l)) m) e owes
        | inr e ↦ subst (λ z. MessageFits (setup_of setting (node_of k.post) k.post.port) z k.post.did (view k.post.port (of (node_of k.post) k.before))
            (peer_of (node_of l)) m) e owes
      ]

  took-no : (p : Line) (o : List Line) (a : Act) → Within (p ∷ o) world → p.did.deed ≡ Acts a → time_of (dids s) < p.did.step.at →
      TookDate (view p.port (of (node_of p) o)) → ⊥
  took-no p o a place deed late k =
      let x = took_line setting p o a (record { from = k.from; taken = Good (Message k.message) }) (fits_at setting (p ∷ o) world fits place) deed k.took in
      let at = ap (λ (z : Step). z.at) x.step in
      let x-world = in_world p o place x.line x.before x.place in
      client-no x.line x.before x-world (after_place setting s world fits s-in x.line x.before x-world (omega (arith, at, late))) k.from k.message x.deed k.kind

  -- a date that is passed on again began to be so not long before
  pub record Older (p : Line) (o : List Line) (q : PeerId) (m : MessageValue) : Type 0 where
    pub first : Did
    pub before : List Line
    pub place : Within (line_on p.port first ∷ before) o
    pub node : first.step.node ≡ node_of p
    pub deed : first.deed ≡ Acts (Post (Peer q) (Message m))
    pub begins : acting (view p.port (of (node_of p) before)) ≡ true
    pub ticks : p.did.tick ≤ first.tick + LAST
    pub soon : p.did.step.at ≤ first.step.at + 4004007

  pub older_of : (p : Line) (o : List Line) (q : PeerId) (m : MessageValue) → Within (p ∷ o) world → Again q p.did (view p.port (of (node_of p) o)) m →
      Older p o q m
  older_of p o q m place a =
      let seen = view p.port (of (node_of p) o) in
      let x = open_first q seen a.sending a.open_is in
      let deed : x.first.deed ≡ Acts (Post (Peer q) (Message m)) = x.opens.begins.deed ∙ ap (λ z. Acts (Post (Peer q) (Message z))) (x.message ∙ a.message) in
      let lx = locate (node_of p) p.port o x.first x.older (rw deed refl) x.opens.place in
      let x-world = in_world p o place (line_on p.port x.first) lx.older lx.place in
      let tick_x = tick_in setting (node_of p) (line_on p.port x.first) lx.older world fits lx.node x-world in
      let tick_p = tick_in setting (node_of p) p o world fits refl place in
      let le = place_time setting (line_on p.port x.first ∷ lx.older) (p ∷ o) (fits_at setting (p ∷ o) world fits place) (inr lx.place) in
      let n = near setting (node_of p) x.first.step.at p.did.step.at le in
      let least = n.least in
      let began = x.began in
      let soon = a.soon in
      record {
        first = x.first;
        before = lx.older;
        place = lx.place;
        node = lx.node;
        deed = deed;
        begins = ap acting lx.before ∙ x.opens.begins.begins;
        ticks = omega (arith, began, soon);
        soon = omega (arith, least, tick_x, tick_p, began, soon);
      }

  pass_why : (p : Line) (o : List Line) (q : PeerId) (m : MessageValue) → Within (p ∷ o) world → p.did.deed ≡ Acts (Post (Peer q) (Message m)) →
      m.kind ≡ SetDateReq → TookDate (view p.port (of (node_of p) o)) ⊎ Again q p.did (view p.port (of (node_of p) o)) m
  pass_why p o q m place deed kind = (subst (λ d. PassFits d p.did (view p.port (of (node_of p) o))) deed
      (owes_at PassFits p.did (view p.port (of (node_of p) o)) (view p.port (of (node_of p) world)) (seen_in (node_of p) p o world refl place)
      (passed (node_of p) p.port))) (ap is_set_date_request kind)

  -- one that begins isn't open
  begins-no : (f : Line) (o : List Line) (q : PeerId) (m : MessageValue) → Within (f ∷ o) world → f.did.deed ≡ Acts (Post (Peer q) (Message m)) →
      m.kind ≡ SetDateReq → acting (view f.port (of (node_of f) o)) ≡ true → time_of (dids s) + 4004007 < f.did.step.at → ⊥
  begins-no f o q m place deed kind begins late = elim (pass_why f o q m place deed kind) [
    | inl k ↦ took-no f o (Post (Peer q) (Message m)) place deed (omega (arith, late)) k
    | inr a ↦
        let x = older_of f o q m place a in
        let x-world = in_world f o place (line_on f.port x.first) x.before x.place in
        let soon = x.soon in
        let x-since = after_place setting s world fits s-in (line_on f.port x.first) x.before x-world (omega (arith, soon, late)) in
        let one = one_life (node_of f) long stays s world calm (line_on f.port x.first ∷ x.before) o (inr x-since) x.place (Within_tail f o world place) in
        let own-is : of (node_of f) (line_on f.port x.first ∷ x.before) ≡ line_on f.port x.first ∷ of (node_of f) x.before =
        of_own (node_of f) (line_on f.port x.first) x.before x.node in
        let asked = asked_late setting f.port q m (line_on f.port x.first) (of (node_of f) x.before) (of (node_of f) o)
        (own_fits setting (node_of f) o (fits_at setting o world fits (Within_tail f o world place))) x.deed (ap is_set_date_request kind) x.begins
        (sees_own f.port (is_shared x.first.deed)) (own_in (node_of f) (line_on f.port x.first) x.before o x.node x.place)
        (subst (λ z. lives (dids z) ≡ lives (dids (of (node_of f) o))) own-is one) in
        let owes : DateRequestFits f.did (view f.port (of (node_of f) o)) q m = subst (λ z. MessageFits (setup_of setting (node_of f) f.port) z f.did
        (view f.port (of (node_of f) o)) q m) kind (post_owes f o q m place deed) in
        let seldom = (owes.begins begins).seldom asked.at asked.is in
        let by = asked.by in
        let ticks = x.ticks in
        omega (arith, seldom, by, ticks)
  ]

  pass-no : (p : Line) (o : List Line) (q : PeerId) (m : MessageValue) → Within (p ∷ o) world → p.did.deed ≡ Acts (Post (Peer q) (Message m)) →
      m.kind ≡ SetDateReq → time_of (dids s) + 8008014 < p.did.step.at → ⊥
  pass-no p o q m place deed kind late = elim (pass_why p o q m place deed kind) [
    | inl k ↦ took-no p o (Post (Peer q) (Message m)) place deed (omega (arith, late)) k
    | inr a ↦
        let x = older_of p o q m place a in
        let soon = x.soon in
        let begins : acting (view p.port (of x.first.step.node x.before)) ≡ true = ap (λ j. acting (view p.port (of j x.before))) x.node ∙ x.begins in
        begins-no (line_on p.port x.first) x.before q m (in_world p o place (line_on p.port x.first) x.before x.place) x.deed kind begins
        (omega (arith, soon, late))
  ]

  pub takes-no-date : (l : Line) (older : List Line) → Within (l ∷ older) world → Within s older → time_of (dids s) + undated_after long < l.did.step.at →
      (from : Place) (m : MessageValue) → l.did.deed ≡ Acts (Took from (Good (Message m))) → sets_date m.kind ≡ true → ⊥
  takes-no-date l older place since late from m deed sets = by_kind (which_date m.kind sets) where
    k : Sent l older from m
    k = sent l older place since from m deed

    k-world : Within (k.post ∷ k.before) world
    k-world = in_world l older place k.post k.before k.place

    by_kind : ((m.kind ≡ Date) ⊎ (m.kind ≡ SetDate)) ⊎ ((m.kind ≡ DateReq) ⊎ (m.kind ≡ SetDateReq)) → ⊥
    by_kind (inl e) = client-no l older place since from m deed e
    by_kind (inr (inl e)) = subst (λ z. MessageFits (setup_of setting (node_of k.post) k.post.port) z k.post.did
        (view k.post.port (of (node_of k.post) k.before)) (peer_of (node_of l)) m) e (post_owes k.post k.before (peer_of (node_of l)) m k-world k.deed)
    by_kind (inr (inr e)) = pass-no k.post k.before (peer_of (node_of l)) m k-world k.deed e (let soon = k.soon in omega (arith, soon, late))

  pub none_dates : NoneDates long s world
  none_dates c g since late l older place g-before node from m deed = by_case (sets_date m.kind) refl where
    s-before : Within s older
    s-before = Within_through s g older since g-before

    later : time_of (dids g) ≤ l.did.step.at
    later = place_time setting g (l ∷ older) (fits_at setting (l ∷ older) world fits place) (inr g-before)

    by_case : (b : Bool) → sets_date m.kind ≡ b → sets_date m.kind ≡ false
    by_case true e = absurd (takes-no-date l older place s-before (let le = later in omega (arith, le, late)) from m deed e)
    by_case false e = e

pub clocked_runs_take_no_date : ClockedRunsTakeNoDate
clocked_runs_take_no_date clocks header setting events long stays s set possible s-in calm =
    none_dates setting (run_by clocks header events) (clocked_runs_fit clocks header setting events set possible).0 (runs_passed clocks header events) long
    stays s
    s-in calm

pub runs_take_no_date : RunsTakeNoDate
runs_take_no_date header setting events long stays s set possible = subst (λ h. Within s h → Calm long stays s h → NoneDates long s h)
    (runs_by_own_clocks header events)
    (clocked_runs_take_no_date (clocks_of header) header setting events long stays s (set_own header setting set) (possible_own header events possible))
