-- The error of a reading whose datagrams took at most `long`.
use Rattle.std.proofs.Common.{sym, ap, arith, subst, subst₂, inl, inr, ◌∙◌, ◌≡◌, ◌≤◌, ◌≤ℤ◌, ℕ, ◌+◌, ◌-◌, ◌*◌, ◌/◌, ℤ, pos, ◌+ℤ◌, ◌-ℤ◌, List}
use Rattle.std.proofs.Common.{[], ◌∷◌, refl}
use Rattle.std.proofs.lemmas.Int.{ints}
use Rattle.tsp_rules.specs.Values.{Post, Sample, Datagram, Stamp, PeerId, Place, Peer, Port, Request, Reply}
use Rattle.tsp_base.specs.Words.{Acts, Came, Did, Here, Line, Sampled, Seen, Undisturbed, Within, all_corrects, boot_tick, dids, half_up, lives, moved}
use Rattle.tsp_base.specs.Words.{of, peer_of, plain, posted, target, view, wall}
use Rattle.tsp_base.proofs.{PlaceLemmas.Within_tail, PlaceLemmas.Within_through, Views.plain_view}
use Rattle.tsp_promises.specs.{Fits.Fits, Fits.node_of, MeasureFits.ReplyFits, MeasureFits.SampleFits, Premises.Honest, Premises.HonestAt}
use Rattle.tsp_promises.specs.{Premises.Life, Premises.TakenWithinAt, Setting.Setting, Since.OneLife, Since.Since}
use Rattle.tsp_promises.proofs.{shared.Clocks.tick_mono, shared.EverywhereLemmas.Everywhere_at, shared.EverywhereLemmas.Everywhere_within}
use Rattle.tsp_promises.proofs.{shared.HistoryPlaces.Within_of}
use Rattle.tsp_promises.proofs.{shared.HistoryPlaces.line_on, promised.KnownProof.Known, promised.KnownProof.known, promised.MeasuredProof.first_now}
use Rattle.tsp_promises.proofs.{promised.MeasuredProof.half_up_pos}
use Rattle.tsp_promises.proofs.{promised.MeasuredProof.sample_fits, shared.RoundPlaces.ExchangeAt, shared.RoundPlaces.best_at, shared.RoundPlaces.exchange_at}
use Rattle.tsp_promises.proofs.{shared.RoundPlaces.started_at}
use Rattle.tsp_promises.proofs.promised.OwnFitsProof.{Given, Located, deed_fits, fits_at, fits_in, given, locate, own_fits, place_time, tick_in}
use Rattle.tsp_promises.proofs.{shared.SendPlaces.post_unique, shared.SendPlaces.same_number, promised.SinceProof.since, promised.WordsProof.request_unique}
use Rattle.tsp_run.specs.Clocked.{clocks_of, run_by}
use Rattle.tsp_run.proofs.{OwnClocks.possible_own, OwnClocks.runs_by_own_clocks, OwnClocks.set_own, RunFits.clocked_runs_fit}
use Rattle.tsp_progress.specs.{ErrSoon.ClockedRunsErrSoon, ErrSoon.ErrsSoon, ErrSoon.RunsErrSoon, ErrSoon.soon_err, FollowOn.AfterPlace}

-- two targets of a clock that was left alone between
apart : (wt wl mt ml : ℤ) (bt bl tt tl : ℕ) → wt ≡ wl → bt ≡ bl → mt ≡ ml → tt ≤ tl → (((wl -ℤ pos bl) +ℤ ml) +ℤ pos tl) -ℤ (((wt -ℤ pos bt) +ℤ mt) +ℤ pos tt) ≡
    pos (tl - tt)
apart wt wl mt ml bt bl tt tl e f g h = omega (arith, ints)

halved : (err : ℤ) (request sampled two : ℕ) → err ≡ pos ((sampled - request + 1) / 2) → sampled ≤ request + two → err ≤ℤ pos ((two + 1) / 2)
halved err request sampled two e le =
    let half : (sampled - request + 1) / 2 ≤ (two + 1) / 2 = omega (arith, le) in
    omega (arith, ints, half, e)

module _ (setting : Setting) (world : List Line) (whole : Given setting world) (long : ℕ) (s : List Line)
    (soon : AfterPlace s world (λ l older. TakenWithinAt long l older)) where
  -- a Sample at this line, whose reply was posted after the place s
  module _ (l : Line) (lo : List Line) (place : Within (l ∷ lo) world) (p : PeerId) (counter number : ℕ) (diff err : ℤ)
      (is : l.did.deed ≡ Acts (Sample p counter diff err number)) (r : Line) (older : List Line) (to : Place) (datagram : Datagram)
      (reads : Within (r ∷ older) lo) (takes : l.did.step.cause ≡ Came (posted (dids older))) (deed : r.did.deed ≡ Acts (Post to datagram))
      (since-s : Within s older) where
    abbrev N : ℕ
    N = node_of l

    abbrev Seen-l : List Seen
    Seen-l = view l.port (of N lo)

    fits : Fits setting (l ∷ lo)
    fits = fits_at setting (l ∷ lo) world whole.fits place

    honest : Honest (l ∷ lo)
    honest = Everywhere_within HonestAt (l ∷ lo) world whole.honest place

    life : Life (l ∷ lo)
    life = Everywhere_within _ (l ∷ lo) world whole.life place

    sf : SampleFits l.did Seen-l p counter diff err number
    sf = sample_fits setting l lo p counter number diff err fits.0 is

    lo-in : Within lo world
    lo-in = Within_tail l lo world place

    -- the reply
    reply : Known setting l l.port lo p (Stamp (Reply sf.reply))
    reply = known setting l lo (Sample p counter diff err number) p (Stamp (Reply sf.reply)) fits honest is sf.took

    same-reply : reply.post ∷ reply.older ≡ r ∷ older
    same-reply = post_unique lo reply.post r reply.older older (Peer (peer_of N)) to (Stamp (Reply sf.reply)) datagram reply.place reads reply.deed deed
        (same_number (posted (dids reply.older)) (posted (dids older)) (sym reply.takes ∙ takes))

    reply-in : Within (reply.post ∷ reply.older) world
    reply-in = Within_through (reply.post ∷ reply.older) lo world reply.place lo-in

    rest_of : List Line → List Line
    rest_of [] = []
    rest_of (k ∷ z) = z

    reply-since : Within s reply.older
    unfolding rest_of
    reply-since = subst (λ z. Within s (rest_of z)) (sym same-reply) since-s

    lo-since : Within s lo
    lo-since = Within_through s reply.older lo reply-since (Within_tail reply.post reply.older lo reply.place)

    reply-soon : l.did.step.at ≤ reply.post.did.step.at + long
    reply-soon = soon l lo place lo-since reply.post reply.older (Peer (peer_of N)) (Stamp (Reply sf.reply)) reply.place reply.deed reply.takes

    fr : Fits setting (reply.post ∷ reply.older)
    fr = fits_at setting (reply.post ∷ reply.older) world whole.fits reply-in

    answers : ReplyFits reply.post.did (view reply.post.port (of (node_of reply.post) reply.older)) (Peer (peer_of N)) sf.reply
    answers = (deed_fits setting reply.post reply.older (Acts (Post (Peer (peer_of N)) (Stamp (Reply sf.reply)))) reply.deed fr.0).fits

    -- and the request that it answers
    request : Known setting reply.post reply.post.port reply.older (peer_of N) (Stamp (Request sf.reply.word sf.reply.counter))
    request = known setting reply.post reply.older (Post (Peer (peer_of N)) (Stamp (Reply sf.reply))) (peer_of N)
        (Stamp (Request sf.reply.word sf.reply.counter)) fr
        (Everywhere_within HonestAt (reply.post ∷ reply.older) world whole.honest reply-in) reply.deed answers.took

    request-soon : reply.post.did.step.at ≤ request.post.did.step.at + long
    request-soon = soon reply.post reply.older reply-in reply-since request.post request.older (Peer (peer_of (node_of reply.post)))
        (Stamp (Request sf.reply.word sf.reply.counter)) request.place request.deed request.takes

    request-node : node_of request.post ≡ N
    request-node = ap (λ (z : PeerId). z.0) request.node

    request-port : request.post.port ≡ l.port
    request-port = setting.apart N request.post.port l.port (subst (λ k. setting.net k request.post.port ≡ setting.net N l.port) request-node
        (◌∙◌ {a = setting.net (node_of request.post) request.post.port} request.net reply.net))

    request-lo : Within (request.post ∷ request.older) lo
    request-lo = Within_through (request.post ∷ request.older) (reply.post ∷ reply.older) lo (inr request.place) reply.place

    -- it is the one that the sample's exchange began with
    abbrev Q : Port
    Q = l.port

    opened : ExchangeAt p counter sf.post sf.older Seen-l
    opened = exchange_at p counter Seen-l sf.post sf.older sf.exchange_is

    at : Located N Q lo sf.post sf.older
    at = locate N Q lo sf.post sf.older (rw opened.deed refl) opened.place

    abbrev T : Line
    T = line_on Q sf.post

    start-in : Within (Here sf.start ∷ sf.idle) (view Q (of N at.older))
    start-in = subst (λ x. Within (Here sf.start ∷ sf.idle) x) (sym at.before) (opened.after sf.start sf.idle sf.start_is)

    begun : Located N Q at.older sf.start sf.idle
    begun = locate N Q at.older sf.start sf.idle (rw (started_at Seen-l sf.start sf.idle sf.start_is).deed refl) start-in

    fl : Fits setting lo
    fl = fits.1

    older-in : Within at.older lo
    older-in = Within_tail T at.older lo at.place

    ft : Fits setting (T ∷ at.older)
    ft = fits_at setting (T ∷ at.older) lo fl at.place

    first : Undisturbed (dids (of N begun.older)) (dids (of N lo))
    first = first_now Q (of N lo) (of N begun.older) sf.idle begun.before sf.undisturbed

    one : Since (dids (of N begun.older)) (dids (of N at.older))
    one = since setting (of N begun.older) (of N at.older) (own_fits setting N at.older ft.1)
        (Within_of N begun.older at.older (Within_tail (line_on Q sf.start) begun.older at.older begun.place))

    two : Since (dids (of N at.older)) (dids (of N lo))
    two = since setting (of N at.older) (of N lo) (own_fits setting N lo fl) (Within_of N at.older lo older-in)

    kept : lives (dids (of N at.older)) ≡ lives (dids (of N lo))
    kept = let a = one.lives in let b = two.lives in let c = first.lives in omega (arith, a, b, c)

    same_life : OneLife (dids (of N at.older)) (dids (of N lo))
    same_life = elim two.life [
      | inl o ↦ o
      | inr o ↦ absurd (let less = o.lives in let k = kept in omega (arith, less, k))
    ]

    all : all_corrects (dids (of N at.older)) ≡ all_corrects (dids (of N lo))
    all = let a = one.all in let b = two.all in let c = first.corrects in omega (arith, a, b, c)

    near-life : l.did.step.at ≤ request.post.did.step.at + 60000000
    near-life =
        let to_r = life.0 reply.post reply.older (Peer (peer_of N)) (Stamp (Reply sf.reply)) reply.place reply.deed reply.takes in
        let to_q = Everywhere_at _ reply.post reply.older world whole.life reply-in request.post request.older (Peer (peer_of (node_of reply.post)))
        (Stamp (Request sf.reply.word sf.reply.counter)) request.place request.deed request.takes in
        omega (arith, to_r, to_q)

    same-request : request.post ∷ request.older ≡ T ∷ at.older
    same-request =
        let order = place_time setting (T ∷ at.older) lo fl at.place in
        let now = fits.0.order in
        let late = near-life in
        request_unique setting N request.post T request.older at.older lo (peer_of (node_of reply.post)) p sf.reply.word sf.reply.counter opened.word counter fl
        request-lo at.place (record { node = request-node; deed = request.deed }) (record { node = at.node; deed = opened.deed }) request-port
        (inl (omega (arith, order, now, late))) kept sf.counter_is

    first_of : List Line → Line
    first_of [] = T
    first_of (k ∷ z) = k

    request-time : sf.post.step.at ≡ request.post.did.step.at
    unfolding first_of
    request-time = ap (λ (z : List Line). (first_of z).did.step.at) (sym same-request)

    -- so the error is half of the time between
    request-tick : sf.post.tick ≡ setting.tick N sf.post.step.at
    request-tick = tick_in setting N T at.older lo fl at.node at.place

    sample-tick : l.did.tick ≡ setting.tick N l.did.step.at
    sample-tick = tick_in setting N l lo world whole.fits refl place

    between : l.did.step.at ≤ sf.post.step.at + 2 * long
    between = let a = reply-soon in let b = request-soon in let c = request-time in omega (arith, a, b, c)

    ordered : sf.post.step.at ≤ l.did.step.at
    ordered = let order = place_time setting (T ∷ at.older) lo fl at.place in let now = fits.0.order in omega (arith, order, now)

    ticks : l.did.tick ≤ sf.post.tick + (2 * long + (setting.drift * (2 * long) + 999999) / 1000000)
    ticks =
        let mono = tick_mono setting N l.did.step.at (sf.post.step.at + 2 * long) between in
        let fast = (setting.ticks N).fast sf.post.step.at (2 * long) in
        let a = request-tick in
        let b = sample-tick in
        omega (arith, mono, fast, a, b)

    rises : sf.post.tick ≤ l.did.tick
    rises =
        let mono = tick_mono setting N sf.post.step.at l.did.step.at ordered in
        let a = request-tick in
        let b = sample-tick in
        omega (arith, mono, a, b)

    err-is : err ≡ pos ((l.did.tick - sf.post.tick + 1) / 2)
    err-is =
        let older-is : plain sf.older ≡ dids (of N at.older) = ap plain (sym at.before) ∙ plain_view Q (of N at.older) in
        let now-is : plain Seen-l ≡ dids (of N lo) = plain_view Q (of N lo) in
        let life = same_life in
        let gap : target (dids (of N lo)) l.did.tick -ℤ target (dids (of N at.older)) sf.post.tick ≡ pos (l.did.tick - sf.post.tick) =
        apart (wall (dids (of N at.older))) (wall (dids (of N lo))) (moved (dids (of N at.older))) (moved (dids (of N lo)))
        (boot_tick (dids (of N at.older))) (boot_tick (dids (of N lo))) sf.post.tick l.did.tick life.wall life.boot (life.still all) rises in
        let half : err ≡ half_up (target (dids (of N lo)) l.did.tick -ℤ target (dids (of N at.older)) sf.post.tick) =
        subst₂ (λ x y. err ≡ half_up (target y l.did.tick -ℤ target x sf.post.tick)) older-is now-is sf.err_is in
        half ∙ (ap half_up gap ∙ half_up_pos (l.did.tick - sf.post.tick))

    pub sample_soon : err ≤ℤ pos (soon_err setting long)
    sample_soon = halved err sf.post.tick l.did.tick (2 * long + (setting.drift * (2 * long) + 999999) / 1000000) err-is ticks

  pub errs_soon : ErrsSoon setting long s world
  errs_soon m close cpast c past r older err place x since-s =
      let q = x.post.port in
      let k = peer_of (node_of c) in
      let seen = view q (of m cpast) in
      let past-in : Within past world = Within_tail c past world place in
      let cpast-in : Within cpast world = Within_through cpast past world (Within_tail close cpast past x.closes) past-in in
      let b = best_at k seen x.sample x.best_is in
      let lb = locate m q cpast b.did b.rest (rw b.deed refl) b.place in
      let line = line_on q b.did in
      let line-in : Within (line ∷ lb.older) world = Within_through (line ∷ lb.older) cpast world lb.place cpast-in in
      let rd = x.reading in
      let same : Here b.did ∷ b.rest ≡ Here rd.line.did ∷ view q (of m rd.before) = sym b.is ∙ rd.is in
      let did-is : rd.line.did ≡ b.did = cc in
      let takes : line.did.step.cause ≡ Came (posted (dids older)) = ap (λ (z : Did). z.step.cause) (sym did-is) ∙ rd.takes in
      let read : Known setting line q lb.older k (Stamp (Reply (sampled line lb.older line-in k x.sample b.deed).reply)) =
      known setting line lb.older (Sample k x.sample.counter x.sample.diff x.sample.err x.sample.ticket) k
      (Stamp (Reply (sampled line lb.older line-in k x.sample b.deed).reply)) (fits_at setting (line ∷ lb.older) world whole.fits line-in)
      (Everywhere_within HonestAt (line ∷ lb.older) world whole.honest line-in) b.deed (sampled line lb.older line-in k x.sample b.deed).took in
      let r-in : Within (r ∷ older) world = Within_through (r ∷ older) past world (Within_through (r ∷ older) rd.before past rd.reads
      (Within_tail rd.line rd.before past rd.at)) past-in in
      let read-in : Within (read.post ∷ read.older) world = Within_through (read.post ∷ read.older) lb.older world read.place
      (Within_tail line lb.older world line-in) in
      let same_read : read.post ∷ read.older ≡ r ∷ older = post_unique world read.post r read.older older (Peer (peer_of (node_of line))) rd.to
      (Stamp (Reply (sampled line lb.older line-in k x.sample b.deed).reply)) rd.datagram read-in r-in read.deed rd.deed
      (same_number (posted (dids read.older)) (posted (dids older)) (sym read.takes ∙ takes)) in
      let reads : Within (r ∷ older) lb.older = subst (λ z. Within z lb.older) same_read read.place in
      subst (λ e. e ≤ℤ pos (soon_err setting long)) x.err_is
      (sample_soon line lb.older line-in k x.sample.counter x.sample.ticket x.sample.diff x.sample.err b.deed r older rd.to rd.datagram reads takes rd.deed
      since-s)
    where
      sampled : (line : Line) (lo : List Line) → Within (line ∷ lo) world → (k : PeerId) (z : Sampled) → line.did.deed ≡
          Acts (Sample k z.counter z.diff z.err z.ticket) → SampleFits line.did (view line.port (of (node_of line) lo)) k z.counter z.diff z.err z.ticket
      sampled line lo w k z is = sample_fits setting line lo k z.counter z.ticket z.diff z.err (fits_in setting line lo world whole.fits w) is

pub clocked_runs_err_soon : ClockedRunsErrSoon
clocked_runs_err_soon clocks header setting events long s set possible honest life soon =
    errs_soon setting (run_by clocks header events)
    (given setting (run_by clocks header events) (clocked_runs_fit clocks header setting events set possible).0 honest life) long s soon

pub runs_err_soon : RunsErrSoon
runs_err_soon header setting events long s set possible = subst (λ h. Honest h → Life h → AfterPlace s h (λ l older. TakenWithinAt long l older) →
    ErrsSoon setting long s h) (runs_by_own_clocks header events)
    (clocked_runs_err_soon (clocks_of header) header setting events long s (set_own header setting set) (possible_own header events possible))
