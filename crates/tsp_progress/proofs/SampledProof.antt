-- Each peer that is measured has a sample when its round closes.
use Rattle.std.proofs.Common.{sym, ap, subst, arith, true≢false, inl, inr, ◌∙◌, ◌≡◌, ◌<◌, ◌⊎◌, ◌||◌, ℕ, ℤ, ◌+◌, ◌*◌, ◌==◌, Bool, true, false, List, [], ◌∷◌}
use Rattle.std.proofs.Common.{Option, Some, None, is_some, eq-eqb, refl}
use Rattle.std.proofs.lemmas.Bool.{cases_lt}
use Rattle.tsp_rules.specs.Values.{Act, Boot, Post, Arm, Ring, Close, CloseAlarm, Stamp, Request, Reply, PeerId, Peer, Port, Master}
use Rattle.tsp_rules.specs.{Guards.is_heard, Guards.is_in_range, Guards.is_own, Guards.is_starting_role, RoundRows.request_at}
use Rattle.tsp_base.specs.Words.{Acts, Begins, Deed, Did, HeaderValue, Here, Line, Past, ReplyValue, Sampled, Seen, Step, Within, best, dids}
use Rattle.tsp_base.specs.Words.{estimate, estimate_of, exchange, is_among, is_shared, is_starting, line_of, of, plain, request_at_place}
use Rattle.tsp_base.specs.Words.{role, seen_as, started, started_after, target_there, view, word}
use Rattle.tsp_base.specs.RoundFacts.{is_starting_after}
use Rattle.tsp_base.proofs.{PlaceLemmas.Within_tail, PlaceLemmas.Within_through}
use Rattle.tsp_promises.specs.{Fits.Fits, Fits.SameStep, Fits.node_of, OwnFits.OwnFits, RoundFits.CloseFits}
use Rattle.tsp_promises.specs.{MeasureFits.RequestFits, Setting.Setting, Setting.setup_of}
use Rattle.tsp_promises.proofs.{shared.Clocks.tick_mono, shared.HistoryPlaces.line_on, shared.HistoryPlaces.own_in, promised.KnownProof.InStep}
use Rattle.tsp_promises.proofs.{promised.KnownProof.in_step_holds, promised.KnownProof.line_is}
use Rattle.tsp_promises.proofs.promised.OwnFitsProof.{deed_fits, fits_at, fits_in, locate, own_fits, own_fits_at, port_fits, seen_before, seen_in, tick_in}
use Rattle.tsp_promises.proofs.{leads.Leaves.nil_cons, promised.OwnFitsProof.Located, shared.RoundPlaces.started_at}
use Rattle.tsp_run.specs.{Clocked.Clocks, Clocked.SetByClocks, Clocked.clocks_of, Clocked.run_by}
use Rattle.tsp_run.proofs.{OwnClocks.possible_own, OwnClocks.runs_by_own_clocks, OwnClocks.set_own, RunFits.clocked_runs_fit}
use Rattle.tsp_progress.specs.AnswersInTime.{AnswerTaken, Asks, Meanwhile}
use Rattle.tsp_progress.specs.{ByTable.ByTable, ByTable.node_in, ByTable.port_before, Delivered.Delivered}
use Rattle.tsp_progress.specs.SampledInTime.{ClockedRunsSample, ClosesSince, IsSwift, Measured, RunsSample, SampledInTime}
use Rattle.tsp_progress.proofs.{AnswersProof.answer_peer, AnswersProof.answers_in_time, MeasuresProof.all_measure, TableProof.clocked_runs_by_table}
use Rattle.tsp_progress.specs.{Heeds.DoesNext, Heeds.role_before, Measures.sample_by}
use Rattle.tsp_progress.proofs.TimePlaces.{before_time}
use Rattle.tsp_progress.proofs.WorldPlaces.{WorldPlace, act_place, own_place, world_place}
use Rattle.tsp_progress.proofs.RoundKept.{AskedAt, Going, Open, asked_at, back, persists, proper_view, walk}

-- the last round's beginning is of this step, if the step has begun one
pub step_of_start : (setting : Setting) (q : Port) (t : List Line) → OwnFits setting t → is_starting (view q t) ≡ true → (b : Did) (i : List Seen) →
    started (view q t) ≡ Here b ∷ i → (s : Step) → InStep t s → b.step ≡ s
step_of_start setting q [] f e b i st s ins = absurd (true≢false (sym e))
step_of_start setting q (l ∷ t) f e b i st s ins = by_flag ((l.port.0 == q.0) || is_shared l.did.deed) refl e st
    (λ e st same. step_of_start setting q t f.1 e b i st l.did.step same) where
      goes : (a : Act) → l.did.deed ≡ Acts a → is_starting (view q t) ≡ true → started (view q t) ≡ Here b ∷ i →
          (is_starting (view q t) ≡ true → started (view q t) ≡ Here b ∷ i → InStep t l.did.step → b.step ≡ l.did.step) → b.step ≡ s
      goes a is e st k = k e st (in_step_holds a l.did.step t (subst (λ d. SameStep d l.did.step (dids t)) is f.0.step)) ∙ ins

      here : (deed : Deed) → l.did.deed ≡ deed → is_starting_after deed (is_starting (view q t)) ≡ true →
          started_after deed (Here l.did ∷ view q t) (started (view q t)) ≡ Here b ∷ i →
          (is_starting (view q t) ≡ true → started (view q t) ≡ Here b ∷ i → InStep t l.did.step → b.step ≡ l.did.step) → b.step ≡ s
      here Begins is e st k = absurd (true≢false (sym e))
      here (Acts Boot) is e st k = nil_cons (Here b) i st
      here (Acts (Arm CloseAlarm at)) is e st k = let same : l.did ≡ b = cc in ap (λ (d : Did). d.step) (sym same) ∙ ins
      here (Acts a) is e st k = goes a is e st k

      there : (deed : Deed) → l.did.deed ≡ deed → is_shared deed ≡ false → is_starting (view q t) ≡ true → started (view q t) ≡ Here b ∷ i →
          (is_starting (view q t) ≡ true → started (view q t) ≡ Here b ∷ i → InStep t l.did.step → b.step ≡ l.did.step) → b.step ≡ s
      there Begins is own e st k = absurd (true≢false own)
      there (Acts a) is own e st k = goes a is e st k

      apart : (x y : Bool) → (x || y) ≡ false → y ≡ false
      apart true y e = absurd (true≢false e)
      apart false y e = e

      by_flag : (flag : Bool) → ((l.port.0 == q.0) || is_shared l.did.deed) ≡ flag → is_starting (seen_as flag l.did ∷ view q t) ≡ true →
          started (seen_as flag l.did ∷ view q t) ≡ Here b ∷ i →
          (is_starting (view q t) ≡ true → started (view q t) ≡ Here b ∷ i → InStep t l.did.step → b.step ≡ l.did.step) → b.step ≡ s
      by_flag true is e st k = here l.did.deed refl e st k
      by_flag false is e st k = there l.did.deed refl (apart (l.port.0 == q.0) (is_shared l.did.deed) is) e st k

module _ {clocks : Clocks} {header : HeaderValue} {setting : Setting} (set : SetByClocks clocks header setting) (world : List Line)
    (table : ByTable header world) (fits : Fits setting world) (long t : ℕ) (stays : ℕ → Bool) (s : List Line)
    (delivered : Delivered setting long t stays s world) (swift : IsSwift setting long) where
  module _ (c : Line) (older : List Line) (r : ClosesSince s c older world) (p : PeerId) (m : Measured setting t stays c older p)
      (range : Meanwhile header setting long r.begin r.before world p is_in_range) where
    abbrev N : ℕ
    N = node_of c

    abbrev Q : Port
    Q = c.port

    abbrev Whole : List Seen
    Whole = view Q (of N older)

    older-in : Within older world
    older-in = Within_tail c older world r.place

    older-fits : Fits setting older
    older-fits = fits_at setting older world fits older-in

    close : CloseFits c.did Whole
    close = deed_fits setting c older (Acts (Close r.count r.lo r.size r.mean)) r.deed (fits_in setting c older world fits r.place)

    start-is : Here close.start ∷ close.idle ≡ Here r.begin.did ∷ view Q (of N r.before)
    start-is = sym close.start_is ∙ r.started_is

    asked : AskedAt p Whole
    asked = asked_at p Whole m.measured

    unshared : is_shared asked.post.deed ≡ false
    unshared = rw asked.deed refl

    request : Located N Q older asked.post asked.rest
    request = locate N Q older asked.post asked.rest unshared asked.place

    -- the line at which it is asked, and the port's past then
    abbrev L : Line
    L = line_on Q asked.post

    abbrev Rest : List Seen
    Rest = view Q (of N request.older)

    rest-started : started Rest ≡ Here r.begin.did ∷ view Q (of N r.before)
    rest-started = ap started request.before ∙ asked.same ∙ r.started_is

    own-fits : OwnFits setting (L ∷ of N request.older)
    own-fits = own_fits_at setting (L ∷ of N request.older) (of N older) (own_fits setting N older older-fits)
        (own_in N L request.older older request.node request.place)

    step-is : r.begin.did.step ≡ asked.post.step
    step-is = step_of_start setting Q (of N request.older) own-fits.1 (ap is_starting request.before ∙ asked.starts) r.begin.did (view Q (of N r.before))
        rest-started asked.post.step
        (in_step_holds (Post (Peer p) (Stamp (Request asked.word asked.counter))) asked.post.step (of N request.older)
        (subst (λ d. SameStep d asked.post.step (dids (of N request.older))) asked.deed own-fits.0.step))

    begin-line : line_on Q r.begin.did ≡ r.begin
    begin-line = line_is r.begin Q r.port

    begin-in : Within (line_on Q r.begin.did ∷ r.before) older
    begin-in = subst (λ k. Within (k ∷ r.before) older) (sym begin-line) r.began

    start-in : Within (Here r.begin.did ∷ view Q (of N r.before)) Rest
    start-in = (started_at Rest r.begin.did (view Q (of N r.before)) rest-started).place

    begin-before : Within (r.begin ∷ r.before) request.older
    begin-before = subst (λ k. Within (k ∷ r.before) request.older) begin-line
        (seen_before N Q r.begin.did asked.post r.before request.older older r.node request.node begin-in request.place start-in)

    request_in : Within (L ∷ request.older) world
    request_in = Within_through (L ∷ request.older) older world request.place older-in

    -- the close comes more than twice `long` after the request
    apart : L.did.step.at + 2 * long < c.did.step.at
    apart = elim (cases_lt (L.did.step.at + 2 * long) c.did.step.at) [
      | inl less ↦ less
      | inr none ↦
          let over = close.over in
          let start : close.start ≡ r.begin.did = (let k = start-is in cc) in
          let begun : close.start.tick ≡ setting.tick N r.begin.did.step.at = ap (λ (d : Did). d.tick) start ∙
          tick_in setting N r.begin r.before older older-fits r.node r.began in
          let same : r.begin.did.step.at ≡ L.did.step.at = ap (λ (k : Step). k.at) step-is in
          let begun_at : setting.tick N r.begin.did.step.at ≡ setting.tick N L.did.step.at = ap (setting.tick N) same in
          let closed = tick_in setting N c older world fits refl r.place in
          let mono = tick_mono setting N c.did.step.at (L.did.step.at + 2 * long) (omega (arith, none)) in
          let fast = (setting.ticks N).fast L.did.step.at (2 * long) in
          absurd (omega (arith, over, begun, begun_at, closed, mono, fast, swift))
    ]

    asks : Asks setting long t stays s L request.older world p (Stamp (Request asked.word asked.counter))
    asks = record {
      posts = record {
        place = request_in;
        deed = asked.deed;
        member = subst (λ n. is_among p (setting.members (setting.net n Q)) ≡ true) (sym request.node) m.member;
        other = subst (λ n. (p.0 == n) ≡ false) (sym request.node) m.other;
      };
      since = Within_through s r.before request.older r.since (Within_tail r.begin r.before request.older begin-before);
      there = m.there;
      here = subst (λ n. stays n ≡ true) (sym request.node) m.here;
      early = (let a = apart in let told = m.told in omega (arith, a, told));
    }

    meanwhile : Meanwhile header setting long L request.older world p is_in_range
    meanwhile line before place later node net soon =
        range line before place (Within_through (r.begin ∷ r.before) (L ∷ request.older) before (inr begin-before) later) node
        (net ∙ (ap (λ n. setting.net n Q) (request.node ∙ sym r.node) ∙ ap (setting.net (node_of r.begin)) (sym r.port)))
        (let same = ap (λ (k : Step). k.at) step-is in omega (arith, same, soon))

    -- a line before the close's time stands before the close
    before-close : (k : Line) (w : List Line) → Within (k ∷ w) world → k.did.step.at < c.did.step.at → Within (k ∷ w) older
    before-close k w place less = before_time setting world fits k w c older place r.place less

    -- the reply that is taken
    module _ (reply : ReplyValue) (word-is : reply.word ≡ asked.word) (counter-is : reply.counter ≡ asked.counter)
        (taken : AnswerTaken long L request.older world p (Stamp (Reply reply))) where
      abbrev Later : List Seen
      Later = view Q (of N taken.before)

      taken-node : node_of taken.line ≡ N
      taken-node = taken.node ∙ request.node

      taken-less : taken.line.did.step.at < c.did.step.at
      taken-less = let soon = taken.soon in let far = apart in omega (arith, soon, far)

      taken-older : Within (taken.line ∷ taken.before) older
      taken-older = before-close taken.line taken.before taken.place taken-less

      taken-line : line_on Q taken.line.did ≡ taken.line
      taken-line = line_is taken.line Q taken.port

      -- what a port of the node sees there
      taken-seen : Within (Here taken.line.did ∷ Later) Whole
      taken-seen = seen_in N (line_on Q taken.line.did) taken.before older taken-node
          (subst (λ k. Within (k ∷ taken.before) older) (sym taken-line) taken-older)

      -- what isn't the Ring of the close stands before it
      behind-ring : (d : Did) (w : List Seen) → (d.deed ≡ Acts (Ring CloseAlarm) → ⊥) → Within (Here d ∷ w) Whole → Within (Here d ∷ w) close.past
      behind-ring d w other v = elim (subst (λ k. Within (Here d ∷ w) k) close.is v) [
        | inl e ↦ absurd (let same : d ≡ close.ring = cc in other (ap (λ (k : Did). k.deed) same ∙ close.rings))
        | inr k ↦ k
      ]

      took-past : Within (Here taken.line.did ∷ Later) close.past
      took-past = behind-ring taken.line.did Later (λ e. let k = sym taken.took ∙ e in cc) taken-seen

      later-past : Within Later close.past
      later-past = Within_tail (Here taken.line.did) Later close.past took-past

      request-later : Within (Here asked.post ∷ Rest) Later
      request-later = seen_in N L request.older taken.before request.node taken.later

      going : Going r.begin.did (view Q (of N r.before)) Master close.past
      going = record {
        going = close.going;
        started_is = (let same : started close.past ≡ started Whole = sym (ap started close.is ∙ rw close.rings refl) in same ∙ r.started_is);
        role_is = (let same : role close.past ≡ role Whole = sym (ap role close.is ∙ rw close.rings refl) in same ∙ close.leads);
      }

      start-later : Within (Here r.begin.did ∷ view Q (of N r.before)) Later
      start-later = Within_through (Here r.begin.did ∷ view Q (of N r.before)) (Here asked.post ∷ Rest) Later (inr start-in) request-later

      going-later : Going r.begin.did (view Q (of N r.before)) Master Later
      going-later = back r.begin.did (view Q (of N r.before)) Master Later close.past later-past start-later going

      request-word : asked.word ≡ word (plain Rest)
      request-word =
          let fit : RequestFits (view Q (of (node_of L) request.older)) asked.word asked.counter =
          (deed_fits setting L request.older (Acts (Post (Peer p) (Stamp (Request asked.word asked.counter)))) asked.deed
          (fits_in setting L request.older world fits request_in)).fits in
          fit.word_is ∙ ap (λ n. word (plain (view Q (of n request.older)))) request.node

      had : (is_some (best p Later) ≡ true)
          ⊎ Open r.begin.did (view Q (of N r.before)) p asked.post Rest asked.word asked.counter asked.deed request-word start-in Later
      had = walk r.begin.did (view Q (of N r.before)) p asked.post Rest asked.word asked.counter asked.deed request-word start-in (setup_of setting N Q) Master
          Later request-later (port_fits setting N taken.before (fits_at setting taken.before world fits
          (Within_tail taken.line taken.before world taken.place)) Q) (proper_view Q (of N taken.before)) going-later

      persisted : (w : List Seen) → Within w close.past → Within (Here r.begin.did ∷ view Q (of N r.before)) w → is_some (best p w) ≡ true →
          is_some (best p close.past) ≡ true
      persisted w v inside h = persists r.begin.did (view Q (of N r.before)) p Master w close.past v inside going h

      own-place : Within (taken.line ∷ of N taken.before) (of N world)
      own-place = own_place N taken.line taken.before world taken-node taken.place

      abbrev There : Past
      There = port_before (node_in header N) taken.line (of N taken.before)

      leads : role_before (node_in header N) taken.line (of N taken.before) ≡ Master
      leads = ap (λ q. role (view q (of N taken.before))) taken.port ∙ going-later.role_is

      heard : (is_heard p taken.line.did.tick There ≡ true) × (is_own (Peer p) taken.line.did.tick There ≡ false)
      heard = subst (λ n. (is_heard p taken.line.did.tick (port_before (node_in header n) taken.line (of n taken.before)) ≡ true)
          × (is_own (Peer p) taken.line.did.tick (port_before (node_in header n) taken.line (of n taken.before)) ≡ false)) request.node
          (answer_peer set world table long t stays s delivered L request.older p (Stamp (Request asked.word asked.counter)) asks (Stamp (Reply reply)) taken
          (subst (λ n. is_starting_role (role_before (node_in header n) taken.line (of n taken.before)) ≡ false) (sym request.node)
          (ap is_starting_role leads)))

      -- the open request gives a sample
      module _ (o : Open r.begin.did (view Q (of N r.before)) p asked.post Rest asked.word asked.counter asked.deed request-word start-in Later) where
        abbrev Target : ℤ
        Target = target_there (o.first ∷ o.older)

        open-is : request_at p reply.counter taken.line.did.tick There ≡ Some (record { word = reply.word; target = Target })
        open-is =
            ap (λ q. request_at_place (exchange p reply.counter (view q (of N taken.before)))) taken.port ∙
            (ap (λ k. request_at_place (exchange p k Later)) counter-is ∙ (ap request_at_place o.is ∙
            ap (λ w. Some (record { word = w; target = Target })) (o.asked_is ∙ sym word-is)))

        abbrev Sampling : Act
        Sampling = sample_by p reply Target taken.line.did.tick There

        next : DoesNext (Sampling ∷ []) taken.line (of N taken.before) (of N world)
        next = (all_measure header world table N).samples taken.line (of N taken.before) p reply Target own-place taken.took heard.0 heard.1 leads open-is

        abbrev Sampled-line : Line
        Sampled-line = line_of taken.line.did.step taken.line.did.tick taken.line.port (Acts Sampling)

        sample-place : WorldPlace N Sampled-line (taken.line ∷ of N taken.before) world
        sample-place = world_place N Sampled-line (taken.line ∷ of N taken.before) world
            (act_place taken.line.did.step taken.line.did.tick taken.line.port Sampling (Sampling ∷ []) (taken.line ∷ of N taken.before) (of N world)
            (record { front = []; back = []; is = refl }) next)

        sample-line : line_on Q Sampled-line.did ≡ Sampled-line
        sample-line = line_is Sampled-line Q taken.port

        sample-view : view Q (of N sample-place.older) ≡ Here taken.line.did ∷ Later
        sample-view = ap (view Q) sample-place.own_is ∙ (let same : (taken.line.port.0 == Q.0) ≡ true = eq-eqb taken.line.port.0 Q.0 (ap (λ q. q.0) taken.port)
            in rw same refl)

        sample-past : Within (Here Sampled-line.did ∷ Here taken.line.did ∷ Later) close.past
        sample-past = behind-ring Sampled-line.did (Here taken.line.did ∷ Later) (λ e. let bad : ⊥ = cc in bad)
            (subst (λ k. Within (Here Sampled-line.did ∷ k) Whole) sample-view
            (seen_in N (line_on Q Sampled-line.did) sample-place.older older sample-place.node
            (subst (λ k. Within (k ∷ sample-place.older) older) (sym sample-line)
            (before-close Sampled-line sample-place.older sample-place.place taken-less))))

        had-best : is_some (best p (Here Sampled-line.did ∷ Here taken.line.did ∷ Later)) ≡ true
        had-best = let own : (p.0 == p.0) ≡ true = eq-eqb p.0 p.0 refl in rw own refl

        sampled : is_some (best p close.past) ≡ true
        sampled = persisted (Here Sampled-line.did ∷ Here taken.line.did ∷ Later) sample-past (inr (inr start-later)) had-best

      best-past : is_some (best p close.past) ≡ true
      best-past = elim had [
        | inl h ↦ persisted Later later-past start-later h
        | inr o ↦ sampled o
      ]

      some-estimate : (o : Option Sampled) → is_some o ≡ true → is_some (estimate_of o) ≡ true
      some-estimate None e = absurd (true≢false (sym e))
      some-estimate (Some x) e = refl

      has-sample : is_some (estimate p Whole) ≡ true
      has-sample = some-estimate (best p Whole) (let same : best p Whole ≡ best p close.past = ap (best p) close.is ∙ rw close.rings refl in
          ap is_some same ∙ best-past)

    estimated : is_some (estimate p Whole) ≡ true
    estimated =
        let a = (answers_in_time set world table long t stays s delivered).stamps L request.older p asked.word asked.counter asks meanwhile in
        has-sample a.0 a.1.0 a.1.1.0 a.1.1.1

  pub sampled_in_time : SampledInTime header setting long t stays s world
  sampled_in_time c older r p m range = estimated c older r p m range

pub clocked_runs_sample : ClockedRunsSample
clocked_runs_sample clocks header setting events long t stays s set possible delivered swift =
    sampled_in_time set (run_by clocks header events) (clocked_runs_by_table clocks header events)
    (clocked_runs_fit clocks header setting events set possible).0 long t stays s delivered swift

pub runs_sample : RunsSample
runs_sample header setting events long t stays s set possible = subst (λ h. Delivered setting long t stays s h → IsSwift setting long →
    SampledInTime header setting long t stays s h) (runs_by_own_clocks header events)
    (clocked_runs_sample (clocks_of header) header setting events long t stays s (set_own header setting set) (possible_own header events possible))
