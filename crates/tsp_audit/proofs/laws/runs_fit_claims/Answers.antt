use Rattle.std.proofs.Common.{ap, sym, subst, arith, true≢false, ◌≡◌, ◌<◌, ℕ, ◌+◌, Bool, true, false, List, [], ◌∷◌, ◌++◌, length, map, Some, refl, inl, inr}
use Rattle.std.proofs.Common.{not, Option, None, slice_get}
use Rattle.std.proofs.lemmas.Bool.{and_right, or_from, or_left, or_right, not_from_true}
use Rattle.tsp_rules.specs.Values.{Act, Boot, Took, Post, Placed, Event, Port, Taken, Good, BootAt, Turn, Take, Bytes, Place, Peer}
use Rattle.tsp_rules.proofs.FewActs.{is_calm_act}
use Rattle.tsp_rules.specs.GateRows.{GotOn, NodeTurn, answers_all, boots_all}
use Rattle.tsp_base.specs.Words.{HeaderValue, Step, is_whole, Handed, Turned, first_port, peer_of}
use Rattle.tsp_claims.specs.ClaimedHistory.{step_at, Claim, events_of, posts_of, taker, takes_step}
use Rattle.tsp_claims.specs.Fitting.{ActMayStand, AllFit, FitsAfter, LineFitsIn, NumberFits, begins_with_boot, counted, is_took, lacks, wants_boot, Fit}
use Rattle.tsp_claims.specs.Fitting.{IsPosted, TakesClaimedPost, TakingFits, untold}
use Rattle.tsp_claims.specs.{declared.claimed.Claimed.Claimed, declared.tally.Tally.Tally, Listed.booted}
use Rattle.tsp_audit.specs.AuditedRuns.{number_or_zero, traced, RunsFitClaims, claims_of, last_lines}
use Rattle.tsp_audit.proofs.RunClaims.{AreOf, takes_at, told_are, length_claims, SamePost, get_ArePosts, length_ArePosts}
use Rattle.tsp_run.specs.Run.{number_of, posts_by, step_tick, told_from, Happening, boot_step, happening, posts, run, told_of}
use Rattle.tsp_run.proofs.Happens.{acts_by, boot_acts, got_acts, ports_in, steps_are, taken_in, takes_or, taking, taking_row, taking_step, turn_acts}
use Rattle.tsp_run.{proofs.CalmPorts.AreCalm, specs.Networks.networks, specs.Networks.ports_on, specs.Ranges.Accepted}
use Rattle.tsp_run.{specs.Refusals.refusal, specs.Refusals.scene, specs.declared.address.Address.Address, proofs.CalmPorts.TakesOnce}
use Rattle.tsp_run.proofs.{RefusalLemmas.allowed, RefusalLemmas.handed_port, RefusalLemmas.refusal_none, RunPromises.posted_read}
use Rattle.tsp_run.{proofs.SealedRun.accepted_before, specs.declared.posted.Posted.Posted}
use Rattle.tsp_codec.specs.Taken.{taken_of}
use Rattle.tsp_networks.proofs.MemberLemmas.{some_port}
use Rattle.tsp_audit.proofs.laws.runs_fit_claims.Goals as goal

-- what lines of these acts come to, with those before
abbrev tallied : Tally → List Placed → Tally
tallied t [] = t
tallied t (p ∷ rest) = tallied (counted t p.act) rest

tallied-begun : (t : Tally) (acts : List Placed) → t.begun ≡ true → (tallied t acts).begun ≡ true
tallied-begun t [] e = e
tallied-begun t (p ∷ rest) e = tallied-begun (counted t p.act) rest refl

-- after a Boot something is begun
begun-after : (t : Tally) (p : Placed) (acts : List Placed) → (tallied (counted t p.act) acts).begun ≡ true
begun-after t p acts = tallied-begun (counted t p.act) acts refl

-- what was taken stays taken
tallied-took : (t : Tally) (acts : List Placed) → t.took ≡ true → (tallied t acts).took ≡ true
tallied-took t [] e = e
tallied-took t (p ∷ rest) e = tallied-took (counted t p.act) rest (or_left t.took (is_took p.act) e)

-- after a Took something is
took-after : (t : Tally) (p : Placed) (acts : List Placed) → is_took p.act ≡ true → (tallied (counted t p.act) acts).took ≡ true
took-after t p acts e = tallied-took (counted t p.act) acts (or_right t.took (is_took p.act) e)

calm-took : (strange : Bool) (a : Act) → is_calm_act strange true a ≡ true → is_took a ≡ false
calm-took strange (Took from t) e = absurd (true≢false (sym e))
calm-took strange _ e = refl

-- calm acts take nothing
calm-untaken : (strange : Bool) (n : ℕ) (t : Tally) (acts : List Placed) → AreCalm strange n acts → t.took ≡ false → (tallied t acts).took ≡ false
calm-untaken strange n t [] c e = e
calm-untaken strange n t (p ∷ rest) c e = calm-untaken strange n (counted t p.act) rest c.2 (or_from t.took (is_took p.act) e (calm-took strange p.act c.1))

-- after a line no event wants a Boot
wants-none : (e : Event) (t : Tally) (a : Act) → wants_boot e (counted t a) ≡ false
wants-none e t a = and_right (begins_with_boot e) false refl

-- an event that wants no Boot wants none later
wants_tallied : (e : Event) (t : Tally) (acts : List Placed) → wants_boot e t ≡ false → wants_boot e (tallied t acts) ≡ false
wants_tallied e t [] w = w
wants_tallied e t (p ∷ rest) w = wants_tallied e (counted t p.act) rest (wants-none e t p.act)

module _ (header : HeaderValue) (posts : List Claimed) (up : ℕ → Bool) (ports : ℕ) where
  -- acts may stand next in their event, each on a port that is there, and then it lacks nothing
  abbrev pub ActsFit : Event → Tally → List Placed → Type 0
  ActsFit e t [] = lacks e t ≡ false
  ActsFit e t (p ∷ rest) = (p.port.0 < ports) × ActMayStand header posts up e t p.port p.act × ActsFit e (counted t p.act) rest

  calm-fits : (strange : Bool) (e : Event) (t : Tally) (port : Port) (a : Act) → is_calm_act strange true a ≡ true → wants_boot e t ≡ false →
      ActMayStand header posts up e t port a
  calm-fits strange e t port Boot c w = absurd (true≢false (sym c))
  calm-fits strange e t port (Took from taken) c w = absurd (true≢false (sym c))
  calm-fits strange e t port _ c w = w

  -- calm acts fit before others that do
  pub calm_fit : (strange : Bool) (e : Event) (t : Tally) (acts rest : List Placed) → AreCalm strange ports acts → wants_boot e t ≡ false →
      ActsFit e (tallied t acts) rest → ActsFit e t (acts ++ rest)
  calm_fit strange e t [] rest c w f = f
  calm_fit strange e t (p ∷ acts) rest c w f = (
    c.0,
    calm-fits strange e t p.port p.act c.1 w,
    calm_fit strange e (counted t p.act) acts rest c.2 (wants-none e t p.act) f,
  )

  -- or alone, where the event lacks nothing then
  pub calm_fit_all : (strange : Bool) (e : Event) (t : Tally) (acts : List Placed) → AreCalm strange ports acts → wants_boot e t ≡ false →
      lacks e (tallied t acts) ≡ false → ActsFit e t acts
  calm_fit_all strange e t [] c w f = f
  calm_fit_all strange e t (p ∷ acts) c w f = (
    c.0,
    calm-fits strange e t p.port p.act c.1 w,
    calm_fit_all strange e (counted t p.act) acts c.2 (wants-none e t p.act) f,
  )

number-fits : (next k : ℕ) (a : Act) → k ≡ next → NumberFits next a (number_or_zero (number_of a k))
number-fits next k (Post to datagram) e = e
number-fits next k _ e = tt

-- lines that are told of such acts fit
told_fit : (header : HeaderValue) (posts : List Claimed) (up : ℕ → Bool) (number : ℕ) (e : Event) (step : Step) (k : ℕ) → step_at header posts up e ≡
    Some step → k ≡ length posts → (t : Tally) (acts : List Placed) →
    ActsFit header posts up (length (ports_on step.node (networks header))) e t acts →
    AllFit (FitsAfter header posts up number) e t (map traced (told_from number step.node (step_tick header step) (k + t.posts) acts))
told_fit header posts up number e step k at few t [] f = f
told_fit header posts up number e step k at few t (p ∷ rest) f =
    let x = step_tick header step in
    let next : (k + t.posts) + posts_by p.act ≡ k + (t.posts + posts_by p.act) = omega arith in (
      subst (λ o. LineFitsIn header posts up number e t o (traced (record {
        event = number;
        node = step.node;
        tick = x;
        number = number_of p.act (k + t.posts);
        placed = p;
      }))) (sym at) (record {
        event = refl;
        node = refl;
        tick = refl;
        port = f.0;
        number_fits = number-fits (length posts + t.posts) (k + t.posts) p.act (ap (λ n. n + t.posts) few);
        act = f.1;
      }),
      subst (λ n. AllFit (FitsAfter header posts up number) e (counted t p.act) (map traced (told_from number step.node x n rest))) (sym next)
          (told_fit header posts up number e step k at few (counted t p.act) rest f.2),
    )

-- what was taken is what was posted
takes-post : (o : Option Claimed) (p : Posted) (a : Address) (t : Option Address) (taken : Taken) → SamePost o (Some p) → t ≡ Some a → taken ≡ Good p.datagram →
    TakesClaimedPost o t a.port (Peer (peer_of p.from)) taken
takes-post None p a t taken s is e = absurd s
takes-post (Some c) p a t taken s is e =
    subst (λ u. TakesClaimedPost (Some c) u a.port (Peer (peer_of p.from)) taken) (sym is)
    (refl, ap (λ n. Peer (peer_of n)) (sym s.node), subst (λ d. IsPosted d taken) (sym s.act) e)

module _ {header : HeaderValue} (whole : is_whole header ≡ true) (before : List Event) (accepted : Accepted header before) where
  abbrev claims : List Claim
  claims = claims_of header before

  abbrev cs : List Claimed
  cs = posts_of header claims

  abbrev ups : ℕ → Bool
  ups = booted (events_of claims)

  abbrev number : ℕ
  number = length before + 1

  abbrev Fits : Event → Option Happening → Type 0
  Fits e o = AllFit (FitsAfter header cs ups number) e untold (map traced (told_of number (length (posts (run header before))) o))

  known : AreOf header claims (run header before)
  known = told_are header before accepted

  -- of acts that fit
  fits-by : (e : Event) (step : Step) (acts : List Placed) → step_at header cs ups e ≡ Some step → ActsFit header cs ups (ports_in header step) e untold acts →
      Fits e (Some (record { step = step; tick = step_tick header step; acts = acts }))
  fits-by e step acts at f =
      subst (λ n. AllFit (FitsAfter header cs ups number) e untold (map traced (told_from number step.node (step_tick header step) n acts)))
      (let e : length (posts (run header before)) + 0 ≡ length (posts (run header before)) = omega arith in e)
      (told_fit header cs ups number e step (length (posts (run header before))) at (sym (length_ArePosts cs (posts (run header before)) known.posts_are))
      untold acts f)

  -- acts that take once fit
  once-fits : (e : Event) (step : Step) (q : Port) (from : Place) (t : Taken) (few : ℕ) (acts : List Placed) →
      TakesOnce from t q (ports_in header step) few acts → q.0 < ports_in header step → wants_boot e untold ≡ false →
      ((u : Tally) → u.took ≡ true → lacks e u ≡ false) → TakingFits header cs ups e q from t → ActsFit header cs ups (ports_in header step) e untold acts
  once-fits e step q from t few acts once has w needs f =
      let n = ports_in header step in
      let u = tallied untold once.before in
      let took : Placed = record { port = q; act = Took from t } in
      subst (λ l. ActsFit header cs ups n e untold l) (sym once.is)
      (calm_fit header cs ups n _ e untold once.before (took ∷ once.after) once.calm_before w (
        has,
        (wants_tallied e untold once.before w, calm-untaken _ n untold once.before once.calm_before refl, f),
        calm_fit_all header cs ups n _ e (counted u took.act) once.after once.calm_after (wants-none e u took.act)
            (needs _ (took-after u took once.after refl)),
      ))

  fits-of : (e : Event) → refusal (scene header before) e ≡ None → Fits e (happening header (run header before) e)
  fits-of (BootAt at node word) none =
      let e = BootAt at node word in
      let step = boot_step header at node word in
      let n = ports_in header step in
      let b = boot_acts accepted.header_is (run header before) step in
      let boot : Placed = record { port = first_port; act = Boot } in
      let has : 0 < n = (let some = some_port header whole node (allowed (scene header before) e none).node in omega (arith, some)) in
      subst (λ h. Fits e (Some h)) (sym (steps_are header (run header before) boots_all step))
      (fits-by e step (acts_by header (run header before) boots_all step) refl
      (subst (λ l. ActsFit header cs ups n e untold l) (sym b.is) (
        has,
        (refl, refl),
        calm_fit_all header cs ups n false e (counted untold Boot) b.rest b.calm (wants-none e untold Boot)
            (not_from_true _ (begun-after untold boot b.rest)),
      )))
  fits-of (Turn at node) none =
      let e = Turn at node in
      let step : Step = record { at = at; node = node; cause = Turned } in
      let acts = acts_by header (run header before) (answers_all NodeTurn) step in
      subst (λ h. Fits e (Some h)) (sym (steps_are header (run header before) (answers_all NodeTurn) step))
      (fits-by e step acts refl (calm_fit_all header cs ups (ports_in header step) false e untold acts (turn_acts accepted.header_is (run header before) step)
      refl refl))
  fits-of (Bytes at node port from octets) none =
      let e = Bytes at node port from octets in
      let step : Step = record { at = at; node = node; cause = Handed } in
      let row = answers_all (GotOn port from (taken_of octets)) in
      let acts = acts_by header (run header before) row step in
      let has = handed_port (scene header before) at node port from octets (refusal_none (scene header before) e none).node in
      subst (λ h. Fits e (Some h)) (sym (steps_are header (run header before) row step))
      (fits-by e step acts refl (once-fits e step port from (taken_of octets) _ acts (got_acts accepted.header_is (run header before) step port from
      (taken_of octets) has) has refl (λ u took. not_from_true u.took took) (refl, refl)))
  fits-of (Take at k) none = elim (takes_or header (run header before) at k) [
    | inl a ↦
        let e = Take at k in
        let step = taking_step at k a.to in
        let acts = acts_by header (run header before) (taking_row a.post a.to) step in
        let from = Peer (peer_of a.post.from) in
        let taker_is = takes_at accepted.header_is before claims known at k none a in
        let same = subst (λ o. SamePost (slice_get cs k) o) a.there (get_ArePosts cs (posts (run header before)) k known.posts_are) in
        subst (λ o. Fits e o) (sym (taking header (run header before) at k a))
        (fits-by e step acts (ap (λ o. takes_step at k o) taker_is)
        (once-fits e step a.to.port from (taken_in a.post) _ acts (got_acts accepted.header_is (run header before) step a.to.port from (taken_in a.post) a.has)
        a.has refl
        (λ u took. and_right u.begun (not u.took) (not_from_true u.took took))
        (takes-post (slice_get cs k) a.post a.to (taker header cs ups k) (taken_in a.post) same taker_is
        (posted_read header before accepted k a.post a.there))))
    | inr nothing ↦ subst (λ o. Fits (Take at k) o) (sym nothing.1) refl
  ]

  -- the lines of one event
  pub event-fits : (e : Event) → refusal (scene header before) e ≡ None → Fit header claims e (last_lines header (e ∷ before))
  event-fits e none =
      subst (λ n. AllFit (FitsAfter header cs ups n) e untold (last_lines header (e ∷ before))) (ap (λ n. n + 1) (sym (length_claims header before)))
      (fits-of e none)

-- those of each
lines-fit : RunsFitClaims
lines-fit header [] whole a = tt
lines-fit header (e ∷ before) whole a =
    let first = accepted_before header e before a in
    (event-fits whole before first e a.valid.0, lines-fit header before whole first)

pub returns : goal.returns
returns c = lines-fit
