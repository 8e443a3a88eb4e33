-- What is told of a run, where it is claimed, makes the run, posts what it posts, and boots whom it boots.
use Rattle.std.proofs.Common.{ap, ◌∙◌, ◌≡◌, ℕ, zero, suc, List, [], ◌∷◌, ◌++◌, length, Option, None, Some, slice_get, refl, ◌+◌, map, sym, subst, inl, inr}
use Rattle.std.proofs.Common.{eqb-true, append-nil, ◌==◌, Bool, true, false, ◌||◌, if◌then◌else◌}
use Rattle.tsp_rules.specs.Values.{Act, Post, Placed, Event, Boot, BootAt, Turn, Take, Bytes, Peer}
use Rattle.tsp_rules.specs.GateRows.{GotOn, NodeTurn, answers_all, boots_all}
use Rattle.tsp_base.specs.Words.{Step, HeaderValue, IsHeader, Acts, Begins, Handed, Line, Turned, dids, of, first_port, line_of, stepped, up, peer_of}
use Rattle.tsp_claims.specs.ClaimedHistory.{claims_post, claimed_address, posts_in, post_goes, events_of, Claim, awake, claimed, joins_acts, makes_step}
use Rattle.tsp_claims.specs.ClaimedHistory.{claims_of_step, posts_of, post_goes as claim_reaches, step_of, taker, takes_step}
use Rattle.tsp_claims.specs.{declared.claimed.Claimed.Claimed, Fitting.acts_of, Listed.booted, Listed.is_boot_of}
use Rattle.tsp_run.specs.Run.{goes_to, posted_by, posts_from, Happening, posts_by, told_from, told_of, boot_step, happening, joins, posts, run, step_tick}
use Rattle.tsp_run.proofs.Happens.{Arrives, acts_by, boot_acts, got_acts, stepping, steps_are, takes_or, taking, taking_row, taking_step}
use Rattle.tsp_run.specs.{Networks.address_of, Networks.networks, declared.posted.Posted.Posted, Ranges.Accepted}
use Rattle.tsp_run.specs.Refusals.{down, node_in, refusal, scene}
use Rattle.tsp_run.proofs.{RefusalLemmas.allowed, RefusalLemmas.up_down, SealedRun.accepted_before}
use Rattle.tsp_run.proofs.RunLemmas.{posts_stepped, stepped_other, stepped_own, up_joined}
use Rattle.tsp_audit.specs.AuditedRuns.{claims_of, traced, last_lines}
use Rattle.tsp_codec.specs.{Canon.canon, Taken.taken_of}

-- a claimed post is this one of a history
pub record IsPost (c : Claimed) (p : Posted) : Type 0 where
  pub at : c.at ≡ p.at
  pub node : c.node ≡ p.from
  pub port : c.placed.port ≡ p.port
  pub act : c.placed.act ≡ Post p.to p.datagram

-- claimed posts are these of a history, in their order
abbrev pub ArePosts : List Claimed → List Posted → Type 0
ArePosts [] [] = Unit {0}
ArePosts (c ∷ cs) (p ∷ ps) = IsPost c p × ArePosts cs ps
ArePosts _ _ = ⊥

pub ArePosts_append : (cs ds : List Claimed) (ps qs : List Posted) → ArePosts cs ps → ArePosts ds qs → ArePosts (cs ++ ds) (ps ++ qs)
ArePosts_append [] ds [] qs a b = b
ArePosts_append (c ∷ cs) ds (p ∷ ps) qs a b = (a.0, ArePosts_append cs ds ps qs a.1 b)
ArePosts_append _ ds _ qs a b = absurd a

-- as many
pub length_ArePosts : (cs : List Claimed) (ps : List Posted) → ArePosts cs ps → length cs ≡ length ps
length_ArePosts [] [] a = refl
length_ArePosts (c ∷ cs) (p ∷ ps) a = ap (λ n. suc n) (length_ArePosts cs ps a.1)
length_ArePosts _ _ a = absurd a

one_post : (event : ℕ) (step : Step) (p : Placed) (a : Act) → p.act ≡ a → ArePosts (claims_post event step p a) (posted_by step.at step.node p.port a)
one_post event step p (Post to datagram) e = (record { at = refl; node = refl; port = refl; act = e }, tt)
one_post event step p _ e = tt

-- the posts that acts of a step claim are those that they post
pub posts_of_acts : (event : ℕ) (step : Step) (acts : List Placed) → ArePosts (posts_in event step acts) (posts_from step.at step.node acts)
posts_of_acts event step [] = tt
posts_of_acts event step (p ∷ rest) = ArePosts_append (claims_post event step p p.act) (posts_in event step rest) (posted_by step.at step.node p.port p.act)
    (posts_from step.at step.node rest) (one_post event step p p.act refl) (posts_of_acts event step rest)

-- both or neither is there, and then the claimed post is the other
abbrev pub SamePost : Option Claimed → Option Posted → Type 0
SamePost None None = Unit {0}
SamePost (Some c) (Some p) = IsPost c p
SamePost _ _ = ⊥

pub get_ArePosts : (cs : List Claimed) (ps : List Posted) (k : ℕ) → ArePosts cs ps → SamePost (slice_get cs k) (slice_get ps k)
get_ArePosts [] [] k a = tt
get_ArePosts (c ∷ cs) (p ∷ ps) zero a = a.0
get_ArePosts (c ∷ cs) (p ∷ ps) (suc k) a = get_ArePosts cs ps k a.1
get_ArePosts _ _ k a = absurd a

-- they go to one address
pub goes_same : (nets : List (List ℕ)) (o : Option Claimed) (q : Option Posted) → SamePost o q → post_goes nets o ≡ goes_to nets q
goes_same nets None None s = refl
goes_same nets (Some c) (Some p) s =
    ap (λ a. claimed_address nets c.node c.placed.port a) s.act
    ∙ ap (λ n. address_of nets n c.placed.port p.to) s.node
    ∙ ap (λ q. address_of nets p.from q p.to) s.port
goes_same nets _ _ s = absurd s

-- the acts that happen, if any do
abbrev pub happened : Option Happening → List Placed
happened None = []
happened (Some h) = h.acts

acts_told_from : (event node x k : ℕ) (acts : List Placed) → acts_of (map traced (told_from event node x k acts)) ≡ acts
acts_told_from event node x k [] = refl
acts_told_from event node x k (p ∷ rest) = ap (λ l. p ∷ l) (acts_told_from event node x (k + posts_by p.act) rest)

pub acts_told_of : (event k : ℕ) (o : Option Happening) → acts_of (map traced (told_of event k o)) ≡ happened o
acts_told_of event k None = refl
acts_told_of event k (Some h) = acts_told_from event h.step.node h.tick k h.acts

-- the events of which it is claimed are those of the schedule
pub events_claims : (header : HeaderValue) (events : List Event) → events_of (claims_of header events) ≡ events
events_claims header [] = refl
events_claims header (e ∷ before) = ap (λ es. e ∷ es) (events_claims header before)

pub length_claims : (header : HeaderValue) (events : List Event) → length (claims_of header events) ≡ length events
length_claims header [] = refl
length_claims header (e ∷ before) = ap (λ n. suc n) (length_claims header before)

-- a step is that of what happens; none, where nothing does
abbrev pub IsStep : HeaderValue → Option Happening → Option Step → Type 0
IsStep header None None = Unit {0}
IsStep header (Some h) (Some step) = (h.step ≡ step) × (h.tick ≡ step_tick header step)
IsStep header _ _ = ⊥

-- claims are those of a run: they make its history, they claim its posts, and whom they boot is up
pub record AreOf (header : HeaderValue) (claims : List Claim) (history : List Line) : Type 0 where
  pub history_is : claimed header claims ≡ history
  pub posts_are : ArePosts (posts_of header claims) (posts history)
  pub up_is : (n : ℕ) → booted (events_of claims) n ≡ up (dids (of n history))

-- the history grows alike
joins_alike : (header : HeaderValue) (o : Option Happening) (s : Option Step) (before history : List Line) → IsStep header o s → before ≡ history →
    joins_acts header s (happened o) before ≡ joins o history
joins_alike header None None before history is e = e
joins_alike header (Some h) (Some s) before history is e =
    ap (λ x. stepped s x h.acts before) (sym is.1) ∙ ap (λ t. stepped t h.tick h.acts before) (sym is.0) ∙ ap (λ l. stepped h.step h.tick h.acts l) e
joins_alike header _ _ before history is e = absurd is

-- and so do the posts
posts_alike : (header : HeaderValue) (event : ℕ) (o : Option Happening) (s : Option Step) (cs : List Claimed) (history : List Line) → IsStep header o s →
    ArePosts cs (posts history) → ArePosts (cs ++ claims_of_step event s (happened o)) (posts (joins o history))
posts_alike header event None None cs history is a = subst (λ ps. ArePosts (cs ++ []) ps) (append-nil (posts history))
    (ArePosts_append cs [] (posts history) [] a tt)
posts_alike header event (Some h) (Some s) cs history is a =
    subst (λ ps. ArePosts (cs ++ claims_of_step event (Some s) h.acts) ps) (sym (posts_stepped h.step h.tick h.acts history))
    (subst (λ t. ArePosts (cs ++ claims_of_step event (Some s) h.acts) (posts history ++ posts_from t.at t.node h.acts)) (sym is.0)
    (ArePosts_append cs (claims_of_step event (Some s) h.acts) (posts history) (posts_from s.at s.node h.acts) a (posts_of_acts event s h.acts)))
posts_alike header event _ _ cs history is a = absurd is

-- a step of a node that is up leaves each node as it is
up_stays : (step : Step) (x : ℕ) (acts : List Placed) (h : List Line) (n : ℕ) → up (dids (of step.node h)) ≡ true → up (dids (of n (stepped step x acts h))) ≡
    up (dids (of n h))
up_stays step x acts h n is = by_case (step.node == n) refl where
  by_case : (b : Bool) → (step.node == n) ≡ b → up (dids (of n (stepped step x acts h))) ≡ up (dids (of n h))
  by_case true e =
      let here : up (dids (of n h)) ≡ true = subst (λ m. up (dids (of m h)) ≡ true) (eqb-true step.node n e) is in
      ap (λ l. up (dids l)) (stepped_own n step x acts h e) ∙ up_joined step x acts (line_of step x first_port Begins ∷ of n h) here ∙ sym here
  by_case false e = ap (λ l. up (dids l)) (stepped_other n step x acts h e)

-- a step that begins with a Boot wakes its node
up_boots : (step : Step) (x : ℕ) (rest : List Placed) (h : List Line) (n : ℕ) → up
    (dids (of n (stepped step x (record { port = first_port; act = Boot } ∷ rest) h))) ≡ ((step.node == n) || up (dids (of n h)))
up_boots step x rest h n = by_case (step.node == n) refl where
  by_case : (b : Bool) → (step.node == n) ≡ b → up (dids (of n (stepped step x (record { port = first_port; act = Boot } ∷ rest) h))) ≡
      (b || up (dids (of n h)))
  by_case true e =
      ap (λ l. up (dids l)) (stepped_own n step x (record { port = first_port; act = Boot } ∷ rest) h e)
      ∙ up_joined step x rest (line_of step x first_port (Acts Boot) ∷ line_of step x first_port Begins ∷ of n h) refl
  by_case false e = ap (λ l. up (dids l)) (stepped_other n step x (record { port = first_port; act = Boot } ∷ rest) h e)

-- acts among which one stands make the step of a take
makes_some : (at k : ℕ) (before after : List Placed) (p : Placed) → makes_step (Take at k) (before ++ p ∷ after) ≡ true
makes_some at k [] after p = refl
makes_some at k (q ∷ before) after p = refl

module _ {header : HeaderValue} (is : IsHeader header) (before : List Event) (claims : List Claim) (known : AreOf header claims (run header before)) where
  abbrev Steps : Event → Option Happening → Type 0
  Steps e o = IsStep header o (step_of header (posts_of header claims) (booted (events_of claims)) e (happened o))

  abbrev Wakes : Event → Option Happening → Type 0
  Wakes e o = (n : ℕ) → (is_boot_of e n || booted (events_of claims) n) ≡ up (dids (of n (joins o (run header before))))

  -- the addressee of a datagram that is taken is up
  taker_up : (at k : ℕ) → refusal (scene header before) (Take at k) ≡ None → (a : Arrives header (run header before) at k) →
      up (dids (of a.to.node (run header before))) ≡ true
  taker_up at k none a =
      let goes : node_in (goes_to (networks header) (slice_get (posts (run header before)) k)) ≡ Some a.to.node =
      ap (λ o. node_in (goes_to (networks header) o)) a.there ∙ ap (λ o. node_in o) a.goes in
      up_down (scene header before) a.to.node (ap (λ o. down (scene header before).up o) (sym goes) ∙ (allowed (scene header before) (Take at k) none).up)

  -- the step in which somebody takes a datagram
  pub takes_at : (at k : ℕ) → refusal (scene header before) (Take at k) ≡ None → (a : Arrives header (run header before) at k) →
      taker header (posts_of header claims) (booted (events_of claims)) k ≡ Some a.to
  takes_at at k none a =
      let cs = posts_of header claims in
      let ups = booted (events_of claims) in
      let reach : claim_reaches (networks header) (slice_get cs k) ≡ Some a.to =
      goes_same (networks header) (slice_get cs k) (slice_get (posts (run header before)) k) (get_ArePosts cs (posts (run header before)) k known.posts_are)
      ∙ ap (λ o. goes_to (networks header) o) a.there ∙ a.goes in
      ap (λ o. awake ups o) reach ∙ ap (λ b. if b then Some a.to else None) (known.up_is a.to.node ∙ taker_up at k none a)

  takes_step_holds : (at k : ℕ) → refusal (scene header before) (Take at k) ≡ None → (a : Arrives header (run header before) at k) →
      Steps (Take at k) (Some (stepping header (run header before) (taking_row a.post a.to) (taking_step at k a.to)))
  takes_step_holds at k none a =
      let cs = posts_of header claims in
      let ups = booted (events_of claims) in
      let acts = acts_by header (run header before) (taking_row a.post a.to) (taking_step at k a.to) in
      let once = got_acts is (run header before) (taking_step at k a.to) a.to.port (Peer (peer_of a.post.from)) (taken_of (canon a.post.datagram)) a.has in
      let makes : makes_step (Take at k) acts ≡ true = ap (λ l. makes_step (Take at k) l) once.is ∙ makes_some at k once.before once.after _ in
      let step_is : step_of header cs ups (Take at k) acts ≡ Some (taking_step at k a.to) =
      ap (λ b. if b then takes_step at k (taker header cs ups k) else None) makes ∙ ap (λ o. takes_step at k o) (takes_at at k none a) in
      subst (λ o. IsStep header (Some (stepping header (run header before) (taking_row a.post a.to) (taking_step at k a.to))) o) (sym step_is) (refl, refl)

  steps_of : (e : Event) → refusal (scene header before) e ≡ None → Steps e (happening header (run header before) e)
  steps_of (BootAt at node word) none = subst (λ h. Steps (BootAt at node word) (Some h))
      (sym (steps_are header (run header before) boots_all (boot_step header at node word))) (refl, refl)
  steps_of (Turn at node) none = subst (λ h. Steps (Turn at node) (Some h)) (sym (steps_are header (run header before) (answers_all NodeTurn) (record {
    at = at;
    node = node;
    cause = Turned;
  }))) (refl, refl)
  steps_of (Bytes at node port from octets) none = subst (λ h. Steps (Bytes at node port from octets) (Some h))
      (sym (steps_are header (run header before) (answers_all (GotOn port from (taken_of octets))) (record { at = at; node = node; cause = Handed }))) (
        refl,
        refl,
      )
  steps_of (Take at k) none = elim (takes_or header (run header before) at k) [
    | inl a ↦ subst (λ o. Steps (Take at k) o) (sym (taking header (run header before) at k a)) (takes_step_holds at k none a)
    | inr nothing ↦ subst (λ o. Steps (Take at k) o) (sym nothing.1) tt
  ]

  -- an event but a boot leaves who is up
  wakes_none : (e : Event) (h : Happening) → ((n : ℕ) → is_boot_of e n ≡ false) → up (dids (of h.step.node (run header before))) ≡ true → Wakes e (Some h)
  wakes_none e h none is_up n = ap (λ b. b || booted (events_of claims) n) (none n) ∙ known.up_is n ∙
      sym (up_stays h.step h.tick h.acts (run header before) n is_up)

  wakes_of : (e : Event) → refusal (scene header before) e ≡ None → Wakes e (happening header (run header before) e)
  wakes_of (BootAt at node word) none = λ n.
      let step = boot_step header at node word in
      let b = boot_acts is (run header before) step in
      ap (λ u. (node == n) || u) (known.up_is n)
      ∙ sym (ap (λ (h : Happening). up (dids (of n (stepped h.step h.tick h.acts (run header before))))) (steps_are header (run header before) boots_all step)
      ∙ ap (λ acts. up (dids (of n (stepped step (step_tick header step) acts (run header before))))) b.is
      ∙ up_boots step (step_tick header step) b.rest (run header before) n)
  wakes_of (Turn at node) none =
      subst (λ h. Wakes (Turn at node) (Some h)) (sym (steps_are header (run header before) (answers_all NodeTurn) (record {
        at = at;
        node = node;
        cause = Turned;
      })))
      (wakes_none (Turn at node) (stepping header (run header before) (answers_all NodeTurn) (record { at = at; node = node; cause = Turned })) (λ n. refl)
      (up_down (scene header before) node (allowed (scene header before) (Turn at node) none).up))
  wakes_of (Bytes at node port from octets) none =
      subst (λ h. Wakes (Bytes at node port from octets) (Some h)) (sym (steps_are header (run header before) (answers_all (GotOn port from (taken_of octets)))
      (record { at = at; node = node; cause = Handed })))
      (wakes_none (Bytes at node port from octets) (stepping header (run header before) (answers_all (GotOn port from (taken_of octets))) (record {
        at = at;
        node = node;
        cause = Handed;
      })) (λ n. refl) (up_down (scene header before) node (allowed (scene header before) (Bytes at node port from octets)
      none).up))
  wakes_of (Take at k) none = elim (takes_or header (run header before) at k) [
    | inl a ↦ subst (λ o. Wakes (Take at k) o) (sym (taking header (run header before) at k a))
        (wakes_none (Take at k) (stepping header (run header before) (taking_row a.post a.to) (taking_step at k a.to)) (λ n. refl) (taker_up at k none a))
    | inr nothing ↦ subst (λ o. Wakes (Take at k) o) (sym nothing.1) (λ n. known.up_is n)
  ]

  -- one event more
  of_event : (e : Event) (acts : List Placed) → refusal (scene header before) e ≡ None → acts ≡ happened (happening header (run header before) e) →
      AreOf header (record { event = e; acts = acts } ∷ claims) (run header (e ∷ before))
  of_event e acts none acts_are =
      let o = happening header (run header before) e in
      let s = steps_of e none in
      subst (λ l. AreOf header (record { event = e; acts = l } ∷ claims) (run header (e ∷ before))) (sym acts_are) (record {
        history_is = joins_alike header o (step_of header (posts_of header claims) (booted (events_of claims)) e (happened o)) (claimed header claims)
            (run header before) s known.history_is;
        posts_are = posts_alike header (length claims + 1) o (step_of header (posts_of header claims) (booted (events_of claims)) e (happened o))
            (posts_of header claims) (run header before) s known.posts_are;
        up_is = wakes_of e none;
      })

-- what is told of a run is of it
pub told_are : (header : HeaderValue) (events : List Event) → Accepted header events → AreOf header (claims_of header events) (run header events)
told_are header [] a = record { history_is = refl; posts_are = tt; up_is = λ n. refl }
told_are header (e ∷ before) a =
    of_event a.header_is before (claims_of header before) (told_are header before (accepted_before header e before a)) e
    (acts_of (last_lines header (e ∷ before))) a.valid.0
    (acts_told_of (length before + 1) (length (posts (run header before))) (happening header (run header before) e))
