-- Where each take comes early enough, no datagram of the run lives too long.
use Rattle.std.proofs.Common.{ap, ◌∙◌, sym, subst, inl, inr, ◌≡◌, ◌≤◌, ℕ, zero, suc, ◌+◌, List, [], ◌∷◌, ◌++◌, length, Some, slice_get, refl}
use Rattle.tsp_rules.specs.Values.{Post, Placed, Datagram, Event, BootAt, Turn, Take, Bytes, Place, Port, LIFE}
use Rattle.tsp_base.specs.Words.{HeaderValue, Acts, Begins, Came, Deed, Line, Step, dids, first_port, joined, line_of, stepped, Within, posted}
use Rattle.tsp_promises.specs.Premises.{Life, TakenWithinAt}
use Rattle.tsp_base.proofs.PlaceLemmas.{Within_none}
use Rattle.tsp_run.proofs.{HappensBy.acts_by, HappensBy.takes_or, HappensBy.taking, HappensBy.taking_row, HappensBy.taking_step, EachLine.each_event}
use Rattle.tsp_run.specs.Clocked.{Clocks, IsPromptBy, PromptBy, run_by, tick_by}
use Rattle.tsp_run.specs.{Run.joins, Run.posted_in, Run.posts, declared.posted.Posted.Posted}
use Rattle.tsp_run.{proofs.NetworkLemmas.some_same, proofs.PostPlaces.length_posts}

-- entries stay where more follow
get_front : {A : Type 0} (xs ys : List A) (k : ℕ) (p : A) → slice_get xs k ≡ Some p → slice_get (xs ++ ys) k ≡ Some p
get_front [] ys k p e = let bad : ⊥ = cc in absurd bad
get_front (x ∷ xs) ys zero p e = e
get_front (x ∷ xs) ys (suc k) p e = get_front xs ys k p e

get_end : {A : Type 0} (xs : List A) (y : A) → slice_get (xs ++ y ∷ []) (length xs) ≡ Some y
get_end [] y = refl
get_end (x ∷ xs) y = get_end xs y

-- the post with this number, its time and its addressee
pub record PostedAt (h : List Line) (k at : ℕ) (to : Place) : Type 0 where
  pub post : Posted
  pub there : slice_get (posts h) k ≡ Some post
  pub at_is : post.at ≡ at
  pub to_is : post.to ≡ to

posted_last : (before : List Line) (port : Port) (step : Step) (deed : Deed) (to : Place) (datagram : Datagram) → deed ≡ Acts (Post to datagram) →
    (p : Posted) × (slice_get (posts before ++ posted_in port step deed) (posted (dids before)) ≡ Some p) × (p.at ≡ step.at) × (p.to ≡ to)
posted_last before port step deed to datagram is =
    let p : Posted = record { at = step.at; from = step.node; port = port; to = to; datagram = datagram } in
    subst (λ d. (p : Posted) × (slice_get (posts before ++ posted_in port step d) (posted (dids before)) ≡ Some p) × (p.at ≡ step.at) × (p.to ≡ to)) (sym is)
    (p, ap (λ k. slice_get (posts before ++ p ∷ []) k) (sym (length_posts before)) ∙ get_end (posts before) p, refl, refl)

-- a line that posts is found by its number
pub posted_at : (h : List Line) (post : Line) (older : List Line) (to : Place) (datagram : Datagram) → Within (post ∷ older) h → post.did.deed ≡
    Acts (Post to datagram) → PostedAt h (posted (dids older)) post.did.step.at to
posted_at [] post older to datagram w is = Within_none post older w
posted_at (l ∷ before) post older to datagram (inl e) is =
    let line : l ≡ post = cc in
    let rest : before ≡ older = cc in
    let last = posted_last before l.port l.did.step l.did.deed to datagram (ap (λ (k : Line). k.did.deed) line ∙ is) in
    subst (λ (k : Line). PostedAt (l ∷ before) (posted (dids older)) k.did.step.at to) line
    (subst (λ b. PostedAt (l ∷ before) (posted (dids b)) l.did.step.at to) rest (record { post = last.0; there = last.1; at_is = last.2; to_is = last.3 }))
posted_at (l ∷ before) post older to datagram (inr w) is =
    let a = posted_at before post older to datagram w is in
    record {
      post = a.post;
      there = get_front (posts before) (posted_in l.port l.did.step l.did.deed) (posted (dids older)) a.post a.there;
      at_is = a.at_is;
      to_is = a.to_is;
    }

-- a line of a step that takes an early post
early_line : (step : Step) (x k : ℕ) (q : Posted) (port : Port) (deed : Deed) (w : List Line) → step.cause ≡ Came k → slice_get (posts w) k ≡ Some q →
    step.at ≤ q.at + LIFE → TakenWithinAt LIFE (line_of step x port deed) w
early_line step x k q port deed w cause there early post older to datagram within is came =
    let a = posted_at w post older to datagram within is in
    let number : k ≡ posted (dids older) = cc in
    let same : q ≡ a.post = some_same (sym there ∙ subst (λ m. slice_get (posts w) m ≡ Some a.post) (sym number) a.there) in
    subst (λ t. step.at ≤ t + LIFE) (ap (λ (p : Posted). p.at) same ∙ a.at_is) early

life_joined : (step : Step) (x k : ℕ) (q : Posted) (acts : List Placed) (w : List Line) → step.cause ≡ Came k → slice_get (posts w) k ≡ Some q →
    step.at ≤ q.at + LIFE → Life w → Life (joined step x acts w)
life_joined step x k q [] w cause there early life = life
life_joined step x k q (p ∷ rest) w cause there early life =
    life_joined step x k q rest (line_of step x p.port (Acts p.act) ∷ w) cause (get_front (posts w) (posted_in p.port step (Acts p.act)) k q there) early
    (early_line step x k q p.port (Acts p.act) w cause there early, life)

life_stepped : (step : Step) (x k : ℕ) (q : Posted) (acts : List Placed) (w : List Line) → step.cause ≡ Came k → slice_get (posts w) k ≡ Some q →
    step.at ≤ q.at + LIFE → Life w → Life (stepped step x acts w)
life_stepped step x k q acts w cause there early life =
    life_joined step x k q acts (line_of step x first_port Begins ∷ w) cause (get_front (posts w) [] k q there) early
    (early_line step x k q first_port Begins w cause there early, life)

module _ (clocks : Clocks) (header : HeaderValue) (before : List Event) (life : Life (run_by clocks header before)) where
  life_event : (e : Event) → IsPromptBy clocks header before e → Life (run_by clocks header (e ∷ before))
  life_event (BootAt at node word) early =
      each_event (TakenWithinAt LIFE) clocks header before life (BootAt at node word)
      (λ step x c port deed h post older to datagram within is came. let cause = c.1 in let no : ⊥ = cc in absurd no)
  life_event (Turn at node) early =
      each_event (TakenWithinAt LIFE) clocks header before life (Turn at node)
      (λ step x c port deed h post older to datagram within is came. let no : ⊥ = cc in absurd no)
  life_event (Bytes at node port from octets) early =
      each_event (TakenWithinAt LIFE) clocks header before life (Bytes at node port from octets)
      (λ step x c port deed h post older to datagram within is came. let no : ⊥ = cc in absurd no)
  life_event (Take at k) early = elim (takes_or clocks header (run_by clocks header before) at k) [
    | inl a ↦
        let step = taking_step at k a.to in
        subst (λ o. Life (joins o (run_by clocks header before))) (sym (taking clocks header (run_by clocks header before) at k a))
        (life_stepped step (tick_by clocks step) k a.post (acts_by clocks header (run_by clocks header before) (taking_row a.post a.to) step)
        (run_by clocks header before) refl a.there (early a.post a.there) life)
    | inr nothing ↦ subst (λ o. Life (joins o (run_by clocks header before))) (sym nothing.1) life
  ]

-- so it is with each run
pub prompt_life : (clocks : Clocks) (header : HeaderValue) (events : List Event) → PromptBy clocks header events → Life (run_by clocks header events)
prompt_life clocks header [] k = tt
prompt_life clocks header (e ∷ before) k = life_event clocks header before (prompt_life clocks header before k.1) e k.0
