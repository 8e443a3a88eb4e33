-- Where the datagrams that a history posted stand in it.
use Rattle.std.proofs.Common.{sym, ap, subst, inl, inr, arith, ◌∙◌, append-nil, length-append, ◌≡◌, ◌⊎◌, ℕ, zero, suc, ◌+◌, List, [], ◌∷◌, ◌++◌, length, Some}
use Rattle.std.proofs.Common.{slice_get, refl}
use Rattle.tsp_rules.specs.Values.{Post, Port}
use Rattle.tsp_base.specs.Words.{Deed, Begins, Acts, Step, Line, dids, Within, posted, posted_after}
use Rattle.tsp_run.{proofs.NetworkLemmas.some_same, specs.Run.posts, specs.Run.posted_in, specs.declared.posted.Posted.Posted}

posted_by : (deed : Deed) (port : Port) (step : Step) (n : ℕ) → n + length (posted_in port step deed) ≡ posted_after deed n
posted_by Begins port step n = omega arith
posted_by (Acts (Post to datagram)) port step n = omega arith
posted_by (Acts _) port step n = omega arith

-- as many datagrams stand in the list as were posted
pub length_posts : (h : List Line) → length (posts h) ≡ posted (dids h)
length_posts [] = refl
length_posts (l ∷ before) =
    length-append (posts before) (posted_in l.port l.did.step l.did.deed)
    ∙ ap (λ n. n + length (posted_in l.port l.did.step l.did.deed)) (length_posts before)
    ∙ posted_by l.did.deed l.port l.did.step (posted (dids before))

get_last : {A : Type 0} (xs : List A) (y : A) (k : ℕ) (p : A) → slice_get (xs ++ y ∷ []) k ≡ Some p → (slice_get xs k ≡ Some p) ⊎ ((k ≡ length xs) × (y ≡ p))
get_last [] y zero p e = inr (refl, some_same e)
get_last [] y (suc k) p e = let bad : ⊥ = cc in absurd bad
get_last (x ∷ xs) y zero p e = inl e
get_last (x ∷ xs) y (suc k) p e = elim (get_last xs y k p e) [
  | inl h ↦ inl h
  | inr h ↦ inr ((let i = h.0 in omega (arith, i)), h.1)
]

-- the place of a post
pub record PostAt (h : List Line) (k : ℕ) (p : Posted) : Type 0 where
  pub post : Line
  pub older : List Line
  pub place : Within (post ∷ older) h
  pub number : posted (dids older) ≡ k
  pub deed : post.did.deed ≡ Acts (Post p.to p.datagram)
  pub from : post.did.step.node ≡ p.from
  pub port : post.port ≡ p.port

post_more : (l : Line) (before : List Line) (k : ℕ) (p : Posted) → PostAt before k p → PostAt (l ∷ before) k p
post_more l before k p a = record { post = a.post; older = a.older; place = inr a.place; number = a.number; deed = a.deed; from = a.from; port = a.port }

by_deed_holds : (l : Line) (before : List Line) (k : ℕ) (p : Posted) → (slice_get (posts before) k ≡ Some p → PostAt before k p) → (deed : Deed) → l.did.deed ≡
    deed →
    slice_get (posts before ++ posted_in l.port l.did.step deed) k ≡ Some p → PostAt (l ∷ before) k p
by_deed_holds l before k p old (Acts (Post to datagram)) is e = elim (get_last (posts before) (record {
  at = l.did.step.at;
  from = l.did.step.node;
  port = l.port;
  to = to;
  datagram = datagram;
}) k p e) [
  | inl h ↦ post_more l before k p (old h)
  | inr h ↦ record {
    post = l;
    older = before;
    place = inl refl;
    number = sym (length_posts before) ∙ sym h.0;
    deed = is ∙ ap (λ (q : Posted). Acts (Post q.to q.datagram)) h.1;
    from = ap (λ (q : Posted). q.from) h.1;
    port = ap (λ (q : Posted). q.port) h.1;
  }
]
by_deed_holds l before k p old _ is e = post_more l before k p (old (subst (λ s. slice_get s k ≡ Some p) (append-nil (posts before)) e))

-- the datagram number k was posted somewhere in the history
pub post_at : (h : List Line) (k : ℕ) (p : Posted) → slice_get (posts h) k ≡ Some p → PostAt h k p
post_at [] k p e = let bad : ⊥ = cc in absurd bad
post_at (l ∷ before) k p e = by_deed_holds l before k p (post_at before k p) l.did.deed refl e
