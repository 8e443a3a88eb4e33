-- What claims stand for, field by field.
use Rattle.std.proofs.Common.{◌∙◌, ap, sym, subst, refl, arith, ◌≡◌, ℕ, zero, suc, ◌+◌, Bool, false, ◌||◌, List, [], ◌∷◌, ◌++◌, length, replicate, Option}
use Rattle.std.proofs.{Math.Path.fun_ext, lemmas.List.length-map}
use Rattle.tsp_base.specs.{Words.HeaderValue, Words.Step, declared.act.Placed.Placed, declared.event.Event.Event}
use Rattle.tsp_claims.specs.declared.{claims.Claims.Claims, taking_in.HeldStep.HeldStep}
use Rattle.tsp_claims.specs.ClaimedHistory.{Claim, events_of, joins_acts, lines_in, posts_of, step_of}
use Rattle.tsp_claims.specs.{Fitting.acts_of, Listed.is_boot_of, Listed.booted, Listed.up_in, Stands.ClaimsStand, Stands.claim_of}
use Rattle.tsp_claims.specs.{TakingIn.HoldsStep, TakingIn.JoinsEvent, TakingIn.StaysSame, declared.claimed.Claimed.Claimed}
use Rattle.tsp_history.specs.Histories.{history_of}
use Rattle.tsp_base.specs.declared.trace.Line2.{Line2}

-- what holds of the fields holds of the claims that they stand for
pub of_fields : (header : HeaderValue) (claims : List Claim) (c : Claims) → ClaimsStand header claims c → (P : HeaderValue → List Claimed → (ℕ → Bool) → ℕ →
    Type 0) →
    P c.header c.posts.items (up_in c.up.items) (c.events + 1) → P header (posts_of header claims) (booted (events_of claims)) (length claims + 1)
of_fields header claims c s P h =
    subst (λ n. P header (posts_of header claims) (booted (events_of claims)) (n + 1)) s.count
    (subst (λ u. P header (posts_of header claims) u (c.events + 1)) s.up_is
    (subst (λ ps. P header ps (up_in c.up.items) (c.events + 1)) s.posts_are
    (subst (λ k. P k c.posts.items (up_in c.up.items) (c.events + 1)) s.header_is h)))

-- claims that stay as they were stand for what they stood for
pub ClaimsStand_stays : (header : HeaderValue) (claims : List Claim) (old new : Claims) → StaysSame old new → ClaimsStand header claims old →
    ClaimsStand header claims new
ClaimsStand_stays header claims old new k s = record {
  header_is = k.header_is ∙ s.header_is;
  count = k.events_are ∙ s.count;
  told = k.told_is ∙ s.told;
  history = ap (λ ns. history_of ns) k.lines_are ∙ s.history;
  posts_are = k.posts_are ∙ s.posts_are;
  up_is = ap (λ v. up_in v.items) k.up_is ∙ s.up_is;
}

up_in_none : (count n : ℕ) → up_in (replicate count false) n ≡ false
up_in_none zero n = refl
up_in_none (suc count) zero = refl
up_in_none (suc count) (suc n) = up_in_none count n

-- no node is up
pub none_up : (count : ℕ) → up_in (replicate count false) ≡ booted []
none_up count = fun_ext (λ n. up_in_none count n)

-- claims that were joined by the step of an event stand for it too
pub ClaimsStand_taken : (header : HeaderValue) (claims : List Claim) (e : Event) (lines : List Line2) (held : HeldStep) (old mid new : Claims) →
    StaysSame old mid → JoinsEvent e held (length lines) mid new →
    HoldsStep old.header (old.events + 1) (step_of old.header old.posts.items (up_in old.up.items) e (acts_of lines)) (acts_of lines) held →
    ClaimsStand header claims old → ClaimsStand header (claim_of e lines ∷ claims) new
ClaimsStand_taken header claims e lines held old mid new stays joins holds stood =
    let acts : List Placed = acts_of lines in
    let step : Option Step = step_of header (posts_of header claims) (booted (events_of claims)) e acts in
    let is : HoldsStep header (length claims + 1) step acts held = of_fields header claims old stood (λ k ps u n. HoldsStep k n (step_of k ps u e acts) acts
    held) holds in
    let s : ClaimsStand header claims mid = ClaimsStand_stays header claims old mid stays stood in
    let one_more : length claims + 1 ≡ length (claim_of e lines ∷ claims) = omega arith in
    record {
      header_is = joins.header_is ∙ s.header_is;
      count = joins.events_are ∙ (ap (λ n. n + 1) s.count ∙ one_more);
      told = joins.told_is ∙ (ap (λ n. n + length lines) s.told ∙ ap (λ n. lines_in claims + n) (sym (length-map lines (λ (l : Line2). l.placed))));
      history = joins.history ∙ (is.lines (history_of mid.lines.lines) ∙ ap (λ h. joins_acts header step acts h) s.history);
      posts_are = joins.posts_are ∙ (ap (λ ps. ps ++ held.posts.items) s.posts_are ∙ ap (λ ps. posts_of header claims ++ ps) is.posts);
      up_is = fun_ext (λ n. joins.wakes.1 n ∙ ap (λ u. is_boot_of e n || u n) s.up_is);
    }
