-- The claims that a history holds, event by event.
use Rattle.std.proofs.Common.{◌∙◌, ap, sym, refl, arith, append-nil, append_assoc, inl, inr, ◌≡◌, ◌<◌, ℕ, ◌+◌, ◌-◌, Bool, List, [], ◌∷◌, ◌++◌, length, drop}
use Rattle.std.proofs.Common.{take, get_or, reverse, Option, None, Some, slice_get}
use Rattle.std.proofs.lemmas.List.{get_or_append_left, length-append, reverse-append, take_more}
use Rattle.std.proofs.lemmas.Option.{get_or_from_slice_get, slice_get_within}
use Rattle.std.proofs.Math.Seq.{drop-append_seam, get_or-append_seam, take-append_seam}
use Rattle.tsp_audit.specs.Ends.{EndsAt}
use Rattle.tsp_base.specs.declared.{act.Placed.Placed, event.Event.Event, trace.Line2.Line2}
use Rattle.tsp_base.specs.declared.event.Event.TheVariants.{Take}
use Rattle.tsp_base.specs.Words.{HeaderValue, Acts, Begins, Line, Step, first_port, joined, line_of, Within}
use Rattle.tsp_base.proofs.PlaceLemmas.{Within_length}
use Rattle.tsp_audit_command.specs.Sound.{acts_in, claims_by, claims_on, first_end, placed_by}
use Rattle.tsp_claims.specs.ClaimedHistory.{Claim, claimed, events_of, joins_acts, posts_of, step_at, step_of}
use Rattle.tsp_claims.specs.{Fitting.Fit, Fitting.LineFitsIn, Fitting.acts_of, Fitting.untold, declared.claimed.Claimed.Claimed}
use Rattle.tsp_claims.specs.{declared.claims.Claims.Claims, Stands.ClaimsStand, Stands.claim_of, declared.tally.Tally.Tally, Listed.booted}
use Rattle.tsp_history.specs.Histories.{history_of}
use Rattle.tsp_run.specs.Run.{step_tick}

acts_in_append : (a b : List Line) → acts_in (a ++ b) ≡ acts_in b ++ acts_in a
acts_in_append [] b = sym (append-nil (acts_in b))
acts_in_append (l ∷ a) b = ap (λ acts. acts ++ placed_by l.port l.did.deed) (acts_in_append a b) ∙
    append_assoc (acts_in b) (acts_in a) (placed_by l.port l.did.deed)

-- the lines of a step's acts, the newest first
abbrev front : Step → ℕ → List Placed → List Line
front step x [] = []
front step x (p ∷ rest) = front step x rest ++ line_of step x p.port (Acts p.act) ∷ []

joined_front : (step : Step) (x : ℕ) (acts : List Placed) (h : List Line) → joined step x acts h ≡ front step x acts ++ h
joined_front step x [] h = refl
joined_front step x (p ∷ rest) h = joined_front step x rest (line_of step x p.port (Acts p.act) ∷ h) ∙
    sym (append_assoc (front step x rest) (line_of step x p.port (Acts p.act) ∷ []) h)

front_acts : (step : Step) (x : ℕ) (acts : List Placed) → acts_in (front step x acts) ≡ acts
front_acts step x [] = refl
front_acts step x (p ∷ rest) = acts_in_append (front step x rest) (line_of step x p.port (Acts p.act) ∷ []) ∙ ap (λ acts. p ∷ acts) (front_acts step x rest)

-- a history has grown by lines that have these acts
record Grew (acts : List Placed) (h new : List Line) : Type 0 where
  lines : List Line
  is : new ≡ lines ++ h
  acts_are : acts_in lines ≡ acts

grew_by : (header : HeaderValue) (o : Option Step) (acts : List Placed) (h : List Line) → (o ≡ None → acts ≡ []) → Grew acts h (joins_acts header o acts h)
grew_by header None acts h none = record { lines = []; is = refl; acts_are = sym (none refl) }
grew_by header (Some step) acts h none =
    let mark : Line = line_of step (step_tick header step) first_port Begins in
    let f : List Line = front step (step_tick header step) acts in
    record {
      lines = f ++ mark ∷ [];
      is = joined_front step (step_tick header step) acts (mark ∷ h) ∙ sym (append_assoc f (mark ∷ []) h);
      acts_are = acts_in_append f (mark ∷ []) ∙ front_acts step (step_tick header step) acts;
    }

-- where nobody acts no line fits
unfit_none : (header : HeaderValue) (posts : List Claimed) (up : ℕ → Bool) (number : ℕ) (e : Event) (t : Tally) (o : Option Step) (l : Line2) → o ≡ None →
    LineFitsIn header posts up number e t o l → ⊥
unfit_none header posts up number e t None l is f = f
unfit_none header posts up number e t (Some step) l is f = let bad : ⊥ = cc in bad

-- an event of which lines fit makes a step, unless there are none
no_step : (header : HeaderValue) (before : List Claim) (e : Event) (lines : List Line2) → Fit header before e lines →
    step_of header (posts_of header before) (booted (events_of before)) e (acts_of lines) ≡ None → acts_of lines ≡ []
no_step header before e [] fit none = refl
no_step header before (Take at k) (l ∷ rest) fit none =
    absurd (unfit_none header (posts_of header before) (booted (events_of before)) (length before + 1) (Take at k) untold
    (step_at header (posts_of header before) (booted (events_of before)) (Take at k)) l none fit.0)
no_step header before _ _ fit none = let bad : ⊥ = cc in absurd bad

-- what is claimed of one event more
pub claims_by_more : (header : HeaderValue) (passed : List Claim) (e : Event) (lines : List Line2) (events : List Event) (ends : List ℕ) (n : ℕ) →
    claims_by events ends (claimed header passed) ≡ passed →
    first_end ends ≡ length (claimed header passed) → Fit header passed e lines →
    claims_by (e ∷ events) (n ∷ ends) (claimed header (claim_of e lines ∷ passed)) ≡ (claim_of e lines ∷ passed)
claims_by_more header passed e lines events ends n same last fit =
    let h : List Line = claimed header passed in
    let new : List Line = claimed header (claim_of e lines ∷ passed) in
    let g : Grew (acts_of lines) h new = grew_by header (step_of header (posts_of header passed) (booted (events_of passed)) e (acts_of lines)) (acts_of lines)
    h (no_step header passed e lines fit) in
    let k : ℕ = length new - first_end ends in
    let long : length new ≡ length g.lines + length h = ap (λ (x : List Line). length x) g.is ∙ length-append g.lines h in
    let many : k ≡ length g.lines = omega (arith, long, last) in
    let taken : take k new ≡ g.lines = ap (λ n. take n new) many ∙ (ap (λ (x : List Line). take (length g.lines) x) g.is ∙ take-append_seam g.lines h) in
    let left : drop k new ≡ h = ap (λ n. drop n new) many ∙ (ap (λ (x : List Line). drop (length g.lines) x) g.is ∙ drop-append_seam g.lines h) in
    let claim : List Placed → Claim = λ acts. record { event = e; acts = acts } in
    ap (λ (x : List Line). claim (acts_in x) ∷ claims_by events ends (drop k new)) taken
    ∙ (ap (λ (acts : List Placed). claim acts ∷ claims_by events ends (drop k new)) g.acts_are
    ∙ (ap (λ (x : List Line). claim_of e lines ∷ claims_by events ends x) left ∙ ap (λ (cs : List Claim). claim_of e lines ∷ cs) same))

-- the events that were passed, with one more
pub passed_more : (events : List Event) (n : ℕ) (e : Event) → slice_get events n ≡ Some e → reverse (take (n + 1) events) ≡ (e ∷ reverse (take n events))
passed_more events n e at =
    ap (λ (es : List Event). reverse es) (take_more events n e (slice_get_within events n e at) ∙
    ap (λ (x : Event). take n events ++ x ∷ []) (get_or_from_slice_get events n e e at))
    ∙ reverse-append (take n events) (e ∷ [])

pub claims_on_more : (header : HeaderValue) (events : List Event) (claims now : Claims) (ends more : List ℕ) (e : Event) (lines : List Line2) (n : ℕ) →
    slice_get events (length ends) ≡ Some e → ClaimsStand header (claims_on events ends claims) claims →
    ClaimsStand header (claim_of e lines ∷ claims_on events ends claims) now → first_end (reverse ends) ≡
    length (claimed header (claims_on events ends claims)) → Fit header (claims_on events ends claims) e lines → more ≡ ends ++ n ∷ [] →
    claims_on events more now ≡ (claim_of e lines ∷ claims_on events ends claims)
claims_on_more header events claims now ends more e lines n at old new last fit more_is =
    let passed : List Claim = claims_on events ends claims in
    let es : List Event = reverse (take (length ends) events) in
    let long : length more ≡ length ends + 1 = ap (λ (x : List ℕ). length x) more_is ∙ length-append ends (n ∷ []) in
    let events_are : reverse (take (length more) events) ≡ (e ∷ es) = ap (λ k. reverse (take k events)) long ∙ passed_more events (length ends) e at in
    let ends_are : reverse more ≡ (n ∷ reverse ends) = ap (λ (x : List ℕ). reverse x) more_is ∙ reverse-append ends (n ∷ []) in
    let same : claims_by es (reverse ends) (claimed header passed) ≡ passed = ap (λ (h : List Line). claims_by es (reverse ends) h) (sym old.history) in
    ap (λ (x : List Event). claims_by x (reverse more) (history_of now.lines.lines)) events_are
    ∙ (ap (λ (x : List ℕ). claims_by (e ∷ es) x (history_of now.lines.lines)) ends_are
    ∙ (ap (λ (h : List Line). claims_by (e ∷ es) (n ∷ reverse ends) h) new.history ∙ claims_by_more header passed e lines es (reverse ends) n same last fit))

-- where the lines of one event more end
pub EndsAt_more : (header : HeaderValue) (passed : List Claim) (ends : List ℕ) (c : Claim) (n : ℕ) → EndsAt header passed ends → n ≡
    length (claimed header (c ∷ passed)) → EndsAt header (c ∷ passed) (ends ++ n ∷ [])
EndsAt_more header passed ends c n old is = record {
  many = (let many = old.many in omega (arith, many, length-append ends (n ∷ [])));
  end_is = λ d before w. one_end d before w;
} where
  one_end : (d : Claim) (before : List Claim) → Within (d ∷ before) (c ∷ passed) → get_or (ends ++ n ∷ []) (length before) 0 ≡
      length (claimed header (d ∷ before))
  one_end d before (inl e) =
      let same : passed ≡ before = cc in
      let many : length before ≡ length ends = ap (λ (x : List Claim). length x) (sym same) ∙ sym old.many in
      ap (λ k. get_or (ends ++ n ∷ []) k 0) many ∙ (get_or-append_seam ends n [] 0 ∙ (is ∙ ap (λ (x : List Claim). length (claimed header x)) (sym e)))
  one_end d before (inr w) =
      let short : length before < length ends = (let long = Within_length (d ∷ before) passed w in let many = old.many in omega (arith, long, many)) in
      get_or_append_left ends (n ∷ []) 0 (length before) short ∙ old.end_is d before w

pub EndsAt_none : (header : HeaderValue) → EndsAt header [] []
EndsAt_none header = record { many = refl; end_is = λ d before w. (let bad : ⊥ = cc in absurd bad) }
