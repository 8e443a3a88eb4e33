-- At each place of an audit's lines one thing at most may follow, and the verdict is one.
use Rattle.std.proofs.Common.{◌∙◌, ap, subst, inl, inr, sym, refl, arith, ◌≡◌, ℕ, zero, suc, ◌+◌, ◌-◌, ◌<◌, ◌≤◌, if◌then◌else◌, Bool, true, false, List, []}
use Rattle.std.proofs.Common.{◌∷◌, ◌++◌, length, reverse, Option, None, Some}
use Rattle.std.proofs.lemmas.Bool.{cases_order}
use Rattle.tsp_audit.specs.{Judged.FailsNow, Premised.premises_of, Settings.HasClocks, declared.premises.Premises.Premises}
use Rattle.tsp_audit.specs.{Verdicts.AllHold, Verdicts.FailsFirst, Verdicts.IsFound, declared.verdict.Failure.Failure}
use Rattle.tsp_base.specs.Words.{HeaderValue, IsHeader, Line, Within}
use Rattle.tsp_promises.specs.Setting.{Setting}
use Rattle.tsp_base.{proofs.PlaceLemmas.Within_comparable, specs.declared.event.Event.Event, specs.declared.trace.Line2.Line2}
use Rattle.tsp_audit_command.specs.ClaimReaders.{ClaimReaderValue, FitsAt, FitsHere, MisfitsAt, IsOneLine, and_then, passed_up_to, lines_told, most_lines}
use Rattle.tsp_audit_command.specs.ClaimReaders.{pass_first, pass_one, passes, passes_all, tallied, told_more, unclaimed}
use Rattle.tsp_audit_command.specs.{Listings.most_nodes, Listings.refused_next, Meaning.auditing, Texts.verdict_text}
use Rattle.tsp_audit_command.specs.Readings.{Claimed, MayEnd, ReadsOn, GivesVerdict, IsWanting, PassesLimit, ReachesReading, Reading, RefusesLine, Scheduling}
use Rattle.tsp_audit_command.specs.Readings.{nodes_at, reading_of}
use Rattle.tsp_audit_command.proofs.{PassLemmas.none-some, PassLemmas.some_one, Reverses.reverse_more}
use Rattle.tsp_claims.specs.{ClaimedHistory.Claim, ClaimedHistory.claimed, Fitting.lacks, Fitting.untold, Stands.claim_of}
use Rattle.tsp_schedule.specs.Schedules.{Progress, Ended, GoesOn as GoesOnBy, Reaches as ReachesBy}
use Rattle.tsp_schedule.proofs.Definites.{Lacks_one, Refuses_one, Refuses_within}
use Rattle.tsp_schedule.proofs.OneReading.{GoesOn_not_limited, GoesOn_not_refused, Reaches_one as ReachesBy-one}
use Rattle.tsp_schedule.proofs.ReadHeaders.{KeepsHeader, Reaches_header}
use Rattle.tsp_lines.specs.Definite.{IsDefinite}
use Rattle.tsp_run.proofs.SettingLemmas.{each_is_set_holds}

reading_unended : (q p : Progress) → reading_of q ≡ Scheduling p → q ≡ p
reading_unended (Ended header events) p is = let bad : ⊥ = cc in absurd bad
reading_unended _ p is = cc

-- lines that bring the reading somewhere in the schedule bring the schedule there
scheduled : (lines : List (List ℕ)) (p : Progress) → ReachesReading lines (Scheduling p) → ReachesBy refused_next lines p
scheduled [] p is = cc
scheduled (line ∷ before) p (Scheduling q, r, g) = (q, scheduled before q r, subst (λ x. GoesOnBy refused_next q line x) (reading_unended g.0 p (sym g.3)) g.1)
scheduled (line ∷ before) p (Claimed c, r, g) = let is = g.5 in let bad : ⊥ = cc in absurd bad

-- a line of the schedule brings it to one place
one_schedule : (before : List (List ℕ)) (line : List ℕ) (p q r : Progress) → ReachesReading before (Scheduling p) → GoesOnBy refused_next p line q →
    GoesOnBy refused_next p line r → q ≡ r
one_schedule before line p q r reaches g h = ReachesBy-one refused_next (line ∷ before) q r (p, scheduled before p reaches, g) (
  p,
  scheduled before p reaches,
  h,
)

-- two readings of a claimed line are one, and so are the places to which they come
same_here : (c : ClaimReaderValue) (line : List ℕ) (l k : Line2) (here there : ClaimReaderValue) → IsOneLine line l → IsOneLine line k →
    passed_up_to c l.event ≡ Some here → passed_up_to c k.event ≡ Some there → there ≡ here
same_here c line l k here there t u p q = some_one there here (sym q ∙ (ap (λ (x : Line2). passed_up_to c x.event) (t.1 k u.0) ∙ p))

GoesOn_one : (before : List (List ℕ)) (at : Reading) (line : List ℕ) (r s : Reading) → ReachesReading before at → ReadsOn at line r → ReadsOn at line s → r ≡ s
GoesOn_one before (Scheduling p) line r s reaches g h = g.3 ∙ (ap (λ q. reading_of q) (one_schedule before line p g.0 h.0 reaches g.1 h.1) ∙ sym h.3)
GoesOn_one before (Claimed c) line r s reaches g h =
    let same = g.2.1 h.0 h.2.0 in
    let here = same_here c line g.0 h.0 g.1 h.1 g.2 h.2 g.3.0 h.3.0 in
    g.5 ∙ (ap (λ v. Claimed (told_more v g.0)) (sym here) ∙ (ap (λ (k : Line2). Claimed (told_more h.1 k)) (sym same) ∙ sym h.5))

-- lines bring the reading to one place
pub Reaches_one : (lines : List (List ℕ)) (r s : Reading) → ReachesReading lines r → ReachesReading lines s → r ≡ s
Reaches_one [] r s p q = p ∙ sym q
Reaches_one (line ∷ before) r s p q = GoesOn_one before p.0 line r s p.1 p.2 (subst (λ x. ReadsOn x line s) (sym (Reaches_one before p.0 q.0 p.1 q.1)) q.2)

-- a claimed line that fits doesn't misfit
fits_misfits : (c : ClaimReaderValue) (line : List ℕ) (l k : Line2) (here : ClaimReaderValue) → IsOneLine line l → IsOneLine line k → FitsAt c l here →
    MisfitsAt c k → ⊥
fits_misfits c line l k here t u f (inl none) = none-some (passed_up_to c k.event) here none (ap (λ (x : Line2). passed_up_to c x.event) (t.1 k u.0) ∙ f.0)
fits_misfits c line l k here t u f (inr (there, at, unfit)) =
    unfit (subst (λ v. FitsHere v k) (sym (same_here c line l k here there t u f.0 at)) (subst (λ (x : Line2). FitsHere here x) (sym (t.1 k u.0)) f.1))

not_refused : (before : List (List ℕ)) (at : Reading) (line cause : List ℕ) (r : Reading) → ReadsOn at line r → RefusesLine at line cause → ⊥
not_refused before (Scheduling p) line cause r g f = GoesOn_not_refused refused_next p line cause g.0 g.1 f
not_refused before (Claimed c) line cause r g (inl f) = f.0 g.0 g.2.0
not_refused before (Claimed c) line cause r g (inr (k, tells, misfits, is)) = fits_misfits c line g.0 k g.1 g.2 tells g.3 misfits

too_many : (n most : ℕ) → n ≤ most → most < n → ⊥
too_many n most few many = omega (arith, few, many)

no_room : (n most : ℕ) → n < most → most ≤ n → ⊥
no_room n most few many = omega (arith, few, many)

not_limited : (before : List (List ℕ)) (at : Reading) (line : List ℕ) (r : Reading) → ReachesReading before at → ReadsOn at line r → PassesLimit at line → ⊥
not_limited before (Scheduling p) line r reaches g (inl f) = GoesOn_not_limited refused_next p line g.0 g.1 f
not_limited before (Scheduling p) line r reaches g (inr (q, h, many)) = too_many (nodes_at q) most_nodes
    (subst (λ x. nodes_at x ≤ most_nodes) (one_schedule before line p g.0 q reaches g.1 h) g.2) many
not_limited before (Claimed c) line r reaches g (k, there, tells, fits, full) = no_room (lines_told there) most_lines
    (subst (λ v. lines_told v < most_lines) (sym (same_here c line g.0 k g.1 there g.2 tells g.3.0 fits.0)) g.4) full

one_cause : (at : Reading) (line cause other : List ℕ) → RefusesLine at line cause → RefusesLine at line other → cause ≡ other
one_cause (Scheduling p) line cause other f g = Refuses_one refused_next p line cause other f g
one_cause (Claimed c) line cause other (inl f) (inl g) = f.1 ∙ sym g.1
one_cause (Claimed c) line cause other (inl f) (inr g) = absurd (f.0 g.0 g.1.0)
one_cause (Claimed c) line cause other (inr f) (inl g) = absurd (g.0 f.0 f.1.0)
one_cause (Claimed c) line cause other (inr f) (inr g) = f.3 ∙ sym g.3

refused_within : (at : Reading) (line cause : List ℕ) → RefusesLine at line cause → PassesLimit at line → ⊥
refused_within (Scheduling p) line cause f (inl g) = Refuses_within refused_next p line cause f g
refused_within (Scheduling p) line cause f (inr (q, g, many)) = GoesOn_not_refused refused_next p line cause q g f
refused_within (Claimed c) line cause (inl f) (k, there, tells, fits, full) = f.0 k tells.0
refused_within (Claimed c) line cause (inr f) (k, there, tells, fits, full) = fits_misfits c line k f.0 there tells f.1 fits f.2

one_lack : (at : Reading) (cause other : List ℕ) → IsWanting at cause → IsWanting at other → cause ≡ other
one_lack (Scheduling p) cause other f g = Lacks_one p cause other f g
one_lack (Claimed c) cause other f g = f.1 ∙ sym g.1

ended_whole : (at : Reading) (more cause : List ℕ) → MayEnd at more → IsWanting at cause → ⊥
ended_whole (Scheduling p) more cause e f = e
ended_whole (Claimed c) more cause e f = none-some (passes_all c) e.0 f.0 e.2

reading_claimed : (q : Progress) (c : ClaimReaderValue) → reading_of q ≡ Claimed c → KeepsHeader q → IsHeader c.header
reading_claimed (Ended header events) c is h = let same : unclaimed header events ≡ c = cc in subst (λ (v : ClaimReaderValue). IsHeader v.header) same h
reading_claimed _ c is h = let bad : ⊥ = cc in absurd bad

passed_header : (b : Bool) (v d : ClaimReaderValue) → (if b then None else Some v) ≡ Some d → d.header ≡ v.header
passed_header true v d is = let bad : ⊥ = cc in absurd bad
passed_header false v d is = ap (λ (x : ClaimReaderValue). x.header) (sym (some_one v d is))

first_header : (header : HeaderValue) (passed : List Claim) (told : List Line2) (ahead : List Event) (d : ClaimReaderValue) →
    pass_first header passed told ahead ≡ Some d → d.header ≡ header
first_header header passed told [] d is = let bad : ⊥ = cc in absurd bad
first_header header passed told (e ∷ rest) d is = passed_header (lacks e (tallied untold told)) (record {
  header = header;
  passed = claim_of e told ∷ passed;
  told = [];
  ahead = rest;
}) d is

then_header : (o : Option ClaimReaderValue) (header : HeaderValue) (next : ClaimReaderValue → Option ClaimReaderValue) (d : ClaimReaderValue) →
    and_then o next ≡ Some d → ((c : ClaimReaderValue) → o ≡ Some c → c.header ≡ header) →
    ((c : ClaimReaderValue) → next c ≡ Some d → d.header ≡ c.header) → d.header ≡ header
then_header None header next d is first later = let bad : ⊥ = cc in absurd bad
then_header (Some c) header next d is first later = later c is ∙ first c refl

-- passing events keeps the header
passes_header : (n : ℕ) (c d : ClaimReaderValue) → passes n c ≡ Some d → d.header ≡ c.header
passes_header zero c d is = ap (λ (x : ClaimReaderValue). x.header) (sym (some_one c d is))
passes_header (suc n) c d is = then_header (pass_one c) c.header (λ x. passes n x) d is (λ x h. first_header c.header c.passed c.told c.ahead x h)
    (λ x h. passes_header n x d h)

-- the header behind which lines are claimed keeps its ranges
claimed_header : (lines : List (List ℕ)) (c : ClaimReaderValue) → ReachesReading lines (Claimed c) → IsHeader c.header
claimed_header [] c is = let bad : ⊥ = cc in absurd bad
claimed_header (line ∷ before) c (Scheduling p, r, g) = reading_claimed g.0 c (sym g.3) (Reaches_header refused_next (line ∷ before) g.0 (
  p,
  scheduled before p r,
  g.1,
))
claimed_header (line ∷ before) c (Claimed d, r, g) =
    let is = g.5 in
    let same : c ≡ told_more g.1 g.0 = cc in
    subst (λ k. IsHeader k) (sym (ap (λ (x : ClaimReaderValue). x.header) same ∙ passes_header (g.0.event - (length d.passed + 1)) d g.1 g.3.0))
    (claimed_header before d r)

-- a header gives a setting its clocks
clocks_of : (header : HeaderValue) → IsHeader header → (setting : Setting) × HasClocks header setting
clocks_of header is = let set = each_is_set_holds header is in (set.0, record { tick_is = set.1.tick_is; wall_is = set.1.wall_is; drift_is = set.1.drift_is })

-- one part is the least that fails
one_part : (premises : Premises) (setting : Setting) (h : List Line) (n m : ℕ) → FailsNow premises setting h n → FailsNow premises setting h m → n ≡ m
one_part premises setting h n m a b = elim (cases_order n m) [
  | inl same ↦ same
  | inr apart ↦ elim apart [
    | inl less ↦ absurd (a.fails (b.lesser a.part (subst (λ k. k < m) (sym a.number_is) less)))
    | inr more ↦ absurd (b.fails (a.lesser b.part (subst (λ k. k < n) (sym b.number_is) more)))
  ]
]

same_failure : (f g : Failure) → f.part ≡ g.part → f.event ≡ g.event → Some f ≡ Some g
same_failure f g p e = let pair : ℕ → ℕ → Failure = λ n m. record { part = n; event = m } in
    ap (λ x. Some x) (ap (λ n. pair n f.event) p ∙ ap (λ m. pair g.part m) e)

module _ (premises : Premises) (setting : Setting) (header : HeaderValue) (claims : List Claim) where
  -- where a part fails first it doesn't hold
  holds_fails : (n e : ℕ) (before : List Claim) → AllHold premises setting header before → (f : FailsFirst premises setting header claims n e) →
      Within (f.claim ∷ f.before) before → ⊥
  holds_fails n e before a f w = f.fails.fails (a (f.claim ∷ f.before) w f.fails.part)

  -- two first failures at places of which one lies within the other are one
  one_failure : (n e m d : ℕ) (f : FailsFirst premises setting header claims n e) (g : FailsFirst premises setting header claims m d) →
      Within (f.claim ∷ f.before) (g.claim ∷ g.before) → (n ≡ m) × (e ≡ d)
  one_failure n e m d f g (inl same) =
      let long = ap (λ cs. length cs) same in
      let at = f.event_is in
      let there = g.event_is in (
        one_part premises setting (claimed header (g.claim ∷ g.before)) n m (subst (λ cs. FailsNow premises setting (claimed header cs) n) same f.fails)
            g.fails,
        omega (arith, long, at, there),
      )
  one_failure n e m d f g (inr within) = absurd (holds_fails n e g.before g.earlier f within)

  pub found_one : (f g : Option Failure) → IsFound premises setting header claims f → IsFound premises setting header claims g → f ≡ g
  found_one None None a b = refl
  found_one None (Some g) a b = absurd (holds_fails g.part g.event claims a b b.place)
  found_one (Some f) None a b = absurd (holds_fails f.part f.event claims b a a.place)
  found_one (Some f) (Some g) a b = elim (Within_comparable (a.claim ∷ a.before) (b.claim ∷ b.before) claims a.place b.place) [
    | inl w ↦ (let same = one_failure f.part f.event g.part g.event a b w in same_failure f g same.0 same.1)
    | inr w ↦ (let same = one_failure g.part g.event f.part f.event b a w in same_failure f g (sym same.0) (sym same.1))
  ]

-- the output of the input's end is one
one_end : (lines : List (List ℕ)) (at : Reading) (more other : List ℕ) → ReachesReading lines at → MayEnd at more → MayEnd at other → more ≡ other
one_end lines (Scheduling p) more other reaches e f = absurd e
one_end lines (Claimed c) more other reaches (all, found, passes_e, judges, is) (every, against, passes_f, judged, was) =
    let same : every ≡ all = some_one every all (sym passes_f ∙ passes_e) in
    let clocks = clocks_of all.header (subst (λ k. IsHeader k) (sym (passes_header (length c.ahead) c all passes_e)) (claimed_header lines c reaches)) in
    let other_found = subst (λ (v : ClaimReaderValue). GivesVerdict v.header v.passed against) same judged in
    is ∙ (ap (λ o. verdict_text o) (found_one (premises_of all.header all.passed) clocks.0 all.header all.passed found against (judges clocks.0 clocks.1)
    (other_found clocks.0 clocks.1)) ∙ sym was)

-- what was accepted last, and after what
last_line : (lines : List (List ℕ)) (line : List ℕ) (r : Reading) → ReachesReading (reverse (lines ++ line ∷ [])) r → (q : Reading) ×
    ReachesReading (reverse lines) q × ReadsOn q line r
last_line lines line r reaches = subst (λ ls. ReachesReading ls r) (reverse_more lines line) reaches

pub definite_auditing : IsDefinite auditing
definite_auditing = record {
  one_output = λ lines text other a b. a.2 ∙ sym b.2;
  before = λ lines line text a. let l = last_line lines line a.0 a.1 in ((λ full. full), ([], [], (l.0, l.1, refl), a.2));
  not_refused = λ lines line text cause a (q, s, f).
      let l = last_line lines line a.0 a.1 in
      not_refused (reverse lines) q line cause a.0 (subst (λ x. ReadsOn x line a.0) (Reaches_one (reverse lines) l.0 q l.1 s) l.2) f;
  not_limited = λ lines line text a (q, s, f).
      let l = last_line lines line a.0 a.1 in
      not_limited (reverse lines) q line a.0 s (subst (λ x. ReadsOn x line a.0) (Reaches_one (reverse lines) l.0 q l.1 s) l.2) f;
  one_cause = λ lines line cause other (p, r, e) (q, s, f). one_cause q line cause other
      (subst (λ x. RefusesLine x line cause) (Reaches_one (reverse lines) p q r s) e) f;
  refused_within = λ lines line cause (p, r, e) (q, s, f). refused_within q line cause
      (subst (λ x. RefusesLine x line cause) (Reaches_one (reverse lines) p q r s) e) f;
  one_end = λ lines more other (p, r, e) (q, s, f). one_end (reverse lines) q more other s (subst (λ x. MayEnd x more) (Reaches_one (reverse lines) p q r s) e)
      f;
  one_lack = λ lines cause other (p, r, e) (q, s, f). one_lack q cause other (subst (λ x. IsWanting x cause) (Reaches_one (reverse lines) p q r s) e) f;
  ended_whole = λ lines more cause (p, r, e) (q, s, f). ended_whole q more cause (subst (λ x. MayEnd x more) (Reaches_one (reverse lines) p q r s) e) f;
}
