-- The premises of the promises hold of a run if their counterparts hold of its events.
use Rattle.std.proofs.Common.{ap, sym, subst, inl, inr, true≢false, ◌∙◌, ◌≡◌, ◌≢◌, ℕ, ℤ, Bool, true, false, List, [], ◌∷◌, Some, refl, eqb-true, ◌<◌, ◌==◌}
use Rattle.std.proofs.Common.{if◌then◌else◌, length, None, slice_get, ◌++◌, Option}
use Rattle.tsp_run.specs.Premised.{PossibleRunsKeepPremises, RunsKeepPremises, AllBootOtherwise, Apart, BootsOtherwise, IsApart, NamesDiffer, IsSealed, Sealed}
use Rattle.tsp_run.specs.Clocked.{ClockedRunsKeepPremises, Clocks, IsSetUp, PossibleBy, SetByClocks, boot_by, clocks_of, happening_by, run_by, scene_by}
use Rattle.tsp_run.specs.Clocked.{tick_by}
use Rattle.tsp_run.{specs.Run.Happening, specs.Run.goes_to, specs.Run.joins, proofs.CalmPorts.AreCalm}
use Rattle.tsp_run.specs.{Networks.networks, Refusals.down, Refusals.impossible, Refusals.node_in}
use Rattle.tsp_run.proofs.{SettingLemmas.clocks_are_set, OwnClocks.kept_own, OwnClocks.possible_own}
use Rattle.tsp_run.proofs.{RunFits.clocked_runs_fit, PromptRun.prompt_life, SealedRun.sealed_honest}
use Rattle.tsp_run.proofs.{ShortRun.own_few, ShortRun.short_few, EachLine.IsCause, EachLine.each_event, EachLine.each_stepped}
use Rattle.tsp_run.proofs.{PossibleRun.accepted_possible, PossibleRun.possible_before, RefusalLemmas.can_happen, RefusalLemmas.up_down}
use Rattle.tsp_run.proofs.HappensBy.{boot_acts, steps_are, acts_by, takes_or, taking, taking_row, taking_step, got_acts}
use Rattle.tsp_promises.{proofs.promised.WordsProof.own_words, specs.Everywhere.Everywhere, proofs.shared.EverywhereLemmas.Everywhere_at}
use Rattle.tsp_promises.specs.{Fits.node_of, Setting.Setting}
use Rattle.tsp_promises.specs.Premises.{Words, WordsAt, NamesApart, Honest, HonestAt}
use Rattle.tsp_rules.specs.Values.{Act, Boot, Placed, Event, BootAt, Turn, Take, Bytes, Took, Peer}
use Rattle.tsp_rules.proofs.FewActs.{is_calm_act}
use Rattle.tsp_rules.specs.{GateRows.boots_all, GateRows.GotOn, GateRows.NodeTurn, GateRows.answers_all, NodeRows.NodeRow}
use Rattle.tsp_base.specs.Words.{HeaderValue, Acts, Begins, Booted, Cause, Line, Step, first_port, joined, line_of, stepped, Handed, Turned, dids, of, up}
use Rattle.tsp_base.specs.Words.{Within}
use Rattle.tsp_codec.specs.Taken.{taken_of}

-- where a run is honest, or its words differ, its text is so

-- what holds everywhere after a step held before it
before_joined : (P : Line → List Line → Type 0) (step : Step) (x : ℕ) (acts : List Placed) (h : List Line) → Everywhere P (joined step x acts h) →
    Everywhere P h
before_joined P step x [] h e = e
before_joined P step x (a ∷ rest) h e = (before_joined P step x rest (line_of step x a.port (Acts a.act) ∷ h) e).1

before_joins : (P : Line → List Line → Type 0) (o : Option Happening) (h : List Line) → Everywhere P (joins o h) → Everywhere P h
before_joins P None h e = e
before_joins P (Some s) h e = (before_joined P s.step s.tick s.acts (line_of s.step s.tick first_port Begins ∷ h) e).1

-- it holds of each of the step's acts
of_act : (P : Line → List Line → Type 0) (step : Step) (x : ℕ) (before : List Placed) (a : Placed) (after : List Placed) (h : List Line) →
    Everywhere P (joined step x (before ++ a ∷ after) h) → (s : List Line) × P (line_of step x a.port (Acts a.act)) s
of_act P step x [] a after h e = (h, (before_joined P step x after (line_of step x a.port (Acts a.act) ∷ h) e).0)
of_act P step x (b ∷ before) a after h e = of_act P step x before a after (line_of step x b.port (Acts b.act) ∷ h) e

-- a place of a history is one of what a step makes of it
in_joined : (s : List Line) (step : Step) (x : ℕ) (acts : List Placed) (h : List Line) → Within s h → Within s (joined step x acts h)
in_joined s step x [] h w = w
in_joined s step x (a ∷ rest) h w = in_joined s step x rest (line_of step x a.port (Acts a.act) ∷ h) (inr w)

in_joins : (s : List Line) (o : Option Happening) (h : List Line) → Within s h → Within s (joins o h)
in_joins s None h w = w
in_joins s (Some k) h w = in_joined s k.step k.tick k.acts (line_of k.step k.tick first_port Begins ∷ h) (inr w)

through_joins : (o : Option Happening) (h whole : List Line) → ((s : List Line) → Within s (joins o h) → Within s whole) → (s : List Line) → Within s h →
    Within s whole
through_joins o h whole k s w = k s (in_joins s o h w)

module _ (clocks : Clocks) {header : HeaderValue} (is : IsSetUp header) (before : List Event) where
  sealed_event : (e : Event) → impossible (scene_by clocks header before) e ≡ None → Honest (run_by clocks header (e ∷ before)) → IsSealed e
  sealed_event (Bytes at node port (Peer p) octets) none honest =
      let step : Step = record { at = at; node = node; cause = Handed } in
      let h = run_by clocks header before in
      let has = (can_happen (scene_by clocks header before) (Bytes at node port (Peer p) octets) none).node.1 in
      let once = got_acts clocks is h step port (Peer p) (taken_of octets) has in
      let row = answers_all (GotOn port (Peer p) (taken_of octets)) in
      let all : Honest (stepped step (tick_by clocks step) (acts_by clocks header h row step) h) =
      subst (λ (k : Happening). Honest (joins (Some k) h)) (steps_are clocks header h row step) honest in
      let took = of_act HonestAt step (tick_by clocks step) once.before (record { port = port; act = Took (Peer p) (taken_of octets) }) once.after
      (line_of step (tick_by clocks step) first_port Begins ∷ h)
      (subst (λ acts. Honest (joined step (tick_by clocks step) acts (line_of step (tick_by clocks step) first_port Begins ∷ h))) once.is all) in
      took.1 refl p (taken_of octets) refl
  sealed_event _ none honest = tt

pub honest_sealed : (clocks : Clocks) (header : HeaderValue) (events : List Event) → PossibleBy clocks header events →
    Honest (run_by clocks header events) → Sealed events
honest_sealed clocks header [] p h = tt
honest_sealed clocks header (e ∷ before) p h = (
  sealed_event clocks p.header_is before e p.happens.0 h,
  honest_sealed clocks header before (possible_before clocks header e before p)
      (before_joins HonestAt (happening_by clocks header (run_by clocks header before) e) (run_by clocks header before) h),
)

-- a boot of a history, with this word
record BootIn (word : ℕ) (h : List Line) : Type 0 where
  pub line : Line
  pub older : List Line
  pub place : Within (line ∷ older) h
  pub boots : line.did.deed ≡ Acts Boot
  pub wall : ℤ
  pub cause : line.did.step.cause ≡ Booted word wall

-- what an event that boots a node leaves
booted_by : (clocks : Clocks) (header : HeaderValue) → IsSetUp header → (at node word : ℕ) (h : List Line) →
    BootIn word (joins (happening_by clocks header h (BootAt at node word)) h)
booted_by clocks header is at node word h =
    let step = boot_by clocks h at node word in
    let x = tick_by clocks step in
    let b = boot_acts clocks is h step in
    let mark = line_of step x first_port Begins in
    let boot = line_of step x first_port (Acts Boot) in
    subst (λ (k : Happening). BootIn word (joins (Some k) h)) (sym (steps_are clocks header h boots_all step))
    (subst (λ acts. BootIn word (stepped step x acts h)) (sym b.is)
    (record {
      line = boot;
      older = mark ∷ h;
      place = in_joined (boot ∷ (mark ∷ h)) step x b.rest (boot ∷ (mark ∷ h)) (inl refl);
      boots = refl;
      wall = _;
      cause = refl;
    }))

-- no boot of these events has the word of a boot before which their run stands
all-otherwise : (clocks : Clocks) (header : HeaderValue) → IsSetUp header → (events : List Event) (word : ℕ) (whole : List Line) →
    ((s : List Line) → Within s (run_by clocks header events) → Within s whole) → ((v : ℕ) → BootIn v whole → v ≢ word) → AllBootOtherwise word events
all-otherwise clocks header is [] word whole k other = tt
all-otherwise clocks header is (e ∷ before) word whole k other = (
  of_event e k,
  all-otherwise clocks header is before word whole
      (through_joins (happening_by clocks header (run_by clocks header before) e) (run_by clocks header before) whole k) other,
) where
  of_event : (e : Event) → ((s : List Line) → Within s (run_by clocks header (e ∷ before)) → Within s whole) → BootsOtherwise word e
  of_event (BootAt at node w) k =
      let b = booted_by clocks header is at node w (run_by clocks header before) in
      other w (record { line = b.line; older = b.older; place = k (b.line ∷ b.older) b.place; boots = b.boots; wall = b.wall; cause = b.cause })
  of_event _ k = tt

module _ (clocks : Clocks) {header : HeaderValue} (is : IsSetUp header) (before : List Event) where
  apart_event : (e : Event) → Words (run_by clocks header (e ∷ before)) → IsApart e before
  apart_event (BootAt at node word) words =
      let step = boot_by clocks (run_by clocks header before) at node word in
      let x = tick_by clocks step in
      let h = run_by clocks header before in
      let b = boot_acts clocks is h step in
      let mark = line_of step x first_port Begins in
      let boot = line_of step x first_port (Acts Boot) in
      let all : Words (joined step x b.rest (boot ∷ (mark ∷ h))) =
      subst (λ acts. Words (stepped step x acts h)) b.is
      (subst (λ (k : Happening). Words (joins (Some k) h)) (steps_are clocks header h boots_all step) words) in
      let here : WordsAt boot (mark ∷ h) = (before_joined WordsAt step x b.rest (boot ∷ (mark ∷ h)) all).0 in
      all-otherwise clocks header is before word h (λ s w. w) (λ v o. here o.line o.older v word _ o.wall (inr o.place) refl o.boots refl o.cause)
  apart_event _ words = tt

pub words_apart : (clocks : Clocks) (header : HeaderValue) (events : List Event) → PossibleBy clocks header events →
    Words (run_by clocks header events) → Apart events
words_apart clocks header [] p w = tt
words_apart clocks header (e ∷ before) p w = (
  apart_event clocks p.header_is before e w,
  words_apart clocks header before (possible_before clocks header e before p)
      (before_joins WordsAt (happening_by clocks header (run_by clocks header before) e) (run_by clocks header before) w),
)

-- where the names of a header's nodes differ, so do those of the nodes of its runs

-- a line is of a node with a number below this
abbrev pub IsBelow : ℕ → Line → List Line → Type 0
IsBelow count l before = node_of l < count

-- a node that is up has a line
is_known : (count n : ℕ) (h : List Line) → Everywhere (IsBelow count) h → up (dids (of n h)) ≡ true → n < count
is_known count n [] all u = absurd (true≢false (sym u))
is_known count n (l ∷ before) all u = by_node (l.did.step.node == n) refl u (λ v. is_known count n before all.1 v) where
  by_node : (b : Bool) → (l.did.step.node == n) ≡ b → up (dids (if b then l ∷ of n before else of n before)) ≡ true →
      (up (dids (of n before)) ≡ true → n < count) → n < count
  by_node true same v older = subst (λ m. m < count) (eqb-true l.did.step.node n same) all.0
  by_node false other v older = older v

module _ (clocks : Clocks) (header : HeaderValue) (before : List Event) (below : Everywhere (IsBelow (length header.nodes)) (run_by clocks header before)) where
  by_row : (row : NodeRow) (step : Step) → step.node < length header.nodes →
      Everywhere (IsBelow (length header.nodes))
      (stepped step (tick_by clocks step) (acts_by clocks header (run_by clocks header before) row step) (run_by clocks header before))
  by_row row step known = each_stepped (IsBelow (length header.nodes)) step (tick_by clocks step)
      (acts_by clocks header (run_by clocks header before) row step) (run_by clocks header before) (λ port deed h. known) below

  below_event : (e : Event) → impossible (scene_by clocks header before) e ≡ None →
      Everywhere (IsBelow (length header.nodes)) (run_by clocks header (e ∷ before))
  below_event (BootAt at node word) none =
      let step = boot_by clocks (run_by clocks header before) at node word in
      subst (λ h. Everywhere (IsBelow (length header.nodes)) (stepped h.step h.tick h.acts (run_by clocks header before)))
      (sym (steps_are clocks header (run_by clocks header before) boots_all step))
      (by_row boots_all step (can_happen (scene_by clocks header before) (BootAt at node word) none).node)
  below_event (Turn at node) none =
      let step : Step = record { at = at; node = node; cause = Turned } in
      let row = answers_all NodeTurn in
      subst (λ h. Everywhere (IsBelow (length header.nodes)) (stepped h.step h.tick h.acts (run_by clocks header before)))
      (sym (steps_are clocks header (run_by clocks header before) row step))
      (by_row row step (can_happen (scene_by clocks header before) (Turn at node) none).node)
  below_event (Bytes at node port from octets) none =
      let step : Step = record { at = at; node = node; cause = Handed } in
      let row = answers_all (GotOn port from (taken_of octets)) in
      subst (λ h. Everywhere (IsBelow (length header.nodes)) (stepped h.step h.tick h.acts (run_by clocks header before)))
      (sym (steps_are clocks header (run_by clocks header before) row step))
      (by_row row step (can_happen (scene_by clocks header before) (Bytes at node port from octets) none).node.0)
  below_event (Take at k) none = elim (takes_or clocks header (run_by clocks header before) at k) [
    | inl a ↦
        let s = scene_by clocks header before in
        let goes : goes_to s.networks (slice_get s.posts k) ≡ Some a.to = ap (λ o. goes_to (networks header) o) a.there ∙ a.goes in
        let wakes : s.up a.to.node ≡ true = up_down s a.to.node (subst (λ o. down s.up (node_in o) ≡ None) goes (can_happen s (Take at k) none).up) in
        subst (λ o. Everywhere (IsBelow (length header.nodes)) (joins o (run_by clocks header before)))
        (sym (taking clocks header (run_by clocks header before) at k a))
        (by_row (taking_row a.post a.to) (taking_step at k a.to) (is_known (length header.nodes) a.to.node (run_by clocks header before) below wakes))
    | inr nothing ↦ subst (λ o. Everywhere (IsBelow (length header.nodes)) (joins o (run_by clocks header before))) (sym nothing.1) below
  ]

-- every line of a run is of a node of its header
all_below : (clocks : Clocks) (header : HeaderValue) (events : List Event) → PossibleBy clocks header events →
    Everywhere (IsBelow (length header.nodes)) (run_by clocks header events)
all_below clocks header [] p = tt
all_below clocks header (e ∷ before) p =
    below_event clocks header before (all_below clocks header before (possible_before clocks header e before p)) e p.happens.0

-- names that differ among the header's nodes do among a history's
apart_in : (clocks : Clocks) (header : HeaderValue) (setting : Setting) → SetByClocks clocks header setting → NamesDiffer header → (h : List Line) →
    Everywhere (IsBelow (length header.nodes)) h → NamesApart setting h
apart_in clocks header setting set differ [] all = tt
apart_in clocks header setting set differ (l ∷ before) all = (
  (λ other older within same. differ (node_of other) (node_of l) (Everywhere_at (IsBelow (length header.nodes)) other older before all.1 within) all.0
      (sym (set.name_is (node_of other)) ∙ same ∙ set.name_is (node_of l))),
  apart_in clocks header setting set differ before all.1,
)

pub names_apart : (clocks : Clocks) (header : HeaderValue) (setting : Setting) (events : List Event) → SetByClocks clocks header setting →
    PossibleBy clocks header events → NamesDiffer header → NamesApart setting (run_by clocks header events)
names_apart clocks header setting events set p differ =
    apart_in clocks header setting set differ (run_by clocks header events) (all_below clocks header events p)

-- where the words of any two boots of a schedule differ, so do those of its run

-- a line is of no boot with this word
abbrev pub OtherWord : ℕ → Line → List Line → Type 0
OtherWord word l before = (v : ℕ) (y : ℤ) → l.did.step.cause ≡ Booted v y → v ≢ word

-- nor is the step of an event that is no boot with it
other_cause : (word : ℕ) (e : Event) (cause : Cause) (v : ℕ) (y : ℤ) → BootsOtherwise word e → IsCause e cause → cause ≡ Booted v y → v ≢ word
other_cause word (BootAt at node w) cause v y f c is same =
    let own = c.1 in
    let first : w ≡ v = cc in
    f (first ∙ same)
other_cause word _ cause v y f c is same = let no : ⊥ = cc in no

-- where no event boots with this word, no line of the run does
other_words : (clocks : Clocks) (header : HeaderValue) (events : List Event) (word : ℕ) → AllBootOtherwise word events →
    Everywhere (OtherWord word) (run_by clocks header events)
other_words clocks header [] word e = tt
other_words clocks header (b ∷ before) word e =
    each_event (OtherWord word) clocks header before (other_words clocks header before word e.1) b
    (λ step x c port deed h v y is. other_cause word b step.cause v y e.0 c is)

calm_boots : (strange : Bool) (a : Act) → is_calm_act strange true a ≡ true → Acts a ≢ Acts Boot
calm_boots strange a calm e =
    let same : a ≡ Boot = cc in
    true≢false (sym (subst (λ k. is_calm_act strange true k ≡ true) same calm))

-- calm acts boot nobody
words_calm : (strange : Bool) (n : ℕ) (step : Step) (x : ℕ) (acts : List Placed) (h : List Line) → AreCalm strange n acts → Words h →
    Words (joined step x acts h)
words_calm strange n step x [] h c words = words
words_calm strange n step x (a ∷ rest) h c words =
    words_calm strange n step x rest (line_of step x a.port (Acts a.act) ∷ h) c.2
    ((λ other older v w y z within own boot first second. absurd (calm_boots strange a.act c.1 own)), words)

-- the Boot of a step has another word than all before
boot_words : (step : Step) (x word : ℕ) (wall : ℤ) (h : List Line) → step.cause ≡ Booted word wall → Everywhere (OtherWord word) h →
    WordsAt (line_of step x first_port (Acts Boot)) (line_of step x first_port Begins ∷ h)
boot_words step x word wall h cause others other older v w y z within own boot first second = elim within [
  | inl e ↦
      let mark : other ≡ line_of step x first_port Begins = cc in
      let begins : Begins ≡ Acts Boot = sym (ap (λ (l : Line). l.did.deed) mark) ∙ boot in
      let no : ⊥ = cc in
      absurd no
  | inr before ↦
      let same : word ≡ w = cc in
      λ (is : v ≡ w). Everywhere_at (OtherWord word) other older h others before v z second (is ∙ sym same)
]

module _ (clocks : Clocks) {header : HeaderValue} (is : IsSetUp header) (before : List Event) (words : Words (run_by clocks header before)) where
  words_event : (e : Event) → IsApart e before → Words (run_by clocks header (e ∷ before))
  words_event (BootAt at node word) f =
      let step = boot_by clocks (run_by clocks header before) at node word in
      let x = tick_by clocks step in
      let h = run_by clocks header before in
      let b = boot_acts clocks is h step in
      let mark : Words (line_of step x first_port Begins ∷ h) = ((λ other older v w y z within own boot first second. let no : ⊥ = cc in absurd no), words) in
      subst (λ (h : Happening). Words (joins (Some h) (run_by clocks header before))) (sym (steps_are clocks header h boots_all step))
      (subst (λ acts. Words (stepped step x acts h)) (sym b.is)
      (words_calm false _ step x b.rest (line_of step x first_port (Acts Boot) ∷ line_of step x first_port Begins ∷ h) b.calm
      (boot_words step x word _ h refl (other_words clocks header before word f), mark)))
  words_event (Turn at node) f =
      each_event WordsAt clocks header before words (Turn at node)
      (λ step x c port deed h other older v w y z within own boot is that. let no : ⊥ = cc in absurd no)
  words_event (Take at k) f = each_event WordsAt clocks header before words (Take at k)
      (λ step x c port deed h other older v w y z within own boot is that. let no : ⊥ = cc in absurd no)
  words_event (Bytes at node port from octets) f =
      each_event WordsAt clocks header before words (Bytes at node port from octets)
      (λ step x c port deed h other older v w y z within own boot is that. let no : ⊥ = cc in absurd no)

-- so it is with each run
pub apart_words : (clocks : Clocks) (header : HeaderValue) (events : List Event) → PossibleBy clocks header events → Apart events →
    Words (run_by clocks header events)
apart_words clocks header [] p d = tt
apart_words clocks header (e ∷ before) p d =
    words_event clocks p.header_is before (apart_words clocks header before (possible_before clocks header e before p) d.1) e d.0

pub clocked_runs_keep_premises : ClockedRunsKeepPremises
clocked_runs_keep_premises clocks header events p = record {
  honest = λ s. sealed_honest clocks header events p s;
  only_honest = λ h. honest_sealed clocks header events p h;
  life = λ early. prompt_life clocks header events early;
  words = λ w. apart_words clocks header events p w;
  only_words = λ w. words_apart clocks header events p w;
  own_words = λ w. own_words (run_by clocks header events) (apart_words clocks header events p w);
  few = λ s. short_few (run_by clocks header events) s;
  few_own = λ s. let set = clocks_are_set clocks header p.header_is p.keeps in
      own_few set.0 (run_by clocks header events) (clocked_runs_fit clocks header set.0 events set.1 p).0 s;
  names = λ setting set differ. names_apart clocks header setting events set p differ;
}

-- so they do of a possible schedule's run
pub possible_runs_keep_premises : PossibleRunsKeepPremises
possible_runs_keep_premises header events p =
    kept_own header events (clocked_runs_keep_premises (clocks_of header) header events (possible_own header events p))

-- and of an accepted one's
pub runs_keep_premises : RunsKeepPremises
runs_keep_premises header events a = possible_runs_keep_premises header events (accepted_possible header events a)
