-- A run up to a true time: the run of its events up to then.
use Rattle.std.proofs.Common.{sym, ap, subst, arith, true≢false, inl, inr, ◌∙◌, ◌≡◌, ◌≤◌, ◌<◌, ◌⊎◌, ℕ, ◌+◌, ◌==◌, nat_le, if◌then◌else◌, Bool, true, false}
use Rattle.std.proofs.Common.{List, [], ◌∷◌, Option, None, Some, eqb-true, leb-true, le-leb, refl}
use Rattle.std.proofs.lemmas.Bool.{cases_lt}
use Rattle.tsp_rules.specs.Values.{Event, Placed, Port}
use Rattle.tsp_base.specs.Words.{Acts, Begins, Did, HeaderValue, Here, Line, Seen, Step, Within, dids, first_port, joined}
use Rattle.tsp_base.specs.Words.{line_of, of, stepped, time_of, view}
use Rattle.tsp_base.proofs.PlaceLemmas.{Within_all, Within_through}
use Rattle.tsp_base.proofs.ViewPlaces.{here_is, shown}
use Rattle.tsp_promises.specs.{Fits.Fits, Fits.node_of, Setting.Setting}
use Rattle.tsp_promises.proofs.{shared.Clocks.tick_mono, shared.EverywhereLemmas.Everywhere_at, shared.HistoryPlaces.Within_of, shared.HistoryPlaces.lift}
use Rattle.tsp_promises.proofs.promised.OwnFitsProof.{fits_at, place_time, tick_in}
use Rattle.tsp_run.specs.Clocked.{Clocks, happening_by, run_by}
use Rattle.tsp_run.specs.Run.{Happening, joins}
use Rattle.tsp_run.proofs.RunLemmas.{stepped_other}
use Rattle.tsp_progress.specs.{Delivered.Delivered, Delivered.PostsTo, FoundInTime.Changed, OneStops.ChangedBy, Watched.Attended}
use Rattle.tsp_progress.specs.{Watched.AttendedAt, Watched.Told, Watched.Watched}
use Rattle.tsp_progress.proofs.{SearchKept.view_within, TableRows.within_joined}

-- what a step adds is of the step
new_or_old : (step : Step) (x : ℕ) (acts : List Placed) (h : List Line) (k : Line) (w : List Line) → Within (k ∷ w) (joined step x acts h) →
    (k.did.step ≡ step) ⊎ Within (k ∷ w) h
new_or_old step x [] h k w v = inr v
new_or_old step x (p ∷ rest) h k w v = elim (new_or_old step x rest (line_of step x p.port (Acts p.act) ∷ h) k w v) [
  | inl e ↦ inl e
  | inr u ↦ elim u [
    | inl e ↦ inl (let same : k ≡ line_of step x p.port (Acts p.act) = cc in ap (λ (j : Line). j.did.step) same)
    | inr u ↦ inr u
  ]
]

pub joined_time : (step : Step) (x : ℕ) (acts : List Placed) (l : Line) (h : List Line) → l.did.step.at ≡ step.at →
    time_of (dids (joined step x acts (l ∷ h))) ≡
    step.at
joined_time step x [] l h e = e
joined_time step x (p ∷ rest) l h e = joined_time step x rest (line_of step x p.port (Acts p.act)) (l ∷ h) refl

-- a line of a history to which something was joined
old_or_last : (o : Option Happening) (h : List Line) (k : Line) (w : List Line) → Within (k ∷ w) (joins o h) →
    (k.did.step.at ≡ time_of (dids (joins o h))) ⊎ Within (k ∷ w) h
old_or_last None h k w v = inr v
old_or_last (Some a) h k w v =
    let mark = line_of a.step a.tick first_port Begins in
    elim (new_or_old a.step a.tick a.acts (mark ∷ h) k w v) [
      | inl e ↦ inl (ap (λ (s : Step). s.at) e ∙ sym (joined_time a.step a.tick a.acts mark h refl))
      | inr u ↦ elim u [
        | inl e ↦ inl (let same : k ≡ mark = cc in ap (λ (j : Line). j.did.step.at) same ∙ sym (joined_time a.step a.tick a.acts mark h refl))
        | inr u ↦ inr u
      ]
    ]

pub joins_within : (o : Option Happening) (h : List Line) → Within h (joins o h)
joins_within None h = Within_all h
joins_within (Some a) h = within_joined a.step a.tick a.acts (line_of a.step a.tick first_port Begins ∷ h) h (inr (Within_all h))

above : (a x : ℕ) → nat_le a x ≡ false → x < a
above a x e = elim (cases_lt x a) [
  | inl less ↦ less
  | inr most ↦ absurd (true≢false (sym (le-leb a x most) ∙ e))
]

module _ (clocks : Clocks) (header : HeaderValue) (x : ℕ) where
  abbrev Run : List Event → List Line
  Run = run_by clocks header

  -- the events up to the time x
  pub cut : List Event → List Event
  cut [] = []
  cut (e ∷ rest) = if nat_le (time_of (dids (run_by clocks header (e ∷ rest)))) x then e ∷ rest else cut rest

  pub cut_time : (events : List Event) → time_of (dids (Run (cut events))) ≤ x
  unfolding cut
  cut_time [] = omega arith
  cut_time (e ∷ rest) = by_case (nat_le (time_of (dids (Run (e ∷ rest)))) x) refl (cut_time rest) where
    by_case : (b : Bool) → nat_le (time_of (dids (Run (e ∷ rest)))) x ≡ b → time_of (dids (Run (cut rest))) ≤ x →
        time_of (dids (Run (if b then e ∷ rest else cut rest))) ≤ x
    by_case true le older = leb-true (time_of (dids (Run (e ∷ rest)))) x le
    by_case false le older = older

  pub cut_within : (events : List Event) → Within (Run (cut events)) (Run events)
  unfolding cut
  cut_within [] = refl
  cut_within (e ∷ rest) = by_case (nat_le (time_of (dids (Run (e ∷ rest)))) x) (cut_within rest) where
    by_case : (b : Bool) → Within (Run (cut rest)) (Run rest) → Within (Run (if b then e ∷ rest else cut rest)) (Run (e ∷ rest))
    by_case true older = Within_all (Run (e ∷ rest))
    by_case false older = Within_through (Run (cut rest)) (Run rest) (Run (e ∷ rest)) older (joins_within (happening_by clocks header (Run rest) e) (Run rest))

  -- what isn't later stands in it
  pub cut_has : (events : List Event) (k : Line) (w : List Line) → Within (k ∷ w) (Run events) → k.did.step.at ≤ x → Within (k ∷ w) (Run (cut events))
  unfolding cut
  cut_has [] k w v soon = let bad : ⊥ = cc in absurd bad
  cut_has (e ∷ rest) k w v soon = by_case (nat_le (time_of (dids (Run (e ∷ rest)))) x) refl (λ u. cut_has rest k w u soon) where
    by_case : (b : Bool) → nat_le (time_of (dids (Run (e ∷ rest)))) x ≡ b → (Within (k ∷ w) (Run rest) → Within (k ∷ w) (Run (cut rest))) →
        Within (k ∷ w) (Run (if b then e ∷ rest else cut rest))
    by_case true le older = v
    by_case false le older = elim (old_or_last (happening_by clocks header (Run rest) e) (Run rest) k w v) [
      | inl last ↦ absurd (let late = above (time_of (dids (Run (e ∷ rest)))) x le in omega (arith, last, late, soon))
      | inr u ↦ older u
    ]

  -- a node's next step after it
  pub record NextBegins (events : List Event) (n : ℕ) : Type 0 where
    pub line : Line
    pub before : List Line
    pub place : Within (line ∷ before) (Run events)
    pub node : node_of line ≡ n
    pub begins : line.did.deed ≡ Begins
    pub same : of n before ≡ of n (Run (cut events))
    pub late : x < line.did.step.at

  pub cut_next : (events : List Event) (n : ℕ) → (of n (Run events) ≡ of n (Run (cut events))) ⊎ NextBegins events n
  unfolding cut
  cut_next [] n = inl refl
  cut_next (e ∷ rest) n = by_case (nat_le (time_of (dids (Run (e ∷ rest)))) x) refl (cut_next rest n) where
    later : (b : Bool) → nat_le (time_of (dids (Run (e ∷ rest)))) x ≡ false → b ≡ false → NextBegins rest n →
        (of n (Run (e ∷ rest)) ≡ of n (Run (if b then e ∷ rest else cut rest))) ⊎ NextBegins (e ∷ rest) n
    later b le is nb = inr (record {
      line = nb.line;
      before = nb.before;
      place = Within_through (nb.line ∷ nb.before) (Run rest) (Run (e ∷ rest)) nb.place (joins_within (happening_by clocks header (Run rest) e) (Run rest));
      node = nb.node;
      begins = nb.begins;
      same = nb.same ∙ ap (λ c. of n (Run (if c then e ∷ rest else cut rest))) (sym le);
      late = nb.late;
    })

    step : (o : Option Happening) → happening_by clocks header (Run rest) e ≡ o → nat_le (time_of (dids (joins o (Run rest)))) x ≡ false →
        nat_le (time_of (dids (Run (e ∷ rest)))) x ≡ false → of n (Run rest) ≡ of n (Run (cut rest)) →
        (of n (joins o (Run rest)) ≡ of n (Run (cut rest))) ⊎ NextBegins (e ∷ rest) n
    step None is late le same = inl same
    step (Some a) is late le same = by_node (a.step.node == n) refl where
      by_node : (c : Bool) → (a.step.node == n) ≡ c → (of n (stepped a.step a.tick a.acts (Run rest)) ≡ of n (Run (cut rest))) ⊎ NextBegins (e ∷ rest) n
      by_node false other = inl (stepped_other n a.step a.tick a.acts (Run rest) other ∙ same)
      by_node true own =
          let mark = line_of a.step a.tick first_port Begins in
          let time = joined_time a.step a.tick a.acts mark (Run rest) refl in
          let more = above (time_of (dids (stepped a.step a.tick a.acts (Run rest)))) x late in
          inr (record {
            line = mark;
            before = Run rest;
            place = subst (λ o. Within (mark ∷ Run rest) (joins o (Run rest))) (sym is)
                (within_joined a.step a.tick a.acts (mark ∷ Run rest) (mark ∷ Run rest) (Within_all (mark ∷ Run rest)));
            node = eqb-true a.step.node n own;
            begins = refl;
            same = same ∙ ap (λ c. of n (Run (if c then e ∷ rest else cut rest))) (sym le);
            late = omega (arith, time, more);
          })

    by_case : (b : Bool) → nat_le (time_of (dids (Run (e ∷ rest)))) x ≡ b → (of n (Run rest) ≡ of n (Run (cut rest))) ⊎ NextBegins rest n →
        (of n (Run (e ∷ rest)) ≡ of n (Run (if b then e ∷ rest else cut rest))) ⊎ NextBegins (e ∷ rest) n
    by_case true le older = inl refl
    by_case false le (inr nb) = later false le refl nb
    by_case false le (inl same) = step (happening_by clocks header (Run rest) e) refl le le same

-- what is asked for holds of it, up to that time
module _ (clocks : Clocks) (header : HeaderValue) (x : ℕ) (setting : Setting) (events : List Event) (fits : Fits setting (run_by clocks header events)) where
  abbrev Whole : List Line
  Whole = run_by clocks header events

  abbrev Part : List Line
  Part = run_by clocks header (cut clocks header x events)

  watched_less : (late y z : ℕ) (seen : List Seen) → y ≤ z → Watched late z seen → Watched late y seen
  watched_less late y z seen le w = record {
    alarms = λ a at e. let due = w.alarms a at e in omega (arith, due, le);
    sends = λ p s e. let due = w.sends p s e in omega (arith, due, le);
  }

  pub told_cut : (late t n : ℕ) → Attended late Whole → Told late setting t n Whole → x < t → Told late setting (x + 1) n Part
  told_cut late t n attended told less q = elim (cut_next clocks header x events n) [
    | inl same ↦ watched_less late (setting.tick n (x + 1)) (setting.tick n t) (view q (of n Part)) (tick_mono setting n (x + 1) t (omega (arith, less)))
        (subst (λ ls. Watched late (setting.tick n t) (view q ls)) same (told q))
    | inr nb ↦
        let here : Watched late nb.line.did.tick (view q (of (node_of nb.line) nb.before)) =
        Everywhere_at (AttendedAt late) nb.line nb.before Whole attended nb.place nb.begins q in
        let seen : of (node_of nb.line) nb.before ≡ of n Part = ap (λ k. of k nb.before) nb.node ∙ nb.same in
        let tick : nb.line.did.tick ≡ setting.tick n nb.line.did.step.at = tick_in setting n nb.line nb.before Whole fits nb.node nb.place in
        let late_line = nb.late in
        let mono = tick_mono setting n (x + 1) nb.line.did.step.at (omega (arith, late_line)) in
        watched_less late (setting.tick n (x + 1)) nb.line.did.tick (view q (of n Part)) (omega (arith, tick, mono))
        (subst (λ ls. Watched late nb.line.did.tick (view q ls)) seen here)
  ]

  pub delivered_cut : (long t : ℕ) (stays : ℕ → Bool) (s : List Line) → Delivered setting long t stays s Whole → x < t →
      Delivered setting long (x + 1) stays s Part
  delivered_cut long t stays s delivered less l older p d posts since there early =
      let whole : PostsTo setting l older Whole p d = record {
        place = Within_through (l ∷ older) Part Whole posts.place (cut_within clocks header x events);
        deed = posts.deed;
        member = posts.member;
        other = posts.other;
      } in
      let a = delivered l older p d whole since there (omega (arith, early, less)) in
      let soon = a.soon in
      record {
        line = a.line;
        before = a.before;
        place = cut_has clocks header x events a.line a.before a.place (omega (arith, soon, early));
        later = a.later;
        node = a.node;
        net = a.net;
        came = a.came;
        took = a.took;
        soon = a.soon;
      }

  -- a change in it comes by that time
  pub changed_cut : (n : ℕ) (q : Port) (early : List Seen) → Changed early (view q (of n Part)) → ChangedBy x early (view q (of n Whole))
  changed_cut n q early c =
      let within = cut_within clocks header x events in
      let line = shown q (of n Part) (Here c.change) c.before c.place in
      let same = (here_is _ line.line.did c.change line.is).1 in
      let there = lift n Part line.line line.rest line.place in
      let time = place_time setting (line.line ∷ there.world) Part (fits_at setting Part Whole fits within) there.place in
      let most = cut_time clocks header x events in
      let at = ap (λ (d : Did). d.step.at) same in
      record {
        change = c.change;
        before = c.before;
        place = Within_through (Here c.change ∷ c.before) (view q (of n Part)) (view q (of n Whole)) c.place
            (view_within q (of n Part) (of n Whole) (Within_of n Part Whole within));
        since = c.since;
        is = c.is;
        soon = omega (arith, time, most, at);
      }
