-- In a stretch without a master: after who stands nobody else does for long; and the first one that stands after some time.
use Rattle.std.proofs.Common.{sym, ap, subst, arith, true≢false, inl, inr, ◌∙◌, ◌≡◌, ◌≤◌, ◌<◌, ◌⊎◌, ℕ, ◌+◌, ◌==◌, Bool, true, false}
use Rattle.std.proofs.Common.{List, [], ◌∷◌, eqb-true, length, refl}
use Rattle.std.proofs.lemmas.Bool.{cases_lt}
use Rattle.tsp_rules.specs.Values.{Back, Become, Elect, Ring, Port, Candidate, HOLD}
use Rattle.tsp_base.specs.Words.{Acts, Deed, Did, Elsewhere, HeaderValue, Here, Line, Seen, Within, dids, first_port, of, time_of, view}
use Rattle.tsp_base.proofs.PlaceLemmas.{Within_all, Within_length, Within_tail, Within_through}
use Rattle.tsp_base.proofs.ViewPlaces.{port_same}
use Rattle.tsp_promises.specs.{Fits.node_of, Setting.Setting}
use Rattle.tsp_promises.proofs.{shared.Clocks.near, shared.Clocks.tick_mono, shared.ElectionFacts.held_at, shared.HistoryPlaces.line_on}
use Rattle.tsp_promises.proofs.promised.OwnFitsProof.{fits_at, locate, place_time, seen_in, tick_in, view_line}
use Rattle.tsp_run.specs.Clocked.{Clocks}
use Rattle.tsp_progress.specs.{AlarmsFit.newest_is, AlarmsFit.stands_by, CausesFit.elects_by, Headless.delay_of, RunsWake.manner_of}
use Rattle.tsp_progress.proofs.{ElectAhead.BackedSince, TimePlaces.before_time}
use Rattle.tsp_progress.proofs.StretchFacts.{Candidacy, Stretch, after_s, term}
use Rattle.tsp_progress.proofs.WaveBacks.{backed_for, struck}
use Rattle.tsp_progress.proofs.WaveFacts.{alarms_of, later_back, no_boot, rise_of, stand_at, stand_back, stand_late, stand_rang, stand_since, stand_tick}
use Rattle.tsp_progress.proofs.WaveFacts.{stand_time, view_length}

-- since when nobody may have stood, so that none holds anybody any more
abbrev pub gap : ℕ → ℕ → ℕ
gap late long = HOLD + 100000 + term late + long

both_newest : (seen : List Seen) → newest_is stands_by seen ≡ true → newest_is elects_by seen ≡ true → ⊥
both_newest [] e f = true≢false (sym e)
both_newest (Elsewhere d ∷ older) e f = true≢false (sym e)
both_newest (Here d ∷ older) e f = by_deed d.deed e f where
  by_deed : (deed : Deed) → stands_by deed ≡ true → elects_by deed ≡ true → ⊥
  by_deed (Acts (Ring Elect)) e f = true≢false (sym e)
  by_deed _ e f = true≢false (sym f)

module _ {clocks : Clocks} {header : HeaderValue} {setting : Setting} {late long t : ℕ} {stays : ℕ → Bool} {s world : List Line}
    (k : Stretch clocks header setting late long t stays s world) where
  -- x stands at u, and n, later, at y
  module _ {x n u y : ℕ} (sx : Candidacy x u world) (sn : Candidacy n y world) (there : stays x ≡ true) (here : stays n ≡ true)
      (settled : time_of (dids s) + long < u) (later : u + long < y) (until : y ≤ t) where
    abbrev Before : List Line
    Before = (stand_at k sn).older

    before-in : Within Before world
    before-in = Within_tail (line_on first_port sn.start) Before world (stand_at k sn).place

    idle-is : view first_port (of n Before) ≡ sn.idle
    idle-is = (stand_at k sn).before

    settled-n : time_of (dids s) + long < y
    settled-n = omega (arith, settled, later)

    -- n has backed somebody since not long before u
    pub record Since : Type 0 where
      pub b : ℕ
      pub recent : setting.tick n u < b + HOLD
      pub back : BackedSince b sn.idle

    by-other : (n == x) ≡ false → Since
    by-other other =
        let st = struck k sx settled there here other (omega (arith, later, until)) in
        let early = st.early in
        let soon = st.soon in
        let time = stand_time k sn in
        let recent = st.recent in
        let mono = tick_mono setting n u st.at early in
        record {
          b = st.b;
          recent = omega (arith, mono, recent);
          back = subst (λ z. BackedSince st.b z) idle-is (later_back k st.backed Before before-in (omega (arith, soon, later, time)));
        }

    by-own : n ≡ x → Since
    by-own own =
        let C = line_on first_port sx.start in
        let o = stand_at k sx in
        let order : Within (C ∷ o.older) Before = before_time setting world k.fits C o.older (line_on first_port sn.start) Before o.place (stand_at k sn).place
        (let at = sx.at in let at' = sn.at in omega (arith, at, at', later)) in
        let node : node_of C ≡ n = o.node ∙ sym own in
        let w : Within (Here sx.start ∷ view first_port (of n o.older)) (view first_port (of n Before)) = seen_in n C o.older Before node order in
        let early-in : Within (C ∷ o.older) world = o.place in
        let len : length (view first_port (of n (C ∷ o.older))) ≡ length (of n (C ∷ o.older)) = view_length first_port (of n (C ∷ o.older)) in
        let seen : view first_port (of n (C ∷ o.older)) ≡ Here sx.start ∷ view first_port (of n o.older) = view_line n C o.older node in
        let back = (stand_back (manner_of header n) (view first_port (of n Before)) (alarms_of k n Before before-in) (rise_of k n Before before-in) sx.start
        (view first_port (of n o.older)) sx.deed w
        (λ d before place after. no_boot k n (C ∷ o.older) Before order before-in (inr (stand_since k sx settled)) d before place
        (let le = Within_length (Here sx.start ∷ view first_port (of n o.older)) before after in let more = ap length seen in omega (arith, le, len, more)))).0
        in
        let tick = stand_tick k sx in
        elim back [
          | inl just ↦ absurd (both_newest sn.idle (subst (λ z. newest_is stands_by z ≡ true) idle-is just) (stand_rang k sn settled-n))
          | inr b ↦ record {
            b = sx.start.tick;
            recent = (let same = ap (λ z. setting.tick z u) own in omega (arith, tick, same));
            back = subst (λ z. BackedSince sx.start.tick z) idle-is b;
          }
        ]

    since : Since
    since = by_node (n == x) refl where
      by_node : (b : Bool) → (n == x) ≡ b → Since
      by_node true e = by-own (eqb-true n x e)
      by_node false e = by-other e

    -- so its delay passed but for the hold
    pub calm_after : setting.tick n u + delay_of n s < setting.tick n y + HOLD
    calm_after =
        let le = stand_late k sn settled-n since.b since.back in
        let recent = since.recent in
        let tick = stand_tick k sn in
        omega (arith, le, recent, tick)

    -- and where nobody stood for long before u, its whole delay
    module _ (clean : (z w : ℕ) → stays z ≡ true → Candidacy z w world → u ≤ w + gap late long → w < u → ⊥)
        (long-since : time_of (dids s) + long + HOLD + 100000 < u) where
      abbrev At : ℕ
      At = since.back.at

      held-there : (did : Did) (before : List Seen) → Within (Here did ∷ before) sn.idle → did.deed ≡ Acts (Back since.back.of_peer) → did.tick ≡ At →
          setting.tick n u ≤ At
      held-there did before place deed tick =
          let inside : Within (Here did ∷ before) (view first_port (of n world)) =
          Within_through (Here did ∷ before) sn.idle (view first_port (of n world)) place
          (Within_tail (Here sn.start) sn.idle (view first_port (of n world)) sn.place) in
          let l = locate n first_port world did before (rw deed refl) inside in
          let own = tick_in setting n (line_on first_port did) l.older world k.fits l.node l.place in
          let recent = since.recent in
          let from = since.back.since in
          elim (cases_lt did.step.at u) [
            | inl less ↦
                let nr = near setting n did.step.at u (omega (arith, less)) in
                let least = nr.least in
                let soon : u ≤ did.step.at + HOLD + 100000 = omega (arith, least, own, tick, recent, from) in
                let b = backed_for k n here did before inside since.back.of_peer deed (omega (arith, soon, long-since)) (omega (arith, less, later, until)) in
                let low = b.stood.early in
                let high = b.stood.soon in
                absurd (clean b.x b.stood.at b.stood.there b.stood.stood (omega (arith, soon, high)) (omega (arith, low, less)))
            | inr more ↦ let mono = tick_mono setting n u did.step.at more in omega (arith, mono, own, tick)
          ]

      pub clean_after : setting.tick n u + delay_of n s ≤ setting.tick n y
      clean_after =
          let h = held_at At since.back.of_peer sn.idle since.back.back_is in
          let le = stand_late k sn settled-n At (record { at = At; of_peer = since.back.of_peer; back_is = since.back.back_is; since = omega arith }) in
          let low = held-there h.did h.before h.place h.deed h.tick in
          let tick = stand_tick k sn in
          omega (arith, le, low, tick)

  -- the first that stands after the true time a
  pub record FirstStand (a : ℕ) : Type 0 where
    pub x : ℕ
    pub u : ℕ
    pub there : stays x ≡ true
    pub standing : Candidacy x u world
    pub after : a < u
    pub first : (z w : ℕ) → Candidacy z w world → a < w → u ≤ w

  abbrev IsStand : Line → Type 0
  IsStand l = (l.did.deed ≡ Acts (Become Candidate)) × (l.port ≡ first_port)

  record FirstIn (a : ℕ) (h : List Line) : Type 0 where
    pub line : Line
    pub older : List Line
    pub place : Within (line ∷ older) h
    pub is : IsStand line
    pub after : a < line.did.step.at
    pub first : (l : Line) (rest : List Line) → Within (l ∷ rest) h → IsStand l → a < l.did.step.at → line.did.step.at ≤ l.did.step.at

  abbrev NoneIn : ℕ → List Line → Type 0
  NoneIn a h = (l : Line) (rest : List Line) → Within (l ∷ rest) h → IsStand l → l.did.step.at ≤ a

  search_in : (a : ℕ) (h : List Line) → Within h world → FirstIn a h ⊎ NoneIn a h
  search_in a [] w = inr (λ l rest v is. let bad : ⊥ = cc in absurd bad)
  search_in a (c ∷ h) w = elim (search_in a h (Within_tail c h world w)) [
    | inl f ↦ inl (record {
      line = f.line;
      older = f.older;
      place = inr f.place;
      is = f.is;
      after = f.after;
      first = λ l rest v is less. elim v [
        | inl e ↦
            let same : l ≡ c = cc in
            let time = ap (λ (z : Line). z.did.step.at) same in
            let order = place_time setting (f.line ∷ f.older) (c ∷ h) (fits_at setting (c ∷ h) world k.fits w) (inr f.place) in
            omega (arith, time, order)
        | inr u ↦ f.first l rest u is less
      ];
    })
    | inr none ↦ by_flag (stands_by c.did.deed) refl none
  ] where
    skip : NoneIn a h → (IsStand c → c.did.step.at ≤ a) → FirstIn a (c ∷ h) ⊎ NoneIn a (c ∷ h)
    skip none here = inr (λ l rest v is. elim v [
      | inl e ↦
          let same : l ≡ c = cc in
          let time = ap (λ (z : Line). z.did.step.at) same in
          let le = here (ap (λ (z : Line). z.did.deed) (sym same) ∙ is.0, ap (λ (z : Line). z.port) (sym same) ∙ is.1) in
          omega (arith, time, le)
      | inr u ↦ none l rest u is
    ])

    by_time : (c.did.deed ≡ Acts (Become Candidate)) → c.port ≡ first_port → NoneIn a h → FirstIn a (c ∷ h) ⊎ NoneIn a (c ∷ h)
    by_time deed port none = elim (cases_lt a c.did.step.at) [
      | inl less ↦ inl (record {
        line = c;
        older = h;
        place = inl refl;
        is = (deed, port);
        after = less;
        first = λ l rest v is more. elim v [
          | inl e ↦ let same : l ≡ c = cc in let time = ap (λ (z : Line). z.did.step.at) same in omega (arith, time)
          | inr u ↦ let le = none l rest u is in absurd (omega (arith, le, more))
        ];
      })
      | inr le ↦ skip none (λ is. le)
    ]

    by_port : (c.did.deed ≡ Acts (Become Candidate)) → NoneIn a h → (b : Bool) → (c.port.0 == 0) ≡ b → FirstIn a (c ∷ h) ⊎ NoneIn a (c ∷ h)
    by_port deed none true e = by_time deed (port_same c.port first_port e) none
    by_port deed none false e = skip none (λ is. absurd (true≢false (sym (ap (λ (q : Port). q.0 == 0) is.1) ∙ e)))

    stands_is : (deed : Deed) → stands_by deed ≡ true → deed ≡ Acts (Become Candidate)
    stands_is (Acts (Become Candidate)) e = refl
    stands_is _ e = absurd (true≢false (sym e))

    by_flag : (b : Bool) → stands_by c.did.deed ≡ b → NoneIn a h → FirstIn a (c ∷ h) ⊎ NoneIn a (c ∷ h)
    by_flag true e none = by_port (stands_is c.did.deed e) none (c.port.0 == 0) refl
    by_flag false e none = skip none (λ is. absurd (true≢false (sym (ap stands_by is.0) ∙ e)))

  stand-line : {z w : ℕ} (st : Candidacy z w world) → IsStand (line_on first_port st.start)
  stand-line st = (st.deed, refl)

  pub first_stand : (a : ℕ) → time_of (dids s) ≤ a → FirstStand a ⊎ ((z w : ℕ) → Candidacy z w world → w ≤ a)
  first_stand a from = elim (search_in a world (Within_all world)) [
    | inl f ↦ inl (record {
      x = node_of f.line;
      u = f.line.did.step.at;
      there = (let after = f.after in k.calm.only f.line f.older f.place (after_s k f.line f.older f.place (omega (arith, after, from))));
      standing = record {
        start = f.line.did;
        idle = view first_port (of (node_of f.line) f.older);
        place = subst (λ q. Within (Here f.line.did ∷ view q (of (node_of f.line) f.older)) (view q (of (node_of f.line) world))) f.is.1
            (seen_in (node_of f.line) f.line f.older world refl f.place);
        deed = f.is.0;
        at = refl;
      };
      after = f.after;
      first = λ z w st less. let at = st.at in
          let le = f.first (line_on first_port st.start) (stand_at k st).older (stand_at k st).place (stand-line st) (omega (arith, at, less)) in
          omega (arith, at, le);
    })
    | inr none ↦ inr (λ z w st. let at = st.at in
        let le = none (line_on first_port st.start) (stand_at k st).older (stand_at k st).place (stand-line st) in omega (arith, at, le))
  ]
