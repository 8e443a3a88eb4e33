-- What reads of a board gave, told or not, and what a turn makes of that.
use Rattle.std.proofs.Common.{ap, sym, subst, refl, ◌∙◌, ◌≡◌, ℕ, ℤ, Bool, true, false, List, [], ◌∷◌, length, Option, None, Some, if◌then◌else◌}
use Rattle.std.{proofs.lemmas.Bool.false≢true, specs.Option.option_map}
use Rattle.tsp_gateway.specs.{GatewayStands.GatewayStands, declared.gateway.Gateway.Gateway}
use Rattle.tsp_io.specs.{Boards.Mark, Boards.Sees, Boards.TakesView, Boards.first_view, Boards.views_left, Origins.origin_then}
use Rattle.tsp_io.specs.declared.{origin.Origin.Origin, ticker.Ticker.Ghosts as TickerOf}
use Rattle.tsp_page.specs.declared.daemon_half.DaemonHalf.{DaemonHalf}
use Rattle.tsp_query.specs.Outside.{paged}
use Rattle.tsp_rules.specs.{NodeRows.NodePast, Values.Placed}
use Rattle.tsp_daemon.specs.Pages.{AreReads, LeavesSheet, NotesMarks, Page, Sheet, Stays, Turns, asked_of, change_page, half_after, half_alive, half_in_turn}
use Rattle.tsp_daemon.specs.Pages.{half_marks, is_silent, looks_in_turn, marks_by, marks_with, moment_after, page_by, page_with, sheet_by}
use Rattle.tsp_daemon.specs.Pages.{tuned_at, tuned_by, views_after}
use Rattle.tsp_daemon.proofs.PageLemmas.{Marks_none, reads_before, still_told}

pub same_page_in : (a b : Page) → Some a ≡ Some b → a ≡ b
same_page_in a b e = cc

sees_some : (v : Option (List ℕ)) (buf : List ℕ) → Sees v true buf → v ≡ Some buf
sees_some None buf h = absurd (false≢true (sym h))
sees_some (Some octets) buf h = ap (λ (os : List ℕ). Some os) (sym h.1)

sees_none : (v : Option (List ℕ)) (buf : List ℕ) → Sees v false buf → v ≡ None
sees_none None buf h = refl
sees_none (Some octets) buf h = absurd (false≢true h.0)

-- a read of the look's half: of what was told, or of reads that fit
read_gave : (old new : Option (List Mark)) (seen : Bool) (buf : List ℕ) → length buf ≡ 336 → TakesView old new 512 336 seen buf → (left : List Mark) →
    AreReads left new → (views : List Mark) × AreReads views old × (views_left views ≡ left) × Sees (first_view 512 336 views) seen buf
read_gave (Some views) new seen buf l t left h = (views, refl, subst (λ (o : Option (List Mark)). AreReads left o) t.0 h, t.1)
read_gave None new true buf l t left h = ((512, buf) ∷ left, tt, refl, rw l (refl, refl))
read_gave None new false buf l t left h = ((512, []) ∷ left, tt, refl, refl)

pub saw : (old new : Option (List Mark)) (seen : Bool) (buf : List ℕ) → length buf ≡ 336 → seen ≡ true → TakesView old new 512 336 seen buf →
    (left : List Mark) → AreReads left new → (views : List Mark) × AreReads views old × (views_left views ≡ left) × (first_view 512 336 views ≡ Some buf)
saw old new seen buf l is t left h =
    let gave = read_gave old new seen buf l t left h in
    (gave.0, gave.1, gave.2, sees_some _ buf (subst (λ b. Sees (first_view 512 336 gave.0) b buf) is gave.3))

pub saw_nothing : (old new : Option (List Mark)) (seen : Bool) (buf : List ℕ) → length buf ≡ 336 → seen ≡ false → TakesView old new 512 336 seen buf →
    (left : List Mark) → AreReads left new → (views : List Mark) × AreReads views old × (views_left views ≡ left) × (first_view 512 336 views ≡ None)
saw_nothing old new seen buf l is t left h =
    let gave = read_gave old new seen buf l t left h in
    (gave.0, gave.1, gave.2, sees_none _ buf (subst (λ b. Sees (first_view 512 336 gave.0) b buf) is gave.3))

-- the same of what is told by a rule
told_by : (views : List Mark) (f : List Mark → List Mark) (told : Option (List Mark)) → AreReads views told →
    option_map f told ≡ option_map (λ (v : List Mark). f views) told
told_by views f None h = refl
told_by views f (Some v) h = ap (λ (w : List Mark). Some (f w)) h

-- ticks are counted as before
pub untuned : (origin : Option (Option Origin)) → origin ≡ option_map (λ (o : Option Origin). origin_then None o) origin
untuned None = refl
untuned (Some o) = refl

-- from where ticks are counted where a daemon says that it is alive
pub stayed : (life moment at : ℕ) (asked : Option ℤ) (tuned origin : Option Origin) (views : List Mark) (p : Page) → life ≡ p.half.life → moment ≡ at →
    asked ≡ asked_of life views → tuned ≡ tuned_at moment asked origin → tuned ≡ tuned_at at (asked_of p.half.life views) origin
stayed life moment at asked tuned origin views p l m a t = t ∙ ap (λ (r : Option ℤ). tuned_at moment r origin) a ∙
    ap (λ x. tuned_at moment (asked_of x views) origin) l ∙ ap (λ x. tuned_at x (asked_of p.half.life views) origin) m

-- a turn that changes the page, one that says that the daemon is alive, and one that does neither
pub turns_changed : {T : Type 0} (tickers : TickerOf T) (node : Gateway) (acts : List Placed) (x : ℕ) (p now : Page) (before after : T) →
    change_page acts ≡ true
    → ((past : NodePast) (delay : ℕ) → GatewayStands past node → tickers.delay_is before ≡ Some delay →
    now ≡ page_with (half_after past acts x (moment_after delay (tickers.last before)) p) p)
    → ((past : NodePast) (delay : ℕ) → GatewayStands past node → tickers.delay_is before ≡ Some delay →
    NotesMarks (half_marks (half_after past acts x (moment_after delay (tickers.last before)) p) p) (tickers.marks before) (tickers.marks after))
    → tickers.origin_is after ≡ tickers.origin_is before → tickers.views after ≡ tickers.views before → Turns tickers node acts x p now before after
turns_changed tickers node acts x p now before after changed page marks o v = λ left h. (
  left,
  None,
  reads_before left _ _ v h,
  rw changed refl,
  record {
    still = λ e. refl;
    tuned_is = λ origin delay from told looks. absurd (false≢true (rw changed at looks));
    origin = o ∙ untuned (tickers.origin_is before);
    page = λ past delay stands told. rw changed (page past delay stands told);
    marks = λ past delay stands told. rw changed (marks past delay stands told);
  },
)

pub turns_stayed : {T : Type 0} (tickers : TickerOf T) (node : Gateway) (acts : List Placed) (x : ℕ) (p now : Page) (before after : T) →
    change_page acts ≡ false → is_silent x p ≡ true → Stays tickers x p now before after → Turns tickers node acts x p now before after
turns_stayed tickers node acts x p now before after still time stays = λ left h.
    let s = stays left h in (
      s.0,
      s.1,
      s.2,
      rw (still, time) s.3,
      record {
        still = λ e. absurd (false≢true (sym (rw (still, time) at e)));
        tuned_is = λ origin delay from told looks. s.4.tuned_is origin delay from told;
        origin = s.4.origin;
        page = λ past delay stands told. rw (still, time) (s.4.page delay told);
        marks = λ past delay stands told. rw (still, time) (s.4.marks delay told);
      },
    )

pub turns_nothing : {T : Type 0} (tickers : TickerOf T) (node : Gateway) (acts : List Placed) (x : ℕ) (p now : Page) (ticker : T) →
    change_page acts ≡ false → is_silent x p ≡ false → now ≡ p → Turns tickers node acts x p now ticker ticker
turns_nothing tickers node acts x p now ticker still early same = λ left h. (
  left,
  None,
  h,
  rw (still, early) refl,
  record {
    still = λ e. refl;
    tuned_is = λ origin delay from told looks. absurd (false≢true (rw (still, early) at looks));
    origin = untuned (tickers.origin_is ticker);
    page = λ past delay stands told. rw (still, early) same;
    marks = λ past delay stands told. rw (still, early) (Marks_none (tickers.marks ticker));
  },
)

-- from where ticks are counted matters to a turn that reads alone
by_looks : (c d : Bool) (h : DaemonHalf) (x m : ℕ) (p : Page) (a b : Option Origin) → ((if c then false else d) ≡ true → a ≡ b) →
    (if c then Some h else if d then Some (half_alive x m a p) else None) ≡ (if c then Some h else if d then Some (half_alive x m b p) else None)
by_looks true d h x m p a b e = refl
by_looks false true h x m p a b e = ap (λ (o : Option Origin). Some (half_alive x m o p)) (e refl)
by_looks false false h x m p a b e = refl

same_half : (past : NodePast) (acts : List Placed) (x m : ℕ) (p : Page) (a b : Option Origin) → (looks_in_turn acts x p ≡ true → a ≡ b) →
    half_in_turn past acts x m a p ≡ half_in_turn past acts x m b p
same_half past acts x m p a b e = by_looks (change_page acts) (is_silent x p) (half_after past acts x m p) x m p a b e

same_origin : (looks : Bool) (a b o : Option Origin) → (looks ≡ false → a ≡ None) → (looks ≡ true → a ≡ b) →
    origin_then a o ≡ (if looks then origin_then b o else o)
same_origin true a b o s t = ap (λ (z : Option Origin). origin_then z o) (t refl)
same_origin false a b o s t = ap (λ (z : Option Origin). origin_then z o) (s refl)

-- what a turn leaves of a sheet
abbrev Left : {T : Type 0} → TickerOf T → NodePast → List Placed → ℕ → ℕ → Sheet → Option Page → List Mark → T → T → Option Page → Type 0
Left tickers past acts x m sheet now left before after page =
    (now ≡ (sheet_by past acts x m sheet page).page) × ((sheet_by past acts x m sheet page).views ≡ left) ×
    LeavesSheet (sheet_by past acts x m sheet page) (marks_with past acts x m sheet page) (paged tickers before) (paged tickers after)

-- of one without a page
left_alone : {T : Type 0} (tickers : TickerOf T) (past : NodePast) (acts : List Placed) (x m : ℕ) (sheet : Sheet) (now : Option Page) (left : List Mark)
    (before after : T) → after ≡ before → now ≡ None → None ≡ sheet.page → sheet.views ≡ left → tickers.origin_is before ≡ Some sheet.origin →
    AreReads left (tickers.views before) → Left tickers past acts x m sheet now left before after None
left_alone tickers past acts x m sheet now left before after same none there v from h =
    let views : AreReads sheet.views (tickers.views before) = subst (λ (vs : List Mark). AreReads vs (tickers.views before)) (sym v) h in (
      none ∙ there,
      v,
      record {
        noted = subst (λ (o : Option (List Mark)). NotesMarks [] (tickers.marks before) o) (ap tickers.marks (sym same)) (Marks_none (tickers.marks before));
        origin = ap tickers.origin_is same ∙ from;
        views = still_told sheet.views (tickers.views before) (tickers.views after) (ap tickers.views same) views;
      },
    )

pub sheet_turned : {T : Type 0} (tickers : TickerOf T) (node : Gateway) (acts : List Placed) (x : ℕ) (page now : Option Page) (before after : T)
    → ((p : Page) → page ≡ Some p → (q : Page) × (now ≡ Some q) × Turns tickers node acts x p q before after ×
    (tickers.views after ≡ option_map (λ (views : List Mark). views_after acts x p views) (tickers.views before)))
    → (page ≡ None → (now ≡ None) × (after ≡ before)) → (left : List Mark) → AreReads left (tickers.views after) → (views : List Mark) ×
    AreReads views (tickers.views before) × ((past : NodePast) (delay : ℕ) (sheet : Sheet) → GatewayStands past node → tickers.delay_is before ≡ Some delay
    → tickers.origin_is before ≡ Some sheet.origin → page ≡ sheet.page → sheet.views ≡ views →
    Left tickers past acts x (moment_after delay (tickers.last before)) sheet now left before after sheet.page)
sheet_turned tickers node acts x None now before after turns alone left h =
    let none = alone refl in
    let reads = reads_before left _ _ (ap tickers.views none.1) h in (
      left,
      reads,
      λ past delay sheet stands told from same v.
          subst (λ (o : Option Page). Left tickers past acts x (moment_after delay (tickers.last before)) sheet now left before after o) same
          (left_alone tickers past acts x (moment_after delay (tickers.last before)) sheet now left before after none.1 none.0 same v from reads),
    )
sheet_turned tickers node acts x (Some p) now before after turns alone left h =
    let turned = turns p refl in
    let by = turned.2 left h in (
      by.0,
      by.2,
      λ past delay sheet stands told from same v.
          let m = moment_after delay (tickers.last before) in
          let tuned : looks_in_turn acts x p ≡ true → by.1 ≡ tuned_by m sheet p = λ looks. by.4.tuned_is sheet.origin delay from told looks ∙
          ap (λ (vs : List Mark). tuned_at m (asked_of p.half.life vs) sheet.origin) (sym v) in
          let half = same_half past acts x m p by.1 (tuned_by m sheet p) tuned in
          let views : AreReads sheet.views (tickers.views before) = subst (λ (vs : List Mark). AreReads vs (tickers.views before)) (sym v) by.2 in
          let all : Left tickers past acts x m sheet now left before after (Some p) = (
            turned.1 ∙ ap (λ (q : Page). Some q) (by.4.page past delay stands told ∙ ap (λ (o : Option DaemonHalf). page_by o p) half),
            ap (λ (vs : List Mark). views_after acts x p vs) v ∙ by.3,
            record {
              noted = subst (λ (o : Option DaemonHalf). NotesMarks (marks_by o p) (tickers.marks before) (tickers.marks after)) half
                  (by.4.marks past delay stands told);
              origin = by.4.origin ∙ ap (λ (o : Option (Option Origin)). option_map (λ (z : Option Origin). origin_then by.1 z) o) from ∙
                  ap (λ (o : Option Origin). Some o) (same_origin (looks_in_turn acts x p) by.1 (tuned_by m sheet p) sheet.origin by.4.still tuned);
              views = turned.3 ∙ told_by sheet.views (λ (vs : List Mark). views_after acts x p vs) (tickers.views before) views;
            },
          ) in
          subst (λ (o : Option Page). Left tickers past acts x m sheet now left before after o) same all,
    )
