-- A network whose nodes have just booted gets a master, too.
use Rattle.std.proofs.Common.{sym, ap, subst, arith, true≢false, inl, inr, ◌∙◌, ◌≡◌, ◌≢◌, ◌≤◌, ◌<◌, ◌⊎◌, ℕ, ◌+◌, ◌*◌, ◌==◌, Bool, true, false, List, []}
use Rattle.std.proofs.Common.{◌∷◌, eqb-true, length, refl}
use Rattle.std.proofs.lemmas.Bool.{cases_lt}
use Rattle.tsp_rules.specs.Values.{Become, Boot, Quiet, Role, Starting, QUIET, WINDOW}
use Rattle.tsp_rules.specs.Guards.{delay, is_starting_role}
use Rattle.tsp_base.specs.Words.{Acts, Begins, Deed, Did, Elsewhere, HeaderValue, Here, Line, Seen, Within, dids, first_port, held, held_after, of}
use Rattle.tsp_base.specs.Words.{plain, role, role_after, stood, stood_after, tick_of, time_of, view, word, word_after}
use Rattle.tsp_base.proofs.PlaceLemmas.{Within_all, Within_comparable, Within_length, Within_tail, Within_through}
use Rattle.tsp_promises.specs.{Fits.Fits, Fits.node_of, Setting.Setting}
use Rattle.tsp_promises.proofs.{shared.Clocks.near, shared.Clocks.tick_mono, shared.EverywhereLemmas.Everywhere_at}
use Rattle.tsp_promises.proofs.{shared.HistoryPlaces.Within_of, shared.HistoryPlaces.of_other, shared.HistoryPlaces.of_own, shared.HistoryPlaces.own_in}
use Rattle.tsp_promises.proofs.promised.OwnFitsProof.{fits_at, of_tick, own_fits, tick_in}
use Rattle.tsp_base.proofs.Views.{plain_view}
use Rattle.tsp_run.specs.Clocked.{clocks_of, run_by}
use Rattle.tsp_run.proofs.{OwnClocks.possible_own, OwnClocks.runs_by_own_clocks, OwnClocks.set_own, RunFits.clocked_runs_fit}
use Rattle.tsp_progress.specs.Headless.{AllBooted, AllUp, ClockedRunsGetMasterSoon, Fair, Foremost, Headless, RunsGetMasterSoon, delay_of, longest_headless}
use Rattle.tsp_progress.specs.{RunsWake.manner_of, Wakes.AllWake, Wakes.Wakes, Wakes.Woken, Wakes.WokenAt, Watched.AttendedAt, Watched.Watched}
use Rattle.tsp_progress.proofs.{FollowCalls.Cut, FollowCalls.cut, HeadlessProof.clocked_runs_get_master, HoldKept.seen_at, LaterProof.kept_within}
use Rattle.tsp_progress.proofs.{RunWakes.clocked_runs_wake}
use Rattle.tsp_progress.proofs.{SearchKept.view_within, StandActs.Kept, StandActs.StandFits, StandKeeps.runs_sound, StandsProof.Rising, StandsProof.rising}
use Rattle.tsp_progress.proofs.{StretchFacts.nil_in, WaveFacts.view_length}

-- between two places of a port without a boot: who had a role has one, who wasn't Starting isn't, and the boot is the same
NoBoots : List Seen → List Seen → Type 0
NoBoots early late = (d : Did) (before : List Seen) → Within (Here d ∷ before) late → length early ≤ length before → d.deed ≢ Acts Boot

had_role : (early late : List Seen) → Within early late → NoBoots early late → stood late ≡ [] → stood early ≡ []
unfolding NoBoots
had_role early [] w calm e = ap stood w
had_role early (s ∷ before) (inl same) calm e = ap stood same ∙ e
had_role early (Elsewhere d ∷ before) (inr w) calm e = had_role early before w (λ c b v u. calm c b (inr v) u) e
had_role early (Here d ∷ before) (inr w) calm e = by_deed d.deed refl e (λ f. had_role early before w (λ c b v u. calm c b (inr v) u) f) where
  by_deed : (deed : Deed) → d.deed ≡ deed → stood_after deed (Here d ∷ before) (stood before) ≡ [] → (stood before ≡ [] → stood early ≡ []) → stood early ≡ []
  by_deed (Acts Boot) is f more = absurd (calm d before (inl refl) (Within_length early before w) is)
  by_deed (Acts (Become r)) is f more = let bad : ⊥ = cc in absurd bad
  by_deed _ is f more = more f

same_boot : (early late : List Seen) → Within early late → NoBoots early late → (held late).boot ≡ (held early).boot
unfolding NoBoots
same_boot early [] w calm = ap (λ z. (held z).boot) (sym w)
same_boot early (s ∷ before) (inl same) calm = ap (λ z. (held z).boot) (sym same)
same_boot early (Elsewhere d ∷ before) (inr w) calm = same_boot early before w (λ c b v u. calm c b (inr v) u)
same_boot early (Here d ∷ before) (inr w) calm = by_deed d.deed refl (same_boot early before w (λ c b v u. calm c b (inr v) u)) where
  by_deed : (deed : Deed) → d.deed ≡ deed → (held before).boot ≡ (held early).boot → (held_after deed d.tick (held before)).boot ≡ (held early).boot
  by_deed (Acts Boot) is e = absurd (calm d before (inl refl) (Within_length early before w) is)
  by_deed _ is e = e

-- the boot was at the port's tick, or before
boot_before : (seen : List Seen) → Rising seen → (held seen).boot ≤ tick_of (plain seen)
boot_before [] up = omega arith
boot_before (Elsewhere d ∷ before) up = let le = boot_before before up.1 in let rise = up.0 in omega (arith, le, rise)
boot_before (Here d ∷ before) up = by_deed d.deed (boot_before before up.1) up.0 where
  by_deed : (deed : Deed) → (held before).boot ≤ tick_of (plain before) → tick_of (plain before) ≤ d.tick → (held_after deed d.tick (held before)).boot ≤ d.tick
  by_deed (Acts Boot) le rise = omega arith
  by_deed _ le rise = omega (arith, le, rise)

-- who isn't Starting is so only after a boot
awake_on : (early late : List Seen) → Within early late → NoBoots early late → Kept late → is_starting_role (role early) ≡ false →
    is_starting_role (role late) ≡ false
unfolding NoBoots
awake_on early [] w calm kept e = ap (λ z. is_starting_role (role z)) (sym w) ∙ e
awake_on early (s ∷ before) (inl same) calm kept e = ap (λ z. is_starting_role (role z)) (sym same) ∙ e
awake_on early (Elsewhere d ∷ before) (inr w) calm kept e = awake_on early before w (λ c b v u. calm c b (inr v) u) kept.1 e
awake_on early (Here d ∷ before) (inr w) calm kept e =
    by_deed d.deed refl (awake_on early before w (λ c b v u. calm c b (inr v) u) kept.1 e) where
      by_role : (r : Role) → d.deed ≡ Acts (Become r) → is_starting_role (role before) ≡ false → is_starting_role r ≡ false
      by_role Starting is f =
          let was : role before ≡ Starting = subst (λ z. StandFits z d before) is kept.0.fits in
          absurd (true≢false (sym (ap is_starting_role was) ∙ f))
      by_role _ is f = refl

      by_deed : (deed : Deed) → d.deed ≡ deed → is_starting_role (role before) ≡ false → is_starting_role (role_after deed (role before)) ≡ false
      by_deed (Acts Boot) is f = absurd (calm d before (inl refl) (Within_length early before w) is)
      by_deed (Acts (Become r)) is f = by_role r is f
      by_deed _ is f = f

-- the last change of the role is the port's own
stood_own : (seen : List Seen) → (stood seen ≡ []) ⊎ ((start : Did) × ((idle : List Seen) × (stood seen ≡ Here start ∷ idle)))
stood_own [] = inl refl
stood_own (Elsewhere d ∷ before) = stood_own before
stood_own (Here d ∷ before) = by_deed d.deed (stood_own before) where
  by_deed : (deed : Deed) → (stood before ≡ []) ⊎ ((start : Did) × ((idle : List Seen) × (stood before ≡ Here start ∷ idle))) →
      (stood_after deed (Here d ∷ before) (stood before) ≡ []) ⊎ ((start : Did) × ((idle : List Seen) × (stood_after deed (Here d ∷ before) (stood before) ≡
      Here start ∷ idle)))
  by_deed (Acts Boot) o = inl refl
  by_deed (Acts (Become r)) o = inr (d, (before, refl))
  by_deed _ o = o

module _ {header : HeaderValue} {setting : Setting} {late long t : ℕ} {stays : ℕ → Bool} {s world : List Line} (fits : Fits setting world)
    (fair : Fair header setting late long t stays s world) (s-in : Within s world) where
  -- nobody boots after s
  no_boots : (n : ℕ) (early late : List Line) → Within early late → Within late world → Within s early →
      NoBoots (view first_port (of n early)) (view first_port (of n late))
  unfolding NoBoots
  no_boots n early late v w since d before place after boot =
      let b = seen_at n first_port d before late place in
      let inside = Within_through (b.line ∷ b.older) late world b.place w in
      let deed : b.line.did.deed ≡ Acts Boot = ap (λ (z : Did). z.deed) b.did_is ∙ boot in
      let len : length before ≡ length (of n b.older) = ap length (sym b.before_is) ∙ view_length first_port (of n b.older) in
      let len2 = view_length first_port (of n early) in
      elim (Within_comparable (b.line ∷ b.older) early late b.place v) [
        | inl u ↦
            let own = own_in n b.line b.older early b.node u in
            let more = Within_length (b.line ∷ of n b.older) (of n early) own in
            omega (arith, more, len, len2, after)
        | inr (inl e) ↦
            let own = own_in n b.line b.older early b.node (subst (λ z. Within (b.line ∷ b.older) z) (sym e) (Within_all (b.line ∷ b.older))) in
            let more = Within_length (b.line ∷ of n b.older) (of n early) own in
            omega (arith, more, len, len2, after)
        | inr (inr u) ↦ fair.calm.unbooted b.line b.older inside (Within_through s early b.older since u) deed
      ]

  word_act : (deed : Deed) → deed ≢ Acts Boot → (d : Did) (w : ℕ) → word_after deed d.step.cause w ≡ w
  word_act (Acts Boot) un d w = absurd (un refl)
  word_act _ un d w = refl

  pub same_word : (n : ℕ) (h : List Line) → Within h world → Within s h → word (dids (of n h)) ≡ word (dids (of n s))
  same_word n [] w e = ap (λ z. word (dids (of n z))) (sym e)
  same_word n (l ∷ older) w (inl e) = ap (λ z. word (dids (of n z))) (sym e)
  same_word n (l ∷ older) w (inr v) = by_node (node_of l == n) refl (same_word n older (Within_tail l older world w) v) where
    by_node : (b : Bool) → (node_of l == n) ≡ b → word (dids (of n older)) ≡ word (dids (of n s)) → word (dids (of n (l ∷ older))) ≡ word (dids (of n s))
    by_node true e same = ap (λ z. word (dids z)) (of_own n l older (eqb-true (node_of l) n e)) ∙
        (word_act l.did.deed (fair.calm.unbooted l older w v) l.did (word (dids (of n older))) ∙ same)
    by_node false e same = ap (λ z. word (dids z)) (of_other n l older e) ∙ same

  -- when the quiet times are over
  abbrev X : ℕ
  X = time_of (dids s) + (QUIET + 2 * WINDOW)

  module _ (woken : Woken (manner_of header) world) (wakes : AllWake (manner_of header) world) (n : ℕ) (there : stays n ≡ true)
      (booted : stood (view first_port (of n s)) ≢ []) (early : X ≤ t) where
    R : List Line → Type 0
    R lines = Wakes (manner_of header n) (view first_port lines) × Watched late (setting.tick n X) (view first_port lines)

    sooner : (x y : ℕ) (seen : List Seen) → y ≤ x → Watched late x seen → Watched late y seen
    sooner x y seen le w = record {
      alarms = λ a at e. let soon = w.alarms a at e in omega (arith, le, soon);
      sends = λ p q e. let soon = w.sends p q e in omega (arith, le, soon);
    }

    marks : (l : Line) (w : List Line) → Within (l ∷ w) world → l.did.deed ≡ Begins → node_of l ≡ n → X < l.did.step.at → R (of n w)
    unfolding R
    marks l w v begins node later =
        let awake = Everywhere_at (WokenAt (manner_of header)) l w world woken v begins first_port in
        let watched = Everywhere_at (AttendedAt late) l w world fair.attended v begins first_port in
        let tick = tick_in setting n l w world fits node v in
        let mono = tick_mono setting n X l.did.step.at (omega (arith, later)) in
        let here = sooner l.did.tick (setting.tick n X) (view first_port (of (node_of l) w)) (omega (arith, tick, mono)) watched in (
          subst (λ m. Wakes (manner_of header m) (view first_port (of m w))) node awake,
          subst (λ m. Watched late (setting.tick n X) (view first_port (of m w))) node here,
        )

    at-end : R (of n world)
    unfolding R
    at-end = (
      wakes n first_port,
      sooner (setting.tick n t) (setting.tick n X) (view first_port (of n world)) (tick_mono setting n X t early) (fair.told n there first_port),
    )

    upto : Cut n X R world
    upto = cut setting n X R world fits marks at-end

    abbrev Now : List Seen
    Now = view first_port (of n upto.h)

    since : Within s upto.h
    since = by_list s s-in refl where
      by_list : (g : List Line) → Within g world → g ≡ s → Within s upto.h
      by_list [] w e = subst (λ z. Within z upto.h) e (nil_in upto.h)
      by_list (l ∷ rest) w e = subst (λ z. Within z upto.h) e (upto.all l rest w (let same = ap (λ z. time_of (dids z)) e in omega (arith, same)))

    wakes-then : Wakes (manner_of header n) Now
    unfolding R
    wakes-then = upto.holds.0

    watched-then : Watched late (setting.tick n X) Now
    unfolding R
    watched-then = upto.holds.1

    inside-s : Within (view first_port (of n s)) Now
    inside-s = view_within first_port (of n s) (of n upto.h) (Within_of n s upto.h since)

    calm-then : NoBoots (view first_port (of n s)) Now
    calm-then = no_boots n s upto.h since upto.within (Within_all s)

    starting-no : role Now ≡ Starting → ⊥
    starting-no r = elim (stood_own Now) [
      | inl none ↦ booted (had_role (view first_port (of n s)) Now inside-s calm-then none)
      | inr o ↦
          let quiet = wakes-then.starting r o.0 o.1.0 o.1.1 in
          let due = watched-then.alarms Quiet ((held Now).boot + QUIET) quiet in
          let same = same_boot (view first_port (of n s)) Now inside-s calm-then in
          let s-fits = fits_at setting s world fits s-in in
          let low = boot_before (view first_port (of n s)) (rising setting first_port (of n s) (own_fits setting n s s-fits)) in
          let plainly = ap tick_of (plain_view first_port (of n s)) in
          let tick = of_tick setting n s s-fits in
          let nr = near setting n (time_of (dids s)) X (omega arith) in
          let least = nr.least in
          let slack = fair.slack in
          omega (arith, due, same, low, plainly, tick, least, slack)
    ]

    awake-then : is_starting_role (role Now) ≡ false
    awake-then = by_role (role Now) refl where
      by_role : (r : Role) → role Now ≡ r → is_starting_role r ≡ false
      by_role Starting e = absurd (starting-no e)
      by_role _ e = refl

  -- so none is Starting from such a place on
  module _ (woken : Woken (manner_of header) world) (wakes : AllWake (manner_of header) world) (kept : (n : ℕ) → Kept (view first_port (of n world)))
      (booted : AllBooted stays s) (early : X ≤ t) (g : List Line) (g-in : Within g world)
      (all : (l : Line) (w : List Line) → Within (l ∷ w) world → l.did.step.at ≤ X → Within (l ∷ w) g) where
    all_up : AllUp stays g world
    all_up n there before after inside =
        let o = upto woken wakes n there (booted n there) early in
        let within-g : Within o.h g = by_list o.h o.within o.upto in
        let v = Within_through o.h g before within-g after in
        awake_on (view first_port (of n o.h)) (view first_port (of n before)) (view_within first_port (of n o.h) (of n before) (Within_of n o.h before v))
        (no_boots n o.h before v inside (since woken wakes n there (booted n there) early))
        (kept_within (view first_port (of n before)) (view first_port (of n world)) (view_within first_port (of n before) (of n world)
        (Within_of n before world inside)) (kept n))
        (awake-then woken wakes n there (booted n there) early)
      where
        by_list : (h : List Line) → Within h world → time_of (dids h) ≤ X → Within h g
        by_list [] w le = nil_in g
        by_list (l ∷ rest) w le = all l rest w le

pub clocked_runs_get_master_soon : ClockedRunsGetMasterSoon
clocked_runs_get_master_soon clocks header setting events late long t stays c s set possible unstrict fair s-in booted fore headless =
    elim (cases_lt t (time_of (dids s) + (QUIET + 2 * WINDOW))) [
      | inl soon ↦ omega (arith, soon)
      | inr early ↦ later early
    ] where
      fits : Fits setting (run_by clocks header events)
      fits = (clocked_runs_fit clocks header setting events set possible).0

      wake : Woken (manner_of header) (run_by clocks header events) × AllWake (manner_of header) (run_by clocks header events)
      wake = clocked_runs_wake clocks header events

      later : time_of (dids s) + (QUIET + 2 * WINDOW) ≤ t →
          t ≤ time_of (dids s) + (QUIET + 2 * WINDOW + longest_headless long (delay_of c s))
      later early =
          let o = upto fits fair s-in wake.0 wake.1 c fore.there (booted c fore.there) early in
          let after = since fits fair s-in wake.0 wake.1 c fore.there (booted c fore.there) early in
          let word = λ (n : ℕ). ap delay (same_word fits fair s-in n o.h o.within after) in
          let up = all_up fits fair s-in wake.0 wake.1 (λ n. (runs_sound clocks header events n first_port).kept) booted early o.h o.within o.all in
          let le = clocked_runs_get_master clocks header setting events late long t stays c o.h set possible unstrict
          (record {
            attended = fair.attended;
            slack = fair.slack;
            told = fair.told;
            wire = fair.wire;
            calm = record {
              only = λ l older w v. fair.calm.only l older w (Within_through s o.h older after v);
              unbooted = λ l older w v. fair.calm.unbooted l older w (Within_through s o.h older after v);
              unhanded = λ l older w v. fair.calm.unhanded l older w (Within_through s o.h older after v);
              unsent = λ l older w v. fair.calm.unsent l older w (Within_through s o.h older after v);
              soon = λ l older w v. fair.calm.soon l older w (Within_through s o.h older after v);
            };
            delivered = λ l older p d posts v. fair.delivered l older p d posts (Within_through s o.h older after v);
            mild = fair.mild;
          }) o.within up
          (record {
            there = fore.there;
            may = fore.may;
            first = λ n there may other. let less = fore.first n there may other in let one = word n in let two = word c in omega (arith, less, one, two);
          })
          (λ h w v until n there. headless h w (Within_through s o.h h after v) until n there) in
          let time = o.upto in
          let same = word c in
          omega (arith, le, time, same)

pub runs_get_master_soon : RunsGetMasterSoon
runs_get_master_soon header setting events late long t stays c s set possible unstrict = subst (λ h. Fair header setting late long t stays s h → Within s h →
    AllBooted stays s → Foremost header setting late long stays c s → Headless stays t s h →
    t ≤ time_of (dids s) + (QUIET + 2 * WINDOW + longest_headless long (delay_of c s)))
    (runs_by_own_clocks header events)
    (clocked_runs_get_master_soon (clocks_of header) header setting events late long t stays c s (set_own header setting set)
    (possible_own header events possible) unstrict)
