-- All clocks of the network agree at each time, except for `long` after each Close.
use Rattle.std.proofs.Common.{sym, subst, arith, inl, inr, true≢false, ◌∙◌, ◌≡◌, ◌≤◌, ◌<◌, ◌⊎◌, ℕ, ◌+◌, ◌-◌, ◌==◌, ℤ, pos, Bool, true, false}
use Rattle.std.proofs.Common.{List, [], ◌∷◌, eqb-true, eq-eqb, refl}
use Rattle.tsp_rules.specs.Values.{Close, SLACK}
use Rattle.tsp_base.specs.Words.{Acts, Deed, HeaderValue, Line, Within, dids, time_of}
use Rattle.tsp_base.proofs.PlaceLemmas.{Within_all, Within_strict, Within_tail, Within_through}
use Rattle.tsp_promises.specs.{ClockAt.ClocksWithin, ClockAt.clock_at, Fits.node_of, Premises.Honest, Premises.Life, Setting.Setting}
use Rattle.tsp_promises.proofs.promised.OwnFitsProof.{Given, fits_at, given, place_time}
use Rattle.tsp_run.specs.Clocked.{Clocks, clocks_of, run_by}
use Rattle.tsp_run.proofs.{OwnClocks.possible_own, OwnClocks.runs_by_own_clocks, OwnClocks.set_own, RunFits.clocked_runs_fit}
use Rattle.tsp_progress.specs.{AgreesAlways.AgreesAlways, AgreesAlways.ClockedRunsAgreeAlways, AgreesAlways.NoneJust, AgreesAlways.RunsAgreeAlways}
use Rattle.tsp_progress.specs.{AgreesAlways.agreed_after, AgreesAlways.round_age, AgreesOn.HistoryAt, AgreesOn.agree_within, Delivered.Delivered}
use Rattle.tsp_progress.specs.{FollowOn.Calm, FollowOn.FollowUntil, InTable.GivesUpNone, InTable.InTable, InTable.KeepsRange}
use Rattle.tsp_progress.specs.{InTable.SetsNone, InTable.Undated, LateClose.LateClose, OneWire.OneWire, SampledInTime.IsSwift, TakesRounds.NoneSince}
use Rattle.tsp_progress.specs.{Watched.Attended, Watched.Told}
use Rattle.tsp_progress.proofs.{AgreesOnProof.agree_at, AgreesOnProof.no_way, AgreesOnProof.wider, AgreesOnProof.within_more, AllAsked.Tended}
use Rattle.tsp_progress.proofs.{AllAsked.all_asked, CloseComes.CloseIn, CloseComes.Recent, CloseComes.recent_close, TakesProof.one_network}

-- the last Close of a node
pub record LastClose (c : ℕ) (D : Line) (dp h : List Line) : Type 0 where
  pub close : CloseIn c h
  pub after : Within (D ∷ dp) (close.line ∷ close.before)
  pub none : NoneSince c close.line close.before h

-- whether a line is a Close of the node
pub record ClosesNow (c : ℕ) (l : Line) : Type 0 where
  pub node : node_of l ≡ c
  pub count : ℕ
  pub lo : ℤ
  pub size : ℤ
  pub mean : ℤ
  pub deed : l.did.deed ≡ Acts (Close count lo size mean)

closes_or_not : (c : ℕ) (l : Line) → ClosesNow c l ⊎ ((count : ℕ) (lo size mean : ℤ) → node_of l ≡ c → l.did.deed ≡ Acts (Close count lo size mean) → ⊥)
closes_or_not c l = by_node (node_of l == c) refl where
  by_deed : (deed : Deed) → l.did.deed ≡ deed → node_of l ≡ c →
      ClosesNow c l ⊎ ((count : ℕ) (lo size mean : ℤ) → node_of l ≡ c → l.did.deed ≡ Acts (Close count lo size mean) → ⊥)
  by_deed (Acts (Close count lo size mean)) is node = inl (record { node = node; count = count; lo = lo; size = size; mean = mean; deed = is })
  by_deed _ is node = inr (λ count lo size mean node e. let both = sym is ∙ e in let bad : ⊥ = cc in bad)

  by_node : (b : Bool) → (node_of l == c) ≡ b →
      ClosesNow c l ⊎ ((count : ℕ) (lo size mean : ℤ) → node_of l ≡ c → l.did.deed ≡ Acts (Close count lo size mean) → ⊥)
  by_node false e = inr (λ count lo size mean node is. true≢false (sym (eq-eqb (node_of l) c node) ∙ e))
  by_node true e = by_deed l.did.deed refl (eqb-true (node_of l) c e)

pub last_close : (c : ℕ) (D : Line) (dp h : List Line) → Within (D ∷ dp) h → ClosesNow c D → LastClose c D dp h
last_close c D dp [] w d = let bad : ⊥ = cc in absurd bad
last_close c D dp (l ∷ h) w d = elim (closes_or_not c l) [
  | inl k ↦ record {
    close = record {
      line = l;
      before = h;
      place = Within_all (l ∷ h);
      node = k.node;
      count = k.count;
      lo = k.lo;
      size = k.size;
      mean = k.mean;
      deed = k.deed;
    };
    after = w;
    none = λ other before count lo size mean v u node is. elim v [
      | inl e ↦ Within_strict l h h (subst (λ (z : List Line). Within (l ∷ h) z) (let rest : before ≡ h = cc in rest) u) (Within_all h)
      | inr v ↦ Within_strict l h h (Within_through (l ∷ h) before h u (Within_tail other before h v)) (Within_all h)
    ];
  }
  | inr not ↦ earlier not (elim w [
    | inl e ↦ absurd (let line : D ≡ l = cc in not d.count d.lo d.size d.mean (subst (λ (z : Line). node_of z ≡ c) line d.node)
        (subst (λ (z : Line). z.did.deed ≡ Acts (Close d.count d.lo d.size d.mean)) line d.deed))
    | inr v ↦ last_close c D dp h v d
  ])
] where
  earlier : ((count : ℕ) (lo size mean : ℤ) → node_of l ≡ c → l.did.deed ≡ Acts (Close count lo size mean) → ⊥) → LastClose c D dp h →
      LastClose c D dp (l ∷ h)
  earlier not k = record {
    close = record {
      line = k.close.line;
      before = k.close.before;
      place = inr k.close.place;
      node = k.close.node;
      count = k.close.count;
      lo = k.close.lo;
      size = k.close.size;
      mean = k.close.mean;
      deed = k.close.deed;
    };
    after = k.after;
    none = λ other before count lo size mean v u node is. elim v [
      | inl e ↦ let line : other ≡ l = cc in not count lo size mean (subst (λ (z : Line). node_of z ≡ c) line node)
          (subst (λ (z : Line). z.did.deed ≡ Acts (Close count lo size mean)) line is)
      | inr v ↦ k.none other before count lo size mean v u node is
    ];
  }

module _ {clocks : Clocks} {header : HeaderValue} {setting : Setting} (late long t : ℕ) (stays : ℕ → Bool) (c : ℕ) (s world : List Line)
    (a : Tended clocks header setting late long t stays c s world) (whole : Given setting world) (wire : OneWire header setting stays)
    (undated : Undated c s world) (gives : GivesUpNone c s world) (x : ℕ) (h : List Line) (now : HistoryAt x h world)
    (lower : time_of (dids s) + agreed_after long ≤ x) (upper : x + long < t) where
  -- the last Close, where another node stays
  module _ (k : ℕ) (there : stays k ≡ true) (other : (k == c) ≡ false) where
    pub recent : Recent late long t stays c s world a gives k there other x (omega (arith, lower)) (omega (arith, upper))
    recent = recent_close late long t stays c s world a gives k there other x (omega (arith, lower)) (omega (arith, upper))

    pub last : LastClose c recent.close.line recent.close.before h
    last = last_close c recent.close.line recent.close.before h (now.all recent.close.line recent.close.before recent.close.place recent.by) (record {
      node = recent.close.node;
      count = recent.close.count;
      lo = recent.close.lo;
      size = recent.close.size;
      mean = recent.close.mean;
      deed = recent.close.deed;
    })

    abbrev pub C : Line
    C = last.close.line

    abbrev pub Cp : List Line
    Cp = last.close.before

    pub c-in : Within (C ∷ Cp) world
    c-in = Within_through (C ∷ Cp) h world last.close.place now.within

    pub age : x ≤ C.did.step.at + round_age late
    age =
        let order = place_time setting (recent.close.line ∷ recent.close.before) (C ∷ Cp) (fits_at setting (C ∷ Cp) world a.fits c-in) last.after in
        let young = recent.recent in
        omega (arith, order, young)

    pub c-upto : C.did.step.at ≤ x
    c-upto =
        let le = place_time setting (C ∷ Cp) h (fits_at setting h world a.fits now.within) last.close.place in
        let up = now.upto in
        omega (arith, le, up)

    pub late-close : LateClose long t c s C Cp world
    late-close = record {
      place = c-in;
      node = last.close.node;
      count = last.close.count;
      lo = last.close.lo;
      size = last.close.size;
      mean = last.close.mean;
      deed = last.close.deed;
      late = (let young = age in let small = a.slack in omega (arith, young, lower, small));
      early = (let le = c-upto in omega (arith, le, upper));
    }

    with_peer : NoneJust long c x h → (n m : ℕ) → stays n ≡ true → stays m ≡ true →
        ClocksWithin setting h x n m (pos (agree_within setting long (round_age late)))
    with_peer just n m n-there m-there =
        let le = c-upto in
        let young = age in
        let near = agree_at late long t stays c s world a whole wire undated C Cp late-close (omega (arith, le, upper)) x h now
        (just C Cp last.close.count last.close.lo last.close.size last.close.mean last.close.place last.close.node last.close.deed) (omega (arith, upper))
        last.none n m n-there m-there in
        let w = wider setting.drift ((x - C.did.step.at) + 9009011) (round_age late + 9009011) (omega (arith, young)) in
        within_more _ (agree_within setting long (x - C.did.step.at)) (agree_within setting long (round_age late)) (omega (arith, w)) near

  pub agree_always : NoneJust long c x h → (n m : ℕ) → stays n ≡ true → stays m ≡ true →
      ClocksWithin setting h x n m (pos (agree_within setting long (round_age late)))
  agree_always just n m n-there m-there = by_nodes (n == c) (m == c) refl refl where
    by_nodes : (b d : Bool) → (n == c) ≡ b → (m == c) ≡ d → ClocksWithin setting h x n m (pos (agree_within setting long (round_age late)))
    by_nodes false d e f = with_peer n n-there e just n m n-there m-there
    by_nodes true false e f = with_peer m m-there f just n m n-there m-there
    by_nodes true true e f = subst (λ z. ClocksWithin setting h x z m (pos (agree_within setting long (round_age late))))
        (sym (eqb-true n c e ∙ sym (eqb-true m c f))) (no_way (clock_at setting m h x) (agree_within setting long (round_age late)))

pub clocked_runs_agree_always : ClockedRunsAgreeAlways
clocked_runs_agree_always clocks header setting events late long t stays c s set possible attended slack told wire there s-in calm delivered swift honest
    life follow members sets undated gives range x h now lower upper just n m n-there m-there =
    let world = run_by clocks header events in
    agree_always late long t stays c s world
    (all_asked clocks header setting events late long t stays c s set possible attended slack told (one_network c wire there) s-in calm delivered swift follow
    members sets range)
    (given setting world (clocked_runs_fit clocks header setting events set possible).0 honest life) wire undated gives x h now lower upper just n m n-there
    m-there

pub runs_agree_always : RunsAgreeAlways
runs_agree_always header setting events late long t stays c s set possible = subst (λ h. Attended late h → late ≤ SLACK → Told late setting t c h →
    OneWire header setting stays → stays c ≡ true → Within s h → Calm long stays s h → Delivered setting long t stays s h → IsSwift setting long →
    Honest h → Life h → FollowUntil stays c t s h → InTable stays c t s h → SetsNone c s h → Undated c s h → GivesUpNone c s h → KeepsRange s h →
    AgreesAlways setting late long t stays c s h) (runs_by_own_clocks header events)
    (clocked_runs_agree_always (clocks_of header) header setting events late long t stays c s (set_own header setting set)
    (possible_own header events possible))
