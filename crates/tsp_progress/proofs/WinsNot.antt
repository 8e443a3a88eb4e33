-- A candidate whose role changes in time doesn't win what it stood for.
use Rattle.std.proofs.Common.{sym, ap, subst, arith, inl, inr, ◌∙◌, ◌≡◌, ◌<◌, ℕ, ◌+◌, ◌*◌, List, [], ◌∷◌}
use Rattle.std.proofs.Common.{refl}
use Rattle.std.proofs.Common.{length}
use Rattle.std.proofs.lemmas.Bool.{cases_lt}
use Rattle.tsp_rules.specs.Values.{Boot, Become, Datagram, Role, PeerId, Act}
use Rattle.tsp_base.specs.Words.{Acts, Deed, Did, Elsewhere, Here, Line, Seen, Within, line_of, of, stood}
use Rattle.tsp_base.specs.Words.{joined, placed, role, role_after, stood_after, view}
use Rattle.tsp_base.proofs.{PlaceLemmas.Within_all, PlaceLemmas.Within_length, PlaceLemmas.Within_tail, PlaceLemmas.Within_through, ViewPlaces.Within_view}
use Rattle.tsp_promises.specs.{Fits.Fits, Fits.node_of, Setting.Setting}
use Rattle.tsp_promises.proofs.{shared.Clocks.tick_mono, shared.ElectionFacts.stood_at, shared.HistoryPlaces.own_in, promised.OwnFitsProof.seen_in}
use Rattle.tsp_promises.proofs.{promised.OwnFitsProof.tick_in}
use Rattle.tsp_progress.specs.AnswersInTime.{AnswerTaken}
use Rattle.tsp_progress.specs.{GivenUp.Owes}
use Rattle.tsp_progress.specs.{Heeds.DoesNext, WinsLate.StoodLong, WinsLate.WinsLate, WinsLate.WonFits}
use Rattle.tsp_progress.specs.{FoundInTime.IsQuick}
use Rattle.tsp_progress.specs.RefusedLoses.{WinsAfter}
use Rattle.tsp_progress.proofs.{TimePlaces.before_time}
use Rattle.tsp_progress.proofs.TableRows.{within_joined}
use Rattle.tsp_progress.proofs.WorldPlaces.{Among, WorldPlace, act_place, world_place}

-- what is owed at a place
pub owed_at : (debt : Deed → Did → List Seen → Type 0) (d : Did) (before seen : List Seen) → Owes debt seen → Within (Here d ∷ before) seen →
    debt d.deed d before
owed_at debt d before [] o w = let bad : ⊥ = cc in absurd bad
owed_at debt d before (s ∷ rest) o (inl e) = (subst (λ k. Owes debt k) (sym e) o).0
owed_at debt d before (Here k ∷ rest) o (inr w) = owed_at debt d before rest o.1 w
owed_at debt d before (Elsewhere k ∷ rest) o (inr w) = owed_at debt d before rest o w

-- no change of the role comes after the last one
pub last_change : (start : Did) (idle seen : List Seen) → stood seen ≡ Here start ∷ idle → (d : Did) (w : List Seen) (r : Role) → d.deed ≡ Acts (Become r) →
    Within (Here d ∷ w) seen → Within (Here d ∷ w) (Here start ∷ idle)
last_change start idle [] e d w r is v = let bad : ⊥ = cc in absurd bad
last_change start idle (s ∷ seen) e d w r is (inl same) =
    let here : stood (Here d ∷ w) ≡ Here d ∷ w = rw is refl in
    subst (λ k. Within (Here d ∷ w) k) (sym here ∙ (ap stood same ∙ e)) (Within_all (Here d ∷ w))
last_change start idle (Elsewhere k ∷ seen) e d w r is (inr v) = last_change start idle seen e d w r is v
last_change start idle (Here k ∷ seen) e d w r is (inr v) = by_deed k.deed e (λ f. last_change start idle seen f d w r is v) where
  later : Here k ∷ seen ≡ Here start ∷ idle → Within (Here d ∷ w) (Here start ∷ idle)
  later same = subst (λ t. Within (Here d ∷ w) t) same (inr v)

  by_deed : (deed : Deed) → stood_after deed (Here k ∷ seen) (stood seen) ≡ Here start ∷ idle →
      (stood seen ≡ Here start ∷ idle → Within (Here d ∷ w) (Here start ∷ idle)) → Within (Here d ∷ w) (Here start ∷ idle)
  by_deed (Acts Boot) f more = let bad : ⊥ = cc in absurd bad
  by_deed (Acts (Become q)) f more = later f
  by_deed _ f more = more f

-- the last change of the role was the last one before, if it stands there
pub stood_back : (start : Did) (idle s t : List Seen) → Within s t → Within (Here start ∷ idle) s → stood t ≡ Here start ∷ idle → stood s ≡ Here start ∷ idle
stood_back start idle s [] w v e = let bad : ⊥ = cc in absurd bad
stood_back start idle s (k ∷ t) (inl same) v e = subst (λ u. stood u ≡ Here start ∷ idle) (sym same) e
stood_back start idle s (Elsewhere d ∷ t) (inr w) v e = stood_back start idle s t w v e
stood_back start idle s (Here d ∷ t) (inr w) v e = stood_back start idle s t w v (by_deed d.deed e) where
  long : Within (Here start ∷ idle) t
  long = Within_through (Here start ∷ idle) s t v w

  by_deed : (deed : Deed) → stood_after deed (Here d ∷ t) (stood t) ≡ Here start ∷ idle → stood t ≡ Here start ∷ idle
  by_deed (Acts Boot) f = let bad : ⊥ = cc in absurd bad
  by_deed (Acts (Become r)) f =
      let few = Within_length (Here start ∷ idle) t long in
      let same = ap length f in
      absurd (omega (arith, few, same))
  by_deed _ f = f

-- the role is that of the last change
pub stood_role : (start : Did) (idle seen : List Seen) → stood seen ≡ Here start ∷ idle → role seen ≡ role (Here start ∷ idle)
stood_role start idle [] e = let bad : ⊥ = cc in absurd bad
stood_role start idle (Elsewhere d ∷ before) e = stood_role start idle before e
stood_role start idle (Here d ∷ before) e = by_deed d.deed refl e (λ f. stood_role start idle before f) where
  by_deed : (deed : Deed) → d.deed ≡ deed → stood_after deed (Here d ∷ before) (stood before) ≡ Here start ∷ idle →
      (stood before ≡ Here start ∷ idle → role before ≡ role (Here start ∷ idle)) → role (Here d ∷ before) ≡ role (Here start ∷ idle)
  by_deed (Acts Boot) is f more = let bad : ⊥ = cc in absurd bad
  by_deed (Acts (Become r)) is f more = ap role f
  by_deed deed is f more = ap (λ k. role_after k (role before)) is ∙ more f

-- twice `long` is less than WINDOW, and a port that asked p, and has its answer, wins later
module _ (setting : Setting) (world : List Line) (fits : Fits setting world) (wins : WinsLate world) (long : ℕ) (quick : IsQuick setting long) (l : Line)
    (older : List Line) (asked : Within (l ∷ older) world) (p : PeerId) (d : Datagram) (taken : AnswerTaken long l older world p d) (c : Line)
    (before : List Line) (w : WinsAfter l older c before world) where
  abbrev N : ℕ
  N = node_of l

  abbrev First : List Seen
  First = Here l.did ∷ view l.port (of N older)

  abbrev Wins : List Seen
  Wins = view l.port (of N before)

  abbrev Then : List Seen
  Then = view l.port (of N taken.before)

  won : StoodLong c.did Wins
  won =
      let seen : Within (Here c.did ∷ view c.port (of N before)) (view c.port (of N world)) = seen_in N c before world w.node w.place in
      let here : Within (Here c.did ∷ Wins) (view l.port (of N world)) =
      subst (λ q. Within (Here c.did ∷ view q (of N before)) (view q (of N world))) w.port seen in
      subst (λ k. WonFits k c.did Wins) w.wins (owed_at WonFits c.did Wins (view l.port (of N world)) (wins N l.port) here)

  -- the answer comes before the win
  less : taken.line.did.step.at < c.did.step.at
  less = elim (cases_lt taken.line.did.step.at c.did.step.at) [
    | inl early ↦ early
    | inr none ↦
        let long_ago = won.long in
        let same : Here won.start ∷ won.idle ≡ Here w.start ∷ w.idle = sym won.stood_is ∙ w.stood_still in
        let start : won.start ≡ w.start = cc in
        let begun = ap (λ (k : Did). k.tick) start in
        let asked_tick = w.tick in
        let asked_at = tick_in setting N l older world fits refl asked in
        let won_at = tick_in setting N c before world fits w.node w.place in
        let soon = taken.soon in
        let mono = tick_mono setting N c.did.step.at (l.did.step.at + 2 * long) (omega (arith, none, soon)) in
        let fast = (setting.ticks N).fast l.did.step.at (2 * long) in
        absurd (omega (arith, long_ago, begun, asked_tick, asked_at, won_at, mono, fast, quick))
  ]

  taken_before : Within (taken.line ∷ taken.before) before
  taken_before = before_time setting world fits taken.line taken.before c before taken.place w.place less

  -- what the port sees before the answer it sees before the win
  pub then_wins : Within Then Wins
  then_wins = Within_view l.port (of N taken.before) (of N before) (Within_tail taken.line (of N taken.before) (of N before)
      (own_in N taken.line taken.before before taken.node taken_before))

  first_then : Within First Then
  first_then = seen_in N l older taken.before refl taken.later

  start_older : Within (Here w.start ∷ w.idle) (view l.port (of N older))
  start_older = (stood_at (view l.port (of N older)) (Here w.start) w.idle w.stood_then).place

  -- and it has the same role then as when it asked
  pub same_role : role Then ≡ role (view l.port (of N older))
  same_role =
      let inside = Within_through (Here w.start ∷ w.idle) First Then (inr start_older) first_then in
      stood_role w.start w.idle Then (stood_back w.start w.idle Then Wins then_wins inside w.stood_still) ∙
      sym (stood_role w.start w.idle (view l.port (of N older)) w.stood_then)

  -- so no change of the role comes next
  module _ (acts : List Act) (r : Role) (among : Among (Become r) acts) (next : DoesNext acts taken.line (of N taken.before) (of N world)) where
    abbrev Own : List Line
    Own = joined taken.line.did.step taken.line.did.tick (placed taken.line.port among.front) (taken.line ∷ of N taken.before)

    abbrev Lose : Line
    Lose = line_of taken.line.did.step taken.line.did.tick taken.line.port (Acts (Become r))

    lose-place : WorldPlace N Lose Own world
    lose-place = world_place N Lose Own world (act_place taken.line.did.step taken.line.did.tick taken.line.port (Become r) acts
        (taken.line ∷ of N taken.before) (of N world) among next)

    abbrev Past-lost : List Seen
    Past-lost = view l.port (of N lose-place.older)

    lose-seen : Within (Here Lose.did ∷ Past-lost) Wins
    lose-seen = subst (λ q. Within (Here Lose.did ∷ view q (of N lose-place.older)) (view q (of N before))) taken.port
        (seen_in N Lose lose-place.older before lose-place.node (before_time setting world fits Lose lose-place.older c before lose-place.place w.place less))

    asked_in : Within First Past-lost
    asked_in = Within_through First Then Past-lost first_then
        (subst (λ ls. Within Then (view l.port ls)) (sym lose-place.own_is)
        (Within_view l.port (of N taken.before) Own (within_joined taken.line.did.step taken.line.did.tick (placed taken.line.port among.front)
        (taken.line ∷ of N taken.before) (of N taken.before) (inr (Within_all (of N taken.before))))))

    pub no_change : {A : Type 0} → A
    no_change =
        let last = Within_length (Here Lose.did ∷ Past-lost) (Here w.start ∷ w.idle) (last_change w.start w.idle Wins w.stood_still Lose.did Past-lost r refl
        lose-seen) in
        let first = Within_length (Here w.start ∷ w.idle) (view l.port (of N older)) start_older in
        let between = Within_length First Past-lost asked_in in
        absurd (omega (arith, last, first, between))
