-- Waves of candidatures in a stretch without a master: after one each Elect is armed for long.
use Rattle.std.proofs.Common.{sym, ap, subst, arith, true≢false, inl, inr, ◌∙◌, ◌≡◌, ◌≢◌, ◌≤◌, ◌<◌, ◌⊎◌, ℕ, ◌+◌, ◌==◌, ◌||◌, nat_le}
use Rattle.std.proofs.Common.{Bool, true, false, List, [], ◌∷◌, Option, None, Some, length, eqb-true, le-leb, refl}
use Rattle.std.proofs.lemmas.Bool.{cases_lt}
use Rattle.tsp_rules.specs.Values.{Act, Back, Become, Boot, Post, Quit, Ring, Elect, Message, PeerId, Peer}
use Rattle.tsp_rules.specs.Values.{Port, Candidate, Test, HOLD}
use Rattle.tsp_rules.specs.{Guards.delay}
use Rattle.tsp_base.specs.Words.{Acts, Deed, Did, Elsewhere, HeaderValue, Held, Here, Line, Seen, Step, TakesFrom, Within, dids}
use Rattle.tsp_base.specs.Words.{first_port, held, held_after, may_back_after, of, peer_of, plain, tick_of, time_of}
use Rattle.tsp_base.specs.Words.{view, word, word_after}
use Rattle.tsp_base.proofs.PlaceLemmas.{Within_all, Within_comparable, Within_length, Within_tail, Within_through}
use Rattle.tsp_base.proofs.Views.{plain_view}
use Rattle.tsp_promises.specs.{DeedFits.MessageFits, Fits.SameStep, Fits.node_of, Setting.Setting, Setting.setup_of}
use Rattle.tsp_promises.proofs.{shared.HistoryPlaces.Within_of, shared.HistoryPlaces.line_on, shared.HistoryPlaces.of_other, shared.HistoryPlaces.of_own}
use Rattle.tsp_promises.proofs.{shared.HistoryPlaces.own_in}
use Rattle.tsp_promises.proofs.promised.OwnFitsProof.{Located, deed_fits, fits_at, fits_in, locate, own_fits, tick_in}
use Rattle.tsp_run.specs.Clocked.{Clocks}
use Rattle.tsp_progress.specs.AlarmsFit.{AlarmsFit, Manner, NextFits, NextTo, asks_next, newest_is, owes_next, stands_by}
use Rattle.tsp_progress.specs.{CausesFit.elects_by, Headless.delay_of}
use Rattle.tsp_progress.specs.{Motives.MotiveFits, RolesLast.TookKind, RunsWake.manner_of}
use Rattle.tsp_progress.proofs.{ElectAhead.BackedSince, ElectAhead.backed_before, ElectAhead.backed_later, ElectAhead.rung_late, ElectAhead.Unshared}
use Rattle.tsp_progress.proofs.{ElectAhead.unshared, FollowProof.owes_at, HoldKept.seen_at, SearchKept.alarms_within}
use Rattle.tsp_progress.proofs.{SearchKept.view_within, StandsProof.Rising, StandsProof.rising}
use Rattle.tsp_progress.proofs.StretchFacts.{Candidacy, Stretch, after_s, in_time_order, source}

-- who stood for election has backed itself since, unless it did so just now
pub stand_back : (m : Manner) (seen : List Seen) → AlarmsFit m seen → Rising seen → (start : Did) (idle : List Seen) → start.deed ≡ Acts (Become Candidate) →
    Within (Here start ∷ idle) seen → ((d : Did) (before : List Seen) → Within (Here d ∷ before) seen → Within (Here start ∷ idle) before → d.deed ≢
    Acts Boot) → ((newest_is stands_by seen ≡ true) ⊎ BackedSince start.tick seen) × (start.tick ≤ tick_of (plain seen))
stand_back m [] f up start idle is w calm = let bad : ⊥ = cc in absurd bad
stand_back m (s ∷ before) f up start idle is (inl e) calm =
    let newest : newest_is stands_by (Here start ∷ idle) ≡ true = rw is refl in
    (inl (subst (λ (z : List Seen). newest_is stands_by z ≡ true) e newest), subst (λ (z : List Seen). start.tick ≤ tick_of (plain z)) e (omega arith))
stand_back m (Elsewhere d ∷ before) f up start idle is (inr w) calm =
    let o = stand_back m before f.1 up.1 start idle is w (λ c b v u. calm c b (inr v) u) in
    let rise = up.0 in
    let le = o.1 in (
      elim o.0 [
        | inl n ↦ absurd (owed before n f.0)
        | inr b ↦ inr (record { at = b.at; of_peer = b.of_peer; back_is = b.back_is; since = b.since })
      ],
      omega (arith, rise, le),
    ) where
      by_deed : (deed : Deed) (x : ℕ) (older : List Seen) → stands_by deed ≡ true → asks_next deed x older ≡ false → ⊥
      by_deed (Acts (Become r)) x older e n = true≢false (sym e ∙ n)
      by_deed _ x older e n = true≢false (sym e)

      owed : (before : List Seen) → newest_is stands_by before ≡ true → owes_next before ≡ false → ⊥
      owed [] e n = true≢false (sym e)
      owed (Here c ∷ older) e n = by_deed c.deed c.tick older e n
      owed (Elsewhere c ∷ older) e n = true≢false (sym e)
stand_back m (Here d ∷ before) f up start idle is (inr w) calm =
    let o = stand_back m before f.1.1 up.1 start idle is w (λ c b v u. calm c b (inr v) u) in
    let rise = up.0 in
    let le = o.1 in (
      elim o.0 [
        | inl n ↦ inr (now (backs before n f.1.0) (omega (arith, rise, le)))
        | inr b ↦ inr (by_deed d.deed refl b (omega (arith, rise, le)))
      ],
      omega (arith, rise, le),
    ) where
      by_next : (last : Deed) (x : ℕ) (older : List Seen) (next : Deed) → stands_by last ≡ true → NextFits m last x older next →
          (p : PeerId) × (next ≡ Acts (Back p))
      by_next (Acts (Become Candidate)) x older next e n = n
      by_next _ x older next e n = absurd (true≢false (sym e))

      backs : (before : List Seen) → newest_is stands_by before ≡ true → NextTo m before d.deed → (p : PeerId) × (d.deed ≡ Acts (Back p))
      backs [] e n = absurd (true≢false (sym e))
      backs (Here c ∷ older) e n = by_next c.deed c.tick older d.deed e n
      backs (Elsewhere c ∷ older) e n = absurd (true≢false (sym e))

      now : (p : PeerId) × (d.deed ≡ Acts (Back p)) → start.tick ≤ d.tick → BackedSince start.tick (Here d ∷ before)
      now b le = record { at = d.tick; of_peer = b.0; back_is = ap (λ z. (held_after z d.tick (held before)).back) b.1; since = le }

      by_deed : (deed : Deed) → d.deed ≡ deed → BackedSince start.tick before → start.tick ≤ d.tick → BackedSince start.tick (Here d ∷ before)
      by_deed (Acts Boot) e b le = absurd (calm d before (inl refl) w e)
      by_deed (Acts (Back p)) e b le = now (p, e) le
      by_deed (Acts (Quit p)) e b le =
          record { at = b.at; of_peer = b.of_peer; back_is = ap (λ z. (held_after z d.tick (held before)).back) e ∙ b.back_is; since = b.since }
      by_deed deed e b le =
          record { at = b.at; of_peer = b.of_peer; back_is = ap (λ z. (held_after z d.tick (held before)).back) e ∙ b.back_is; since = b.since }

rising_at : (seen : List Seen) (e : Seen) (before : List Seen) → Within (e ∷ before) seen → Rising seen →
    tick_of (plain before) ≤ tick_of (plain (e ∷ before))
rising_at [] e before w up = let bad : ⊥ = cc in absurd bad
rising_at (c ∷ rest) e before (inl same) up = head (c ∷ rest) same up where
  head : (z : List Seen) → e ∷ before ≡ z → Rising z → tick_of (plain before) ≤ tick_of (plain (e ∷ before))
  head z is u = (subst (λ v. Rising v) (sym is) u).0
rising_at (c ∷ rest) e before (inr w) up = rising_at rest e before w up.1

pub view_length : (q : Port) (ls : List Line) → length (view q ls) ≡ length ls
view_length q [] = refl
view_length q (l ∷ rest) = let e = view_length q rest in omega (arith, e)

-- who waits for its hold holds another
pub record Holds (o : Option (ℕ × PeerId)) (x : ℕ) (p : PeerId) : Type 0 where
  pub at : ℕ
  pub of_peer : PeerId
  pub is : o ≡ Some (at, of_peer)
  pub recent : x < at + HOLD
  pub other : (of_peer.0 == p.0) ≡ false

pub held_by : (o : Option (ℕ × PeerId)) (x : ℕ) (p : PeerId) → may_back_after o x p ≡ false → Holds o x p
held_by None x p e = absurd (true≢false e)
held_by (Some k) x p e = by_tests (k.1.0 == p.0) refl (nat_le (k.0 + HOLD) x) refl e where
  by_tests : (a : Bool) → (k.1.0 == p.0) ≡ a → (c : Bool) → nat_le (k.0 + HOLD) x ≡ c → (a || c) ≡ false → Holds (Some k) x p
  by_tests true same c is n = absurd (true≢false n)
  by_tests false same true is n = absurd (true≢false n)
  by_tests false same false is n = record {
    at = k.0;
    of_peer = k.1;
    is = refl;
    recent = elim (cases_lt x (k.0 + HOLD)) [
      | inl l ↦ l
      | inr g ↦ absurd (true≢false (sym (le-leb (k.0 + HOLD) x g) ∙ is))
    ];
    other = same;
  }

module _ {clocks : Clocks} {header : HeaderValue} {setting : Setting} {late long t : ℕ} {stays : ℕ → Bool} {s world : List Line}
    (k : Stretch clocks header setting late long t stays s world) where
  pub alarms_of : (n : ℕ) (h : List Line) → Within h world → AlarmsFit (manner_of header n) (view first_port (of n h))
  alarms_of n h w = alarms_within (manner_of header n) (view first_port (of n h)) (view first_port (of n world))
      (view_within first_port (of n h) (of n world) (Within_of n h world w)) (k.wakes n first_port).acts

  pub rise_of : (n : ℕ) (h : List Line) → Within h world → Rising (view first_port (of n h))
  rise_of n h w = rising setting first_port (of n h) (own_fits setting n h (fits_at setting h world k.fits w))

  -- nobody boots between two places after s
  pub no_boot : (n : ℕ) (early late : List Line) → Within early late → Within late world → Within s early → (d : Did) (before : List Seen) →
      Within (Here d ∷ before) (view first_port (of n late)) → length (of n early) ≤ length before → d.deed ≢ Acts Boot
  no_boot n early late v w since d before place after boot =
      let b = seen_at n first_port d before late place in
      let inside = Within_through (b.line ∷ b.older) late world b.place w in
      let deed : b.line.did.deed ≡ Acts Boot = ap (λ (z : Did). z.deed) b.did_is ∙ boot in
      let len : length before ≡ length (of n b.older) = ap length (sym b.before_is) ∙ view_length first_port (of n b.older) in
      elim (Within_comparable (b.line ∷ b.older) early late b.place v) [
        | inl u ↦
            let own = own_in n b.line b.older early b.node u in
            let more = Within_length (b.line ∷ of n b.older) (of n early) own in
            absurd (omega (arith, more, len, after))
        | inr (inl e) ↦
            let own = own_in n b.line b.older early b.node (subst (λ z. Within (b.line ∷ b.older) z) (sym e) (Within_all (b.line ∷ b.older))) in
            let more = Within_length (b.line ∷ of n b.older) (of n early) own in
            absurd (omega (arith, more, len, after))
        | inr (inr u) ↦ k.calm.unbooted b.line b.older inside (Within_through s early b.older since u) deed
      ]

  -- so a node's word stays
  word_after_act : (deed : Deed) → deed ≢ Acts Boot → (d : Did) (w : ℕ) → word_after deed d.step.cause w ≡ w
  word_after_act (Acts Boot) un d w = absurd (un refl)
  word_after_act _ un d w = refl

  pub word_same : (n : ℕ) (h : List Line) → Within h world → Within s h → word (dids (of n h)) ≡ word (dids (of n s))
  word_same n [] w e = ap (λ z. word (dids (of n z))) (sym e)
  word_same n (l ∷ older) w (inl e) = ap (λ z. word (dids (of n z))) (sym e)
  word_same n (l ∷ older) w (inr v) = by_node (node_of l == n) refl (word_same n older (Within_tail l older world w) v) where
    by_node : (b : Bool) → (node_of l == n) ≡ b → word (dids (of n older)) ≡ word (dids (of n s)) → word (dids (of n (l ∷ older))) ≡ word (dids (of n s))
    by_node true e same = ap (λ z. word (dids z)) (of_own n l older (eqb-true (node_of l) n e)) ∙
        (word_after_act l.did.deed (k.calm.unbooted l older w v) l.did (word (dids (of n older))) ∙ same)
    by_node false e same = ap (λ z. word (dids z)) (of_other n l older e) ∙ same

  -- an act is done at the time of the line before it
  pub act_time : (l : Line) (older : List Line) (a : Act) → Within (l ∷ older) world → l.did.deed ≡ Acts a → time_of (dids older) ≡ l.did.step.at
  act_time l older a w is = by_list older (subst (λ d. SameStep d l.did.step (dids older)) is (fits_in setting l older world k.fits w).step) where
    by_list : (ls : List Line) → SameStep (Acts a) l.did.step (dids ls) → time_of (dids ls) ≡ l.did.step.at
    by_list [] e = absurd e
    by_list (last ∷ rest) e = ap (λ (z : Step). z.at) e

  -- node n backed somebody at tick b or later, by the true time v
  pub record Backed (n b v : ℕ) : Type 0 where
    pub early : List Line
    pub inside : Within early world
    pub since : Within s early
    pub by : time_of (dids early) ≤ v
    pub back : BackedSince b (view first_port (of n early))

  pub later_back : {n b v : ℕ} → Backed n b v → (h : List Line) → Within h world → v < time_of (dids h) → BackedSince b (view first_port (of n h))
  later_back {n} {b} {v} o h w less =
      let by = o.by in
      let order = in_time_order k o.early h o.inside w (omega (arith, by, less)) in
      let low = backed_before (manner_of header n) (view first_port (of n o.early)) (alarms_of n o.early o.inside) (rise_of n o.early o.inside)
      (unshared first_port (of n o.early)) o.back.at o.back.of_peer o.back.back_is in
      let since = o.back.since in
      (backed_later (view first_port (of n o.early)) b o.back (view first_port (of n h)) (view_within first_port (of n o.early) (of n h) (Within_of n o.early h
      order)) (rise_of n h w) (omega (arith, low, since))
      (λ d before place after. no_boot n o.early h order w o.since d before place
      (let le = Within_length (view first_port (of n o.early)) before after in let len = view_length first_port (of n o.early) in omega (arith, le, len)))).0

  -- where a node stands
  module _ {n y : ℕ} (st : Candidacy n y world) where
    pub stand_at : Located n first_port world st.start st.idle
    stand_at = locate n first_port world st.start st.idle (rw st.deed refl) st.place

    abbrev pub Stand_line : Line
    Stand_line = line_on first_port st.start

    pub stand_tick : st.start.tick ≡ setting.tick n y
    stand_tick = tick_in setting n Stand_line stand_at.older world k.fits stand_at.node stand_at.place ∙ ap (setting.tick n) st.at

    pub stand_time : time_of (dids stand_at.older) ≡ y
    stand_time = act_time Stand_line stand_at.older (Become Candidate) stand_at.place st.deed ∙ st.at

    stand-motive : MotiveFits (Acts (Become Candidate)) st.start st.idle
    stand-motive = subst (λ d. MotiveFits d st.start st.idle) st.deed
        (owes_at MotiveFits st.start st.idle (view first_port (of n world)) st.place (k.motives n first_port))

    module _ (settled : time_of (dids s) + long < y) where
      pub stand_since : Within s stand_at.older
      stand_since = let at = st.at in after_s k Stand_line stand_at.older stand_at.place (omega (arith, at, settled))

      untested : TookKind Test st.idle → ⊥
      untested q =
          let took : TakesFrom (view first_port (of (node_of Stand_line) stand_at.older)) q.from (Message q.message) =
          subst (λ v. TakesFrom v q.from (Message q.message)) (sym (ap (λ z. view first_port (of z stand_at.older)) stand_at.node ∙ stand_at.before)) q.took in
          let o = source k Stand_line stand_at.older stand_at.place (let at = st.at in omega (arith, at, settled)) (Become Candidate) st.deed refl q.from
          q.message took in
          let n = node_of o.post in
          let posts = deed_fits setting o.post o.before (Acts (Post (Peer (peer_of (node_of Stand_line))) (Message q.message))) o.deed
          (fits_in setting o.post o.before world k.fits o.place) in
          subst (λ kind. MessageFits (setup_of setting n o.post.port) kind o.post.did (view o.post.port (of n o.before)) (peer_of (node_of Stand_line))
          q.message)
          q.kind_is posts.fits

      pub stand_rang : newest_is elects_by st.idle ≡ true
      stand_rang = elim stand-motive [
        | inl e ↦ e
        | inr q ↦ absurd (untested q)
      ]

      -- its last backing was its delay ago
      pub stand_late : (b : ℕ) → BackedSince b st.idle → b + delay_of n s ≤ st.start.tick
      stand_late b back = by_idle st.idle refl stand_rang where
        place-in : Within stand_at.older world
        place-in = Within_tail Stand_line stand_at.older world stand_at.place

        by_deed : (r : Did) (rest : List Seen) → st.idle ≡ Here r ∷ rest → (deed : Deed) → r.deed ≡ deed → elects_by deed ≡ true →
            b + delay_of n s ≤ st.start.tick
        by_deed r rest is (Acts (Ring Elect)) e rings =
            let whole : view first_port (of n stand_at.older) ≡ Here r ∷ rest = stand_at.before ∙ is in
            let f = subst (λ z. AlarmsFit (manner_of header n) z) whole (alarms_of n stand_at.older place-in) in
            let up = subst (λ z. Rising z) whole (rise_of n stand_at.older place-in) in
            let un = subst (λ z. Unshared z) whole (unshared first_port (of n stand_at.older)) in
            let held_is : held st.idle ≡ held rest = ap held is ∙ ap (λ z. held_after z r.tick (held rest)) e in
            let le = rung_late (manner_of header n) r rest e f up.1 un back.at back.of_peer (ap (λ (z : Held). z.back) (sym held_is) ∙ back.back_is) in
            let words : word (plain rest) ≡ word (dids (of n s)) =
            sym (ap (λ z. word_after z r.step.cause (word (plain rest))) e) ∙ (ap (λ z. word (plain z)) (sym whole) ∙
            (ap word (plain_view first_port (of n stand_at.older)) ∙ word_same n stand_at.older place-in stand_since)) in
            let same : delay (word (plain rest)) ≡ delay_of n s = ap delay words in
            let since = back.since in
            let rise : r.tick ≤ st.start.tick = rang-before r rest is in
            omega (arith, le, same, since, rise)
          where
            rang-before : (r : Did) (rest : List Seen) → st.idle ≡ Here r ∷ rest → r.tick ≤ st.start.tick
            rang-before r rest is =
                let up = rise_of n world (Within_all world) in
                let up' = rising_at (view first_port (of n world)) (Here st.start) st.idle st.place up in
                subst (λ (z : List Seen). tick_of (plain z) ≤ st.start.tick) is up'
        by_deed r rest is _ e rings = absurd (true≢false (sym rings))

        by_idle : (idle : List Seen) → st.idle ≡ idle → newest_is elects_by idle ≡ true → b + delay_of n s ≤ st.start.tick
        by_idle [] is e = absurd (true≢false (sym e))
        by_idle (Elsewhere d ∷ rest) is e = absurd (true≢false (sym e))
        by_idle (Here r ∷ rest) is e = by_deed r rest is r.deed refl e
