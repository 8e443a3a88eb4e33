-- What is kept of all nodes tells whether their clocks agree.
use Rattle.std.proofs.Common.{sym, ap, subst, subst₂, ◌∙◌, arith, inl, inr, get_or, ◌≡◌, ◌<◌, ◌≤ℤ◌, ◌+◌, ◌-◌, ◌*◌, ℕ, ℤ, pos, ◌+ℤ◌, ◌-ℤ◌, nat_abs, Option, None}
use Rattle.std.proofs.Common.{Some, List, [], ◌∷◌, length, refl}
use Rattle.std.proofs.lemmas.{Int.ints, List.get_or_default}
use Rattle.tsp_promises.specs.Agreed.{FromRound, ClocksAgree, MasterAgrees, PeersAgree, RightAfter, Unchanged, UnchangedBut}
use Rattle.tsp_base.specs.Words.{HeaderValue, Acts, Begins, Deed, Line, dids, from_act, from_act_at, of, all_corrects, lives, moved, Within, width}
use Rattle.tsp_promises.{proofs.shared.EverywhereLemmas.Everywhere_at, specs.ClockAt.clock_at, specs.Fits.node_of, specs.Setting.Setting}
use Rattle.tsp_base.proofs.PlaceLemmas.{Within_all, Within_comparable, Within_length, Within_tail, Within_through}
use Rattle.tsp_audit.specs.Agreeing.{AgreementIs, AfterAs, AfterIs, AllAgree, BossAgrees, IsAtPlace, LiveAs, LiveIs, MasterNearWithSpare, NodeIs, Numbered}
use Rattle.tsp_audit.specs.Agreeing.{PairAgrees, PairNear, FromRoundStands, err_less, shown_by}
use Rattle.tsp_audit.specs.{Settings.HasClocks, declared.agreement_tracker.AgreementTracker.AgreementTracker}
use Rattle.tsp_audit.specs.declared.round_correction.{NodeState.NodeState, RoundCorrection.RoundCorrection}
use Rattle.tsp_audit.proofs.{FromRoundLemmas.from_round_one, StateLemmas.last_one}
use Rattle.tsp_audit.proofs.Alike.{carry, first_same, rest_same}

-- places with as many entries before them are one
pub place_one : (a b : Line) (s t h : List Line) → Within (a ∷ s) h → Within (b ∷ t) h → length s ≡ length t → a ∷ s ≡ b ∷ t
place_one a b s t h v w e = elim (Within_comparable (a ∷ s) (b ∷ t) h v w) [
  | inl (inl same) ↦ same
  | inl (inr i) ↦ absurd (omega (arith, Within_length (a ∷ s) t i, e))
  | inr (inl same) ↦ sym same
  | inr (inr i) ↦ absurd (omega (arith, Within_length (b ∷ t) s i, e))
]

act_at : (d : Deed) (l : Line) (h : List Line) → Within (from_act h) h → Within (from_act_at d (l ∷ h) (from_act h)) (l ∷ h)
act_at Begins l h w = inr w
act_at (Acts a) l h w = Within_all (l ∷ h)

-- the newest act is a place of the history
act_within : (h : List Line) → Within (from_act h) h
act_within [] = refl
act_within (l ∷ h) = act_at l.did.deed l h (act_within h)

-- what is kept of a FromRound since which its node was left alone
pub record Found (m : ℕ) (close : Line) (cpast : List Line) (r : Line) (e : ℤ) (o : Option RoundCorrection) : Type 0 where
  pub live : RoundCorrection
  pub is : o ≡ Some live
  pub master : live.master ≡ m
  pub close_is : live.close ≡ length cpast
  pub at : live.at ≡ r.did.step.at
  pub err : live.err ≡ e
  pub lives_is : live.lives ≡ lives (dids (of m (close ∷ cpast)))
  pub corrects_is : live.corrects ≡ all_corrects (dids (of m (close ∷ cpast)))

found : (n : ℕ) (h : List Line) (o : Option RoundCorrection) → LiveIs n h o → (m : ℕ) (close : Line) (cpast : List Line) (c : Line) (past : List Line)
    (r : Line) (older : List Line) (e : ℤ) →
    FromRound m close cpast c past r older e → node_of c ≡ n → Unchanged n (c ∷ past) h → Found m close cpast r e o
found n h None none m close cpast c past r older e from_round node u = absurd (none c past node u m close cpast r older e from_round)
found n h (Some k) a m close cpast c past r older e from_round node u =
    let same : a.correct ∷ a.past ≡ c ∷ past =
    last_one n a.correct c a.past past h a.is.from_round.acts.amount from_round.acts.amount a.is.from_round.acts.stepped from_round.acts.stepped
    a.is.from_round.acts.shown from_round.acts.shown a.node node a.is.from_round.acts.correct from_round.acts.correct a.unchanged.within u.within
    a.unchanged.since.corrects u.since.corrects in
    let mine = carry (λ (i : Line) (p : List Line). FromRound k.master a.is.close a.is.cpast i p a.is.reading a.is.older k.err) same a.is.from_round in
    let one = from_round_one c past k.master m a.is.close close a.is.cpast cpast a.is.reading r a.is.older older k.err e mine from_round in
    let past_is : a.is.cpast ≡ cpast = rest_same one.rounds.closes in
    let reading : a.is.reading ≡ r = first_same one.rounds.reading in
    record {
      live = k;
      is = refl;
      master = one.master;
      close_is = a.is.close_is ∙ ap (λ (t : List Line). length t) past_is;
      at = a.is.at_is ∙ ap (λ (l : Line). l.did.step.at) reading;
      err = one.rounds.err;
      lives_is = a.is.lives_is ∙ ap (λ (i : ℕ). lives (dids (of i (a.is.close ∷ a.is.cpast)))) one.master ∙
          ap (λ (t : List Line). lives (dids (of m t))) one.rounds.closes;
      corrects_is = a.is.corrects_is ∙ ap (λ (i : ℕ). all_corrects (dids (of i (a.is.close ∷ a.is.cpast)))) one.master ∙
          ap (λ (t : List Line). all_corrects (dids (of m t))) one.rounds.closes;
    }

-- the clock by what is kept
clock_kept : (header : HeaderValue) (setting : Setting) (n : ℕ) (h : List Line) (s : NodeState) (t : ℕ) → HasClocks header setting → NodeIs n h s →
    shown_by header n s.moved t ≡ clock_at setting n h t
clock_kept header setting n h s t has is =
    let own : shown_by header n s.moved t ≡ shown_by header n (moved (dids (of n h))) t = ap (λ (z : ℤ). shown_by header n z t) is.moved_is in
    own ∙ subst₂ (λ (w : ℤ) (x : ℕ). shown_by header n (moved (dids (of n h))) t ≡ (w +ℤ moved (dids (of n h))) +ℤ pos x)
    (sym (has.wall_is n (lives (dids (of n h))))) (sym (has.tick_is n t)) refl

-- the state that is read where none stands
abbrev pub no_state : NodeState
no_state = record { moved = pos 0; lives = 0; corrects = 0; after = None; from_round = None }

-- what stands at an index is what stands there
pub here_at : (states : List NodeState) (i : ℕ) → i < length states → IsAtPlace states i (get_or states i no_state)
here_at states i lt = record { below = lt; is = get_or_default states i (get_or states i no_state) no_state lt }

pub state_at : (states : List NodeState) (i k : ℕ) (b : NodeState) → IsAtPlace states k b → i ≡ k → get_or states i no_state ≡ b
state_at states i k b at e = get_or_default states i no_state b (omega (arith, e, at.below)) ∙ (ap (λ (j : ℕ). get_or states j b) e ∙ at.is)

-- a node of a history has a state
pub record Kept (states : List NodeState) (n : ℕ) (h : List Line) : Type 0 where
  pub state : NodeState
  pub at : IsAtPlace states n state
  pub is : NodeIs n h state

kept : (count : ℕ) (h : List Line) (a : AgreementTracker) (n : ℕ) → AgreementIs count h a → n < count → Kept a.nodes.items n h
kept count h a n is lt =
    let at = here_at a.nodes.items n (omega (arith, lt, is.many)) in
    record { state = get_or a.nodes.items n no_state; at = at; is = is.nodes_are n _ at }

node_below : (count : ℕ) (l : Line) (s h : List Line) → Numbered count h → Within (l ∷ s) h → node_of l < count
node_below count l s h numbered w = Everywhere_at (λ k before. node_of k < count) l s h numbered w

-- two clocks near each other by two errors
abbrev Near : ℤ → ℤ → ℤ → ℤ → ℕ → ℕ → ℕ → ℕ → Type 0
Near u v e f w t p q = pos (nat_abs (u -ℤ v)) ≤ℤ ((e +ℤ f) +ℤ pos (2 * width w (t - p) + 2 * width w (t - q)))

near_move : (u v e f : ℤ) (w t p q : ℕ) (x y g i : ℤ) (z r s : ℕ) → u ≡ x → v ≡ y → e ≡ g → f ≡ i → w ≡ z → p ≡ r → q ≡ s → Near u v e f w t p q →
    Near x y g i z t r s
near_move u v e f w t p q x y g i z r s ux vy eg fi wz pr qs near =
    subst₂ (λ (a b : ℤ). Near a b g i z t r s) ux vy (subst₂ (λ (a b : ℤ). Near u v a b z t r s) eg fi (subst₂ (λ (a b : ℕ). Near u v e f z t a b) pr qs
    (subst (λ (a : ℕ). Near u v e f a t p q) wz near)))

-- an error with nothing to spare
err_whole : (c : RoundCorrection) → err_less 0 c ≡ c.err
err_whole c = omega (arith, ints)

-- by one error
abbrev Close : ℤ → ℤ → ℤ → ℕ → ℕ → ℕ → Type 0
Close u v e w t p = pos (nat_abs (u -ℤ v)) ≤ℤ (e +ℤ pos (2 * width w (t - p)))

close_move : (u v e : ℤ) (w t p : ℕ) (x y g : ℤ) (z r : ℕ) → u ≡ x → v ≡ y → e ≡ g → w ≡ z → p ≡ r → Close u v e w t p → Close x y g z t r
close_move u v e w t p x y g z r ux vy eg wz pr near =
    subst₂ (λ (a b : ℤ). Close a b g z t r) ux vy (subst (λ (a : ℤ). Close u v a z t r) eg
    (subst (λ (a : ℕ). Close u v e z t a) pr (subst (λ (a : ℕ). Close u v e a t p) wz near)))

-- peers
peers_agree : (header : HeaderValue) (setting : Setting) (count : ℕ) (h : List Line) (a : AgreementTracker) (t : ℕ) → HasClocks header setting →
    Numbered count h → AgreementIs count h a → AllAgree header t 0 a.nodes.items → PeersAgree setting h t
peers_agree header setting count h a t has numbered is all = λ m close cpast c d past qast r q rolder qolder e f one other cu du.
    let n : ℕ = node_of c in
    let k : ℕ = node_of d in
    let x = kept count h a n is (node_below count c past h numbered cu.within) in
    let y = kept count h a k is (node_below count d qast h numbered du.within) in
    let o = found n h x.state.from_round x.is.correction_is m close cpast c past r rolder e one refl cu in
    let p = found k h y.state.from_round y.is.correction_is m close cpast d qast q qolder f other refl du in
    let near : PairNear header t 0 n x.state o.live k y.state p.live = (all n x.state x.at).pairs k y.state y.at o.live p.live o.is p.is (o.master ∙
    sym p.master) (o.close_is ∙ sym p.close_is) in
    near_move (shown_by header n x.state.moved t) (shown_by header k y.state.moved t) (err_less 0 o.live) (err_less 0 p.live) header.drift t o.live.at p.live.at
    (clock_at setting n h t) (clock_at setting k h t) e f setting.drift r.did.step.at q.did.step.at
    (clock_kept header setting n h x.state t has x.is) (clock_kept header setting k h y.state t has y.is) (err_whole o.live ∙ o.err) (err_whole p.live ∙
    p.err) (sym has.drift_is) o.at p.at near

-- the master was left alone just where what is kept says so
stands_so : (m : ℕ) (close : Line) (cpast h : List Line) (c : RoundCorrection) (b : NodeState) → c.close ≡ length cpast → c.lives ≡
    lives (dids (of m (close ∷ cpast))) → c.corrects ≡ all_corrects (dids (of m (close ∷ cpast))) → NodeIs m h b → UnchangedBut m close cpast h →
    FromRoundStands c b
stands_so m close cpast h c b close_is lives_is corrects_is is u = (
  lives_is ∙ (u.lives ∙ sym is.lives_is),
  elim u.corrects [
    | inl e ↦ inl (corrects_is ∙ (e ∙ sym is.corrects_is))
    | inr right ↦ inr (by_after b.after is.after_is right)
  ],
) where
  by_after : (o : Option ℕ) → AfterIs m h o → RightAfter m close cpast h → o ≡ Some c.close
  by_after None none x = absurd (none close cpast x)
  by_after (Some i) y x =
      let next : y.after.next ∷ y.after.before ≡ x.next ∷ x.before =
      last_one m y.after.next x.next y.after.before x.before h y.after.amount x.amount y.after.stepped x.stepped y.after.shown x.shown y.after.node x.node
      y.after.deed x.deed y.after.place x.place y.after.corrects x.corrects in
      let before : y.after.before ≡ x.before = rest_same next in
      let acts : y.act ∷ y.apast ≡ close ∷ cpast = sym y.after.is ∙ (ap from_act before ∙ x.is) in
      let past : y.apast ≡ cpast = rest_same acts in
      ap Some (y.index_is ∙ (ap (λ (t : List Line). length t) past ∙ sym close_is))

stands_but : (m : ℕ) (close : Line) (cpast h : List Line) (c : RoundCorrection) (b : NodeState) → Within (close ∷ cpast) h → c.close ≡ length cpast → c.lives ≡
    lives (dids (of m (close ∷ cpast))) → c.corrects ≡ all_corrects (dids (of m (close ∷ cpast))) → NodeIs m h b → FromRoundStands c b →
    UnchangedBut m close cpast h
stands_but m close cpast h c b w close_is lives_is corrects_is is stands = record {
  lives = sym lives_is ∙ (stands.0 ∙ is.lives_is);
  corrects = elim stands.1 [
    | inl e ↦ inl (sym corrects_is ∙ (e ∙ is.corrects_is))
    | inr e ↦
        let y : AfterAs m h c.close = subst (λ (o : Option ℕ). AfterIs m h o) e is.after_is in
        let act : Within (y.act ∷ y.apast) y.after.before = subst (λ (k : List Line). Within k y.after.before) y.after.is (act_within y.after.before) in
        let there : Within (y.act ∷ y.apast) h = Within_through (y.act ∷ y.apast) y.after.before h act (Within_tail y.after.next y.after.before h y.after.place)
        in
        let same : y.act ∷ y.apast ≡ close ∷ cpast = place_one y.act close y.apast cpast h there w (sym y.index_is ∙ close_is) in
        inr (carry (λ (i : Line) (p : List Line). RightAfter m i p h) same y.after)
  ];
}

-- the master
master_agrees : (header : HeaderValue) (setting : Setting) (count : ℕ) (h : List Line) (a : AgreementTracker) (t : ℕ) → HasClocks header setting →
    Numbered count h → AgreementIs count h a → AllAgree header t 0 a.nodes.items → MasterAgrees setting h t
master_agrees header setting count h a t has numbered is all = λ m close cpast c past r rolder e from_round u but.
    let n : ℕ = node_of c in
    let x = kept count h a n is (node_below count c past h numbered u.within) in
    let o = found n h x.state.from_round x.is.correction_is m close cpast c past r rolder e from_round refl u in
    let w : Within (from_round.post ∷ from_round.before) h = Within_through (from_round.post ∷ from_round.before) past h from_round.acts.brings.place
    (Within_tail c past h u.within) in
    let below : m < count = subst (λ (i : ℕ). i < count) from_round.node (node_below count from_round.post from_round.before h numbered w) in
    let b = kept count h a m is below in
    let at : IsAtPlace a.nodes.items o.live.master b.state = subst (λ (i : ℕ). IsAtPlace a.nodes.items i b.state) (sym o.master) b.at in
    let near : MasterNearWithSpare header t 0 n x.state o.live b.state = (all n x.state x.at).master o.live b.state o.is at
    (stands_so m close cpast h o.live b.state o.close_is o.lives_is o.corrects_is b.is but) in
    let mine : shown_by header o.live.master b.state.moved t ≡ clock_at setting m h t = ap (λ (i : ℕ). shown_by header i b.state.moved t) o.master ∙
    clock_kept header setting m h b.state t has b.is in
    close_move (shown_by header n x.state.moved t) (shown_by header o.live.master b.state.moved t) (err_less 0 o.live) header.drift t o.live.at
    (clock_at setting n h t) (clock_at setting m h t) e setting.drift r.did.step.at
    (clock_kept header setting n h x.state t has x.is) mine (err_whole o.live ∙ o.err) (sym has.drift_is) o.at near

pub clocks_agree : (header : HeaderValue) (setting : Setting) (count : ℕ) (h : List Line) (a : AgreementTracker) (t : ℕ) → HasClocks header setting →
    Numbered count h → AgreementIs count h a → AllAgree header t 0 a.nodes.items → ClocksAgree setting h t
clocks_agree header setting count h a t has numbered is all = record {
  peers = peers_agree header setting count h a t has numbered is all;
  master = master_agrees header setting count h a t has numbered is all;
}

-- and back
pair_back : (header : HeaderValue) (setting : Setting) (h : List Line) (t n k : ℕ) (a b : NodeState) → HasClocks header setting → NodeIs n h a → NodeIs k h b →
    PeersAgree setting h t → PairAgrees header t 0 n a k b
pair_back header setting h t n k a b has ai bi peers = λ c d ac bd masters closes.
    let x : LiveAs n h c = subst (λ (o : Option RoundCorrection). LiveIs n h o) ac ai.correction_is in
    let y : LiveAs k h d = subst (λ (o : Option RoundCorrection). LiveIs k h o) bd bi.correction_is in
    let xw : Within (x.is.close ∷ x.is.cpast) h = Within_through (x.is.close ∷ x.is.cpast) x.past h x.is.from_round.closes
    (Within_tail x.correct x.past h x.unchanged.within) in
    let yw : Within (y.is.close ∷ y.is.cpast) h = Within_through (y.is.close ∷ y.is.cpast) y.past h y.is.from_round.closes
    (Within_tail y.correct y.past h y.unchanged.within) in
    let same : y.is.close ∷ y.is.cpast ≡ x.is.close ∷ x.is.cpast = place_one y.is.close x.is.close y.is.cpast x.is.cpast h yw xw (sym y.is.close_is ∙
    (sym closes ∙ x.is.close_is)) in
    let there = carry (λ (i : Line) (p : List Line). FromRound d.master i p y.correct y.past y.is.reading y.is.older d.err) same y.is.from_round in
    let other : FromRound c.master x.is.close x.is.cpast y.correct y.past y.is.reading y.is.older d.err =
    subst (λ (i : ℕ). FromRound i x.is.close x.is.cpast y.correct y.past y.is.reading y.is.older d.err) (sym masters) there in
    let near : Near (clock_at setting (node_of x.correct) h t) (clock_at setting (node_of y.correct) h t) c.err d.err setting.drift t x.is.reading.did.step.at
    y.is.reading.did.step.at =
    peers c.master x.is.close x.is.cpast x.correct y.correct x.past y.past x.is.reading y.is.reading x.is.older y.is.older c.err d.err x.is.from_round other
    (subst (λ (i : ℕ). Unchanged i (x.correct ∷ x.past) h) (sym x.node) x.unchanged) (subst (λ (i : ℕ). Unchanged i (y.correct ∷ y.past) h) (sym y.node)
    y.unchanged) in
    near_move (clock_at setting (node_of x.correct) h t) (clock_at setting (node_of y.correct) h t) c.err d.err setting.drift t x.is.reading.did.step.at
    y.is.reading.did.step.at (shown_by header n a.moved t) (shown_by header k b.moved t) (err_less 0 c) (err_less 0 d) header.drift c.at d.at
    (ap (λ (i : ℕ). clock_at setting i h t) x.node ∙ sym (clock_kept header setting n h a t has ai)) (ap (λ (i : ℕ). clock_at setting i h t) y.node ∙
    sym (clock_kept header setting k h b t has bi)) (sym (err_whole c)) (sym (err_whole d)) has.drift_is (sym x.is.at_is) (sym y.is.at_is) near

boss_back : (header : HeaderValue) (setting : Setting) (count : ℕ) (h : List Line) (s : AgreementTracker) (t n : ℕ) (a : NodeState) → HasClocks header setting →
    AgreementIs count h s → NodeIs n h a → MasterAgrees setting h t → BossAgrees header t 0 n a s.nodes.items
boss_back header setting count h s t n a has is ai master = λ c b ac at stands.
    let x : LiveAs n h c = subst (λ (o : Option RoundCorrection). LiveIs n h o) ac ai.correction_is in
    let bi : NodeIs c.master h b = is.nodes_are c.master b at in
    let xw : Within (x.is.close ∷ x.is.cpast) h = Within_through (x.is.close ∷ x.is.cpast) x.past h x.is.from_round.closes
    (Within_tail x.correct x.past h x.unchanged.within) in
    let near : Close (clock_at setting (node_of x.correct) h t) (clock_at setting c.master h t) c.err setting.drift t x.is.reading.did.step.at =
    master c.master x.is.close x.is.cpast x.correct x.past x.is.reading x.is.older c.err x.is.from_round (subst (λ (i : ℕ). Unchanged i (x.correct ∷ x.past) h)
    (sym x.node) x.unchanged)
    (stands_but c.master x.is.close x.is.cpast h c b xw x.is.close_is x.is.lives_is x.is.corrects_is bi stands) in
    close_move (clock_at setting (node_of x.correct) h t) (clock_at setting c.master h t) c.err setting.drift t x.is.reading.did.step.at
    (shown_by header n a.moved t) (shown_by header c.master b.moved t) (err_less 0 c) header.drift c.at
    (ap (λ (i : ℕ). clock_at setting i h t) x.node ∙ sym (clock_kept header setting n h a t has ai)) (sym (clock_kept header setting c.master h b t has bi))
    (sym (err_whole c)) has.drift_is (sym x.is.at_is) near

pub clocks_back : (header : HeaderValue) (setting : Setting) (count : ℕ) (h : List Line) (s : AgreementTracker) (t : ℕ) → HasClocks header setting →
    AgreementIs count h s → ClocksAgree setting h t → AllAgree header t 0 s.nodes.items
clocks_back header setting count h s t has is c = λ n a at. record {
  pairs = λ k b there. pair_back header setting h t n k a b has (is.nodes_are n a at) (is.nodes_are k b there) c.peers;
  master = boss_back header setting count h s t n a has is (is.nodes_are n a at) c.master;
}
