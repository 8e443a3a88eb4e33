-- How an agreement grows by a line.
use Rattle.std.proofs.Common.{sym, ap, subst, subst₂, ◌∙◌, arith, inl, inr, get_or, take, eqb-true, true≢false, ◌≡◌, ◌==◌, ◌<◌, ◌≤◌, ◌+◌, ℕ, ℤ, pos, Bool, true}
use Rattle.std.proofs.Common.{false, MatchBool, is_some, is_none, Option, None, Some, List, [], ◌∷◌, ◌++◌, length, refl, set}
use Rattle.std.proofs.{Math.ListN.get_or-append, Math.Seq.get_or-append_seam, lemmas.Bool.cases_lt}
use Rattle.std.proofs.lemmas.List.{get_or-set_other, get_or-set_same, length-append, length-set}
use Rattle.tsp_rules.specs.Values.{Act, Post, Message, AdjTime, PeerId, Peer, Port}
use Rattle.tsp_base.specs.Words.{HeaderValue, Acts, Here, Line, Seen, from_act, of, view, MessageValue, Within, acting, best}
use Rattle.tsp_promises.specs.{Agreed.AgreedAt, Agreed.RestsOnSample, Fits.node_of, Setting.Setting, StepFacts.closed}
use Rattle.tsp_base.proofs.PlaceLemmas.{Within_length}
use Rattle.tsp_audit.specs.Agreeing.{AgreementIs, AllAgree, AllAre, AllBounded, AreBlank, FirstIs, IsAtPlace, NodeIs, Numbered}
use Rattle.tsp_audit.specs.{Resting.RestsOn, Settings.HasClocks, declared.agreement_tracker.AgreementTracker.AgreementTracker}
use Rattle.tsp_audit.specs.declared.round_correction.NodeState.{NodeState}
use Rattle.tsp_audit.proofs.{AgreementLemmas.clocks_agree, AgreementLemmas.clocks_back, StateLemmas.node_still, StateLemmas.still_other}
use Rattle.tsp_history.specs.{declared.rounds.Best.Best, Histories.deed_of, Histories.history_of, Histories.line_of, declared.line.HistoryLine.HistoryLine}
use Rattle.tsp_history.specs.Rounds.{Bests, SeenAt, TripsTell, trip_at}
use Rattle.tsp_audit.proofs.Alike.{first_same, none_first, peer_same, rest_same}

-- one blank node more
pub blank_more : (count : ℕ) (states : List NodeState) (s : NodeState) → AreBlank count states → ((n : ℕ) → NodeIs n [] s) →
    AreBlank (count + 1) (states ++ s ∷ [])
blank_more count states s a blank = record { many = omega (arith, length-append states (s ∷ []), a.many); blank = each } where
  each : (k : ℕ) (t : NodeState) → IsAtPlace (states ++ s ∷ []) k t → (n : ℕ) → NodeIs n [] t
  each k t at = elim (cases_lt k (length states)) [
    | inl lt ↦ a.blank k t (record { below = lt; is = sym (get_or-append states (s ∷ []) t k lt) ∙ at.is })
    | inr le ↦
        let last : k ≡ length states = omega (arith, le, at.below, length-append states (s ∷ [])) in
        let same : s ≡ t = sym (get_or-append_seam states s [] t) ∙ (ap (λ (i : ℕ). get_or (states ++ s ∷ []) i t) (sym last) ∙ at.is) in
        λ n. subst (λ (u : NodeState). NodeIs n [] u) same (blank n)
  ]

not_equal : (a b : ℕ) → (a == b) ≡ false → b ≡ a → ⊥
not_equal a b e same = true≢false (sym (subst (λ (k : ℕ). (a == k) ≡ true) (sym same) (eq_self a)) ∙ e) where
  eq_self : (k : ℕ) → (k == k) ≡ true
  eq_self k = search arith

-- the line's node has changed, the others stay
pub all-next : (h : List Line) (l : Line) (states : List NodeState) (s : NodeState) (i : ℕ) → AllAre h states → node_of l ≡ i → i < length states →
    NodeIs i (l ∷ h) s → AllAre (l ∷ h) (set states i s)
all-next h l states s i a node lt is = λ n t at. by_node n t at (i == n) refl where
  by_node : (n : ℕ) (t : NodeState) → IsAtPlace (set states i s) n t → (b : Bool) → (i == n) ≡ b → NodeIs n (l ∷ h) t
  by_node n t at true e =
      let same : i ≡ n = eqb-true i n e in
      let here : s ≡ t = sym (get_or-set_same states i s t lt) ∙ (ap (λ (k : ℕ). get_or (set states i s) k t) same ∙ at.is) in
      subst (λ (k : ℕ). NodeIs k (l ∷ h) t) same (subst (λ (u : NodeState). NodeIs i (l ∷ h) u) here is)
  by_node n t at false e =
      let other : n ≡ i → ⊥ = not_equal i n e in
      let still : (node_of l == n) ≡ false = subst (λ (k : ℕ). (k == n) ≡ false) (sym node) e in
      let old : IsAtPlace states n t = record {
        below = omega (arith, at.below, length-set states i s);
        is = sym (get_or-set_other states i n s t other) ∙
            at.is;
      } in
      node_still n l h t (still_other n l h still) (a n t old)

-- a line of another node changes nothing
pub all-other : (h : List Line) (l : Line) (states : List NodeState) → AllAre h states → length states ≤ node_of l → AllAre (l ∷ h) states
all-other h l states a far = λ n t at. node_still n l h t (still_other n l h (by_node n at (node_of l == n) refl)) (a n t at) where
  by_node : (n : ℕ) {t : NodeState} → IsAtPlace states n t → (b : Bool) → (node_of l == n) ≡ b → (node_of l == n) ≡ false
  by_node n at true e = let bad : ⊥ = omega (arith, eqb-true (node_of l) n e, at.below, far) in absurd bad
  by_node n at false e = e

trips_next : (h : List Line) (l : Line) (trips : List ℤ) → length trips ≡ length h → TripsTell h trips → TripsTell (l ∷ h) (trips ++ trip_at l h ∷ [])
trips_next h l trips many tell = λ k before w. by_place k before w where
  by_place : (k : Line) (before : List Line) → Within (k ∷ before) (l ∷ h) → get_or (trips ++ trip_at l h ∷ []) (length before) (pos 0) ≡ trip_at k before
  by_place k before (inl e) =
      let line : k ≡ l = first_same e in
      let rest : before ≡ h = rest_same e in
      let index : length before ≡ length trips = ap (λ (t : List Line). length t) rest ∙ sym many in
      let both : trip_at l h ≡ trip_at k before = sym (subst₂ (λ (i : Line) (s : List Line). trip_at k before ≡ trip_at i s) line rest refl) in
      ap (λ (i : ℕ). get_or (trips ++ trip_at l h ∷ []) i (pos 0)) index ∙ (get_or-append_seam trips (trip_at l h) [] (pos 0) ∙ both)
  by_place k before (inr w) =
      let lt : length before < length trips = omega (arith, Within_length (k ∷ before) h w, many) in
      get_or-append trips (trip_at l h ∷ []) (pos 0) (length before) lt ∙ tell k before w

-- the agreement of a line more
pub agreement_next : (count : ℕ) (h : List Line) (l : Line) (a b : AgreementTracker) → AgreementIs count h a → b.trips.items ≡ a.trips.items ++ trip_at l h ∷
    [] → FirstIs (from_act (l ∷ h)) b.last → AllAre (l ∷ h) b.nodes.items → length b.nodes.items ≡ length a.nodes.items → AgreementIs count (l ∷ h) b
agreement_next count h l a b is trips last nodes many = record {
  few = is.few;
  many = many ∙ is.many;
  lines = ap (λ (t : List ℤ). length t) trips ∙ omega (arith, length-append a.trips.items (trip_at l h ∷ []), is.lines);
  trips_tell = subst (λ (t : List ℤ). TripsTell (l ∷ h) t) (sym trips) (trips_next h l a.trips.items is.lines is.trips_tell);
  last_is = last;
  nodes_are = nodes;
}

pub agreement_blank : (count : ℕ) (a : AgreementTracker) → count ≤ 64 → AreBlank count a.nodes.items → a.trips.items ≡ [] → a.last ≡ None →
    AgreementIs count [] a
agreement_blank count a few blank trips last = record {
  few = few;
  many = blank.many;
  lines = ap (λ (t : List ℤ). length t) trips;
  trips_tell = λ l before w. absurd (none_first w);
  last_is = subst (λ (o : Option ℕ). FirstIs [] o) (sym last) refl;
  nodes_are = λ n s at. blank.blank n s at n;
}

-- an ADJTIME rests on what the last Close had
pub rests-told : (l : Line) (seen : List Seen) (p : PeerId) (m : MessageValue) (b : Bool) → l.did.deed ≡ Acts (Post (Peer p) (Message m)) → m.kind ≡ AdjTime →
    acting seen ≡ true → MatchBool b (RestsOn p seen) (RestsOn p seen → ⊥) →
    MatchBool b (RestsOnSample l seen) (RestsOnSample l seen → ⊥)
rests-told l seen p m true deed kind act good = λ q o close older d k t closes.
    let deeds : Acts (Post (Peer p) (Message m)) ≡ Acts (Post (Peer q) (Message o)) = sym deed ∙ d in
    let who : p ≡ q = peer_same deeds in
    subst (λ (r : PeerId). is_some (best r older) ≡ true) who (good close older closes)
rests-told l seen p m false deed kind act bad = λ f. bad (λ close older closes. f p m close older deed kind act closes)

pub sample_told : (ns : List HistoryLine) (n : ℕ) (q : Port) (p : PeerId) (i : ℕ) (o : Option Best) (b : Bool) →
    SeenAt ns n q (closed (view q (of n (history_of ns)))) i → Bests (take i ns) n q (best p (view q (of n (history_of (take i ns))))) o → b ≡ is_some o →
    MatchBool b (RestsOn p (view q (of n (history_of ns)))) (RestsOn p (view q (of n (history_of ns))) → ⊥)
sample_told ns n q p i None true s none e = absurd (true≢false e)
sample_told ns n q p i None false s none e = λ f. true≢false (sym (f (line_of s.noted).did (view q (of n (history_of (take i ns)))) s.is) ∙ ap is_some none)
sample_told ns n q p i (Some b) true s best_is e = λ close older closes.
    let both : Here (line_of s.noted).did ∷ view q (of n (history_of (take i ns))) ≡ Here close ∷ older = sym s.is ∙ closes in
    let rest : view q (of n (history_of (take i ns))) ≡ older = rest_same both in
    ap (λ (t : List Seen). is_some (best p t)) (sym rest) ∙ ap is_some best_is.is
sample_told ns n q p i (Some b) false s best_is e = absurd (true≢false (sym e))

-- the clocks after an act tell whether it keeps that clocks agree
pub agrees_told : (header : HeaderValue) (setting : Setting) (count : ℕ) (l : Line) (h : List Line) (a : AgreementTracker) (act : Act) (b : Bool) →
    HasClocks header setting → Numbered count (l ∷ h) → AgreementIs count (l ∷ h) a → RestsOnSample l (view l.port (of (node_of l) h)) → l.did.deed ≡ Acts act →
    MatchBool b (AllAgree header l.did.step.at 0 a.nodes.items) (AllAgree header l.did.step.at 0 a.nodes.items → ⊥) →
    MatchBool b (AgreedAt setting l h) (AgreedAt setting l h → ⊥)
agrees_told header setting count l h a act true has numbered is rests deed good =
    record { rests = rests; clocks = λ d e. clocks_agree header setting count (l ∷ h) a l.did.step.at has numbered is good }
agrees_told header setting count l h a act false has numbered is rests deed bad =
    λ c. bad (clocks_back header setting count (l ∷ h) a l.did.step.at has is (c.clocks act deed))

pub all_bounded : (h : List Line) (states : List NodeState) → AllAre h states → AllBounded states
all_bounded h states a = λ n s at. (a n s at).bounded

-- what stands at an index is what is kept of that node
pub kept_at : (h : List Line) (states : List NodeState) (i : ℕ) (s : NodeState) → AllAre h states → i < length states → get_or states i s ≡ s → NodeIs i h s
kept_at h states i s a lt is = a i s (record { below = lt; is = is })

-- a line that is no mark is an act
pub act_some : (o : Option Act) → is_none o ≡ false → (a : Act) × (deed_of o ≡ Acts a)
act_some None e = absurd (true≢false e)
act_some (Some a) e = (a, refl)

pub trips_less : (l : Line) (h : List Line) (trips : List ℤ) → TripsTell (l ∷ h) trips → TripsTell h trips
trips_less l h trips tell = λ k before w. tell k before (inr w)
