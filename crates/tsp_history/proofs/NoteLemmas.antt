-- What is known after the lines of a history.
use Rattle.std.proofs.Common.{◌∙◌, ap, sym, subst, arith, refl, ◌⊎◌, inl, inr, eq-eqb, ◌≡◌, ◌<◌, ◌≤◌, ◌==◌, ◌+◌, ◌^◌, ℕ, ℤ, false, List, [], ◌∷◌, ◌++◌, length}
use Rattle.std.proofs.Common.{get_or, take, min}
use Rattle.std.proofs.lemmas.List.{get_or_default, get_or-take, length-append, length-take, length-take-le, take_all, take_at, take-append-le, take-take}
use Rattle.std.proofs.{Math.ListN.get_or-append, Math.Seq.get_or-append_seam, lemmas.Bool.cases_lt, lemmas.Int.ints}
use Rattle.tsp_base.specs.Words.{Line, of, dids, posted, all_corrects, boot_tick, lives, moved, wall}
use Rattle.tsp_base.{proofs.ViewPlaces.port_same, specs.declared.place.Port.Port}
use Rattle.tsp_history.specs.{Changes.BeginsOn, Clocks.IsSumOf, Histories.line_of, Histories.noted_after, Histories.history_of}
use Rattle.tsp_history.specs.Notes.{LastAt, NodeKnown, NoteIs, PortKnown, Quiet, Told}
use Rattle.tsp_history.specs.{Spacing.SpacedBy, declared.line.HistoryLine.HistoryLine, declared.notes.NodeNote.NodeNote}
use Rattle.tsp_history.{proofs.HistoryLemmas.history_more, proofs.SpacingLemmas.spaced_other, specs.declared.notes.PortNote.PortNote}
use Rattle.tsp_promises.proofs.shared.HistoryPlaces.{of_other}

-- a history is longer by its lines
pub length_noted : (h : List Line) (ns : List HistoryLine) → length (noted_after h ns) ≡ length h + length ns
length_noted h [] = omega arith
length_noted h (n ∷ rest) = omega (arith, length_noted (line_of n ∷ h) rest)

-- a history has as many lines
pub length_history : (ns : List HistoryLine) → length (history_of ns) ≡ length ns
length_history ns = omega (arith, length_noted [] ns)

-- what holds of all lines is said of the first ones, and of the newest one of these
pub newest-is : {A : Type 0} (F : List Line → A) (ns : List HistoryLine) (k j : ℕ) (n : HistoryLine) → k ≡ j + 1 → j < length ns → get_or ns j n ≡ n →
    F (history_of ns) ≡ F (history_of (take k ns)) → F (history_of ns) ≡ F (line_of n ∷ history_of (take j ns))
newest-is F ns k j n next below is so = so ∙ ap (λ i. F (history_of (take i ns))) next ∙ ap F (history_more ns j n below is)

pub all_lines : {A : Type 0} (F : List Line → A) (ns : List HistoryLine) (k : ℕ) → length ns ≤ k → F (history_of ns) ≡ F (history_of (take k ns))
all_lines F ns k le = ap (λ ms. F (history_of ms)) (sym (take_all k ns le))

-- the first of lines that tell tell
pub told_take : (ns : List HistoryLine) (k : ℕ) → Told ns → Told (take k ns)
told_take ns k told = record { at = at } where
  at : (i : ℕ) (n : HistoryLine) → i < length (take k ns) → get_or (take k ns) i n ≡ n → NoteIs (line_of n) (history_of (take i (take k ns))) n.note
  at i n below is =
      let few : i < min k (length ns) = subst (λ m. i < m) (length-take k ns) below in
      subst (λ ms. NoteIs (line_of n) (history_of ms) n.note) (sym (take-take i k ns (omega arith)))
      (told.at i n (omega arith) (sym (get_or-take k ns i n (omega arith)) ∙ is))

-- one line more tells too
pub told_push : (ns : List HistoryLine) (n : HistoryLine) → Told ns → NoteIs (line_of n) (history_of ns) n.note → Told (ns ++ n ∷ [])
told_push ns n told note = record { at = at } where
  at : (i : ℕ) (m : HistoryLine) → i < length (ns ++ n ∷ []) → get_or (ns ++ n ∷ []) i m ≡ m → NoteIs (line_of m) (history_of (take i (ns ++ n ∷ []))) m.note
  at i m below is = by_case (cases_lt i (length ns)) where
    by_case : (i < length ns) ⊎ (length ns ≤ i) → NoteIs (line_of m) (history_of (take i (ns ++ n ∷ []))) m.note
    by_case (inl lt) = subst (λ ms. NoteIs (line_of m) (history_of ms) m.note) (sym (take-append-le i ns (n ∷ []) (omega arith)))
        (told.at i m lt (sym (get_or-append ns (n ∷ []) m i lt) ∙ is))
    by_case (inr le) =
        let last : i ≡ length ns = omega (arith, below, le, length-append ns (n ∷ [])) in
        let same : n ≡ m = sym (get_or-append_seam ns n [] m) ∙ ap (λ k. get_or (ns ++ n ∷ []) k m) (sym last) ∙ is in
        subst (λ ms. NoteIs (line_of m) (history_of ms) m.note) (sym (take_at ns (n ∷ []) i (sym last)))
        (subst (λ (k : HistoryLine). NoteIs (line_of k) (history_of ns) k.note) same note)

-- a history after itself has nothing more
pub quiet_all : (n : ℕ) (ns : List HistoryLine) (k : ℕ) → length ns ≤ k → Quiet n (history_of (take k ns)) (history_of ns)
quiet_all n ns k le = subst (λ ms. Quiet n (history_of (take k ns)) (history_of ms)) (take_all k ns le) (record {
  same = refl;
  short = omega arith;
  spaced = λ o s. s;
})

-- another node's line is nothing more
pub quiet_back : (n : ℕ) (ns : List HistoryLine) (k j : ℕ) (l : HistoryLine) → k ≡ j + 1 → j < length ns → get_or ns j l ≡ l → (l.node == n) ≡ false →
    Quiet n (history_of (take k ns)) (history_of ns) → Quiet n (history_of (take j ns)) (history_of ns)
quiet_back n ns k j l next below is other q = record {
  same = q.same ∙ ap (λ h. of n h) more ∙ of_other n (line_of l) before other;
  short = omega (arith, q.short, ap (λ (h : List Line). length h) more);
  spaced = λ o s. q.spaced o (subst (λ h. SpacedBy n h o) (sym more) (λ x b far. spaced_other b n x (line_of l) before other (s x b far)));
}
  where
    before : List Line
    before = history_of (take j ns)

    more : history_of (take k ns) ≡ (line_of l ∷ before)
    more = ap (λ i. history_of (take i ns)) next ∙ history_more ns j l below is

-- as many amounts or more come to no more
pub more_small : (a b : ℕ) (z : ℤ) → a ≤ b → IsSumOf a z → IsSumOf b z
more_small a b z le small = (omega (arith, ints, le, small.0), omega (arith, ints, le, small.1))

-- what is known of a node stays where there is nothing more of it
pub known_quiet : (n : ℕ) (s h : List Line) (m : NodeNote) → Quiet n s h → NodeKnown n s m → NodeKnown n h m
known_quiet n s h m q known = record {
  clock = record {
    wall_is = known.clock.wall_is ∙ ap (λ o. wall (dids o)) (sym q.same);
    boot_is = known.clock.boot_is ∙ ap (λ o. boot_tick (dids o)) (sym q.same);
    moved_is = known.clock.moved_is ∙ ap (λ o. moved (dids o)) (sym q.same);
  };
  small = more_small (length s) (length h) m.clock.moved q.short known.small;
  counts = record {
    lives_is = known.counts.lives_is ∙ ap (λ o. lives (dids o)) (sym q.same);
    corrects_is = known.counts.corrects_is ∙ ap (λ o. all_corrects (dids o)) (sym q.same);
    few_lives = omega (arith, q.short, known.counts.few_lives);
    few_corrects = omega (arith, q.short, known.counts.few_corrects);
  };
  spaced = q.spaced m.latest known.spaced;
}

-- behind this line the node has nothing more
pub quiet_here : (n : ℕ) (ns : List HistoryLine) (k j : ℕ) (l : HistoryLine) → k ≡ j + 1 → j < length ns → get_or ns j l ≡ l →
    Quiet n (history_of (take k ns)) (history_of ns) → Quiet n (line_of l ∷ history_of (take j ns)) (history_of ns)
quiet_here n ns k j l next below is q = subst (λ s. Quiet n s (history_of ns)) (ap (λ i. history_of (take i ns)) next ∙ history_more ns j l below is) q

-- what is known at a node's last line is known of it
pub known_last : (ns : List HistoryLine) (n i : ℕ) (l : HistoryLine) → Told ns → LastAt ns n i → get_or ns i l ≡ l → NodeKnown n (history_of ns) l.note.node
known_last ns n i l told last is =
    let same : last.noted ≡ l = sym last.noted_is ∙ get_or_default ns i last.noted l last.below ∙ is in
    let known : NodeKnown last.noted.node (line_of last.noted ∷ history_of (take i ns)) last.noted.note.node =
    (told.at i last.noted last.below last.noted_is).node in
    let own : NodeKnown n (line_of last.noted ∷ history_of (take i ns)) last.noted.note.node =
    subst (λ m. NodeKnown m (line_of last.noted ∷ history_of (take i ns)) last.noted.note.node) last.node known in
    subst (λ (k : HistoryLine). NodeKnown n (history_of ns) k.note.node) same (known_quiet n (line_of last.noted ∷ history_of (take i ns)) (history_of ns)
    last.noted.note.node last.quiet own)

-- what is known behind a line is known of the first lines with it
pub first_lines : (ns : List HistoryLine) (k j : ℕ) (l : HistoryLine) → k ≡ j + 1 → j < length ns → get_or ns j l ≡ l → history_of (take k ns) ≡
    (line_of l ∷ history_of (take j ns))
first_lines ns k j l next below is = ap (λ i. history_of (take i ns)) next ∙ history_more ns j l below is

pub port_more : (n : ℕ) (q : Port) (ns : List HistoryLine) (k j : ℕ) (l : HistoryLine) → k ≡ j + 1 → j < length ns → get_or ns j l ≡ l → (m : PortNote) →
    PortKnown n q (line_of l ∷ history_of (take j ns)) m → PortKnown n q (history_of (take k ns)) m
port_more n q ns k j l next below is m known = subst (λ h. PortKnown n q h m) (sym (first_lines ns k j l next below is)) known

pub posted_more : (ns : List HistoryLine) (k j : ℕ) (l : HistoryLine) → k ≡ j + 1 → j < length ns → get_or ns j l ≡ l → posted (dids (history_of (take k ns))) ≡
    posted (dids (line_of l ∷ history_of (take j ns)))
posted_more ns k j l next below is = ap (λ h. posted (dids h)) (first_lines ns k j l next below is)

-- the last line tells how many datagrams were posted
pub posted_last : (ns : List HistoryLine) (j : ℕ) (l : HistoryLine) → length ns ≡ j + 1 → get_or ns j l ≡ l → Told ns → l.note.posted ≡
    posted (dids (history_of ns))
posted_last ns j l last is told =
    let below : j < length ns = omega arith in
    let F : List Line → ℕ = λ h. posted (dids h) in
    (told.at j l below is).posted_is ∙ sym (newest-is F ns (length ns) j l last below is (all_lines F ns (length ns) (omega arith)))

pub posted_few : (ns : List HistoryLine) (j : ℕ) (l : HistoryLine) → length ns ≡ j + 1 → get_or ns j l ≡ l → Told ns → l.note.posted ≤ length ns
posted_few ns j l last is told =
    let below : j < length ns = omega arith in
    omega (arith, (told.at j l below is).few, length_history (take j ns), length-take-le j ns (omega arith))

-- what is known of a line's node is small
pub moved_small : (ns : List HistoryLine) (j : ℕ) (l : HistoryLine) → j < length ns → get_or ns j l ≡ l → length ns < 2 ^ 32 → Told ns →
    IsSumOf 4294967295 l.note.node.clock.moved
moved_small ns j l below is few told =
    more_small (length (line_of l ∷ history_of (take j ns))) 4294967295 l.note.node.clock.moved
    (omega (arith, few, length_history (take j ns), length-take-le j ns (omega arith))) (told.at j l below is).node.small

-- a line of a port, by the whole port
pub begins_port : (l : HistoryLine) (n : ℕ) (q : Port) → BeginsOn l n q → l.port ≡ q
begins_port l n q on = port_same l.port q (eq-eqb l.port.0 q.0 on.port)
