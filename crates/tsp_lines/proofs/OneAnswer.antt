-- An input has one answer.
use Rattle.std.proofs.Common.{◌≡◌, ℕ, ◌≤◌, ◌+◌, inl, inr, List, [], ◌∷◌, ◌++◌, None, Some, refl, sym, ap, ◌∙◌, append_assoc, append-nil, length, length-append}
use Rattle.std.proofs.Common.{arith, subst, All, ◌⊎◌}
use Rattle.std.specs.declared.option.Option.{Option}
use Rattle.std.proofs.lemmas.{Grind.flat_map-append, List.append_cancel_left, List.Elements.All-push}
use Rattle.tsp_io.specs.Streams.{Grows}
use Rattle.tsp_lines.specs.Lines.{NoFeed, close, closed, Begins, IsInput, AreLines, IsWhole, HasLines, HasNext, HasMore, IsPast}
use Rattle.tsp_lines.proofs.{OneCut.AreLines_none, OneCut.AreLines_one, OneCut.cut, OneCut.front_of, OneCut.feed_within, Aheads.begins}
use Rattle.tsp_lines.specs.Outcomes.{bad_line, IsBad, IsLimited, IsDone, Follows, Comes}
use Rattle.tsp_lines.specs.{Answers.IsEnding, Answers.IsAnswer, Answers.IsPart, Answers.Agrees, Answers.Answers, Definite.IsDefinite}
use Rattle.tsp_lines.{specs.declared.treat.Outcome.Outcome, proofs.Comes.HasLines_next, specs.Meanings.Meaning}
use Rattle.tsp_lines.specs.declared.treat.Outcome.TheVariants.{Ok as Done, Bad, ReadFault, WriteFault, Limit, OutOfMemory}

-- of octets that an input begins with, the first lie within a limit
Begins_front : (n limit : ℕ) (input : Option (List ℕ)) (octets front more : List ℕ) → octets ≡ front ++ more → Begins n input octets → length front ≤ limit →
    Begins limit input front
Begins_front n limit None octets front more e b l = (l, tt)
Begins_front n limit (Some xs) octets front more e (h, (rest, o)) l = (l, (more ++ rest, o ∙ ap (λ x. x ++ rest) e ∙ append_assoc front more rest))

module _ (limit : ℕ) (input : Option (List ℕ)) (lines : List (List ℕ)) where
  HasNext_lines : (line : List ℕ) → HasNext limit input lines line → HasLines limit input lines
  HasNext_lines line (n, inl b) = inl (Begins_front limit limit input (closed lines ++ close line) (closed lines) (close line) refl b (omega (
    arith,
    b.0,
    length-append (closed lines) (close line),
  )))
  HasNext_lines line (n, inr (s, i)) = inl (Begins_front limit limit input (closed lines ++ line) (closed lines) line refl (is_begin input (closed lines ++
      line) i) (omega (arith, i.0, length-append (closed lines) line))) where
        is_begin : (told : Option (List ℕ)) (octets : List ℕ) → IsInput limit told octets → Begins limit told octets
        is_begin None octets (l, t) = (l, tt)
        is_begin (Some xs) octets (l, e) = (l, ([], e ∙ sym (append-nil octets)))

  IsPast_lines : IsPast limit input lines → HasLines limit input lines
  IsPast_lines (part, x, n, e, b) = inl (Begins_front (limit + 1) limit input (closed lines ++ (part ++ x ∷ [])) (closed lines) (part ++ x ∷
      []) refl b (omega (arith, e, length-append (closed lines) part)))

  HasMore_lines : HasMore limit input lines → HasLines limit input lines
  HasMore_lines (x, b) = inl (Begins_front (limit + 1) limit input (closed lines ++ x ∷ []) (closed lines) (x ∷
      []) refl b (omega (arith, b.0, length-append (closed lines) (x ∷ []))))

  -- where the treatment ends, the input has the lines before
  IsEnding_lines : (m : Meaning) (o : Outcome) (said : List ℕ) → IsEnding m limit input lines o said → HasLines limit input lines
  IsEnding_lines m Done said e = inr e.0
  IsEnding_lines m Bad said (inl e) = HasNext_lines e.0 e.2
  IsEnding_lines m Bad said (inr e) = inr e.1
  IsEnding_lines m Limit said (inl e, w) = HasNext_lines e.0 e.1
  IsEnding_lines m Limit said (inr (inl e), w) = IsPast_lines e
  IsEnding_lines m Limit said (inr (inr e), w) = HasMore_lines e.1
  IsEnding_lines m _ said e = absurd e

-- of two beginnings of a list one is the other's
compare : (all front other more rest : List (List ℕ)) → all ≡ front ++ more → all ≡ other ++ rest → ((r : List (List ℕ)) × (front ≡ other ++ r)) ⊎
    ((line : List ℕ) × (r : List (List ℕ)) × (other ≡ front ++ line ∷ r))
compare all front [] more rest e f = inl (front, refl)
compare all [] (y ∷ other) more rest e f = inr (y, other, refl)
compare [] (x ∷ front) (y ∷ other) more rest e f = cc
compare (z ∷ all) (x ∷ front) (y ∷ other) more rest e f =
    let h : x ≡ y = cc in
    let p : all ≡ front ++ more = cc in
    let q : all ≡ other ++ rest = cc in
    elim (compare all front other more rest p q) [
      | inl r ↦ inl (r.0, rw (h, r.1) refl)
      | inr r ↦ inr (r.0, r.1, rw (h, r.2) refl)
    ]

-- a list isn't the same with an item more
longer_list : (front more : List (List ℕ)) (line : List ℕ) → front ≡ front ++ line ∷ more → ⊥
longer_list front more line e = let n : length front ≡ length (front ++ line ∷ more) = ap length e in omega (arith, n, length-append front (line ∷ more))

same_line : (front : List (List ℕ)) (a b : List ℕ) (r s : List (List ℕ)) → front ++ a ∷ r ≡ front ++ b ∷ s → a ≡ b
same_line front a b r s e = let t = append_cancel_left front (a ∷ r) (b ∷ s) e in cc

-- an input of told octets, which are these lines
module _ (limit : ℕ) (octets : List ℕ) (all : List (List ℕ)) (feeds : All NoFeed all) (are : AreLines octets all) where
  lines_first : (front : List (List ℕ)) → All NoFeed front → HasLines limit (Some octets) front → (rest : List (List ℕ)) × (all ≡ front ++ rest)
  lines_first front n (inl (l, (rest, e))) = let r = front_of octets rest front all n feeds e are in (r.0, r.1)
  lines_first front n (inr (xs, a, i)) = ([], AreLines_one octets all front feeds n are (rw i.1 a) ∙ sym (append-nil front))

  whole_all : (front : List (List ℕ)) → All NoFeed front → IsWhole limit (Some octets) front → all ≡ front
  whole_all front n (xs, a, i) = AreLines_one octets all front feeds n are (rw i.1 a)

  next_line : (front : List (List ℕ)) (line : List ℕ) → All NoFeed front → HasNext limit (Some octets) front line → (rest : List (List ℕ)) ×
      (all ≡ front ++ line ∷ rest)
  next_line front line n h = let r = lines_first (front ++ line ∷ []) (All-push NoFeed front line n h.0) (HasLines_next limit (Some octets) front line h) in
      (r.0, r.1 ∙ append_assoc front (line ∷ []) r.0)

  more_line : (front : List (List ℕ)) → All NoFeed front → HasMore limit (Some octets) front → (line : List ℕ) × (rest : List (List ℕ)) ×
      (all ≡ front ++ line ∷ rest)
  more_line front n (x, (l, (rest, e))) =
      let r = front_of octets (x ∷ rest) front all n feeds (e ∙ append_assoc (closed front) (x ∷ []) rest) are in
      some r.0 r.1 r.2 where
        some : (more : List (List ℕ)) → all ≡ front ++ more → AreLines (x ∷ rest) more → (line : List ℕ) × (rest' : List (List ℕ)) ×
            (all ≡ front ++ line ∷ rest')
        some [] i a = absurd (let f : x ∷ rest ≡ [] = AreLines_none (x ∷ rest) a in cc)
        some (line ∷ more) i a = (line, more, i)

  -- the limit isn't passed in an input that lies within it
  past_whole : (front : List (List ℕ)) → IsPast limit (Some octets) front → length octets ≤ limit → ⊥
  past_whole front (part, x, n, e, (l, (rest, o))) w =
      let f : length octets ≡ length ((closed front ++ (part ++ x ∷ [])) ++ rest) = ap length o in
      omega (
        arith,
        w,
        e,
        f,
        length-append (closed front) part,
        length-append (closed front ++ (part ++ x ∷ [])) rest,
        length-append (closed front) (part ++ x ∷ []),
        length-append part (x ∷ []),
      )

  -- nor in a line that is followed within it
  past_longer : (front : List (List ℕ)) (line : List ℕ) (more : List (List ℕ)) → IsPast limit (Some octets) front →
      HasLines limit (Some octets) (front ++ line ∷ more) → ⊥
  past_longer front line more p (inr (xs, a, i)) = past_whole front p (rw (sym i.1) at i.0)
  past_longer front line more (part, x, n, e, (l, (rest, o))) (inl (w, (left, f))) =
      let c : closed (front ++ line ∷ more) ≡ closed front ++ (close line ++ closed more) = flat_map-append close front (line ∷ more) in
      let g : octets ≡ closed front ++ (line ++ 10 ∷ (closed more ++ left)) =
      f ∙ ap (λ y. y ++ left) c ∙ append_assoc (closed front) (close line ++ closed more) left ∙
      ap (λ y. closed front ++ y) (append_assoc (close line) (closed more) left ∙ append_assoc line (10 ∷ []) (closed more ++ left)) in
      let h : octets ≡ closed front ++ (part ++ (x ∷ rest)) = o ∙ append_assoc (closed front) (part ++ x ∷ []) rest ∙
      ap (λ y. closed front ++ y) (append_assoc part (x ∷ []) rest) in
      let k : length (closed (front ++ line ∷ more)) ≡ length (closed front ++ (close line ++ closed more)) = ap length c in
      feed_within part line (x ∷ rest) (closed more ++ left) n (append_cancel_left (closed front) (part ++ (x ∷ rest)) (line ++ 10 ∷
      (closed more ++ left)) (sym h ∙ g))
      (omega (
        arith,
        w,
        k,
        e,
        length-append (closed front) part,
        length-append (closed front) (close line ++ closed more),
        length-append (close line) (closed more),
        length-append line (10 ∷ []),
      ))

  past_next : (front : List (List ℕ)) (line : List ℕ) → IsPast limit (Some octets) front → HasNext limit (Some octets) front line → ⊥
  past_next front line p h = past_longer front line [] p (HasLines_next limit (Some octets) front line h)

  -- where the input ends behind lines, no line follows them
  whole_next : (front : List (List ℕ)) (line : List ℕ) → All NoFeed front → IsWhole limit (Some octets) front → HasNext limit (Some octets) front line → ⊥
  whole_next front line n w h = let r = next_line front line n h in longer_list front r.0 line (sym (whole_all front n w) ∙ r.1)

  whole_more : (front : List (List ℕ)) → All NoFeed front → IsWhole limit (Some octets) front → HasMore limit (Some octets) front → ⊥
  whole_more front n w h = let r = more_line front n h in longer_list front r.1 r.0 (sym (whole_all front n w) ∙ r.2)

  whole_past : (front : List (List ℕ)) → IsWhole limit (Some octets) front → IsPast limit (Some octets) front → ⊥
  whole_past front (xs, a, i) p = past_whole front p (rw (sym i.1) at i.0)

  next_one : (front : List (List ℕ)) (line other : List ℕ) → All NoFeed front → HasNext limit (Some octets) front line →
      HasNext limit (Some octets) front other → line ≡ other
  next_one front line other n h k = let r = next_line front line n h in let s = next_line front other n k in same_line front line other r.0 s.0 (sym r.1 ∙ s.1)

  module _ (m : Meaning) (d : IsDefinite m) where
    -- where lines are accepted, so are the first of them, whose output stands first
    accepts_front : (rest front : List (List ℕ)) (text : List ℕ) → m.accepts (front ++ rest) text → (before : List ℕ) × (more : List ℕ) ×
        m.accepts front before × (text ≡ before ++ more)
    accepts_front [] front text a = (text, [], subst (λ l. m.accepts l text) (append-nil front) a, sym (append-nil text))
    accepts_front (line ∷ rest) front text a =
        let r = accepts_front rest (front ++ line ∷ []) text (subst (λ l. m.accepts l text) (sym (append_assoc front (line ∷ []) rest)) a) in
        let s = (d.before front line r.0 r.2).1 in
        (s.0, s.1 ++ r.1, s.2, r.3 ∙ ap (λ l. l ++ r.1) s.3 ∙ append_assoc s.0 s.1 r.1)

    accepts_next : (front more : List (List ℕ)) (line text : List ℕ) → m.accepts (front ++ line ∷ more) text → (before : List ℕ) ×
        m.accepts (front ++ line ∷ []) before
    accepts_next front more line text a = let r = accepts_front more (front ++ line ∷
        []) text (subst (λ l. m.accepts l text) (sym (append_assoc front (line ∷ []) more)) a) in (r.0, r.2)

    -- where the treatment ends, no more lines are accepted
    ends_there : (front : List (List ℕ)) (o : Outcome) (said : List ℕ) → All NoFeed front → IsEnding m limit (Some octets) front o said
        → (line : List ℕ) (more : List (List ℕ)) (text : List ℕ) → All NoFeed (front ++ line ∷ more) → HasLines limit (Some octets) (front ++ line ∷ more) →
        m.accepts (front ++ line ∷ more) text → ⊥
    ends_there front o said n e line more text f h a = at o e where
      next : (rest : List (List ℕ)) × (all ≡ front ++ line ∷ rest)
      next = let r = lines_first (front ++ line ∷ more) f h in (more ++ r.0, r.1 ∙ append_assoc front (line ∷ more) r.0)

      accepted : (before : List ℕ) × m.accepts (front ++ line ∷ []) before
      accepted = accepts_next front more line text a

      same : (other : List ℕ) → HasNext limit (Some octets) front other → other ≡ line
      same other k = let s = next_line front other n k in same_line front other line s.0 next.0 (sym s.1 ∙ next.1)

      whole : IsWhole limit (Some octets) front → ⊥
      whole w = longer_list front next.0 line (sym (whole_all front n w) ∙ next.1)

      at : (o : Outcome) → IsEnding m limit (Some octets) front o said → ⊥
      at Done e = whole e.0
      at Bad (inl b) = d.not_refused front line accepted.0 b.1 accepted.1 (subst (λ l. m.refuses front l b.1) (same b.0 b.2) b.4)
      at Bad (inr b) = whole b.1
      at Limit (inl l, w) = d.not_limited front line accepted.0 accepted.1 (subst (λ x. m.limits front x) (same l.0 l.1) l.2)
      at Limit (inr (inl p), w) = past_longer front line more p h
      at Limit (inr (inr q), w) = (d.before front line accepted.0 accepted.1).0 q.0
      at _ e = e

    -- accepted lines of the input are the first of those at which the treatment ends
    first_of : (front other : List (List ℕ)) (o : Outcome) (said text : List ℕ) → All NoFeed front → IsEnding m limit (Some octets) front o said →
        All NoFeed other → HasLines limit (Some octets) other → m.accepts other text → (rest : List (List ℕ)) × (front ≡ other ++ rest)
    first_of front other o said text n e f h a =
        let r = lines_first front n (IsEnding_lines limit (Some octets) front m o said e) in
        let s = lines_first other f h in
        elim (compare all front other r.0 s.0 r.1 s.1) [
          | inl t ↦ t
          | inr t ↦ absurd (ends_there front o said n e t.0 t.1 text (rw t.2 at f) (rw t.2 at h) (rw t.2 at a))
        ]

    done_bad : (front : List (List ℕ)) (a b : List ℕ) → All NoFeed front → IsDone m limit (Some octets) front a → IsBad m limit (Some octets) front b → ⊥
    done_bad front a b n e (inl k) = whole_next front k.0 n e.0 k.2
    done_bad front a b n e (inr k) = d.ended_whole front a k.0 e.1 k.2

    done_limited : (front : List (List ℕ)) (a b : List ℕ) → All NoFeed front → IsDone m limit (Some octets) front a → IsLimited m limit (Some octets) front b →
        ⊥
    done_limited front a b n e (inl k, w) = whole_next front k.0 n e.0 k.1
    done_limited front a b n e (inr (inl k), w) = whole_past front e.0 k
    done_limited front a b n e (inr (inr k), w) = whole_more front n e.0 k.1

    bad_limited : (front : List (List ℕ)) (a b : List ℕ) → All NoFeed front → IsBad m limit (Some octets) front a → IsLimited m limit (Some octets) front b → ⊥
    bad_limited front a b n (inl e) (inl k, w) = d.refused_within front k.0 e.1 (subst (λ l. m.refuses front l e.1) (next_one front e.0 k.0 n e.2 k.1) e.4) k.2
    bad_limited front a b n (inl e) (inr (inl k), w) = past_next front e.0 k e.2
    bad_limited front a b n (inl e) (inr (inr k), w) = e.3 k.0
    bad_limited front a b n (inr e) (inl k, w) = whole_next front k.0 n e.1 k.1
    bad_limited front a b n (inr e) (inr (inl k), w) = whole_past front e.1 k
    bad_limited front a b n (inr e) (inr (inr k), w) = whole_more front n e.1 k.1

    one_bad : (front : List (List ℕ)) (a b : List ℕ) → All NoFeed front → IsBad m limit (Some octets) front a → IsBad m limit (Some octets) front b → a ≡ b
    one_bad front a b n (inl e) (inl k) =
        let c = d.one_cause front k.0 e.1 k.1 (subst (λ l. m.refuses front l e.1) (next_one front e.0 k.0 n e.2 k.2) e.4) k.4 in
        e.5 ∙ ap (bad_line (length front + 1)) c ∙ sym k.5
    one_bad front a b n (inl e) (inr k) = absurd (whole_next front e.0 n k.1 e.2)
    one_bad front a b n (inr e) (inl k) = absurd (whole_next front k.0 n e.1 k.2)
    one_bad front a b n (inr e) (inr k) = e.3 ∙ ap (bad_line (length front + 1)) (d.one_lack front e.0 k.0 e.2 k.2) ∙ sym k.3

    -- at one place the treatment ends in one way
    one_ending : (front : List (List ℕ)) (a b : List ℕ) (o p : Outcome) → All NoFeed front → IsEnding m limit (Some octets) front o a →
        IsEnding m limit (Some octets) front p b → (o ≡ p) × (a ≡ b)
    one_ending front a b Done Done n e f = (refl, d.one_end front a b e.1 f.1)
    one_ending front a b Done Bad n e f = absurd (done_bad front a b n e f)
    one_ending front a b Done Limit n e f = absurd (done_limited front a b n e f)
    one_ending front a b Bad Done n e f = absurd (done_bad front b a n f e)
    one_ending front a b Bad Bad n e f = (refl, one_bad front a b n e f)
    one_ending front a b Bad Limit n e f = absurd (bad_limited front a b n e f)
    one_ending front a b Limit Done n e f = absurd (done_limited front b a n f e)
    one_ending front a b Limit Bad n e f = absurd (bad_limited front b a n f e)
    one_ending front a b Limit Limit n e f = (refl, e.1 ∙ sym f.1)
    one_ending front a b Done ReadFault n e f = absurd f
    one_ending front a b Done WriteFault n e f = absurd f
    one_ending front a b Done OutOfMemory n e f = absurd f
    one_ending front a b Bad ReadFault n e f = absurd f
    one_ending front a b Bad WriteFault n e f = absurd f
    one_ending front a b Bad OutOfMemory n e f = absurd f
    one_ending front a b Limit ReadFault n e f = absurd f
    one_ending front a b Limit WriteFault n e f = absurd f
    one_ending front a b Limit OutOfMemory n e f = absurd f
    one_ending front a b _ p n e f = absurd e

    -- two endings are at one place
    one_place : (front other r s : List (List ℕ)) → front ≡ other ++ r → other ≡ front ++ s → front ≡ other
    one_place front other [] s e f = e ∙ append-nil other
    one_place front other (line ∷ r) s e f =
        let p : length front ≡ length (other ++ line ∷ r) = ap length e in
        let q : length other ≡ length (front ++ s) = ap length f in
        absurd (omega (arith, p, q, length-append other (line ∷ r), length-append front s))

    one_answer : (o p : Outcome) (output other : List ℕ) → IsAnswer m limit octets o output → IsAnswer m limit octets p other → (o ≡ p) × (output ≡ other)
    one_answer o p output other a b =
        let r = first_of a.lines b.lines o a.said b.text a.feedless a.ending b.feedless (IsEnding_lines limit (Some octets) b.lines m p b.said b.ending)
        b.accepted in
        let s = first_of b.lines a.lines p b.said a.text b.feedless b.ending a.feedless (IsEnding_lines limit (Some octets) a.lines m o a.said a.ending)
        a.accepted in
        let same = one_place a.lines b.lines r.0 s.0 r.1 s.1 in
        let e = one_ending b.lines a.said b.said o p b.feedless (subst (λ l. IsEnding m limit (Some octets) l o a.said) same a.ending) b.ending in
        let t = d.one_output b.lines a.text b.text (subst (λ l. m.accepts l a.text) same a.accepted) b.accepted in
        (e.0, a.whole ∙ rw (t, e.1) refl ∙ sym b.whole)

    -- the output of lines that the input has is the beginning of the answer's
    first_output : (o : Outcome) (output text : List ℕ) (lines : List (List ℕ)) → IsAnswer m limit octets o output → All NoFeed lines →
        HasLines limit (Some octets) lines → m.accepts lines text → (more : List ℕ) × (output ≡ text ++ more)
    first_output o output text lines a n h c =
        let r = first_of a.lines lines o a.said text a.feedless a.ending n h c in
        let s = accepts_front r.0 lines a.text (subst (λ l. m.accepts l a.text) r.1 a.accepted) in
        let t = d.one_output lines s.0 text s.2 c in
        (s.1 ++ a.said, a.whole ∙ ap (λ l. l ++ a.said) (s.3 ∙ ap (λ l. l ++ s.1) t) ∙ append_assoc text s.1 a.said)

    -- what was written in part is a part of the answer's output
    part_of : (o : Outcome) (output : List ℕ) (written now : Option (List ℕ)) (lines : List (List ℕ)) (text said part rest : List ℕ) →
        IsAnswer m limit octets o output
        → All NoFeed lines → m.accepts lines text → Follows m limit (Some octets) lines said → text ++ said ≡ part ++ rest → Grows written now part →
        (left : List ℕ) × (length rest ≤ length left) × IsPart output written now left
    part_of o output written now lines text said part rest a n c follows e g = at follows where
      ended : (p : Outcome) → IsEnding m limit (Some octets) lines p said → (left : List ℕ) × (length rest ≤ length left) × IsPart output written now left
      ended p f =
          let b : IsAnswer m limit octets p (text ++ said) = record {
            lines = lines;
            text = text;
            said = said;
            feedless = n;
            accepted = c;
            ending = f;
            whole = refl;
          } in
          (rest, omega arith, (part, (one_answer o p output (text ++ said) a b).1 ∙ e, g))

      at : Follows m limit (Some octets) lines said → (left : List ℕ) × (length rest ≤ length left) × IsPart output written now left
      at (inl (h, none)) =
          let r = first_output o output text lines a n h c in
          let f : text ≡ part ++ rest = sym (append-nil text) ∙ ap (λ l. text ++ l) (sym none) ∙ e in
          (rest ++ r.0, omega (arith, length-append rest r.0), (part, r.1 ∙ ap (λ l. l ++ r.0) f ∙ append_assoc part rest r.0, g))
      at (inr (inl b)) = ended Bad b
      at (inr (inr (inl l))) = ended Limit l
      at (inr (inr (inr f))) = ended Done f

    answered : (o p : Outcome) (output text said : List ℕ) (lines : List (List ℕ)) (written now : Option (List ℕ)) → IsAnswer m limit octets o output →
        All NoFeed lines → m.accepts lines text → IsEnding m limit (Some octets) lines p said
        → Grows written now (text ++ said) → (o ≡ p) × Grows written now output
    answered o p output text said lines written now a n c e g =
        let r = one_answer o p output (text ++ said) a (record {
          lines = lines;
          text = text;
          said = said;
          feedless = n;
          accepted = c;
          ending = e;
          whole = refl;
        }) in
        (r.0, subst (Grows written now) (sym r.1) g)

    -- what the treatment comes to agrees with the answer
    agrees : (o result : Outcome) (output : List ℕ) (left written now : Option (List ℕ)) → IsAnswer m limit octets o output →
        Comes m limit (Some octets) left written now result → Agrees o output written now result
    agrees o Done output left written now a (c, over) = answered o Done output c.1 c.2 c.0 written now a c.3 c.4 c.5 c.6
    agrees o Bad output left written now a c = answered o Bad output c.1 c.2 c.0 written now a c.3 c.4 c.5 c.6
    agrees o Limit output left written now a c = answered o Limit output c.1 c.2 c.0 written now a c.3 c.4 c.5 c.6
    agrees o ReadFault output left written now a (lines, text, part, n, c, f, l, full, g, w) =
        let h = begins (Some octets) left (closed lines ++ part) (closed lines) part g refl in
        let r = first_output o output text lines a n (inl (omega (arith, l, length-append (closed lines) part), h)) c in
        (r.0, (text, r.1, w))
    agrees o WriteFault output left written now a (rest, some, (lines, text, said, part, n, c, f, e, g)) =
        let r = part_of o output written now lines text said part rest a n c f e g in
        (r.0, omega (arith, some, r.1), r.2)
    agrees o OutOfMemory output left written now a (rest, (lines, text, said, part, n, c, f, e, g)) =
        let r = part_of o output written now lines text said part rest a n c f e g in
        (r.0, r.2)

-- an input has one answer
pub IsAnswer_one : (m : Meaning) → IsDefinite m → (limit : ℕ) (octets : List ℕ) (o p : Outcome) (output other : List ℕ) → IsAnswer m limit octets o output →
    IsAnswer m limit octets p other → (o ≡ p) × (output ≡ other)
IsAnswer_one m d limit octets o p output other a b = let c = cut octets in one_answer limit octets c.0 c.1 c.2 m d o p output other a b

-- what the treatment comes to agrees with the answer to the input
pub Comes_answers : (m : Meaning) → IsDefinite m → (limit : ℕ) (input left written now : Option (List ℕ)) (result : Outcome) →
    Comes m limit input left written now result → Answers m limit input written now result
Comes_answers m d limit input left written now result comes = λ octets o output told a.
    let c = cut octets in
    agrees limit octets c.0 c.1 c.2 m d o result output left written now a (subst (λ i. Comes m limit i left written now result) told comes)

-- where no read and no write failed, an outcome that agrees with an answer is that answer's, or there was no memory
pub Agrees_outcome : (o result : Outcome) (output : List ℕ) (written now : Option (List ℕ)) → Agrees o output written now result → (result ≡ ReadFault → ⊥) →
    (result ≡ WriteFault → ⊥) → (result ≡ o) ⊎ (result ≡ OutOfMemory)
Agrees_outcome o ReadFault output written now a r w = absurd (r refl)
Agrees_outcome o WriteFault output written now a r w = absurd (w refl)
Agrees_outcome o OutOfMemory output written now a r w = inr refl
Agrees_outcome o _ output written now a r w = inl (sym a.0)
