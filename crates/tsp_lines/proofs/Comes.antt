-- Laws of what the treatment of an input comes to.
use Rattle.std.proofs.Common.{◌≡◌, ℕ, ◌<◌, ◌+◌, inl, inr, List, [], ◌∷◌, ◌++◌, refl, sym, ap, ◌∙◌, append-nil, append_assoc, subst, length, length-append}
use Rattle.std.proofs.Common.{arith, All, ◌⊎◌}
use Rattle.std.{proofs.lemmas.List.Elements.All-push, specs.declared.option.Option.Option}
use Rattle.tsp_io.specs.Streams.{Grows}
use Rattle.tsp_lines.specs.Lines.{NoFeed, close, closed, Begins, IsOver, IsWhole, HasLines, HasNext, HasMore, IsPast}
use Rattle.tsp_lines.specs.{Meanings.Meaning, Meanings.Breaks, Outputs.Hands, declared.treat.Outcome.Outcome}
use Rattle.tsp_lines.specs.Outcomes.{bad_line, limit_line, IsBad, IsLimited, IsDone, Follows, WritesPart, Comes}
use Rattle.tsp_lines.specs.Turns.{Sayings, IsSaying, only_limited, line_sayings, end_sayings, Ends}
use Rattle.tsp_lines.specs.declared.treat.Outcome.TheVariants.{Ok as Done, Bad, ReadFault, WriteFault, Limit, OutOfMemory}
use Rattle.tsp_lines.proofs.Outputs.{Hands_trans}

-- where nothing is held, what was handed over is what was written
pub Grows_handed : (a c : Option (List ℕ)) (text : List ℕ) → Hands a [] c [] text → Grows a c text
Grows_handed a c text h = subst (Grows a c) (sym (h.2 ∙ append-nil h.0)) h.1

-- a saying at a place of the input is what follows some lines' output
pub record Place (m : Meaning) (limit : ℕ) (input : Option (List ℕ)) (lines : List (List ℕ)) (text : List ℕ) (s : Sayings) : Type 0 where
  pub feedless : All NoFeed lines
  pub accepted : m.accepts lines text
  pub on : HasLines limit input lines
  pub done : (w : List ℕ) → s.done w → IsDone m limit input lines w
  pub bad : (w : List ℕ) → s.bad w → IsBad m limit input lines w
  pub limited : (w : List ℕ) → s.limited w → IsLimited m limit input lines w
  pub more : (w : List ℕ) → s.more w → (longer : List (List ℕ)) × All NoFeed longer × m.accepts longer (text ++ w) × HasLines limit input longer

whole : (m : Meaning) (limit : ℕ) (input : Option (List ℕ)) (lines : List (List ℕ)) (text : List ℕ) (s : Sayings) → Place m limit input lines text s →
    (w : List ℕ) → IsSaying s w
    → (ls : List (List ℕ)) × (t : List ℕ) × (said : List ℕ) × All NoFeed ls × m.accepts ls t × Follows m limit input ls said × (text ++ w ≡ t ++ said)
whole m limit input lines text s p w q = elim q [
  | inl d ↦ (lines, text, w, p.feedless, p.accepted, inr (inr (inr (p.done w d))), refl)
  | inr q ↦ elim q [
    | inl b ↦ (lines, text, w, p.feedless, p.accepted, inr (inl (p.bad w b)), refl)
    | inr q ↦ elim q [
      | inl l ↦ (lines, text, w, p.feedless, p.accepted, inr (inr (inl (p.limited w l))), refl)
      | inr o ↦ let r = p.more w o in (r.0, text ++ w, [], r.1, r.2, inl (r.3, refl), sym (append-nil (text ++ w)))
    ]
  ]
]

-- a part of a saying was written
pub WritesPart_Breaks : (m : Meaning) (limit : ℕ) (input : Option (List ℕ)) (lines : List (List ℕ)) (text : List ℕ) (s : Sayings) (a b c : Option (List ℕ))
    (held keeps : List ℕ)
    → Place m limit input lines text s → Hands a [] b held text → Breaks (IsSaying s) b held c keeps
    → (rest : List ℕ) × (length keeps < length rest + 1) × WritesPart m limit input a c rest
WritesPart_Breaks m limit input lines text s a b c held keeps p h k =
    let t = Hands_trans a b c [] held keeps text k.0 h k.1 in
    elim k.2 [
      | inl e ↦ (keeps, omega arith, (lines, text, [], t.0, p.feedless, p.accepted, inl (p.on, refl), ap (λ x. text ++ x) (sym e) ∙ t.2, t.1))
      | inr r ↦
          let w = whole m limit input lines text s p (k.0 ++ r.0) r.1 in
          let e : w.1 ++ w.2 ≡ t.0 ++ (keeps ++ r.0) = sym w.6 ∙ sym (append_assoc text k.0 r.0) ∙ ap (λ x. x ++ r.0) t.2 ∙ append_assoc t.0 keeps r.0 in
          (keeps ++ r.0, omega (arith, length-append keeps r.0), (w.0, w.1, w.2, t.0, w.3, w.4, w.5, e, t.1))
    ]

-- what it comes to where it ends so
pub Comes_Ends : (m : Meaning) (limit : ℕ) (input left : Option (List ℕ)) (lines : List (List ℕ)) (text : List ℕ) (s : Sayings) (a b c : Option (List ℕ))
    (held : List ℕ) (o : Outcome)
    → Place m limit input lines text s → Hands a [] b held text → ((w : List ℕ) → s.done w → IsOver left) → Ends s b held c o → Comes m limit input left a c o
Comes_Ends m limit input left lines text s a b c held Done p h over e = (
  (
    lines,
    text,
    e.0,
    p.feedless,
    p.accepted,
    p.done e.0 e.1,
    Grows_handed a c (text ++ e.0) (Hands_trans a b c [] held [] text e.0 h e.2),
  ),
  over e.0 e.1,
)
Comes_Ends m limit input left lines text s a b c held Bad p h over e = (
  lines,
  text,
  e.0,
  p.feedless,
  p.accepted,
  p.bad e.0 e.1,
  Grows_handed a c (text ++ e.0) (Hands_trans a b c [] held [] text e.0 h e.2),
)
Comes_Ends m limit input left lines text s a b c held ReadFault p h over e = absurd e
Comes_Ends m limit input left lines text s a b c held WriteFault p h over e = let r = WritesPart_Breaks m limit input lines text s a b c held e.0 p h e.2 in
    (r.0, omega (arith, e.1, r.1), r.2)
Comes_Ends m limit input left lines text s a b c held Limit p h over e = (
  lines,
  text,
  e.0,
  p.feedless,
  p.accepted,
  p.limited e.0 e.1,
  Grows_handed a c (text ++ e.0) (Hands_trans a b c [] held [] text e.0 h e.2),
)
Comes_Ends m limit input left lines text s a b c held OutOfMemory p h over e = let r = WritesPart_Breaks m limit input lines text s a b c held e.0 p h e.1 in
    (r.0, r.2)

pub closed_push : (lines : List (List ℕ)) (line : List ℕ) → closed (lines ++ line ∷ []) ≡ closed lines ++ close line
closed_push [] line = append-nil (close line)
closed_push (x ∷ xs) line = ap (λ l. close x ++ l) (closed_push xs line) ∙ sym (append_assoc (close x) (closed xs) (close line))

-- the input has a line more where that line is next
pub HasLines_next : (limit : ℕ) (input : Option (List ℕ)) (lines : List (List ℕ)) (line : List ℕ) → HasNext limit input lines line →
    HasLines limit input (lines ++ line ∷ [])
HasLines_next limit input lines line h = elim h.1 [
  | inl b ↦ inl (subst (Begins limit input) (sym (closed_push lines line)) b)
  | inr l ↦ inr (closed lines ++ line, inr (lines, line, refl, l.0, refl), l.1)
]

-- the place of a line
pub Place_line : (m : Meaning) (limit : ℕ) (input : Option (List ℕ)) (lines : List (List ℕ)) (text line : List ℕ) (number : ℕ)
    → All NoFeed lines → m.accepts lines text → ¬ m.full lines → HasLines limit input lines → HasNext limit input lines line → number ≡ length lines + 1 →
    Place m limit input lines text (line_sayings m lines text number line)
Place_line m limit input lines text line number f a room on h e = record {
  feedless = f;
  accepted = a;
  on = on;
  done = λ w d. absurd d;
  bad = λ w b. inl (line, b.0, h, room, b.1, b.2 ∙ ap (λ n. bad_line n b.0) e);
  limited = λ w l. (inl (line, h, l.0), l.1 ∙ ap limit_line e);
  more = λ w o. (lines ++ line ∷ [], All-push NoFeed lines line f h.0, o, HasLines_next limit input lines line h);
}

-- the place of the input's end
pub Place_end : (m : Meaning) (limit : ℕ) (input : Option (List ℕ)) (lines : List (List ℕ)) (text : List ℕ) (number : ℕ)
    → All NoFeed lines → m.accepts lines text → IsWhole limit input lines → number ≡ length lines + 1 →
    Place m limit input lines text (end_sayings m lines number)
Place_end m limit input lines text number f a whole e = record {
  feedless = f;
  accepted = a;
  on = inr whole;
  done = λ w d. (whole, d);
  bad = λ w b. inr (b.0, whole, b.1, b.2 ∙ ap (λ n. bad_line n b.0) e);
  limited = λ w l. absurd l;
  more = λ w o. absurd o;
}

-- the place of a limit
pub Place_limit : (m : Meaning) (limit : ℕ) (input : Option (List ℕ)) (lines : List (List ℕ)) (text : List ℕ) (number : ℕ)
    → All NoFeed lines → m.accepts lines text → HasLines limit input lines → IsPast limit input lines ⊎ (m.full lines × HasMore limit input lines) → number ≡
    length lines + 1 → Place m limit input lines text (only_limited (limit_line number))
Place_limit m limit input lines text number f a on p e = record {
  feedless = f;
  accepted = a;
  on = on;
  done = λ w d. absurd d;
  bad = λ w b. absurd b;
  limited = λ w l. (inr p, l ∙ ap limit_line e);
  more = λ w o. absurd o;
}

-- nothing to say
abbrev pub no_sayings : Sayings
no_sayings = record { done = λ w. ⊥; bad = λ w. ⊥; limited = λ w. ⊥; more = λ w. ⊥ }

-- any place of the input
pub Place_any : (m : Meaning) (limit : ℕ) (input : Option (List ℕ)) (lines : List (List ℕ)) (text : List ℕ) → All NoFeed lines → m.accepts lines text →
    HasLines limit input lines → Place m limit input lines text no_sayings
Place_any m limit input lines text f a on = record {
  feedless = f;
  accepted = a;
  on = on;
  done = λ w d. absurd d;
  bad = λ w b. absurd b;
  limited = λ w l. absurd l;
  more = λ w o. absurd o;
}
