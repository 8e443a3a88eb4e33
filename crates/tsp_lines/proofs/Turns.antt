-- Laws of a turn of a treatment.
use Rattle.std.proofs.Common.{◌≡◌, ℕ, ◌<◌, ◌≤◌, ◌+◌, inl, inr, List, [], ◌∷◌, ◌++◌, None, Some, refl, sym, ap, ◌∙◌, append-nil, append_assoc, subst, length}
use Rattle.std.proofs.Common.{length-append, drop, arith, All, MatchOption, ◌⊎◌}
use Rattle.std.{proofs.lemmas.List.Elements.All-push, specs.declared.option.Option.Option}
use Rattle.tsp_io.specs.Streams.{Gives}
use Rattle.tsp_lines.specs.Lines.{NoFeed, close, closed, IsFront, Begins, IsOver, IsWhole, HasLines, HasNext, HasMore, IsPast}
use Rattle.tsp_lines.specs.Meanings.{Meaning, Goes, BreaksOff}
use Rattle.tsp_lines.specs.{Outcomes.Comes, Outcomes.limit_line, Outputs.Hands, Readings.ReaderValue, Readings.IsNext}
use Rattle.tsp_lines.specs.Turns.{IsAt, IsSaying, StandsOpen, Ends, line_sayings, end_sayings, only_limited, outcome_of}
use Rattle.tsp_lines.specs.declared.next.Next.TheVariants.{Line, Last, Long, LongLast, Limit}
use Rattle.tsp_lines.specs.declared.output.Unwritten.{Unwritten, TheVariants.WriteFault as NotWritten}
use Rattle.tsp_lines.specs.declared.treat.Outcome.{Outcome, TheVariants.ReadFault, TheVariants.OutOfMemory}
use Rattle.tsp_lines.proofs.Outputs.{Hands_trans, Grows_nil, said, Breaks_imp, Ends_broken}
use Rattle.tsp_lines.proofs.Aheads.{Ahead, Ahead_next, HasLines_got, HasNext_line, HasNext_last, HasMore_got, IsInput_got, IsPast_limit}
use Rattle.tsp_lines.proofs.Comes.{Comes_Ends, Grows_handed, Place_line, Place_end, Place_limit, Place_any, no_sayings, closed_push}

-- the treatment has come so far, and these octets are ahead
pub record After (m : Meaning) (Stands : List (List ℕ) → Type 0) (limit : ℕ) (input rest written now : Option (List ℕ)) (r : ReaderValue) (held : List ℕ)
    (number : ℕ) (lines : List (List ℕ)) (text : List ℕ) (ahead : List ℕ) : Type 0 where
  pub feedless : All NoFeed lines
  pub accepted : m.accepts lines text
  pub stands : Stands lines
  pub reach : Ahead input rest lines r ahead
  pub bound : r.limit ≡ limit
  pub within : r.got ≤ r.limit + length ahead
  pub handed : Hands written [] now held text
  pub counted : number ≡ length lines + 1

pub After_next : (m : Meaning) (Stands : List (List ℕ) → Type 0) (input left rest written now later : Option (List ℕ)) (old new : ReaderValue)
    (held keeps : List ℕ) (number next : ℕ) (lines : List (List ℕ)) (text more : List ℕ)
    → IsAt m Stands input left written now old held number lines text → Gives left rest more → new.got ≡ old.got + length more → Hands now held later keeps [] →
    next ≡ number → new.limit ≡ old.limit
    → After m Stands old.limit input rest written later new keeps next lines text (old.held ++ more)
After_next m Stands input left rest written now later old new held keeps number next lines text more a g c h e l = record {
  feedless = a.feedless;
  accepted = a.accepted;
  stands = a.stands;
  reach = Ahead_next input left rest lines old new a.got.0 more a.got.1 a.got.2 a.got.3 g c;
  bound = l;
  within = omega (arith, a.within, c, l, length-append old.held more);
  handed = said written now later [] held keeps text a.handed h;
  counted = e ∙ a.counted;
}

-- the first line that was held was treated in its place
pub IsAt_front : (m : Meaning) (Stands Comes-to : List (List ℕ) → Type 0) (input left written now later : Option (List ℕ)) (old new : ReaderValue)
    (held keeps : List ℕ) (number next : ℕ) (lines : List (List ℕ)) (text line : List ℕ) (count : ℕ)
    → IsAt m Stands input left written now old held number lines text → IsFront old.held count line → new.held ≡ drop count old.held → new.got ≡ old.got →
    new.limit ≡ old.limit → old.got ≤ old.limit → next ≡ number + 1
    → (t : Goes m Comes-to lines text line now held later keeps) → IsAt m Comes-to input left written later new keeps next (lines ++ line ∷ []) (text ++ t.0)
IsAt_front m Stands Comes-to input left written now later old new held keeps number next lines text line count a f h g l w e t = record {
  feedless = All-push NoFeed lines line a.feedless f.0;
  accepted = t.2;
  stands = t.3;
  got = (
    a.got.0,
    a.got.1,
    a.got.2 ∙ ap (λ x. closed lines ++ x) (f.2 ∙ ap (λ x. close line ++ x) (sym h)) ∙
        sym (append_assoc (closed lines) (close line) new.held) ∙ ap (λ x. x ++ new.held) (sym (closed_push lines line)),
    g ∙ a.got.3,
  );
  within = omega (arith, g, l, w);
  handed = Hands_trans written now later [] held keeps text t.0 a.handed t.1;
  counted = omega (arith, e, a.counted, length-append lines (line ∷ []));
}

-- another treatment stands where one stood, and what was written and is held is the same
pub IsAt_same : (m : Meaning) (Stands Comes-to : List (List ℕ) → Type 0) (input left written now later : Option (List ℕ)) (r : ReaderValue)
    (held keeps : List ℕ) (number : ℕ) (lines : List (List ℕ)) (text : List ℕ)
    → IsAt m Stands input left written now r held number lines text → Comes-to lines → later ≡ now → keeps ≡ held →
    IsAt m Comes-to input left written later r keeps number lines text
IsAt_same m Stands Comes-to input left written now later r held keeps number lines text a s e f = record {
  feedless = a.feedless;
  accepted = a.accepted;
  stands = s;
  got = a.got;
  within = a.within;
  handed = rw (e, f) a.handed;
  counted = a.counted;
}

pub IsAt_open : (m : Meaning) (Stands : List (List ℕ) → Type 0) (input left written now : Option (List ℕ)) (r : ReaderValue) (held : List ℕ) (number : ℕ)
    (lines : List (List ℕ)) (text : List ℕ)
    → IsAt m Stands input left written now r held number lines text → ¬ m.full lines →
    IsAt m (StandsOpen m Stands) input left written now r held number lines text
IsAt_open m Stands input left written now r held number lines text a n = IsAt_same m Stands (StandsOpen m Stands) input left written now now r held held number
    lines text a (a.stands, n) refl refl

-- it ends at the first line that is held
pub Comes_front : (m : Meaning) (Stands : List (List ℕ) → Type 0) (input left written now later : Option (List ℕ)) (old : ReaderValue) (held : List ℕ)
    (number : ℕ) (lines : List (List ℕ)) (text line : List ℕ) (count : ℕ) (o : Outcome)
    → IsAt m Stands input left written now old held number lines text → ¬ m.full lines → IsFront old.held count line → old.got ≤ old.limit →
    Ends (line_sayings m lines text number line) now held later o → Comes m old.limit input left written later o
Comes_front m Stands input left written now later old held number lines text line count o a room f w e =
    let b : Ahead input left lines old old.held = record { octets = a.got.0; given = a.got.1; are = a.got.2; count = a.got.3 } in
    let on = HasLines_got input left lines old old.held b old.limit a.within in
    let next = HasNext_line input left lines old old.held b line (drop count old.held) f.0 f.2 (omega (arith, w)) in
    Comes_Ends m old.limit input left lines text (line_sayings m lines text number line) written now later held o
    (Place_line m old.limit input lines text line number a.feedless a.accepted room on next a.counted) a.handed (λ v d. absurd d) e

-- its output wasn't written whole
pub Comes_broken : (m : Meaning) (Stands : List (List ℕ) → Type 0) (input left written now later : Option (List ℕ)) (old : ReaderValue) (held keeps : List ℕ)
    (number : ℕ) (lines : List (List ℕ)) (text : List ℕ) (fault : Unwritten)
    → IsAt m Stands input left written now old held number lines text → ¬ m.full lines → old.got ≤ old.limit →
    BreaksOff m lines text old.held now held later keeps → (fault ≡ NotWritten → 0 < length keeps) →
    Comes m old.limit input left written later (outcome_of fault)
Comes_broken m Stands input left written now later old held keeps number lines text fault a room w b some =
    let says = line_sayings m lines text number b.0 in
    let broken = Breaks_imp (λ more. m.accepts (lines ++ b.0 ∷ []) (text ++ more)) (IsSaying says) (λ x y. inr (inr (inr y))) now later held keeps b.3 in
    Comes_front m Stands input left written now later old held number lines text b.0 b.1 (outcome_of fault) a room b.2 w
    (Ends_broken says now later held keeps fault broken some)

-- what was held wasn't written before a read
pub Comes_unflushed : (m : Meaning) (Stands : List (List ℕ) → Type 0) (input left rest written now later : Option (List ℕ)) (old : ReaderValue)
    (held keeps : List ℕ) (number : ℕ) (lines : List (List ℕ)) (text : List ℕ) (o : Outcome)
    → IsAt m Stands input left written now old held number lines text → Ends no_sayings now held later o → Comes m old.limit input rest written later o
Comes_unflushed m Stands input left rest written now later old held keeps number lines text o a e =
    let b : Ahead input left lines old old.held = record { octets = a.got.0; given = a.got.1; are = a.got.2; count = a.got.3 } in
    Comes_Ends m old.limit input rest lines text no_sayings written now later held o (Place_any m old.limit input lines text a.feedless a.accepted
    (HasLines_got input left lines old old.held b old.limit a.within)) a.handed (λ w d. absurd d) e

module _ (m : Meaning) (Stands : List (List ℕ) → Type 0) (limit : ℕ) (input rest written now : Option (List ℕ)) (r : ReaderValue) (held : List ℕ) (number : ℕ)
    (lines : List (List ℕ)) (text ahead : List ℕ)
    (a : After m Stands limit input rest written now r held number lines text ahead) where
  has_lines : HasLines limit input lines
  has_lines = HasLines_got input rest lines r ahead a.reach limit (subst (λ l. r.got ≤ l + length ahead) a.bound a.within)

  -- a line of the input was treated
  pub Comes_line : (later : Option (List ℕ)) (line : List ℕ) (o : Outcome) → ¬ m.full lines → HasNext r.limit input lines line →
      Ends (line_sayings m lines text number line) now held later o → Comes m limit input rest written later o
  Comes_line later line o room h e =
      Comes_Ends m limit input rest lines text (line_sayings m lines text number line) written now later held o (Place_line m limit input lines text line number
      a.feedless a.accepted room has_lines (subst (λ l. HasNext l input lines line) a.bound h) a.counted) a.handed (λ w d. absurd d) e

  -- a line that a line feed ended was treated, or wasn't
  pub Turn_line : (Comes-to : List (List ℕ) → Type 0) (later : Option (List ℕ)) (keeps : List ℕ) (next : ℕ) (o : Option Outcome)
      → ¬ m.full lines → IsNext r ahead Line → (o ≡ None → next ≡ number + 1)
      → MatchOption o (Goes m Comes-to lines text r.line now held later keeps) (Ends (line_sayings m lines text number r.line) now held later)
      → MatchOption o ((more : List (List ℕ)) × (longer : List ℕ) × IsAt m Comes-to input rest written later r keeps next more longer)
      (Comes m limit input rest written later)
  Turn_line Comes-to later keeps next None room n e t = (
    lines ++ r.line ∷ [],
    text ++ t.0,
    record {
      feedless = All-push NoFeed lines r.line a.feedless n.0;
      accepted = t.2;
      stands = t.3;
      got = (
        a.reach.octets,
        a.reach.given,
        a.reach.are ∙ ap (λ l. closed lines ++ l) n.2 ∙ sym (append_assoc (closed lines) (close r.line) r.held) ∙
            ap (λ l. l ++ r.held) (sym (closed_push lines r.line)),
        a.reach.count,
      );
      within = n.3.0;
      handed = Hands_trans written now later [] held keeps text t.0 a.handed t.1;
      counted = omega (arith, e refl, a.counted, length-append lines (r.line ∷ []));
    },
  )
  Turn_line Comes-to later keeps next (Some o) room n e t = Comes_line later r.line o room (HasNext_line input rest lines r ahead a.reach r.line r.held n.0 n.2
      n.3.0) t

  -- the last line was refused
  pub Turn_last : (later : Option (List ℕ)) (o : Outcome) → ¬ m.full lines → IsNext r ahead Last → IsOver rest →
      Ends (line_sayings m lines text number r.line) now held later o → Comes m limit input rest written later o
  Turn_last later o room n v e =
      let w : r.got ≤ r.limit = omega (arith, n.5.0, ap length n.4) in
      Comes_line later r.line o room (subst (HasNext r.limit input lines) n.3 (HasNext_last input rest lines r ahead a.reach (subst NoFeed (sym n.3) n.0)
      (subst (λ l. 0 < length l) (sym n.3) n.1) w v)) e

  -- the input's end was treated
  Comes_end : (after later : Option (List ℕ)) (keeps : List ℕ) (next : ℕ) (more : List (List ℕ)) (longer : List ℕ) (o : Outcome)
      → All NoFeed more → m.accepts more longer → Hands written [] after keeps longer → next ≡ length more + 1 → IsWhole limit input more → IsOver rest →
      Ends (end_sayings m more next) after keeps later o → Comes m limit input rest written later o
  Comes_end after later keeps next more longer o f t h c i v e = Comes_Ends m limit input rest more longer (end_sayings m more next) written after later keeps o
      (Place_end m limit input more longer next f t i c) h (λ w d. v) e

  -- the last line was accepted, and the input's end treated
  pub Turn_last_end : (Comes-to : List (List ℕ) → Type 0) (later last : Option (List ℕ)) (keeps : List ℕ) (next : ℕ) (o : Outcome)
      → IsNext r ahead Last → IsOver rest → next ≡ number + 1 → (t : Goes m Comes-to lines text r.line now held later keeps)
      → Ends (end_sayings m (lines ++ r.line ∷ []) next) later keeps last o → Comes m limit input rest written last o
  Turn_last_end Comes-to later last keeps next o n v e t f =
      let w : r.got ≤ r.limit = omega (arith, n.5.0, ap length n.4) in
      let i = IsInput_got input rest lines r ahead a.reach limit (closed lines ++ r.line) (a.reach.are ∙ ap (λ l. closed lines ++ l) n.3) (omega (
        arith,
        w,
        a.bound,
      )) v in
      Comes_end later last keeps next (lines ++ r.line ∷ []) (text ++ t.0) o
      (All-push NoFeed lines r.line a.feedless n.0)
      t.2
      (Hands_trans written now later [] held keeps text t.0 a.handed t.1)
      (omega (arith, e, a.counted, length-append lines (r.line ∷ [])))
      (closed lines ++ r.line, inr (lines, r.line, refl, n.1, refl), i)
      v
      f

  -- a long line is ahead
  pub HasNext_long : (n : IsNext r ahead Long) → HasNext r.limit input lines n.0
  HasNext_long n = HasNext_line input rest lines r ahead a.reach n.0 r.held n.1 n.3 n.5.0

  pub HasNext_long_last : IsNext r ahead LongLast → IsOver rest → HasNext r.limit input lines ahead
  HasNext_long_last n v = let w : r.got ≤ r.limit = omega (arith, n.4.0, ap length n.2) in
      HasNext_last input rest lines r ahead a.reach n.0 (omega (arith, n.1)) w v

  -- the input ended where a line might begin
  pub Turn_end : (later : Option (List ℕ)) (o : Outcome) → ahead ≡ [] → IsOver rest → Ends (end_sayings m lines number) now held later o →
      Comes m limit input rest written later o
  Turn_end later o n v e =
      let w : r.got ≤ limit = omega (arith, a.within, a.bound, ap length n) in
      let i = IsInput_got input rest lines r ahead a.reach limit (closed lines) (a.reach.are ∙ ap (λ l. closed lines ++ l) n ∙ append-nil (closed lines)) w v in
      Comes_end now later held number lines text o a.feedless a.accepted a.handed a.counted (closed lines, inl refl, i) v e

  -- a limit was passed
  Comes_limit : (later : Option (List ℕ)) (o : Outcome) → IsPast limit input lines ⊎ (m.full lines × HasMore limit input lines) →
      Ends (only_limited (limit_line number)) now held later o → Comes m limit input rest written later o
  Comes_limit later o p e = Comes_Ends m limit input rest lines text (only_limited (limit_line number)) written now later held o
      (Place_limit m limit input lines text number a.feedless a.accepted has_lines p a.counted) a.handed (λ w d. absurd d) e

  pub Turn_limit : (later : Option (List ℕ)) (o : Outcome) → IsNext r ahead Limit → Ends (only_limited (limit_line number)) now held later o →
      Comes m limit input rest written later o
  Turn_limit later o n e = Comes_limit later o (inl (subst (λ l. IsPast l input lines) a.bound (IsPast_limit input rest lines r ahead a.reach n))) e

  -- no line may follow, and an octet does
  pub Turn_full : (later : Option (List ℕ)) (o : Outcome) → m.full lines → 0 < length ahead → Ends (only_limited (limit_line number)) now held later o →
      Comes m limit input rest written later o
  Turn_full later o full some e = Comes_limit later o (inr (
    full,
    HasMore_got input rest lines r ahead a.reach limit
        (subst (λ l. r.got ≤ l + length ahead) a.bound a.within) some,
  )) e

  -- a read failed
  pub Turn_failed : NoFeed ahead → r.got ≤ limit → (m.full lines → ahead ≡ []) → held ≡ [] → Comes m limit input rest written now ReadFault
  Turn_failed n w f e =
      let c : length a.reach.octets ≡ length (closed lines ++ ahead) = ap length a.reach.are in (
        lines,
        text,
        ahead,
        a.feedless,
        a.accepted,
        n,
        omega (arith, c, w, a.reach.count),
        f,
        subst (Gives input rest) a.reach.are a.reach.given,
        Grows_handed written now text (subst (λ l. Hands written [] now l text) e a.handed),
      )

-- a line that is given, with its line feed, is what is held no more
pub length_line : (r : ReaderValue) (held more : List ℕ) → IsNext r (held ++ more) Line → length held + length more ≡ length r.line + 1 + length r.held
length_line r held more n =
    let e : length (held ++ more) ≡ length (close r.line ++ r.held) = ap length n.2 in
    omega (arith, e, length-append held more, length-append (close r.line) r.held, length-append r.line (10 ∷ []))

-- an input that begins with nothing
Begins_nil : (limit : ℕ) (input : Option (List ℕ)) → Begins limit input []
Begins_nil limit None = (omega arith, tt)
Begins_nil limit (Some x) = (omega arith, (x, refl))

-- there was no memory to begin with
pub Comes_nothing : (m : Meaning) (limit : ℕ) (input written : Option (List ℕ)) → m.accepts [] [] → Comes m limit input input written written OutOfMemory
Comes_nothing m limit input written a = (
  [],
  (
    [],
    [],
    [],
    [],
    λ k d h. absurd (omega (arith, h)),
    a,
    inl (inl (Begins_nil limit input), refl),
    refl,
    Grows_nil written,
  ),
)
