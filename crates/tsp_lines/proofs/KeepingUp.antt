-- Laws of output that keeps up with what was read.
use Rattle.std.proofs.Common.{◌≡◌, ℕ, ◌<◌, ◌≤◌, ◌+◌, inl, inr, List, [], ◌∷◌, ◌++◌, None, Some, sym, ap, ◌∙◌, append_assoc, append-nil, length, length-append}
use Rattle.std.proofs.Common.{arith, subst, ◌⊎◌, MatchOption}
use Rattle.std.specs.declared.option.Option.{Option}
use Rattle.tsp_io.specs.Streams.{Gives, Grows}
use Rattle.tsp_lines.specs.{Lines.NoFeed, Lines.close, Lines.closed, Meanings.Meaning, Meanings.Goes, Outcomes.KeepsUp, Outputs.Hands}
use Rattle.tsp_lines.specs.{Readings.ReaderValue, Readings.IsNext, Turns.Sayings, Turns.IsAt, Turns.Ends, declared.next.Next.Next}
use Rattle.tsp_lines.specs.declared.next.Next.TheVariants.{Line, Last, Long, End, Limit}
use Rattle.tsp_lines.specs.declared.treat.Outcome.{Outcome}
use Rattle.tsp_lines.specs.declared.treat.Outcome.TheVariants.{ReadFault, WriteFault, OutOfMemory}
use Rattle.tsp_lines.proofs.{Comes.Grows_handed, Outputs.Grows_nil, Outputs.Grows_trans, Outputs.said, Outputs.Gives_nil, Outputs.Gives_trans}

-- some octets more were written
abbrev pub Grew : Option (List ℕ) → Option (List ℕ) → Type 0
Grew now later = (octets : List ℕ) × Grows now later octets

-- output that keeps up keeps up where more is written
pub KeepsUp_grew : (m : Meaning) (limit : ℕ) (input left written now later : Option (List ℕ)) → KeepsUp m limit input left written now → Grew now later →
    KeepsUp m limit input left written later
KeepsUp_grew m limit input left written now later (lines, text, part, last, more, n, a, f, l, w, g, r) (octets, h) = (
  lines,
  text,
  part,
  last,
  more ++ octets,
  n,
  a,
  f,
  l,
  w,
  g,
  subst (Grows written later) (append_assoc text more octets)
      (Grows_trans written now later (text ++ more) octets r h),
)

-- what is ahead is a line's beginning and at most 64 KiB more
abbrev IsNear : List ℕ → Type 0
IsNear ahead = (part : List ℕ) × (last : List ℕ) × NoFeed part × (length last ≤ 65536) × (ahead ≡ part ++ last)

near_line : (line ahead held : List ℕ) → NoFeed line → ahead ≡ close line ++ held → length held < 65536 → IsNear ahead
near_line line ahead held n e l = (line, 10 ∷ held, n, omega (arith, l), e ∙ append_assoc line (10 ∷ []) held)

near : (r : ReaderValue) (ahead : List ℕ) (n : Next) → IsNext r ahead n → IsNear ahead
near r ahead Line p = near_line r.line ahead r.held p.0 p.2 p.3.1
near r ahead Last p = (r.line, [], p.0, omega arith, p.3 ∙ sym (append-nil r.line))
near r ahead Long p = near_line p.0 ahead r.held p.1 p.3 p.5.1
near r ahead End p = ([], [], λ c. omega (arith, c.1), omega arith, p.0)
near r ahead Limit p = (p.1.0, p.1.1 ∷ [], p.1.2, omega arith, p.1.3)
near r ahead _ p = (ahead, [], p.0, omega arith, sym (append-nil ahead))

-- all that was handed over was written, and then octets were read
KeepsUp_read : (m : Meaning) (Stands : List (List ℕ) → Type 0) (input left rest written now later : Option (List ℕ)) (old : ReaderValue) (held keeps : List ℕ)
    (number : ℕ) (lines : List (List ℕ)) (text more : List ℕ)
    → IsAt m Stands input left written now old held number lines text → Gives left rest more → old.got + length more ≤ old.limit + 1 →
    Hands now held later keeps [] → keeps ≡ [] → IsNear (old.held ++ more) → KeepsUp m old.limit input rest written later
KeepsUp_read m Stands input left rest written now later old held keeps number lines text more a g w h e (part, last, n, l, s) =
    let all : a.got.0 ++ more ≡ (closed lines ++ part) ++ last = ap (λ o. o ++ more) a.got.2 ∙ append_assoc (closed lines) old.held more ∙
    ap (λ o. closed lines ++ o) s ∙ sym (append_assoc (closed lines) part last) in
    let c : length (a.got.0 ++ more) ≡ length ((closed lines ++ part) ++ last) = ap length all in
    let t = Grows_handed written later text (subst (λ k. Hands written [] later k text) e (said written now later [] held keeps text a.handed h)) in (
      lines,
      text,
      part,
      last,
      [],
      a.feedless,
      a.accepted,
      n,
      l,
      omega (arith, c, length-append a.got.0 more, w, a.got.3),
      subst (Gives input rest) all (Gives_trans input left rest a.got.0 more a.got.1 g),
      subst (Grows written later) (sym (append-nil text)) t,
    )

-- nothing was read, or all that was handed over was written before
pub KeepsUp_next : (m : Meaning) (Stands : List (List ℕ) → Type 0) (input left rest written now later : Option (List ℕ)) (old new : ReaderValue)
    (held keeps : List ℕ) (number : ℕ) (lines : List (List ℕ)) (text more : List ℕ) (n : Next)
    → IsAt m Stands input left written now old held number lines text → KeepsUp m old.limit input left written now → Gives left rest more → new.got ≡
    old.got + length more → Hands now held later keeps []
    → IsNext new (old.held ++ more) n → new.got ≤ old.limit + 1 → (rest ≡ left) ⊎ (keeps ≡ []) → KeepsUp m old.limit input rest written later
KeepsUp_next m Stands input left rest written now later old new held keeps number lines text more n a k g c h p w (inl e) =
    rw e (KeepsUp_grew m old.limit input left written now later k (h.0, h.1))
KeepsUp_next m Stands input left rest written now later old new held keeps number lines text more n a k g c h p w (inr e) =
    KeepsUp_read m Stands input left rest written now later old held keeps number lines text more a g (omega (arith, c, w)) h e (near new (old.held ++
    more) n p)

-- an octet was looked for
pub KeepsUp_peek : (m : Meaning) (Stands : List (List ℕ) → Type 0) (input left rest written now later : Option (List ℕ)) (old new : ReaderValue)
    (held keeps : List ℕ) (number : ℕ) (lines : List (List ℕ)) (text more : List ℕ)
    → IsAt m Stands input left written now old held number lines text → Gives left rest more → new.held ≡ old.held ++ more → new.got ≡ old.got + length more →
    Hands now held later keeps [] → new.got ≤ old.limit + 1 → length new.held ≤ 65536 → keeps ≡ []
    → KeepsUp m old.limit input rest written later
KeepsUp_peek m Stands input left rest written now later old new held keeps number lines text more a g p c h w l e =
    KeepsUp_read m Stands input left rest written now later old held keeps number lines text more a g (omega (arith, c, w)) h e (
      [],
      new.held,
      λ k. omega (arith, k.1),
      l,
      sym p,
    )

-- however it ends, some octets more were written
pub Ends_grew : (s : Sayings) (a c : Option (List ℕ)) (held : List ℕ) (o : Outcome) → Ends s a held c o → Grew a c
Ends_grew s a c held ReadFault e = absurd e
Ends_grew s a c held WriteFault e = (e.2.1.0, e.2.1.1)
Ends_grew s a c held OutOfMemory e = (e.1.1.0, e.1.1.1)
Ends_grew s a c held _ e = (e.2.0, e.2.1)

pub Treats_grew : (m : Meaning) (Stands : List (List ℕ) → Type 0) (s : Sayings) (lines : List (List ℕ)) (text line held keeps : List ℕ) (a c : Option (List ℕ))
    (o : Option Outcome)
    → MatchOption o (Goes m Stands lines text line a held c keeps) (λ outcome. Ends s a held c outcome) → Grew a c
Treats_grew m Stands s lines text line held keeps a c None t = (t.1.0, t.1.1)
Treats_grew m Stands s lines text line held keeps a c (Some o) t = Ends_grew s a c held o t

pub Grew_trans : (a b c : Option (List ℕ)) → Grew a b → Grew b c → Grew a c
Grew_trans a b c g h = (g.0 ++ h.0, Grows_trans a b c g.0 h.0 g.1 h.1)

-- nothing was read or written yet
pub KeepsUp_nothing : (m : Meaning) (limit : ℕ) (input written : Option (List ℕ)) → m.accepts [] [] → KeepsUp m limit input input written written
KeepsUp_nothing m limit input written a = (
  [],
  [],
  [],
  [],
  [],
  λ k d h. absurd (omega (arith, h)),
  a,
  λ c. omega (arith, c.1),
  omega arith,
  omega arith,
  Gives_nil input,
  Grows_nil written,
)
