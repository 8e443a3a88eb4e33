-- Laws of what is told of the outside of a command.
use Rattle.std.proofs.Common.{sym, inr, arith, take-append-drop, ◌∙◌, ap, subst, ◌≡◌, ◌⊎◌, ℕ, ◌<◌, List, ◌++◌, length, take, drop, Option, Some}
use Rattle.std.{proofs.lemmas.List.length-drop, specs.Option.option_map}
use Rattle.tsp_io.specs.{Counts.one_more, Streams.Grows, declared.link.Bound.Bound}
use Rattle.tsp_io.specs.Links.{Arrival, Binding, NotesReceive, NotesBind, Tried}
use Rattle.tsp_io.specs.declared.link.Bound.TheVariants.{Bound as Made, Failed, OutOfMemory}
use Rattle.tsp_query.specs.{Ends.Outside, Ends.KnowsExactly, Outside.after_bind, Outside.WritesBeginning}

-- not all of a text was written
pub Says_cut : {E : Type 0} (text line : List ℕ) (meant fault memory end : E) (written now : Option (List ℕ)) (at : ℕ) → line ≡ text → (end ≡ fault) ⊎
    (end ≡ memory) → at < length line → Grows written now (take at line) → WritesBeginning text meant fault memory written now end
Says_cut text line meant fault memory end written now at e w l g =
    let whole : text ≡ take at line ++ drop at line = sym e ∙ sym (take-append-drop at line) in
    inr (w, (take at line, drop at line, omega (arith, length-drop at line, l), whole, g))

-- what is told once a bind was made
pub Tells_bound : (o : Outside) (arrivals now_arrivals : Option (List Arrival)) (tried now_tried : Option (List Tried)) (calls now_calls : Option ℕ)
    (readings : Option (List ℕ)) (last : ℕ)
    → now_arrivals ≡ arrivals → now_tried ≡ tried → now_calls ≡ option_map (λ n. one_more n) calls → KnowsExactly o arrivals tried calls readings last →
    KnowsExactly (after_bind o) now_arrivals now_tried now_calls readings last
Tells_bound o arrivals now_arrivals tried now_tried calls now_calls readings last a t c k = record {
  arrivals_are = a ∙ k.arrivals_are;
  tried_are = t ∙ k.tried_are;
  calls_are = c ∙ ap (option_map (λ n. one_more n)) k.calls_are;
  readings_are = k.readings_are;
  last_is = k.last_is;
}

-- a text that is written where this was before
pub Says_from : {E : Type 0} (text : List ℕ) (meant fault memory end : E) (written now : Option (List ℕ)) (before : List ℕ) → written ≡ Some before →
    WritesBeginning text meant fault memory written now end → WritesBeginning text meant fault memory (Some before) now end
Says_from text meant fault memory end written now before e s = subst (λ w. WritesBeginning text meant fault memory w now end) e s

-- what was noted stays
pub Notes_same : {A : Type 0} (before between now : Option (List A)) (x : A) → now ≡ between → NotesReceive before between x → NotesReceive before now x
Notes_same before between now x e n = subst (λ later. NotesReceive before later x) (sym e) n

-- what a bind notes, by its answer
pub NotesBind_made : (before now : Option (List Binding)) (r : Bound) (b : Binding) → r ≡ Made → NotesBind before now r b → NotesReceive before now b
NotesBind_made before now r b e n = subst (λ answer. NotesBind before now answer b) e n

pub NotesBind_failed : (before now : Option (List Binding)) (r : Bound) (b : Binding) → r ≡ Failed → NotesBind before now r b → now ≡ before
NotesBind_failed before now r b e n = subst (λ answer. NotesBind before now answer b) e n

pub NotesBind_refused : (before now : Option (List Binding)) (r : Bound) (b : Binding) → r ≡ OutOfMemory → NotesBind before now r b → now ≡ before
NotesBind_refused before now r b e n = subst (λ answer. NotesBind before now answer b) e n
