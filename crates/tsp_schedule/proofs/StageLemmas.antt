-- How a stage goes on, and how it halts.
use Rattle.std.proofs.Common.{sym, ap, ◌∙◌, inl, inr, subst, ◌≡◌, ◌≢◌, ℕ, List, [], ◌∷◌, ◌++◌, Ok, Err, Option, None, Some, MatchOption, MatchResult, refl}
use Rattle.std.proofs.Common.{true, false}
use Rattle.std.specs.declared.result.Result.{Result}
use Rattle.tsp_base.specs.declared.event.EventFault.{TheVariants.TimeBack, TheVariants.Limit as NoRoom, TheVariants.OutOfMemory as NoMemory, EventFault}
use Rattle.tsp_base.specs.{declared.header.NodeLine.NodeLine, declared.event.Event.Event, Words.HeaderValue}
use Rattle.tsp_lines.specs.Lines.{line_ahead}
use Rattle.tsp_lines.specs.declared.treatment.Stop.{Stop, TheVariants.Bad, TheVariants.Limit, TheVariants.WriteFault, TheVariants.OutOfMemory}
use Rattle.tsp_script.specs.declared.event_line.EventItem.{TheVariants.Event as EventOf, TheVariants.End, EventItem}
use Rattle.tsp_script.specs.declared.head_line.HeadItem.{HeadItem, TheVariants.Title, TheVariants.Drift, TheVariants.Node, TheVariants.Net, TheVariants.NotHead}
use Rattle.tsp_script.specs.{declared.line_fault.LineFault.LineFault, Schedules.SpellsEvent, Schedules.SpellsHead}
use Rattle.tsp_script.proofs.EventLines.{SpellsEvent_one}
use Rattle.tsp_schedule.specs.declared.stage.Stage.TheVariants.{Titled as AtTitled, Drifted as AtDrifted, Heading as AtHeading, Running as AtRunning}
use Rattle.tsp_schedule.specs.Schedules.{Progress, Untitled, Titled, Drifted, Heading, Running, Ended, GoesOn, RunsOn, Takes, TakesNet, IsComplete, next_place}
use Rattle.tsp_schedule.specs.Schedules.{new_header, IsCause, drifted}
use Rattle.tsp_schedule.specs.Stages.{StageStands, RunStands, TriesFront, Advances, AdvancesByEvent, Halts, HaltsFirst, HaltsNode, HaltsNet, HaltsEvent}
use Rattle.tsp_schedule.specs.{Stages.StopsFor, Refusing.Refusing, declared.run.Run.Run, declared.stage.Stage.Stage}
use Rattle.tsp_run.specs.Refusals.{IsRefusal}

pub MatchResult_map : {A B : Type 0} {P R : A → Type 0} {Q S : B → Type 0} (r : Result A B) → MatchResult r P Q → ((a : A) → P a → R a) →
    ((b : B) → Q b → S b) → MatchResult r R S
MatchResult_map (Ok a) h f g = f a h
MatchResult_map (Err b) h f g = g b h

pub MatchOption_map : {A P Q : Type 0} {R S : A → Type 0} (o : Option A) → MatchOption o P R → (P → Q) → ((a : A) → R a → S a) → MatchOption o Q S
MatchOption_map None h f g = f h
MatchOption_map (Some a) h f g = g a h

bad_cause : (fault : EventFault) (cause : List ℕ) → StopsFor fault (Bad cause) → IsCause fault cause
bad_cause (NoRoom a b) cause s = absurd s
bad_cause NoMemory cause s = absurd s
bad_cause _ cause s = s

not_memory : (fault : EventFault) (cause : List ℕ) → StopsFor fault (Bad cause) → fault ≢ NoMemory
not_memory NoMemory cause s q = s
not_memory _ cause s q = cc

no_write : (fault : EventFault) → StopsFor fault WriteFault → ⊥
no_write (TimeBack a b) s = s
no_write _ s = s

module _ {C : Type 0} (refused : Refusing) (stands : HeaderValue → List Event → C → Type 0) where
  no_room : (header : HeaderValue) (events : List Event) (e : Event) (fault : EventFault) → StopsFor fault Limit → IsRefusal (refused header events e) fault →
      HaltsEvent refused header events e Limit
  no_room header events e (NoRoom a b) s (inl r) = (a, b, r)
  no_room header events e (NoRoom a b) s (inr r) = let q = r.1 in let bad : ⊥ = cc in absurd bad
  no_room header events e _ s i = absurd s

  -- a refused event stops the reading as its fault says
  pub HaltsEvent_stops : (header : HeaderValue) (events : List Event) (e : Event) (fault : EventFault) (stop : Stop) → StopsFor fault stop →
      IsRefusal (refused header events e) fault → HaltsEvent refused header events e stop
  HaltsEvent_stops header events e fault (Bad cause) s (inl r) = (fault, r, bad_cause fault cause s)
  HaltsEvent_stops header events e fault (Bad cause) s (inr r) = absurd (not_memory fault cause s r.1)
  HaltsEvent_stops header events e fault Limit s i = no_room header events e fault s i
  HaltsEvent_stops header events e fault WriteFault s i = absurd (no_write fault s)
  HaltsEvent_stops header events e fault OutOfMemory s i = tt

  -- where an event is refused, so is its line
  pub Halts_event : (header : HeaderValue) (events : List Event) (e : Event) (line : List ℕ) (stop : Stop) → SpellsEvent line (EventOf e) →
      HaltsEvent refused header events e stop → Halts refused (Running header events) line stop
  Halts_event header events e line (Bad cause) s h = inr (e, h.0, s, h.1, h.2)
  Halts_event header events e line Limit s h = (e, h.0, h.1, s, h.2)
  Halts_event header events e line WriteFault s h = h
  Halts_event header events e line OutOfMemory s h = tt

  only_event : (header : HeaderValue) (events : List Event) (e : Event) (line : List ℕ) (r : Result EventItem LineFault) → r ≡ Ok (EventOf e) →
      ((item : EventItem) → SpellsEvent line item → r ≡ Ok item) →
      (other : Progress) → RunsOn refused header events line other → other ≡ Running header (e ∷ events)
  only_event header events e line r is one other (inl g) =
      let same = sym is ∙ one (EventOf g.0) g.1 in
      let f : g.0 ≡ e = cc in g.3 ∙ ap (λ k. Running header (k ∷ events)) f
  only_event header events e line r is one other (inr g) = let none = sym is ∙ one End g.0 in cc

  -- a line of an event that nothing refuses is accepted
  pub Advances_event : (header : HeaderValue) (events : List Event) (e : Event) (line : List ℕ) (next : Stage C) (r : Result EventItem LineFault) → r ≡
      Ok (EventOf e) → ((item : EventItem) → SpellsEvent line item → r ≡ Ok item) →
      SpellsEvent line (EventOf e) → refused header events e ≡ None → StageStands stands (Running header (e ∷ events)) next →
      Advances refused stands (Running header events) line next
  Advances_event header events e line next r is one spells none s = record {
    to = Running header (e ∷ events);
    goes = inl (e, spells, none, refl);
    stands_for = s;
    only = only_event header events e line r is one;
  }

  pub Advances_by_event : (header : HeaderValue) (events : List Event) (e : Event) (line : List ℕ) (next : Stage C) → SpellsEvent line (EventOf e) →
      refused header events e ≡ None → StageStands stands (Running header (e ∷ events)) next → AdvancesByEvent refused stands (Running header events) line next
  unfolding Advances_event
  Advances_by_event header events e line next spells none s = (
    header,
    events,
    e,
    refl,
    Advances_event header events e line next (Ok (EventOf e)) refl
        (λ item k. ap (λ i. Ok i) (SpellsEvent_one line (EventOf e) item spells k)) spells none s,
    refl,
  )

  -- the first of some lines was tried where the last one wasn't read yet
  pub Running_tried : (p : Progress) (old new : Run C) (text : List ℕ) (front : Option ℕ) → RunStands stands p old → old.over ≡ false →
      TriesFront refused stands old text new front
      → MatchOption front (RunStands stands p new) (λ count. AdvancesByEvent refused stands p (line_ahead text count) (AtRunning new))
  Running_tried (Running header events) old new text front h over t = t header events h.1
  Running_tried (Ended header events) old new text front h over t = let q = h.0 in let bad : ⊥ = cc in absurd bad
  Running_tried _ old new text front h over t = absurd h

  only_end : (header : HeaderValue) (events : List Event) (line : List ℕ) (r : Result EventItem LineFault) → r ≡ Ok End →
      ((item : EventItem) → SpellsEvent line item → r ≡ Ok item) →
      (other : Progress) → RunsOn refused header events line other → other ≡ Ended header events
  only_end header events line r is one other (inl g) = let none = sym is ∙ one (EventOf g.0) g.1 in cc
  only_end header events line r is one other (inr g) = g.1

  -- the last line is accepted
  pub Advances_end : (header : HeaderValue) (events : List Event) (line : List ℕ) (next : Stage C) (r : Result EventItem LineFault) → r ≡ Ok End →
      ((item : EventItem) → SpellsEvent line item → r ≡ Ok item) → SpellsEvent line End → StageStands stands (Ended header events) next →
      Advances refused stands (Running header events) line next
  Advances_end header events line next r is one spells s = record {
    to = Ended header events;
    goes = inr (spells, refl);
    stands_for = s;
    only = only_end header events line r is one;
  }

  -- the title is accepted
  pub Advances_title : (v : ℕ) (line : List ℕ) (r : Result HeadItem LineFault) → r ≡ Ok (Title v) → ((item : HeadItem) → SpellsHead 1 line item → r ≡ Ok item) →
      SpellsHead 1 line (Title v) → Advances refused stands Untitled line (AtTitled v)
  Advances_title v line r is one spells = record {
    to = Titled v;
    goes = (v, spells, refl);
    stands_for = refl;
    only = λ other g. let same = sym is ∙ one (Title g.0) g.1 in let e : g.0 ≡ v = cc in g.2 ∙ ap Titled e;
  }

  -- the second line is accepted
  pub Advances_drift : (version d : ℕ) (line : List ℕ) (next : Stage C) (r : Result HeadItem LineFault) → r ≡ Ok (Drift d) →
      ((item : HeadItem) → SpellsHead 2 line item → r ≡ Ok item) → SpellsHead 2 line (Drift d) →
      StageStands stands (drifted version d) next → Advances refused stands (Titled version) line next
  Advances_drift version d line next r is one spells s = record {
    to = drifted version d;
    goes = (d, spells, refl);
    stands_for = s;
    only = λ other g. let same = sym is ∙ one (Drift g.0) g.1 in let n : g.0 ≡ d = cc in g.2 ∙ ap (λ k. drifted version k) n;
  }

  only_node : (header : HeaderValue) (n : NodeLine) (line : List ℕ) (r : Result HeadItem LineFault) → r ≡ Ok (Node n) →
      ((item : HeadItem) → SpellsHead (next_place header) line item → r ≡ Ok item) →
      (other : Progress) → GoesOn refused (Heading header) line other → other ≡ Heading (record header { nodes = header.nodes ++ n ∷ [] })
  only_node header n line r is one other (inl g) =
      let same = sym is ∙ one (Node g.0) g.1 in
      let e : g.0 ≡ n = cc in g.3 ∙ ap (λ k. Heading (record header { nodes = header.nodes ++ k ∷ [] })) e
  only_node header n line r is one other (inr (inl g)) = let none = sym is ∙ one (Net g.0) g.1 in cc
  only_node header n line r is one other (inr (inr g)) = let none = sym is ∙ one NotHead g.0 in cc

  -- a node that the header can take is accepted
  pub Advances_node : (header : HeaderValue) (n : NodeLine) (line : List ℕ) (next : Stage C) (r : Result HeadItem LineFault) → r ≡ Ok (Node n) →
      ((item : HeadItem) → SpellsHead (next_place header) line item → r ≡ Ok item) → SpellsHead (next_place header) line (Node n) →
      Takes header n → next ≡ AtHeading (record header { nodes = header.nodes ++ n ∷ [] }) → Advances refused stands (Heading header) line next
  Advances_node header n line next r is one spells takes next_is = record {
    to = Heading (record header { nodes = header.nodes ++ n ∷ [] });
    goes = inl (n, spells, takes, refl);
    stands_for = subst (λ s. StageStands stands (Heading (record header { nodes = header.nodes ++ n ∷ [] })) s) (sym next_is) refl;
    only = only_node header n line r is one;
  }

  -- and one that it can't take is refused
  pub Halts_node : (header : HeaderValue) (n : NodeLine) (line : List ℕ) (stop : Stop) → SpellsHead (next_place header) line (Node n) →
      HaltsNode header n stop → Halts refused (Heading header) line stop
  Halts_node header n line (Bad cause) spells h = inl (inr (inl (n, spells, h.0)), h.1)
  Halts_node header n line Limit spells h = absurd h
  Halts_node header n line WriteFault spells h = h
  Halts_node header n line OutOfMemory spells h = tt

  only_net : (header : HeaderValue) (m : List ℕ) (line : List ℕ) (r : Result HeadItem LineFault) → r ≡ Ok (Net m) →
      ((item : HeadItem) → SpellsHead (next_place header) line item → r ≡ Ok item) →
      (other : Progress) → GoesOn refused (Heading header) line other → other ≡ Heading (record header { nets = header.nets ++ m ∷ [] })
  only_net header m line r is one other (inl g) = let none = sym is ∙ one (Node g.0) g.1 in cc
  only_net header m line r is one other (inr (inl g)) =
      let same = sym is ∙ one (Net g.0) g.1 in
      let e : g.0 ≡ m = cc in g.3 ∙ ap (λ k. Heading (record header { nets = header.nets ++ k ∷ [] })) e
  only_net header m line r is one other (inr (inr g)) = let none = sym is ∙ one NotHead g.0 in cc

  -- a network that the header can take is accepted
  pub Advances_net : (header : HeaderValue) (m : List ℕ) (line : List ℕ) (next : Stage C) (r : Result HeadItem LineFault) → r ≡ Ok (Net m) →
      ((item : HeadItem) → SpellsHead (next_place header) line item → r ≡ Ok item) → SpellsHead (next_place header) line (Net m) →
      TakesNet header m → next ≡ AtHeading (record header { nets = header.nets ++ m ∷ [] }) → Advances refused stands (Heading header) line next
  Advances_net header m line next r is one spells takes next_is = record {
    to = Heading (record header { nets = header.nets ++ m ∷ [] });
    goes = inr (inl (m, spells, takes, refl));
    stands_for = subst (λ s. StageStands stands (Heading (record header { nets = header.nets ++ m ∷ [] })) s) (sym next_is) refl;
    only = only_net header m line r is one;
  }

  -- and one that it can't take is refused
  pub Halts_net : (header : HeaderValue) (m : List ℕ) (line : List ℕ) (stop : Stop) → SpellsHead (next_place header) line (Net m) → HaltsNet header m stop →
      Halts refused (Heading header) line stop
  Halts_net header m line (Bad cause) spells h = inl (inr (inr (inl (m, spells, h.0))), h.1)
  Halts_net header m line Limit spells h = absurd h
  Halts_net header m line WriteFault spells h = h
  Halts_net header m line OutOfMemory spells h = tt

  only_first : (header : HeaderValue) (line : List ℕ) (next : Stage C) (r : Result HeadItem LineFault) → r ≡ Ok NotHead →
      ((item : HeadItem) → SpellsHead (next_place header) line item → r ≡ Ok item) → (a : Advances refused stands (Running header []) line next) →
      (other : Progress) → GoesOn refused (Heading header) line other → other ≡ a.to
  only_first header line next r is one a other (inl g) = let none = sym is ∙ one (Node g.0) g.1 in cc
  only_first header line next r is one a other (inr (inl g)) = let none = sym is ∙ one (Net g.0) g.1 in cc
  only_first header line next r is one a other (inr (inr g)) = a.only other g.2

  -- the first line behind the header is accepted as any line behind the header
  pub Advances_first : (header : HeaderValue) (line : List ℕ) (next : Stage C) (r : Result HeadItem LineFault) → r ≡ Ok NotHead →
      ((item : HeadItem) → SpellsHead (next_place header) line item → r ≡ Ok item) → SpellsHead (next_place header) line NotHead →
      IsComplete header → Advances refused stands (Running header []) line next → Advances refused stands (Heading header) line next
  Advances_first header line next r is one spells some a = record {
    to = a.to;
    goes = inr (inr (spells, some, a.goes));
    stands_for = a.stands_for;
    only = only_first header line next r is one a;
  }

  pub Halts_first : (header : HeaderValue) (line : List ℕ) (stop : Stop) → SpellsHead (next_place header) line NotHead → HaltsFirst refused header line stop →
      Halts refused (Heading header) line stop
  Halts_first header line (Bad cause) spells (inl h) = inl (inr (inr (inr (inl (spells, h.0)))), h.1)
  Halts_first header line (Bad cause) spells (inr h) = inr (spells, h.0, h.1)
  Halts_first header line Limit spells h = (spells, h.0, h.1)
  Halts_first header line WriteFault spells h = h
  Halts_first header line OutOfMemory spells h = tt

  pub HaltsFirst_run : (header : HeaderValue) (line : List ℕ) (stop : Stop) → IsComplete header → Halts refused (Running header []) line stop →
      HaltsFirst refused header line stop
  HaltsFirst_run header line (Bad cause) some h = inr (some, h)
  HaltsFirst_run header line Limit some h = (some, h)
  HaltsFirst_run header line WriteFault some h = h
  HaltsFirst_run header line OutOfMemory some h = tt

  -- a stage behind the title or the drift goes on as from the only place for which it stands
  pub titled_next : (p : Progress) (version : ℕ) (line : List ℕ) (r : Result (Stage C) Stop) → StageStands stands p (AtTitled version) →
      MatchResult r (Advances refused stands (Titled version) line) (Halts refused (Titled version) line) →
      MatchResult r (Advances refused stands p line) (Halts refused p line)
  titled_next (Titled read) version line r h f = subst (λ (v : ℕ). MatchResult r (Advances refused stands (Titled v) line) (Halts refused (Titled v) line)) h f
  titled_next _ version line r h f = absurd h

  pub drifted_next : (p : Progress) (held : HeaderValue) (line : List ℕ) (r : Result (Stage C) Stop) → StageStands stands p (AtDrifted held) →
      ((drift : ℕ) → held ≡ new_header drift true → MatchResult r (Advances refused stands (Drifted drift) line) (Halts refused (Drifted drift) line)) →
      MatchResult r (Advances refused stands p line) (Halts refused p line)
  drifted_next (Drifted drift) held line r h f = f drift h
  drifted_next _ held line r h f = absurd h
