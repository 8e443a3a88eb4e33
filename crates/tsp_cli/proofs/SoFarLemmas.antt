-- From what a replay comes to, however it ends, to what it has printed so far.
use Rattle.std.proofs.Common.{arith, sym, ap, ◌∙◌, inl, inr, subst, append-nil, append_assoc, length-append, ◌≡◌, ℕ, ◌+◌, ◌≤◌, List, [], ◌++◌, length, reverse}
use Rattle.std.proofs.Common.{Option, None, Some, All, refl}
use Rattle.std.proofs.lemmas.List.Elements.{All-nil}
use Rattle.tsp_rules.specs.Values.{Event}
use Rattle.tsp_base.specs.Words.{HeaderValue, IsHeader}
use Rattle.tsp_io.specs.Streams.{Gives, Grows}
use Rattle.tsp_lines.specs.Lines.{Begins, HasLines, HasNext, IsInput, IsPast, NoFeed, close, closed}
use Rattle.tsp_lines.specs.Outcomes.{Follows, IsBad, IsLimited, WritesGot, WritesPart, bad_line, limit_line}
use Rattle.tsp_lines.{proofs.Outputs.Grows_nil, specs.declared.limits.TheConstants.MOST_INPUT}
use Rattle.tsp_replay.specs.{Meaning.Replays, Meaning.replaying, Schedules.Reaches, Schedules.refused, Traces.written_at}
use Rattle.tsp_run.specs.{Ranges.Accepted, Ranges.IsInRange, Refusals.Valid}
use Rattle.tsp_run.proofs.{RunPremises.runs_keep_premises, RunPromises.runs_keep_promises_holds}
use Rattle.tsp_schedule.proofs.ReadHeaders.{KeepsHeader, Reaches_header}
use Rattle.tsp_cli.specs.declared.status.Status.TheVariants.{Ok, Usage, Bad, ReadFault, WriteFault, LinkFault, NoAnswer, Limit, OutOfMemory}
use Rattle.tsp_cli.specs.{Lines.EndsAs, declared.status.Status.Status}
use Rattle.tsp_cli.specs.Headline.{IsLastLine, KeepsPromises, PrintsSoFar, TellsSoFar, WritesOnly, WritesSoFar}
use Rattle.tsp_cli.proofs.HeadlineLemmas.{KeepsValid, Reaches_valid}
use Rattle.tsp_schedule.specs.Schedules.{Progress, Untitled, Running, Ended}

keeps_promises : (header : HeaderValue) (events : List Event) → IsHeader header → Valid header events × All IsInRange events → KeepsPromises header events
keeps_promises header events is v =
    let accepted : Accepted header events = record { header_is = is; ranges = v.1; valid = v.0 } in
    (accepted, (λ setting set. runs_keep_promises_holds header setting events set accepted), runs_keep_premises header events accepted)

-- what is written so far is what the lines tell
tells_at : (p : Progress) → KeepsHeader p → KeepsValid p → TellsSoFar p (written_at p)
tells_at (Running header events) h v = (keeps_promises header events h v, refl)
tells_at (Ended header events) h v = (keeps_promises header events h v, refl)
tells_at _ h v = refl

-- accepted lines have come somewhere, and this is what they tell
abbrev Tells : List (List ℕ) → List ℕ → Type 0
Tells lines text = (p : Progress) × Reaches (reverse lines) p × TellsSoFar p text

tells : (lines : List (List ℕ)) (text : List ℕ) → Replays lines text → Tells lines text
tells lines text (p, r, t) = (
  p,
  r,
  subst (λ x. TellsSoFar p x) (sym t) (tells_at p (Reaches_header refused (reverse lines) p r)
      (Reaches_valid (reverse lines) p r)),
)

-- an input that begins with these octets and more begins with them
begins_front : (limit more : ℕ) (input : Option (List ℕ)) (front back : List ℕ) → length front ≤ limit → Begins more input (front ++ back) →
    Begins limit input front
begins_front limit more None front back small b = (small, tt)
begins_front limit more (Some xs) front back small b = (small, (back ++ b.1.0, b.1.1 ∙ append_assoc front back b.1.0))

-- a whole input begins with itself
begins_whole : (limit : ℕ) (input : Option (List ℕ)) (octets : List ℕ) → IsInput limit input octets → Begins limit input octets
begins_whole limit None octets i = (i.0, tt)
begins_whole limit (Some xs) octets i = (i.0, ([], i.1 ∙ sym (append-nil octets)))

-- so does what has given them
begins_given : (limit : ℕ) (input left : Option (List ℕ)) (octets : List ℕ) → length octets ≤ limit → Gives input left octets → Begins limit input octets
begins_given limit input None octets small g = subst (λ i. Begins limit i octets) (sym g) (small, tt)
begins_given limit input (Some rest) octets small g = subst (λ i. Begins limit i octets) (sym g) (small, (rest, refl))

front_fits : (limit : ℕ) (front back : List ℕ) → length (front ++ back) ≤ limit → length front ≤ limit
front_fits limit front back small = omega (arith, small, length-append front back)

next_has : (limit : ℕ) (input : Option (List ℕ)) (lines : List (List ℕ)) (line : List ℕ) → HasNext limit input lines line → HasLines limit input lines
next_has limit input lines line (n, inl b) = inl (begins_front limit limit input (closed lines) (close line) (front_fits limit (closed lines) (close line) b.0)
    b)
next_has limit input lines line (n, inr i) =
    let b = begins_whole limit input (closed lines ++ line) i.1 in
    inl (begins_front limit limit input (closed lines) line (front_fits limit (closed lines) line b.0) b)

past_has : (limit : ℕ) (input : Option (List ℕ)) (lines : List (List ℕ)) → IsPast limit input lines → HasLines limit input lines
past_has limit input lines (part, x, n, full, b) =
    inl (begins_front limit (limit + 1) input (closed lines) _ (omega (arith, full, length-append (closed lines) part)) b)

bad_has : (limit : ℕ) (input : Option (List ℕ)) (lines : List (List ℕ)) (said : List ℕ) → IsBad replaying limit input lines said → HasLines limit input lines ×
    ((cause : List ℕ) × (said ≡ bad_line (length lines + 1) cause))
bad_has limit input lines said (inl (line, cause, next, room, refuses, is)) = (next_has limit input lines line next, (cause, is))
bad_has limit input lines said (inr (cause, whole, lacks, is)) = (inr whole, (cause, is))

limit_has : (limit : ℕ) (input : Option (List ℕ)) (lines : List (List ℕ)) (said : List ℕ) → IsLimited replaying limit input lines said →
    HasLines limit input lines × (said ≡ limit_line (length lines + 1))
limit_has limit input lines said (inl (line, next, limits), is) = (next_has limit input lines line next, is)
limit_has limit input lines said (inr (inl past), is) = (past_has limit input lines past, is)
limit_has limit input lines said (inr (inr (full, more)), is) = absurd full

follows_has : (limit : ℕ) (input : Option (List ℕ)) (lines : List (List ℕ)) (said : List ℕ) → Follows replaying limit input lines said →
    HasLines limit input lines × IsLastLine lines said
follows_has limit input lines said (inl on) = (on.0, inl on.1)
follows_has limit input lines said (inr (inl bad)) = let h = bad_has limit input lines said bad in (h.0, inr (inl h.1))
follows_has limit input lines said (inr (inr (inl full))) = let h = limit_has limit input lines said full in (h.0, inr (inr h.1))
follows_has limit input lines said (inr (inr (inr done))) = (inr done.0, inl done.1.1)

-- accepted lines with what was written
prints : (status : Status) (input written now : Option (List ℕ)) (lines : List (List ℕ)) (text : List ℕ) → All NoFeed lines → HasLines MOST_INPUT input lines →
    Replays lines text → WritesSoFar status lines text written now → PrintsSoFar input written now status
prints status input written now lines text n has accepts w = let t = tells lines text accepts in (lines, t.0, text, n, has, t.1, t.2, w)

-- a part of what was to be written
prints_part : (input written now : Option (List ℕ)) (rest : List ℕ) → WritesPart replaying MOST_INPUT input written now rest →
    (lines : List (List ℕ)) × (text : List ℕ) × All NoFeed lines × HasLines MOST_INPUT input lines × Replays lines text × WritesOnly lines text written now rest
prints_part input written now rest (lines, text, said, part, n, accepts, follows, is, grows) =
    let h = follows_has MOST_INPUT input lines said follows in
    (lines, text, n, h.0, accepts, (said, part, h.1, is, grows))

prints_got : (input left written now : Option (List ℕ)) → WritesGot replaying MOST_INPUT input left written now → PrintsSoFar input written now ReadFault
prints_got input left written now (lines, text, part, n, accepts, feedless, small, full, gives, grows) =
    let b = begins_given MOST_INPUT input left (closed lines ++ part) small gives in
    prints ReadFault input written now lines text n (inl (begins_front MOST_INPUT MOST_INPUT input (closed lines) part
    (front_fits MOST_INPUT (closed lines) part small) b)) accepts grows

-- whatever the status, this is what was printed
pub EndsAs_so_far : (input left written now : Option (List ℕ)) (status : Status) → EndsAs replaying input left written now status →
    PrintsSoFar input written now status
EndsAs_so_far input left written now Ok ((lines, text, said, n, accepts, done, grows), over) =
    let all : text ++ said ≡ text = ap (λ l. text ++ l) done.1.1 ∙ append-nil text in
    prints Ok input written now lines text n (inr done.0) accepts (subst (λ l. Grows written now l) all grows)
EndsAs_so_far input left written now Usage e = absurd e
EndsAs_so_far input left written now Bad (lines, text, said, n, accepts, bad, grows) =
    let h = bad_has MOST_INPUT input lines said bad in
    prints Bad input written now lines text n h.0 accepts (h.1.0, subst (λ l. Grows written now (text ++ l)) h.1.1 grows)
EndsAs_so_far input left written now ReadFault e = prints_got input left written now e
EndsAs_so_far input left written now WriteFault (rest, some, w) =
    let p = prints_part input written now rest w in
    prints WriteFault input written now p.0 p.1 p.2 p.3 p.4 (rest, some, p.5)
EndsAs_so_far input left written now LinkFault e = absurd e
EndsAs_so_far input left written now NoAnswer e = absurd e
EndsAs_so_far input left written now Limit (lines, text, said, n, accepts, full, grows) =
    let h = limit_has MOST_INPUT input lines said full in
    prints Limit input written now lines text n h.0 accepts (subst (λ l. Grows written now (text ++ l)) h.1 grows)
EndsAs_so_far input left written now OutOfMemory (rest, w) =
    let p = prints_part input written now rest w in
    prints OutOfMemory input written now p.0 p.1 p.2 p.3 p.4 (rest, p.5)

-- an input has no lines in front
has_none : (limit : ℕ) (input : Option (List ℕ)) → HasLines limit input []
has_none limit None = inl (omega arith, tt)
has_none limit (Some xs) = inl (omega arith, (xs, refl))

-- without memory for the command nothing was read and nothing written
pub nothing_so_far : (input written : Option (List ℕ)) → PrintsSoFar input written written OutOfMemory
nothing_so_far input written = prints OutOfMemory input written written [] [] (All-nil NoFeed) (has_none MOST_INPUT input) (Untitled, refl, refl) (
  [],
  ([], [], inl refl, refl, Grows_nil written),
)
