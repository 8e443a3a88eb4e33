-- What is held, and how far the lines have come.
use Rattle.std.proofs.Common.{◌∙◌, ap, subst, inl, inr, sym, refl, append-nil, true≢false, ◌≡◌, ℕ, ◌<◌, ◌≤◌, Bool, true, false, List, [], ◌∷◌, length, codes}
use Rattle.std.proofs.Common.{reverse, IfErr, IfSome, MatchOption, MatchResult, OnErr, OnOk, Option, None, Some}
use Rattle.std.{proofs.lemmas.List.length-reverse, specs.declared.result.Result.Result, specs.declared.result.Result.TheVariants.Err}
use Rattle.std.{specs.declared.result.Result.TheVariants.Ok}
use Rattle.tsp_base.specs.{Words.HeaderValue, declared.event.Event.Event, declared.trace.Line2.Line2}
use Rattle.tsp_audit_command.specs.declared.check.AuditInput.{AuditInput, TheVariants.Schedule, TheVariants.Claims as ClaimsOf}
use Rattle.tsp_audit_command.specs.declared.listing.Listing.{Listing}
use Rattle.tsp_audit_command.specs.ClaimReaders.{ClaimReaderValue, passed_up_to, passes_all, told_more, unclaimed}
use Rattle.tsp_audit_command.specs.{Listings.most_nodes, Listings.refusal_at, Listings.refused_next, Meaning.auditing}
use Rattle.tsp_audit.specs.declared.verdict.Failure.{Failure}
use Rattle.tsp_audit_command.specs.Texts.{verdict_text}
use Rattle.tsp_audit_command.specs.Readings.{Claimed, GivesVerdict, IsWanting, MayEnd, ReachesReading, Reading, RefusesLine, Scheduling, nodes_at, reading_of}
use Rattle.tsp_audit_command.specs.Stands.{AdvancesReading, ClaimAdvances, Concludes, HaltsReading, HaltsConcluding, HasNodes, EventStands, IsLast}
use Rattle.tsp_audit_command.specs.Stands.{ListingStands, ReadingStands, ReadsSchedule, Unpassed, is_over}
use Rattle.tsp_audit_command.proofs.{PassLemmas.some_one, Reverses.reverse_more, TraceLengths.SpellsTrace_long}
use Rattle.tsp_schedule.specs.Schedules.{Progress, Untitled, Titled, Drifted, Heading, Running, Ended, IsEnded}
use Rattle.tsp_schedule.specs.declared.stage.Stage.TheVariants.{Running as AtRunning}
use Rattle.tsp_schedule.specs.{Stages.StageStands, Stages.Advances as AdvancesBy, Stages.AdvancesByEvent, declared.stage.Stage.Stage}
use Rattle.tsp_schedule.proofs.StageLemmas.{MatchOption_map, MatchResult_map}
use Rattle.tsp_lines.specs.declared.treatment.Stop.TheVariants.{Bad, Limit, WriteFault, OutOfMemory}
use Rattle.tsp_lines.specs.declared.output.Unwritten.{Unwritten, TheVariants.WriteFault as NotWritten, TheVariants.OutOfMemory as NoMemory}
use Rattle.tsp_lines.specs.{Meanings.Closes, Meanings.Goes, Meanings.StopsAt, Meanings.StopsAtEnd, Meanings.Tried, Meanings.stop_of, Outputs.Hands}
use Rattle.tsp_lines.{proofs.Outputs.Hands_nil, specs.Lines.IsAhead, specs.Lines.line_ahead, specs.declared.treatment.Stop.Stop}
use Rattle.tsp_claims.specs.Listed.{up_in}
use Rattle.tsp_run.specs.Run.{last_at}

-- a long line is no trace's
pub Refuses_long : (r : Reading) (held : AuditInput) (c : ClaimReaderValue) (line cause : List ℕ) → held ≡ ClaimsOf c → EventStands r held →
    1024 < length line → cause ≡ codes "line" → RefusesLine r line cause
Refuses_long (Scheduling p) held c line cause is stands long cause_is = let bad : ⊥ = subst (λ h. EventStands (Scheduling p) h) is stands in absurd bad
Refuses_long (Claimed v) held c line cause is stands long cause_is = inl (SpellsTrace_long line long, cause_is)

-- a line of the schedule that it took, and which brings no node too many
pub Advances_scheduled : (p : Progress) (line : List ℕ) (stage : Stage Listing) (a : AdvancesBy refused_next ListingStands p line stage) (next : AuditInput) →
    nodes_at a.to ≤ most_nodes → EventStands (reading_of a.to) next → AdvancesReading (Scheduling p) line next
Advances_scheduled p line stage a next few stands = record {
  to = reading_of a.to;
  goes = (a.to, a.goes, few, refl);
  stands_for = stands;
  only = λ other g. g.3 ∙ ap (λ q. reading_of q) (a.only g.0 g.1);
}

-- a line of the schedule's, of an event
Advances_event : (p : Progress) (line : List ℕ) (stage : Stage Listing) → AdvancesByEvent refused_next ListingStands p line stage → nodes_at p ≤ most_nodes →
    AdvancesReading (Scheduling p) line (Schedule stage)
Advances_event p line stage (header, events, e, is, a, to) few =
    Advances_scheduled p line stage a (Schedule stage) (subst (λ q. nodes_at q ≤ most_nodes) (sym to) (subst (λ q. nodes_at q ≤ most_nodes) is few))
    (subst (λ q. EventStands (reading_of q) (Schedule stage)) (sym to) (subst (λ q. StageStands ListingStands q stage) to a.stands_for))

-- the first of some lines of the schedule's was tried: it is that of an event, or nothing has changed
pub Tries_scheduled : (r : Reading) (held : AuditInput) (old new : Stage Listing) (text : List ℕ) (count : ℕ) (front : Option ℕ) → held ≡ Schedule old →
    EventStands r held → ((p : Progress) → StageStands ListingStands p old → count ≡ nodes_at p) → count ≤ most_nodes →
    ((p : Progress) → StageStands ListingStands p old → MatchOption front (StageStands ListingStands p new) (λ n. AdvancesByEvent refused_next ListingStands p
    (line_ahead text n) new)) → MatchOption front (EventStands r (Schedule new)) (λ n. AdvancesReading r (line_ahead text n) (Schedule new))
Tries_scheduled (Scheduling p) held old new text count front is stands counts few tries =
    let s : StageStands ListingStands p old = subst (λ h. EventStands (Scheduling p) h) is stands in
    MatchOption_map front (tries p s) (λ t. t) (λ n a. Advances_event p (line_ahead text n) new a (subst (λ k. k ≤ most_nodes) (counts p s) few))
Tries_scheduled (Claimed v) held old new text count front is stands counts few tries = let bad : ⊥ = subst (λ h. EventStands (Claimed v) h) is stands in
    absurd bad

-- a reading within the schedule
pub scheduling_held : (r : Reading) (held : AuditInput) (stage : Stage Listing) → held ≡ Schedule stage → EventStands r held → (p : Progress) ×
    (r ≡ Scheduling p) × StageStands ListingStands p stage
scheduling_held (Scheduling p) held stage is stands = (p, refl, subst (λ h. EventStands (Scheduling p) h) is stands)
scheduling_held (Claimed c) held stage is stands = absurd (subst (λ h. EventStands (Claimed c) h) is stands)

-- it wasn't the last one
pub Advances_open : (p : Progress) (line : List ℕ) (stage : Stage Listing) → ReadsSchedule p line stage false →
    AdvancesReading (Scheduling p) line (Schedule stage)
Advances_open p line stage (a, few, more) = Advances_scheduled p line stage a (Schedule stage) few (held-open a.to stage a.stands_for more)
  where
    held-open : (q : Progress) (now : Stage Listing) → StageStands ListingStands q now → is_over now ≡ false → EventStands (reading_of q) (Schedule now)
    held-open (Ended header events) (AtRunning run) h o = absurd (true≢false (sym h.0 ∙ o))
    held-open (Ended header events) _ h o = absurd h
    held-open _ now h o = h

-- what begins behind the last line
Begins_behind : (q : Progress) (stage : Stage Listing) (next : AuditInput) (result : Result (Unit {0}) Stop) → StageStands ListingStands q stage →
    is_over stage ≡ true →
    ((header : HeaderValue) (events : List Event) → StageStands ListingStands (Ended header events) stage →
    MatchResult result (λ _. EventStands (Claimed (unclaimed header events)) next) (λ stop. stop ≡ OutOfMemory)) →
    MatchResult result (λ _. EventStands (reading_of q) next) (λ stop. stop ≡ OutOfMemory)
Begins_behind (Ended header events) stage next result h o begins = begins header events h
Begins_behind (Running header events) (AtRunning run) next result h o begins = absurd (true≢false (sym o ∙ h.0))
Begins_behind _ (AtRunning run) next result h o begins = absurd h
Begins_behind _ _ next result h o begins = absurd (true≢false (sym o))

-- it was the last one
pub Advances_last : (p : Progress) (line : List ℕ) (stage : Stage Listing) (next : AuditInput) (result : Result (Unit {0}) Stop) →
    ReadsSchedule p line stage true →
    ((header : HeaderValue) (events : List Event) → StageStands ListingStands (Ended header events) stage →
    MatchResult result (λ _. EventStands (Claimed (unclaimed header events)) next) (λ stop. stop ≡ OutOfMemory)) →
    MatchResult result (λ _. AdvancesReading (Scheduling p) line next) (HaltsReading (Scheduling p) line)
Advances_last p line stage next result (a, few, over) begins =
    MatchResult_map result (Begins_behind a.to stage next result a.stands_for over begins) (λ _ stands. Advances_scheduled p line stage a next few stands)
    (λ stop is. subst (λ s. HaltsReading (Scheduling p) line s) (sym is) tt)

pub ok_same : {b c : Bool} (r : Result Bool Stop) → r ≡ Ok b → r ≡ Ok c → b ≡ c
ok_same r p q = cc

-- the last line of a schedule with few nodes
pub IsLast_by : (stage : Stage Listing) (count : ℕ) → HasNodes stage count → count ≤ most_nodes → is_over stage ≡ true → IsLast stage
IsLast_by (AtRunning run) count has few o = (o, subst (λ n. n ≤ most_nodes) has few)
IsLast_by _ count has few o = absurd (true≢false (sym o))

-- one that brings a node too many
pub Halts_many : (p : Progress) (line : List ℕ) (stage : Stage Listing) (count : ℕ) → AdvancesBy refused_next ListingStands p line stage →
    ((q : Progress) → StageStands ListingStands q stage → count ≡ nodes_at q) → most_nodes < count → HaltsReading (Scheduling p) line Limit
Halts_many p line stage count a counts many = inr (a.to, a.goes, subst (λ n. most_nodes < n) (counts a.to a.stands_for) many)

-- lines come to one place
comes_same : (c : ClaimReaderValue) (l k : Line2) (here there : ClaimReaderValue) → k ≡ l → passed_up_to c l.event ≡ Some here → passed_up_to c k.event ≡
    Some there → there ≡ here
comes_same c l k here there same p q = some_one there here (sym q ∙ (ap (λ (x : Line2). passed_up_to c x.event) same ∙ p))

-- a claimed line
pub Advances_claimed : (c : ClaimReaderValue) (line : List ℕ) (next : ClaimReaderValue) → ClaimAdvances c line next →
    AdvancesReading (Claimed c) line (ClaimsOf next)
Advances_claimed c line next (l, tells, (here, fits, room, is)) = record {
  to = Claimed next;
  goes = (l, here, tells, fits, room, ap (λ v. Claimed v) is);
  stands_for = refl;
  only = λ other g.
      let same = tells.1 g.0 g.2.0 in
      g.5 ∙ (ap (λ (k : Line2). Claimed (told_more g.1 k)) same ∙ (ap (λ v. Claimed (told_more v l)) (comes_same c l g.0 here g.1 same fits.0 g.3.0) ∙
      ap (λ v. Claimed v) (sym is)));
}

pub Advances_held : (r : Reading) (held : AuditInput) (c next : ClaimReaderValue) (line : List ℕ) → held ≡ ClaimsOf c → EventStands r held →
    ClaimAdvances c line next → AdvancesReading r line (ClaimsOf next)
Advances_held (Scheduling p) held c next line is stands a = let bad : ⊥ = subst (λ h. EventStands (Scheduling p) h) is stands in absurd bad
Advances_held (Claimed v) held c next line is stands a = let same : c ≡ v = subst (λ h. EventStands (Claimed v) h) is stands in
    subst (λ x. AdvancesReading (Claimed x) line (ClaimsOf next)) same (Advances_claimed c line next a)

-- a claimed line that isn't accepted
pub Halts_held : (r : Reading) (held : AuditInput) (c : ClaimReaderValue) (line : List ℕ) (stop : Stop) → held ≡ ClaimsOf c → EventStands r held →
    HaltsReading (Claimed c) line stop → HaltsReading r line stop
Halts_held (Scheduling p) held c line stop is stands h = let bad : ⊥ = subst (λ x. EventStands (Scheduling p) x) is stands in absurd bad
Halts_held (Claimed v) held c line stop is stands h = let same : c ≡ v = subst (λ x. EventStands (Claimed v) x) is stands in
    subst (λ x. HaltsReading (Claimed x) line stop) same h

-- events that are left can't be passed
pub Halts_concluding : (c : ClaimReaderValue) (written : Option (List ℕ)) (held : List ℕ) (stop : Stop) → Unpassed (passes_all c) stop →
    HaltsConcluding c written held written held stop
Halts_concluding c written held (Bad cause) u = (Hands_nil written held, u)
Halts_concluding c written held Limit u = u
Halts_concluding c written held WriteFault u = absurd u
Halts_concluding c written held OutOfMemory u = Hands_nil written held

-- the verdict was put, or a write failed, or there was no memory
pub Concludes_told : (c all : ClaimReaderValue) (found : Option Failure) (written : Option (List ℕ)) (held : List ℕ) (now : Option (List ℕ)) (keeps : List ℕ)
    (result : Result (Unit {0}) Stop) → passes_all c ≡ Some all → GivesVerdict all.header all.passed found →
    OnOk result (Hands written held now keeps (verdict_text found)) → OnErr result (Hands written held now keeps []) →
    IfErr result (λ stop. (fault : Unwritten) × (stop ≡ stop_of fault)) →
    MatchResult result (λ _. Concludes c written held now keeps) (HaltsConcluding c written held now keeps)
Concludes_told c all found written held now keeps (Ok u) passes gives ok err stop = (verdict_text found, ok, (all, found, passes, gives, refl))
Concludes_told c all found written held now keeps (Err s) passes gives ok err (NotWritten, is) =
    subst (λ x. HaltsConcluding c written held now keeps x) (sym is) err
Concludes_told c all found written held now keeps (Err s) passes gives ok err (NoMemory, is) =
    subst (λ x. HaltsConcluding c written held now keeps x) (sym is) err

-- an accepted line
pub Goes_advances : (lines : List (List ℕ)) (text line : List ℕ) (r : Reading) (next : AuditInput) (written : Option (List ℕ)) (held : List ℕ) →
    ReachesReading (reverse lines) r → text ≡ [] → ((q : Reading) → ReachesReading (reverse lines) q → AdvancesReading q line next) →
    Goes auditing (ReadingStands next) lines text line written held written held
Goes_advances lines text line r next written held reaches text_is advances =
    let a = advances r reaches in (
      [],
      Hands_nil written held,
      (a.to, subst (λ ls. ReachesReading ls a.to) (sym (reverse_more lines line)) (r, reaches, a.goes), append-nil text ∙ text_is),
      λ q goes. one q (subst (λ ls. ReachesReading ls q) (reverse_more lines line) goes),
    )
  where
    one : (q : Reading) → ReachesReading (line ∷ reverse lines) q → EventStands q next
    one q h = let b = advances h.0 h.1 in subst (λ x. EventStands x next) (sym (b.only q h.2)) b.stands_for

-- the first of some lines was tried
pub Tried_advances : (lines : List (List ℕ)) (text octets : List ℕ) (r : Reading) (next : AuditInput) (front : Option ℕ) (written : Option (List ℕ))
    (held : List ℕ) → ReachesReading (reverse lines) r → text ≡ [] → IfSome front (IsAhead octets) →
    ((q : Reading) → ReachesReading (reverse lines) q → MatchOption front (EventStands q next) (λ count. AdvancesReading q (line_ahead octets count) next)) →
    Tried auditing (ReadingStands next) lines text octets written held written held front
Tried_advances lines text octets r next (Some count) written held reaches text_is ahead tries =
    (line_ahead octets count, ahead, Goes_advances lines text (line_ahead octets count) r next written held reaches text_is tries)
Tried_advances lines text octets r next None written held reaches text_is ahead tries = (tries, refl, refl)

-- a line that isn't accepted
pub StopsAt_halts : (lines : List (List ℕ)) (text line : List ℕ) (r : Reading) (written : Option (List ℕ)) (held : List ℕ) (stop : Stop) →
    ReachesReading (reverse lines) r → HaltsReading r line stop → StopsAt auditing lines text line written held written held stop
StopsAt_halts lines text line r written held WriteFault reaches h = absurd h
StopsAt_halts lines text line r written held OutOfMemory reaches h = ([], Hands_nil written held, inl refl)
StopsAt_halts lines text line r written held _ reaches h = (Hands_nil written held, (r, reaches, h))

reading_open : (q p : Progress) → reading_of q ≡ Scheduling p → IsEnded p → ⊥
reading_open Untitled p is e = let same : p ≡ Untitled = cc in subst (λ x. IsEnded x) same e
reading_open (Titled version) p is e = let same : p ≡ Titled version = cc in subst (λ x. IsEnded x) same e
reading_open (Drifted drift) p is e = let same : p ≡ Drifted drift = cc in subst (λ x. IsEnded x) same e
reading_open (Heading header) p is e = let same : p ≡ Heading header = cc in subst (λ x. IsEnded x) same e
reading_open (Running header events) p is e = let same : p ≡ Running header events = cc in subst (λ x. IsEnded x) same e
reading_open (Ended header events) p is e = let bad : ⊥ = cc in bad

-- a schedule whose last line wasn't read hasn't ended
pub Reaches_open : (lines : List (List ℕ)) (p : Progress) → ReachesReading lines (Scheduling p) → IsEnded p → ⊥
Reaches_open [] p is e = let same : p ≡ Untitled = cc in subst (λ x. IsEnded x) same e
Reaches_open (line ∷ before) p (Scheduling q, r, g) e = reading_open g.0 p (sym g.3) e
Reaches_open (line ∷ before) p (Claimed c, r, g) e = let is = g.5 in let bad : ⊥ = cc in bad

-- the input ends within the schedule
pub Ends_schedule : (lines : List (List ℕ)) (r : Reading) (held : AuditInput) (stage : Stage Listing) (cause : List ℕ) → held ≡ Schedule stage →
    ReachesReading (reverse lines) r → EventStands r held →
    ((p : Progress) → StageStands ListingStands p stage → ¬ IsEnded p → IsWanting (Scheduling p) cause) → IsWanting r cause
Ends_schedule lines (Scheduling p) held stage cause is reaches stands lacks = lacks p (subst (λ h. EventStands (Scheduling p) h) is stands)
    (λ e. Reaches_open (reverse lines) p reaches e)
Ends_schedule lines (Claimed c) held stage cause is reaches stands lacks = let bad : ⊥ = subst (λ h. EventStands (Claimed c) h) is stands in absurd bad

-- behind the schedule the input may not end, or nothing of the verdict was handed over
Stops_claims : (lines : List (List ℕ)) (c v : ClaimReaderValue) (written : Option (List ℕ)) (kept : List ℕ) (now : Option (List ℕ)) (keeps : List ℕ)
    (stop : Stop) → c ≡ v → ReachesReading (reverse lines) (Claimed v) → HaltsConcluding c written kept now keeps stop →
    StopsAtEnd auditing lines written kept now keeps stop
Stops_claims lines c v written kept now keeps (Bad cause) same reaches h = (h.0, (Claimed v, reaches, subst (λ x. IsWanting (Claimed x) cause) same h.1))
Stops_claims lines c v written kept now keeps Limit same reaches h = h
Stops_claims lines c v written kept now keeps _ same reaches h = ([], h, inl refl)

-- the input ends behind the schedule
pub Ends_claims : (lines : List (List ℕ)) (r : Reading) (held : AuditInput) (c : ClaimReaderValue) (written : Option (List ℕ)) (kept : List ℕ)
    (now : Option (List ℕ)) (keeps : List ℕ) (result : Result (Unit {0}) Stop) → held ≡ ClaimsOf c → ReachesReading (reverse lines) r → EventStands r held →
    MatchResult result (λ _. Concludes c written kept now keeps) (HaltsConcluding c written kept now keeps) →
    MatchResult result (λ _. Closes auditing lines written kept now keeps) (StopsAtEnd auditing lines written kept now keeps)
Ends_claims lines (Scheduling p) held c written kept now keeps result is reaches stands ends = let bad : ⊥ =
    subst (λ h. EventStands (Scheduling p) h) is stands in absurd bad
Ends_claims lines (Claimed v) held c written kept now keeps result is reaches stands ends =
    let same : c ≡ v = subst (λ h. EventStands (Claimed v) h) is stands in
    MatchResult_map result ends (λ _ a. (a.0, a.1, (Claimed v, reaches, subst (λ x. MayEnd (Claimed x) a.0) same a.2)))
    (λ stop h. Stops_claims lines c v written kept now keeps stop same reaches h)

-- for what a listing refuses an event is that for which the events before it do
pub refused_next_as : (header : HeaderValue) (events : List Event) (listing : Listing) (e : Event) → ListingStands header events listing →
    refusal_at listing.header listing.last (length listing.events.items) (up_in listing.up.items) e ≡ refused_next header events e
refused_next_as header events listing e s =
    let items = listing.events.items in
    let up = up_in listing.up.items in
    ap (λ (h : HeaderValue). refusal_at h listing.last (length items) up e) s.header_is
    ∙ (ap (λ (last : ℕ). refusal_at header last (length items) up e) s.last_is
    ∙ (ap (λ (n : ℕ). refusal_at header (last_at events) n up e) (ap (λ (es : List Event). length es) s.events_are ∙ length-reverse events)
    ∙ ap (λ (u : ℕ → Bool). refusal_at header (last_at events) (length events) u e) s.up_is))
