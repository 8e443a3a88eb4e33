-- From what the words ask for, and from how a daemon or a question ends, to how the program does.
use Rattle.std.proofs.Common.{sym, ◌∙◌, inl, inr, subst, refl, ap, arith, ◌≡◌, ◌≢◌, ◌⊎◌, ◌≤◌, ℕ, ℤ, true, false, List, [], Option, None, Some, IfSome}
use Rattle.std.proofs.Common.{MatchOption}
use Rattle.tsp_query.specs.declared.exit.QueryExit.TheVariants.{Answered, NoAnswer as Unanswered, LinkFault as NotAsked, WriteFault as Untold}
use Rattle.tsp_query.specs.declared.exit.QueryExit.TheVariants.{OutOfMemory as Unasked}
use Rattle.tsp_query.specs.{Asks.AsksAs, Ends.Outside, Faults.Counts, Outside.Observed, Outside.Knows, declared.exit.QueryExit.QueryExit}
use Rattle.tsp_io.specs.{Counts.Rose, declared.addr.Addr.Addr, declared.link.Link.Ghosts as LinkOf}
use Rattle.tsp_lines.proofs.Outputs.{Grows_nil}
use Rattle.tsp_query.proofs.AskLemmas.{of_some}
use Rattle.tsp_rules.specs.Guards.{is_clock_value}
use Rattle.tsp_storm.specs.declared.run.StormEnd.{StormEnd}
use Rattle.tsp_storm.specs.declared.run.StormEnd.TheVariants.{Done as Summed, WriteFault as Unsaid, OutOfMemory as Unmade}
use Rattle.tsp_storm.specs.Answers.{IsStormAnswer, AgreesWithAnswer, HasEventRoom, StormsAs}
use Rattle.tsp_daemon.specs.declared.exit.DaemonExit.TheVariants.{Done as AllTurns, BadWall, LinkFault as NotHeard, WriteFault as NotShown}
use Rattle.tsp_daemon.specs.declared.exit.DaemonExit.TheVariants.{OutOfMemory as Unserved}
use Rattle.tsp_daemon.specs.{Serving.ServesAs, declared.exit.DaemonExit.DaemonExit}
use Rattle.tsp_args.specs.{Commands.words_of, Commands.IsCommand, Commands.IsNoCommand, declared.command.Command.Command}
use Rattle.tsp_args.specs.declared.command.Command.TheVariants.{Replay, Serve, Ask, Storm}
use Rattle.tsp_args.specs.declared.{query.Query.Query, serve.ServeWords.ServeWords, storm.StormWords.StormWords}
use Rattle.tsp_cli.specs.declared.status.Status.TheVariants.{Ok, Usage, ReadFault, WriteFault, LinkFault, NoAnswer, OutOfMemory}
use Rattle.tsp_cli.specs.Commands.{Now, Does, IsAsk, IsQuestion, LinkFaults, Untouched, RunsDaemon, RunsQuery, RunsStorm}
use Rattle.tsp_cli.specs.{Headline.PrintsHistory, Headline.PrintsSoFar, Lines.Says, Usage.usage_line, declared.status.Status.Status}
use Rattle.tsp_cli.specs.Statuses.{status_of_served, status_of_asking, status_of_storm}
use Rattle.tsp_cli.proofs.{HeadlineLemmas.EndsAs_prints, SoFarLemmas.EndsAs_so_far}

-- a command that is left as it is leaves all objects
pub Untouched_same : {S L T : Type 0} (c : Command) (source : S) (link : L) (ticker : T) → Untouched c source source link link ticker ticker
Untouched_same (Serve s) source link ticker = refl
Untouched_same (Ask a q) source link ticker = refl
Untouched_same (Storm s) source link ticker = (refl, refl, refl)
Untouched_same _ source link ticker = (refl, refl)

-- nothing was written of the words of a wrong use, for lack of memory
pub Says_nothing : (written : Option (List ℕ)) → Says usage_line Usage written written OutOfMemory
Says_nothing written = inr (inr refl, ([], usage_line, omega arith, refl, Grows_nil written))

-- a daemon's status is never a failed read's nor a wrong use's; it ends by its link or by a write only where its session did
pub served_by : (s : DaemonExit) → (status_of_served s ≡ ReadFault → ⊥) × (status_of_served s ≡ Usage → ⊥) ×
    (status_of_served s ≡ LinkFault → s ≡ NotHeard) × (status_of_served s ≡ WriteFault → s ≡ NotShown)
served_by NotHeard = ((λ e. cc), (λ e. cc), (λ e. refl), (λ e. cc))
served_by NotShown = ((λ e. cc), (λ e. cc), (λ e. cc), (λ e. refl))
served_by _ = ((λ e. cc), (λ e. cc), (λ e. cc), (λ e. cc))

served_complete : (s : DaemonExit) (links links_now writes writes_now : ℕ) (told : Option ℤ) (wall : ℤ) →
    (s ≡ BadWall → IfSome told (λ w. is_clock_value w ≡ false)) → (s ≡ NotHeard → Rose links links_now) → (s ≡ NotShown → Rose writes writes_now)
    → told ≡ Some wall → is_clock_value wall ≡ true → ¬ Rose links links_now → ¬ Rose writes writes_now → (status_of_served s ≡ Ok) ⊎
    (status_of_served s ≡ OutOfMemory)
served_complete AllTurns links links_now writes writes_now told wall bad heard shown is within l w = inl refl
served_complete BadWall links links_now writes writes_now told wall bad heard shown is within l w =
    let out : is_clock_value wall ≡ false = of_some (λ (x : ℤ). is_clock_value x ≡ false) told wall (bad refl) is in
    let apart : true ≡ false = sym within ∙ out in
    absurd (cc)
served_complete NotHeard links links_now writes writes_now told wall bad heard shown is within l w = absurd (l (heard refl))
served_complete NotShown links links_now writes writes_now told wall bad heard shown is within l w = absurd (w (shown refl))
served_complete Unserved links links_now writes writes_now told wall bad heard shown is within l w = inr refl

-- from how a daemon ends, to how the program does
pub RunsDaemon_served : (s : ServeWords) (old new : Observed) (links links_now writes writes_now : ℕ) (served : DaemonExit) (status : Status) → status ≡
    status_of_served served
    → ((o : Outside) (wall : ℤ) (word : ℕ) (written : List ℕ) → Knows o wall word written old → ServesAs s o wall word written old new served)
    → (served ≡ BadWall → IfSome old.wall (λ w. is_clock_value w ≡ false)) → (served ≡ NotHeard → Rose links links_now) →
    (served ≡ NotShown → Rose writes writes_now)
    → RunsDaemon s old new links links_now writes writes_now status
RunsDaemon_served s old new links links_now writes writes_now served status e serves bad heard shown = record {
  served = served;
  status_is = e;
  serves = serves;
  complete = λ wall is within l w. subst (λ (x : Status). (x ≡ Ok) ⊎ (x ≡ OutOfMemory)) (sym e) (served_complete served links links_now writes writes_now
      old.wall wall bad heard shown is within l w);
}

-- a question's status is never a failed read's nor a wrong use's; it ends by its link only where asking did, and by a write only
-- where its line's did
pub asking_by : (a : QueryExit) → (status_of_asking a ≡ ReadFault → ⊥) × (status_of_asking a ≡ Usage → ⊥) ×
    (status_of_asking a ≡ LinkFault → a ≡ NotAsked) × (status_of_asking a ≡ WriteFault → a ≡ Untold)
asking_by NotAsked = ((λ e. cc), (λ e. cc), (λ e. refl), (λ e. cc))
asking_by Untold = ((λ e. cc), (λ e. cc), (λ e. cc), (λ e. refl))
asking_by _ = ((λ e. cc), (λ e. cc), (λ e. cc), (λ e. cc))

asking_complete : (a : QueryExit) (links links_now sends sends_now writes writes_now : ℕ) → (a ≡ NotAsked → Rose links links_now ⊎ Rose sends sends_now) →
    (a ≡ Untold → Rose writes writes_now)
    → ¬ Rose links links_now → ¬ Rose sends sends_now → ¬ Rose writes writes_now → (status_of_asking a ≡ Ok) ⊎ (status_of_asking a ≡ NoAnswer) ⊎
    (status_of_asking a ≡ OutOfMemory)
asking_complete Answered links links_now sends sends_now writes writes_now asked told l s w = inl refl
asking_complete Unanswered links links_now sends sends_now writes writes_now asked told l s w = inr (inl refl)
asking_complete NotAsked links links_now sends sends_now writes writes_now asked told l s w = absurd (elim (asked refl) [ inl r ↦ l r | inr r ↦ s r ])
asking_complete Untold links links_now sends sends_now writes writes_now asked told l s w = absurd (w (told refl))
asking_complete Unasked links links_now sends sends_now writes writes_now asked told l s w = inr (inr refl)

-- from how a question ends, to how the program does
pub RunsQuery_asked : (daemon : Addr) (q : Query) (old new : Observed) (links links_now sends sends_now writes writes_now : ℕ) (asking : QueryExit)
    (status : Status) → status ≡ status_of_asking asking
    → ((o : Outside) (wall : ℤ) (word : ℕ) (written : List ℕ) → Knows o wall word written old →
    AsksAs daemon q o wall word written old new sends sends_now asking)
    → (asking ≡ NotAsked → Rose links links_now ⊎ Rose sends sends_now) → (asking ≡ Untold → Rose writes writes_now)
    → RunsQuery daemon q old new links links_now sends sends_now writes writes_now status
RunsQuery_asked daemon q old new links links_now sends sends_now writes writes_now asking status e asks asked told = record {
  asking = asking;
  status_is = e;
  asks = asks;
  complete = λ l s w. subst (λ (x : Status). (x ≡ Ok) ⊎ (x ≡ NoAnswer) ⊎ (x ≡ OutOfMemory)) (sym e) (asking_complete asking links links_now sends sends_now
      writes writes_now asked told l s w);
}

-- a storm's status is none of a source's, a wrong use's or a link's; it ends by a write only where its summary or its limit
-- wasn't written
pub storm_by : (e : StormEnd) → (status_of_storm e ≡ ReadFault → ⊥) × (status_of_storm e ≡ Usage → ⊥) × (status_of_storm e ≡ LinkFault → ⊥) ×
    (status_of_storm e ≡ WriteFault → e ≡ Unsaid)
storm_by Unsaid = ((λ e. cc), (λ e. cc), (λ e. cc), (λ e. refl))
storm_by _ = ((λ e. cc), (λ e. cc), (λ e. cc), (λ e. cc))

storm_ends : (e : StormEnd) → (e ≡ Summed) ⊎ (e ≡ Unmade) → (status_of_storm e ≡ Ok) ⊎ (status_of_storm e ≡ OutOfMemory)
storm_ends e h = elim h [ inl s ↦ inl (ap (λ (x : StormEnd). status_of_storm x) s) | inr s ↦ inr (ap (λ (x : StormEnd). status_of_storm x) s) ]

-- from how a storm ends, to how the program does
pub RunsStorm_ended : (s : StormWords) (written now : Option (List ℕ)) (writes writes_now : ℕ) (end : StormEnd) (status : Status) → status ≡ status_of_storm end
    → StormsAs s written now end → ((e : StormEnd) (text : List ℕ) → IsStormAnswer s e text → AgreesWithAnswer e text written now end)
    → (HasEventRoom s → ¬ Rose writes writes_now → (end ≡ Summed) ⊎ (end ≡ Unmade)) → RunsStorm s written now writes writes_now status
RunsStorm_ended s written now writes writes_now end status e storms answers complete = record {
  end = end;
  status_is = e;
  storms = storms;
  answers = answers;
  complete = λ room w. subst (λ (x : Status). (x ≡ Ok) ⊎ (x ≡ OutOfMemory)) (sym e) (storm_ends end (complete room w));
}

-- words are one command's
pub command_same : (x : Option Command) (d c : Command) → x ≡ Some d → x ≡ Some c → d ≡ c
command_same x d c p q = cc

-- what a command does, the same command does
pub does_as : (d c : Command) (old new : Now) (status : Status) → d ≡ c → Does d old new status → Does c old new status
does_as d c old new status e does = subst (λ (x : Command). Does x old new status) e does

-- what a command leaves as it is, the same command leaves
pub untouched_as : {S L T : Type 0} (d c : Command) (source source_now : S) (link link_now : L) (ticker ticker_now : T) → d ≡ c →
    Untouched d source source_now link link_now ticker ticker_now → Untouched c source source_now link link_now ticker ticker_now
untouched_as d c source source_now link link_now ticker ticker_now e h = subst (λ (x : Command). Untouched x source source_now link link_now ticker ticker_now)
    e h

-- what is said of a command that was read
pub command_read : (x : Option Command) (d : Command) (words : List (List ℕ)) → x ≡ Some d → MatchOption x (IsNoCommand words) (λ c. IsCommand c ×
    (words ≡ words_of c)) → IsCommand d × (words ≡ words_of d)
command_read x d words e h = subst (λ (y : Option Command). MatchOption y (IsNoCommand words) (λ c. IsCommand c × (words ≡ words_of c))) e h

-- no command was read
pub command_none : (x : Option Command) (words : List (List ℕ)) → x ≡ None → MatchOption x (IsNoCommand words) (λ c. IsCommand c × (words ≡ words_of c)) →
    IsNoCommand words
command_none x words e h = subst (λ (y : Option Command). MatchOption y (IsNoCommand words) (λ c. IsCommand c × (words ≡ words_of c))) e h

-- a replay that ends well prints a history
pub Replay_prints : (d : Command) (old new : Now) (status : Status) → d ≡ Replay → Does d old new status → status ≡ Ok →
    PrintsHistory old.left new.left old.told.written new.told.written
Replay_prints d old new status e does ok =
    EndsAs_prints _ _ _ _ status (does_as d Replay old new status e does).ends ok

-- and any other prints as much of one as its status says
pub Replay_so_far : (d : Command) (old new : Now) (status : Status) → d ≡ Replay → Does d old new status →
    PrintsSoFar old.left old.told.written new.told.written status
Replay_so_far d old new status e does = EndsAs_so_far _ new.left _ _ status (does_as d Replay old new status e does).ends

-- the link of a command is that of the words that ask for it
pub words_link : {L : Type 0} (links : LinkOf L) (before now : L) (fault : Type 0) (words : List (List ℕ)) (d : Command) → IsCommand d × (words ≡ words_of d) →
    LinkFaults links before now fault (IsAsk d) → LinkFaults links before now fault (IsQuestion words)
words_link links before now fault words d read c = record {
  later = c.later;
  cause = λ e. elim (c.cause e) [ inl r ↦ inl r | inr r ↦ inr ((d, r.0, read.0, read.1), r.1) ];
  still = c.still;
}

-- the words of a wrong use are no read and no link
pub said_unread : (written now : Option (List ℕ)) (status : Status) → Says usage_line Usage written now status → status ≡ ReadFault → ⊥
said_unread written now status says e = elim says [ inl done ↦ (let is = done.0 in cc) | inr cut ↦ elim cut.0 [ inl fault ↦ cc | inr memory ↦ cc ] ]

pub said_unlinked : (written now : Option (List ℕ)) (status : Status) → Says usage_line Usage written now status → status ≡ LinkFault → ⊥
said_unlinked written now status says e = elim says [ inl done ↦ (let is = done.0 in cc) | inr cut ↦ elim cut.0 [ inl fault ↦ cc | inr memory ↦ cc ] ]

-- the count of failed writes, where such words are written
pub said_counts : (status : Status) (before now : ℕ) → before ≤ now → (status ≡ WriteFault → (Usage ≡ WriteFault) ⊎ Rose before now) →
    (status ≢ WriteFault → now ≡ before) → Counts before now (status ≡ WriteFault)
said_counts status before now later write still = record { later = later; cause = λ e. elim (write e) [ inl wrong ↦ cc | inr r ↦ r ]; still = still }
