-- What ends a candidate's send.
use Rattle.std.specs.Prelude.{◌≡◌, ◌⊎◌, ℕ, List, ◌∷◌}
use Rattle.tsp_rules.specs.Values.{Accept, Acked, Election, Event, Message, PeerId, Peer, Port, Post, Refuse}
use Rattle.tsp_base.specs.Words.{Acts, Deed, Did, HeaderValue, Here, Line, MessageValue, Receives, Seen, of, open_to, view}
use Rattle.tsp_run.specs.{Clocked.Clocks, Clocked.run_by, Run.run}
use Rattle.tsp_progress.specs.GivenUp.{Owes}

-- the step has taken an ACCEPT or a REFUSE of p with this number
pub record Decided (p : PeerId) (number : ℕ) (before : List Seen) : Type 0 where
  pub answer : MessageValue
  pub took : Receives before p (Message answer)
  pub kind : (answer.kind ≡ Accept) ⊎ (answer.kind ≡ Refuse)
  pub number_is : answer.number ≡ number

-- what an Acked owes that ends an ELECTION
abbrev pub DecidedFits : Deed → Did → List Seen → Type 0
DecidedFits (Acts (Acked p)) here before = (first : Did) (older : List Seen) (m : MessageValue) → open_to p before ≡ Here first ∷ older → first.deed ≡
    Acts (Post (Peer p) (Message m)) → m.kind ≡ Election → Decided p m.number before
DecidedFits _ here before = Unit {0}

-- so it is on each port of each node
abbrev pub AllDecided : List Line → Type 0
AllDecided world = (n : ℕ) (q : Port) → Owes DecidedFits (view q (of n world))

abbrev pub RunsDecide : Type 0
RunsDecide = (header : HeaderValue) (events : List Event) → AllDecided (run header events)

abbrev pub ClockedRunsDecide : Type 0
ClockedRunsDecide = (clocks : Clocks) (header : HeaderValue) (events : List Event) → AllDecided (run_by clocks header events)
