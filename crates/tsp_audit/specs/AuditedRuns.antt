-- What an audit says of a run's own trace, if that is claimed of its schedule. Lists have the newest event first.
use Rattle.std.specs.Prelude.{◌≡◌, ℕ, true, List, [], ◌∷◌, map, Option, None, Some}
use Rattle.tsp_audit.specs.declared.verdict.Verdict.TheVariants.{Holds}
use Rattle.tsp_audit.specs.{Premised.premises_of, Verdicts.IsVerdict, declared.verdict.Verdict.Verdict}
use Rattle.tsp_rules.specs.Values.{Event, Line2}
use Rattle.tsp_base.specs.Words.{HeaderValue, is_whole}
use Rattle.tsp_promises.specs.{Everywhere.Everywhere, Setting.Setting}
use Rattle.tsp_claims.specs.{ClaimedHistory.Claim, ClaimedHistory.claimed, Fitting.Fit, Stands.claim_of}
use Rattle.tsp_run.specs.{Ranges.Accepted, Run.gained, Run.run, Setting.SetBy, declared.line.Line.Line as ToldLine}

-- the number of a post, and 0 for any other act
abbrev pub number_or_zero : Option ℕ → ℕ
number_or_zero None = 0
number_or_zero (Some k) = k

-- a line of a run's trace, as a line of a text that claims one
abbrev pub traced : ToldLine → Line2
traced l = record { event = l.event; node = l.node; tick = l.tick; number = number_or_zero l.number; placed = l.placed }

-- the lines of the trace that the last event of a schedule adds
abbrev pub last_lines : HeaderValue → List Event → List Line2
last_lines header events = map traced (gained header events)

-- each event of a schedule, with the lines that the run's trace has of it, as claims
abbrev pub claims_of : HeaderValue → List Event → List Claim
claims_of header [] = []
claims_of header (e ∷ before) = claim_of e (last_lines header (e ∷ before)) ∷ claims_of header before

-- the history that a run's own trace claims is the run's history
abbrev pub RunsAreClaimed : Type 0
RunsAreClaimed = (header : HeaderValue) (events : List Event) → Accepted header events → claimed header (claims_of header events) ≡ run header events

-- the lines that a run's trace has of each event fit after those of the events before it, if the header is whole: it
-- names no networks, or each node is on one of them
abbrev pub RunsFitClaims : Type 0
RunsFitClaims = (header : HeaderValue) (events : List Event) → is_whole header ≡ true → Accepted header events →
    Everywhere (λ e before. Fit header (claims_of header before) e (last_lines header (e ∷ before))) events

-- the verdict on these claims is that all parts hold, and no other verdict is right
pub record Holding (setting : Setting) (header : HeaderValue) (claims : List Claim) : Type 0 where
  pub holds : IsVerdict (premises_of header claims) setting header claims Holds
  pub only : (v : Verdict) → IsVerdict (premises_of header claims) setting header claims v → v ≡ Holds

-- so it is of the trace of every accepted schedule's run, with the premises that the schedule keeps
abbrev pub RunsHold : Type 0
RunsHold = (header : HeaderValue) (setting : Setting) (events : List Event) → SetBy header setting → Accepted header events →
    Holding setting header (claims_of header events)
