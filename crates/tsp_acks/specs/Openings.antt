-- Which call begins which kind of send, of which kind the open one is, and what answers it.
use Rattle.std.specs.Prelude.{ℕ, Bool, true, false, Option, None, Some}
use Rattle.tsp_rules.specs.{SendRows.has_election, SendRows.has_other, SendRows.is_kind_election, SendRows.ends_by_ack, DateRows.has_date}
use Rattle.tsp_rules.specs.Values.{Kind, Conflict, Election, QuitKind, PeerId}
use Rattle.tsp_base.specs.Words.{Past, is_set_date_request}
use Rattle.tsp_acks.specs.declared.ends.Answer.{Answer, TheVariants.Vote, TheVariants.Date, TheVariants.Ack}

-- whether a send of this kind has the port's own next number and carries nothing else
abbrev pub is_bare_send : Kind → Bool
is_bare_send Election = true
is_bare_send Conflict = true
is_bare_send QuitKind = true
is_bare_send _ = false

-- whether a send is open and its kind passes this test
abbrev pub is_of : (Kind → Bool) → Option Kind → Bool
is_of test None = false
is_of test (Some k) = test k

-- whether such an answer ends a send of this kind
abbrev pub answered_by : Answer → Kind → Bool
answered_by Vote = is_kind_election
answered_by Date = is_set_date_request
answered_by Ack = ends_by_ack

-- whether the open send to a peer has this number and is of a kind that such an answer ends
abbrev pub has_open : Answer → PeerId → ℕ → ℕ → Past → Bool
has_open Vote = has_election
has_open Date = has_date
has_open Ack = has_other
