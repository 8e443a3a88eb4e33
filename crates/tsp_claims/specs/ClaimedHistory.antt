-- The history that claimed lines are: built as a run is, with the claimed acts in the place of those that the rules give. The newest claim is the first.
use Rattle.std.specs.Prelude.{ℕ, ◌+◌, Bool, true, false, ℤ, ◌+ℤ◌, if◌then◌else◌, List, [], ◌∷◌, ◌++◌, length, map, Option, None, Some, slice_get}
use Rattle.tsp_base.specs.declared.{act.Act.Act, act.Act.TheVariants.Post, act.Placed.Placed, event.Event.Event, place.Port.Port}
use Rattle.tsp_base.specs.declared.event.Event.TheVariants.{Boot as BootAt, Turn, Take, Bytes}
use Rattle.tsp_base.specs.Words.{HeaderValue, Turned, Came, Handed, Step, Line, of, dids, stepped, moved}
use Rattle.tsp_claims.specs.{Listed.booted, declared.claimed.Claimed.Claimed}
use Rattle.tsp_run.specs.declared.address.Address.{Address}
use Rattle.tsp_run.specs.{Networks.address_of, Networks.networks, Run.boot_step, Run.step_tick, Setup.node_line}

-- an event, and the acts that are claimed of it, in their order
pub record Claim : Type 0 where
  pub event : Event
  pub acts : List Placed

-- the events of claims
abbrev pub events_of : List Claim → List Event
events_of claims = map (λ c. c.event) claims

-- how many lines are claimed
abbrev pub lines_in : List Claim → ℕ
lines_in [] = 0
lines_in (c ∷ before) = lines_in before + length c.acts

-- where the datagram goes that an act of a node posts on a port, if it posts one
abbrev pub claimed_address : List (List ℕ) → ℕ → Port → Act → Option Address
claimed_address nets node port (Post to datagram) = address_of nets node port to
claimed_address nets node port _ = None

-- where a claimed post goes, if there is one
abbrev pub post_goes : List (List ℕ) → Option Claimed → Option Address
post_goes nets None = None
post_goes nets (Some post) = claimed_address nets post.node post.placed.port post.placed.act

-- an address whose node is up
abbrev pub awake : (ℕ → Bool) → Option Address → Option Address
awake up None = None
awake up (Some a) = if up a.node then Some a else None

-- who takes the claimed post k, if there is one: its addressee, if that is up
abbrev pub taker : HeaderValue → List Claimed → (ℕ → Bool) → ℕ → Option Address
taker header posts up k = awake up (post_goes (networks header) (slice_get posts k))

-- the step of a take of claimed post k, if somebody takes it
abbrev pub takes_step : ℕ → ℕ → Option Address → Option Step
takes_step at k None = None
takes_step at k (Some a) = Some (record { at = at; node = a.node; cause = Came k })

-- the step in which an event lets a node act, after these claimed posts, where these nodes are up; none at a take
-- where nobody takes the post
abbrev pub step_at : HeaderValue → List Claimed → (ℕ → Bool) → Event → Option Step
step_at header posts up (BootAt at node word) = Some (boot_step header at node word)
step_at header posts up (Turn at node) = Some (record { at = at; node = node; cause = Turned })
step_at header posts up (Take at k) = takes_step at k (taker header posts up k)
step_at header posts up (Bytes at node port from octets) = Some (record { at = at; node = node; cause = Handed })

-- whether acts that are claimed of an event make a step: those of a take do only where there are some
abbrev pub makes_step : Event → List Placed → Bool
makes_step (Take at k) [] = false
makes_step _ _ = true

-- the step of an event of which these acts are claimed, if there is one
abbrev pub step_of : HeaderValue → List Claimed → (ℕ → Bool) → Event → List Placed → Option Step
step_of header posts up e acts = if makes_step e acts then step_at header posts up e else None

-- the post that an act of a step claims, if it claims one
abbrev pub claims_post : ℕ → Step → Placed → Act → List Claimed
claims_post event step placed (Post to datagram) = record { event = event; at = step.at; node = step.node; placed = placed } ∷ []
claims_post event step placed _ = []

-- the posts that the acts of a step claim, in their order
abbrev pub posts_in : ℕ → Step → List Placed → List Claimed
posts_in event step [] = []
posts_in event step (p ∷ rest) = claims_post event step p p.act ++ posts_in event step rest

-- those of a step, if there is one
abbrev pub claims_of_step : ℕ → Option Step → List Placed → List Claimed
claims_of_step event None acts = []
claims_of_step event (Some step) acts = posts_in event step acts

-- the claimed posts, in their order
abbrev pub posts_of : HeaderValue → List Claim → List Claimed
posts_of header [] = []
posts_of header (c ∷ before) = posts_of header before ++ claims_of_step (length before + 1) (step_of header (posts_of header before) (booted (events_of before))
    c.event c.acts) c.acts

-- a history, and then a step with its mark and these acts; without a step nothing
abbrev pub joins_acts : HeaderValue → Option Step → List Placed → List Line → List Line
joins_acts header None acts history = history
joins_acts header (Some step) acts history = stepped step (step_tick header step) acts history

-- the claimed history
abbrev pub claimed : HeaderValue → List Claim → List Line
claimed header [] = []
claimed header (c ∷ before) = joins_acts header (step_of header (posts_of header before) (booted (events_of before)) c.event c.acts) c.acts
    (claimed header before)

-- what a node's clock shows more than its tick, in microseconds: its wall, and the amounts of its claimed Corrects
-- since its last Boot
abbrev pub base_of : HeaderValue → List Claim → ℕ → ℤ
base_of header claims n = (node_line header n).wall +ℤ moved (dids (of n (claimed header claims)))
