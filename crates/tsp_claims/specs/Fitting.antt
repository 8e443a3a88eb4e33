-- When claimed lines fit their schedule, line by line.
use Rattle.std.specs.Prelude.{◌≡◌, ℕ, zero, suc, ◌+◌, ◌<◌, Bool, true, false, not, ◌&&◌, ◌||◌, List, [], ◌∷◌, length, map, Option, None, Some, slice_get}
use Rattle.tsp_base.specs.declared.{act.Act.TheVariants.Boot, act.Act.TheVariants.Took, act.Act.TheVariants.Post, datagram.Taken.Taken}
use Rattle.tsp_base.specs.declared.{datagram.Taken.TheVariants.Good, event.Event.Event, place.Place.Place, place.Place.TheVariants.Peer}
use Rattle.tsp_base.specs.declared.event.Event.TheVariants.{Boot as BootAt, Turn, Take, Bytes}
use Rattle.tsp_base.specs.declared.{place.Port.Port, trace.Line2.Line2}
use Rattle.tsp_base.specs.{Words.HeaderValue, Words.Step, Words.peer_of, declared.act.Act.Act, declared.act.Placed.Placed}
use Rattle.tsp_claims.specs.ClaimedHistory.{Claim, events_of, posts_of, step_at, taker}
use Rattle.tsp_claims.specs.{Listed.booted, declared.claimed.Claimed.Claimed, declared.tally.Tally.Tally}
use Rattle.tsp_run.specs.{Networks.networks, Networks.ports_on, Run.posts_by, Run.step_tick, declared.address.Address.Address}

-- whether an act is a Took
abbrev pub is_took : Act → Bool
is_took (Took from taken) = true
is_took _ = false

-- no line of an event so far
abbrev pub untold : Tally
untold = record { begun = false; posts = 0; took = false }

-- what the lines of an event come to, with one more
abbrev pub counted : Tally → Act → Tally
counted t a = record { begun = true; posts = t.posts + posts_by a; took = t.took || is_took a }

-- a post has the number that is next; another act may have any
abbrev pub NumberFits : ℕ → Act → ℕ → Type 0
NumberFits next (Post to datagram) number = number ≡ next
NumberFits next _ number = Unit {0}

-- what was taken is the datagram that this act posted
abbrev pub IsPosted : Act → Taken → Type 0
IsPosted (Post to datagram) taken = taken ≡ Good datagram
IsPosted _ taken = ⊥

-- what was taken on a port, as from somebody, is this claimed post at this address
abbrev pub TakesClaimedPost : Option Claimed → Option Address → Port → Place → Taken → Type 0
TakesClaimedPost (Some post) (Some a) port from taken = (port ≡ a.port) × (from ≡ Peer (peer_of post.node)) × IsPosted post.placed.act taken
TakesClaimedPost _ _ port from taken = ⊥

-- what was taken on a port, as from somebody, is what the event brings: octets on its port from its sender, or the datagram that it takes
abbrev pub TakingFits : HeaderValue → List Claimed → (ℕ → Bool) → Event → Port → Place → Taken → Type 0
TakingFits header posts up (BootAt at node word) port from taken = ⊥
TakingFits header posts up (Turn at node) port from taken = ⊥
TakingFits header posts up (Take at k) port from taken = TakesClaimedPost (slice_get posts k) (taker header posts up k) port from taken
TakingFits header posts up (Bytes at node on_port sender octets) port from taken = (port ≡ on_port) × (from ≡ sender)

-- whether an event is a boot
abbrev pub begins_with_boot : Event → Bool
begins_with_boot (BootAt at node word) = true
begins_with_boot _ = false

-- whether the next line of an event must be a Boot: it is the first line of a boot
abbrev pub wants_boot : Event → Tally → Bool
wants_boot e t = begins_with_boot e && not t.begun

-- an act may stand next in its event on a port: a Boot exactly where the event wants one, and on port 0; a Took as the first one, of what the event brings
abbrev pub ActMayStand : HeaderValue → List Claimed → (ℕ → Bool) → Event → Tally → Port → Act → Type 0
ActMayStand header posts up e t port Boot = (wants_boot e t ≡ true) × (port.0 ≡ 0)
ActMayStand header posts up e t port (Took from taken) = (wants_boot e t ≡ false) × (t.took ≡ false) × TakingFits header posts up e port from taken
ActMayStand header posts up e t port _ = wants_boot e t ≡ false

-- a line fits as the next one of the event with this number, in this step, behind those that were counted
pub record LineMayStand (header : HeaderValue) (posts : List Claimed) (up : ℕ → Bool) (number : ℕ) (e : Event) (t : Tally) (step : Step) (l : Line2) : Type 0
  where
    pub event : l.event ≡ number
    pub node : l.node ≡ step.node
    pub tick : l.tick ≡ step_tick header step
    pub port : l.placed.port.0 < length (ports_on step.node (networks header))
    pub number_fits : NumberFits (length posts + t.posts) l.placed.act l.number
    pub act : ActMayStand header posts up e t l.placed.port l.placed.act

-- the same, where the event lets somebody act; where it doesn't no line fits
abbrev pub LineFitsIn : HeaderValue → List Claimed → (ℕ → Bool) → ℕ → Event → Tally → Option Step → Line2 → Type 0
LineFitsIn header posts up number e t None l = ⊥
LineFitsIn header posts up number e t (Some step) l = LineMayStand header posts up number e t step l

-- a line fits as the next one of the event with this number, behind those that were counted, after these claimed posts, where these nodes are up
abbrev pub FitsAfter : HeaderValue → List Claimed → (ℕ → Bool) → ℕ → Event → Tally → Line2 → Type 0
FitsAfter header posts up number e t l = LineFitsIn header posts up number e t (step_at header posts up e) l

-- a line fits after these claims as the next one of an event, behind those that were counted
abbrev pub FitsNext : HeaderValue → List Claim → Event → Tally → Line2 → Type 0
FitsNext header before = FitsAfter header (posts_of header before) (booted (events_of before)) (length before + 1)

-- whether an event whose lines were counted lacks what it needs: a boot its Boot, and octets, or a take that has lines, the Took
abbrev pub lacks : Event → Tally → Bool
lacks (BootAt at node word) t = not t.begun
lacks (Turn at node) t = false
lacks (Take at k) t = t.begun && not t.took
lacks (Bytes at node port from octets) t = not t.took

-- these lines fit as the next ones of an event, behind those that were counted, and then it lacks nothing; `fits`
-- says when one line does
abbrev pub AllFit : (Event → Tally → Line2 → Type 0) → Event → Tally → List Line2 → Type 0
AllFit fits e t [] = lacks e t ≡ false
AllFit fits e t (l ∷ rest) = fits e t l × AllFit fits e (counted t l.placed.act) rest

-- the i-th of these lines is the first that doesn't fit; or all fit, i is their number, and the event lacks something
abbrev pub Misfits : (Event → Tally → Line2 → Type 0) → Event → Tally → List Line2 → ℕ → Type 0
Misfits fits e t [] i = (lacks e t ≡ true) × (i ≡ 0)
Misfits fits e t (l ∷ rest) zero = ¬ fits e t l
Misfits fits e t (l ∷ rest) (suc i) = fits e t l × Misfits fits e (counted t l.placed.act) rest i

-- the lines of an event fit after these claims
abbrev pub Fit : HeaderValue → List Claim → Event → List Line2 → Type 0
Fit header before e lines = AllFit (FitsNext header before) e untold lines

-- the i-th of the lines of an event is the first that doesn't fit after these claims; or i is their number, and the event lacks something
abbrev pub Misfit : HeaderValue → List Claim → Event → List Line2 → ℕ → Type 0
Misfit header before e lines i = Misfits (FitsNext header before) e untold lines i

-- the acts of lines
abbrev pub acts_of : List Line2 → List Placed
acts_of lines = map (λ l. l.placed) lines
