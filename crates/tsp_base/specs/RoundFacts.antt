-- Facts of a port's rounds: who is measured, what was asked, and what came of it.
use Rattle.std.specs.Prelude.{ℕ, ◌+◌, ◌==◌, ℤ, ◌-ℤ◌, pos, int_lt, Bool, true, false, ◌&&◌, if◌then◌else◌, List, [], ◌∷◌, Option, None, Some, is_some}
use Rattle.tsp_base.specs.declared.act.Act.TheVariants.{Boot, Post, Become, Arm, Ring, Late, Leave, Sample, Abandon}
use Rattle.tsp_base.specs.declared.{alarm.Alarm.TheVariants.Probe, alarm.Alarm.TheVariants.Close, place.Place.TheVariants.Peer}
use Rattle.tsp_base.specs.declared.stamp.Stamp.TheVariants.{Request}
use Rattle.tsp_base.specs.History.{Deed, Begins, Acts, Seen, Here, Elsewhere, did_of, plain}
use Rattle.tsp_base.specs.{NodeFacts.target, PortFacts.armed, declared.datagram.Datagram.TheVariants.Stamp, declared.place.PeerId.PeerId}

-- whether a round goes on: its close is still to come
abbrev pub is_going : List Seen → Bool
is_going seen = is_some (armed seen).close

abbrev pub started_after : Deed → List Seen → List Seen → List Seen
started_after (Acts Boot) here was = []
started_after (Acts (Arm Close at)) here was = here
started_after _ here was = was

-- the place where the last round began, also after its end; empty where none began since the boot
abbrev pub started : List Seen → List Seen
started [] = []
started (Here d ∷ before) = started_after d.deed (Here d ∷ before) (started before)
started (Elsewhere d ∷ before) = started before

abbrev pub is_starting_after : Deed → Bool → Bool
is_starting_after Begins was = false
is_starting_after (Acts (Arm Close at)) was = true
is_starting_after _ was = was

-- whether a round has begun in this step
abbrev pub is_starting : List Seen → Bool
is_starting [] = false
is_starting (Here d ∷ before) = is_starting_after d.deed (is_starting before)
is_starting (Elsewhere d ∷ before) = is_starting before

abbrev pub is_measured_after : PeerId → Deed → Bool → Bool → Bool
is_measured_after p (Acts Boot) starts was = false
is_measured_after p (Acts (Become r)) starts was = false
is_measured_after p (Acts (Arm Close at)) starts was = false
is_measured_after p (Acts (Post (Peer q) (Stamp (Request word counter)))) starts was = if (q.0 == p.0) && starts then true else was
is_measured_after p (Acts (Leave q)) starts was = if q.0 == p.0 then false else was
is_measured_after p _ starts was = was

-- whether p is measured: it got a request in the step in which the round began, and didn't leave since
abbrev pub is_measured : PeerId → List Seen → Bool
is_measured p [] = false
is_measured p (Here d ∷ before) = is_measured_after p d.deed (is_starting before) (is_measured p before)
is_measured p (Elsewhere d ∷ before) = is_measured p before

abbrev pub asked_after : Deed → ℕ → ℕ
asked_after (Acts Boot) n = 0
asked_after (Acts (Post to (Stamp (Request word counter)))) n = n + 1
asked_after _ n = n

-- how many stamp requests were posted since the boot; the next one's counter is this, modulo 2^64
abbrev pub asked : List Seen → ℕ
asked [] = 0
asked (Here d ∷ before) = asked_after d.deed (asked before)
asked (Elsewhere d ∷ before) = asked before

abbrev pub exchange_after : PeerId → ℕ → Deed → List Seen → List Seen → List Seen
exchange_after p c (Acts Boot) here was = []
exchange_after p c (Acts (Become r)) here was = []
exchange_after p c (Acts (Arm Close at)) here was = []
exchange_after p c (Acts (Ring Close)) here was = []
exchange_after p c (Acts (Late Close)) here was = []
exchange_after p c (Acts Abandon) here was = []
exchange_after p c (Acts (Post (Peer q) (Stamp (Request word counter)))) here was = if (q.0 == p.0) && (counter == c) then here else was
exchange_after p c (Acts (Sample q counter diff err ticket)) here was = if (q.0 == p.0) && (counter == c) then [] else was
exchange_after p c _ here was = was

-- the open exchange with p under this counter: the place of its request, which was posted in the going round and isn't answered; empty where there is none
abbrev pub exchange : PeerId → ℕ → List Seen → List Seen
exchange p c [] = []
exchange p c (Here d ∷ before) = exchange_after p c d.deed (Here d ∷ before) (exchange p c before)
exchange p c (Elsewhere d ∷ before) = exchange p c before

abbrev pub word_asked_by : Deed → ℕ
word_asked_by (Acts (Post to (Stamp (Request word counter)))) = word
word_asked_by _ = 0

-- the word of the request that is posted at a place
abbrev pub word_asked : List Seen → ℕ
word_asked [] = 0
word_asked (s ∷ before) = word_asked_by (did_of s).deed

abbrev pub probes_after : Deed → ℕ → ℕ
probes_after (Acts Boot) n = 0
probes_after (Acts (Become r)) n = 0
probes_after (Acts (Arm Close at)) n = 0
probes_after (Acts (Ring Probe)) n = n + 1
probes_after _ n = n

-- how often Probe rang since the last round began
abbrev pub probes : List Seen → ℕ
probes [] = 0
probes (Here d ∷ before) = probes_after d.deed (probes before)
probes (Elsewhere d ∷ before) = probes before

-- the clock's target when the deed at a place was done
abbrev pub target_there : List Seen → ℤ
target_there [] = pos 0
target_there (s ∷ before) = target (plain before) (did_of s).tick

-- a sample of a peer: what it says, the round trip that it took, and its place
pub record Sampled : Type 0 where
  pub counter : ℕ
  pub diff : ℤ
  pub err : ℤ
  pub ticket : ℕ
  pub trip : ℤ
  pub place : List Seen

-- of two samples the one with the shorter round trip; the earlier where they are equal
abbrev pub better : Option Sampled → Sampled → Sampled
better None late = late
better (Some early) late = if int_lt late.trip early.trip then late else early

abbrev pub best_after : PeerId → Deed → List Seen → List Seen → Option Sampled → Option Sampled
best_after p (Acts Boot) here before was = None
best_after p (Acts (Become r)) here before was = None
best_after p (Acts (Arm Close at)) here before was = None
best_after p (Acts (Sample q counter diff err ticket)) here before was =
    if q.0 == p.0
    then Some (better was (record {
      counter = counter;
      diff = diff;
      err = err;
      ticket = ticket;
      trip = target_there here -ℤ target_there (exchange p counter before);
      place = here;
    }))
    else was
best_after p _ here before was = was

-- the best sample of p since the last round began: the first with the shortest round trip
abbrev pub best : PeerId → List Seen → Option Sampled
best p [] = None
best p (Here d ∷ before) = best_after p d.deed (Here d ∷ before) before (best p before)
best p (Elsewhere d ∷ before) = best p before

-- what an open exchange's answer is measured against: the word of the request, and the clock's target when it was posted
pub record OpenRequest : Type 0 where
  pub word : ℕ
  pub target : ℤ

abbrev pub request_at_place : List Seen → Option OpenRequest
request_at_place [] = None
request_at_place (s ∷ before) = Some (record { word = word_asked (s ∷ before); target = target_there (s ∷ before) })

-- the open exchange with p under this counter
abbrev pub request_open : PeerId → ℕ → List Seen → Option OpenRequest
request_open p c seen = request_at_place (exchange p c seen)

-- how far a peer's clock is ahead, and the ticket that came with its reading
pub record Estimate : Type 0 where
  pub diff : ℤ
  pub ticket : ℕ

abbrev pub estimate_of : Option Sampled → Option Estimate
estimate_of None = None
estimate_of (Some s) = Some (record { diff = s.diff; ticket = s.ticket })

-- what the best sample of p says
abbrev pub estimate : PeerId → List Seen → Option Estimate
estimate p seen = estimate_of (best p seen)
