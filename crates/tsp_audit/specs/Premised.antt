-- Which premises a whole schedule keeps, of those that a verdict asks for. The newest event is the first.
use Rattle.std.specs.Prelude.{ℕ, ◌+◌, ◌==◌, Bool, true, false, not, ◌&&◌, List, [], ◌∷◌, Option, None, Some, slice_get}
use Rattle.std.specs.Prelude.{nat_le}
use Rattle.std.specs.List.{list_any}
use Rattle.tsp_audit.specs.declared.premises.Premises.{Premises}
use Rattle.tsp_rules.specs.Values.{Event, BootAt, Take, Bytes, Peer, LIFE}
use Rattle.tsp_base.specs.Words.{HeaderValue}
use Rattle.tsp_claims.specs.{ClaimedHistory.Claim, ClaimedHistory.events_of, ClaimedHistory.posts_of, declared.claimed.Claimed.Claimed}

-- whether an event hands a node octets as a peer's
abbrev pub forges : Event → Bool
forges (Bytes at node port (Peer p) octets) = true
forges _ = false

-- no event hands a node octets as a peer's
abbrev pub is_honest : List Event → Bool
is_honest [] = true
is_honest (e ∷ before) = not (forges e) && is_honest before

-- whether something comes at most LIFE, 30,000,000 microseconds of true time, after a claimed post; true where there
-- is none
abbrev pub in_life : ℕ → Option Claimed → Bool
in_life at None = true
in_life at (Some post) = nat_le at (post.at + LIFE)

-- whether an event takes no claimed post that is older than LIFE, whether or not something is claimed of the event
abbrev pub takes_early : List Claimed → Event → Bool
takes_early posts (Take at k) = in_life at (slice_get posts k)
takes_early posts _ = true

-- no event takes a post, claimed of an earlier event, that is older than LIFE
abbrev pub keeps_life : HeaderValue → List Claim → Bool
keeps_life header [] = true
keeps_life header (c ∷ before) = takes_early (posts_of header before) c.event && keeps_life header before

-- whether an event is a boot with this word
abbrev pub boots_with : ℕ → Event → Bool
boots_with w (BootAt at node word) = word == w
boots_with w _ = false

-- whether an event is a boot with the word of a boot among these
abbrev pub repeats_word : Event → List Event → Bool
repeats_word (BootAt at node word) events = list_any (boots_with word) events
repeats_word _ events = false

-- the words of any two boots differ
abbrev pub words_differ : List Event → Bool
words_differ [] = true
words_differ (e ∷ before) = not (repeats_word e before) && words_differ before

-- what the events, and what is claimed of them, keep
abbrev pub premises_of : HeaderValue → List Claim → Premises
premises_of header claims = record { honest = is_honest (events_of claims); life = keeps_life header claims; words = words_differ (events_of claims) }

-- which premises are kept with one event more, behind these events and these claimed posts
abbrev pub kept_with : Premises → List Event → List Claimed → Event → Premises
kept_with kept events posts e = record {
  honest = not (forges e) && kept.honest;
  life = takes_early posts e && kept.life;
  words = not (repeats_word e events) && kept.words;
}
