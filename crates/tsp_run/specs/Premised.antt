-- The premises of the promises, as statements about the text of a schedule, its header and its events, newest first; and,
-- where they ask what was posted, about its trace too.
use Rattle.std.specs.Prelude.{◌≡◌, ◌≢◌, ◌<◌, ◌≤◌, nat_le, ℕ, ◌+◌, if◌then◌else◌, List, [], ◌∷◌, length, Some, slice_get}
use Rattle.tsp_rules.specs.Values.{Boot, Post, Message, Event, BootAt, Take, Bytes, Peer, LIFE}
use Rattle.tsp_base.specs.Words.{HeaderValue, Acts, Deed, Line, Seen, Here, Elsewhere, of, view}
use Rattle.tsp_promises.specs.{Everywhere.Everywhere, Fits.node_of, Setting.Setting}
use Rattle.tsp_promises.specs.Premises.{Few, Honest, Life, NamesApart, OwnWords, Words}
use Rattle.tsp_run.specs.declared.posted.Posted.{Posted}
use Rattle.tsp_run.specs.{Possible.Possible, Ranges.Accepted, Run.posts, Run.run, Setting.SetBy, Setup.node_line}

-- an event isn't a `bytes` whose octets seem to come from a peer
abbrev pub IsSealed : Event → Type 0
IsSealed (Bytes at node port (Peer p) octets) = ⊥
IsSealed _ = Unit {0}

-- no `bytes` event has a peer as its sender
abbrev pub Sealed : List Event → Type 0
Sealed [] = Unit {0}
Sealed (e ∷ before) = IsSealed e × Sealed before

-- an event isn't a `take` of a datagram that was posted more than LIFE (30 s of true time) before it
abbrev pub IsPrompt : HeaderValue → List Event → Event → Type 0
IsPrompt header before (Take at k) = (p : Posted) → slice_get (posts (run header before)) k ≡ Some p → at ≤ p.at + LIFE
IsPrompt header before _ = Unit {0}

-- no `take` comes more than LIFE after the event that posted its datagram
abbrev pub Prompt : HeaderValue → List Event → Type 0
Prompt header [] = Unit {0}
Prompt header (e ∷ before) = IsPrompt header before e × Prompt header before

-- an event isn't a boot with this word
abbrev pub BootsOtherwise : ℕ → Event → Type 0
BootsOtherwise w (BootAt at node word) = word ≢ w
BootsOtherwise w _ = Unit {0}

-- none of these events is a boot with this word
abbrev pub AllBootOtherwise : ℕ → List Event → Type 0
AllBootOtherwise w [] = Unit {0}
AllBootOtherwise w (e ∷ before) = BootsOtherwise w e × AllBootOtherwise w before

-- a boot has another word than each boot before it
abbrev pub IsApart : Event → List Event → Type 0
IsApart (BootAt at node word) before = AllBootOtherwise word before
IsApart _ before = Unit {0}

-- no two `boot` events have the same word
abbrev pub Apart : List Event → Type 0
Apart [] = Unit {0}
Apart (e ∷ before) = IsApart e before × Apart before

-- the run posts fewer than 32,768 datagrams: no line `post` of the trace has the number 32,767
abbrev pub Short : HeaderValue → List Event → Type 0
Short header events = length (posts (run header events)) < 32768

abbrev pub own_posts_after : Deed → ℕ → ℕ
own_posts_after (Acts Boot) n = 0
own_posts_after (Acts (Post to (Message m))) n = if nat_le 32768 m.number then n + 1 else n
own_posts_after _ n = n

-- how many messages with a number from 32,768 on a port has posted since its node's boot: in its own sends, and as
-- answers to those of others
abbrev pub own_posts : List Seen → ℕ
own_posts [] = 0
own_posts (Here d ∷ before) = own_posts_after d.deed (own_posts before)
own_posts (Elsewhere d ∷ before) = own_posts before

-- each port has posted fewer than 32,768 of them in each life of its node
abbrev pub OwnShort : HeaderValue → List Event → Type 0
OwnShort header events = Everywhere (λ (l : Line) (before : List Line). own_posts (view l.port (of (node_of l) (l ∷ before))) < 32768) (run header events)

-- no two nodes of the header have the same name
abbrev pub NamesDiffer : HeaderValue → Type 0
NamesDiffer header = (m n : ℕ) → m < length header.nodes → n < length header.nodes → (node_line header m).name ≡ (node_line header n).name → m ≡ n

-- each premise of the promises holds of a run if its counterpart holds of the schedule's text, or of its text and its
-- trace: Prompt, Short and OwnShort ask what the run posted. Honest and Words hold of a run only then, too
pub record KeptByText (header : HeaderValue) (events : List Event) : Type 0 where
  pub honest : Sealed events → Honest (run header events)
  pub only_honest : Honest (run header events) → Sealed events
  pub life : Prompt header events → Life (run header events)
  pub words : Apart events → Words (run header events)
  pub only_words : Words (run header events) → Apart events
  pub own_words : Apart events → OwnWords (run header events)
  pub few : Short header events → Few (run header events)
  pub few_own : OwnShort header events → Few (run header events)
  pub names : (setting : Setting) → SetBy header setting → NamesDiffer header → NamesApart setting (run header events)

-- the same of every accepted schedule
abbrev pub RunsKeepPremises : Type 0
RunsKeepPremises = (header : HeaderValue) (events : List Event) → Accepted header events → KeptByText header events

-- the same of every possible schedule
abbrev pub PossibleRunsKeepPremises : Type 0
PossibleRunsKeepPremises = (header : HeaderValue) (events : List Event) → Possible header events → KeptByText header events
