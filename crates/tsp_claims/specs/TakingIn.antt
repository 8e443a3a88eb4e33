-- What it takes to take claimed lines in, and what it comes to.
use Rattle.std.specs.Prelude.{◌≡◌, ℕ, ◌+◌, ◌≤◌, List, ◌++◌, length, Option, vec_len, vec_capacity}
use Rattle.tsp_base.specs.{Words.HeaderValue, Words.Line, Words.Step, declared.act.Placed.Placed, declared.event.Event.Event}
use Rattle.tsp_claims.specs.declared.{claims.Claims.Claims, taking_in.HeldStep.HeldStep}
use Rattle.tsp_claims.specs.{ClaimedHistory.joins_acts, ClaimedHistory.claims_of_step, Fitting.untold, Listed.IsUpAfter}
use Rattle.tsp_history.specs.Histories.{history_of, noted_after}

-- there is room for a mark and so many lines, and for as many posts
pub record HasRoomFor (count : ℕ) (c : Claims) : Type 0 where
  pub lines : count + 1 ≤ c.lines.room
  pub posts : vec_len c.posts + count ≤ vec_capacity c.posts

-- all that the claims hold is as it was
pub record StaysSame (old new : Claims) : Type 0 where
  pub header_is : new.header ≡ old.header
  pub up_is : new.up ≡ old.up
  pub lines_are : new.lines.lines ≡ old.lines.lines
  pub posts_are : new.posts.items ≡ old.posts.items
  pub events_are : new.events ≡ old.events
  pub told_is : new.told ≡ old.told
  pub tally_is : new.tally ≡ old.tally

-- these lines and posts are the step of an event of this number, if there is one, and what its acts claim
pub record HoldsStep (header : HeaderValue) (event : ℕ) (step : Option Step) (acts : List Placed) (held : HeldStep) : Type 0 where
  pub lines : (h : List Line) → noted_after h held.lines.items ≡ joins_acts header step acts h
  pub posts : held.posts.items ≡ claims_of_step event step acts
  pub many : vec_len held.lines ≤ length acts + 1
  pub few : vec_len held.posts ≤ length acts

-- an event was counted with so many lines, a step was appended, and the event's node woke
pub record JoinsEvent (e : Event) (held : HeldStep) (count : ℕ) (old new : Claims) : Type 0 where
  pub header_is : new.header ≡ old.header
  pub history : history_of new.lines.lines ≡ noted_after (history_of old.lines.lines) held.lines.items
  pub posts_are : new.posts.items ≡ old.posts.items ++ held.posts.items
  pub events_are : new.events ≡ old.events + 1
  pub told_is : new.told ≡ old.told + count
  pub tally_is : new.tally ≡ untold
  pub wakes : IsUpAfter e old.up.items new.up.items
