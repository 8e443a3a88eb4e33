-- The promise that a node is silent after its boot.
use Rattle.std.specs.Prelude.{◌≡◌, ◌≤◌, ◌⊎◌, ◌+◌, ℤ, Bool, List}
use Rattle.tsp_rules.specs.Values.{Post, Correct, Datagram, Place, QUIET}
use Rattle.tsp_base.specs.Words.{Acts, Line, dids, of, view, boot_tick}
use Rattle.tsp_promises.specs.{DeedFits.AnswersEarly, Everywhere.Everywhere, Fits.node_of}

-- for QUIET ticks (80 s) after a boot a node posts nothing but the answer to what its step took on that port: to the
-- sender of a stamp request the reply with its word and counter, and to that of an MSITE, TRACEON or TRACEOFF the ACK of
-- its number. And it doesn't correct its clock
pub record SilentAt (l : Line) (world : List Line) : Type 0 where
  pub posts : (to : Place) (datagram : Datagram) → l.did.deed ≡ Acts (Post to datagram) → (boot_tick (dids (of (node_of l) world)) + QUIET ≤ l.did.tick) ⊎
      AnswersEarly to datagram (view l.port (of (node_of l) world))
  pub corrects : (amount : ℤ) (stepped : Bool) (shown : ℤ) → l.did.deed ≡ Acts (Correct amount stepped shown) →
      boot_tick (dids (of (node_of l) world)) + QUIET ≤ l.did.tick

abbrev pub Silent : List Line → Type 0
Silent = Everywhere SilentAt
