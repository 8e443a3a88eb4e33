-- The promise of the network's date: only a master sets it, and a date that is acknowledged was set.
use Rattle.std.specs.Prelude.{◌≡◌, ℤ, ◌-ℤ◌, Bool, true, List, ◌∷◌, Some}
use Rattle.tsp_rules.specs.Values.{Post, Correct, Acked, Message, Good, SetDateReq, PeerId, Place, Peer, Master}
use Rattle.tsp_base.specs.Words.{Acts, Did, Here, Line, Seen, dids, of, view, MessageValue, role, open_to, sets_date, heard, time_in}
use Rattle.tsp_promises.specs.{ClockAt.clock_at, Everywhere.Everywhere, Fits.node_of, Once.Acted, Setting.Setting}
use Rattle.tsp_promises.specs.Premises.{Few, Honest, Life}

-- a Correct of this amount at a master, which sets the clock to the time in a message
pub record SetsClock (setting : Setting) (l : Line) (world : List Line) (amount : ℤ) (m : MessageValue) : Type 0 where
  pub leads : role (view l.port (of (node_of l) world)) ≡ Master
  pub amount_is : amount ≡ time_in m.body -ℤ clock_at setting (node_of l) world l.did.step.at

-- a Correct that comes after the Took of a date in its step, on whatever port that was, sets the clock to that date
abbrev pub SetsAt : Setting → Line → List Line → Type 0
SetsAt setting l world = (amount : ℤ) (stepped : Bool) (shown : ℤ) (from : Place) (m : MessageValue) → l.did.deed ≡ Acts (Correct amount stepped shown) →
    heard (dids (of (node_of l) world)) ≡ Some (record { from = from; taken = Good (Message m) }) → sets_date m.kind ≡ true → SetsClock setting l world amount m

-- an Acked that ends the send of a date comes after a Correct that takes a post of it
abbrev pub DateConfirmedAt : Line → List Line → Type 0
DateConfirmedAt l world = (p : PeerId) (first : Did) (older : List Seen) (m : MessageValue) → l.did.deed ≡ Acts (Acked p) →
    open_to p (view l.port (of (node_of l) world)) ≡ Here first ∷ older →
    first.deed ≡ Acts (Post (Peer p) (Message m)) → m.kind ≡ SetDateReq → Acted (node_of l) p.0 world first older

-- dates are set so in every history. What is acknowledged was set, if no peer's datagram is forged, none lives longer
-- than LIFE, and no port begins 32,768 sends with its own numbers in one life
pub record Dated (setting : Setting) (world : List Line) : Type 0 where
  pub sets : Everywhere (SetsAt setting) world
  pub confirmed : Honest world → Life world → Few world → Everywhere DateConfirmedAt world
