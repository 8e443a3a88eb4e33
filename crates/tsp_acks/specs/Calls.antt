-- What the contracts of calls say that act for a port: the names that they share, and how much room of the desk a call uses.
use Rattle.std.specs.Prelude.{◌≡◌, ℕ, Bool, true, false, if◌then◌else◌, None, List, MatchBool}
use Rattle.tsp_rules.specs.Values.{Acked, Placed, PeerId, Port}
use Rattle.tsp_base.specs.Words.{Row, puts}
use Rattle.tsp_sends.specs.Slots.{SetsOnly}
use Rattle.tsp_acks.specs.declared.station.Station.{Station}
pub use Rattle.std.specs.List.{Contains}
pub use Rattle.tsp_base.specs.Frames.{IsTick, PutsAtMost, PutsExactly, Uses, UsesAtMost}
pub use Rattle.tsp_base.specs.History.{Past}
pub use Rattle.tsp_base.specs.Performs.{Performs}
pub use Rattle.tsp_base.specs.PortFacts.{Received}
pub use Rattle.tsp_acks.specs.Changes.{IsSamePort, ChangesSends}
pub use Rattle.tsp_acks.specs.Stands.{StationStands, StandsActing, StandsStill}

-- a call puts a row's acts on this desk for a station, which stands for the past before it and after it
abbrev pub ActsBy : {D : Type 0} → Row → ℕ → Port → Station → Station → (D → List Placed) → D → D → Type 0
ActsBy row x port before after acts old new = Performs StationStands StationStands row x port before after (acts old) (acts new)

-- a call says whether the open send to a peer passes a test, ends it if so, which it tells by an Acked, and else changes nothing
pub record EndsWhere {D : Type 0} (passes : ℕ → Past → Bool) (p : PeerId) (port : Port) (before after : Station) (ended : Bool) (spare : D → ℕ) (acts : D →
    List Placed) (old new : D) : Type 0 where
  pub test : (x : ℕ) (past : Past) → StationStands past before → passes x past ≡ ended
  pub row : ended ≡ true → (x : ℕ) → ActsBy (puts (Acked p)) x port before after acts old new
  pub sends : MatchBool ended (SetsOnly p None before.sends after.sends) (after ≡ before)
  pub same : ended ≡ false → acts new ≡ acts old
  pub rest : ChangesSends before after
  pub begun : after.begun ≡ before.begun
  pub room : Uses (if ended then 1 else 0) spare acts old new
