-- Nodes of one port each, on one network.
use Rattle.std.specs.Prelude.{◌≡◌, ℕ, Bool, true, length}
use Rattle.tsp_base.specs.Words.{HeaderValue, first_port}
use Rattle.tsp_promises.specs.Setting.{Setting}
use Rattle.tsp_progress.specs.ByTable.{node_in}

-- each node that stays has one port, and all are on one network
pub record OneWire (header : HeaderValue) (setting : Setting) (stays : ℕ → Bool) : Type 0 where
  pub single : (n : ℕ) → stays n ≡ true → length (node_in header n).ports ≡ 1
  pub net : (n m : ℕ) → stays n ≡ true → stays m ≡ true → setting.net n first_port ≡ setting.net m first_port
