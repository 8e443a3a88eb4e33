-- The promise that of the candidates of a strict election at most one wins.
use Rattle.std.specs.Prelude.{◌≡◌, ◌≢◌, ◌<◌, ◌+◌, List, ◌∷◌}
use Rattle.tsp_rules.specs.Values.{Become, Master}
use Rattle.tsp_base.specs.Words.{Acts, Line, Within}
use Rattle.tsp_promises.specs.{Everywhere.Everywhere, Fits.node_of, Setting.Setting}

-- of two changes to master, by different nodes on one network, the later comes more than 50 s of true time after the
-- earlier
abbrev pub WinsAt : Setting → Line → List Line → Type 0
WinsAt setting l world = (other : Line) (older : List Line) → l.did.deed ≡ Acts (Become Master) → Within (other ∷ older) world → other.did.deed ≡
    Acts (Become Master) → node_of other ≢ node_of l →
    setting.net (node_of other) other.port ≡ setting.net (node_of l) l.port → other.did.step.at + 50000000 < l.did.step.at

-- it is so at each change to master: within 50 s only one node of a network wins
abbrev pub OneWinner : Setting → List Line → Type 0
OneWinner setting = Everywhere (WinsAt setting)
