-- The arguments of `serve`.
use Rattle.std.specs.Prelude.{ℕ, ◌≤◌, List, ◌∷◌, decimal, codes}
use Rattle.tsp_script.specs.Schedules.{IsHost}
use Rattle.tsp_args.specs.{Addrs.addr_text, Addrs.IsAddr, Ports.peer_words, Ports.ArePorts, declared.serve.Candidacy.Candidacy}
use Rattle.tsp_args.specs.declared.serve.Candidacy.TheVariants.{Never, Plain, Strict}
use Rattle.tsp_args.specs.declared.serve.ServeWords.{ServeWords}

-- the argument that says whether a node may be master, and how
abbrev pub candidacy_word : Candidacy → List ℕ
candidacy_word Never = codes "s"
candidacy_word Plain = codes "m"
candidacy_word Strict = codes "x"

-- what follows `serve`
abbrev pub serve_words : ServeWords → List (List ℕ)
serve_words s = addr_text s.local ∷ s.name ∷ candidacy_word s.candidacy ∷ decimal s.turns ∷ peer_words s.ports

-- parts in their ranges
pub record IsServe (s : ServeWords) : Type 0 where
  pub local : IsAddr s.local
  pub name : IsHost s.name
  pub some : 1 ≤ s.turns
  pub few : s.turns ≤ 1000000000
  pub ports : ArePorts s.local s.ports
