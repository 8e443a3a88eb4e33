-- The commands of the program and their arguments.
use Rattle.std.specs.Prelude.{◌≡◌, ℕ, List, [], ◌∷◌, codes}
use Rattle.tsp_args.specs.{Addrs.addr_text, Addrs.IsAddr, Queries.query_word, Queries.query_rest, Queries.IsQuery}
use Rattle.tsp_args.specs.{Serves.serve_words, Serves.IsServe, Storms.storm_words, Storms.IsStorm, declared.command.Command.Command}
use Rattle.tsp_args.specs.declared.command.Command.TheVariants.{Replay, Show, Pack, Serve, Ask, Storm, Icmp, Audit}

-- the arguments of a command
abbrev pub words_of : Command → List (List ℕ)
words_of Replay = codes "replay" ∷ []
words_of Show = codes "show" ∷ []
words_of Pack = codes "pack" ∷ []
words_of (Serve s) = codes "serve" ∷ serve_words s
words_of (Ask a q) = query_word q ∷ addr_text a ∷ query_rest q
words_of (Storm s) = codes "storm" ∷ storm_words s
words_of Icmp = codes "icmp" ∷ []
words_of Audit = codes "audit" ∷ []

-- a command whose parts are in their ranges
abbrev pub IsCommand : Command → Type 0
IsCommand (Serve s) = IsServe s
IsCommand (Ask a q) = IsAddr a × IsQuery q
IsCommand (Storm s) = IsStorm s
IsCommand _ = Unit {0}

-- the arguments are no command's
abbrev pub IsNoCommand : List (List ℕ) → Type 0
IsNoCommand words = (c : Command) → IsCommand c → words ≡ words_of c → ⊥
