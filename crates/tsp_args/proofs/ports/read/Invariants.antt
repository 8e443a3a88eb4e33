use Rattle.std.proofs.Common.{◌≡◌, take, map, string_bytes}
use Rattle.tsp_args.specs.Ports.{peer_words, ArePeers}
use Rattle.tsp_args.proofs.ports.read.Given as goal

abbrev pub invariant-loop-word : goal.invariant-loop-word
invariant-loop-word l = (map string_bytes (take l.word-index l.words) ≡ peer_words l.ports) × ArePeers l.ports
