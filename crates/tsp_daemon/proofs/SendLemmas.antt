-- Sends and lines, a few at a time.
use Rattle.std.proofs.Common.{ap, ◌∙◌, append_assoc, get_or, drop, ◌≡◌, ℕ, ◌+◌, ◌<◌, List, ◌++◌, length, Option, None, Some}
use Rattle.std.{proofs.lemmas.List.drop_more, specs.Option.option_map}
use Rattle.tsp_rules.specs.Values.{Placed}
use Rattle.tsp_io.specs.Links.{Tried}
use Rattle.tsp_daemon.specs.{Ends.TriesAll, Posts.send_of, Posts.sends_of}

-- sends, and then others
pub TriesAll_trans : (a b c : Option (List Tried)) (xs ys : List Tried) → TriesAll xs a b → TriesAll ys b c → TriesAll (xs ++ ys) a c
TriesAll_trans None b c xs ys p q = q ∙ ap (option_map (λ ts. ts ++ ys)) p
TriesAll_trans (Some ts) b c xs ys p q = q ∙ ap (option_map (λ zs. zs ++ ys)) p ∙ ap (λ (zs : List Tried). Some zs) (append_assoc ts xs ys)

-- the sends of acts from a place on are those of the act there, and those of the acts behind it
pub sends_here : (acts : List Placed) (i : ℕ) (item : Placed) → i < length acts → get_or acts i item ≡ item → sends_of (drop i acts) ≡ send_of item.act ++
    sends_of (drop (i + 1) acts)
sends_here acts i item l e = ap (λ ps. sends_of ps) (drop_more acts i item l) ∙ ap (λ (p : Placed). send_of p.act ++ sends_of (drop (i + 1) acts)) e
