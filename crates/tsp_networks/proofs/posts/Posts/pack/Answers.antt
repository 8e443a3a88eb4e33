-- The stored datagram is the one that was posted.
use Rattle.std.proofs.Common.{ap, ◌∙◌, sym, List, ℕ, refl}
use Rattle.tsp_rules.specs.Values.{Good}
use Rattle.tsp_networks.specs.{Heads.datagram_in, Heads.post_in, Posts.PostsValue}
use Rattle.tsp_networks.proofs.HeadLemmas.{datagram_here, post_here}
use Rattle.tsp_networks.proofs.posts.Posts.pack.Goals as goal

pub returns : goal.returns
returns c p is =
    let names = c.self.inside.names.items in
    let head = c.index.result.now in
    let here = post_here names c.self.inside.heads.items c.args.self.now.items c.args.k head (ap (λ (v : PostsValue). v.items) c.self.view_is) c.requires
    c.index.ensures in
    c.pack.ensures ∙ ap (λ (l : List ℕ). Good (datagram_in l head.held)) c.as_slice.ensures.value ∙
    ap Good (datagram_here names head p (post_in names head) (sym is ∙ here) refl)
