-- The other posts keep their names, and the last one has its own.
use Rattle.std.proofs.Common.{◌≡◌, ◌∙◌, subst, ap, ◌++◌, ◌∷◌, [], map}
use Rattle.tsp_networks.specs.{Heads.own_name_in, Heads.datagram_in, Heads.post_in, Posts.posted_on, declared.head.Head.Head}
use Rattle.tsp_networks.{proofs.HeadLemmas.posts_push, proofs.HeadLemmas.way_in_head, specs.declared.way.Way.Way}
use Rattle.tsp_networks.proofs.posts.Posts.push.Goals as goal

pub returns-clause-items : goal.returns-clause-items
returns-clause-items c =
    let way = c.args.way in
    let head : Head = record { at = way.at; from = way.from; to = c.number_of.result; held = c.hold-held.result } in
    let names = c.self.inside.names.items in
    let heads = c.self.inside.heads.items in
    let is = subst (λ l. datagram_in l c.hold-held.result ≡ c.args.datagram.now) c.hold-held.ensures.items c.hold-held.ensures.datagram in
    let posts = posts_push names (own_name_in c.args.datagram.now) heads head c.args.datagram.now c.self.invariant.stand is in
    let way_is = way_in_head way c.hold-held.result c.number_of.result c.hold-held.ensures.way c.number_of.ensures in
    let one = posts ∙ ap (λ (w : Way). map (post_in names) heads ++ posted_on w c.args.datagram.now ∷ []) way_is in
    rw (c.hold-held.ensures.items, c.push_reserved.ensures.items, ← c.self.view_is) one
