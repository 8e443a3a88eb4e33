-- Names stay where they lie when more octets are put behind them.
use Rattle.std.proofs.Common.{ap, sym, subst, ◌∙◌, arith, get_or, length-drop, ◌≡◌, ℕ, ◌≤◌, ◌<◌, ◌+◌, ◌-◌, List, [], ◌∷◌, ◌++◌, length, map, take, drop}
use Rattle.std.proofs.Common.{slice_get, slice_range, All, Some, refl}
use Rattle.std.specs.Option.{option_map}
use Rattle.std.proofs.lemmas.List.{drop-append-le, length-map, take-append-le, map_push}
use Rattle.std.proofs.lemmas.{List.Elements.All-head, List.Elements.All-tail, Option.slice_get-get_or, Option.slice_get-map}
use Rattle.tsp_rules.specs.Values.{Datagram, Place}
use Rattle.tsp_networks.specs.declared.head.StoredDatagram.{StoredDatagram, TheVariants.Message, TheVariants.Request, TheVariants.Reply}
use Rattle.tsp_networks.specs.Heads.{HeadStands, HeldStands, datagram_in, is_peer, place_of, post_in, way_in, way_stored, way_with}
use Rattle.tsp_run.specs.declared.posted.Posted.{Posted}
use Rattle.tsp_networks.specs.{Posts.posted_on, declared.head.Head.Head, declared.way.Way.Way}

range_append : (names more : List ℕ) (start len : ℕ) → start + len ≤ length names → slice_range (names ++ more) start (start + len) ≡
    slice_range names start (start + len)
range_append names more start len inside =
    let left = length-drop start names in
    ap (λ l. take (start + len - start) l) (drop-append-le start names more (omega (arith, inside)))
    ∙ take-append-le (start + len - start) (drop start names) more (omega (arith, left, inside))

datagram_in_append : (names more : List ℕ) (held : StoredDatagram) → HeldStands names held → datagram_in (names ++ more) held ≡ datagram_in names held
datagram_in_append names more (Message port to_peer kind number len start body) h = rw (range_append names more start len h.inside) refl
datagram_in_append names more (Request port to_peer word counter) h = refl
datagram_in_append names more (Reply port to_peer ticket word counter reading) h = refl

posts_append : (names more : List ℕ) (heads : List Head) → All (HeadStands names) heads → map (post_in (names ++ more)) heads ≡ map (post_in names) heads
posts_append names more [] all = refl
posts_append names more (head ∷ rest) all =
    let first = datagram_in_append names more head.held (All-head (HeadStands names) head rest all) in
    let others = posts_append names more rest (All-tail (HeadStands names) head rest all) in
    ap (λ d. posted_on (way_in head) d ∷ map (post_in (names ++ more)) rest) first ∙ ap (λ l. post_in names head ∷ l) others

-- the posts after one more
pub posts_push : (names more : List ℕ) (heads : List Head) (head : Head) (datagram : Datagram) → All (HeadStands names) heads →
    datagram_in (names ++ more) head.held ≡ datagram →
    map (post_in (names ++ more)) (heads ++ head ∷ []) ≡ map (post_in names) heads ++ posted_on (way_in head) datagram ∷ []
posts_push names more heads head datagram all is =
    map_push (post_in (names ++ more)) heads head
    ∙ ap (λ l. l ++ post_in (names ++ more) head ∷ []) (posts_append names more heads all)
    ∙ ap (λ d. map (post_in names) heads ++ posted_on (way_in head) d ∷ []) is

-- a head has its post's way
pub way_in_head : (way : Way) (held : StoredDatagram) (n : ℕ) → ((head : Head) → way_stored head held ≡ way_with head way.port (is_peer way.to)) →
    place_of (is_peer way.to) n ≡ way.to →
    way_in (record { at = way.at; from = way.from; to = n; held = held }) ≡ way
way_in_head way held n small number =
    small (record { at = way.at; from = way.from; to = n; held = held }) ∙ ap (λ (p : Place). let w : Way = record {
      at = way.at;
      from = way.from;
      port = way.port;
      to = p;
    } in w) number

-- the post with a number is the one that is stored at its place
post_stored : (names : List ℕ) (heads : List Head) (k : ℕ) (head : Head) → k < length (map (post_in names) heads) → head ≡ get_or heads k head →
    slice_get (map (post_in names) heads) k ≡ Some (post_in names head)
post_stored names heads k head within is =
    let long = length-map heads (post_in names) in
    slice_get-map (post_in names) heads k ∙ ap (option_map (post_in names)) (slice_get-get_or heads k head (omega (arith, within, long)) ∙ ap Some (sym is))

-- the same of a list that is given so
pub post_here : (names : List ℕ) (heads : List Head) (items : List Posted) (k : ℕ) (head : Head) → map (post_in names) heads ≡ items → k < length items → head ≡
    get_or heads k head → slice_get items k ≡ Some (post_in names head)
post_here names heads items k head same within is = subst (λ (l : List Posted). slice_get l k ≡
    Some (post_in names head)) same (post_stored names heads k head (subst (λ (l : List Posted). k < length l) (sym same) within) is)

-- and its datagram is the stored one
pub datagram_here : (names : List ℕ) (head : Head) (p q : Posted) → Some p ≡ Some q → q ≡ post_in names head → datagram_in names head.held ≡ p.datagram
datagram_here names head p q same is = cc
