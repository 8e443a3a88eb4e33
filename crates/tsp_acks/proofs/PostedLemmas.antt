-- A plain message that is posted once.
use Rattle.std.proofs.Common.{◌∙◌, ap, ◌≡◌, ℕ, true, List, [], ◌∷◌, ◌++◌}
use Rattle.tsp_rules.specs.Values.{Post, Placed, Message, Kind, PeerId, Place, Peer, Port}
use Rattle.tsp_base.specs.Words.{MessageValue, Performs, bare, posts, posts_back}
use Rattle.tsp_acks.specs.{Posts.is_plain, Stands.StationStands, declared.station.Station.Station}
use Rattle.tsp_acks.proofs.{PostLemmas.is_plain_once, StandsLemmas.Stands_post}

-- a message in the own name, and a copy of that name
pub named : (kind : Kind) (number : ℕ) {m : MessageValue} {name copy : List ℕ} → m ≡ bare kind number copy → copy ≡ name → m ≡ bare kind number name
named kind number is same = is ∙ ap (bare kind number) same

-- it goes to where a datagram came from
pub Performs_post_back : (to : Place) (kind : Kind) (number x : ℕ) (port : Port) (station : Station) {m : MessageValue} {old new : List Placed} →
    is_plain kind ≡ true → m ≡ bare kind number station.me.name →
    new ≡ old ++ record { port = port; act = Post to (Message m) } ∷ [] → Performs StationStands StationStands (posts_back to kind number) x port station
    station old new
unfolding posts_back
Performs_post_back to kind number x port station {old = old} plain is put = record {
  acts = λ past h. put ∙ ap (λ v. old ++ record { port = port; act = Post to (Message v) } ∷ []) (named kind number is h.name);
  stands = λ past h. Stands_post to (bare kind number past.name) x past station (is_plain_once kind plain) h;
}

-- it goes to a peer
pub Performs_post : (p : PeerId) (kind : Kind) (number x : ℕ) (port : Port) (station : Station) {m : MessageValue} {old new : List Placed} → is_plain kind ≡
    true → m ≡ bare kind number station.me.name →
    new ≡ old ++ record { port = port; act = Post (Peer p) (Message m) } ∷ [] → Performs StationStands StationStands (posts p kind number) x port station
    station old new
unfolding posts
Performs_post p kind number x port station {old = old} plain is put = record {
  acts = λ past h. put ∙ ap (λ v. old ++ record { port = port; act = Post (Peer p) (Message v) } ∷ []) (named kind number is h.name);
  stands = λ past h. Stands_post (Peer p) (bare kind number past.name) x past station (is_plain_once kind plain) h;
}
