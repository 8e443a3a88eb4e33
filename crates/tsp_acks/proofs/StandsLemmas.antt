-- Acts that change nothing that a station stands for.
use Rattle.std.proofs.Common.{sym, ◌∙◌, ap, ◌≡◌, ℕ, ◌%◌, Bool, true, false, List, [], ◌∷◌, map, refl}
use Rattle.std.proofs.lemmas.Bool.{false≢true}
use Rattle.tsp_rules.specs.Values.{Act, Took, Post, Close, Correct, Sample, Join, Leave, Rival, Trace, Message, Stamp, Kind, Conflict, Election, QuitKind}
use Rattle.tsp_rules.specs.Values.{SetDateReq, PeerId, Place, Peer, Stranger, StampValue}
use Rattle.tsp_base.specs.Words.{Step, Past, Seen, MessageValue, Keeps, bare, grown, post_of, puts, is_numbered, has_own_number, begun}
use Rattle.tsp_base.proofs.SendLemmas.{seen_act, open_send_unnumbered}
use Rattle.tsp_acks.specs.{Stands.StationStands, declared.station.Station.Station}

-- a message that isn't numbered has no number of the port's own
own_unnumbered : (k : Kind) → is_numbered k ≡ false → has_own_number k ≡ false
own_unnumbered Election n = absurd (false≢true (sym n))
own_unnumbered Conflict n = absurd (false≢true (sym n))
own_unnumbered QuitKind n = absurd (false≢true (sym n))
own_unnumbered SetDateReq n = absurd (false≢true (sym n))
own_unnumbered _ n = refl

begun_unnumbered : (step : Step) (x : ℕ) (to : Place) (m : MessageValue) (seen : List Seen) → is_numbered m.kind ≡ false →
    begun (seen_act step x (Post to (Message m)) ∷ seen) ≡ begun seen
begun_unnumbered step x to m seen n = rw (own_unnumbered m.kind n) refl

-- the post of a message that is no numbered send
pub Stands_post : (to : Place) (m : MessageValue) (x : ℕ) (past : Past) (station : Station) → is_numbered m.kind ≡ false → StationStands past station →
    StationStands (grown x past (Post to (Message m) ∷ [])) station
Stands_post to m x past station n s = record {
  own = s.own;
  name = s.name;
  may = s.may;
  strict = s.strict;
  peers = s.peers;
  word = s.word;
  role = s.role;
  alarms = s.alarms;
  hold = s.hold;
  sends = λ p. s.sends p ∙ sym (open_send_unnumbered past.step x p to m past.seen n);
  begun = s.begun ∙ ap (λ n. n % 32768) (sym (begun_unnumbered past.step x to m past.seen n));
  backers = s.backers;
}

-- the post of a stamp
pub Stands_stamp : (to : Place) (stamp : StampValue) (x : ℕ) (past : Past) (station : Station) → StationStands past station →
    StationStands (grown x past (Post to (Stamp stamp) ∷ [])) station
Stands_stamp (Peer q) stamp x past station s = record {
  own = s.own;
  name = s.name;
  may = s.may;
  strict = s.strict;
  peers = s.peers;
  word = s.word;
  role = s.role;
  alarms = s.alarms;
  hold = s.hold;
  sends = s.sends;
  begun = s.begun;
  backers = s.backers;
}
Stands_stamp Stranger stamp x past station s = record {
  own = s.own;
  name = s.name;
  may = s.may;
  strict = s.strict;
  peers = s.peers;
  word = s.word;
  role = s.role;
  alarms = s.alarms;
  hold = s.hold;
  sends = s.sends;
  begun = s.begun;
  backers = s.backers;
}

-- posts of a message that is no numbered send
pub Stands_posts : (kind : Kind) (number : ℕ) (name : List ℕ) (ps : List PeerId) (x : ℕ) (past : Past) (station : Station) →
    is_numbered kind ≡ false → StationStands past station → StationStands (grown x past (map (post_of kind number name) ps)) station
Stands_posts kind number name [] x past station n s = s
Stands_posts kind number name (p ∷ ps) x past station n s =
    Stands_posts kind number name ps x (grown x past (post_of kind number name p ∷ [])) station n (Stands_post (Peer p) (bare kind number name) x past station n
    s)

-- acts of other parts of a port
abbrev pub is_idle : Act → Bool
is_idle (Took from taken) = true
is_idle (Join p) = true
is_idle (Leave p) = true
is_idle (Rival p) = true
is_idle (Sample peer counter diff err ticket) = true
is_idle (Close count lo width mean) = true
is_idle (Correct amount stepped shown) = true
is_idle (Trace on) = true
is_idle _ = false

pub Stands_idle : (a : Act) → is_idle a ≡ true → Keeps StationStands (puts a)
unfolding puts
Stands_idle (Took from taken) i x past station s = record {
  own = s.own;
  name = s.name;
  may = s.may;
  strict = s.strict;
  peers = s.peers;
  word = s.word;
  role = s.role;
  alarms = s.alarms;
  hold = s.hold;
  sends = s.sends;
  begun = s.begun;
  backers = s.backers;
}
Stands_idle (Join p) i x past station s = record {
  own = s.own;
  name = s.name;
  may = s.may;
  strict = s.strict;
  peers = s.peers;
  word = s.word;
  role = s.role;
  alarms = s.alarms;
  hold = s.hold;
  sends = s.sends;
  begun = s.begun;
  backers = s.backers;
}
Stands_idle (Leave p) i x past station s = record {
  own = s.own;
  name = s.name;
  may = s.may;
  strict = s.strict;
  peers = s.peers;
  word = s.word;
  role = s.role;
  alarms = s.alarms;
  hold = s.hold;
  sends = s.sends;
  begun = s.begun;
  backers = s.backers;
}
Stands_idle (Rival p) i x past station s = record {
  own = s.own;
  name = s.name;
  may = s.may;
  strict = s.strict;
  peers = s.peers;
  word = s.word;
  role = s.role;
  alarms = s.alarms;
  hold = s.hold;
  sends = s.sends;
  begun = s.begun;
  backers = s.backers;
}
Stands_idle (Sample peer counter diff err ticket) i x past station s = record {
  own = s.own;
  name = s.name;
  may = s.may;
  strict = s.strict;
  peers = s.peers;
  word = s.word;
  role = s.role;
  alarms = s.alarms;
  hold = s.hold;
  sends = s.sends;
  begun = s.begun;
  backers = s.backers;
}
Stands_idle (Close count lo width mean) i x past station s = record {
  own = s.own;
  name = s.name;
  may = s.may;
  strict = s.strict;
  peers = s.peers;
  word = s.word;
  role = s.role;
  alarms = s.alarms;
  hold = s.hold;
  sends = s.sends;
  begun = s.begun;
  backers = s.backers;
}
Stands_idle (Correct amount stepped shown) i x past station s = record {
  own = s.own;
  name = s.name;
  may = s.may;
  strict = s.strict;
  peers = s.peers;
  word = s.word;
  role = s.role;
  alarms = s.alarms;
  hold = s.hold;
  sends = s.sends;
  begun = s.begun;
  backers = s.backers;
}
Stands_idle (Trace on) i x past station s = record {
  own = s.own;
  name = s.name;
  may = s.may;
  strict = s.strict;
  peers = s.peers;
  word = s.word;
  role = s.role;
  alarms = s.alarms;
  hold = s.hold;
  sends = s.sends;
  begun = s.begun;
  backers = s.backers;
}
Stands_idle _ i x past station s = absurd (false≢true i)
