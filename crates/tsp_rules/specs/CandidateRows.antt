-- What a candidate does: a port that stands for election.
use Rattle.std.specs.Prelude.{ℕ, ◌+◌, ◌*◌, nat_lt, Bool, not, ◌||◌, length}
use Rattle.tsp_rules.specs.Values.{Become, Ring, Late, Backer, Acked, Window, Round, Kind, Accept, Ack, Election, MasterAck, MasterUp, QuitKind, Refuse, PeerId}
use Rattle.tsp_rules.specs.Values.{Loose, Master, ROUND}
use Rattle.tsp_base.specs.Words.{Past, MessageValue, backers, Row, nothing, puts, ◌followed_by◌, either_by, arms, posts, posts_to_others}
use Rattle.tsp_rules.specs.{CommonRows.arms_elect, CommonRows.follow_row, CommonRows.quits, Guards.is_in_time}
use Rattle.tsp_rules.specs.SendRows.{has_election, acknowledges}

-- the port becomes a master and says so
unfoldable pub lead_row : Row
lead_row = puts (Become Master) followed_by (arms Round ROUND followed_by posts_to_others MasterUp 0)

-- the candidature ends
unfoldable pub yields : Row
yields = puts (Become Loose) followed_by arms_elect

-- whether the election is won: nobody refused, and where elections are strict more than half of the peers back the candidate, itself counted
abbrev pub has_won : ℕ → Past → Bool
has_won x past = not past.strict || nat_lt (length past.peers) (2 * length (backers past.seen) + 2)

-- the window ends: the election is won or lost; it is lost where the alarm is handled late
unfoldable pub window_rings : Row
window_rings = either_by (is_in_time Window) (puts (Ring Window) followed_by either_by has_won lead_row yields) (puts (Late Window) followed_by yields)

-- p backs this candidature
unfoldable pub accepted_by : PeerId → ℕ → Row
accepted_by p number = either_by (has_election p number) (puts (Acked p) followed_by puts (Backer p)) nothing

-- p refuses to back this candidature
unfoldable pub refused_by : PeerId → ℕ → Row
refused_by p number = either_by (has_election p number) (puts (Acked p) followed_by yields) nothing

-- what a candidate does with this kind of message of a peer: it has backed itself, and so refuses any other candidate
unfoldable pub candidate_takes_kind : PeerId → MessageValue → Kind → Row
candidate_takes_kind p m MasterUp = follow_row p
candidate_takes_kind p m MasterAck = follow_row p
candidate_takes_kind p m Election = posts p Refuse m.number
candidate_takes_kind p m Accept = accepted_by p m.number
candidate_takes_kind p m Refuse = refused_by p m.number
candidate_takes_kind p m QuitKind = quits p m.number
candidate_takes_kind p m Ack = acknowledges p m.number
candidate_takes_kind p m _ = nothing

-- what it does with a message of a peer
unfoldable pub candidate_takes : PeerId → MessageValue → Row
candidate_takes p m = candidate_takes_kind p m m.kind
