-- What ports of several roles do.
use Rattle.std.specs.Prelude.{ℕ, Bool, true, false, ◌&&◌, not, List, [], ◌∷◌}
use Rattle.tsp_rules.specs.Values.{Boot, Post, Become, Back, Quit, Trace, Quiet, Window, Elect, Search, Message, Stamp, Ack, Election, MasterReq, SlaveUp}
use Rattle.tsp_rules.specs.Values.{PeerId, Place, Role, Starting, Loose, Follow, Candidate, Master, Reply, QUIET, WINDOW}
use Rattle.tsp_base.specs.Words.{Past, Row, nothing, puts, ◌followed_by◌, either_by, reading, arms, bare, posts, posts_to_others, posts_back, role, kept_name}
use Rattle.tsp_rules.specs.SendRows.{begins_to_others}
use Rattle.tsp_rules.specs.Guards.{delay_at, ticket_at, target_at, is_in_range, may_stand_at, is_master_at, is_starting_role, role_at}

-- a node boots: it is silent for the quiet time
unfoldable pub boots : Row
boots = puts Boot followed_by (puts (Become Starting) followed_by arms Quiet QUIET)

-- the election alarm is armed anew
unfoldable pub arms_elect : Row
arms_elect = reading delay_at (arms Elect)

-- the port looks for a master
unfoldable pub searches : Row
searches = arms Search WINDOW followed_by posts_to_others MasterReq 0

-- the port reports to the master that it follows, with its ticket
unfoldable pub tells_ticket : PeerId → Row
tells_ticket p = reading ticket_at (posts p SlaveUp)

-- the port follows p
unfoldable pub follow_row : PeerId → Row
follow_row p = puts (Become (Follow p)) followed_by (arms_elect followed_by tells_ticket p)

abbrev pub own_at : ℕ → Past → PeerId
own_at x past = past.own

unfoldable pub backs_own : Row
backs_own = reading own_at (λ own. puts (Back own))

-- the node stands for election
unfoldable pub candidature_row : Row
candidature_row = puts (Become Candidate) followed_by (backs_own followed_by (arms Window WINDOW followed_by begins_to_others Election))

unfoldable pub follows_unless : PeerId → Role → Row
follows_unless p (Follow q) = nothing
follows_unless p _ = follow_row p

-- a QUIT of p: it is acknowledged, and p is followed unless the port follows a master already
unfoldable pub quits : PeerId → ℕ → Row
quits p number = puts (Quit p) followed_by (posts p Ack number followed_by reading role_at (follows_unless p))

-- the clock's ticket and target, as the answer to a stamp request
unfoldable pub posts_reply : Place → ℕ → ℕ → Row
posts_reply from word counter x past =
    Post from (Stamp (Reply (record { ticket = ticket_at x past; word = word; counter = counter; reading = target_at x past }))) ∷ []

-- a stamp request is answered, where the target is in its range
unfoldable pub replies : Place → ℕ → ℕ → Row
replies from word counter = either_by is_in_range (posts_reply from word counter) nothing

abbrev pub master_name_in : Role → List ℕ → List ℕ → List ℕ
master_name_in Master own kept = own
master_name_in (Follow q) own kept = kept
master_name_in _ own kept = []

-- the name of the master that the port knows of: its own where it is master, that of the followed one where it follows, else the empty name
abbrev pub master_name : ℕ → Past → List ℕ
master_name x past = master_name_in (role past.seen) past.name (kept_name past.seen)

-- the master is named to whoever asks
unfoldable pub names_master : Place → ℕ → Row
names_master from number = reading master_name (λ name. puts (Post from (Message (bare Ack number name))))

-- a master answers that it is one
unfoldable pub says_master : Place → ℕ → Row
says_master from number = either_by is_master_at (posts_back from Ack number) nothing

-- the trace is turned on or off
unfoldable pub traces : Place → ℕ → Bool → Row
traces from number on = puts (Trace on) followed_by posts_back from Ack number

abbrev pub is_idle : Role → Bool
is_idle Loose = true
is_idle (Follow q) = true
is_idle _ = false

-- whether a port stands for election when it is asked to: it is Loose or follows, and it may
abbrev pub may_be_asked : ℕ → Past → Bool
may_be_asked x past = is_idle (role past.seen) && may_stand_at x past

abbrev pub is_awake : ℕ → Past → Bool
is_awake x past = not (is_starting_role (role past.seen))

-- somebody asks the port to stand for election
unfoldable pub tests : Place → ℕ → Row
tests from number = either_by is_awake (posts_back from Ack number followed_by either_by may_be_asked candidature_row nothing) nothing
