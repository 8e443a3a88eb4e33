-- Facts of the step that a port is in.
use Rattle.std.specs.Prelude.{◌≡◌, ℕ, ◌==◌, Bool, true, false, not, ◌&&◌, if◌then◌else◌, List, [], ◌∷◌, Option, None, Some}
use Rattle.tsp_rules.specs.Values.{Took, Post, Become, Back, Close, Quit, Message, Kind, Ack, QuitKind, PeerId, Peer, Stranger, Role, Starting, Follow}
use Rattle.tsp_rules.specs.Values.{Candidate, Master}
use Rattle.tsp_base.specs.Words.{Did, Deed, Begins, Acts, Seen, Here, Elsewhere, plain, MessageValue, is_among, Received, Said, message_in, role, said, said_by}
use Rattle.tsp_base.specs.Words.{taken, exchange, Setup, Undisturbed}

abbrev pub backed_after : Deed → Option PeerId → Option PeerId
backed_after Begins was = None
backed_after (Acts (Back p)) was = Some p
backed_after _ was = was

-- the candidate that this step has backed last
abbrev pub backed : List Seen → Option PeerId
backed [] = None
backed (Here d ∷ before) = backed_after d.deed (backed before)
backed (Elsewhere d ∷ before) = backed before

abbrev pub is_unbacked_after : Deed → ℕ → Bool → Bool
is_unbacked_after Begins own was = false
is_unbacked_after (Acts (Become Candidate)) own was = true
is_unbacked_after (Acts (Back p)) own was = if p.0 == own then false else was
is_unbacked_after _ own was = was

-- whether the port became a candidate in this step and hasn't yet backed itself
abbrev pub is_unbacked : List Seen → Bool
is_unbacked [] = false
is_unbacked (Here d ∷ before) = is_unbacked_after d.deed d.step.node (is_unbacked before)
is_unbacked (Elsewhere d ∷ before) = is_unbacked before

abbrev pub closed_after : Deed → List Seen → List Seen → List Seen
closed_after Begins here was = []
closed_after (Acts (Close count lo size mean)) here was = here
closed_after _ here was = was

-- the place of the last Close of this step; empty if there is none
abbrev pub closed : List Seen → List Seen
closed [] = []
closed (Here d ∷ before) = closed_after d.deed (Here d ∷ before) (closed before)
closed (Elsewhere d ∷ before) = closed before

abbrev pub owes_after : Deed → Role → List PeerId → List PeerId
owes_after Begins r was = []
owes_after (Acts (Quit p)) Master was = p ∷ was
owes_after _ r was = was

-- whom the port must follow at the step's end: each peer whose QUIT it heeded in this step, while it was a master
abbrev pub owes : List Seen → List PeerId
owes [] = []
owes (Here d ∷ before) = owes_after d.deed (role before) (owes before)
owes (Elsewhere d ∷ before) = owes before

abbrev pub is_quit : Kind → Bool
is_quit QuitKind = true
is_quit _ = false

-- the sender of a QUIT, if it is one of these peers and not the node n itself
abbrev pub quit_by : List PeerId → ℕ → Option Said → Option PeerId
quit_by peers n None = None
quit_by peers n (Some s) = if is_quit s.message.kind && (is_among s.from peers && not (s.from.0 == n)) then Some s.from else None

abbrev pub unless_starting : Role → Option PeerId → Option PeerId
unless_starting Starting p = None
unless_starting _ p = p

abbrev pub unheeded_after : List PeerId → ℕ → Deed → Role → Option PeerId → Option PeerId
unheeded_after peers n Begins r was = None
unheeded_after peers n (Acts (Took from t)) r was = unless_starting r (quit_by peers n (said_by from (message_in t)))
unheeded_after peers n (Acts (Quit p)) r was = None
unheeded_after peers n _ r was = was

-- the peer whose QUIT this step took on this port, of which these are the peers, as long as no Quit came after it. One
-- that comes while the port is Starting, or from the node itself, isn't heeded
abbrev pub unheeded : List PeerId → List Seen → Option PeerId
unheeded peers [] = None
unheeded peers (Here d ∷ before) = unheeded_after peers d.step.node d.deed (role before) (unheeded peers before)
unheeded peers (Elsewhere d ∷ before) = unheeded peers before

abbrev pub if_master : Role → Option PeerId → Option PeerId
if_master Master p = p
if_master _ p = None

abbrev pub quits_master_after : List PeerId → ℕ → Deed → Role → Option PeerId → Option PeerId
quits_master_after peers n Begins r was = None
quits_master_after peers n (Acts (Took from t)) r was = if_master r (quit_by peers n (said_by from (message_in t)))
quits_master_after peers n _ r was = was

-- the peer whose QUIT this step took on this port, of which these are the peers, while the port was a master
abbrev pub quits_master : List PeerId → List Seen → Option PeerId
quits_master peers [] = None
quits_master peers (Here d ∷ before) = quits_master_after peers d.step.node d.deed (role before) (quits_master peers before)
quits_master peers (Elsewhere d ∷ before) = quits_master peers before

abbrev pub is_ack : Kind → Bool
is_ack Ack = true
is_ack _ = false

-- a message that was to be acknowledged, after this one was posted to q
abbrev pub acked_by : PeerId → MessageValue → Option Said → Option Said
acked_by q m None = None
acked_by q m (Some s) = if (s.from.0 == q.0) && (is_ack m.kind && (m.number == s.message.number)) then None else Some s

abbrev pub unacknowledged_after : Deed → Option Received → Option Said → Option Said
unacknowledged_after Begins took was = None
unacknowledged_after (Acts (Quit p)) took was = said took
unacknowledged_after (Acts (Post (Peer q) (Message m))) took was = acked_by q m was
unacknowledged_after _ took was = was

-- the message for which this step has a Quit, as long as no ACK of its number was posted to its sender
abbrev pub unacknowledged : List Seen → Option Said
unacknowledged [] = None
unacknowledged (Here d ∷ before) = unacknowledged_after d.deed (taken before) (unacknowledged before)
unacknowledged (Elsewhere d ∷ before) = unacknowledged before

abbrev pub is_answered_after : Deed → Bool → Bool
is_answered_after Begins was = false
is_answered_after (Acts (Post Stranger datagram)) was = true
is_answered_after _ was = was

-- whether this step has posted something to a stranger, on this port
abbrev pub is_answered : List Seen → Bool
is_answered [] = false
is_answered (Here d ∷ before) = is_answered_after d.deed (is_answered before)
is_answered (Elsewhere d ∷ before) = is_answered before

-- what a port with this setup owes at the end of each step: a candidate has backed itself; the QUIT of a peer that it
-- took is heeded; a master follows the sender of each QUIT that it heeded; each QUIT that it heeded is acknowledged; and
-- since each open exchange began the node neither booted nor corrected its clock
pub record StepEnds (setup : Setup) (before : List Seen) : Type 0 where
  pub backs : is_unbacked before ≡ false
  pub heeds : unheeded setup.peers before ≡ None
  pub follows : (p : PeerId) → is_among p (owes before) ≡ true → role before ≡ Follow p
  pub acknowledged : unacknowledged before ≡ None
  pub exchanges : (p : PeerId) (counter : ℕ) (request : Did) (older : List Seen) → exchange p counter before ≡ Here request ∷ older →
      Undisturbed (plain older) (plain before)
