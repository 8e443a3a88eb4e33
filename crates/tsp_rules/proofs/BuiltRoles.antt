-- How the rows of a port are made in each of its roles.
use Rattle.std.proofs.Common.{true≢false, ◌≡◌, ◌≢◌, ℕ, ◌==◌, ℤ, true, false, List, [], ◌∷◌, refl}
use Rattle.tsp_rules.specs.Values.{Become, Back, Ring, Late, Quiet, Search, Elect, Kind, Accept, Ack, AdjTime, Conflict, Election, MasterAck, MasterUp}
use Rattle.tsp_rules.specs.Values.{QuitKind, Refuse, SetTime, PeerId, Role, Loose, Follow, Join, Rival, ResolveAlarm, MasterReq, ResolveKind, SlaveUp, WINDOW}
use Rattle.tsp_rules.specs.Values.{Backer, Acked, Window, Round, Master, ROUND}
use Rattle.tsp_rules.specs.SlaveRows.{quiet_rings, rings_or_late, search_rings, loosens, elect_rings, reports_conflict, masterup_in, masterack_in, election_of}
use Rattle.tsp_rules.specs.SlaveRows.{acks_repeat, confirms, adjtime_of, settime_of, from_master, slave_takes_kind, slave_takes}
use Rattle.tsp_rules.proofs.Emits.{Sort, Numbering, Posting, Alarming, Acking, Moving, is_part, Correcting, Tabling, Rivalling, Leading, Changing, Counting}
use Rattle.tsp_rules.specs.Renames.{Naming, known_role, renamed_role}
use Rattle.tsp_rules.proofs.RowCodes.{ANumber, Owed, Puts, Posts, Adjusts, Sets, RoleAt, InTime, Armed, MayStand, MayBack, Follows, IsFree, IsRepeated}
use Rattle.tsp_rules.proofs.RowCodes.{TakesAmount, TakesValue, Arms, SettimeBegins, ToOthers, Rivals, MayJoin, HasQuit, IsNewRival, HasWon, HasElection}
use Rattle.tsp_rules.proofs.Built.{Built, Empty, At, Then, Either, If, Reading, More, Wider, whichever, Each}
use Rattle.tsp_rules.proofs.BuiltShared.{loose_sorts, standing_sorts, quit_sorts, built_arms_elect, built_searches, built_again, built_follow_row, built_begins}
use Rattle.tsp_rules.proofs.BuiltShared.{built_candidature_row, built_quits, built_acknowledges}
use Rattle.tsp_rules.specs.MasterRows.{joins, sends_away, master_takes_kind, master_takes}
use Rattle.tsp_rules.specs.ResolveRows.{resolves, finds_rival, quits_rivals, resolve_rings}
use Rattle.tsp_rules.specs.CandidateRows.{lead_row, yields, window_rings, accepted_by, refused_by, candidate_takes_kind, candidate_takes}
use Rattle.tsp_base.specs.Words.{MessageValue, Row, is_correction, time_in, posts, ◌followed_by◌}

-- how the rows of a candidate are made

-- the end of a candidature
abbrev pub yield_sorts : List Sort
yield_sorts = Changing ∷ Alarming ∷ []

-- the end of the window, which alone makes a port master
abbrev pub window_sorts : List Sort
window_sorts = Leading ∷ loose_sorts

-- what a candidate's messages bring about, by their kind
abbrev pub candidate_sorts : Kind → List Sort
candidate_sorts Accept = Acking ∷ Counting ∷ []
candidate_sorts Refuse = Acking ∷ yield_sorts
candidate_sorts Ack = Acking ∷ []
candidate_sorts _ = quit_sorts

-- what any of them brings about
abbrev pub all_candidate_sorts : List Sort
all_candidate_sorts = Acking ∷ Counting ∷ Changing ∷ quit_sorts

candidate_part : (k : Kind) → is_part (candidate_sorts k) all_candidate_sorts ≡ true
candidate_part Ack = refl
candidate_part _ = refl

module _ {m : Naming} {o : Owed} where
  pub built_yields : Built m o yield_sorts 0 2 yields yields
  unfolding yields
  built_yields = Then (At (Puts (Become Loose) refl tt) refl) (Wider refl built_arms_elect)

  built_lead : Built m o window_sorts 1 2 lead_row lead_row
  unfolding lead_row
  built_lead = Then (At (Puts (Become Master) refl tt) refl) (Then (At (Arms Round ROUND tt) refl) (At (ToOthers MasterUp refl) refl))

  pub built_window_rings : m.stands → Built m o window_sorts 1 3 window_rings window_rings
  unfolding window_rings
  built_window_rings stands = whichever (InTime Window)
      (Then (At (Puts (Ring Window) refl tt) refl) (whichever (HasWon stands) built_lead (More (Wider refl built_yields) refl)))
      (More (Then (At (Puts (Late Window) refl tt) refl) (Wider refl built_yields)) refl)

  pub built_accepted_by : (p : PeerId) (number : ℕ) → m.known p → Built m o (candidate_sorts Accept) 0 2 (accepted_by p number)
      (accepted_by (m.names.peer p) number)
  unfolding accepted_by
  built_accepted_by p number known = whichever (HasElection p number) (Then (At (Puts (Acked p) refl known) refl) (At (Puts (Backer p) refl known) refl)) Empty

  pub built_refused_by : (p : PeerId) (number : ℕ) → m.known p → Built m o (candidate_sorts Refuse) 0 3 (refused_by p number)
      (refused_by (m.names.peer p) number)
  unfolding refused_by
  built_refused_by p number known = whichever (HasElection p number) (Then (At (Puts (Acked p) refl known) refl) (Wider refl built_yields)) Empty

  pub built_candidate_takes_kind : (p : PeerId) (msg : MessageValue) (k : Kind) → m.known p → o.of (ANumber msg.number) →
      Built m o (candidate_sorts k) 0 5 (candidate_takes_kind p msg k) (candidate_takes_kind (m.names.peer p) msg k)
  unfolding candidate_takes_kind
  built_candidate_takes_kind p msg MasterUp known is = More (Wider refl (built_follow_row p known)) refl
  built_candidate_takes_kind p msg MasterAck known is = More (Wider refl (built_follow_row p known)) refl
  built_candidate_takes_kind p msg Election known is = More (At (Posts p Refuse msg.number known is refl) refl) refl
  built_candidate_takes_kind p msg Accept known is = More (built_accepted_by p msg.number known) refl
  built_candidate_takes_kind p msg Refuse known is = More (built_refused_by p msg.number known) refl
  built_candidate_takes_kind p msg QuitKind known is = built_quits p msg.number known is
  built_candidate_takes_kind p msg Ack known is = More (built_acknowledges p msg.number known) refl
  built_candidate_takes_kind p msg _ known is = Empty

  pub built_candidate_takes : (p : PeerId) (msg : MessageValue) → m.known p → o.of (ANumber msg.number) →
      Built m o all_candidate_sorts 0 5 (candidate_takes p msg) (candidate_takes (m.names.peer p) msg)
  unfolding candidate_takes
  built_candidate_takes p msg known is = Wider (candidate_part msg.kind) (built_candidate_takes_kind p msg msg.kind known is)

-- how the rows are made that a master has for messages, with its resolutions

-- a question who else is master
abbrev pub question_sorts : List Sort
question_sorts = Posting ∷ Alarming ∷ []

-- the end of a resolution
abbrev pub resolve_sorts : List Sort
resolve_sorts = Numbering ∷ Alarming ∷ []

-- what a master's messages bring about
abbrev pub master_sorts : List Sort
master_sorts = Correcting ∷ Tabling ∷ Rivalling ∷ Acking ∷ Numbering ∷ quit_sorts

module _ {m : Naming} {o : Owed} where
  pub built_resolves : Built m o question_sorts 1 1 resolves resolves
  unfolding resolves
  built_resolves = whichever (Armed ResolveAlarm) Empty (Then (At (Arms ResolveAlarm WINDOW tt) refl) (At (ToOthers ResolveKind refl) refl))

  pub built_conflict : (p : PeerId) (number : ℕ) → m.known p → o.of (ANumber number) →
      Built m o question_sorts 1 2 (posts p Ack number followed_by resolves) (posts (m.names.peer p) Ack number followed_by resolves)
  built_conflict p number known is = Then (At (Posts p Ack number known is refl) refl) built_resolves

  pub built_finds_rival : (p : PeerId) → m.known p → Built m o (Rivalling ∷ []) 0 1 (finds_rival p) (finds_rival (m.names.peer p))
  unfolding finds_rival
  built_finds_rival p known = whichever (IsNewRival p) (At (Puts (Rival p) refl known) refl) Empty

  pub built_resolve_rings : Built m o resolve_sorts 1 1 resolve_rings resolve_rings
  unfolding resolve_rings quits_rivals
  built_resolve_rings = whichever (InTime ResolveAlarm)
      (Then (At (Puts (Ring ResolveAlarm) refl tt) refl) (Each _ Rivals (λ p known. built_begins QuitKind p known refl refl)))
      (More (At (Puts (Late ResolveAlarm) refl tt) refl) refl)

  pub built_joins : (p : PeerId) (number : ℕ) → m.known p → o.of (ANumber number) →
      Built m o (Correcting ∷ Tabling ∷ []) 0 2 (joins p number) (joins (m.names.peer p) number)
  unfolding joins
  built_joins p number known is = whichever (MayJoin p number) (Then (At (Puts (Join p) refl known) refl) (At (SettimeBegins p number known is) refl)) Empty

  pub built_sends_away : (p : PeerId) → m.known p → Built m o (Numbering ∷ []) 0 1 (sends_away p) (sends_away (m.names.peer p))
  unfolding sends_away
  built_sends_away p known = whichever (HasQuit p) Empty (built_begins QuitKind p known refl refl)

  pub built_master_takes_kind : (p : PeerId) (msg : MessageValue) (k : Kind) → m.known p → o.of (ANumber msg.number) →
      Built m o master_sorts 1 5 (master_takes_kind p msg k) (master_takes_kind (m.names.peer p) msg k)
  unfolding master_takes_kind
  built_master_takes_kind p msg MasterReq known is = More (At (Posts p MasterAck msg.number known is refl) refl) refl
  built_master_takes_kind p msg ResolveKind known is = More (At (Posts p MasterAck msg.number known is refl) refl) refl
  built_master_takes_kind p msg SlaveUp known is = More (Wider refl (built_joins p msg.number known is)) refl
  built_master_takes_kind p msg Election known is = More (Wider refl (built_sends_away p known)) refl
  built_master_takes_kind p msg MasterUp known is = More (Wider refl built_resolves) refl
  built_master_takes_kind p msg Conflict known is = More (Wider refl (built_conflict p msg.number known is)) refl
  built_master_takes_kind p msg MasterAck known is = More (Wider refl (built_finds_rival p known)) refl
  built_master_takes_kind p msg QuitKind known is = More (Wider refl (built_quits p msg.number known is)) refl
  built_master_takes_kind p msg Ack known is = More (Wider refl (built_acknowledges p msg.number known)) refl
  built_master_takes_kind p msg _ known is = Empty

  pub built_master_takes : (p : PeerId) (msg : MessageValue) → m.known p → o.of (ANumber msg.number) →
      Built m o master_sorts 1 5 (master_takes p msg) (master_takes (m.names.peer p) msg)
  unfolding master_takes
  built_master_takes p msg known is = built_master_takes_kind p msg msg.kind known is

-- how the rows are made of a port that is Starting, Loose or follows

-- acts that acknowledge a correction, and move the clock by it
abbrev pub repeat_sorts : List Sort
repeat_sorts = Posting ∷ Alarming ∷ []

abbrev pub correction_sorts : List Sort
correction_sorts = Moving ∷ repeat_sorts

-- what a slave's messages bring about, by their kind
abbrev pub slave_sorts : Kind → List Sort
slave_sorts AdjTime = correction_sorts
slave_sorts SetTime = correction_sorts
slave_sorts Ack = Acking ∷ []
slave_sorts _ = Numbering ∷ quit_sorts

-- what is no correction doesn't move the clock
abbrev pub unmoved_sorts : List Sort
unmoved_sorts = Acking ∷ Numbering ∷ quit_sorts

pub slave_part_unmoved : (k : Kind) → is_correction k ≡ false → is_part (slave_sorts k) unmoved_sorts ≡ true
slave_part_unmoved AdjTime e = absurd (true≢false e)
slave_part_unmoved SetTime e = absurd (true≢false e)
slave_part_unmoved _ e = refl

-- what is no ACK ends no send
abbrev pub open_sorts : List Sort
open_sorts = Moving ∷ Numbering ∷ quit_sorts

pub slave_part_open : (k : Kind) → k ≢ Ack → is_part (slave_sorts k) open_sorts ≡ true
slave_part_open Ack n = absurd (n refl)
slave_part_open _ n = refl

module _ {m : Naming} {o : Owed} where
  pub built_quiet_rings : Built m o loose_sorts 1 3 quiet_rings quiet_rings
  unfolding quiet_rings
  built_quiet_rings = Then (At (Puts (Ring Quiet) refl tt) refl) (Then (At (Puts (Become Loose) refl tt) refl) built_searches)

  pub built_search_rings : Built m o (Alarming ∷ []) 0 2 search_rings search_rings
  unfolding search_rings rings_or_late
  built_search_rings = Then (whichever (InTime Search) (At (Puts (Ring Search) refl tt) refl) (At (Puts (Late Search) refl tt) refl)) built_arms_elect

  pub built_loosens : Built m o loose_sorts 0 1 loosens loosens
  unfolding loosens
  built_loosens = whichever Follows (At (Puts (Become Loose) refl tt) refl) Empty

  pub built_elect_rings : Built m o standing_sorts 1 4 elect_rings elect_rings
  unfolding elect_rings
  built_elect_rings = whichever (InTime Elect)
      (Then (At (Puts (Ring Elect) refl tt) refl) (Either MayStand built_candidature_row (λ fails. More (Wider refl (Then built_loosens built_searches)) refl)))
      (More (Then (At (Puts (Late Elect) refl tt) refl) (Wider refl built_arms_elect)) refl)

  pub built_reports_conflict : (q : PeerId) → m.known q → Built m o (Numbering ∷ []) 0 1 (reports_conflict q) (reports_conflict (m.names.peer q))
  unfolding reports_conflict
  built_reports_conflict q known = whichever (IsFree q) (built_begins Conflict q known refl refl) Empty

  built_masterup : (p : PeerId) → m.known p → (r : Role) → known_role m r → Built m o (slave_sorts MasterUp) 0 3 (masterup_in p r)
      (masterup_in (m.names.peer p) (renamed_role m.names r))
  unfolding masterup_in
  built_masterup p known Loose told = Wider refl (built_follow_row p known)
  built_masterup p known (Follow q) told = If (q.0 == p.0) _ (m.same q p) (λ e. More (Wider refl (built_again p known)) refl)
      (More (Wider refl (built_reports_conflict q told)) refl)
  built_masterup p known _ told = Empty

  built_masterack : (p : PeerId) → m.known p → (r : Role) → known_role m r → Built m o (slave_sorts MasterAck) 0 3 (masterack_in p r)
      (masterack_in (m.names.peer p) (renamed_role m.names r))
  unfolding masterack_in
  built_masterack p known Loose told = whichever (Armed Search) (Wider refl (built_follow_row p known)) Empty
  built_masterack p known (Follow q) told = If (q.0 == p.0) _ (m.same q p) (λ e. Empty) (More (Wider refl (built_reports_conflict q told)) refl)
  built_masterack p known _ told = Empty

  built_from : {sorts : List Sort} {c : ℕ} (p : PeerId) (row row' : Row) → Built m o sorts 0 c row row' → (r : Role) →
      Built m o sorts 0 c (from_master p row r) (from_master (m.names.peer p) row' (renamed_role m.names r))
  unfolding from_master
  built_from p row row' d (Follow q) = If (q.0 == p.0) _ (m.same q p) (λ e. d) Empty
  built_from p row row' d _ = Empty

  module _ (p : PeerId) (number : ℕ) (known : m.known p) (is : o.of (ANumber number)) where
    pub built_election_of : Built m o quit_sorts 0 3 (election_of p number) (election_of (m.names.peer p) number)
    unfolding election_of
    built_election_of = whichever (MayBack p)
        (Then (At (Puts (Back p) refl tt) refl) (Then (Wider refl built_arms_elect) (At (Posts p Accept number known is refl) refl)))
        (More (At (Posts p Refuse number known is refl) refl) refl)

    pub built_acks_repeat : Built m o (Posting ∷ []) 0 1 (acks_repeat p number) (acks_repeat (m.names.peer p) number)
    unfolding acks_repeat
    built_acks_repeat = whichever (IsRepeated p number) (At (Posts p Ack number known is refl) refl) Empty

    built-confirms : Built m o correction_sorts 0 2 (confirms p number) (confirms (m.names.peer p) number)
    unfolding confirms
    built-confirms = Then (Wider refl built_arms_elect) (At (Posts p Ack number known is refl) refl)

    pub built_adjtime_of : (amount : ℤ) → Built m o correction_sorts 0 3 (adjtime_of p number amount) (adjtime_of (m.names.peer p) number amount)
    unfolding adjtime_of
    built_adjtime_of amount = whichever (TakesAmount number amount) (Then (At (Adjusts amount) refl) built-confirms) (More (Wider refl built_acks_repeat) refl)

    pub built_settime_of : (value : ℤ) → Built m o correction_sorts 0 3 (settime_of p number value) (settime_of (m.names.peer p) number value)
    unfolding settime_of
    built_settime_of value = whichever (TakesValue number value) (Then (At (Sets value) refl) built-confirms) (More (Wider refl built_acks_repeat) refl)

  pub built_slave_takes_kind : (p : PeerId) (msg : MessageValue) (k : Kind) → m.known p → o.of (ANumber msg.number) →
      Built m o (slave_sorts k) 0 5 (slave_takes_kind p msg k) (slave_takes_kind (m.names.peer p) msg k)
  unfolding slave_takes_kind
  built_slave_takes_kind p msg MasterUp known is = More (Reading _ RoleAt (built_masterup p known)) refl
  built_slave_takes_kind p msg MasterAck known is = More (Reading _ RoleAt (built_masterack p known)) refl
  built_slave_takes_kind p msg Election known is = More (Wider refl (built_election_of p msg.number known is)) refl
  built_slave_takes_kind p msg AdjTime known is = More (Reading _ RoleAt (λ r told. built_from p _ _ (built_adjtime_of p msg.number known is (time_in msg.body))
      r)) refl
  built_slave_takes_kind p msg SetTime known is = More (Reading _ RoleAt (λ r told. built_from p _ _ (built_settime_of p msg.number known is (time_in msg.body))
      r)) refl
  built_slave_takes_kind p msg QuitKind known is = Wider refl (built_quits p msg.number known is)
  built_slave_takes_kind p msg Ack known is = More (built_acknowledges p msg.number known) refl
  built_slave_takes_kind p msg _ known is = Empty

  pub built_slave_takes : (p : PeerId) (msg : MessageValue) → m.known p → o.of (ANumber msg.number) →
      Built m o (slave_sorts msg.kind) 0 5 (slave_takes p msg) (slave_takes (m.names.peer p) msg)
  unfolding slave_takes
  built_slave_takes p msg known is = built_slave_takes_kind p msg msg.kind known is
