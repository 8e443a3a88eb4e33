-- How the rows are made that several roles share.
use Rattle.std.specs.Prelude.{◌≡◌, ℕ, Bool, true, List, [], ◌∷◌, refl}
use Rattle.tsp_rules.specs.Values.{Become, Back, Acked, Quit, Trace, Search, Elect, Window, Kind, Ack, Election, MasterReq, SlaveUp, PeerId, Place, Role}
use Rattle.tsp_rules.specs.Values.{Follow, Candidate, WINDOW}
use Rattle.tsp_base.specs.Words.{◌followed_by◌}
use Rattle.tsp_rules.specs.CommonRows.{arms_elect, searches, tells_ticket, follow_row, backs_own, candidature_row, follows_unless, quits, names_master}
use Rattle.tsp_rules.specs.CommonRows.{says_master, traces, tests, replies}
use Rattle.tsp_rules.specs.SendRows.{acknowledges, begins, begins_to_others}
use Rattle.tsp_rules.proofs.Emits.{Sort, Numbering, Posting, Following, Changing, Backing, Alarming, Acking, Tracing, is_part, sort_of_kind}
use Rattle.tsp_rules.specs.Renames.{Naming, known_place, renamed_place, renamed_role}
use Rattle.tsp_rules.proofs.RowCodes.{ANumber, APlace, AStamp, Owed, Puts, Arms, Posts, PostsBack, PostsName, PostsReply, ToOthers, DelayAt, OwnAt, RoleAt}
use Rattle.tsp_rules.proofs.RowCodes.{MasterName, NextNumber, TicketAt, Others, HasOther, IsAwake, IsMaster, MayBeAsked, is_bare}
use Rattle.tsp_rules.proofs.Built.{Built, Empty, At, Then, Either, Reading, ReadingValue, Each, Wider, whichever}

-- acts that follow a master
abbrev pub follow_sorts : List Sort
follow_sorts = Posting ∷ Following ∷ Alarming ∷ []

-- the same after a QUIT
abbrev pub quit_sorts : List Sort
quit_sorts = Backing ∷ follow_sorts

-- acts of a port that gives its master up or looks for one
abbrev pub loose_sorts : List Sort
loose_sorts = Posting ∷ Changing ∷ Backing ∷ Alarming ∷ []

-- acts that stand for election
abbrev pub standing_sorts : List Sort
standing_sorts = Numbering ∷ loose_sorts

-- acts that answer anybody
abbrev pub client_sorts : List Sort
client_sorts = Tracing ∷ standing_sorts

module _ {m : Naming} {o : Owed} where
  pub built_arms_elect : Built m o (Alarming ∷ []) 0 1 arms_elect arms_elect
  unfolding arms_elect
  built_arms_elect = Reading _ DelayAt (λ long told. At (Arms Elect long tt) refl)

  pub built_searches : Built m o loose_sorts 1 1 searches searches
  unfolding searches
  built_searches = Then (At (Arms Search WINDOW tt) refl) (At (ToOthers MasterReq refl) refl)

  pub built_again : (p : PeerId) → m.known p → Built m o follow_sorts 0 2 (arms_elect followed_by tells_ticket p)
      (arms_elect followed_by tells_ticket (m.names.peer p))
  unfolding tells_ticket
  built_again p known = Then (Wider refl built_arms_elect) (ReadingValue _ TicketAt (λ n is. At (Posts p SlaveUp n known is refl) refl))

  pub built_follow_row : (p : PeerId) → m.known p → Built m o follow_sorts 0 3 (follow_row p) (follow_row (m.names.peer p))
  unfolding follow_row
  built_follow_row p known = Then (At (Puts (Become (Follow p)) refl known) refl) (built_again p known)

  -- a send with the port's own number, of a kind whose acts are allowed
  pub built_begins : {sorts : List Sort} (kind : Kind) (p : PeerId) → m.known p → is_bare kind ≡ true → is_part (sort_of_kind kind ∷ []) sorts ≡ true →
      Built m o sorts 0 1 (begins kind p) (begins kind (m.names.peer p))
  unfolding begins
  built_begins kind p known fits e = ReadingValue _ NextNumber (λ n is. At (Posts p kind n known is fits) e)

  pub built_candidature_row : m.stands → Built m o standing_sorts 1 3 candidature_row candidature_row
  unfolding candidature_row backs_own begins_to_others
  built_candidature_row stands =
      Then (At (Puts (Become Candidate) refl stands) refl)
      (Then (Reading _ OwnAt (λ own told. At (Puts (Back own) refl tt) refl))
      (Then (At (Arms Window WINDOW stands) refl) (Each _ Others (λ p known. built_begins Election p known refl refl))))

  built_unless : (p : PeerId) (r : Role) → m.known p → Built m o quit_sorts 0 3 (follows_unless p r) (follows_unless (m.names.peer p) (renamed_role m.names r))
  unfolding follows_unless
  built_unless p (Follow q) known = Empty
  built_unless p _ known = Wider refl (built_follow_row p known)

  pub built_quits : (p : PeerId) (number : ℕ) → m.known p → o.of (ANumber number) → Built m o quit_sorts 0 5 (quits p number) (quits (m.names.peer p) number)
  unfolding quits
  built_quits p number known is = Then (At (Puts (Quit p) refl known) refl) (Then (At (Posts p Ack number known is refl) refl)
      (Reading _ RoleAt (λ r told. built_unless p r known)))

  pub built_acknowledges : (p : PeerId) (number : ℕ) → m.known p → Built m o (Acking ∷ []) 0 1 (acknowledges p number) (acknowledges (m.names.peer p) number)
  unfolding acknowledges
  built_acknowledges p number known = whichever (HasOther p number) (At (Puts (Acked p) refl known) refl) Empty

  -- what anybody may ask
  pub built_replies : (from : Place) (word counter : ℕ) → known_place m from → o.of (APlace from) → o.of (AStamp word counter) →
      Built m o (Posting ∷ []) 0 1 (replies from word counter) (replies (renamed_place m.names from) word counter)
  built_replies from word counter known back is = At (PostsReply from word counter known back is) refl

  module _ (from : Place) (number : ℕ) (known : known_place m from) (back : o.of (APlace from)) (is : o.of (ANumber number)) where
    pub built_names_master : Built m o (Posting ∷ []) 0 1 (names_master from number) (names_master (renamed_place m.names from) number)
    unfolding names_master
    built_names_master = ReadingValue _ MasterName (λ name named. At (PostsName from number name known back is named) refl)

    pub built_says_master : Built m o (Posting ∷ []) 0 1 (says_master from number) (says_master (renamed_place m.names from) number)
    unfolding says_master
    built_says_master = whichever IsMaster (At (PostsBack from Ack number known back is refl) refl) Empty

    pub built_traces : (on : Bool) → Built m o (Tracing ∷ Posting ∷ []) 0 2 (traces from number on) (traces (renamed_place m.names from) number on)
    unfolding traces
    built_traces on = Then (At (Puts (Trace on) refl tt) refl) (At (PostsBack from Ack number known back is refl) refl)

    pub built_tests : Built m o standing_sorts 1 4 (tests from number) (tests (renamed_place m.names from) number)
    unfolding tests
    built_tests = whichever IsAwake (Then (At (PostsBack from Ack number known back is refl) refl) (Either MayBeAsked built_candidature_row (λ fails. Empty)))
        Empty
