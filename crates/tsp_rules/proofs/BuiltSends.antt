-- How the rows of sends are made: those that begin a correction, and those that are due.
use Rattle.std.specs.Prelude.{◌≡◌, ℕ, ℤ, true, List, [], ◌∷◌, Some, refl}
use Rattle.tsp_rules.specs.Values.{Gave, Leave, Kind, AdjTime, SetDateReq, PeerId}
use Rattle.tsp_base.specs.Words.{Sending, is_correction}
use Rattle.tsp_rules.specs.SendRows.{begins_adjtime, begins_settime, leaves_after, gives_up, repeats_send, due_send, due_sends}
use Rattle.tsp_rules.proofs.Emits.{Sort, Correcting, Passing, Numbering, Posting, Tabling, Giving, is_part, sort_of_kind}
use Rattle.tsp_rules.specs.Renames.{Naming, later_send}
use Rattle.tsp_rules.proofs.RowCodes.{ANumber, ASend, ATime, Owed, Puts, PostsTime, Repeats, SettimeBegins, IsSendDue, IsSlave, IsSpent, MayCorrect}
use Rattle.tsp_rules.proofs.Built.{Built, Empty, At, Then, EachSend, If, More, whichever}

-- due sends: repeats of any kind of message, and what is given up
abbrev pub send_sorts : List Sort
send_sorts = Correcting ∷ Passing ∷ Numbering ∷ Posting ∷ Giving ∷ Tabling ∷ []

kind_sent : (k : Kind) → is_part (sort_of_kind k ∷ []) send_sorts ≡ true
kind_sent SetDateReq = refl
kind_sent _ = refl

module _ {m : Naming} {o : Owed} where
  pub built_begins_settime : (p : PeerId) (number : ℕ) → m.known p → o.of (ANumber number) →
      Built m o (Correcting ∷ []) 0 1 (begins_settime p number) (begins_settime (m.names.peer p) number)
  built_begins_settime p number known is = At (SettimeBegins p number known is) refl

  pub built_begins_adjtime : (p : PeerId) (number : ℕ) (amount : ℤ) → m.known p → o.of (ANumber number) → o.of (ATime amount) →
      Built m o (Correcting ∷ []) 0 1 (begins_adjtime p number amount) (begins_adjtime (m.names.peer p) number amount)
  unfolding begins_adjtime
  built_begins_adjtime p number amount known is time = whichever (MayCorrect p number) (At (PostsTime p AdjTime number amount known is time refl) refl) Empty

  built_leaves : (p : PeerId) (k : Kind) → m.known p → Built m o send_sorts 0 1 (leaves_after p k) (leaves_after (m.names.peer p) k)
  unfolding leaves_after
  built_leaves p k known = If (is_correction k) _ refl (λ e. whichever (IsSlave p) (At (Puts (Leave p) refl known) refl) Empty) Empty

  built_repeats : (p : PeerId) → m.known p → (s : Sending) → o.of (ASend (Some s)) →
      Built m o send_sorts 0 2 (repeats_send p (Some s)) (repeats_send (m.names.peer p) (Some (later_send m.names s)))
  unfolding repeats_send gives_up
  built_repeats p known s is = whichever (IsSendDue s)
      (whichever (IsSpent s) (Then (At (Puts (Gave p) refl known) refl) (built_leaves p s.message.kind known))
      (More (At (Repeats p s known is) (kind_sent s.message.kind)) refl)) Empty

  pub built_due_sends : Built m o send_sorts 2 0 due_sends due_sends
  unfolding due_sends due_send repeats_send
  built_due_sends = EachSend repeats_send repeats_send (λ p. refl) (λ p. refl) built_repeats
