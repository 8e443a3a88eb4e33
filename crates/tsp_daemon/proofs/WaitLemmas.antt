-- How long receives wait, turn by turn.
use Rattle.std.proofs.Common.{ap, inl, inr, sym, subst, ◌∙◌, append_assoc, append-nil, arith, ◌≡◌, ℕ, suc, ◌+◌, List, [], ◌∷◌, ◌++◌, Option, None, Some, refl}
use Rattle.tsp_gateway.specs.{Dues.IsNodeDue, GatewayStands.GatewayStands, declared.gateway.Gateway.Gateway}
use Rattle.tsp_io.specs.{Clocks.TakesReading, Links.Arrival, Links.NotesReceive, Links.Tried}
use Rattle.tsp_rules.specs.NodeRows.{NodePast}
use Rattle.tsp_daemon.specs.declared.end.ServeEnd.TheVariants.{Done, OutOfMemory}
use Rattle.tsp_daemon.specs.{Waits.NotesTurn, Waits.NotesWait, Waits.NotesWaits, Waits.wait_until, declared.end.ServeEnd.ServeEnd}
use Rattle.tsp_daemon.specs.{Sessions.Session, Sessions.after_turns, Sessions.read_once, Ends.EndsTurn, Ends.IsReceived}
use Rattle.tsp_query.{proofs.AskLemmas.reading_taken, specs.Clocks.tick_given, specs.Ends.Outside, specs.Ends.KnowsExactly}

-- the first reading of a turn
pub first_reading : (o : Outside) (arrivals : Option (List Arrival)) (tried : Option (List Tried)) (calls : Option ℕ) (readings between : Option (List ℕ))
    (last first : ℕ) →
    KnowsExactly o arrivals tried calls readings last → TakesReading readings between last first → first ≡ (read_once o).last
first_reading o arrivals tried calls readings between last first t takes = (reading_taken o.readings readings between last first t.readings_are takes).1 ∙
    ap (λ n. tick_given n o.readings 0) t.last_is

-- a receive that waits until the node is due
pub wait_noted : (s : Session) (node : Gateway) (due first wait : ℕ) (waits now : Option (List ℕ)) → GatewayStands s.past node →
    ((past : NodePast) → GatewayStands past node → IsNodeDue past due) →
    first ≡ (read_once s.outside).last → wait ≡ wait_until due first → NotesReceive waits now wait → NotesWait s waits now
wait_noted s node due first wait waits now stands due_is first_is is n = (
  wait,
  record {
    due = due;
    due_is = due_is s.past stands;
    is = is ∙
        ap (λ x. wait_until due x) first_is;
  },
  n,
)

-- one receive more
pub more_noted : (s : Session) (n : ℕ) (waits between now : Option (List ℕ)) → NotesWaits s n waits between → NotesWait (after_turns n s) between now →
    NotesWaits s (suc n) waits now
more_noted s n waits between None w one = tt
more_noted s n waits None (Some now) w one = absurd one.2
more_noted s n None (Some between) (Some now) w one = absurd w
more_noted s n (Some before) (Some between) (Some now) w one =
    (w.0 ++ one.0 ∷ [], one.2 ∙ (ap (λ (ws : List ℕ). ws ++ one.0 ∷ []) w.1 ∙ append_assoc before w.0 (one.0 ∷ [])), (w.0, one.0, refl, w.2, one.1))

pub one_more_noted : (s : Session) (n : ℕ) (waits between now : Option (List ℕ)) → NotesWaits s n waits between → NotesWait (after_turns n s) between now →
    NotesWaits s (n + 1) waits now
one_more_noted s n waits between now w one = let next : suc n ≡ n + 1 = omega arith in
    subst (λ k. NotesWaits s k waits now) next (more_noted s n waits between now w one)

-- what is noted where a turn ends the session
pub until_noted : (i : ℕ) (s : Session) (waits between now : Option (List ℕ)) (arrivals : Option (List Arrival)) (tried : Option (List Tried))
    (calls : Option ℕ) (readings : Option (List ℕ)) (last : ℕ) (written : Option (List ℕ)) (end : ServeEnd) →
    EndsTurn (after_turns i s) arrivals tried calls readings last written end → NotesWaits s i waits between → NotesTurn (after_turns i s) between now end →
    (received : ℕ) × IsReceived i received end × NotesWaits s received waits now
until_noted i s waits between now arrivals tried calls readings last written Done ends w n = absurd ends
until_noted i s waits between now arrivals tried calls readings last written OutOfMemory ends w n = elim n [
  | inl same ↦ (i, inl refl, subst (λ ws. NotesWaits s i waits ws) (sym same) w)
  | inr one ↦ (i + 1, inr refl, one_more_noted s i waits between now w one)
]
until_noted i s waits between now arrivals tried calls readings last written _ ends w n = (i + 1, refl, one_more_noted s i waits between now w n)

-- a turn that noted its receive, however it ends
pub turn_noted : (s : Session) (waits now : Option (List ℕ)) (end : ServeEnd) → NotesWait s waits now → NotesTurn s waits now end
turn_noted s waits now OutOfMemory n = inr n
turn_noted s waits now _ n = n

-- before the first turn no receive was made
pub none_noted : (s : Session) (waits : Option (List ℕ)) → NotesWaits s 0 waits waits
none_noted s None = tt
none_noted s (Some before) = ([], sym (append-nil before), refl)
