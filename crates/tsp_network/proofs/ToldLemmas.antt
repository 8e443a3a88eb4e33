-- A session whose outside is told to its end comes, turn after turn, as far as that of a life that has been told the beginning.
use Rattle.std.proofs.Common.{sym, ap, arith, append_assoc, append-nil, length-append, ◌∙◌, ◌≡◌, ℕ, zero, suc, ◌+◌, ◌*◌, ◌≤◌, ◌||◌, ℤ, List, [], ◌∷◌, ◌++◌}
use Rattle.std.proofs.Common.{length, refl}
use Rattle.tsp_args.specs.declared.serve.ServeWords.{ServeWords}
use Rattle.tsp_base.specs.Words.{dids, tracing}
use Rattle.tsp_io.specs.Links.{Arrival, Tried}
use Rattle.tsp_query.specs.{Arrivals.all_but_first, Arrivals.next_arrival, Clocks.tick_given, Ends.Outside, Outside.after_bind}
use Rattle.tsp_rules.specs.{GateRows.answers_all, NodeRows.NodePast, NodeRows.spread}
use Rattle.tsp_daemon.specs.{Nodes.first_past, Posts.sends_of, Posts.shown_lines, Serving.first_session}
use Rattle.tsp_daemon.specs.Sessions.{Session, acts_in_turn, after_turns, given_in, given_of, past_after, shown_by_turn, turn_begun, turn_tick, turned}
use Rattle.tsp_network.specs.Lives.{Life, outside_of, session_of, turn_acts, turn_told}
use Rattle.tsp_network.specs.Told.{ComesAsFar, IsTold, SessionsAreTold, told_session}

-- one session has come as far as another, with what it had tried and written before, and with more to come after what comes to the other
record Ahead (tr : List Tried) (wr : List ℕ) (arrivals : List Arrival) (readings : List ℕ) (whole told : Session) : Type 0 where
  pub past : whole.past ≡ told.past
  pub arrivals_are : whole.outside.arrivals ≡ told.outside.arrivals ++ arrivals
  pub readings_are : whole.outside.readings ≡ told.outside.readings ++ readings
  pub tried : whole.outside.tried ≡ tr ++ told.outside.tried
  pub turns : whole.turns ≡ told.turns
  pub posts : whole.posts ≡ told.posts
  pub shown : whole.written ≡ wr ++ told.written

module _ {tr : List Tried} {wr : List ℕ} {arrivals : List Arrival} {readings : List ℕ} {whole told : Session} (h : Ahead tr wr arrivals readings whole told)
    (a : Arrival) (left : List Arrival) (e t : ℕ) (more : List ℕ) (came : told.outside.arrivals ≡ a ∷ left) (read : told.outside.readings ≡ e ∷ t ∷ more) where
  given_same : given_in whole ≡ given_in told
  given_same =
      ap (λ (p : NodePast). given_of p.ports (next_arrival whole.outside.arrivals)) h.past
      ∙ ap (λ l. given_of told.past.ports (next_arrival l)) (h.arrivals_are ∙ ap (λ l. l ++ arrivals) came)
      ∙ sym (ap (λ l. given_of told.past.ports (next_arrival l)) came)

  tick_same : turn_tick whole ≡ turn_tick told
  tick_same =
      ap (λ l. tick_given (tick_given whole.outside.last l 0) (all_but_first l) 0) (h.readings_are ∙ ap (λ l. l ++ readings) read)
      ∙ sym (ap (λ l. tick_given (tick_given told.outside.last l 0) (all_but_first l) 0) read)

  -- both do the same in this turn
  acts_same : acts_in_turn whole ≡ acts_in_turn told
  acts_same =
      ap (λ g. answers_all g (turn_tick whole) (turn_begun g (turn_tick whole) whole.past)) given_same
      ∙ ap (λ x. answers_all (given_in told) x (turn_begun (given_in told) x whole.past)) tick_same
      ∙ ap (λ p. answers_all (given_in told) (turn_tick told) (turn_begun (given_in told) (turn_tick told) p)) h.past

  past_same : past_after whole ≡ past_after told
  past_same =
      ap (λ acts. spread (turn_tick whole) (turn_begun (given_in whole) (turn_tick whole) whole.past) acts) acts_same
      ∙ ap (λ g. spread (turn_tick whole) (turn_begun g (turn_tick whole) whole.past) (acts_in_turn told)) given_same
      ∙ ap (λ x. spread x (turn_begun (given_in told) x whole.past) (acts_in_turn told)) tick_same
      ∙ ap (λ p. spread (turn_tick told) (turn_begun (given_in told) (turn_tick told) p) (acts_in_turn told)) h.past

  shown_same : shown_by_turn whole ≡ shown_by_turn told
  shown_same =
      ap (λ (p : NodePast). shown_lines (tracing (dids p.lines) || tracing (dids (past_after whole).lines)) (whole.turns + 1) (turn_tick whole) whole.posts
      (acts_in_turn whole)) h.past
      ∙ ap (λ (p : NodePast). shown_lines (tracing (dids told.past.lines) || tracing (dids p.lines)) (whole.turns + 1) (turn_tick whole) whole.posts
      (acts_in_turn whole)) past_same
      ∙ ap (λ n. shown_lines (tracing (dids told.past.lines) || tracing (dids (past_after told).lines)) (n + 1) (turn_tick whole) whole.posts
      (acts_in_turn whole)) h.turns
      ∙ ap (λ x. shown_lines (tracing (dids told.past.lines) || tracing (dids (past_after told).lines)) (told.turns + 1) x whole.posts (acts_in_turn whole))
      tick_same
      ∙ ap (λ n. shown_lines (tracing (dids told.past.lines) || tracing (dids (past_after told).lines)) (told.turns + 1) (turn_tick told) n
      (acts_in_turn whole)) h.posts
      ∙ ap (λ acts. shown_lines (tracing (dids told.past.lines) || tracing (dids (past_after told).lines)) (told.turns + 1) (turn_tick told) told.posts acts)
      acts_same

  -- and are as far after it
  ahead_turned : Ahead tr wr arrivals readings (turned whole) (turned told)
  ahead_turned = record {
    past = past_same;
    arrivals_are = ap (λ l. all_but_first l) (h.arrivals_are ∙ ap (λ l. l ++ arrivals) came) ∙ sym (ap (λ l. all_but_first l ++ arrivals) came);
    readings_are = ap (λ l. all_but_first (all_but_first l)) (h.readings_are ∙ ap (λ l. l ++ readings) read) ∙
        sym (ap (λ l. all_but_first (all_but_first l) ++ readings) read);
    tried = ap (λ l. l ++ sends_of (acts_in_turn whole)) h.tried ∙ ap (λ acts. (tr ++ told.outside.tried) ++ sends_of acts) acts_same ∙
        append_assoc tr told.outside.tried (sends_of (acts_in_turn told));
    turns = ap (λ n. n + 1) h.turns;
    posts = ap (λ n. n + length (sends_of (acts_in_turn whole))) h.posts ∙ ap (λ acts. told.posts + length (sends_of acts)) acts_same;
    shown = ap (λ l. l ++ shown_by_turn whole) h.shown ∙ ap (λ l. (wr ++ told.written) ++ l) shown_same ∙ append_assoc wr told.written (shown_by_turn told);
  }

-- both sessions after k of n turns that were told
record At (tr : List Tried) (wr : List ℕ) (arrivals : List Arrival) (readings : List ℕ) (n k : ℕ) (whole told : Session) : Type 0 where
  pub ahead : Ahead tr wr arrivals readings whole told
  pub arrivals_left : length told.outside.arrivals + k ≡ n
  pub readings_left : length told.outside.readings + 2 * k ≡ 2 * n

module _ {tr : List Tried} {wr : List ℕ} {arrivals : List Arrival} {readings : List ℕ} {n k : ℕ} {whole told : Session}
    (h : At tr wr arrivals readings n k whole told) (later : suc k ≤ n) where
  -- what is told in the next turn
  record Next : Type 0 where
    pub a : Arrival
    pub left : List Arrival
    pub e : ℕ
    pub t : ℕ
    pub more : List ℕ
    pub came : told.outside.arrivals ≡ a ∷ left
    pub read : told.outside.readings ≡ e ∷ t ∷ more

  next : Next
  next = by_lists told.outside.arrivals told.outside.readings refl refl h.arrivals_left h.readings_left where
    by_lists : (ls : List Arrival) (rs : List ℕ) → told.outside.arrivals ≡ ls → told.outside.readings ≡ rs → length ls + k ≡ n → length rs + 2 * k ≡ 2 * n →
        Next
    by_lists [] rs came read few some = absurd (omega (arith, few, later))
    by_lists (a ∷ left) [] came read few some = absurd (omega (arith, some, later))
    by_lists (a ∷ left) (e ∷ []) came read few some = absurd (omega (arith, some, later))
    by_lists (a ∷ left) (e ∷ t ∷ more) came read few some = record { a = a; left = left; e = e; t = t; more = more; came = came; read = read }

  next_acts : acts_in_turn whole ≡ acts_in_turn told
  next_acts = acts_same h.ahead next.a next.left next.e next.t next.more next.came next.read

  next_at : At tr wr arrivals readings n (suc k) (turned whole) (turned told)
  next_at =
      let m = next in
      let few = h.arrivals_left in
      let some = h.readings_left in
      let came : length told.outside.arrivals ≡ suc (length m.left) = ap (λ l. length l) m.came in
      let read : length told.outside.readings ≡ suc (suc (length m.more)) = ap (λ l. length l) m.read in
      let left : length (all_but_first told.outside.arrivals) ≡ length m.left = ap (λ l. length (all_but_first l)) m.came in
      let more : length (all_but_first (all_but_first told.outside.readings)) ≡ length m.more = ap (λ l. length (all_but_first (all_but_first l))) m.read in
      record {
        ahead = ahead_turned h.ahead m.a m.left m.e m.t m.more m.came m.read;
        arrivals_left = omega (arith, few, came, left);
        readings_left = omega (arith, some, read, more);
      }

module _ (s : ServeWords) (o : Outside) (wall : ℤ) (word : ℕ) (written : List ℕ) (life : Life) (told : IsTold o wall word life) where
  first_at : At o.tried written told.arrivals_left told.readings_left (length life.arrivals) 0 (first_session s (after_bind o) wall word written)
      (first_session s (after_bind (outside_of life)) life.wall life.word [])
  first_at = by_readings life.readings refl where
    by_readings : (l : List ℕ) → life.readings ≡ l → At o.tried written told.arrivals_left told.readings_left (length life.arrivals) 0
        (first_session s (after_bind o) wall word written) (first_session s (after_bind (outside_of life)) life.wall life.word [])
    by_readings [] e =
        let count = told.count in
        let none : length life.readings ≡ 0 = ap (λ l. length l) e in
        absurd (omega (arith, count, none))
    by_readings (r ∷ rest) e =
        let count = told.count in
        let some : length life.readings ≡ suc (length rest) = ap (λ l. length l) e in
        let left : length (all_but_first life.readings) ≡ length rest = ap (λ l. length (all_but_first l)) e in
        let all : o.readings ≡ (r ∷ rest) ++ told.readings_left = told.readings_are ∙ ap (λ l. l ++ told.readings_left) e in
        record {
          ahead = record {
            past = ap (λ l. first_past s (tick_given o.last l 0) wall word) all
                ∙ ap (λ w. first_past s r w word) (sym told.wall_is) ∙ ap (λ w. first_past s r life.wall w) (sym told.word_is)
                ∙ sym (ap (λ l. first_past s (tick_given 0 l 0) life.wall life.word) e);
            arrivals_are = told.arrivals_are;
            readings_are = ap (λ l. all_but_first l) all ∙ sym (ap (λ l. all_but_first l ++ told.readings_left) e);
            tried = sym (append-nil o.tried);
            turns = refl;
            posts = refl;
            shown = sym (append-nil written);
          };
          arrivals_left = omega arith;
          readings_left = omega (arith, count, some, left);
        }

  after_at : (k : ℕ) → k ≤ length life.arrivals → At o.tried written told.arrivals_left told.readings_left (length life.arrivals) k
      (after_turns k (first_session s (after_bind o) wall word written)) (after_turns k (first_session s (after_bind (outside_of life)) life.wall life.word []))
  after_at zero few = first_at
  after_at (suc k) few = next_at (after_at k (omega (arith, few))) few

sessions_far : (s : ServeWords) (o : Outside) (wall : ℤ) (word : ℕ) (written : List ℕ) (life : Life) → IsTold o wall word life →
    ComesAsFar o written (told_session s o wall word written life) (session_of s life)
sessions_far s o wall word written life told =
    let a = (after_at s o wall word written life told (length life.arrivals) (omega arith)).ahead in
    record { past = a.past; tried = a.tried; turns = a.turns; posts = a.posts; shown = a.shown }

sessions_act : (s : ServeWords) (o : Outside) (wall : ℤ) (word : ℕ) (written : List ℕ) (life : Life) (arrival : Arrival) (early tick : ℕ) →
    IsTold o wall word life → IsTold o wall word (turn_told arrival early tick life) →
    acts_in_turn (told_session s o wall word written life) ≡ turn_acts s life (turn_told arrival early tick life)
sessions_act s o wall word written life arrival early tick told later =
    let more = length-append life.arrivals (arrival ∷ []) in
    next_acts (after_at s o wall word written (turn_told arrival early tick life) later (length life.arrivals) (omega (arith, more))) (omega (arith, more))

pub sessions_are_told : SessionsAreTold
sessions_are_told = record { far = sessions_far; acts = sessions_act }
