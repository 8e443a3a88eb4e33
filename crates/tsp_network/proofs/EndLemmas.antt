-- What `serve` says a daemon had tried when it ended in a turn is what the network has of it.
use Rattle.std.proofs.Math.Seq.{take-append_seam}
use Rattle.std.proofs.Common.{subst, sym, ap, inl, inr, append_assoc, append-nil, ◌∙◌, ◌≡◌, ℕ, List, [], ◌++◌, length, take, Option, Some}
use Rattle.tsp_base.specs.Words.{Step}
use Rattle.tsp_io.specs.Links.{Arrival, Tried}
use Rattle.tsp_rules.specs.Values.{Event}
use Rattle.tsp_query.specs.{Ends.Outside, Outside.after_bind}
use Rattle.tsp_daemon.specs.{Ends.ServesUntil, Posts.sends_of, Sessions.Session, Sessions.acts_in_turn, Serving.first_session, declared.end.ServeEnd.ServeEnd}
use Rattle.tsp_daemon.specs.declared.end.ServeEnd.TheVariants.{Done, LinkFault, WriteFault, OutOfMemory}
use Rattle.tsp_network.specs.{Lives.Daemons, Lives.Life, Lives.session_of, Lives.turn_acts, Lives.turn_told}
use Rattle.tsp_network.specs.{Networks.network, Told.IsTold, Told.IsTriedSo, Told.ServedIsTried, Told.told_session}
use Rattle.tsp_network.proofs.{NetworksKeep.all_tried, NetworksKeep.ends_after, ToldLemmas.sessions_are_told}

module _ (d : Daemons) (events : List Event) (step : Step) (life : Life) (o : Outside) (written : List ℕ) (there : (network d events).lives step.node ≡
    Some life) (told : IsTold o life.wall life.word life) where
  -- the session when the turn began
  abbrev began : Session
  began = told_session (d.words step.node) o life.wall life.word written life

  far : began.outside.tried ≡ o.tried ++ (session_of (d.words step.node) life).outside.tried
  far = (sessions_are_told.far (d.words step.node) o life.wall life.word written life told).tried

  -- nothing more was tried
  before_turn : (tried : Option (List Tried)) → tried ≡ Some began.outside.tried → IsTriedSo d events step o life tried
  before_turn tried is = inl (is ∙ ap (λ l. Some l) (far ∙ ap (λ l. o.tried ++ l) (all_tried d events step.node life there).tried))

  -- the first of the turn's sends were tried
  in_turn : (tried : Option (List Tried)) (part rest : List Tried) → sends_of (acts_in_turn began) ≡ part ++ rest → tried ≡ Some (began.outside.tried ++ part) →
      IsTriedSo d events step o life tried
  in_turn tried part rest cut is = inr (
    length part,
    λ arrival early tick later ends.
        let now : Life = turn_told arrival early tick life in
        let acts = sessions_are_told.acts (d.words step.node) o life.wall life.word written life arrival early tick told later in
        let sends : sends_of (turn_acts (d.words step.node) life now) ≡ part ++ rest = ap sends_of (sym acts) ∙ cut in
        let all = ends_after d events step life now (length part) there ends in
        let mine : List Tried = (session_of (d.words step.node) life).outside.tried in
        is ∙ ap (λ l. Some l) (ap (λ l. l ++ part) far ∙ append_assoc o.tried mine part
        ∙ ap (λ l. o.tried ++ l) (sym (all ∙ ap (λ l. mine ++ take (length part) l) sends ∙ ap (λ l. mine ++ l) (take-append_seam part rest)))),
  )

  all_of_turn : (tried : Option (List Tried)) → tried ≡ Some (began.outside.tried ++ sends_of (acts_in_turn began)) → IsTriedSo d events step o life tried
  all_of_turn tried is = in_turn tried (sends_of (acts_in_turn began)) [] (sym (append-nil (sends_of (acts_in_turn began)))) is

  until_end : (turns : ℕ) (arrivals : Option (List Arrival)) (tried : Option (List Tried)) (calls : Option ℕ) (readings : Option (List ℕ)) (last : ℕ)
      (shown : Option (List ℕ)) (end : ServeEnd) →
      ServesUntil turns (length life.arrivals) (first_session (d.words step.node) (after_bind o) life.wall life.word written) arrivals tried calls readings last
      shown end →
      IsTriedSo d events step o life tried
  until_end turns arrivals tried calls readings last shown Done e = before_turn tried e.1.tried_are
  until_end turns arrivals tried calls readings last shown LinkFault e = before_turn tried e.1.0.tried_are
  until_end turns arrivals tried calls readings last shown WriteFault e = all_of_turn tried e.1.0.tried_are
  until_end turns arrivals tried calls readings last shown OutOfMemory e = elim e.1 [
    | inl h ↦ before_turn tried h.0.tried_are
    | inr h ↦ elim h [
      | inl h ↦ in_turn tried h.0 h.1 h.3 h.4.tried_are
      | inr h ↦ all_of_turn tried h.0.tried_are
    ]
  ]

pub served_is_tried : ServedIsTried
served_is_tried d events step life o written waits page now served there told by count =
    until_end d events step life o written there told (d.words step.node).turns now.arrivals now.tried now.calls now.readings now.last now.written by.end
    (subst (λ n. ServesUntil (d.words step.node).turns n (first_session (d.words step.node) (after_bind o) life.wall life.word written)
    now.arrivals now.tried now.calls now.readings now.last now.written by.end) count by.serves)
