use Rattle.std.proofs.Common.{◌≡◌, inl, inr, refl, rules, subst, List, ◌∷◌}
use Rattle.tsp_args.specs.Ports.{all_peers}
use Rattle.tsp_io.specs.{Links.NotesReceive, declared.addr.Addr.Addr}
use Rattle.tsp_query.{proofs.FaultLemmas.Counts_from, proofs.FaultLemmas.Counts_same, specs.Outside.after_bind}
use Rattle.tsp_query.proofs.OutsideLemmas.{NotesBind_failed, NotesBind_made, NotesBind_refused, Notes_same, Tells_bound}
use Rattle.tsp_daemon.proofs.command.serve_words.Goals as goal

pub returns-in-Bound-clause-serves : goal.returns-in-Bound-clause-serves
returns-in-Bound-clause-serves g c = λ o wall word written k.
    let tells = Tells_bound o _ _ _ _ _ _ _ _ c.bind.ensures.same.0 c.bind.ensures.same.1 c.bind.ensures.counted k.tells in
    let peers : c.as_slice.result.now ≡ c.args.words.now.local ∷ all_peers c.args.words.now.ports = search rules in
    let made = NotesBind_made _ _ _ _ c.in-Bound.is c.bind.ensures.binds in
    let noted = subst (λ (ps : List Addr). NotesReceive (g.L.Link.binds c.args.link.now) (g.L.Link.binds c.bind.new.self)
    (record { local = c.args.words.now.local; peers = ps })) peers made in
    inr (
      Notes_same _ _ _ _ c.serve_bound.ensures.same noted,
      c.serve_bound.ensures.walled o.readings k.tells.readings_are,
      rw (← c.bind.ensures.same.2) (c.serve_bound.ensures.serves (after_bind o) wall word written (record {
        tells = tells;
        wall_is = k.wall_is;
        word_is = k.word_is;
        written_is = k.written_is;
      })),
    )

pub returns-in-Failed-clause-serves : goal.returns-in-Failed-clause-serves
returns-in-Failed-clause-serves g c = λ o wall word written k. inl (
  NotesBind_failed _ _ _ _ c.in-Failed.is c.bind.ensures.binds,
  refl,
  inr (inr (record {
    cause = refl;
    tells = Tells_bound o _ _ _ _ _ _ _ _ c.bind.ensures.same.0 c.bind.ensures.same.1 c.bind.ensures.counted k.tells;
    written_is = k.written_is;
    unwaited = c.bind.ensures.same.2;
    unmarked = refl;
  })),
)

pub returns-clause-serves : goal.returns-clause-serves
returns-clause-serves g c = λ o wall word written k. inl (
  NotesBind_refused _ _ _ _ c.in-OutOfMemory.is c.bind.ensures.binds,
  refl,
  inr (inl (record {
    cause = refl;
    tells = Tells_bound o _ _ _ _ _ _ _ _ c.bind.ensures.same.0 c.bind.ensures.same.1 c.bind.ensures.counted k.tells;
    written_is = k.written_is;
    unwaited = c.bind.ensures.same.2;
    unmarked = refl;
  })),
)

pub returns-in_default-clause-serves : goal.returns-in_default-clause-serves
returns-in_default-clause-serves g c = λ o wall word written k. inl (
  refl,
  refl,
  inl (record {
    cause = refl;
    tells = k.tells;
    written_is = k.written_is;
    unwaited = refl;
    unmarked = refl;
  }),
)

pub returns-in-Bound-clause-link : goal.returns-in-Bound-clause-link
returns-in-Bound-clause-link g c = Counts_from _ _ _ _ _ (c.bind.ensures.still (λ e. cc)) (λ e. e) (λ e. e) c.serve_bound.ensures.link

pub returns-in-Failed-clause-link : goal.returns-in-Failed-clause-link
returns-in-Failed-clause-link g c = record { later = c.bind.ensures.later.0; cause = λ e. c.bind.ensures.cause c.in-Failed.is; still = λ h. absurd (h refl) }

pub returns-clause-link : goal.returns-clause-link
returns-clause-link g c = Counts_same _ _ _ (c.bind.ensures.still (λ e. cc)) (λ e. cc)
