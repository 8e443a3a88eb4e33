use Rattle.std.proofs.Common.{inl, inr, refl}
use Rattle.tsp_query.{proofs.FaultLemmas.LinkCounts_from, specs.Outside.after_bind}
use Rattle.tsp_query.proofs.OutsideLemmas.{NotesBind_failed, NotesBind_made, NotesBind_refused, Notes_same, Tells_bound, Says_from}
use Rattle.tsp_query.proofs.command.ask.Goals as goal

pub returns-in-Bound-clause-asks : goal.returns-in-Bound-clause-asks
returns-in-Bound-clause-asks g c = λ o wall word written k.
    let tells = Tells_bound o _ _ _ _ _ _ _ _ c.bind.ensures.same.0 c.bind.ensures.same.1 c.bind.ensures.counted k.tells in
    inr (record {
      end = c.ask_bound-end.result;
      comes = rw (← c.bind.ensures.later.1) (c.ask_bound-end.ensures.comes (after_bind o) wall word tells k.wall_is k.word_is);
      says = Says_from _ _ _ _ _ _ _ written k.written_is c.tell.ensures.says;
      bound_to = Notes_same _ _ _ _ c.ask_bound-end.ensures.once.binds (NotesBind_made _ _ _ _ c.in-Bound.is c.bind.ensures.binds);
      waits = rw (← c.bind.ensures.same.2) c.ask_bound-end.ensures.once.waits;
      walled = c.ask_bound-end.ensures.once.walled o.readings k.tells.readings_are;
    })

pub returns-in-Failed-clause-asks : goal.returns-in-Failed-clause-asks
returns-in-Failed-clause-asks g c = λ o wall word written k. inl (record {
  cause = inl refl;
  tells = Tells_bound o _ _ _ _ _ _ _ _ c.bind.ensures.same.0 c.bind.ensures.same.1 c.bind.ensures.counted k.tells;
  written_is = k.written_is;
  unbound = NotesBind_failed _ _ _ _ c.in-Failed.is c.bind.ensures.binds;
  unwaited = c.bind.ensures.same.2;
  unread = refl;
})

pub returns-in-OutOfMemory-clause-asks : goal.returns-in-OutOfMemory-clause-asks
returns-in-OutOfMemory-clause-asks g c = λ o wall word written k. inl (record {
  cause = inr refl;
  tells = Tells_bound o _ _ _ _ _ _ _ _ c.bind.ensures.same.0 c.bind.ensures.same.1 c.bind.ensures.counted k.tells;
  written_is = k.written_is;
  unbound = NotesBind_refused _ _ _ _ c.in-OutOfMemory.is c.bind.ensures.binds;
  unwaited = c.bind.ensures.same.2;
  unread = refl;
})

pub returns-in-Bound-clause-faults : goal.returns-in-Bound-clause-faults
returns-in-Bound-clause-faults g c = LinkCounts_from _ _ _ _ _ _ (c.bind.ensures.still (λ e. cc)) c.bind.ensures.later.1 c.tell.ensures.link
    c.tell.ensures.linked c.ask_bound-end.ensures.faults
