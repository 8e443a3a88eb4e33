use Rattle.std.proofs.Common.{◌≡◌, ◌∙◌, ◌+◌, List, [], ap, inl, sym, subst, refl}
use Rattle.tsp_io.specs.declared.link.Recv.TheVariants.{Failed}
use Rattle.tsp_query.proofs.{FaultLemmas.Counts_from, FaultLemmas.Counts_same, OutsideLemmas.Notes_same}
use Rattle.tsp_gateway.specs.{GatewayStands.GatewayStands, GatewayStands.GatewayBegun, PortOf.setups_in}
use Rattle.tsp_rules.specs.{GateRows.answers_all, NodePerforms.PerformsAll, Values.Placed}
use Rattle.tsp_daemon.specs.declared.end.ServeEnd.TheVariants.{LinkFault, WriteFault}
use Rattle.tsp_daemon.specs.{Ends.given_by, Posts.AreKnown}
use Rattle.tsp_daemon.proofs.PageLemmas.{ends_marks, leaves_same, reads_before, reads_of, shown_is}
use Rattle.tsp_daemon.proofs.{ReadLemmas.sheet_turned, ServeLemmas.same_page}
use Rattle.tsp_query.specs.Outside.{paged}
use Rattle.tsp_daemon.specs.Sessions.{past_after}
use Rattle.tsp_daemon.proofs.SessionLemmas.{waits_is, waits_on, steps_is, turned_is, ends_is, lives_on, acts_known, unheard_is, finish_unlinked}
use Rattle.tsp_daemon.proofs.TurnLemmas.{le_self, le_is, last_on, last_twice, sends_on, posts_on, memory_unlinked, memory_unwritten, link_unwritten, end_as}
use Rattle.tsp_daemon.proofs.TurnLemmas.{same_end}
use Rattle.tsp_daemon.proofs.WaitLemmas.{first_reading, turn_noted, wait_noted}
use Rattle.tsp_daemon.proofs.turn.turn.Goals as goal

pub finish-requires-clause-known : goal.finish-requires-clause-known
finish-requires-clause-known g c =
    subst (λ (ps : List Placed). AreKnown (g.L.Link.stranger c.recv-received.new.self) ps) (sym c.acts-acts.ensures)
    (acts_known _ _ _ _ _ _ _ _ _ _ c.recv-received.ensures.receives c.requires.lives c.step.ensures.row)

-- a send or a line ended it
pub returns-in-Err : goal.returns-in-Err
returns-in-Err g c = record {
  turns = λ s at.
      let ok : c.recv-received.result ≡ Failed → ⊥ = c.in_default.not-Failed in
      let w = waits_is s.past.ports s.outside _ _ _ _ _ _ _ _ _ _ _ _ _ _ _ _ _ _ at.tells c.tick-first.ensures.takes c.tick-first.ensures.last
      c.recv-received.ensures.receives ok c.recv-received.ensures.same.0 c.recv-received.ensures.counted c.tick-tick.ensures.takes c.tick-tick.ensures.last
      in
      let v = waits_on s.past.ports s.outside _ _ _ _ _ _ _ _ _ _ c.show.ensures.only.readings c.show.ensures.only.last w in
      let row = subst (λ (ps : List Placed). PerformsAll GatewayBegun GatewayStands
      (answers_all (given_by (setups_in c.args.node.now) c.recv-received.result c.recv-received.new.buf)) c.tick-tick.result c.args.node.now c.step.new.node
      [] ps) (sym c.acts-acts.ensures) c.step.ensures.row in
      let steps = steps_is s _ _ c.args.counters.now _ _ _ _ _ _ _ _ _ _ _ _ at.stands at.turns_is at.posts_is v row
      (c.tracing-before.ensures.past s.past at.stands) c.tracing.ensures.past c.is_shown-shown.ensures in
      ends_is s _ c.args.counters.now _ _ _ _ _ _ _ _ _ _ _ _ _ _ _ c.in-Err.end at.written_is v steps c.finish.ensures.only.arrivals
      c.finish.ensures.only.calls c.in-Err.ensures.err;
  waits = λ s at. turn_noted s _ _ c.in-Err.end (wait_noted s _ c.due.result c.tick-first.result c.wait_until.result _ _ at.stands c.due.ensures.past
      (first_reading s.outside _ _ _ _ _ _ _ at.tells c.tick-first.ensures.takes) c.wait_until.ensures
      (Notes_same _ _ _ _ c.finish.ensures.only.waits c.recv-received.ensures.waits));
  marks = λ left h.
      let gave = sheet_turned g.T.Ticker c.step.new.node c.acts-acts.result.now c.tick-tick.result c.args.page.now _ c.tick-tick.new.self c.show.new.ticker
      c.show.ensures.turns c.show.ensures.alone left h in (
        gave.0,
        reads_before gave.0 _ _ (c.tick-tick.ensures.page.4 ∙ c.tick-first.ensures.page.4) gave.1,
        λ s delay sheet at told from same v.
            let ok : c.recv-received.result ≡ Failed → ⊥ = c.in_default.not-Failed in
            let w = waits_is s.past.ports s.outside _ _ _ _ _ _ _ _ _ _ _ _ _ _ _ _ _ _ at.tells c.tick-first.ensures.takes c.tick-first.ensures.last
            c.recv-received.ensures.receives ok c.recv-received.ensures.same.0 c.recv-received.ensures.counted c.tick-tick.ensures.takes
            c.tick-tick.ensures.last
            in
            let row = subst (λ (ps : List Placed). PerformsAll GatewayBegun GatewayStands
            (answers_all (given_by (setups_in c.args.node.now) c.recv-received.result c.recv-received.new.buf)) c.tick-tick.result c.args.node.now
            c.step.new.node
            [] ps) (sym c.acts-acts.ensures) c.step.ensures.row in
            let steps = steps_is s _ _ c.args.counters.now _ _ _ _ _ _ _ _ _ _ _ _ at.stands at.turns_is at.posts_is w row
            (c.tracing-before.ensures.past s.past at.stands) c.tracing.ensures.past c.is_shown-shown.ensures in
            let asked = c.tick-tick.ensures.page.1 ∙ c.tick-first.ensures.page.1 ∙ told in
            let ticked = paged g.T.Ticker c.tick-tick.new.self in
            let first = paged g.T.Ticker c.tick-first.new.self in
            let page = same_page first ticked c.tick-tick.ensures.page ∙ same_page (paged g.T.Ticker c.args.ticker.now) first c.tick-first.ensures.page in
            let shown = shown_is s delay sheet left _ _ _ _ (paged g.T.Ticker c.args.ticker.now) ticked (paged g.T.Ticker c.show.new.ticker) steps.acts_are
            w.tick_is c.tick-tick.ensures.last page (gave.2 (past_after s) delay sheet steps.stands asked
            (c.tick-tick.ensures.page.0 ∙ c.tick-first.ensures.page.0 ∙ from) same v) in
            ends_marks delay s sheet _ (paged g.T.Ticker c.args.ticker.now) _ _ _ _ _ _ _ c.in-Err.end c.in-Err.ensures.err
            (c.finish.ensures.only.calls ∙ w.tells.calls_are) shown.2,
      );
  board = (
    c.show.ensures.only.boarded ∙ c.tick-tick.ensures.page.2 ∙ c.tick-first.ensures.page.2,
    c.show.ensures.only.delay ∙ c.tick-tick.ensures.page.1 ∙ c.tick-first.ensures.page.1,
  );
  alone = λ none.
      let shown = c.show.ensures.alone none in (
        tt,
        ap g.T.Ticker.origin_is shown.1 ∙ c.tick-tick.ensures.page.0 ∙ c.tick-first.ensures.page.0,
        ap g.T.Ticker.views shown.1 ∙ c.tick-tick.ensures.page.4 ∙ c.tick-first.ensures.page.4,
      );
  keeps = record {
    binds = c.finish.ensures.only.binds ∙ c.recv-received.ensures.same.1;
    walled = c.show.ensures.only.walled ∙ c.tick-tick.ensures.same.2 ∙ c.tick-first.ensures.same.2;
    last = last_twice _ _ _ _ _ c.tick-first.ensures.low c.tick-first.ensures.last c.tick-tick.ensures.low (c.show.ensures.only.last ∙
        c.tick-tick.ensures.last);
  };
  link =
      let ok : c.recv-received.result ≡ Failed → ⊥ = c.in_default.not-Failed in
      Counts_same _ _ _ (c.finish.ensures.only.faults ∙ c.recv-received.ensures.still ok) (λ e. finish_unlinked _ _ _ _ _ _ c.in-Err.end c.in-Err.ensures.err
      (same_end c.in-Err.end LinkFault e));
  write = Counts_from _ _ _ _ _ refl (λ e. end_as c.in-Err.end WriteFault (same_end c.in-Err.end WriteFault e))
      (λ e. end_as c.in-Err.end WriteFault (same_end c.in-Err.end WriteFault e)) c.in-Err.ensures.write;
  sends = sends_on _ _ _ c.recv-received.ensures.later.1 c.finish.ensures.only.sends;
  lives = tt;
  clock = tt;
  counts = tt;
  ports = tt;
  size = refl;
}

-- the turn was taken
pub returns : goal.returns
returns g c = record {
  turns = λ s at.
      let ok : c.recv-received.result ≡ Failed → ⊥ = c.in_default.not-Failed in
      let w = waits_is s.past.ports s.outside _ _ _ _ _ _ _ _ _ _ _ _ _ _ _ _ _ _ at.tells c.tick-first.ensures.takes c.tick-first.ensures.last
      c.recv-received.ensures.receives ok c.recv-received.ensures.same.0 c.recv-received.ensures.counted c.tick-tick.ensures.takes c.tick-tick.ensures.last
      in
      let v = waits_on s.past.ports s.outside _ _ _ _ _ _ _ _ _ _ c.show.ensures.only.readings c.show.ensures.only.last w in
      let row = subst (λ (ps : List Placed). PerformsAll GatewayBegun GatewayStands
      (answers_all (given_by (setups_in c.args.node.now) c.recv-received.result c.recv-received.new.buf)) c.tick-tick.result c.args.node.now c.step.new.node
      [] ps) (sym c.acts-acts.ensures) c.step.ensures.row in
      let steps = steps_is s _ _ c.args.counters.now _ _ _ _ _ _ _ _ _ _ _ _ at.stands at.turns_is at.posts_is v row
      (c.tracing-before.ensures.past s.past at.stands) c.tracing.ensures.past c.is_shown-shown.ensures in
      let sent = c.in-Ok.ensures.ok in
      turned_is s _ c.args.counters.now _ _ _ _ _ _ _ _ _ _ _ _ _ _ _ _ _ at.turns_is at.posts_is at.written_is v steps c.finish.ensures.only.arrivals
      c.finish.ensures.only.calls sent.0 sent.1 refl
      (ap (λ n. c.args.counters.now.posts + n) c.in-Ok.ensures.posts);
  lives = lives_on _ _ _ _ _ c.requires.lives c.step.ensures.row;
  waits = λ s at. wait_noted s _ c.due.result c.tick-first.result c.wait_until.result _ _ at.stands c.due.ensures.past
      (first_reading s.outside _ _ _ _ _ _ _ at.tells c.tick-first.ensures.takes) c.wait_until.ensures
      (Notes_same _ _ _ _ c.finish.ensures.only.waits c.recv-received.ensures.waits);
  marks = λ left h.
      let gave = sheet_turned g.T.Ticker c.step.new.node c.acts-acts.result.now c.tick-tick.result c.args.page.now _ c.tick-tick.new.self c.show.new.ticker
      c.show.ensures.turns c.show.ensures.alone left h in (
        gave.0,
        reads_before gave.0 _ _ (c.tick-tick.ensures.page.4 ∙ c.tick-first.ensures.page.4) gave.1,
        λ s delay sheet at told from same v.
            let ok : c.recv-received.result ≡ Failed → ⊥ = c.in_default.not-Failed in
            let w = waits_is s.past.ports s.outside _ _ _ _ _ _ _ _ _ _ _ _ _ _ _ _ _ _ at.tells c.tick-first.ensures.takes c.tick-first.ensures.last
            c.recv-received.ensures.receives ok c.recv-received.ensures.same.0 c.recv-received.ensures.counted c.tick-tick.ensures.takes
            c.tick-tick.ensures.last
            in
            let row = subst (λ (ps : List Placed). PerformsAll GatewayBegun GatewayStands
            (answers_all (given_by (setups_in c.args.node.now) c.recv-received.result c.recv-received.new.buf)) c.tick-tick.result c.args.node.now
            c.step.new.node
            [] ps) (sym c.acts-acts.ensures) c.step.ensures.row in
            let steps = steps_is s _ _ c.args.counters.now _ _ _ _ _ _ _ _ _ _ _ _ at.stands at.turns_is at.posts_is w row
            (c.tracing-before.ensures.past s.past at.stands) c.tracing.ensures.past c.is_shown-shown.ensures in
            let asked = c.tick-tick.ensures.page.1 ∙ c.tick-first.ensures.page.1 ∙ told in
            let ticked = paged g.T.Ticker c.tick-tick.new.self in
            let first = paged g.T.Ticker c.tick-first.new.self in
            let page = same_page first ticked c.tick-tick.ensures.page ∙ same_page (paged g.T.Ticker c.args.ticker.now) first c.tick-first.ensures.page in
            let shown = shown_is s delay sheet left _ _ _ _ (paged g.T.Ticker c.args.ticker.now) ticked (paged g.T.Ticker c.show.new.ticker) steps.acts_are
            w.tick_is c.tick-tick.ensures.last page (gave.2 (past_after s) delay sheet steps.stands asked
            (c.tick-tick.ensures.page.0 ∙ c.tick-first.ensures.page.0 ∙ from) same v) in
            shown,
      );
  board = (
    c.show.ensures.only.boarded ∙ c.tick-tick.ensures.page.2 ∙ c.tick-first.ensures.page.2,
    c.show.ensures.only.delay ∙ c.tick-tick.ensures.page.1 ∙ c.tick-first.ensures.page.1,
  );
  alone = λ none.
      let shown = c.show.ensures.alone none in (
        shown.0,
        ap g.T.Ticker.origin_is shown.1 ∙ c.tick-tick.ensures.page.0 ∙ c.tick-first.ensures.page.0,
        ap g.T.Ticker.views shown.1 ∙ c.tick-tick.ensures.page.4 ∙ c.tick-first.ensures.page.4,
      );
  keeps = record {
    binds = c.finish.ensures.only.binds ∙ c.recv-received.ensures.same.1;
    walled = c.show.ensures.only.walled ∙ c.tick-tick.ensures.same.2 ∙ c.tick-first.ensures.same.2;
    last = last_twice _ _ _ _ _ c.tick-first.ensures.low c.tick-first.ensures.last c.tick-tick.ensures.low (c.show.ensures.only.last ∙
        c.tick-tick.ensures.last);
  };
  clock = last_on _ _ _ c.step.ensures.clock (c.show.ensures.only.last ∙ c.tick-tick.ensures.last);
  counts = (refl, posts_on c.args.counters.now.posts _ _ _ _ c.in-Ok.ensures.few c.step.ensures.few c.acts-acts.ensures);
  ports = c.step.ensures.ports;
  size = refl;
  link =
      let ok : c.recv-received.result ≡ Failed → ⊥ = c.in_default.not-Failed in
      Counts_same _ _ _ (c.finish.ensures.only.faults ∙ c.recv-received.ensures.still ok) (λ e. cc);
  write = Counts_same _ _ _ (c.in-Ok.ensures.write.still (λ e. cc)) (λ e. cc);
  sends = sends_on _ _ _ c.recv-received.ensures.later.1 c.finish.ensures.only.sends;
}

-- out of memory before the turn did anything
pub returns-then-is_err : goal.returns-then-is_err
returns-then-is_err g c = record {
  turns = λ s at. inl (at.tells, at.written_is);
  waits = λ s at. inl refl;
  marks = λ left h. (
    left,
    h,
    λ s delay sheet at told from same v. inl (
      at.tells.calls_are,
      leaves_same sheet (paged g.T.Ticker c.args.ticker.now) (paged g.T.Ticker c.args.ticker.now)
          refl from refl (reads_of left sheet.views _ v h),
    ),
  );
  board = (refl, refl);
  alone = λ none. (tt, refl, refl);
  keeps = record { binds = refl; walled = refl; last = le_self _ };
  link = Counts_same _ _ _ refl (λ e. memory_unlinked e);
  write = Counts_same _ _ _ refl (λ e. memory_unwritten e);
  sends = le_self _;
  lives = tt;
  clock = tt;
  counts = tt;
  ports = tt;
  size = refl;
}

-- the receive failed
pub returns-in-Failed : goal.returns-in-Failed
returns-in-Failed g c = record {
  turns = λ s at.
      let failed : c.recv-received.result ≡ Failed = c.in-Failed.is in (
        unheard_is s.outside _ _ _ _ _ _ _ _ _ _ _ _ _ _ _ at.tells c.tick-first.ensures.takes c.tick-first.ensures.last c.recv-received.ensures.receives failed
            c.recv-received.ensures.same.0 c.recv-received.ensures.counted,
        at.written_is,
      );
  waits = λ s at. wait_noted s _ c.due.result c.tick-first.result c.wait_until.result _ _ at.stands c.due.ensures.past
      (first_reading s.outside _ _ _ _ _ _ _ at.tells c.tick-first.ensures.takes) c.wait_until.ensures c.recv-received.ensures.waits;
  marks = λ left h.
      let reads = reads_before left _ _ c.tick-first.ensures.page.4 h in (
        left,
        reads,
        λ s delay sheet at told from same v. leaves_same sheet (paged g.T.Ticker c.args.ticker.now) (paged g.T.Ticker c.tick-first.new.self)
            c.tick-first.ensures.page.3 (c.tick-first.ensures.page.0 ∙ from) c.tick-first.ensures.page.4 (reads_of left sheet.views _ v reads),
      );
  board = (c.tick-first.ensures.page.2, c.tick-first.ensures.page.1);
  alone = λ none. (tt, c.tick-first.ensures.page.0, c.tick-first.ensures.page.4);
  keeps = record {
    binds = c.recv-received.ensures.same.1;
    walled = c.tick-first.ensures.same.2;
    last = last_on _ _ _ c.tick-first.ensures.low c.tick-first.ensures.last;
  };
  link =
      let failed : c.recv-received.result ≡ Failed = c.in-Failed.is in
      record { later = c.recv-received.ensures.later.0; cause = λ e. c.recv-received.ensures.cause failed; still = λ h. absurd (h refl) };
  write = Counts_same _ _ _ refl (λ e. link_unwritten e);
  sends = le_is _ _ c.recv-received.ensures.later.1;
  lives = tt;
  clock = tt;
  counts = tt;
  ports = tt;
  size = refl;
}
