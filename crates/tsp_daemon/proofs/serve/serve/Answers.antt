use Rattle.std.proofs.Common.{rules, ◌≡◌, ◌∙◌, ◌+◌, ap, arith, refl, sym, List}
use Rattle.tsp_rules.specs.Values.{PeerId}
use Rattle.tsp_gateway.specs.Rooms.{ports_in, room_of_ports}
use Rattle.tsp_query.proofs.FaultLemmas.{Counts_from, Counts_same}
use Rattle.tsp_daemon.specs.declared.end.ServeEnd.TheVariants.{LinkFault, WriteFault}
use Rattle.tsp_daemon.proofs.SessionLemmas.{at_on, rises_more, serves_until, turns_more}
use Rattle.tsp_daemon.proofs.TurnLemmas.{le_is, le_on, le_same, le_self, posts_more, went_on, done_unlinked, done_unwritten, end_as, same_end}
use Rattle.tsp_daemon.{proofs.WaitLemmas.none_noted, proofs.WaitLemmas.one_more_noted, proofs.WaitLemmas.until_noted, specs.Sessions.after_turns}
use Rattle.tsp_daemon.proofs.PageLemmas.{are_reads_in, first_marked, one_more_marked, reads_before, reads_in, until_marked}
use Rattle.tsp_daemon.specs.Pages.{moment_after, page_from, sheet_after, sheet_begun}
use Rattle.tsp_query.specs.Outside.{paged}
use Rattle.tsp_daemon.proofs.serve.serve.Goals as goal

pub returns-in-Err : goal.returns-in-Err
returns-in-Err g c = record {
  serves = λ s at.
      let i = c.loop.counter in
      let ends = c.in-Err.ensures.turns (after_turns i s) (c.loop.invariant.at s at) in
      let noted = until_noted i s _ _ _ _ _ _ _ _ _ c.in-Err.end ends (c.loop.invariant.waits s at)
      (c.in-Err.ensures.waits (after_turns i s) (c.loop.invariant.at s at)) in
      let turned = c.in-Err.ensures.marks (reads_in (g.T.Ticker.views c.turn.new.ticker)) (are_reads_in (g.T.Ticker.views c.turn.new.ticker)) in
      let gave = c.loop.invariant.marks turned.0 turned.1 in (
        i,
        noted.0,
        serves_until c.args.turns i s _ _ _ _ _ _ c.in-Err.end (search arith) ends,
        c.loop.invariant.rises s at,
        noted.1,
        noted.2,
        (
          gave.0,
          gave.1,
          λ origin delay from told.
              let marked = gave.2 s origin delay at from told in
              let sheet = sheet_after delay i s (sheet_begun (page_from (g.T.Ticker.boarded c.args.ticker.now) origin s.past
              (moment_after delay s.outside.last)) origin gave.0) in
              until_marked delay i s _ origin gave.0 turned.0 _ _ (paged g.T.Ticker c.args.ticker.now) (paged g.T.Ticker c.loop.ticker)
              (paged g.T.Ticker c.turn.new.ticker) c.in-Err.end marked
              (turned.2 (after_turns i s) delay sheet (c.loop.invariant.at s at) (c.loop.invariant.delay ∙ told) marked.leaves.origin marked.page_is
              marked.left_is),
        ),
      );
  board = record {
    boarded = c.turn.ensures.board.0 ∙ c.loop.invariant.boarded;
    delay = c.turn.ensures.board.1 ∙ c.loop.invariant.delay;
    alone = λ none.
        let before = c.loop.invariant.alone none in
        let turned = c.turn.ensures.alone before.0 in
        (turned.1 ∙ before.1, turned.2 ∙ before.2);
  };
  keeps = record {
    binds = c.turn.ensures.keeps.binds ∙ c.loop.invariant.binds;
    walled = c.turn.ensures.keeps.walled ∙ c.loop.invariant.walled;
    last = le_on _ _ _ c.loop.invariant.last c.turn.ensures.keeps.last;
  };
  link = Counts_from _ _ _ _ _ c.loop.invariant.faults (λ e. end_as c.in-Err.end LinkFault e) (λ e. same_end c.in-Err.end LinkFault e) c.in-Err.ensures.link;
  write = Counts_from _ _ _ _ _ c.loop.invariant.writes (λ e. end_as c.in-Err.end WriteFault e) (λ e. same_end c.in-Err.end WriteFault e)
      c.in-Err.ensures.write;
  sends = le_on _ _ _ c.loop.invariant.send_faults c.turn.ensures.sends;
}

pub loop-preserved : goal.loop-preserved
loop-preserved g c =
    let room = room_of_ports (ports_in c.args.gateway) in
    let same : room_of_ports (ports_in c.loop.gateway) ≡ room = ap (λ (ps : List (List PeerId)). room_of_ports ps) c.loop.invariant.ports in
    record {
      at = λ s at. turns_more c.loop.counter s _ _ _ _ _ _ _ _ (c.in_default.ensures.turns (after_turns c.loop.counter s) (c.loop.invariant.at s at));
      rises = λ s at. rises_more c.loop.counter s _ _ _ _ _ _ _ _ _ _ _ _ _ _ _ _ (c.loop.invariant.rises s at) (c.loop.invariant.at s at)
          (c.in_default.ensures.turns (after_turns c.loop.counter s) (c.loop.invariant.at s at)) c.turn.ensures.keeps.last;
      waits = λ s at. one_more_noted s c.loop.counter _ _ _ (c.loop.invariant.waits s at) (c.in_default.ensures.waits (after_turns c.loop.counter s)
          (c.loop.invariant.at s at));
      marks = λ left h.
          let i = c.loop.counter in
          let turned = c.in_default.ensures.marks left h in
          let gave = c.loop.invariant.marks turned.0 turned.1 in (
            gave.0,
            gave.1,
            λ s origin delay at from told.
                let marked = gave.2 s origin delay at from told in
                let sheet = sheet_after delay i s (sheet_begun (page_from (g.T.Ticker.boarded c.args.ticker.now) origin s.past
                (moment_after delay s.outside.last)) origin gave.0) in
                let more = turned.2 (after_turns i s) delay sheet (c.loop.invariant.at s at) (c.loop.invariant.delay ∙ told) marked.leaves.origin
                marked.page_is marked.left_is in
                one_more_marked delay i s _ origin gave.0 turned.0 left _ _ (paged g.T.Ticker c.args.ticker.now) (paged g.T.Ticker c.loop.ticker)
                (paged g.T.Ticker c.turn.new.ticker) marked more.0 more.1 more.2,
          );
      boarded = c.turn.ensures.board.0 ∙ c.loop.invariant.boarded;
      delay = c.turn.ensures.board.1 ∙ c.loop.invariant.delay;
      alone = λ none.
          let before = c.loop.invariant.alone none in
          let turned = c.in_default.ensures.alone before.0 in
          (turned.0, turned.1 ∙ before.1, turned.2 ∙ before.2);
      binds = c.turn.ensures.keeps.binds ∙ c.loop.invariant.binds;
      walled = c.turn.ensures.keeps.walled ∙ c.loop.invariant.walled;
      lives = c.in_default.ensures.lives;
      clock = c.in_default.ensures.clock;
      turns = c.in_default.ensures.counts.0 ∙ ap (λ n. n + 1) c.loop.invariant.turns;
      posts = posts_more c.loop.counter room _ _ _ c.in_default.ensures.counts.1 c.loop.invariant.posts same;
      ports = c.in_default.ensures.ports ∙ c.loop.invariant.ports;
      size = c.turn.ensures.size ∙ c.loop.invariant.size ∙ ap (λ (ps : List (List PeerId)). room_of_ports ps) (sym c.in_default.ensures.ports);
      faults = c.in_default.ensures.link.still (λ e. went_on _ _ e) ∙ c.loop.invariant.faults;
      send_faults = le_on _ _ _ c.loop.invariant.send_faults c.turn.ensures.sends;
      writes = c.in_default.ensures.write.still (λ e. went_on _ _ e) ∙ c.loop.invariant.writes;
      last = le_on _ _ _ c.loop.invariant.last c.turn.ensures.keeps.last;
    }

pub returns : goal.returns
returns g c = record {
  serves = λ s at.
      let all : c.loop.counter ≡ c.args.turns = search arith in
      let end = c.loop.invariant.at s at in
      let gave = c.loop.invariant.marks (reads_in (g.T.Ticker.views c.loop.ticker)) (are_reads_in (g.T.Ticker.views c.loop.ticker)) in (
        c.loop.counter,
        c.loop.counter,
        (all, end.tells, end.written_is),
        c.loop.invariant.rises s at,
        refl,
        c.loop.invariant.waits s at,
        (gave.0, gave.1, λ origin delay from told. (gave.2 s origin delay at from told).leaves),
      );
  board = record {
    boarded = c.loop.invariant.boarded;
    delay = c.loop.invariant.delay;
    alone = λ none. let before = c.loop.invariant.alone none in (before.1, before.2);
  };
  keeps = record { binds = c.loop.invariant.binds; walled = c.loop.invariant.walled; last = c.loop.invariant.last };
  link = Counts_same _ _ _ c.loop.invariant.faults (λ e. done_unlinked e);
  write = Counts_same _ _ _ c.loop.invariant.writes (λ e. done_unwritten e);
  sends = c.loop.invariant.send_faults;
}

-- the page was begun, and no turn was taken
pub loop-init : goal.loop-init
loop-init g c = record {
  at = λ s at. at_on s _ _ _ _ _ _ _ _ _ _ c.begin-page.ensures.only.pages.readings c.begin-page.ensures.only.pages.last at;
  waits = λ s at. none_noted s _;
  rises = λ s at. tt;
  marks = λ left h.
      let reads = reads_before left _ _ c.begin-page.ensures.only.views h in (
        left,
        reads,
        λ s origin delay at from told. first_marked delay s _ origin left _ _ (paged g.T.Ticker c.args.ticker.now) (paged g.T.Ticker c.begin-page.new.ticker)
            at.tells.last_is (c.begin-page.ensures.page s.past origin delay at.stands from told)
            (c.begin-page.ensures.marks s.past origin delay at.stands from told) (c.begin-page.ensures.only.origin ∙ from) c.begin-page.ensures.only.views
            reads,
      );
  boarded = c.begin-page.ensures.only.pages.boarded;
  delay = c.begin-page.ensures.only.pages.delay;
  alone = λ none. (c.begin-page.ensures.alone none, c.begin-page.ensures.only.origin, c.begin-page.ensures.only.views);
  binds = refl;
  walled = c.begin-page.ensures.only.pages.walled;
  lives = c.requires.lives;
  clock = le_same _ _ _ c.requires.later c.begin-page.ensures.only.pages.last;
  turns = refl;
  posts = search arith;
  ports = refl;
  size = search rules;
  faults = refl;
  send_faults = le_self _;
  writes = refl;
  last = le_is _ _ c.begin-page.ensures.only.pages.last;
}
