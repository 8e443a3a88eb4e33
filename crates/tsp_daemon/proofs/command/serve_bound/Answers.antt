use Rattle.std.proofs.Common.{◌≡◌, ◌∙◌, ap, sym, inl, inr, refl, subst, ℤ, ℕ, false, rules, w64, to_z, of_z}
use Rattle.tsp_query.proofs.{AskLemmas.of_some, FaultLemmas.Counts_from, FaultLemmas.Counts_same, OutsideLemmas.Says_from}
use Rattle.tsp_query.specs.Outside.{observed, paged}
use Rattle.tsp_rules.specs.Guards.{is_clock_value}
use Rattle.tsp_daemon.{proofs.NodeLemmas.turns_fit, specs.Nodes.first_past, specs.Serving.served_of, specs.declared.end.ServeEnd.ServeEnd}
use Rattle.tsp_daemon.proofs.ServeLemmas.{same_page, Tells_read, IsServed_serves, walled_is, served_linked, served_written, served_in_time}
use Rattle.tsp_daemon.specs.Pages.{KeepsPage}
use Rattle.tsp_daemon.proofs.command.serve_bound.Goals as goal

pub serve-requires-clause-lives : goal.serve-requires-clause-lives
serve-requires-clause-lives g c =
    let back : to_z w64 (of_z w64 c.wall-wall.result) ≡ c.wall-wall.result = search rules in
    record { past = first_past c.args.words.now c.tick-tick.result c.wall-wall.result c.word-word.result; stands = rw back at c.in-Ok.ensures.stands }

pub serve-requires-clause-few : goal.serve-requires-clause-few
serve-requires-clause-few g c = turns_fit _ _ c.requires.serve.few c.in-Ok.ensures.room

pub returns-in-Ok-clause-serves : goal.returns-in-Ok-clause-serves
returns-in-Ok-clause-serves g c = λ o wall word written k.
    let wall_is = of_some (λ (x : ℤ). c.wall-wall.result ≡ x) _ wall c.wall-wall.ensures.answers (c.tick-tick.ensures.same.0 ∙ k.wall_is) in
    let word_is = of_some (λ (x : ℕ). c.word-word.result ≡ x) _ word c.word-word.ensures.answers (c.wall-wall.ensures.same.2 ∙ c.tick-tick.ensures.same.1 ∙
    k.word_is) in
    let readings = c.word-word.ensures.same.0 ∙ c.wall-wall.ensures.same.0 in
    let last = c.word-word.ensures.same.4 ∙ c.wall-wall.ensures.same.3 ∙ c.tick-tick.ensures.last in
    let read = Tells_read o _ _ _ _ _ _ _ _ _ c.tick-tick.ensures.takes readings last k.tells in
    let back : to_z w64 (of_z w64 c.wall-wall.result) ≡ c.wall-wall.result = search rules in
    let before = paged g.T.Ticker c.args.ticker.now in
    let ticked = paged g.T.Ticker c.tick-tick.new.self in
    let walled = paged g.T.Ticker c.wall-wall.new.self in
    let worded = paged g.T.Ticker c.word-word.new.self in
    let page = same_page walled worded c.word-word.ensures.page ∙ same_page ticked walled c.wall-wall.ensures.page ∙
    same_page before ticked c.tick-tick.ensures.page in
    let keeps : KeepsPage worded (paged g.T.Ticker c.serve.new.ticker) = record {
      boarded = c.serve.ensures.board.boarded;
      delay = c.serve.ensures.board.delay;
      alone = c.serve.ensures.board.alone;
    } in
    inr (inr (IsServed_serves c.args.words.now o wall _ word _ _ written c.in-Ok.node _ _ _ _ _ _ _ before worded
    (observed g.K.Sink g.L.Link g.T.Ticker c.serve.new.sink c.serve.new.link c.serve.new.ticker) c.serve.result c.of.result read.1 (back ∙
    wall_is) word_is c.in-Ok.ensures.wall c.in-Ok.ensures.stands read.0 k.written_is c.of.ensures c.requires.serve c.serve.ensures.serves page keeps))

pub returns-in-Ok-clause-link : goal.returns-in-Ok-clause-link
returns-in-Ok-clause-link g c = Counts_from _ _ _ _ _ refl (λ e. served_linked c.serve.result (sym c.of.ensures ∙ e)) (λ e. c.of.ensures ∙
    ap (λ (x : ServeEnd). served_of x) e) c.serve.ensures.link

pub returns-in-Ok-clause-write : goal.returns-in-Ok-clause-write
returns-in-Ok-clause-write g c = Counts_from _ _ _ _ _ refl (λ e. served_written c.serve.result (sym c.of.ensures ∙ e)) (λ e. c.of.ensures ∙
    ap (λ (x : ServeEnd). served_of x) e) c.serve.ensures.write

pub returns-in-Ok-clause-wall : goal.returns-in-Ok-clause-wall
returns-in-Ok-clause-wall g c = λ e. absurd (served_in_time c.serve.result (sym c.of.ensures ∙ e))

pub returns-in-Err-BadWall-clause-link : goal.returns-in-Err-BadWall-clause-link
returns-in-Err-BadWall-clause-link g c = Counts_same _ _ _ refl c.say_bad_wall.ensures.link

pub returns-in-Err-OutOfMemory-clause-link : goal.returns-in-Err-OutOfMemory-clause-link
returns-in-Err-OutOfMemory-clause-link g c = Counts_same _ _ _ refl (λ e. cc)

pub returns-in-Err-OutOfMemory-clause-write : goal.returns-in-Err-OutOfMemory-clause-write
returns-in-Err-OutOfMemory-clause-write g c = Counts_same _ _ _ refl (λ e. cc)

pub returns-in-Err-BadWall-clause-serves : goal.returns-in-Err-BadWall-clause-serves
returns-in-Err-BadWall-clause-serves g c = λ o wall word written k.
    let wall_is = of_some (λ (x : ℤ). c.wall-wall.result ≡ x) _ wall c.wall-wall.ensures.answers (c.tick-tick.ensures.same.0 ∙ k.wall_is) in
    let readings = c.word-word.ensures.same.0 ∙ c.wall-wall.ensures.same.0 in
    let last = c.word-word.ensures.same.4 ∙ c.wall-wall.ensures.same.3 ∙ c.tick-tick.ensures.last in
    let read = Tells_read o _ _ _ _ _ _ _ _ _ c.tick-tick.ensures.takes readings last k.tells in
    let back : to_z w64 (of_z w64 c.wall-wall.result) ≡ c.wall-wall.result = search rules in
    let ticked = paged g.T.Ticker c.tick-tick.new.self in
    let walled = paged g.T.Ticker c.wall-wall.new.self in
    let page = same_page walled (paged g.T.Ticker c.word-word.new.self) c.word-word.ensures.page ∙ same_page ticked walled c.wall-wall.ensures.page ∙
    same_page (paged g.T.Ticker c.args.ticker.now) ticked c.tick-tick.ensures.page in
    inr (inl (record {
      out = subst (λ (x : ℤ). is_clock_value x ≡ false) (back ∙ wall_is) (c.in-Err-BadWall.ensures.cause c.in-Err-BadWall.field-0-is);
      tells = read.0;
      says = Says_from _ _ _ _ _ _ _ written k.written_is c.say_bad_wall.ensures.says;
      unwaited = refl;
      unmarked = page;
    }))

pub returns-in-Err-OutOfMemory-clause-serves : goal.returns-in-Err-OutOfMemory-clause-serves
returns-in-Err-OutOfMemory-clause-serves g c = λ o wall word written k.
    let readings = c.word-word.ensures.same.0 ∙ c.wall-wall.ensures.same.0 in
    let last = c.word-word.ensures.same.4 ∙ c.wall-wall.ensures.same.3 ∙ c.tick-tick.ensures.last in
    let read = Tells_read o _ _ _ _ _ _ _ _ _ c.tick-tick.ensures.takes readings last k.tells in
    let ticked = paged g.T.Ticker c.tick-tick.new.self in
    let walled = paged g.T.Ticker c.wall-wall.new.self in
    let page = same_page walled (paged g.T.Ticker c.word-word.new.self) c.word-word.ensures.page ∙ same_page ticked walled c.wall-wall.ensures.page ∙
    same_page (paged g.T.Ticker c.args.ticker.now) ticked c.tick-tick.ensures.page in
    inl (record { cause = refl; tells = read.0; written_is = k.written_is; unwaited = refl; unmarked = page })

pub returns-in-Ok-clause-walled : goal.returns-in-Ok-clause-walled
returns-in-Ok-clause-walled g c = λ readings told. c.serve.ensures.keeps.walled ∙
    walled_is _ _ _ _ _ _ readings told c.tick-tick.ensures.takes c.wall-wall.ensures.reads c.word-word.ensures.same.3

pub returns-in-Err-BadWall-clause-walled : goal.returns-in-Err-BadWall-clause-walled
returns-in-Err-BadWall-clause-walled g c = λ readings told. walled_is _ _ _ _ _ _ readings told c.tick-tick.ensures.takes c.wall-wall.ensures.reads
    c.word-word.ensures.same.3

pub returns-in-Err-OutOfMemory-clause-walled : goal.returns-in-Err-OutOfMemory-clause-walled
returns-in-Err-OutOfMemory-clause-walled g c = λ readings told. walled_is _ _ _ _ _ _ readings told c.tick-tick.ensures.takes c.wall-wall.ensures.reads
    c.word-word.ensures.same.3
