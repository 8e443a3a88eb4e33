-- Each message has its row.
use Rattle.std.proofs.Common.{◌≡◌, true, refl, sym, ◌∙◌, ap, arith, ℕ, ℤ, Bool, false, if◌then◌else◌}
use Rattle.tsp_base.specs.Words.{nothing, time_in, Past, MessageValue, ◌followed_by◌, either_by, posts}
use Rattle.tsp_base.proofs.PerformsLemmas.{Performs_else_part, Performs_nothing, Performs_then, Performs_then_part}
use Rattle.tsp_rules.specs.DateRows.{may_date, new_date, sets_date_where, date_acked, passes_on}
use Rattle.tsp_rules.specs.{RoundRows.corrects, Values.DateAck, Values.Kind, Values.PeerId, Values.Place, Answers.from_peer, ClockRows.sets}
use Rattle.tsp_rules.proofs.{Emits.Emits_posts, BuiltAnswers.built_from_peer, BuiltAnswers.built_date_acked, BuiltAnswers.built_passes_on}
use Rattle.tsp_rules.proofs.{EmitsBuilt.emits_built, Unchanged.place_unchanged, EmitsStill.corrects_none, EmitsStill.still_sorts}
use Rattle.tsp_date.specs.declared.task.Task.TheVariants.{AnswerAgain, Nothing, PassOn, Set}
use Rattle.tsp_date.specs.DateStands.{DateState, moved_where}
use Rattle.tsp_date.proofs.{DateLemmas.Performs_posting, TaskLemmas.Performs_task, TaskLemmas.handles_end}
use Rattle.tsp_date.proofs.take.date_take.Goals as goal

-- which rows of dates correct the clock
corrects-nothing : (x : ℕ) (past : Past) → corrects (nothing x past) ≡ false
unfolding nothing
corrects-nothing x past = refl

-- a date that is set does
corrects-sets : (from : Place) (number : ℕ) (time : ℤ) (x : ℕ) (past : Past) → corrects (sets_date_where from number time x past) ≡ may_date time x past
unfolding sets_date_where either_by new_date ◌followed_by◌ sets nothing
corrects-sets from number time x past = by_test (may_date time x past) where
  by_test : (b : Bool) → corrects (if b then new_date from number time x past else nothing x past) ≡ b
  by_test true = refl
  by_test false = refl

-- one that is passed on doesn't
corrects-passes : (from : Place) (q : PeerId) (number : ℕ) (time : ℤ) (x : ℕ) (past : Past) → corrects (passes_on from q number time x past) ≡ false
corrects-passes from q number time x past = corrects_none (passes_on from q number time x past)
    ((emits_built {all = still_sorts} refl (built_passes_on number time tt tt from q (place_unchanged from) tt tt)).only x past)

-- nor does one that is answered again
corrects-posts : (p : PeerId) (kind : Kind) (number x : ℕ) (past : Past) → corrects (posts p kind number x past) ≡ false
unfolding posts
corrects-posts p kind number x past = refl

-- nor does the answer of a master
corrects-end : (from : Place) (m : MessageValue) (x : ℕ) (past : Past) → corrects (from_peer from (date_acked m) x past) ≡ false
corrects-end from m x past = corrects_none (from_peer from (date_acked m) x past)
    ((emits_built {all = still_sorts} refl (built_from_peer from _ _ (place_unchanged from) (built_date_acked m))).only x past)

pub returns-in-DateAck-clause-row : goal.returns-in-DateAck-clause-row
returns-in-DateAck-clause-row g c last took e t =
    let m = c.args.m.now in
    let k : m.kind ≡ DateAck = sym c.kind.ensures ∙ c.in-DateAck.is in
    let s : DateState = record {
      dates = c.args.dates.now;
      master = c.args.master.now;
      station = c.args.station.now;
      last = last;
      clock = c.args.clock.now;
      took = took;
    } in
    rw (handles_end c.args.charge c.args.from m m.kind k) (c.hear_end.ensures.row c.args.tick s)

pub returns-in-DateAck-clause-corrects : goal.returns-in-DateAck-clause-corrects
returns-in-DateAck-clause-corrects g c past last took e h =
    let m = c.args.m.now in
    let k : m.kind ≡ DateAck = sym c.kind.ensures ∙ c.in-DateAck.is in
    sym (ap (λ row. corrects (row c.args.tick past)) (handles_end c.args.charge c.args.from m m.kind k) ∙ corrects-end c.args.from m c.args.tick past)

pub returns-in-Nothing : goal.returns-in-Nothing
returns-in-Nothing g c =
    let m = c.args.m.now in
    record {
      row = λ last took e t. Performs_task Nothing c.args.charge c.args.from m c.in-Nothing.ensures.row Performs_nothing;
      corrects = λ past last took e h. sym (ap corrects (c.in-Nothing.ensures.row past h.station h.dates) ∙ corrects-nothing c.args.tick past);
      room = record { spare = omega arith; few = omega arith };
      port = record { me = refl; peers = refl };
      role = refl;
      slaves = refl;
      peers = refl;
      clock = c.requires.later;
    }

pub returns-in-PassOn : goal.returns-in-PassOn
returns-in-PassOn g c =
    let m = c.args.m.now in
    let q = c.in-PassOn.followed in
    record {
      row = λ last took e t. Performs_task (PassOn q) c.args.charge c.args.from m c.in-PassOn.ensures.row
          (c.pass_on.ensures.row (record {
            dates = c.args.dates.now;
            master = c.args.master.now;
            station = c.args.station.now;
            last = last;
            clock = c.args.clock.now;
            took = took;
          }) _ t);
      corrects = λ past last took e h. sym (ap corrects (c.in-PassOn.ensures.row past h.station h.dates) ∙
          corrects-passes c.args.from q m.number (time_in m.body) c.args.tick past);
      room = record { spare = omega (arith, c.pass_on.ensures.room.spare); few = omega (arith, c.pass_on.ensures.room.few) };
      port = c.pass_on.ensures.port;
      role = c.pass_on.ensures.role;
      slaves = refl;
      peers = c.pass_on.ensures.peers;
      clock = c.requires.later;
    }

pub returns-in-AnswerAgain : goal.returns-in-AnswerAgain
returns-in-AnswerAgain g c =
    let m = c.args.m.now in
    let p = c.in-AnswerAgain.p in
    record {
      row = λ last took e t. Performs_task (AnswerAgain p) c.args.charge c.args.from m c.in-AnswerAgain.ensures.row
          (Performs_posting
          (record { dates = c.args.dates.now; master = c.args.master.now; station = c.args.station.now; last = last; clock = c.args.clock.now; took = took })
          (Emits_posts p DateAck m.number refl) (rw c.number.ensures at (c.post.ensures.row c.args.tick)));
      corrects = λ past last took e h. sym (ap corrects (c.in-AnswerAgain.ensures.row past h.station h.dates) ∙
          corrects-posts p DateAck m.number c.args.tick past);
      room = record { spare = omega (arith, c.post.ensures.room.spare); few = omega (arith, c.post.ensures.room.count) };
      port = record { me = refl; peers = refl };
      role = refl;
      slaves = refl;
      peers = refl;
      clock = c.requires.later;
    }

pub returns-then-not-may_date : goal.returns-then-not-may_date
unfolding sets_date_where
returns-then-not-may_date g c =
    let m = c.args.m.now in
    let test = rw c.time_of.ensures at c.may_date.ensures.test in
    record {
      row = λ last took e t. Performs_task Set c.args.charge c.args.from m c.in-Set.ensures.row
          (Performs_else_part (may_date (time_in m.body)) (new_date c.args.from m.number (time_in m.body)) (λ past h. test past h.master (sym h.last.tick_is ∙
          e) ∙ c.if-not-may_date.true) Performs_nothing);
      corrects = λ past last took e h. sym (ap corrects (c.in-Set.ensures.row past h.station h.dates) ∙
          corrects-sets c.args.from m.number (time_in m.body) c.args.tick past ∙ test past h.master (sym h.last.tick_is ∙ e) ∙ c.if-not-may_date.true);
      room = record { spare = omega arith; few = omega arith };
      port = record { me = refl; peers = refl };
      role = refl;
      slaves = refl;
      peers = refl;
      clock = c.requires.later;
    }

pub returns-else-not-may_date : goal.returns-else-not-may_date
unfolding sets_date_where new_date
returns-else-not-may_date g c =
    let m = c.args.m.now in
    let test = rw c.time_of.ensures at c.may_date.ensures.test in
    let announces = rw c.number-in-Set.ensures at (c.announce.ensures.row c.args.tick) in
    record {
      row = λ last took e t. Performs_task Set c.args.charge c.args.from m c.in-Set.ensures.row
          (Performs_then_part (may_date (time_in m.body)) nothing (λ past h. test past h.master (sym h.last.tick_is ∙ e) ∙ c.if-not-may_date.false)
          (Performs_then (c.correct.ensures.row (record {
            dates = c.args.dates.now;
            master = c.args.master.now;
            station = c.args.station.now;
            last = last;
            clock = c.args.clock.now;
            took = took;
          }) t)
          (announces (record {
            dates = c.correct.new.dates;
            master = c.args.master.now;
            station = c.args.station.now;
            last = moved_where true c.args.tick last;
            clock = c.correct.new.clock;
            took = took;
          }))));
      corrects = λ past last took e h. sym (ap corrects (c.in-Set.ensures.row past h.station h.dates) ∙
          corrects-sets c.args.from m.number (time_in m.body) c.args.tick past ∙ test past h.master (sym h.last.tick_is ∙ e) ∙ c.if-not-may_date.false);
      room = record {
        spare = omega (arith, c.correct.ensures.room.spare, c.announce.ensures.room.spare);
        few = omega (arith, c.correct.ensures.room.few, c.announce.ensures.room.few);
      };
      port = record { me = refl; peers = refl };
      role = refl;
      slaves = c.announce.ensures.slaves;
      peers = c.correct.ensures.peers;
      clock = c.correct.ensures.clock;
    }
