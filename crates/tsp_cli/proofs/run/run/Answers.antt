use Rattle.std.proofs.Common.{arith, inl, inr, refl}
use Rattle.tsp_query.proofs.FaultLemmas.{Counts_same}
use Rattle.tsp_args.specs.declared.command.Command.TheVariants.{Replay}
use Rattle.tsp_cli.proofs.CommandLemmas.{command_same, does_as, untouched_as, command_read, command_none, words_link, said_counts, said_unlinked, said_unread}
use Rattle.tsp_cli.proofs.CommandLemmas.{Untouched_same, Says_nothing, Replay_prints, Replay_so_far}
use Rattle.tsp_cli.{proofs.RunLemmas.unused_link, proofs.SoFarLemmas.nothing_so_far, specs.Commands.now_of}
use Rattle.tsp_cli.proofs.run.run.Goals as goal

pub run_command-requires-clause-command : goal.run_command-requires-clause-command
run_command-requires-clause-command g c = (command_read _ _ _ c.in-Ok-Some.field-0-is c.in-Ok-Some.ensures.reads).0

pub returns-in-Ok-Some : goal.returns-in-Ok-Some
returns-in-Ok-Some g c =
    let r = c.run_command.ensures in
    let n = c.run_command.new in
    let old = now_of g.S.Source g.K.Sink g.L.Link g.T.Ticker c.args.source.now c.args.sink.now c.args.link.now c.args.ticker.now in
    let new = now_of g.S.Source g.K.Sink g.L.Link g.T.Ticker n.source n.sink n.link n.ticker in
    let read = command_read _ _ _ c.in-Ok-Some.field-0-is c.in-Ok-Some.ensures.reads in
    let one = c.in-Ok-Some.ensures.one in
    record {
      does = λ command is words.
          inr (does_as _ command old new c.run_command.result (command_same _ _ command c.in-Ok-Some.field-0-is (one command is words)) r.does);
      headline = λ words ok.
          Replay_prints _ old new c.run_command.result (command_same _ _ Replay c.in-Ok-Some.field-0-is (one Replay tt words)) r.does ok;
      so_far = λ words.
          Replay_so_far _ old new c.run_command.result (command_same _ _ Replay c.in-Ok-Some.field-0-is (one Replay tt words)) r.does;
      usage = λ none. absurd (none _ read.0 read.1);
      exact = λ e. absurd (r.used e);
      untouched = λ command is words.
          untouched_as _ command _ _ _ _ _ _ (command_same _ _ command c.in-Ok-Some.field-0-is (one command is words)) r.untouched;
      link = words_link _ _ _ _ _ _ read r.link;
      read = r.read;
      unended = r.unended;
      write = r.write;
      last = r.last;
    }

pub returns-in-Ok-None : goal.returns-in-Ok-None
returns-in-Ok-None g c = record {
  link = unused_link _ _ _ _ (said_unlinked _ _ _ c.say.ensures.says);
  read = Counts_same _ _ _ refl (said_unread _ _ _ c.say.ensures.says);
  unended = λ e. absurd (said_unread _ _ _ c.say.ensures.says e);
  write = said_counts _ _ _ c.say.ensures.later c.say.ensures.write c.say.ensures.still;
  does = λ command is words. absurd (command_none _ _ c.in-Ok-None.field-0-is c.in-Ok-None.ensures.reads command is words);
  headline = λ words ok. absurd (command_none _ _ c.in-Ok-None.field-0-is c.in-Ok-None.ensures.reads Replay tt words);
  so_far = λ words. absurd (command_none _ _ c.in-Ok-None.field-0-is c.in-Ok-None.ensures.reads Replay tt words);
  untouched = λ command is words. Untouched_same command _ _ _;
  exact = λ e. command_none _ _ c.in-Ok-None.field-0-is c.in-Ok-None.ensures.reads;
  last = omega arith;
  usage = λ none. (c.say.ensures.says, refl, refl, refl);
}

pub returns-in-Err : goal.returns-in-Err
returns-in-Err g c = record {
  link = unused_link _ _ _ _ (λ e. cc);
  read = Counts_same _ _ _ refl (λ e. cc);
  write = Counts_same _ _ _ refl (λ e. cc);
  does = λ command is words. inl (refl, refl);
  usage = λ unbuilt. (Says_nothing _, refl, refl, refl);
  so_far = λ words. nothing_so_far _ _;
  untouched = λ command is words. Untouched_same command _ _ _;
  exact = λ e. cc;
  headline = λ words ok. cc;
  last = omega arith;
  unended = λ e. cc;
}
