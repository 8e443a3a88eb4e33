-- The row's test is the station's.
use Rattle.std.proofs.Common.{sym, ◌∙◌, ap}
use Rattle.tsp_base.specs.Words.{nothing}
use Rattle.tsp_base.proofs.PerformsLemmas.{Performs_then_part, Performs_else_part, Performs_nothing}
use Rattle.tsp_rules.specs.{MasterRows.sends_away, SendRows.begins, SendRows.has_quit, SendRows.is_kind_quit, Values.QuitKind}
use Rattle.tsp_acks.specs.Openings.{is_of}
use Rattle.tsp_master.proofs.{RoomLemmas.once, TakeLemmas.has_quit_is}
use Rattle.tsp_master.proofs.take.send_away.Goals as goal

pub returns-then-not-is_quit-clause-row : goal.returns-then-not-is_quit-clause-row
unfolding sends_away
returns-then-not-is_quit-clause-row g c =
    Performs_else_part (has_quit c.args.peer) nothing (λ past h. has_quit_is c.args.peer c.args.tick past c.args.station.now h.stands ∙
    ap (is_of is_kind_quit) (sym c.kind.ensures) ∙ sym c.is_quit.ensures ∙ c.if-not-is_quit.true) c.begin.ensures.row

pub returns-else-not-is_quit-clause-row : goal.returns-else-not-is_quit-clause-row
unfolding sends_away
returns-else-not-is_quit-clause-row g c =
    Performs_then_part (has_quit c.args.peer) (begins QuitKind c.args.peer) (λ past h. has_quit_is c.args.peer c.args.tick past c.args.station.now h.stands ∙
    ap (is_of is_kind_quit) (sym c.kind.ensures) ∙ sym c.is_quit.ensures ∙ c.if-not-is_quit.false) Performs_nothing

pub returns-then-not-is_quit-clause-room : goal.returns-then-not-is_quit-clause-room
returns-then-not-is_quit-clause-room g c = once 0 0 c.begin.ensures.room
