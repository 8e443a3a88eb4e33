-- How the rows of single ports are made that a node's rows over its ports need besides.
use Rattle.std.{specs.Prelude.true, specs.Prelude.[], specs.Prelude.◌∷◌, specs.Prelude.refl, proofs.lemmas.Bool.and_from}
use Rattle.tsp_rules.specs.Values.{Become, Quiet, Port, Starting, QUIET}
use Rattle.tsp_rules.specs.{GateRows.loosens_master, GateRows.reposts, GateRows.sends_loops, Renames.Naming}
use Rattle.tsp_rules.proofs.RowCodes.{AMessage, ANumber, Arms, IsMaster, Loops, Owed, Puts, Reposts}
use Rattle.tsp_rules.proofs.Built.{At, Built, Empty, Then, whichever}
use Rattle.tsp_rules.proofs.{BuiltRoles.built_yields, BuiltRoles.yield_sorts, Emits.Posting, Emits.is_in_own, Emits.sort_of_kind}
use Rattle.tsp_base.specs.Words.{MessageValue, arms, puts, ◌followed_by◌}

module _ {m : Naming} {o : Owed} where
  pub built_loosens_master : Built m o yield_sorts 0 2 loosens_master loosens_master
  unfolding loosens_master
  built_loosens_master = whichever IsMaster built_yields Empty

  -- a life begins
  pub built_starts : Built m o yield_sorts 0 2 (puts (Become Starting) followed_by arms Quiet QUIET) (puts (Become Starting) followed_by arms Quiet QUIET)
  built_starts = Then (At (Puts (Become Starting) refl tt) refl) (At (Arms Quiet QUIET tt) refl)

  pub built_sends_loops : (q : Port) → o.of (ANumber q.0) → Built m o (Posting ∷ []) 1 0 (sends_loops q) (sends_loops q)
  built_sends_loops q is = At (Loops q is) refl

  -- a message is passed on as it is
  pub built_reposts : (msg : MessageValue) → o.of (AMessage msg) → Built m o (sort_of_kind msg.kind ∷ []) 1 0 (reposts msg) (reposts msg)
  built_reposts msg is = At (Reposts msg is) (and_from _ true (is_in_own (sort_of_kind msg.kind)) refl)
