use Rattle.tsp_base.proofs.KindLemmas.{kind_of_kind_number, kind_number_kind_of}
use Rattle.tsp_base.proofs.kind.numbers_name_kinds.Goals as goal

pub returns-clause-back : goal.returns-clause-back
returns-clause-back c = kind_of_kind_number

pub returns-clause-only : goal.returns-clause-only
returns-clause-only c = kind_number_kind_of
