use Rattle.tsp_page_laws.proofs.NamedProof.{one_life, unchanged_since, names_itself}
use Rattle.tsp_page_laws.proofs.laws.leaders_stamps_are_of_their_life.Goals as goal

pub returns-clause-life : goal.returns-clause-life
returns-clause-life c = one_life

pub returns-clause-alone : goal.returns-clause-alone
returns-clause-alone c = unchanged_since

pub returns-clause-names : goal.returns-clause-names
returns-clause-names c = names_itself
