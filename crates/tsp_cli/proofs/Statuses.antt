-- The table of exit statuses.
use Rattle.std.proofs.Common.{◌≡◌, refl}
use denote.Enum.Declared.{tag_of}
use Rattle.tsp_cli.specs.declared.status.Status.TheVariants.{Ok as Done}
use Rattle.tsp_cli.specs.{Statuses.status_number, contracts.status.Status.the_type, declared.status.Status.Status}

pub tag_of_status : (s : Status) → tag_of the_type s ≡ status_number s
tag_of_status Done = refl
tag_of_status _ = refl
