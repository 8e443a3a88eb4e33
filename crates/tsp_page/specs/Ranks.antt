-- What a daemon is on its networks, as a number.
use Rattle.std.specs.Prelude.{ℕ, ◌==◌, if◌then◌else◌}
use Rattle.tsp_page.specs.declared.rank.Rank.{Rank, TheVariants.Nobody, TheVariants.Follows, TheVariants.Leads}

-- a rank's number on the page
abbrev pub rank_number : Rank → ℕ
rank_number Nobody = 0
rank_number Follows = 1
rank_number Leads = 2

-- the rank with a number; nobody's for a number that none has
abbrev pub rank_of : ℕ → Rank
rank_of n = if n == 1 then Follows else if n == 2 then Leads else Nobody
