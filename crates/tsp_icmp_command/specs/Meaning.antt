-- What lines of exchanges mean.
use Rattle.std.specs.Prelude.{◌≡◌, ℕ, ◌≤◌, ◌-◌, List, length, map}
use Rattle.std.specs.List.{All, AllZip}
use Rattle.tsp_lines.specs.{Lines.NoFeed, Lines.closed, Lines.AreLines, Meanings.Meaning}
use Rattle.tsp_icmp_command.specs.{Bests.TallyValue, Bests.bests, Bests.differences, Bests.group_lines, declared.exchange.Exchange.Exchange}
use Rattle.tsp_icmp_command.specs.{Findings.finding_of, Findings.finding_line, Records.IsExchange, Records.RefusesRecord}

-- the output line of an exchange
abbrev pub exchange_line : Exchange → List ℕ
exchange_line e = finding_line e.name (finding_of e)

-- the tally stands for these lines: it is the one after them
abbrev pub TallyStands : TallyValue → List (List ℕ) → Type 0
TallyStands t lines = (exchanges : List Exchange) × AllZip IsExchange lines exchanges × (t.bests ≡ bests (differences exchanges)) ×
    (t.left ≡ 1000 - length lines)

-- what lines mean: each is an exchange, of which there are at most 1,000, and gives a line; the end gives the group and its corrections
abbrev pub averaging : Meaning
averaging = record {
  accepts = λ lines text. (exchanges : List Exchange) × AllZip IsExchange lines exchanges × (length lines ≤ 1000) ×
      (text ≡ closed (map exchange_line exchanges));
  refuses = λ lines line cause. RefusesRecord line cause;
  limits = λ lines line. ⊥;
  full = λ lines. 1000 ≤ length lines;
  ends = λ lines more. (exchanges : List Exchange) × AllZip IsExchange lines exchanges × (more ≡ group_lines (bests (differences exchanges)));
  lacks = λ lines cause. ⊥;
}

-- octets are at most 1,000 lines, each an exchange
abbrev pub AreExchangeLines : List ℕ → Type 0
AreExchangeLines octets = (lines : List (List ℕ)) × (exchanges : List Exchange) × All NoFeed lines × AreLines octets lines × AllZip IsExchange lines exchanges ×
    (length lines ≤ 1000)
