-- The page of a history: what a daemon and a supervisor that read every clock without delay would write.
use Rattle.std.specs.Prelude.{ℕ, pos, negsuc, ◌-ℤ◌, List, replicate, true}
use Rattle.tsp_base.specs.Words.{Line, of, dids, moved, target, rest, last_correct}
use Rattle.tsp_promises.specs.{ClockAt.clock_at, Setting.Setting}
use Rattle.tsp_page.specs.declared.{daemon_half.DaemonHalf.DaemonHalf, look_half.LookHalf.LookHalf}
use Rattle.tsp_page.specs.declared.rank.Rank.{TheVariants.Follows}

-- the daemon's half of node k after the history h, as a follower of peer 0, in a life whose word is 0
abbrev pub half_of : ℕ → List Line → DaemonHalf
half_of k h = record {
  life = 0;
  counter = 4;
  origin = pos 0;
  origin_tick = 0;
  rate = pos 0;
  tick = last_correct (dids (of k h));
  target = target (dids (of k h)) (last_correct (dids (of k h)));
  rest = rest (dids (of k h));
  least = negsuc 9223372036854775807;
  moved = moved (dids (of k h));
  steps = 0;
  rank = Follows;
  master = 0;
  alive = last_correct (dids (of k h));
}

-- the look of node k at node m at the true time t
abbrev pub glance_of : Setting → ℕ → ℕ → List Line → ℕ → LookHalf
glance_of setting k m h t = record {
  life = 0;
  moved = moved (dids (of k h));
  looked = setting.tick k t;
  low = clock_at setting m h t -ℤ clock_at setting k h t;
  high = clock_at setting m h t -ℤ clock_at setting k h t;
  master = 0;
  drift = setting.drift;
  had = true;
  learned = pos 0;
  name = replicate 256 0;
}
