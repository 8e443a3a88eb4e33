-- No peer has a date, and a boot has forgotten all.
use Rattle.std.proofs.Common.{◌∙◌, sym, refl}
use Rattle.tsp_date.proofs.DatesLemmas.{last_idle, peers_idle}
use Rattle.tsp_date.proofs.dates.Dates.new.Goals as goal

pub returns-clause-peers : goal.returns-clause-peers
returns-clause-peers c = rw (c.into_boxed_slice.ensures.items, c.in_ok-dated.ensures) (peers_idle c.args.peers.now)

pub returns-clause-stands : goal.returns-clause-stands
returns-clause-stands c x past e = record {
  peers = rw (c.into_boxed_slice.ensures.items, c.in_ok-dated.ensures) (peers_idle c.args.peers.now ∙ sym e);
  last = λ p. rw (c.into_boxed_slice.ensures.items, c.in_ok-dated.ensures) (last_idle c.args.peers.now p);
  asked = refl;
}
