-- One post, which changes nothing of the station.
use Rattle.tsp_base.proofs.FrameLemmas.{PutsExactly_put}
use Rattle.tsp_acks.proofs.{PostLemmas.is_plain_fits, PostedLemmas.named, PostedLemmas.Performs_post_back}
use Rattle.tsp_acks.proofs.station.Station.post_back.Goals as goal

pub new-message-requires : goal.new-message-requires
new-message-requires g c = is_plain_fits c.args.kind c.requires.plain

pub returns : goal.returns
returns g c = record {
  row = λ x. Performs_post_back c.args.to c.args.kind c.args.number x c.args.port c.args.self.now c.requires.plain
      (named c.args.kind c.args.number c.new-message.ensures c.copy.ensures) c.put.ensures.acts;
  room = PutsExactly_put _ c.put.ensures.spare c.put.ensures.acts;
}
