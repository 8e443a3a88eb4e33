-- Deeds elsewhere change nothing of a port but what it remembers of the node's last correction.
use Rattle.std.proofs.Common.{◌∙◌, ap}
use Rattle.tsp_master.proofs.TurnLemmas.{MasterStands_elsewhere}
use Rattle.tsp_node.proofs.RivalKeeps.{ResolveStands_elsewhere}
use Rattle.tsp_node.proofs.part.Part.moved.Goals as goal

pub returns-clause-stands : goal.returns-clause-stands
returns-clause-stands c past step amount shown stepped before after h clock =
    let s = h.station in
    record {
      station = record {
        own = s.own;
        name = s.name;
        may = s.may;
        strict = s.strict;
        peers = s.peers;
        word = s.word;
        role = s.role;
        alarms = s.alarms;
        hold = s.hold;
        sends = s.sends;
        begun = s.begun;
        backers = s.backers;
      };
      last = record {
        tick_is = ap (λ l. l.tick) c.moved.ensures;
        taken_is = ap (λ l. l.taken) c.moved.ensures;
        name_is = ap (λ l. l.name) c.moved.ensures ∙
            h.last.name_is;
      };
      master = MasterStands_elsewhere _ past c.args.self.now.master h.master;
      resolve = ResolveStands_elsewhere _ past c.args.self.now.resolve h.resolve;
      dates = record { peers = h.dates.peers; last = h.dates.last; asked = h.dates.asked };
      clock = clock;
    }
