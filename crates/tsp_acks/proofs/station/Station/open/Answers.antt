-- A copy of the message is posted, and the message itself is kept.
use Rattle.std.proofs.Common.{[], ◌∷◌, ◌++◌, ◌∙◌, ap, refl}
use Rattle.tsp_rules.specs.Values.{Post, Message, Peer}
use Rattle.tsp_base.proofs.FrameLemmas.{PutsExactly_put}
use Rattle.tsp_acks.proofs.station.Station.open.Goals as goal

pub begin-requires-clause-peer : goal.begin-requires-clause-peer
begin-requires-clause-peer g c = rw c.args.self.now.slots c.requires.peer

pub invariant_of-self : goal.invariant_of-self
invariant_of-self g c =
    let st = c.args.self.now in
    record { slots = c.begin.ensures.peers ∙ st.slots; count = st.count; master = st.master }

pub returns-clause-acts : goal.returns-clause-acts
returns-clause-acts g c =
    c.put.ensures.acts ∙ ap (λ m. g.D.Desk.acts c.args.desk.now ++ record { port = c.args.port; act = Post (Peer c.args.p) (Message m) } ∷ []) c.copy.ensures

pub returns-clause-sends : goal.returns-clause-sends
returns-clause-sends g c = c.begin.ensures.sends

pub returns-clause-rest : goal.returns-clause-rest
returns-clause-rest g c = record { me = refl; role = refl; hold = refl; alarms = refl; backers = refl; peers = refl }

pub returns-clause-room : goal.returns-clause-room
returns-clause-room g c = PutsExactly_put _ c.put.ensures.spare c.put.ensures.acts
