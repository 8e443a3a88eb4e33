-- The name is the one that the port knows.
use Rattle.std.proofs.Common.{◌∙◌, refl, sym}
use Rattle.tsp_base.{proofs.PerformsLemmas.Performs_reading, specs.Words.bare, specs.Words.puts}
use Rattle.tsp_rules.specs.{CommonRows.master_name, CommonRows.names_master, Values.Post, Values.Message, Values.Ack}
use Rattle.tsp_acks.proofs.PostLemmas.{is_plain_fits}
use Rattle.tsp_clients.proofs.ClientLemmas.{Performs_named, master_name_is}
use Rattle.tsp_clients.proofs.naming.name_master.Goals as goal

pub new-message-requires : goal.new-message-requires
new-message-requires g c = is_plain_fits Ack refl

pub returns-clause-row : goal.returns-clause-row
unfolding names_master
returns-clause-row g c x =
    let from = c.args.from in
    let number = c.args.number in
    let put = rw c.new-message.ensures at c.put.ensures.acts in
    Performs_reading master_name (λ name. puts (Post from (Message (bare Ack number name)))) c.known_master-name.result
    (λ past h. master_name_is x past c.args.station.now c.args.last.now h ∙ sym c.known_master-name.ensures)
    (Performs_named from number c.known_master-name.result c.args.station.now c.args.last.now put)
