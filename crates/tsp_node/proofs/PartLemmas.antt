-- What a part of a port keeps of its peers.
use Rattle.std.proofs.Common.{sym, ◌∙◌, ap, ◌≡◌, ℕ, List, length}
use Rattle.tsp_rules.specs.Values.{PeerId}
use Rattle.tsp_date.specs.Dates.{peers_of as dated_of}
use Rattle.tsp_measure.specs.Slaves.{peers_of}
use Rattle.tsp_resolve.specs.declared.resolve.Resolve.{Resolve}
use Rattle.tsp_node.specs.declared.part.Part.{Part}

-- the station, the slaves, the rivals and the dates still have the same peers
pub still_alike : (part : Part) {slaves dates peers : List PeerId} {marks : ℕ} → slaves ≡ peers_of part.master.slaves → marks ≡ length part.resolve.marks →
    dates ≡ dated_of part.dates.dated → peers ≡ part.station.peers →
    record { same : slaves ≡ peers; marks : marks ≡ length peers; dated : dates ≡ peers }
still_alike part s m d p = record { same = s ∙ part.same ∙ sym p; marks = m ∙ part.marks ∙ ap length (sym p); dated = d ∙ part.dated ∙ sym p }

-- rivals that are the same are as many
pub as_many : {old new : Resolve} → new ≡ old → length new.marks ≡ length old.marks
as_many e = ap (λ (r : Resolve). length r.marks) e
