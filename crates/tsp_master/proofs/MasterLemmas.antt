-- What one act more makes of what a master stands for.
use Rattle.std.proofs.Common.{◌≡◌, ◌≢◌, ℕ, Bool, true, false, [], ◌∷◌, ◌∙◌}
use Rattle.std.proofs.lemmas.Bool.{false≢true}
use Rattle.tsp_rules.specs.Values.{Act, Boot, Post, Become, Arm, Ring, Late, Abandon, Sample, Quiet, Probe, CloseAlarm, Message, Stamp, PeerId, Peer, Stranger}
use Rattle.tsp_rules.specs.Values.{Master, Request, Reply}
use Rattle.tsp_base.specs.Words.{Past, in_table, role, is_measured, grown}
use Rattle.tsp_base.proofs.SendLemmas.{seen_act}
use Rattle.tsp_measure.specs.Slaves.{entry_of, peers_of}
use Rattle.tsp_master.specs.{MasterStands.MasterStands, MasterStands.entry_at, declared.master.Master.Master as MasterStruct}

-- acts that leave rounds alone
abbrev pub is_aside : Act → Bool
is_aside Boot = false
is_aside (Become r) = false
is_aside (Post to (Stamp (Request word counter))) = false
is_aside (Post to (Stamp (Reply r))) = true
is_aside (Post to (Message m)) = true
is_aside (Arm Probe at) = false
is_aside (Arm CloseAlarm at) = false
is_aside (Ring Probe) = false
is_aside (Ring CloseAlarm) = false
is_aside (Late Probe) = false
is_aside (Late CloseAlarm) = false
is_aside Abandon = false
is_aside (Sample p counter diff err ticket) = false
is_aside _ = true

-- the entries of a master after an act
abbrev pub EntriesAfter : Past → ℕ → Act → MasterStruct → Type 0
EntriesAfter past x a new = (p : PeerId) → entry_of new.slaves p ≡ entry_at p (seen_act past.step x a ∷ past.seen)

-- a port that doesn't lead has no slaves after an act
abbrev pub EmptyAfter : Past → ℕ → Act → Type 0
EmptyAfter past x a = role past.seen ≢ Master → (p : PeerId) → (in_table p (seen_act past.step x a ∷ past.seen) ≡ false) ×
    (is_measured p (seen_act past.step x a ∷ past.seen) ≡ false)

-- such an act may change entries, and nothing else
pub MasterStands_aside : (a : Act) (x : ℕ) (past : Past) (old new : MasterStruct) → is_aside a ≡ true → peers_of new.slaves ≡ peers_of old.slaves → new.rounds ≡
    old.rounds → EntriesAfter past x a new → EmptyAfter past x a → MasterStands past old → MasterStands (grown x past (a ∷ [])) new
MasterStands_aside Boot x past old new e ps rs es em h = absurd (false≢true e)
MasterStands_aside (Become r) x past old new e ps rs es em h = absurd (false≢true e)
MasterStands_aside (Post to (Stamp (Request word counter))) x past old new e ps rs es em h = absurd (false≢true e)
MasterStands_aside (Post (Peer q) (Stamp (Reply r))) x past old new e ps rs es em h = record {
  peers = ps ∙ h.peers;
  entries = es;
  asked_is = rw rs h.asked_is;
  going = λ g. let r = h.going g in rw rs (record {
    requests = r.requests;
    samples = r.samples;
    probes_is = r.probes_is;
    opened = r.opened;
    recent = r.recent;
  });
  idle = h.idle;
  probing = h.probing;
  empty = em;
}
MasterStands_aside (Post Stranger (Stamp (Reply r))) x past old new e ps rs es em h = record {
  peers = ps ∙ h.peers;
  entries = es;
  asked_is = rw rs h.asked_is;
  going = λ g. let r = h.going g in rw rs (record {
    requests = r.requests;
    samples = r.samples;
    probes_is = r.probes_is;
    opened = r.opened;
    recent = r.recent;
  });
  idle = h.idle;
  probing = h.probing;
  empty = em;
}
MasterStands_aside (Post (Peer q) (Message m)) x past old new e ps rs es em h = record {
  peers = ps ∙ h.peers;
  entries = es;
  asked_is = rw rs h.asked_is;
  going = λ g. let r = h.going g in rw rs (record {
    requests = r.requests;
    samples = r.samples;
    probes_is = r.probes_is;
    opened = r.opened;
    recent = r.recent;
  });
  idle = h.idle;
  probing = h.probing;
  empty = em;
}
MasterStands_aside (Post Stranger (Message m)) x past old new e ps rs es em h = record {
  peers = ps ∙ h.peers;
  entries = es;
  asked_is = rw rs h.asked_is;
  going = λ g. let r = h.going g in rw rs (record {
    requests = r.requests;
    samples = r.samples;
    probes_is = r.probes_is;
    opened = r.opened;
    recent = r.recent;
  });
  idle = h.idle;
  probing = h.probing;
  empty = em;
}
MasterStands_aside (Arm Probe at) x past old new e ps rs es em h = absurd (false≢true e)
MasterStands_aside (Arm CloseAlarm at) x past old new e ps rs es em h = absurd (false≢true e)
MasterStands_aside (Arm Quiet at) x past old new e ps rs es em h = record {
  peers = ps ∙ h.peers;
  entries = es;
  asked_is = rw rs h.asked_is;
  going = λ g. let r = h.going g in rw rs (record {
    requests = r.requests;
    samples = r.samples;
    probes_is = r.probes_is;
    opened = r.opened;
    recent = r.recent;
  });
  idle = h.idle;
  probing = h.probing;
  empty = em;
}
MasterStands_aside (Arm _ at) x past old new e ps rs es em h = record {
  peers = ps ∙ h.peers;
  entries = es;
  asked_is = rw rs h.asked_is;
  going = λ g. let r = h.going g in rw rs (record {
    requests = r.requests;
    samples = r.samples;
    probes_is = r.probes_is;
    opened = r.opened;
    recent = r.recent;
  });
  idle = h.idle;
  probing = h.probing;
  empty = em;
}
MasterStands_aside (Ring Probe) x past old new e ps rs es em h = absurd (false≢true e)
MasterStands_aside (Ring CloseAlarm) x past old new e ps rs es em h = absurd (false≢true e)
MasterStands_aside (Ring _) x past old new e ps rs es em h = record {
  peers = ps ∙ h.peers;
  entries = es;
  asked_is = rw rs h.asked_is;
  going = λ g. let r = h.going g in rw rs (record {
    requests = r.requests;
    samples = r.samples;
    probes_is = r.probes_is;
    opened = r.opened;
    recent = r.recent;
  });
  idle = h.idle;
  probing = h.probing;
  empty = em;
}
MasterStands_aside (Late Probe) x past old new e ps rs es em h = absurd (false≢true e)
MasterStands_aside (Late CloseAlarm) x past old new e ps rs es em h = absurd (false≢true e)
MasterStands_aside (Late _) x past old new e ps rs es em h = record {
  peers = ps ∙ h.peers;
  entries = es;
  asked_is = rw rs h.asked_is;
  going = λ g. let r = h.going g in rw rs (record {
    requests = r.requests;
    samples = r.samples;
    probes_is = r.probes_is;
    opened = r.opened;
    recent = r.recent;
  });
  idle = h.idle;
  probing = h.probing;
  empty = em;
}
MasterStands_aside Abandon x past old new e ps rs es em h = absurd (false≢true e)
MasterStands_aside (Sample p counter diff err ticket) x past old new e ps rs es em h = absurd (false≢true e)
MasterStands_aside _ x past old new e ps rs es em h = record {
  peers = ps ∙ h.peers;
  entries = es;
  asked_is = rw rs h.asked_is;
  going = λ g. let r = h.going g in rw rs (record {
    requests = r.requests;
    samples = r.samples;
    probes_is = r.probes_is;
    opened = r.opened;
    recent = r.recent;
  });
  idle = h.idle;
  probing = h.probing;
  empty = em;
}
