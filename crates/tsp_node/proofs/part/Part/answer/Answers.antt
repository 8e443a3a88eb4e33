-- Each question has its row.
use Rattle.std.proofs.Common.{◌≡◌, ◌∷◌, [], true, false, refl, sym, ◌∙◌}
use Rattle.tsp_rules.specs.Values.{Message, Good, Msite, MsiteReq, Test, TraceOff, TraceOn}
use Rattle.tsp_rules.{specs.CommonRows.names_master, specs.CommonRows.says_master, proofs.EmitsBuilt.emits_built}
use Rattle.tsp_rules.proofs.{Emits.Emits, Emits.Emits_more, Emits.Keeps_by, Emits.Posting, Unchanged.place_unchanged}
use Rattle.tsp_rules.proofs.BuiltShared.{built_names_master, built_says_master, built_tests, built_traces}
use Rattle.tsp_date.proofs.KeepLemmas.{DatesStand_by}
use Rattle.tsp_master.{proofs.TableLemmas.MasterStands_quiet, proofs.TableLemmas.quiet_sorts, specs.MasterStands.MasterStands}
use Rattle.tsp_resolve.proofs.ResolveLemmas.{ResolveStands_by}
use Rattle.tsp_node.proofs.HearLemmas.{audience_test, handles_msite, handles_msitereq, handles_test, handles_traceoff, handles_traceon}
use Rattle.tsp_node.proofs.NodeLemmas.{Performs_named_by, Performs_station, Performs_took, Performs_turned_by, took_beside}
use Rattle.tsp_node.proofs.part.Part.answer.Goals as goal

pub returns-in-Msite-clause-row : goal.returns-in-Msite-clause-row
returns-in-Msite-clause-row g c charge clock =
    let m = c.args.m.now in
    let kind : m.kind ≡ Msite = sym c.kind.ensures ∙ c.in-Msite.is in
    let row = rw c.number-number.ensures at (c.name_master.ensures.row c.args.tick) in
    let emits : Emits (Posting ∷ []) (names_master c.args.from m.number) = emits_built refl
    (built_names_master c.args.from m.number (place_unchanged c.args.from) tt tt) in
    rw (handles_msite charge c.args.from m kind) (took_beside c.args.tracing.now (Emits_more (Posting ∷ []) refl emits)
    (Performs_named_by refl refl refl refl emits row))

pub returns-in-MsiteReq-clause-row : goal.returns-in-MsiteReq-clause-row
returns-in-MsiteReq-clause-row g c charge clock =
    let x = c.args.tick in
    let m = c.args.m.now in
    let kind : m.kind ≡ MsiteReq = sym c.kind.ensures ∙ c.in-MsiteReq.is in
    let row = rw c.number-number.ensures at (c.say_master.ensures.row x) in
    let emits : Emits (Posting ∷ []) (says_master c.args.from m.number) = emits_built refl (built_says_master c.args.from m.number (place_unchanged c.args.from)
    tt tt) in
    let say = says_master c.args.from m.number in
    rw (handles_msitereq charge c.args.from m kind) (took_beside c.args.tracing.now (Emits_more (Posting ∷ []) refl emits)
    (Performs_took (Performs_station refl refl refl (Emits_more (Posting ∷ []) refl emits) (DatesStand_by say (Emits_more (Posting ∷ []) refl emits))
    (λ past h s. Keeps_by quiet_sorts MasterStands say MasterStands_quiet (Emits_more (Posting ∷ []) refl emits) x past c.args.self.now.master h.master)
    (λ past h s. ResolveStands_by say (Emits_more (Posting ∷ []) refl emits) x past c.args.self.now.resolve h.resolve) row)))

pub returns-in-TraceOn-clause-row : goal.returns-in-TraceOn-clause-row
returns-in-TraceOn-clause-row g c charge clock =
    let m = c.args.m.now in
    let kind : m.kind ≡ TraceOn = sym c.kind.ensures ∙ c.in-TraceOn.is in
    let row = rw c.number-number.ensures at (c.turn_trace.ensures.row c.args.tick) in
    rw (handles_traceon charge c.args.from m kind) (Performs_turned_by refl refl refl refl refl
    (emits_built refl (built_traces c.args.from m.number (place_unchanged c.args.from) tt tt true)) row)

pub returns-in-TraceOff-clause-row : goal.returns-in-TraceOff-clause-row
returns-in-TraceOff-clause-row g c charge clock =
    let m = c.args.m.now in
    let kind : m.kind ≡ TraceOff = sym c.kind.ensures ∙ c.in-TraceOff.is in
    let row = rw c.number-number.ensures at (c.turn_trace-in-TraceOff.ensures.row c.args.tick) in
    rw (handles_traceoff charge c.args.from m kind) (Performs_turned_by refl refl refl refl refl
    (emits_built refl (built_traces c.args.from m.number (place_unchanged c.args.from) tt tt false)) row)

pub returns-in_default-clause-row : goal.returns-in_default-clause-row
returns-in_default-clause-row g c charge clock =
    let m = c.args.m.now in
    let other = c.in_default in
    let kind : m.kind ≡ Test = audience_test m.kind c.requires.audience (λ e. other.not-Msite (c.kind.ensures ∙ e)) (λ e. other.not-MsiteReq (c.kind.ensures ∙
    e)) (λ e. other.not-TraceOn (c.kind.ensures ∙ e)) (λ e. other.not-TraceOff (c.kind.ensures ∙ e)) in
    let row = rw c.number-number.ensures at (c.test.ensures.row (record { from = c.args.from; taken = Good (Message m) }) clock) in
    rw (handles_test charge c.args.from m kind) (took_beside c.args.tracing.now (emits_built refl
    (built_tests c.args.from m.number (place_unchanged c.args.from) tt tt)) row)
