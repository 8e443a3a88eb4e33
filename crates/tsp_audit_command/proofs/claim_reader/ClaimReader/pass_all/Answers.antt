-- As many events are left as are ahead.
use Rattle.std.proofs.Common.{◌≡◌, ◌-◌, ◌∙◌, ap, sym, subst, length-drop, rules, length, MatchResult, Some}
use Rattle.tsp_audit_command.specs.{ClaimReaders.ClaimReaderValue, ClaimReaders.passes, Stands.Unpassed}
use Rattle.tsp_audit_command.proofs.claim_reader.ClaimReader.pass_all.Goals as goal

pub returns : goal.returns
returns c =
    let i = c.self.inside in
    let v = c.args.self.now in
    let all : c.len.result ≡ length i.events.items = search rules in
    let done : c.len-2.result ≡ length i.ends.items = search rules in
    let left : c.len.result - c.len-2.result ≡ length v.ahead =
    ap (λ n. n - c.len-2.result) all ∙ (ap (λ n. length i.events.items - n) done ∙ (sym (length-drop (length i.ends.items) i.events.items) ∙
    ap (λ (x : ClaimReaderValue). length x.ahead) c.self.view_is)) in
    subst (λ n. MatchResult c.pass.result (λ _. passes n v ≡ Some c.pass.new.self) (Unpassed (passes n v))) left c.pass.ensures
