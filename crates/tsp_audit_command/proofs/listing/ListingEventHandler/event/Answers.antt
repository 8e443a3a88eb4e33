-- The event is listed, and its node may have woken.
use Rattle.std.proofs.Common.{◌≡◌, ◌∙◌, ap, inl, inr, refl, rules, sym, ◌∷◌, ◌++◌, [], ◌||◌}
use Rattle.std.proofs.Math.Path.{fun_ext}
use Rattle.tsp_claims.specs.Listed.{is_boot_of}
use Rattle.tsp_audit_command.proofs.{Reverses.reversed_more, StandLemmas.refused_next_as}
use Rattle.tsp_audit_command.proofs.listing.ListingEventHandler.event.Goals as goal

pub returns-clause-happens : goal.returns-clause-happens
returns-clause-happens c header events s =
    let e = c.args.e.now in
    let pushed : c.push.new.self.items ≡ c.args.self.now.events.items ++ e ∷ [] = search rules in
    record {
      header_is = s.header_is;
      events_are = pushed ∙ reversed_more events c.args.self.now.events.items e s.events_are;
      last_is = c.time_of-self.ensures;
      up_is = fun_ext (λ n. c.wake.ensures.1 n ∙ ap (λ u. is_boot_of e n || u n) s.up_is);
    }

pub returns-in-Some-clause-kept : goal.returns-in-Some-clause-kept
returns-in-Some-clause-kept c header events s = s

pub returns-in_default-of-clause-kept : goal.returns-in_default-of-clause-kept
returns-in_default-of-clause-kept c header events s = s

pub returns-in-Some-clause-fault : goal.returns-in-Some-clause-fault
returns-in-Some-clause-fault c header events s = inl (sym (refused_next_as header events c.args.self.now c.args.e.now s) ∙ sym c.in-Some.ensures)

pub returns-in_default-of-clause-fault : goal.returns-in_default-of-clause-fault
returns-in_default-of-clause-fault c header events s =
    inr (sym (refused_next_as header events c.args.self.now c.args.e.now s) ∙ (sym c.refusal.ensures ∙ search rules), refl)

pub returns-then-is_err-clause-fault : goal.returns-then-is_err-clause-fault
returns-then-is_err-clause-fault c header events s =
    inr (sym (refused_next_as header events c.args.self.now c.args.e.now s) ∙ (sym c.refusal.ensures ∙ search rules), refl)

pub returns-clause-fault : goal.returns-clause-fault
returns-clause-fault c header events s =
    sym (refused_next_as header events c.args.self.now c.args.e.now s) ∙ (sym c.refusal.ensures ∙ search rules)
