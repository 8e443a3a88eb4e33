use Rattle.std.proofs.Common.{◌∙◌, ap, sym, Some, decimal}
use Rattle.std.specs.{Net.Grammar.IsDotted, Net.Text.ipv4_text, declared.net.ipv4_addr.Ipv4Addr.Ipv4Addr}
use Rattle.std.proofs.NetLemmas.{Texts.IsDotted-ipv4_text, Theorems.IsIpv4Text_unique}
use Rattle.tsp_args.proofs.WordLemmas.{no_colon, octet_at, addr_of_parts}
use Rattle.tsp_script.proofs.Cuts.{mark_inside, marks_apart}
use Rattle.tsp_args.proofs.addrs.addr_of.Goals as goal

pub returns-in_err-ip-clause-reads : goal.returns-in_err-ip-clause-reads
returns-in_err-ip-clause-reads c = λ a h e. absurd (c.in_err-ip.ensures (rw e (mark_inside 58 (ipv4_text a.ip) (decimal a.port))))

pub returns-in_default-clause-reads : goal.returns-in_default-clause-reads
returns-in_default-clause-reads c = λ a h e.
    let cut = marks_apart 58 c.in_ok-ip.ip.now (ipv4_text a.ip) c.in_ok-ip.port.now (decimal a.port) c.in_ok-ip.ensures.1 (no_colon a.ip h.four h.octets)
    (sym c.in_ok-ip.ensures.0 ∙ e) in
    absurd (c.in_default.ensures (record { octets = a.ip }) (rw cut.0 (IsDotted-ipv4_text a.ip h.four (octet_at a.ip h.four h.octets))))

pub returns-in_err-port-clause-reads : goal.returns-in_err-port-clause-reads
returns-in_err-port-clause-reads c = λ a h e.
    let cut = marks_apart 58 c.in_ok-ip.ip.now (ipv4_text a.ip) c.in_ok-ip.port.now (decimal a.port) c.in_ok-ip.ensures.1 (no_colon a.ip h.four h.octets)
    (sym c.in_ok-ip.ensures.0 ∙ e) in
    let some = c.in_err-port.ensures.reads a.port h.some h.short cut.1 in absurd (cc)

pub returns-clause-reads : goal.returns-clause-reads
returns-clause-reads c = λ a h e.
    let cut = marks_apart 58 c.in_ok-ip.ip.now (ipv4_text a.ip) c.in_ok-ip.port.now (decimal a.port) c.in_ok-ip.ensures.1 (no_colon a.ip h.four h.octets)
    (sym c.in_ok-ip.ensures.0 ∙ e) in
    let here : IsDotted c.in_ok-ip.ip.now a.ip = rw cut.0 (IsDotted-ipv4_text a.ip h.four (octet_at a.ip h.four h.octets)) in
    let ip = ap (λ (v : Ipv4Addr). v.octets) (IsIpv4Text_unique c.in_ok-ip.ip.now c.in-Ok.ip (record { octets = a.ip }) c.in-Ok.ensures here) in
    let port = c.in_ok-port.ensures.reads a.port h.some h.short cut.1 in
    ap Some (addr_of_parts c.octets.result c.in_ok-port.port a (c.octets.ensures ∙ ip) (cc))
