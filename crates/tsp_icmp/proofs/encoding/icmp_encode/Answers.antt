use Rattle.std.proofs.Common.{◌≡◌, refl}
use Rattle.std.specs.Int.{w16, w32, to_be_bytes}
use Rattle.tsp_icmp.proofs.encoding.icmp_encode.Goals as goal

pub returns-clause-octets : goal.returns-clause-octets
returns-clause-octets c =
    let i : c.to_be_bytes.result ≡ to_be_bytes w16 c.args.t.now.ident = c.to_be_bytes.ensures in
    let s : c.to_be_bytes-2.result ≡ to_be_bytes w16 c.args.t.now.seq = c.to_be_bytes-2.ensures in
    let o : c.to_be_bytes-3.result ≡ to_be_bytes w32 c.args.t.now.originate = c.to_be_bytes-3.ensures in
    let r : c.to_be_bytes-4.result ≡ to_be_bytes w32 c.args.t.now.receive = c.to_be_bytes-4.ensures in
    let t : c.to_be_bytes-5.result ≡ to_be_bytes w32 c.args.t.now.transmit = c.to_be_bytes-5.ensures in
    rw (c.to_be_bytes-6.ensures, c.checksum.ensures, i, s, o, r, t, c.type_of-kind.ensures) refl
