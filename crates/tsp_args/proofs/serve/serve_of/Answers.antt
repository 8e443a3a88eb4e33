use Rattle.std.proofs.Common.{◌≡◌, ◌∙◌, refl, sym, ap, arith, Some, length, map, string_bytes, decimal, slice_range}
use Rattle.std.proofs.lemmas.List.{length-map}
use Rattle.tsp_args.specs.{Addrs.addr_text, Ports.peer_words, Ports.ArePorts, Serves.candidacy_word}
use Rattle.tsp_args.proofs.WordLemmas.{four_words, serve_of_parts}
use Rattle.tsp_args.proofs.serve.serve_of.Goals as goal

pub returns-in_default-clause-reads : goal.returns-in_default-clause-reads
returns-in_default-clause-reads c = λ s h e. absurd (let n = simp length-map at (ap length e) in omega (arith, n))

pub returns-clause-reads : goal.returns-clause-reads
returns-clause-reads c = λ s h e.
    let whole = four_words string_bytes c.args.words.now c.local-item.result c.name-item.result c.candidacy-item.result c.turns-item.result (omega arith)
    c.local-item.is c.name-item.is c.candidacy-item.is c.turns-item.is in
    let parts = sym whole ∙ e in
    let l : string_bytes c.local-item.result ≡ addr_text s.local = cc (parts) in
    let n : string_bytes c.name-item.result ≡ s.name = cc (parts) in
    let k : string_bytes c.candidacy-item.result ≡ candidacy_word s.candidacy = cc (parts) in
    let t : string_bytes c.turns-item.result ≡ decimal s.turns = cc (parts) in
    let p : map string_bytes (slice_range c.args.words.now 4 (length c.args.words.now)) ≡ peer_words s.ports = cc (parts) in
    let local : Some c.in-Some.local ≡ Some s.local = c.in-Some.ensures.reads s.local h.local (c.as_bytes.ensures.value ∙ l) in
    let here : c.in-Some.local ≡ s.local = cc in
    let candidacy : Some c.in-Some-candidacy_of.candidacy ≡ Some s.candidacy = c.in-Some-candidacy_of.ensures.reads s.candidacy (c.as_str.ensures.value ∙ k) in
    let turns : Some c.in-Some-turns_of.turns ≡ Some s.turns = c.in-Some-turns_of.ensures.reads s.turns h.some h.few (c.as_str-2.ensures.value ∙ t) in
    let are : ArePorts c.in-Some.local s.ports = rw here h.ports in
    let ports : c.in_ok-ports.field-0 ≡ Some s.ports = c.in_ok-ports.ensures.reads s.ports are p in
    ap Some (serve_of_parts _ _ _ _ _ s here (c.in-Some-host_of.ensures.same ∙ (c.as_bytes-2.ensures.value ∙ n)) (cc) (cc) (cc))

pub returns-clause-found : goal.returns-clause-found
returns-clause-found c =
    let whole = four_words string_bytes c.args.words.now c.local-item.result c.name-item.result c.candidacy-item.result c.turns-item.result (omega arith)
    c.local-item.is c.name-item.is c.candidacy-item.is c.turns-item.is in
    let l : string_bytes c.local-item.result ≡ addr_text c.in-Some.local = sym c.as_bytes.ensures.value ∙ c.in-Some.ensures.found.1 in
    let n : string_bytes c.name-item.result ≡ c.in-Some-host_of.name = sym (c.in-Some-host_of.ensures.same ∙ c.as_bytes-2.ensures.value) in
    let k : string_bytes c.candidacy-item.result ≡ candidacy_word c.in-Some-candidacy_of.candidacy = sym c.as_str.ensures.value ∙
    c.in-Some-candidacy_of.ensures.found in
    let t : string_bytes c.turns-item.result ≡ decimal c.in-Some-turns_of.turns = sym c.as_str-2.ensures.value ∙ c.in-Some-turns_of.ensures.found.2 in
    let p = rw c.in-Some-2.is at c.in_ok-ports.ensures.found in (
      record {
        local = c.in-Some.ensures.found.0;
        name = c.in-Some-host_of.ensures.range;
        some = c.in-Some-turns_of.ensures.found.0;
        few = c.in-Some-turns_of.ensures.found.1;
        ports = p.0;
      },
      whole ∙ rw (l, n, k, t, p.1) refl,
    )
