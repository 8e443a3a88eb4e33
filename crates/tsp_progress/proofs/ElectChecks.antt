-- The premises of an election, as computations over events and histories.
use Rattle.std.proofs.Common.{sym, ap, subst, arith, true≢false, inl, inr, ◌∙◌, ◌≡◌, ◌≢◌, ◌≤◌, ◌<◌, ℕ, ◌+◌, ◌*◌, ◌==◌, ◌&&◌, ◌||◌, not, nat_le, nat_lt, Bool}
use Rattle.std.proofs.Common.{true, false, List, [], ◌∷◌}
use Rattle.std.proofs.Common.{Option, None, Some, length, eq-eqb, leb-true, le-leb, ltb-true, slice_get, suc, zero, refl}
use Rattle.std.proofs.lemmas.Bool.{and_parts, not-true}
use Rattle.tsp_rules.specs.Values.{Become, Boot, Master, Message, Post, Event, BootAt, Bytes, Peer, Stranger, Take, Turn, HOLD, LIFE}
use Rattle.tsp_base.specs.Words.{Acts, Deed, Did, Elsewhere, HeaderValue, Here, Line, MessageValue, Seen, Within, first_port, of, peer_of, taken, view}
use Rattle.tsp_promises.proofs.shared.ElectionFacts.{stood_at}
use Rattle.tsp_rules.specs.Guards.{is_master}
use Rattle.tsp_rules.specs.Values.{Good, Kind, MasterAck, MasterUp, QuitKind, Took}
use Rattle.tsp_rules.specs.{CommonRows.is_idle, SendRows.is_kind_election}
use Rattle.tsp_base.specs.Words.{held, may_back, role}
use Rattle.tsp_progress.specs.LoneWins.{Unmastered, Welcomed, is_masterly}
use Rattle.tsp_progress.specs.WinsUnopposed.{Unhindered, Unopposed, Won, opposed, opposes}
use Rattle.tsp_base.proofs.PlaceLemmas.{Within_length}
use Rattle.tsp_promises.specs.{Fits.node_of, Premises.Honest, Premises.Life, Setting.Setting}
use Rattle.tsp_codec.specs.Numbers.{octet_at}
use Rattle.tsp_run.specs.{Networks.networks, Setting.SetBy, Setting.network_of}
use Rattle.tsp_run.specs.{Premised.IsPrompt, Premised.IsSealed, Premised.Prompt, Premised.Sealed, Ranges.Accepted, Run.posts, Run.run}
use Rattle.tsp_run.specs.declared.posted.Posted.{Posted}
use Rattle.tsp_run.proofs.RunPremises.{runs_keep_premises}
use Rattle.tsp_progress.specs.{AnswersUse.all_stay, ElectUse.stand_line, OneUse.two_may}
use Rattle.tsp_progress.specs.OneAtATime.{IsNear, TwoStand, Unbooted}

abbrev boots : Deed → Bool
boots (Acts Boot) = true
boots _ = false

-- no line after a place of this length is a boot
abbrev pub none_boot : ℕ → List Line → Bool
none_boot first [] = true
none_boot first (l ∷ older) = not (nat_le first (length older) && boots l.did.deed) && none_boot first older

pub unbooted_by : (stays : ℕ → Bool) (s world : List Line) → none_boot (length s) world ≡ true → Unbooted stays s world
unbooted_by stays s [] e l older w since stay is = let bad : ⊥ = cc in absurd bad
unbooted_by stays s (k ∷ rest) e l older (inr w) since stay is =
    unbooted_by stays s rest (and_parts (not (nat_le (length s) (length rest) && boots k.did.deed)) (none_boot (length s) rest) e).1 l older w since stay is
unbooted_by stays s (k ∷ rest) e l older (inl same) since stay is =
    let both = and_parts (not (nat_le (length s) (length rest) && boots k.did.deed)) (none_boot (length s) rest) e in
    let line : k ≡ l = cc in
    let tail : rest ≡ older = cc in
    let late : nat_le (length s) (length rest) ≡ true = le-leb (length s) (length rest) (Within_length s rest (subst (λ o. Within s o) (sym tail) since)) in
    let deed : k.did.deed ≡ Acts Boot = subst (λ j. j.did.deed ≡ Acts Boot) (sym line) is in
    let bad : not (nat_le (length s) (length rest) && boots k.did.deed) ≡ false = rw (late, deed) refl in
    true≢false (sym both.0 ∙ bad)

-- no octets from outside have a peer's name
abbrev is_sealed : Event → Bool
is_sealed (Bytes at node port (Peer p) octets) = false
is_sealed _ = true

abbrev pub all_sealed : List Event → Bool
all_sealed [] = true
all_sealed (e ∷ before) = is_sealed e && all_sealed before

sealed_one : (e : Event) → is_sealed e ≡ true → IsSealed e
sealed_one (Bytes at node port (Peer p) octets) e = true≢false (sym e)
sealed_one (Bytes at node port Stranger octets) e = tt
sealed_one _ e = tt

sealed : (events : List Event) → all_sealed events ≡ true → Sealed events
sealed [] e = tt
sealed (k ∷ before) e = let both = and_parts (is_sealed k) (all_sealed before) e in (sealed_one k both.0, sealed before both.1)

-- no datagram is taken late
abbrev is_young : ℕ → Option Posted → Bool
is_young at None = true
is_young at (Some p) = nat_le at (p.at + LIFE)

abbrev is_prompt : HeaderValue → List Event → Event → Bool
is_prompt header before (Take at k) = is_young at (slice_get (posts (run header before)) k)
is_prompt header before _ = true

abbrev pub all_prompt : HeaderValue → List Event → Bool
all_prompt header [] = true
all_prompt header (e ∷ before) = is_prompt header before e && all_prompt header before

prompt_one : (header : HeaderValue) (before : List Event) (e : Event) → is_prompt header before e ≡ true → IsPrompt header before e
prompt_one header before (Take at k) e = λ p is. leb-true at (p.at + LIFE) (subst (λ o. is_young at o ≡ true) is e)
prompt_one header before (BootAt at node word) e = tt
prompt_one header before (Turn at node) e = tt
prompt_one header before (Bytes at node port from octets) e = tt

prompt : (header : HeaderValue) (events : List Event) → all_prompt header events ≡ true → Prompt header events
prompt header [] e = tt
prompt header (k ∷ before) e = let both = and_parts (is_prompt header before k) (all_prompt header before) e in
    (prompt_one header before k both.0, prompt header before both.1)

pub honest_by : (header : HeaderValue) (events : List Event) → Accepted header events → all_sealed events ≡ true → Honest (run header events)
honest_by header events a e = (runs_keep_premises header events a).honest (sealed events e)

pub life_by : (header : HeaderValue) (events : List Event) → Accepted header events → all_prompt header events ≡ true → Life (run header events)
life_by header events a e = (runs_keep_premises header events a).life (prompt header events e)

-- two candidatures in a run of a and b, which have no drift
pub near_by : (setting : Setting) → setting.drift ≡ 0 → (long gap : ℕ) (c d : Line) → d.did.step.at + 2 * long ≡ c.did.step.at + gap → gap < HOLD →
    IsNear setting long c d
near_by setting drift long gap c d sum small x e =
    let none : setting.drift * x ≡ 0 = rw drift (omega arith) in
    let same : x ≡ gap = omega (arith, sum, e) in
    omega (arith, none, same, small)

pub two_stand : (setting : Setting) → SetBy two_may setting → (long t : ℕ) (s : List Line) (m n x y : ℕ) (older newer world : List Line) →
    Within (stand_line m x ∷ older) world → Within (stand_line n y ∷ newer) world → Within (stand_line m x ∷ older) newer → Within s older →
    (m == n) ≡ false → network_of (networks two_may) m first_port ≡ network_of (networks two_may) n first_port → y + 2 * long < t →
    IsNear setting long (stand_line m x) (stand_line n y) → TwoStand setting long t all_stay s (stand_line m x) older (stand_line n y) newer world
two_stand setting set long t s m n x y older newer world first second order since differ net early near = record {
  first = record { place = first; stands = refl; unasked = λ e. let bad : ⊥ = cc in bad };
  second = record { place = second; stands = refl; unasked = λ e. let bad : ⊥ = cc in bad };
  order = order;
  since = since;
  differ = differ;
  net = set.net_is m first_port ∙ (net ∙ sym (set.net_is n first_port));
  first_stays = refl;
  second_stays = refl;
  early = early;
  near = near;
}

-- octets in their range
abbrev pub all_small : List ℕ → Bool
all_small [] = true
all_small (x ∷ rest) = nat_lt x 256 && all_small rest

pub small_octets : (xs : List ℕ) → all_small xs ≡ true → (i : ℕ) → octet_at xs i < 256
small_octets [] e i = omega arith
small_octets (x ∷ rest) e zero = ltb-true x 256 (and_parts (nat_lt x 256) (all_small rest) e).0
small_octets (x ∷ rest) e (suc i) = small_octets rest (and_parts (nat_lt x 256) (all_small rest) e).1 i

-- from a place of this length on the port doesn't boot, and its steps have taken nothing that opposes it
abbrev pub free_in : ℕ → List Seen → Bool
free_in n [] = true
free_in n (Here d ∷ before) = (not (nat_le n (length before)) || (not (boots d.deed) && not (opposed (taken before)))) && free_in n before
free_in n (Elsewhere d ∷ before) = free_in n before

or_not : (a b : Bool) → a ≡ true → (not a || b) ≡ true → b ≡ true
or_not true b e f = f
or_not false b e f = absurd (true≢false (sym e))

boot_not : (deed : Deed) → not (boots deed) ≡ true → deed ≢ Acts Boot
boot_not deed e is = true≢false (sym e ∙ ap (λ k. not (boots k)) is)

free_at : (n : ℕ) (seen : List Seen) → free_in n seen ≡ true → (d : Did) (before : List Seen) → Within (Here d ∷ before) seen → n ≤ length before →
    (d.deed ≢ Acts Boot) × (opposed (taken before) ≡ false)
free_at n [] e d before w long = let bad : ⊥ = cc in absurd bad
free_at n (Elsewhere k ∷ rest) e d before (inl same) long = let bad : ⊥ = cc in absurd bad
free_at n (Elsewhere k ∷ rest) e d before (inr w) long = free_at n rest e d before w long
free_at n (Here k ∷ rest) e d before (inr w) long =
    free_at n rest (and_parts (not (nat_le n (length rest)) || (not (boots k.deed) && not (opposed (taken rest)))) (free_in n rest) e).1 d before w long
free_at n (Here k ∷ rest) e d before (inl same) long =
    let tail : before ≡ rest = cc in
    let did : d ≡ k = cc in
    let far : nat_le n (length rest) ≡ true = le-leb n (length rest) (subst (λ v. n ≤ length v) tail long) in
    let here = (and_parts (not (nat_le n (length rest)) || (not (boots k.deed) && not (opposed (taken rest)))) (free_in n rest) e).0 in
    let both = and_parts (not (boots k.deed)) (not (opposed (taken rest)))
    (or_not (nat_le n (length rest)) (not (boots k.deed) && not (opposed (taken rest))) far here) in (
      λ is. boot_not k.deed both.0 (ap (λ (z : Did). z.deed) (sym did) ∙ is),
      ap (λ v. opposed (taken v)) tail ∙ not-true (opposed (taken rest)) both.1,
    )

pub unopposed_by : (c : Line) (older world : List Line) →
    free_in (length (view c.port (of (node_of c) older))) (view c.port (of (node_of c) world)) ≡ true → Unopposed c older world
unopposed_by c older world e d before w still =
    let place = (stood_at before (Here c.did) (view c.port (of (node_of c) older)) still).place in
    let long = Within_length (Here c.did ∷ view c.port (of (node_of c) older)) before place in
    free_at (length (view c.port (of (node_of c) older))) (view c.port (of (node_of c) world)) e d before w (omega (arith, long))

-- nothing that opposes node n is posted to it
abbrev opposes_to : ℕ → Deed → Bool
opposes_to n (Acts (Post (Peer p) (Message m))) = (p.0 == n) && opposes m.kind
opposes_to n _ = false

abbrev pub none_posted : ℕ → List Line → Bool
none_posted n [] = true
none_posted n (l ∷ before) = not (opposes_to n l.did.deed) && none_posted n before

none_posted_holds : (n : ℕ) (world : List Line) → none_posted n world ≡ true → (l : Line) (before : List Line) (m : MessageValue) → Within (l ∷ before) world →
    l.did.deed ≡ Acts (Post (Peer (peer_of n)) (Message m)) → opposes m.kind ≡ true → ⊥
none_posted_holds n [] e l before m w is kind = let bad : ⊥ = cc in bad
none_posted_holds n (k ∷ rest) e l before m (inr w) is kind =
    none_posted_holds n rest (and_parts (not (opposes_to n k.did.deed)) (none_posted n rest) e).1 l before m w is kind
none_posted_holds n (k ∷ rest) e l before m (inl same) is kind =
    let line : k ≡ l = cc in
    let deed : k.did.deed ≡ Acts (Post (Peer (peer_of n)) (Message m)) = ap (λ (z : Line). z.did.deed) line ∙ is in
    let own : (n == n) ≡ true = eq-eqb n n refl in
    let bad : not (opposes_to n k.did.deed) ≡ false = rw (deed, own, kind) refl in
    true≢false (sym (and_parts (not (opposes_to n k.did.deed)) (none_posted n rest) e).0 ∙ bad)

pub unhindered_by : (c : Line) (older world : List Line) →
    free_in (length (view c.port (of (node_of c) older))) (view c.port (of (node_of c) world)) ≡ true → none_posted (node_of c) world ≡ true →
    Unhindered c older world
unhindered_by c older world e none = record {
  unbooted = λ d before w still. (unopposed_by c older world e d before w still).0;
  unposted = λ l before m w is kind. absurd (none_posted_holds (node_of c) world none l before m w is kind);
}

-- nobody becomes master
abbrev leads_by : Deed → Bool
leads_by (Acts (Become r)) = is_master r
leads_by _ = false

abbrev pub none_leads : List Line → Bool
none_leads [] = true
none_leads (l ∷ before) = not (leads_by l.did.deed) && none_leads before

none_at : (world : List Line) → none_leads world ≡ true → (l : Line) (before : List Line) → Within (l ∷ before) world → l.did.deed ≢ Acts (Become Master)
none_at [] e l before w is = let bad : ⊥ = cc in bad
none_at (k ∷ rest) e l before (inr w) is = none_at rest (and_parts (not (leads_by k.did.deed)) (none_leads rest) e).1 l before w is
none_at (k ∷ rest) e l before (inl same) is =
    let line : k ≡ l = cc in
    let deed : k.did.deed ≡ Acts (Become Master) = ap (λ (z : Line). z.did.deed) line ∙ is in
    let bad : not (leads_by k.did.deed) ≡ false = rw deed refl in
    true≢false (sym (and_parts (not (leads_by k.did.deed)) (none_leads rest) e).0 ∙ bad)

pub not_won : (c : Line) (older world : List Line) → none_leads world ≡ true → ¬ Won c older world
not_won c older world e won = none_at world e won.line won.before won.wins.place won.wins.wins

-- whoever takes an ELECTION of node n may back it
abbrev welcomes : ℕ → Deed → Line → List Line → Bool
welcomes n (Acts (Took (Peer p) (Good (Message m)))) l before = not ((p.0 == n) && is_kind_election m.kind) ||
    (is_idle (role (view l.port (of (node_of l) before))) && may_back (held (view l.port (of (node_of l) before))) l.did.tick (peer_of n))
welcomes n _ l before = true

abbrev pub all_welcome : ℕ → List Line → Bool
all_welcome n [] = true
all_welcome n (l ∷ before) = welcomes n l.did.deed l before && all_welcome n before

pub welcomed_by : (c : Line) (world : List Line) → all_welcome (node_of c) world ≡ true → Welcomed c world
welcomed_by c [] e l before m w recent is kind = let bad : ⊥ = cc in absurd bad
welcomed_by c (k ∷ rest) e l before m (inr w) recent is kind =
    welcomed_by c rest (and_parts (welcomes (node_of c) k.did.deed k rest) (all_welcome (node_of c) rest) e).1 l before m w recent is kind
welcomed_by c (k ∷ rest) e l before m (inl same) recent is kind =
    let line : k ≡ l = cc in
    let tail : rest ≡ before = cc in
    let there : welcomes (node_of c) l.did.deed l before ≡ true = subst (λ r. welcomes (node_of c) l.did.deed l r ≡ true) tail
    (subst (λ j. welcomes (node_of c) j.did.deed j rest ≡ true) line
    (and_parts (welcomes (node_of c) k.did.deed k rest) (all_welcome (node_of c) rest) e).0) in
    let here = subst (λ d. welcomes (node_of c) d l before ≡ true) is there in
    let own : (node_of c == node_of c) ≡ true = eq-eqb (node_of c) (node_of c) refl in
    let asks : ((node_of c == node_of c) && is_kind_election m.kind) ≡ true = rw (own, kind) refl in
    and_parts (is_idle (role (view l.port (of (node_of l) before)))) (may_back (held (view l.port (of (node_of l) before))) l.did.tick (peer_of (node_of c)))
    (or_not ((node_of c == node_of c) && is_kind_election m.kind) (is_idle (role (view l.port (of (node_of l) before))) &&
    may_back (held (view l.port (of (node_of l) before))) l.did.tick (peer_of (node_of c))) asks here)

masterly_opposes : (k : Kind) → is_masterly k ≡ true → opposes k ≡ true
masterly_opposes QuitKind e = refl
masterly_opposes MasterUp e = refl
masterly_opposes MasterAck e = refl
masterly_opposes _ e = absurd (true≢false (sym e))

pub unmastered_by : (c : Line) (older world : List Line) → Unhindered c older world → Unmastered c older world
unmastered_by c older world h = record {
  unbooted = h.unbooted;
  unposted = λ l before m place is kind. h.unposted l before m place is (masterly_opposes m.kind kind);
}
