-- Laws of the words of addresses, of ports and of commands.
use Rattle.std.proofs.Common.{◌≡◌, ℕ, ◌<◌, ◌^◌, List, [], ◌∷◌, zero, suc, length, slice_index_or, refl, ap, arith, All, Contains, decimal, ◌≢◌, ◌≤◌, ◌++◌, sym}
use Rattle.std.proofs.Common.{append_assoc, subst, codes, flat_map, map, ◌-◌, drop, length-drop, slice_range}
use Rattle.std.specs.{Net.Grammar.IsDotted, Net.Text.ipv4_text, declared.net.ipv4_addr.Ipv4Addr.Ipv4Addr}
use Rattle.std.proofs.NetLemmas.{Alphabet.IsDigitOrDot, Alphabet.All-ipv4_text, Texts.IsDotted-ipv4_text, Theorems.IsIpv4Text_unique}
use Rattle.std.proofs.lemmas.{Fmt.decimal_injective, List.map-append, List.append-nil, List.take_all}
use Rattle.std.proofs.lemmas.List.Elements.{All-contains, All-nil, All-cons, All-head, All-tail, All-push}
use Rattle.tsp_io.specs.declared.addr.Addr.{Addr}
use Rattle.tsp_script.proofs.Cuts.{marks_apart, mark_inside}
use Rattle.tsp_args.specs.{Addrs.addr_text, Addrs.IsAddr, Commands.words_of, Commands.IsCommand, Queries.query_word, Queries.query_rest, Queries.IsQuery}
use Rattle.tsp_args.specs.Ports.{led_words, peer_words, all_peers, IsPeerWord, ArePeers}
use Rattle.tsp_args.specs.declared.{command.Command.Command, query.Query.Query, serve.Candidacy.Candidacy, serve.ServeWords.ServeWords}
use Rattle.tsp_args.specs.declared.command.Command.TheVariants.{Replay, Show, Pack, Serve, Ask, Storm, Icmp, Audit}

-- an octet of an address, or 0 behind it
pub octet_at : (ip : List ℕ) → length ip ≡ 4 → All (λ x. x < 2 ^ 8) ip → (k : ℕ) → slice_index_or ip k 0 < 2 ^ 8
octet_at [] e h k = omega arith
octet_at (a ∷ b ∷ c ∷ d ∷ []) e h zero = h 0 0 (omega arith)
octet_at (a ∷ b ∷ c ∷ d ∷ []) e h (suc zero) = h 1 0 (omega arith)
octet_at (a ∷ b ∷ c ∷ d ∷ []) e h (suc (suc zero)) = h 2 0 (omega arith)
octet_at (a ∷ b ∷ c ∷ d ∷ []) e h (suc (suc (suc zero))) = h 3 0 (omega arith)
octet_at (a ∷ b ∷ c ∷ d ∷ []) e h (suc (suc (suc (suc k)))) = omega arith
octet_at _ e h k = absurd (omega arith)

-- an address has no colon
pub no_colon : (ip : List ℕ) → length ip ≡ 4 → All (λ x. x < 2 ^ 8) ip → ¬ Contains (ipv4_text ip) 58
no_colon ip e h k = grind (arith, All-contains IsDigitOrDot (ipv4_text ip) 58 (All-ipv4_text ip (octet_at ip e h)) k)

-- four octets of one text are the same
pub same_ip : (ip jp text : List ℕ) → length ip ≡ 4 → All (λ x. x < 2 ^ 8) ip → length jp ≡ 4 → All (λ x. x < 2 ^ 8) jp → text ≡ ipv4_text ip → text ≡
    ipv4_text jp → ip ≡ jp
same_ip ip jp text e h f k p q =
    let one : IsDotted text ip = rw p (IsDotted-ipv4_text ip e (octet_at ip e h)) in
    let other : IsDotted text jp = rw q (IsDotted-ipv4_text jp f (octet_at jp f k)) in
    ap (λ (v : Ipv4Addr). v.octets) (IsIpv4Text_unique text (record { octets = ip }) (record { octets = jp }) one other)

-- an address of equal parts
pub addr_of_parts : (ip : List ℕ) (port : ℕ) (a : Addr) → ip ≡ a.ip → port ≡ a.port → record { ip = ip; port = port } ≡ a
addr_of_parts ip port a p q = rw (p, q) refl

-- a word is one address's
pub addr_text_injective : (a b : Addr) → IsAddr a → IsAddr b → addr_text a ≡ addr_text b → a ≡ b
addr_text_injective a b h k e =
    let cut = marks_apart 58 (ipv4_text a.ip) (ipv4_text b.ip) (decimal a.port) (decimal b.port) (no_colon a.ip h.four h.octets) (no_colon b.ip k.four k.octets)
    e in
    let ip = same_ip a.ip b.ip (ipv4_text a.ip) h.four h.octets k.four k.octets refl cut.0 in
    let port = decimal_injective a.port b.port (omega (arith, h.short)) (omega (arith, k.short)) cut.1 in
    addr_of_parts a.ip a.port b ip port

-- one more peer of the last port
led_words_add : (ps : List (List Addr)) (p : List Addr) (a : Addr) → led_words (ps ++ (p ++ a ∷ []) ∷ []) ≡ led_words (ps ++ p ∷ []) ++ addr_text a ∷ []
led_words_add [] p a = simp (map-append, append-nil)
led_words_add (q ∷ ps) p a = rw (led_words_add ps p a) (simp append_assoc)

pub peer_words_add : (ps : List (List Addr)) (p : List Addr) (a : Addr) → peer_words (ps ++ (p ++ a ∷ []) ∷ []) ≡ peer_words (ps ++ p ∷ []) ++ addr_text a ∷ []
peer_words_add [] p a = simp (map-append, append-nil)
peer_words_add (q ∷ ps) p a = rw (led_words_add ps p a) (simp append_assoc)

-- one more port
led_words_next : (ps : List (List Addr)) → led_words (ps ++ [] ∷ []) ≡ led_words ps ++ codes "+" ∷ []
led_words_next [] = refl
led_words_next (q ∷ ps) = rw (led_words_next ps) (simp append_assoc)

peer_words_next : (ps : List (List Addr)) (p : List Addr) → peer_words ((ps ++ p ∷ []) ++ [] ∷ []) ≡ peer_words (ps ++ p ∷ []) ++ codes "+" ∷ []
peer_words_next [] p = simp append-nil
peer_words_next (q ∷ ps) p = rw (led_words_next (ps ++ p ∷ [])) (simp append_assoc)

pub words_next : {V : Type 0} (f : V → List Addr) (vs : List V) (v : V) → peer_words (map f (vs ++ v ∷ []) ++ [] ∷ []) ≡ peer_words (map f vs ++ f v ∷ []) ++
    codes "+" ∷ []
words_next f vs v = rw (map-append f vs (v ∷ [])) (peer_words_next (map f vs) (f v))

-- peers by port, the last ones apart
pub all_peers_last : {V : Type 0} (f : V → List Addr) (vs : List V) (p : List Addr) → all_peers (map f vs ++ p ∷ []) ≡ flat_map f vs ++ p
all_peers_last f [] p = simp append-nil
all_peers_last f (v ∷ vs) p = rw (all_peers_last f vs p) (simp append_assoc)

plus_alone : (k : ℕ) → k < 1 → slice_index_or (codes "+") k 58 ≡ 58 → ⊥
plus_alone zero h e = omega arith
plus_alone (suc k) h e = omega arith

-- the word of an address is no plus
pub addr_text_not_plus : (a : Addr) → addr_text a ≢ codes "+"
addr_text_not_plus a e =
    let HasColon : List ℕ → Type 0 = λ (w : List ℕ). Contains w 58 in
    let plus : Contains (codes "+") 58 = subst HasColon e (mark_inside 58 (ipv4_text a.ip) (decimal a.port)) in
    plus_alone plus.0 plus.1 plus.2

-- the words of ports are pluses and addresses
peer_word_plus : IsPeerWord (codes "+")
peer_word_plus = λ n. absurd (n refl)

addrs_are_peer_words : (p : List Addr) (rest : List (List ℕ)) → All IsAddr p → All IsPeerWord rest → All IsPeerWord (map addr_text p ++ rest)
addrs_are_peer_words [] rest h k = k
addrs_are_peer_words (a ∷ p) rest h k =
    All-cons IsPeerWord (addr_text a) (map addr_text p ++ rest) (λ n. (a, All-head IsAddr a p h, refl)) (addrs_are_peer_words p rest (All-tail IsAddr a p h) k)

front_of : (p q : List Addr) → All IsAddr (p ++ q) → All IsAddr p
front_of [] q h = All-nil IsAddr
front_of (a ∷ p) q h = All-cons IsAddr a p (All-head IsAddr a (p ++ q) h) (front_of p q (All-tail IsAddr a (p ++ q) h))

back_of : (p q : List Addr) → All IsAddr (p ++ q) → All IsAddr q
back_of [] q h = h
back_of (a ∷ p) q h = back_of p q (All-tail IsAddr a (p ++ q) h)

led_are_peer_words : (ps : List (List Addr)) → All IsAddr (all_peers ps) → All IsPeerWord (led_words ps)
led_are_peer_words [] h = All-nil IsPeerWord
led_are_peer_words (p ∷ ps) h =
    All-cons IsPeerWord (codes "+") (map addr_text p ++ led_words ps) peer_word_plus
    (addrs_are_peer_words p (led_words ps) (front_of p (all_peers ps) h) (led_are_peer_words ps (back_of p (all_peers ps) h)))

pub are_peer_words : (ps : List (List Addr)) → All IsAddr (all_peers ps) → All IsPeerWord (peer_words ps)
are_peer_words [] h = All-nil IsPeerWord
are_peer_words (p ∷ ps) h =
    addrs_are_peer_words p (led_words ps) (front_of p (all_peers ps) h) (led_are_peer_words ps (back_of p (all_peers ps) h))

-- words of further ports don't begin with an address
led_words_not_addr : (ps : List (List Addr)) (a : Addr) (rest : List (List ℕ)) → led_words ps ≡ addr_text a ∷ rest → ⊥
led_words_not_addr [] a rest e = cc
led_words_not_addr (p ∷ ps) a rest e = addr_text_not_plus a (cc)

-- peers and the ports behind them are those of their words, where the ports are
front_once : (ps qs : List (List Addr)) → (led_words ps ≡ led_words qs → ps ≡ qs) → (p q : List Addr) → All IsAddr p → All IsAddr q
    → map addr_text p ++ led_words ps ≡ map addr_text q ++ led_words qs → p ∷ ps ≡ q ∷ qs
front_once ps qs same [] [] h k e = ap (λ (x : List (List Addr)). [] ∷ x) (same e)
front_once ps qs same [] (b ∷ q) h k e = absurd (led_words_not_addr ps b (map addr_text q ++ led_words qs) e)
front_once ps qs same (a ∷ p) [] h k e = absurd (led_words_not_addr qs a (map addr_text p ++ led_words ps) (sym e))
front_once ps qs same (a ∷ p) (b ∷ q) h k e =
    let head : addr_text a ≡ addr_text b = cc in
    let tail : map addr_text p ++ led_words ps ≡ map addr_text q ++ led_words qs = cc in
    let one = addr_text_injective a b (All-head IsAddr a p h) (All-head IsAddr b q k) head in
    let rest = front_once ps qs same p q (All-tail IsAddr a p h) (All-tail IsAddr b q k) tail in cc

led_words_injective : (ps qs : List (List Addr)) → All IsAddr (all_peers ps) → All IsAddr (all_peers qs) → led_words ps ≡ led_words qs → ps ≡ qs
led_words_injective [] [] h k e = refl
led_words_injective [] (q ∷ qs) h k e = absurd (cc)
led_words_injective (p ∷ ps) [] h k e = absurd (cc)
led_words_injective (p ∷ ps) (q ∷ qs) h k e =
    let tail : map addr_text p ++ led_words ps ≡ map addr_text q ++ led_words qs = cc in
    front_once ps qs (led_words_injective ps qs (back_of p (all_peers ps) h) (back_of q (all_peers qs) k)) p q (front_of p (all_peers ps) h)
    (front_of q (all_peers qs) k) tail

-- words are those of one list of ports
pub peer_words_injective : (ps qs : List (List Addr)) → ArePeers ps → ArePeers qs → peer_words ps ≡ peer_words qs → ps ≡ qs
peer_words_injective [] qs h k e = absurd (omega (arith, h.some))
peer_words_injective (p ∷ ps) [] h k e = absurd (omega (arith, k.some))
peer_words_injective (p ∷ ps) (q ∷ qs) h k e =
    front_once ps qs (led_words_injective ps qs (back_of p (all_peers ps) h.addrs) (back_of q (all_peers qs) k.addrs)) p q (front_of p (all_peers ps) h.addrs)
    (front_of q (all_peers qs) k.addrs) e

-- one more address
pub peers_add : (ps qs : List (List Addr)) (a : Addr) → IsAddr a → all_peers qs ≡ all_peers ps ++ a ∷ [] → 1 ≤ length qs → ArePeers ps → ArePeers qs
peers_add ps qs a h e some k = record { some = some; addrs = rw e (All-push IsAddr (all_peers ps) a k.addrs h) }

-- a word among words of which each is a plus or an address
pub word_at : {S : Type 0} (f : S → List ℕ) (ws : List S) (k : ℕ) (w : S) → k < length ws → w ≡ slice_index_or ws k w → All IsPeerWord (map f ws) →
    IsPeerWord (f w)
word_at f [] k w b i h = absurd (omega arith)
word_at f (v ∷ ws) zero w b i h = let e : w ≡ v = i in rw e (All-head IsPeerWord (f v) (map f ws) h)
word_at f (v ∷ ws) (suc k) w b i h = word_at f ws k w (omega (arith, b)) i (All-tail IsPeerWord (f v) (map f ws) h)

-- all words from a place on
rest_from : {S : Type 0} (ws : List S) (k : ℕ) → slice_range ws k (length ws) ≡ drop k ws
rest_from ws k = take_all (length ws - k) (drop k ws) (omega (arith, length-drop k ws))

-- a word and those behind it
pub one_word : {S : Type 0} (f : S → List ℕ) (ws : List S) (a : S) → 1 ≤ length ws → a ≡ slice_index_or ws 0 a → map f ws ≡ f a ∷
    map f (slice_range ws 1 (length ws))
one_word f [] a h p = absurd (omega arith)
one_word f (w ∷ rest) a h p = let here : a ≡ w = p in rw (rest_from (w ∷ rest) 1, here) refl

-- four words and those behind them
pub four_words : {S : Type 0} (f : S → List ℕ) (ws : List S) (a b c d : S) → 4 ≤ length ws → a ≡ slice_index_or ws 0 a → b ≡ slice_index_or ws 1 b → c ≡
    slice_index_or ws 2 c → d ≡ slice_index_or ws 3 d
    → map f ws ≡ f a ∷ f b ∷ f c ∷ f d ∷ map f (slice_range ws 4 (length ws))
four_words f (w ∷ x ∷ y ∷ z ∷ rest) a b c d h p q r s =
    let one : a ≡ w = p in
    let two : b ≡ x = q in
    let three : c ≡ y = r in
    let four : d ≡ z = s in
    rw (rest_from (w ∷ x ∷ y ∷ z ∷ rest) 4, one, two, three, four) refl
four_words f _ a b c d h p q r s = absurd (omega arith)

pub no_words : {S : Type 0} (ws : List S) → length ws < 1 → ws ≡ []
no_words [] h = refl
no_words (w ∷ ws) h = absurd (omega arith)

-- what follows `serve`, of equal parts
pub serve_of_parts : (local : Addr) (name : List ℕ) (candidacy : Candidacy) (turns : ℕ) (ports : List (List Addr)) (s : ServeWords) → local ≡ s.local → name ≡
    s.name → candidacy ≡ s.candidacy → turns ≡ s.turns → ports ≡ s.ports
    → record { local = local; name = name; candidacy = candidacy; turns = turns; ports = ports } ≡ s
serve_of_parts local name candidacy turns ports s l n k t p = rw (l, n, k, t, p) refl

-- two words and more are a question's, where they are neither a daemon's nor a storm's
pub asks : (Holds : Command → Type 0) (word first : List ℕ) (more : List (List ℕ)) (c : Command) → word ≢ codes "serve" → word ≢ codes "storm" → IsCommand c →
    word ∷ first ∷ more ≡ words_of c
    → ((a : Addr) (q : Query) → IsAddr a → IsQuery q → word ≡ query_word q → first ≡ addr_text a → more ≡ query_rest q → Holds (Ask a q)) → Holds c
asks Holds word first more (Serve s) n m h e f = let w : word ≡ codes "serve" = cc in absurd (n w)
asks Holds word first more (Ask a q) n m h e f =
    let w : word ≡ query_word q = cc in
    let t : first ≡ addr_text a = cc in
    let r : more ≡ query_rest q = cc in
    f a q h.0 h.1 w t r
asks Holds word first more (Storm s) n m h e f = let w : word ≡ codes "storm" = cc in absurd (m w)
asks Holds word first more _ n m h e f = absurd (cc)
