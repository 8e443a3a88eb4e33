-- The daemons of the examples are started with words that `serve` takes.
use Rattle.std.proofs.Common.{ap, arith, le-leb, ◌≡◌, ◌≢◌, ℕ, zero, suc, ◌<◌, ◌≤◌, ◌^◌, ◌==◌, ◌&&◌, ◌||◌, nat_le, true, List, [], ◌∷◌, length, slice_index_or}
use Rattle.std.proofs.Common.{refl, Contains}
use Rattle.std.proofs.lemmas.List.Elements.{All-cons, All-nil}
use Rattle.tsp_base.specs.Words.{IsName}
use Rattle.tsp_io.specs.declared.addr.Addr.{Addr}
use Rattle.tsp_args.specs.{Addrs.IsAddr, Ports.AllDiffer, Ports.ArePeers, Ports.all_peers, Serves.IsServe}
use Rattle.tsp_args.specs.declared.serve.{Candidacy.Candidacy}
use Rattle.tsp_network.specs.NetworkUse.{network_address}

-- one letter is a name
pub letter_name : (x : ℕ) → 0 < x → IsName (x ∷ [])
letter_name x some = record { short = omega arith; no_nul = λ c. none c.0 c.1 c.2 } where
  none : (k : ℕ) → k < 1 → slice_index_or (x ∷ []) k 0 ≡ 0 → ⊥
  none zero few e = omega (arith, some, e)
  none (suc k) few e = omega (arith, few)

-- octets that are allowed in a node's name: letters, digits, a point, a hyphen, and a low line
abbrev MayStand : ℕ → Type 0
MayStand c = (((nat_le 97 c && nat_le c 122) || (nat_le 65 c && nat_le c 90)) || ((nat_le 48 c && nat_le c 57) || ((c == 46) || ((c == 45) || (c == 95))))) ≡
    true

-- the addresses of the examples are addresses
pub address_is : (k m : ℕ) → k < 256 → m < 256 → IsAddr (network_address k m)
address_is k m net node = record {
  four = refl;
  octets = All-cons (λ x. x < 2 ^ 8) 10 (0 ∷ k ∷ m ∷ []) (omega arith) (All-cons (λ x. x < 2 ^ 8) 0 (k ∷ m ∷ []) (omega arith)
      (All-cons (λ x. x < 2 ^ 8) k (m ∷ []) (omega (arith, net)) (All-cons (λ x. x < 2 ^ 8) m [] (omega (arith, node)) (All-nil (λ x. x < 2 ^ 8)))));
  some = omega arith;
  short = omega arith;
}

-- nodes with different numbers have different addresses
pub apart : (j k m n : ℕ) → m ≢ n → network_address j m ≢ network_address k n
apart j k m n off same = off (ap (λ (a : Addr). slice_index_or a.ip 3 0) same)

-- an address is none of these, if it differs from each
abbrev pub AllApart : Addr → List Addr → Type 0
AllApart a [] = Unit {0}
AllApart a (b ∷ rest) = (b ≢ a) × AllApart a rest

not_at : (a : Addr) (others : List Addr) → AllApart a others → (k : ℕ) → k < length others → slice_index_or others k a ≡ a → ⊥
not_at a [] off k few same = omega (arith, few)
not_at a (b ∷ rest) off zero few same = off.0 same
not_at a (b ∷ rest) off (suc k) few same = not_at a rest off.1 k (omega (arith, few)) same

pub not_among : (a : Addr) (others : List Addr) → AllApart a others → ¬ Contains others a
not_among a others off c = not_at a others off c.0 c.1 c.2

-- a daemon of the examples
pub serves : (letter : ℕ) (candidacy : Candidacy) (n : ℕ) (ports : List (List Addr)) → n < 256 → 97 ≤ letter → letter ≤ 122 → ArePeers ports →
    length ports ≤ 4 →
    length (all_peers ports) ≤ 999 → AllDiffer (network_address 0 n ∷ all_peers ports) →
    IsServe (record { local = network_address 0 n; name = letter ∷ []; candidacy = candidacy; turns = 1000; ports = ports })
serves letter candidacy n ports low first last peers four few differ = record {
  local = address_is 0 n (omega arith) low;
  name = record {
    some = omega arith;
    name = letter_name letter (omega (arith, first));
    all = All-cons MayStand letter [] (rw (le-leb 97 letter first, le-leb letter 122 last) refl) (All-nil MayStand);
  };
  some = omega arith;
  few = omega arith;
  ports = record { peers = peers; one = record { four = four; few = few; differ = differ } };
}

-- one that has another on its port
pub beside_one : (letter : ℕ) (candidacy : Candidacy) (n m : ℕ) → 97 ≤ letter → letter ≤ 122 → n < 256 → m < 256 → m ≢ n →
    IsServe (record { local = network_address 0 n; name = letter ∷ []; candidacy = candidacy; turns = 1000; ports = (network_address 0 m ∷ []) ∷ [] })
beside_one letter candidacy n m first end low high off =
    let a : Addr = network_address 0 n in
    let b : Addr = network_address 0 m in
    serves letter candidacy n ((b ∷ []) ∷ []) low first end
    (record { some = omega arith; addrs = All-cons IsAddr b [] (address_is 0 m (omega arith) high) (All-nil IsAddr) }) (omega arith) (omega arith)
    (not_among a (b ∷ []) (apart 0 0 m n off, tt), (not_among b [] tt, tt))

-- one that has two others on its port
pub beside_two : (letter : ℕ) (candidacy : Candidacy) (n m k : ℕ) → 97 ≤ letter → letter ≤ 122 → n < 256 → m < 256 → k < 256 → m ≢ n → k ≢ n → k ≢ m →
    IsServe (record {
      local = network_address 0 n;
      name = letter ∷ [];
      candidacy = candidacy;
      turns = 1000;
      ports = (network_address 0 m ∷ network_address 0 k ∷
          []) ∷ [];
    })
beside_two letter candidacy n m k first end low high last off other differ =
    let a : Addr = network_address 0 n in
    let b : Addr = network_address 0 m in
    let c : Addr = network_address 0 k in
    serves letter candidacy n ((b ∷ c ∷ []) ∷ []) low first end
    (record {
      some = omega arith;
      addrs = All-cons IsAddr b (c ∷ []) (address_is 0 m (omega arith) high)
          (All-cons IsAddr c [] (address_is 0 k (omega arith) last) (All-nil IsAddr));
    })
    (omega arith) (omega arith)
    (not_among a (b ∷ c ∷ []) (apart 0 0 m n off, (apart 0 0 k n other, tt)), (not_among b (c ∷ []) (apart 0 0 k m differ, tt), (not_among c [] tt, tt)))

-- one that has two ports, and no others on them
pub alone_on_two : (letter : ℕ) (candidacy : Candidacy) (n : ℕ) → 97 ≤ letter → letter ≤ 122 → n < 256 →
    IsServe (record { local = network_address 0 n; name = letter ∷ []; candidacy = candidacy; turns = 1000; ports = [] ∷ [] ∷ [] })
alone_on_two letter candidacy n first end low =
    serves letter candidacy n ([] ∷ [] ∷ []) low first end (record { some = omega arith; addrs = All-nil IsAddr }) (omega arith) (omega arith)
    (not_among (network_address 0 n) [] tt, tt)
