-- Small facts of a turn and of a boot, over plain values, so that no tactic reads all that is known there.
use Rattle.std.proofs.Common.{arith, ap, ◌≡◌, ℕ, ◌+◌, ◌*◌, ◌≤◌, List, length, Ok, Err}
use Rattle.std.specs.declared.result.Result.{Result}
use Rattle.tsp_rules.specs.Values.{Placed}
use Rattle.tsp_daemon.specs.declared.end.ServeEnd.{ServeEnd}
use Rattle.tsp_daemon.specs.declared.end.ServeEnd.TheVariants.{Done, LinkFault, WriteFault, OutOfMemory}

-- what doesn't fall twice doesn't fall
pub le_on : (before between now : ℕ) → before ≤ between → between ≤ now → before ≤ now
le_on before between now first then = omega (arith, first, then)

-- the posts of one turn more
pub posts_more : (counter room own before now : ℕ) → now ≤ before + own → before ≤ counter * room → own ≡ room → now ≤ (counter + 1) * room
posts_more counter room own before now last all same =
    let more : (counter + 1) * room ≡ counter * room + room = grind arith in
    omega (arith, last, all, same, more)

-- nothing falls below itself
pub le_self : (n : ℕ) → n ≤ n
le_self n = omega arith

-- a number that is another one doesn't lie below it
pub le_is : (n now : ℕ) → now ≡ n → n ≤ now
le_is n now is = omega (arith, is)

-- a number that isn't above one isn't above the same one
pub le_same : (n before now : ℕ) → n ≤ before → now ≡ before → n ≤ now
le_same n before now le is = omega (arith, le, is)

-- the last reading doesn't fall where the counter is read
pub last_on : (last tick now : ℕ) → last ≤ tick → now ≡ tick → last ≤ now
last_on last tick now low is = omega (arith, low, is)

-- nor where it is read twice
pub last_twice : (last first between tick now : ℕ) → last ≤ first → between ≡ first → between ≤ tick → now ≡ tick → last ≤ now
last_twice last first between tick now low one high two = omega (arith, low, one, high, two)

-- a count that a receive leaves, and that sends don't lower
pub sends_on : (before heard now : ℕ) → heard ≡ before → heard ≤ now → before ≤ now
sends_on before heard now same later = omega (arith, same, later)

-- the datagrams of a turn are no more than its acts, for which there is room
pub posts_on : (before count room : ℕ) (acts all : List Placed) → count ≤ length acts → length all ≤ room → acts ≡ all → before + count ≤ before + room
posts_on before count room acts all few fit is = let same = ap (λ (ps : List Placed). length ps) is in omega (arith, few, fit, same)

-- a call that ended so
abbrev pub ended : {A : Type 0} → ServeEnd → Result A ServeEnd
ended end = Err end

pub memory_unlinked : {A : Type 0} → ended {A = A} OutOfMemory ≡ ended LinkFault → ⊥
memory_unlinked e = cc

pub memory_unwritten : {A : Type 0} → ended {A = A} OutOfMemory ≡ ended WriteFault → ⊥
memory_unwritten e = cc

pub link_unwritten : {A : Type 0} → ended {A = A} LinkFault ≡ ended WriteFault → ⊥
link_unwritten e = cc

-- a call that went well didn't end so
abbrev pub went : {A : Type 0} → A → Result A ServeEnd
went a = Ok a

pub went_on : {A : Type 0} (a : A) (end : ServeEnd) → went a ≡ ended end → ⊥
went_on a end e = cc

pub done_unlinked : Done ≡ LinkFault → ⊥
done_unlinked e = cc

pub done_unwritten : Done ≡ WriteFault → ⊥
done_unwritten e = cc

-- ends are the same where the calls that ended so are
pub same_end : {A : Type 0} (a b : ServeEnd) → ended {A = A} a ≡ ended b → a ≡ b
same_end a b e = cc

pub end_as : {A : Type 0} (a b : ServeEnd) → a ≡ b → ended {A = A} a ≡ ended b
end_as a b e = ap (λ (x : ServeEnd). ended x) e
