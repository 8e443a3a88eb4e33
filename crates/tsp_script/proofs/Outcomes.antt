-- Laws of answers: an answer is one thing alone.
use Rattle.std.proofs.Common.{◌≡◌, Option, Some, None, Result, Ok, Err, Bool, true, false, IfSome, IfNone}

pub some_injective : {A : Type 0} (a b : A) → Some a ≡ Some b → a ≡ b
some_injective a b p = cc

pub some_once : {A : Type 0} (r : Option A) (a b : A) → r ≡ Some a → r ≡ Some b → a ≡ b
some_once r a b p q = cc

pub none_not_some : {A : Type 0} (a : A) → None ≡ Some a → ⊥
none_not_some a p = cc

pub none_or_some : {A : Type 0} (r : Option A) (a : A) → r ≡ None → r ≡ Some a → ⊥
none_or_some r a p q = cc

pub ok_once : {A E : Type 0} (r : Result A E) (a b : A) → r ≡ Ok a → r ≡ Ok b → a ≡ b
ok_once r a b p q = cc

pub err_or_ok : {A E : Type 0} (r : Result A E) (e : E) (a : A) → r ≡ Err e → r ≡ Ok a → ⊥
err_or_ok r e a p q = cc

pub true_or_false : (b : Bool) → b ≡ true → b ≡ false → ⊥
true_or_false b p q = cc

-- what follows for each value follows for the one that is there
pub if_some_then : {A : Type 0} {P Q : A → Type 0} (r : Option A) → ((a : A) → P a → Q a) → IfSome r P → IfSome r Q
if_some_then None f h = h
if_some_then (Some a) f h = f a h

pub if_none : {A P : Type 0} (r : Option A) → P → IfNone r P
if_none None p = p
if_none (Some a) p = tt
