-- What is said of a value where there is one.
use Rattle.std.proofs.Common.{◌≡◌, ◌≢◌, ℕ, Option, Some, None, subst, sym}
use Rattle.std.specs.Prelude.{IfSome}

-- there is this one
pub if_this : {T : Type 0} (P : T → Type 0) (found : Option T) (x : T) → found ≡ Some x → P x → IfSome found P
if_this {T} P found x is holds = subst (λ (found : Option T). IfSome found P) (sym is) holds

-- there is none
pub if_none : {T : Type 0} (P : T → Type 0) (found : Option T) → found ≡ None → IfSome found P
if_none {T} P found is = subst (λ (found : Option T). IfSome found P) (sym is) tt

-- it holds of any
pub if_any : {T : Type 0} (P : T → Type 0) (found : Option T) → ((x : T) → P x) → IfSome found P
if_any P (Some x) holds = holds x
if_any P None holds = tt

-- there is one or none
pub some_none : {T : Type 0} {x : T} → Some x ≢ None
some_none is = cc

pub one_two : ◌≢◌ {A = ℕ} 1 2
one_two is = cc

pub one_three : ◌≢◌ {A = ℕ} 1 3
one_three is = cc
