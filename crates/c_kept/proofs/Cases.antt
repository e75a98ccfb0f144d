-- Proofs by the cases of a test, and of what may be there.
use Rattle.std.proofs.Common.{◌≡◌, Bool, true, false, cond, refl, subst, Option, Some, None}

pub differ : true ≡ false → ⊥
differ h = cc

-- one of two, by a test
pub by_test : {A : Type 0} (P : A → Type 0) (b : Bool) (x y : A) → (b ≡ true → P x) → (b ≡ false → P y) → P (cond b x y)
by_test P true x y f g = f refl
by_test P false x y f g = g refl

pub by_cases : (P : Bool → Type 0) → P true → P false → (b : Bool) → P b
by_cases P x y true = x
by_cases P x y false = y

-- it holds of what is there
pub record Yields {A : Type 0} (P : A → Type 0) (o : Option A) : Type 0 where
  pub by : (a : A) → o ≡ Some a → P a

pub some : {A : Type 0} {P : A → Type 0} {x : A} → P x → Yields P (Some x)
some {A = A} {P = P} {x = x} h = record { by = λ a e. let same : x ≡ a = cc in subst P same h }

pub none : {A : Type 0} {P : A → Type 0} → Yields P None
none = record { by = λ a e. let z : ⊥ = cc in absurd z }
