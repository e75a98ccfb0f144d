-- An element of an array that begins at 0.
use Rattle.std.proofs.Common.{◌≡◌, ℕ, ℤ, pos, ◌+ℤ◌, ap, refl, ◌∙◌, Bool, true, false, Some, None, Ok, Err, arith}
use Rattle.std.specs.Prelude.{if◌then◌else◌}
use Rattle.std.specs.Result.{result_ok}
use Rattle.std.proofs.lemmas.Int.{ints}
use Rattle.ib_base.specs.declared.integers.Width.TheVariants.{W8}
use Rattle.ib_base.specs.Integers.{wrapped}
use Rattle.ib_meaning.specs.declared.fault.FaultKind.TheVariants.{Bounds}
use Rattle.c_typed.specs.declared.expr.Reach.{Reach}
use Rattle.c_typed.specs.Values.{further, scaled, in_bounds, element}
use Rattle.tac_lowered.proofs.Computing.{again}

from_zero : (x : ℤ) → (pos 0 +ℤ x) ≡ x
from_zero x = omega (arith, ints)

pub first_element : (length size : ℕ) (reach : Reach) (i : ℤ) → result_ok (element (pos 0) length size reach i) ≡ (if in_bounds reach length i then Some (scaled size i) else None)
first_element length size reach i = within (in_bounds reach length i)
  where
    within : (b : Bool) → result_ok (if b then Ok (further (pos 0) (scaled size i)) else Err Bounds) ≡ (if b then Some (scaled size i) else None)
    within true = ap Some (ap (wrapped W8) (from_zero (scaled size i)) ∙ again _)
    within false = refl
