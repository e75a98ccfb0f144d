-- A number wrapped to a rank is of its width.
use Rattle.std.proofs.Common.{◌≡◌, ℕ, ℤ, pos, ◌-ℤ◌, w32, w64, Result, sym, ap, ◌∙◌, subst}
use Rattle.std.proofs.lemmas.Int.{SFits-int_wrap, int_wrap_fits}
use Rattle.ib_base.specs.Integers.{IsOfWidth, wrapped, quotient}
use Rattle.ib_base.specs.declared.integers.Width.TheVariants.{W8}
use Rattle.ib_meaning.specs.declared.fault.FaultKind.{FaultKind}
use Rattle.c_typed.specs.declared.operation.Rank.{Rank}
use Rattle.c_typed.specs.declared.operation.Rank.TheVariants.{Int, Long}
use Rattle.c_typed.specs.Values.{ranked}

wrapped_fits : (rank : Rank) (z : ℤ) → IsOfWidth (ranked rank) (wrapped (ranked rank) z)
wrapped_fits Int z = SFits-int_wrap w32 z
wrapped_fits Long z = SFits-int_wrap w64 z

pub narrowed_fits : (rank : Rank) (z x : ℤ) → x ≡ wrapped (ranked rank) z → IsOfWidth (ranked rank) x
narrowed_fits rank z x is = subst (λ y. IsOfWidth (ranked rank) y) (sym is) (wrapped_fits rank z)

-- the bytes between two addresses, divided
pub distance_is : (x y : ℤ) (size : ℕ) (bytes : ℤ) (r : Result ℤ FaultKind) → bytes ≡ wrapped W8 (x -ℤ y) → r ≡ quotient W8 (wrapped W8 bytes) (wrapped W8 (pos size)) → r ≡ quotient W8 (wrapped W8 (x -ℤ y)) (wrapped W8 (pos size))
distance_is x y size bytes r is result =
    result ∙ ap (λ b. quotient W8 b (wrapped W8 (pos size))) (int_wrap_fits w64 bytes (narrowed_fits Long (x -ℤ y) bytes is) ∙ is)
