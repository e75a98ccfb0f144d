-- What a number wrapped to four bytes is within.
use Rattle.std.proofs.Common.{◌≡◌, ℤ, w32, FitsSigned, sym, subst}
use Rattle.std.proofs.lemmas.Int.{SFits-int_wrap}
use Rattle.ib_base.specs.declared.integers.Width.TheVariants.{W4}
use Rattle.ib_base.specs.Integers.{wrapped}

pub result_fits : (z x : ℤ) → x ≡ wrapped W4 z → FitsSigned w32 x
result_fits z x is = subst (λ y. FitsSigned w32 y) (sym is) (SFits-int_wrap w32 z)
