-- A number wrapped to a size is of its width.
use Rattle.std.proofs.Common.{◌≡◌, ℤ, w32, w64, sym, subst}
use Rattle.std.proofs.lemmas.Int.{SFits-int_wrap}
use Rattle.ib_base.specs.Integers.{IsOfWidth, wrapped}
use Rattle.ib_act.specs.declared.act.Size.{Size}
use Rattle.ib_act.specs.declared.act.Size.TheVariants.{Four, Eight}
use Rattle.ib_act.specs.Acts.{width_of}

wrapped_fits : (size : Size) (z : ℤ) → IsOfWidth (width_of size) (wrapped (width_of size) z)
wrapped_fits Four z = SFits-int_wrap w32 z
wrapped_fits Eight z = SFits-int_wrap w64 z

pub narrowed_fits : (size : Size) (z x : ℤ) → x ≡ wrapped (width_of size) z → IsOfWidth (width_of size) x
narrowed_fits size z x is = subst (λ y. IsOfWidth (width_of size) y) (sym is) (wrapped_fits size z)
