-- What the code of the integer rules computes, in the signed types that it computes in.
use Rattle.std.proofs.Common.{◌≡◌, ℕ, ◌<◌, ◌≤◌, ◌^◌, ap, sym, ◌∙◌, subst, lit<, arith, ℤ, pos, ◌*ℤ◌, w32, w64, to_z, of_z, FitsSigned, unsigned_abs}
use Rattle.std.specs.Int.{w128, int_wrap, int_rem_euclid}
use Rattle.std.proofs.lemmas.Int.{ints, to_z-of_z, fits_signed_mul}
use Rattle.std.proofs.Math.Pow.{pow_mono}
use Rattle.ib_base.specs.declared.integers.Width.{Width}
use Rattle.ib_base.specs.Integers.{wrapped, shifted_left, count_of}

pub wrapped_four : (x r s f : ℤ) → FitsSigned w128 x → FitsSigned w128 r → FitsSigned w32 s → FitsSigned w64 f
    → r ≡ int_rem_euclid (to_z w128 (of_z w128 x)) (pos 4294967296) → s ≡ to_z w32 (unsigned_abs (to_z w128 (of_z w128 r))) → f ≡ to_z w32 (of_z w32 s)
    → to_z w64 (of_z w64 f) ≡ int_wrap w32 x
unfolding int_wrap
wrapped_four x r s f x_fits r_fits s_fits f_fits r_is s_is f_is =
    to_z-of_z w64 f f_fits ∙ f_is ∙ to_z-of_z w32 s s_fits ∙ s_is
    ∙ ap (λ z. to_z w32 (unsigned_abs z)) (to_z-of_z w128 r r_fits ∙ r_is ∙ ap (λ z. int_rem_euclid z (pos 4294967296)) (to_z-of_z w128 x x_fits))

pub wrapped_eight : (x r s : ℤ) → FitsSigned w128 x → FitsSigned w128 r → FitsSigned w64 s
    → r ≡ int_rem_euclid (to_z w128 (of_z w128 x)) (pos 18446744073709551616) → s ≡ to_z w64 (unsigned_abs (to_z w128 (of_z w128 r)))
    → to_z w64 (of_z w64 s) ≡ int_wrap w64 x
unfolding int_wrap
wrapped_eight x r s x_fits r_fits s_fits r_is s_is =
    to_z-of_z w64 s s_fits ∙ s_is
    ∙ ap (λ z. to_z w64 (unsigned_abs z)) (to_z-of_z w128 r r_fits ∙ r_is ∙ ap (λ z. int_rem_euclid z (pos 18446744073709551616)) (to_z-of_z w128 x x_fits))

-- an integer of 64 bits fits 128 bits
wider : (z : ℤ) → FitsSigned w64 z → FitsSigned w128 z
wider z fits = omega (arith, ints)

-- the greatest size of an integer of 64 bits
size_of_eight : (z : ℤ) → FitsSigned w64 z → unsigned_abs z ≤ 9223372036854775808
size_of_eight z fits = omega (arith, ints)

module _ (a b f p : ℤ) (k : ℕ) (a_fits : FitsSigned w64 a) (f_is : f ≡ to_z w64 (of_z w64 a)) (p_is : p ≡ pos (2 ^ k)) (small : k < 64) (p_fits : FitsSigned w128 p) where
  left : to_z w128 (of_z w128 f) ≡ a
  left = subst (λ z. to_z w128 (of_z w128 z) ≡ a) (sym (f_is ∙ to_z-of_z w64 a a_fits)) (to_z-of_z w128 a (wider a a_fits))

  right : to_z w128 (of_z w128 p) ≡ pos (2 ^ k)
  right = to_z-of_z w128 p p_fits ∙ p_is

  most : 2 ^ k ≤ 9223372036854775808
  most = let h : k ≤ 63 = omega arith in pow_mono h

  pub product_fits : FitsSigned w128 (to_z w128 (of_z w128 f) *ℤ to_z w128 (of_z w128 p))
  product_fits =
      rw (left, right) (fits_signed_mul w128 a (pos (2 ^ k)) 9223372036854775808 9223372036854775808 (size_of_eight a a_fits) most (lit< tt))

  pub shifted : (w : Width) (r : ℤ) → FitsSigned w64 b → FitsSigned w64 r → k ≡ count_of w (to_z w64 (of_z w64 b))
      → r ≡ wrapped w (to_z w128 (of_z w128 (to_z w128 (of_z w128 f) *ℤ to_z w128 (of_z w128 p)))) → to_z w64 (of_z w64 r) ≡ shifted_left w a b
  shifted w r b_fits r_fits k_is r_is =
      to_z-of_z w64 r r_fits ∙ r_is ∙ ap (wrapped w) (to_z-of_z w128 _ product_fits ∙ ap (λ x. x *ℤ to_z w128 (of_z w128 p)) left ∙ ap (λ y. a *ℤ y) right)
      ∙ ap (λ n. wrapped w (a *ℤ pos (2 ^ n))) (k_is ∙ ap (count_of w) (to_z-of_z w64 b b_fits))
