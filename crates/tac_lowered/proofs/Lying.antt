-- What operators give lies in its width.
use Rattle.std.proofs.Common.{◌≡◌, ℕ, zero, suc, ◌+◌, ◌-◌, ◌*◌, ◌/◌, ◌^◌, ◌<◌, ◌≤◌, ℤ, pos, negsuc, Bool, true, false, ◌&&◌, ◌||◌, refl, sym, ap, ◌∙◌, subst, arith, w32, w64, FitsSigned, unsigned_abs, Result, Ok, Err, ◌-ℤ◌, ◌*ℤ◌, neg_ℤ, ◌⊎◌, inl, inr}
use Rattle.std.specs.Prelude.{if◌then◌else◌, int_div, int_rem, nat_le, nat_lt, ◌+ℤ◌}
use Rattle.std.specs.Int.{Width as Bits, cast_signed, cast_unsigned, int_shr}
use Rattle.std.specs.Int.Bits.{bit_and, bit_or, bit_xor}
use Rattle.std.specs.Int.Signed.{mag_shr}
use mir.Val.{hbits, sel}
use Rattle.std.proofs.lemmas.Int.{ints, int_wrap_fits, SFits-int_wrap, quot_fits, rem_below, fits_signed_from_abs}
use Rattle.std.proofs.lemmas.Nat.{and_shr, or_shr, xor_shr, and_le_l, or_lt, xor_lt}
use Rattle.std.proofs.lemmas.Bool.{le-leb, leb-false, ltb-true, ltb-false}
use Rattle.std.proofs.Math.Nat.{div-le_self, div-mul-le_self}
use Rattle.ib_base.specs.declared.integers.Width.{Width}
use Rattle.ib_base.specs.declared.integers.Width.TheVariants.{W1, W8}
use Rattle.ib_base.specs.Integers.{wrapped, quotient, remainder, divided, least_of, int_eq, count_of}
use Rattle.ib_meaning.specs.declared.fault.FaultKind.{FaultKind}
use Rattle.ib_meaning.specs.declared.fault.FaultKind.TheVariants.{DivZero, DivOverflow}
use Rattle.ib_meaning.proofs.Facts.{both_first, both_second}
use Rattle.c_typed.specs.declared.operation.Rank.{Rank}
use Rattle.c_typed.specs.declared.operation.Rank.TheVariants as rk
use Rattle.c_typed.specs.declared.operation.Arithmetic.{Arithmetic}
use Rattle.c_typed.specs.declared.operation.Arithmetic.TheVariants as ar
use Rattle.c_typed.specs.declared.operation.Operation.{Operation}
use Rattle.c_typed.specs.declared.operation.Operation.TheVariants as op
use Rattle.c_typed.specs.Values as values
use Rattle.c_typed.specs.Values.{ranked, truth, scaled}
use Rattle.tac_lowered.specs.Operators.{given_by}
use Rattle.c_kept.specs.Kept.{fits_in, is_shift, takes}
use Rattle.tac_lowered.proofs.Relation.{Lies}
use Rattle.tac_lowered.proofs.Statements.{no_loss}
use Rattle.tac_lowered.proofs.Widths.{wider, wrapped_lies, truth_lies}

abbrev got : ℤ → Result ℤ FaultKind
got x = Ok x

ok_is : (x z : ℤ) → got x ≡ Ok z → x ≡ z
ok_is x z h = cc

-- ---- quotients and remainders

-- what a quotient that can be had says of its operands
divided_ok : (w : Width) (a b x z : ℤ) → divided w a b x ≡ Ok z → (int_eq b (pos 0) ≡ false) × ((int_eq b (negsuc 0) && int_eq a (least_of w)) ≡ false) × (x ≡ z)
divided_ok w a b x z h = go (int_eq b (pos 0)) (int_eq b (negsuc 0) && int_eq a (least_of w)) h
  where
    go : (c d : Bool) → (if c then Err DivZero else if d then Err DivOverflow else Ok x) ≡ Ok z → (c ≡ false) × (d ≡ false) × (x ≡ z)
    go true d h = let no : ⊥ = cc in absurd no
    go false true h = let no : ⊥ = cc in absurd no
    go false false h = (refl, refl, ok_is x z h)

some_abs : (b : ℤ) → int_eq b (pos 0) ≡ false → 0 < unsigned_abs b
some_abs (pos zero) h = let no : ⊥ = cc in absurd no
some_abs (pos (suc n)) h = omega arith
some_abs (negsuc n) h = omega arith

abs_fits : (w : Bits) (z : ℤ) → FitsSigned w z → unsigned_abs z ≤ 2 ^ hbits w
abs_fits w (pos n) f = omega (arith, f.sfits)
abs_fits w (negsuc n) f = omega (arith, f.sfits)

remainder_fits : (w : Bits) (a b : ℤ) → FitsSigned w b → int_eq b (pos 0) ≡ false → FitsSigned w (int_rem a b)
remainder_fits w a b f h = fits_signed_from_abs w (int_rem a b) (let e1 = rem_below a b (some_abs b h) in let e2 = abs_fits w b f in omega (arith, e1, e2))

abs_neg : (n : ℕ) → unsigned_abs (neg_ℤ (pos n)) ≡ n
abs_neg zero = refl
abs_neg (suc n) = refl

half_below : (n b m : ℕ) → 0 < m → n ≤ m → n / suc (suc b) < m
half_below n b m some le = let e1 = div-mul-le_self n (suc (suc b)) in let e2 = twice (n / suc (suc b)) in omega (arith, e1, e2)
  where
    twice : (x : ℕ) → x + x ≤ x * suc (suc b)
    twice x = let e : x * suc (suc b) ≡ x + x + x * b = grind arith in omega (arith, e)

abbrev int_bits : Rank → Bits
int_bits rk.Int = w32
int_bits rk.Long = w64

lies_fits : (rank : Rank) (z : ℤ) → Lies (ranked rank) z → FitsSigned (int_bits rank) z
lies_fits rk.Int z l = subst (λ x. FitsSigned w32 x) l (SFits-int_wrap w32 z)
lies_fits rk.Long z l = subst (λ x. FitsSigned w64 x) l (SFits-int_wrap w64 z)

fits_lie : (rank : Rank) (z : ℤ) → FitsSigned (int_bits rank) z → Lies (ranked rank) z
fits_lie rk.Int z f = int_wrap_fits w32 z f
fits_lie rk.Long z f = int_wrap_fits w64 z f

-- the least number is that
not_least : (rank : Rank) (n : ℕ) → int_eq (negsuc n) (least_of (ranked rank)) ≡ false → FitsSigned (int_bits rank) (negsuc n) → suc n < 2 ^ hbits (int_bits rank)
not_least rk.Int n h f = go (nat_le 2147483647 n) refl
  where
    go : (b : Bool) → nat_le 2147483647 n ≡ b → suc n < 2 ^ 31
    go true e = let no : ⊥ = let e2 = le-leb n 2147483647 (omega (arith, f.sfits)) in cc in absurd no
    go false e = let e2 = leb-false 2147483647 n e in omega (arith, e2)
not_least rk.Long n h f = go (nat_le 9223372036854775807 n) refl
  where
    go : (b : Bool) → nat_le 9223372036854775807 n ≡ b → suc n < 2 ^ 63
    go true e = let no : ⊥ = let e2 = le-leb n 9223372036854775807 (omega (arith, f.sfits)) in cc in absurd no
    go false e = let e2 = leb-false 9223372036854775807 n e in omega (arith, e2)

some_half : (rank : Rank) → 0 < 2 ^ hbits (int_bits rank)
some_half rk.Int = omega arith
some_half rk.Long = omega arith

quotient_fits : (rank : Rank) (a b : ℤ) → FitsSigned (int_bits rank) a → int_eq b (pos 0) ≡ false → (int_eq b (negsuc 0) && int_eq a (least_of (ranked rank))) ≡ false → FitsSigned (int_bits rank) (int_div a b)
quotient_fits rank a (pos zero) f h h2 = let no : ⊥ = cc in absurd no
quotient_fits rank a (pos (suc b)) f h h2 = quot_fits (int_bits rank) a (pos (suc b)) f (omega (arith, ints))
quotient_fits rank (pos a) (negsuc zero) f h h2 = fits_signed_from_abs (int_bits rank) (neg_ℤ (pos (a / 1))) (let e1 = abs_neg (a / 1) in let e2 = div-le_self a 1 in omega (arith, e1, e2, f.sfits))
quotient_fits rank (negsuc a) (negsuc zero) f h h2 = fits_signed_from_abs (int_bits rank) (pos (suc a / 1)) (let e1 = not_least rank a h2 f in let e2 = div-le_self (suc a) 1 in omega (arith, e1, e2))
quotient_fits rank (pos a) (negsuc (suc b)) f h h2 = fits_signed_from_abs (int_bits rank) (neg_ℤ (pos (a / suc (suc b)))) (let e1 = abs_neg (a / suc (suc b)) in let e2 = half_below a b (2 ^ hbits (int_bits rank)) (some_half rank) (omega (arith, f.sfits)) in omega (arith, e1, e2))
quotient_fits rank (negsuc a) (negsuc (suc b)) f h h2 = fits_signed_from_abs (int_bits rank) (pos (suc a / suc (suc b))) (half_below (suc a) b (2 ^ hbits (int_bits rank)) (some_half rank) (omega (arith, f.sfits)))

quotient_lies : (rank : Rank) (a b z : ℤ) → quotient (ranked rank) (wrapped (ranked rank) a) b ≡ Ok z → Lies (ranked rank) z
quotient_lies rank a b z h =
    let x = wrapped (ranked rank) a in
    let d = divided_ok (ranked rank) x b (int_div x b) z h in
    subst (λ y. Lies (ranked rank) y) d.2 (fits_lie rank (int_div x b) (quotient_fits rank x b (lies_fits rank x (wrapped_lies (ranked rank) a)) d.0 d.1))

remainder_lies : (rank : Rank) (a b z : ℤ) → remainder (ranked rank) a (wrapped (ranked rank) b) ≡ Ok z → Lies (ranked rank) z
remainder_lies rank a b z h =
    let y = wrapped (ranked rank) b in
    let d = divided_ok (ranked rank) a y (int_rem a y) z h in
    subst (λ y. Lies (ranked rank) y) d.2 (fits_lie rank (int_rem a y) (remainder_fits (int_bits rank) a y (lies_fits rank y (wrapped_lies (ranked rank) b)) d.0))

shifted_lies : (rank : Rank) (a : ℤ) (k : ℕ) → Lies (ranked rank) (int_shr (wrapped (ranked rank) a) k)
shifted_lies rank a k =
    let x = wrapped (ranked rank) a in
    let f = lies_fits rank x (wrapped_lies (ranked rank) a) in
    fits_lie rank (int_shr x k) (record { sfits = let e1 = mag_shr x (2 ^ k) in omega (arith, e1, f.sfits) })

-- ---- bits

-- what stands above the lowest 31 bits of a number of four bytes
abbrev IsFilled : ℕ → Type 0
IsFilled high = (high ≡ 0) ⊎ (high ≡ 8589934591)

filled_high : (z : ℤ) → FitsSigned w32 z → IsFilled (cast_unsigned w64 z / 2 ^ 31)
filled_high (pos n) f = inl (let e = f.sfits in omega (arith, e))
filled_high (negsuc n) f = inr (let e = f.sfits in omega (arith, e))

four_of : (n : ℕ) → IsFilled (n / 2 ^ 31) → FitsSigned w32 (cast_signed w64 n)
four_of n high = go high (nat_lt n (2 ^ 63)) refl
  where
    go : IsFilled (n / 2 ^ 31) → (b : Bool) → nat_lt n (2 ^ 63) ≡ b → FitsSigned w32 (sel b (pos n) (negsuc (2 ^ 64 - suc n)))
    go (inl e) true h = record { sfits = omega (arith, e) }
    go (inr e) true h = let lt = ltb-true n (2 ^ 63) h in let no : ⊥ = omega (arith, e, lt) in absurd no
    go (inl e) false h = let le = ltb-false n (2 ^ 63) h in let no : ⊥ = omega (arith, e, le) in absurd no
    go (inr e) false h = record { sfits = omega (arith, e) }

and_filled : (a b : ℕ) → IsFilled a → IsFilled b → IsFilled (bit_and a b)
and_filled a b (inl e) (inl e2) = inl (ap (λ x. bit_and x b) e ∙ ap (λ x. bit_and 0 x) e2)
and_filled a b (inl e) (inr e2) = inl (ap (λ x. bit_and x b) e ∙ ap (λ x. bit_and 0 x) e2)
and_filled a b (inr e) (inl e2) = inl (ap (λ x. bit_and x b) e ∙ ap (λ x. bit_and 8589934591 x) e2)
and_filled a b (inr e) (inr e2) = inr (ap (λ x. bit_and x b) e ∙ ap (λ x. bit_and 8589934591 x) e2)

or_filled : (a b : ℕ) → IsFilled a → IsFilled b → IsFilled (bit_or a b)
or_filled a b (inl e) (inl e2) = inl (ap (λ x. bit_or x b) e ∙ ap (λ x. bit_or 0 x) e2)
or_filled a b (inl e) (inr e2) = inr (ap (λ x. bit_or x b) e ∙ ap (λ x. bit_or 0 x) e2)
or_filled a b (inr e) (inl e2) = inr (ap (λ x. bit_or x b) e ∙ ap (λ x. bit_or 8589934591 x) e2)
or_filled a b (inr e) (inr e2) = inr (ap (λ x. bit_or x b) e ∙ ap (λ x. bit_or 8589934591 x) e2)

xor_filled : (a b : ℕ) → IsFilled a → IsFilled b → IsFilled (bit_xor a b)
xor_filled a b (inl e) (inl e2) = inl (ap (λ x. bit_xor x b) e ∙ ap (λ x. bit_xor 0 x) e2)
xor_filled a b (inl e) (inr e2) = inr (ap (λ x. bit_xor x b) e ∙ ap (λ x. bit_xor 0 x) e2)
xor_filled a b (inr e) (inl e2) = inr (ap (λ x. bit_xor x b) e ∙ ap (λ x. bit_xor 8589934591 x) e2)
xor_filled a b (inr e) (inr e2) = inl (ap (λ x. bit_xor x b) e ∙ ap (λ x. bit_xor 8589934591 x) e2)

-- bits of numbers of a rank, where those above the lowest 31 go as the operands' do
bits_lie : (f : ℕ → ℕ → ℕ) → ((a b : ℕ) → IsFilled a → IsFilled b → IsFilled (f a b)) → ((a b : ℕ) → f a b / 2 ^ 31 ≡ f (a / 2 ^ 31) (b / 2 ^ 31)) → ((a b : ℕ) → a < 2 ^ 64 → b < 2 ^ 64 → f a b < 2 ^ 64)
    → (rank : Rank) (x y : ℤ) → Lies (ranked rank) x → Lies (ranked rank) y → Lies (ranked rank) (cast_signed w64 (f (cast_unsigned w64 x) (cast_unsigned w64 y)))
bits_lie f filled high below rk.Int x y lx ly =
    let a = cast_unsigned w64 x in
    let b = cast_unsigned w64 y in
    int_wrap_fits w32 (cast_signed w64 (f a b)) (four_of (f a b) (subst (λ z. IsFilled z) (sym (high a b)) (filled (a / 2 ^ 31) (b / 2 ^ 31) (filled_high x (lies_fits rk.Int x lx)) (filled_high y (lies_fits rk.Int y ly)))))
bits_lie f filled high below rk.Long x y lx ly =
    let a = cast_unsigned w64 x in
    let b = cast_unsigned w64 y in
    let e1 : a < 2 ^ 64 = omega (arith, ints, lies_fits rk.Long x lx) in
    let e2 : b < 2 ^ 64 = omega (arith, ints, lies_fits rk.Long y ly) in
    let e3 = below a b e1 e2 in
    let e4 : FitsSigned w64 (cast_signed w64 (f a b)) = omega (arith, ints, e3) in
    int_wrap_fits w64 (cast_signed w64 (f a b)) e4

-- ---- operators

fits_lies : (w : Width) (rank : Rank) (z : ℤ) → fits_in w (ranked rank) ≡ true → Lies w z → Lies (ranked rank) z
fits_lies w rank z h l = wider w (ranked rank) z (no_loss w (ranked rank) h) l

arithmetic_lies : (o : Arithmetic) (rank : Rank) (x y z : ℤ) → Lies (ranked rank) x → (is_shift o ≡ false → Lies (ranked rank) y) → values.arithmetic o (ranked rank) x y ≡ Ok z → Lies (ranked rank) z
arithmetic_lies ar.Add rank x y z lx ly h = subst (λ z. Lies (ranked rank) z) (ok_is _ z h) (wrapped_lies (ranked rank) (x +ℤ y))
arithmetic_lies ar.Sub rank x y z lx ly h = subst (λ z. Lies (ranked rank) z) (ok_is _ z h) (wrapped_lies (ranked rank) (x -ℤ y))
arithmetic_lies ar.Mul rank x y z lx ly h = subst (λ z. Lies (ranked rank) z) (ok_is _ z h) (wrapped_lies (ranked rank) (x *ℤ y))
arithmetic_lies ar.Div rank x y z lx ly h = quotient_lies rank x (wrapped (ranked rank) y) z h
arithmetic_lies ar.Rem rank x y z lx ly h = remainder_lies rank (wrapped (ranked rank) x) y z h
arithmetic_lies ar.ShiftLeft rank x y z lx ly h = subst (λ z. Lies (ranked rank) z) (ok_is _ z h) (wrapped_lies (ranked rank) (wrapped (ranked rank) x *ℤ pos (2 ^ count_of (ranked rank) y)))
arithmetic_lies ar.ShiftRight rank x y z lx ly h = subst (λ z. Lies (ranked rank) z) (ok_is _ z h) (shifted_lies rank x (count_of (ranked rank) y))
arithmetic_lies ar.BitAnd rank x y z lx ly h = subst (λ z. Lies (ranked rank) z) (ok_is _ z h) (bits_lie bit_and and_filled (λ a b. and_shr a b 31) and_below rank x y lx (ly refl))
  where
    and_below : (a b : ℕ) → a < 2 ^ 64 → b < 2 ^ 64 → bit_and a b < 2 ^ 64
    and_below a b la lb = let e1 = and_le_l a b in omega (arith, e1)
arithmetic_lies ar.BitXor rank x y z lx ly h = subst (λ z. Lies (ranked rank) z) (ok_is _ z h) (bits_lie bit_xor xor_filled (λ a b. xor_shr a b 31) (λ a b la lb. xor_lt 64 a b la lb) rank x y lx (ly refl))
arithmetic_lies ar.BitOr rank x y z lx ly h = subst (λ z. Lies (ranked rank) z) (ok_is _ z h) (bits_lie bit_or or_filled (λ a b. or_shr a b 31) (λ a b la lb. or_lt 64 a b la lb) rank x y lx (ly refl))

or_second : (a b : Bool) → (a || b) ≡ true → a ≡ false → b ≡ true
or_second true b h e = let no : ⊥ = cc in absurd no
or_second false b h e = h

-- the value of an operator whose operands have the widths that it takes
pub operated_lies : (o : Operation) (w w' : Width) (x y z : ℤ) → takes o w w' ≡ true → Lies w x → Lies w' y → values.operated o x y ≡ Ok z → Lies (given_by o) z
operated_lies (op.Integer o rank) w w' x y z t lx ly h =
    let left = both_first (fits_in w (ranked rank)) (is_shift o || fits_in w' (ranked rank)) t in
    let right = both_second (fits_in w (ranked rank)) (is_shift o || fits_in w' (ranked rank)) t in
    arithmetic_lies o rank x y z (fits_lies w rank x left lx) (λ no_shift. fits_lies w' rank y (or_second (is_shift o) (fits_in w' (ranked rank)) right no_shift) ly) h
operated_lies (op.Compare o) w w' x y z t lx ly h = subst (λ z. Lies W1 z) (ok_is _ z h) (truth_lies (values.comparison o x y))
operated_lies (op.Advance size) w w' x y z t lx ly h = subst (λ z. Lies W8 z) (ok_is _ z h) (wrapped_lies W8 (x +ℤ scaled size y))
operated_lies (op.AdvanceBy size) w w' x y z t lx ly h = subst (λ z. Lies W8 z) (ok_is _ z h) (wrapped_lies W8 (y +ℤ scaled size x))
operated_lies (op.Retreat size) w w' x y z t lx ly h = subst (λ z. Lies W8 z) (ok_is _ z h) (wrapped_lies W8 (x -ℤ scaled size y))
operated_lies (op.Distance size) w w' x y z t lx ly h = quotient_lies rk.Long (x -ℤ y) (wrapped W8 (pos size)) z h
