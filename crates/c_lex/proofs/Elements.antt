-- Elements of literals, alone and before more bytes.
use Rattle.std.proofs.Common.{◌≡◌, ℕ, suc, ◌<◌, ◌≤◌, min, Bool, true, false, List, [], ◌∷◌, ◌++◌, length, take, ap, refl, sym, ◌∙◌, arith, cond, Option, Some, None}
use Rattle.std.specs.Prelude.{◌==◌, nat_le}
use Rattle.std.specs.List.{prefix_len}
use Rattle.std.specs.Option.{option_map}
use Rattle.std.proofs.lemmas.Bool.Decides.{nat_tests}
use Rattle.std.proofs.lemmas.List.{take-append-le}
use Rattle.std.proofs.lemmas.List.Folds.{prefix_len-append}
use Rattle.std.proofs.lemmas.List.Sums.{prefix_len-le-length}
use Rattle.c_ast.specs.Bytes.{is_digit_in, is_literal_byte}
use Rattle.c_ast.specs.Literals.{value_in, letter_escape, octal_len, hexadecimal_len, byte_of, behind_backslash, escape, element}

-- a front that passes and ends before the bytes do is the same before more bytes
run_before : (p : ℕ → Bool) (bs more : List ℕ) → prefix_len p bs < length bs → prefix_len p (bs ++ more) ≡ prefix_len p bs
run_before p bs more h = let e = prefix_len-append p bs more in grind (arith, nat_tests)

run_within : (p : ℕ → Bool) (bs more : List ℕ) → prefix_len p (bs ++ more) < length bs → prefix_len p (bs ++ more) ≡ prefix_len p bs
run_within p bs more h = let e = prefix_len-append p bs more in grind (arith, nat_tests)

capped_before : (p : ℕ → Bool) (bs more : List ℕ) → min (prefix_len p bs) 3 < length bs → min (prefix_len p (bs ++ more)) 3 ≡ min (prefix_len p bs) 3
capped_before p bs more h = let e = prefix_len-append p bs more in let k = prefix_len-le-length p bs in grind (arith, nat_tests)

capped_within : (p : ℕ → Bool) (bs more : List ℕ) → min (prefix_len p (bs ++ more)) 3 < length bs → min (prefix_len p (bs ++ more)) 3 ≡ min (prefix_len p bs) 3
capped_within p bs more h = let e = prefix_len-append p bs more in let k = prefix_len-le-length p bs in grind (arith, nat_tests)

-- an element's value and length
abbrev pub pair : ℕ → ℕ → Option (ℕ × ℕ)
pair value n = Some (value, n)

abbrev len_of : Option (ℕ × ℕ) → ℕ
len_of None = 0
len_of (Some p) = p.1

pub pair-len : (v k value n : ℕ) → pair v k ≡ pair value n → n ≡ k
pair-len v k value n e = sym (ap len_of e)

-- the length that an answer has
length_of : (o : Option ℕ) (k value n : ℕ) → byte_of o k ≡ pair value n → n ≡ k
length_of None k value n e = cc
length_of (Some v) k value n e = by_test (nat_le v 255) e
  where
    by_test : (b : Bool) → cond b (pair v k) None ≡ pair value n → n ≡ k
    by_test true f = pair-len v k value n f
    by_test false f = cc

letter_pair : (o : Option ℕ) (value n : ℕ) → option_map (λ v. let p : ℕ × ℕ = (v, 2) in p) o ≡ pair value n → n ≡ 2
letter_pair None value n e = cc
letter_pair (Some v) value n e = pair-len v 2 value n e

-- digits of an escape, alone and before more bytes
digits_same : (base k j n : ℕ) (bs more : List ℕ) → j ≡ k → k ≤ length bs →
    byte_of (value_in base (take j (bs ++ more))) n ≡ byte_of (value_in base (take k bs)) n
digits_same base k j n bs more e h = rw e (ap (λ ds. byte_of (value_in base ds) n) (take-append-le k bs more h))

-- the length that an escape has
abbrev escape_len : ℕ → List ℕ → ℕ
escape_len c bs = cond (is_digit_in 8 c) (suc (octal_len (c ∷ bs))) (cond (c == 120) (suc (suc (hexadecimal_len bs))) 2)

escape_has : (c : ℕ) (bs : List ℕ) (value n : ℕ) → behind_backslash c bs ≡ pair value n → n ≡ escape_len c bs
escape_has c bs value n = by_tests (is_digit_in 8 c) (c == 120)
  where
    by_tests : (a b : Bool) →
        cond a (byte_of (value_in 8 (take (octal_len (c ∷ bs)) (c ∷ bs))) (suc (octal_len (c ∷ bs))))
        (cond b (byte_of (value_in 16 (take (hexadecimal_len bs) bs)) (suc (suc (hexadecimal_len bs)))) (option_map (λ v. let p : ℕ × ℕ = (v, 2) in p) (letter_escape c))) ≡ pair value n →
        n ≡ cond a (suc (octal_len (c ∷ bs))) (cond b (suc (suc (hexadecimal_len bs))) 2)
    by_tests true b e = length_of (value_in 8 (take (octal_len (c ∷ bs)) (c ∷ bs))) (suc (octal_len (c ∷ bs))) value n e
    by_tests false true e = length_of (value_in 16 (take (hexadecimal_len bs) bs)) (suc (suc (hexadecimal_len bs))) value n e
    by_tests false false e = letter_pair (letter_escape c) value n e

abbrev Same : ℕ → List ℕ → List ℕ → Bool → Bool → Type 0
Same c bs more a b =
    cond a (byte_of (value_in 8 (take (octal_len (c ∷ bs ++ more)) (c ∷ bs ++ more))) (suc (octal_len (c ∷ bs ++ more))))
    (cond b (byte_of (value_in 16 (take (hexadecimal_len (bs ++ more)) (bs ++ more))) (suc (suc (hexadecimal_len (bs ++ more))))) (option_map (λ v. let p : ℕ × ℕ = (v, 2) in p) (letter_escape c)))
    ≡ cond a (byte_of (value_in 8 (take (octal_len (c ∷ bs)) (c ∷ bs))) (suc (octal_len (c ∷ bs))))
    (cond b (byte_of (value_in 16 (take (hexadecimal_len bs) bs)) (suc (suc (hexadecimal_len bs)))) (option_map (λ v. let p : ℕ × ℕ = (v, 2) in p) (letter_escape c)))

module _ (c : ℕ) (bs more : List ℕ) where
  octal_same : octal_len (c ∷ bs ++ more) ≡ octal_len (c ∷ bs) → octal_len (c ∷ bs) ≤ length (c ∷ bs) → (b : Bool) → Same c bs more true b
  octal_same o ol b =
      ap (λ n. byte_of (value_in 8 (take (octal_len (c ∷ bs ++ more)) (c ∷ bs ++ more))) (suc n)) o
      ∙ digits_same 8 (octal_len (c ∷ bs)) (octal_len (c ∷ bs ++ more)) (suc (octal_len (c ∷ bs))) (c ∷ bs) more o ol

  hexadecimal_same : hexadecimal_len (bs ++ more) ≡ hexadecimal_len bs → hexadecimal_len bs ≤ length bs → Same c bs more false true
  hexadecimal_same h hl =
      ap (λ n. byte_of (value_in 16 (take (hexadecimal_len (bs ++ more)) (bs ++ more))) (suc (suc n))) h
      ∙ digits_same 16 (hexadecimal_len bs) (hexadecimal_len (bs ++ more)) (suc (suc (hexadecimal_len bs))) bs more h hl

  octal_before : octal_len (c ∷ bs) < suc (length bs) → octal_len (c ∷ bs ++ more) ≡ octal_len (c ∷ bs)
  octal_before h = capped_before (is_digit_in 8) (c ∷ bs) more h

  octal_within : octal_len (c ∷ bs ++ more) < suc (length bs) → octal_len (c ∷ bs ++ more) ≡ octal_len (c ∷ bs)
  octal_within h = capped_within (is_digit_in 8) (c ∷ bs) more h

  before_by : (a b : Bool) → cond a (suc (octal_len (c ∷ bs))) (cond b (suc (suc (hexadecimal_len bs))) 2) ≤ suc (length bs) → Same c bs more a b
  before_by true b h = octal_same (octal_before (omega (arith, h))) (omega (arith, h)) b
  before_by false true h = hexadecimal_same (run_before (is_digit_in 16) bs more (omega (arith, h))) (omega (arith, h))
  before_by false false h = refl

  within_by : (a b : Bool) → cond a (suc (octal_len (c ∷ bs ++ more))) (cond b (suc (suc (hexadecimal_len (bs ++ more)))) 2) ≤ suc (length bs) → Same c bs more a b
  within_by true b h = let e = octal_within (omega (arith, h)) in octal_same e (omega (arith, h, e)) b
  within_by false true h = let e = run_within (is_digit_in 16) bs more (omega (arith, h)) in hexadecimal_same e (omega (arith, h, e))
  within_by false false h = refl

-- an element that ends before the bytes do is the same before more bytes, and the other way round
escape_before : (bs more : List ℕ) (value n : ℕ) → n < suc (length bs) → escape bs ≡ pair value n → escape (bs ++ more) ≡ escape bs
escape_before [] more value n h e = cc
escape_before (c ∷ bs) more value n h e = before_by c bs more (is_digit_in 8 c) (c == 120) (let k = escape_has c bs value n e in omega (arith, k, h))

escape_within : (bs more : List ℕ) (value n : ℕ) → n < suc (length bs) → 2 ≤ n → escape (bs ++ more) ≡ pair value n → escape (bs ++ more) ≡ escape bs
escape_within [] more value n h some e = absurd (omega (arith, some, h))
escape_within (c ∷ bs) more value n h some e = within_by c bs more (is_digit_in 8 c) (c == 120) (let k = escape_has c (bs ++ more) value n e in omega (arith, k, h))

octal_some : (c : ℕ) (bs : List ℕ) → is_digit_in 8 c ≡ true → 1 ≤ octal_len (c ∷ bs)
octal_some c bs h = rw h (omega arith)

escape_some : (c : ℕ) (bs : List ℕ) → 2 ≤ escape_len c bs
escape_some c bs = by_tests (is_digit_in 8 c) (c == 120) refl
  where
    by_tests : (a b : Bool) → is_digit_in 8 c ≡ a → 2 ≤ cond a (suc (octal_len (c ∷ bs))) (cond b (suc (suc (hexadecimal_len bs))) 2)
    by_tests true b h = let k = octal_some c bs h in omega (arith, k)
    by_tests false true h = omega arith
    by_tests false false h = omega arith

escape_long : (bs : List ℕ) (value n : ℕ) → escape bs ≡ pair value n → 2 ≤ n
escape_long [] value n e = cc
escape_long (c ∷ bs) value n e = let k = escape_has c bs value n e in let l = escape_some c bs in omega (arith, k, l)

-- the tests of an element's first byte
abbrev element_by : Bool → Bool → Bool → ℕ → Option (ℕ × ℕ) → Option (ℕ × ℕ)
element_by true slash literal b other = None
element_by false true literal b other = other
element_by false false true b other = pair b 1
element_by false false false b other = None

element_tests : (quote b : ℕ) (bs : List ℕ) → element quote (b ∷ bs) ≡ element_by (b == quote) (b == 92) (is_literal_byte b) b (escape bs)
element_tests quote b bs = by_tests (b == quote) (b == 92) (is_literal_byte b)
  where
    by_tests : (x y z : Bool) → cond x None (cond y (escape bs) (cond z (pair b 1) None)) ≡ element_by x y z b (escape bs)
    by_tests true y z = refl
    by_tests false true z = refl
    by_tests false false true = refl
    by_tests false false false = refl

pub not_quote : (quote b : ℕ) (bs : List ℕ) (value n : ℕ) → element quote (b ∷ bs) ≡ pair value n → (b == quote) ≡ false
not_quote quote b bs value n e = by_test (b == quote) (sym (element_tests quote b bs) ∙ e)
  where
    by_test : (x : Bool) → element_by x (b == 92) (is_literal_byte b) b (escape bs) ≡ pair value n → x ≡ false
    by_test true f = cc
    by_test false f = refl

pub element_long : (quote b : ℕ) (bs : List ℕ) (value n : ℕ) → element quote (b ∷ bs) ≡ pair value n → 1 ≤ n
element_long quote b bs value n e = by_tests (b == quote) (b == 92) (is_literal_byte b) (sym (element_tests quote b bs) ∙ e)
  where
    by_tests : (x y z : Bool) → element_by x y z b (escape bs) ≡ pair value n → 1 ≤ n
    by_tests true y z f = cc
    by_tests false true z f = let k = escape_long bs value n f in omega (arith, k)
    by_tests false false true f = let k = pair-len b 1 value n f in omega (arith, k)
    by_tests false false false f = cc

pub element_before : (quote b : ℕ) (bs more : List ℕ) (value n : ℕ) → n < length (b ∷ bs) → element quote (b ∷ bs) ≡ pair value n → element quote (b ∷ bs ++ more) ≡ pair value n
element_before quote b bs more value n h e = element_tests quote b (bs ++ more) ∙ by_tests (b == quote) (b == 92) (is_literal_byte b) (sym (element_tests quote b bs) ∙ e)
  where
    by_tests : (x y z : Bool) → element_by x y z b (escape bs) ≡ pair value n → element_by x y z b (escape (bs ++ more)) ≡ pair value n
    by_tests true y z f = f
    by_tests false true z f = escape_before bs more value n h f ∙ f
    by_tests false false true f = f
    by_tests false false false f = f

pub element_within : (quote b : ℕ) (bs more : List ℕ) (value n : ℕ) → n < length (b ∷ bs) → element quote (b ∷ bs ++ more) ≡ pair value n → element quote (b ∷ bs) ≡ pair value n
element_within quote b bs more value n h e = element_tests quote b bs ∙ by_tests (b == quote) (b == 92) (is_literal_byte b) (sym (element_tests quote b (bs ++ more)) ∙ e)
  where
    by_tests : (x y z : Bool) → element_by x y z b (escape (bs ++ more)) ≡ pair value n → element_by x y z b (escape bs) ≡ pair value n
    by_tests true y z f = f
    by_tests false true z f = sym (escape_within bs more value n h (escape_long (bs ++ more) value n f) f) ∙ f
    by_tests false false true f = f
    by_tests false false false f = f
