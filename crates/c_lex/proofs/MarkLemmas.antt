-- The longest mark that stands first.
use Rattle.std.proofs.Common.{◌≡◌, ℕ, zero, suc, ◌≤◌, lit≤, Bool, true, false, List, ◌++◌, length, take, ap, refl, sym, ◌∙◌, subst, arith, cond, Option, Some, None, bytes_eq, length-append}
use Rattle.std.specs.Prelude.{nat_le}
use Rattle.std.proofs.Math.Seq.{take-append_seam}
use Rattle.std.proofs.lemmas.Bool.Decides.{nat_tests}
use Rattle.std.proofs.lemmas.Slice.Eq.{bytes_eq-Decides}
use Rattle.c_ast.specs.declared.mark.Mark.{Mark}
use Rattle.c_ast.specs.declared.mark.Mark.TheVariants as mark
use Rattle.c_ast.specs.Marks.{mark_spelling, mark_spelled, all_marks}
use Rattle.c_ast.specs.Pieces.{Piece, mark as mark_piece, Spells}
use Rattle.c_lex.specs.First.{Sized, mark_at, sized_mark, first_mark}
use Rattle.c_lex.proofs.Runs.{found_passes}

-- the first piece has at least n bytes, and is this one if it has n
abbrev pub AtLeast : Piece → ℕ → Sized → Type 0
AtLeast piece n None = ⊥
AtLeast piece n (Some (other, k)) = (n ≤ k) × (n ≡ k → piece ≡ other)

-- the first piece stands first
abbrev pub StandsFirst : Bool → List ℕ → Sized → Type 0
StandsFirst clear source None = Unit {0}
StandsFirst clear source (Some (piece, n)) = (1 ≤ n) × (n ≤ length source) × Spells clear piece (take n source)

spelled_known : (m : Mark) → mark_spelled (mark_spelling m) ≡ Some m
unfolding mark_spelled
spelled_known mark.LeftParen = refl
spelled_known _ = refl

pub lengths : (m : Mark) → (1 ≤ length (mark_spelling m)) × (length (mark_spelling m) ≤ 3)
lengths mark.LeftParen = (lit≤ tt, lit≤ tt)
lengths _ = (lit≤ tt, lit≤ tt)

-- a mark is found at the front by its length
found_there : (m : Mark) (more : List ℕ) → mark_at (length (mark_spelling m)) (mark_spelling m ++ more) ≡ Some m
found_there m more =
    let fits : nat_le (length (mark_spelling m)) (length (mark_spelling m ++ more)) ≡ true = let k = length-append (mark_spelling m) more in grind (arith, nat_tests) in
    ap (λ t. cond t (mark_spelled (take (length (mark_spelling m)) (mark_spelling m ++ more))) None) fits
    ∙ ap mark_spelled (take-append_seam (mark_spelling m) more) ∙ spelled_known m

module _ (m : Mark) (bs : List ℕ) where
  three : mark_at 3 bs ≡ Some m → AtLeast (mark_piece m) 3 (first_mark bs)
  unfolding first_mark
  three e = subst (λ o. AtLeast (mark_piece m) 3 (sized_mark o 3 (sized_mark (mark_at 2 bs) 2 (sized_mark (mark_at 1 bs) 1 None)))) (sym e) (omega arith, λ _. refl)

  two_by : (o : Option Mark) → AtLeast (mark_piece m) 2 (sized_mark o 3 (Some (mark_piece m, 2)))
  two_by (Some k) = (omega arith, λ e. absurd (omega (arith, e)))
  two_by None = (omega arith, λ _. refl)

  two : mark_at 2 bs ≡ Some m → AtLeast (mark_piece m) 2 (first_mark bs)
  unfolding first_mark
  two e = subst (λ o. AtLeast (mark_piece m) 2 (sized_mark (mark_at 3 bs) 3 (sized_mark o 2 (sized_mark (mark_at 1 bs) 1 None)))) (sym e) (two_by (mark_at 3 bs))

  one_by : (o q : Option Mark) → AtLeast (mark_piece m) 1 (sized_mark o 3 (sized_mark q 2 (Some (mark_piece m, 1))))
  one_by (Some k) q = (omega arith, λ e. absurd (omega (arith, e)))
  one_by None (Some k) = (omega arith, λ e. absurd (omega (arith, e)))
  one_by None None = (omega arith, λ _. refl)

  one : mark_at 1 bs ≡ Some m → AtLeast (mark_piece m) 1 (first_mark bs)
  unfolding first_mark
  one e = subst (λ o. AtLeast (mark_piece m) 1 (sized_mark (mark_at 3 bs) 3 (sized_mark (mark_at 2 bs) 2 (sized_mark o 1 None)))) (sym e) (one_by (mark_at 3 bs) (mark_at 2 bs))

  by_length : (n : ℕ) → 1 ≤ n → n ≤ 3 → mark_at n bs ≡ Some m → AtLeast (mark_piece m) n (first_mark bs)
  by_length zero low high e = absurd (omega (arith, low))
  by_length (suc zero) low high e = one e
  by_length (suc (suc zero)) low high e = two e
  by_length (suc (suc (suc zero))) low high e = three e
  by_length (suc (suc (suc (suc n)))) low high e = absurd (omega (arith, high))

pub first_mark-most : (m : Mark) (more : List ℕ) → AtLeast (mark_piece m) (length (mark_spelling m)) (first_mark (mark_spelling m ++ more))
first_mark-most m more = by_length m (mark_spelling m ++ more) (length (mark_spelling m)) (lengths m).0 (lengths m).1 (found_there m more)

spelled_spells : (bs : List ℕ) (m : Mark) → mark_spelled bs ≡ Some m → bs ≡ mark_spelling m
unfolding mark_spelled
spelled_spells bs m e = sym ((bytes_eq-Decides (mark_spelling m) bs).0 (found_passes (λ k. bytes_eq (mark_spelling k) bs) all_marks m e))

mark_stands : (clear : Bool) (bs : List ℕ) (n : ℕ) (m : Mark) → 1 ≤ n → mark_at n bs ≡ Some m → StandsFirst clear bs (Some (mark_piece m, n))
mark_stands clear bs n m some e = by_test (nat_le n (length bs)) refl e
  where
    by_test : (t : Bool) → nat_le n (length bs) ≡ t → cond t (mark_spelled (take n bs)) None ≡ Some m → StandsFirst clear bs (Some (mark_piece m, n))
    by_test true t f = (some, grind (arith, nat_tests), spelled_spells (take n bs) m f)
    by_test false t f = cc

pub first_mark-stands : (clear : Bool) (bs : List ℕ) → StandsFirst clear bs (first_mark bs)
unfolding first_mark
first_mark-stands clear bs = by_marks (mark_at 3 bs) (mark_at 2 bs) (mark_at 1 bs) refl refl refl
  where
    by_marks : (o q r : Option Mark) → mark_at 3 bs ≡ o → mark_at 2 bs ≡ q → mark_at 1 bs ≡ r → StandsFirst clear bs (sized_mark o 3 (sized_mark q 2 (sized_mark r 1 None)))
    by_marks (Some m) q r e f g = mark_stands clear bs 3 m (lit≤ tt) e
    by_marks None (Some m) r e f g = mark_stands clear bs 2 m (lit≤ tt) f
    by_marks None None (Some m) e f g = mark_stands clear bs 1 m (lit≤ tt) g
    by_marks None None None e f g = tt
