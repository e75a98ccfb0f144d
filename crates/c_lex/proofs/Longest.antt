-- The first piece is the longest that stands first.
use Rattle.std.proofs.Common.{◌≡◌, ℕ, suc, Bool, true, false, List, [], ◌∷◌, ◌++◌, length, refl, sym, subst, arith, cond, Option, Some, None, length-append}
use Rattle.std.specs.Prelude.{◌==◌, ◌&&◌, not, codes}
use Rattle.std.specs.List.{list_all}
use Rattle.std.proofs.lemmas.Bool.Decides.{nat_tests}
use Rattle.c_ast.specs.declared.mark.Mark.{Mark}
use Rattle.c_ast.specs.declared.mark.Mark.TheVariants as mark_of
use Rattle.c_ast.specs.Bytes.{is_blank, is_digit, is_letter, is_word_byte}
use Rattle.c_ast.specs.Literals.{Quoted}
use Rattle.c_ast.specs.Marks.{mark_spelling}
use Rattle.c_ast.specs.Pieces.{Piece, blank, line_comment, block_comment, open_comment, include_line, word, number, character, text, mark, Spells, is_in_line, behind_close}
use Rattle.c_lex.specs.First.{line_len, word_len, first_mark, sized_comment, first_slash, first_include, quoted, sized_character, first_character, sized_string, first_string, first_with, first_piece}
use Rattle.c_lex.proofs.Runs.{run_most, close_before, open_shorter}
use Rattle.c_lex.proofs.Quotes.{quoted_most}
use Rattle.c_lex.proofs.MarkLemmas.{AtLeast, first_mark-most}

letter_alone : (b : ℕ) → is_letter b ≡ true → (is_blank b ≡ false) × (is_word_byte b ≡ true)
letter_alone b h = (grind (arith, nat_tests), grind (arith, nat_tests))

digit_alone : (b : ℕ) → is_digit b ≡ true → (is_blank b ≡ false) × ((is_letter b ≡ false) × (is_word_byte b ≡ true))
digit_alone b h = (grind (arith, nat_tests), (grind (arith, nat_tests), grind (arith, nat_tests)))

both_true : (a b : Bool) → a ≡ true → b ≡ true → (a && b) ≡ true
both_true a b e f = rw (e, f) refl

module _ (clear : Bool) where
  abbrev most_at : Piece → List ℕ → List ℕ → Type 0
  most_at piece more bs = AtLeast piece (length bs) (first_piece clear (bs ++ more))

  first_letter : (b : ℕ) (bs : List ℕ) → is_letter b ≡ true → first_with clear b bs ≡ Some (word, word_len bs)
  first_letter b bs h = rw ((letter_alone b h).0, h) refl

  at_letter : (b : ℕ) (cs more : List ℕ) → is_letter b ≡ true → list_all is_word_byte cs ≡ true → most_at word more (b ∷ cs)
  at_letter b cs more h w =
      subst (AtLeast word (suc (length cs))) (sym (first_letter b (b ∷ cs ++ more) h))
      (run_most is_word_byte (b ∷ cs) more (both_true (is_word_byte b) (list_all is_word_byte cs) (letter_alone b h).1 w), λ _. refl)

  first_digit : (b : ℕ) (bs : List ℕ) → is_digit b ≡ true → first_with clear b bs ≡ Some (number, word_len bs)
  first_digit b bs h = rw ((digit_alone b h).0, (digit_alone b h).1.0, h) refl

  at_digit : (b : ℕ) (cs more : List ℕ) → is_digit b ≡ true → list_all is_word_byte cs ≡ true → most_at number more (b ∷ cs)
  at_digit b cs more h w =
      subst (AtLeast number (suc (length cs))) (sym (first_digit b (b ∷ cs ++ more) h))
      (run_most is_word_byte (b ∷ cs) more (both_true (is_word_byte b) (list_all is_word_byte cs) (digit_alone b h).1.1 w), λ _. refl)

  at_include : (cs more : List ℕ) → is_in_line cs ≡ true → clear ≡ true → most_at include_line more (codes "#include" ++ cs)
  unfolding first_include
  at_include cs more h c =
      let k = run_most (λ b. not (b == 10)) (codes "#include" ++ cs) more h in
      rw c (k, λ _. refl)

  at_line : (cs more : List ℕ) → is_in_line cs ≡ true → most_at line_comment more (codes "//" ++ cs)
  unfolding first_slash
  at_line cs more h = let k = run_most (λ b. not (b == 10)) (codes "//" ++ cs) more h in (k, λ _. refl)

  at_block : (cs more : List ℕ) → behind_close false cs ≡ Some (length cs) → most_at block_comment more (codes "/*" ++ cs)
  unfolding first_slash
  at_block cs more h = rw (close_before false cs more (length cs) h) (omega arith, λ _. refl)

  open_by : (cs more : List ℕ) → behind_close false cs ≡ None → (o : Option ℕ) → behind_close false (cs ++ more) ≡ o →
      AtLeast open_comment (suc (suc (length cs))) (sized_comment (47 ∷ 42 ∷ cs ++ more) o)
  open_by cs more h None e = (omega (arith, length-append cs more), λ _. refl)
  open_by cs more h (Some n) e = let k = open_shorter false cs more n h e in (omega (arith, k), λ same. absurd (omega (arith, k, same)))

  at_open : (cs more : List ℕ) → behind_close false cs ≡ None → most_at open_comment more (codes "/*" ++ cs)
  unfolding first_slash
  at_open cs more h = open_by cs more h (behind_close false (cs ++ more)) refl

  at_character : (value : ℕ) (cs more : List ℕ) → Quoted 39 cs (value ∷ []) → most_at (character value) more (codes "'" ++ cs)
  unfolding first_character quoted
  at_character value cs more q =
      subst (λ o. AtLeast (character value) (suc (length cs)) (sized_character o)) (sym (quoted_most 39 cs (value ∷ []) more q)) (omega arith, λ _. refl)

  at_string : (values cs more : List ℕ) → Quoted 34 cs values → most_at (text values) more (codes "\"" ++ cs)
  unfolding first_string quoted
  at_string values cs more q =
      subst (λ o. AtLeast (text values) (suc (length cs)) (sized_string o)) (sym (quoted_most 34 cs values more q)) (omega arith, λ _. refl)

  -- `/` before another byte
  slash_before : (c : ℕ) (cs : List ℕ) → (s t : Bool) → (c == 47) ≡ s → (c == 42) ≡ t →
      AtLeast (mark mark_of.Slash) 1 (cond s (Some (line_comment, line_len (47 ∷ c ∷ cs))) (cond t (sized_comment (47 ∷ c ∷ cs) (behind_close false cs)) (first_mark (47 ∷ c ∷ cs))))
  slash_before c cs true t e f = let g : (c == 10) ≡ false = grind (arith, nat_tests) in rw g (omega arith, λ same. absurd (omega (arith, same)))
  slash_before c cs false true e f = two_by (behind_close false cs)
    where
      two_by : (o : Option ℕ) → AtLeast (mark mark_of.Slash) 1 (sized_comment (47 ∷ c ∷ cs) o)
      two_by None = (omega arith, λ same. absurd (omega (arith, same)))
      two_by (Some n) = (omega arith, λ same. absurd (omega (arith, same)))
  slash_before c cs false false e f = first_mark-most mark_of.Slash (c ∷ cs)

  at_slash : (more : List ℕ) → most_at (mark mark_of.Slash) more (47 ∷ [])
  unfolding first_slash
  at_slash [] = first_mark-most mark_of.Slash []
  at_slash (c ∷ cs) = slash_before c cs (c == 47) (c == 42) refl refl

  at_divide : (more : List ℕ) → most_at (mark mark_of.DivAssign) more (47 ∷ 61 ∷ [])
  unfolding first_slash
  at_divide more = first_mark-most mark_of.DivAssign more

  at_mark : (m : Mark) (more : List ℕ) → most_at (mark m) more (mark_spelling m)
  at_mark mark_of.Slash more = at_slash more
  at_mark mark_of.DivAssign more = at_divide more
  at_mark mark_of.LeftParen more = first_mark-most mark_of.LeftParen more
  at_mark m more = first_mark-most m more

  pub most : (piece : Piece) (bs more : List ℕ) → Spells clear piece bs → most_at piece more bs
  most blank bs more (b, e, h) = subst (most_at blank more) (sym e) (rw h (omega arith, λ _. refl))
  most line_comment bs more (cs, e, h) = subst (most_at line_comment more) (sym e) (at_line cs more h)
  most block_comment bs more (cs, e, h) = subst (most_at block_comment more) (sym e) (at_block cs more h)
  most open_comment bs more (cs, e, h) = subst (most_at open_comment more) (sym e) (at_open cs more h)
  most include_line bs more (cs, e, h, c) = subst (most_at include_line more) (sym e) (at_include cs more h c)
  most word bs more (b, cs, e, h, w) = subst (most_at word more) (sym e) (at_letter b cs more h w)
  most number bs more (b, cs, e, h, w) = subst (most_at number more) (sym e) (at_digit b cs more h w)
  most (character value) bs more (cs, e, q) = subst (most_at (character value) more) (sym e) (at_character value cs more q)
  most (text values) bs more (cs, e, q) = subst (most_at (text values) more) (sym e) (at_string values cs more q)
  most (mark m) bs more e = subst (most_at (mark m) more) (sym e) (at_mark m more)
