-- What is found first stands first.
use Rattle.std.proofs.Common.{◌≡◌, ℕ, suc, ◌+◌, ◌<◌, ◌≤◌, Bool, true, false, List, [], ◌∷◌, ◌++◌, length, take, drop, ap, refl, sym, ◌∙◌, subst, arith, cond, Option, Some, None}
use Rattle.std.specs.Prelude.{◌==◌, ◌&&◌, not, nat_eq, codes}
use Rattle.std.specs.List.{list_all, prefix_len, starts_with}
use Rattle.std.proofs.Math.Seq.{take-length}
use Rattle.std.proofs.lemmas.Bool.{eqb-true}
use Rattle.std.proofs.lemmas.Bool.Decides.{nat_tests}
use Rattle.std.proofs.lemmas.List.{take-append-drop, length-take-le}
use Rattle.std.proofs.lemmas.Slice.Eq.{bytes_eq-Decides}
use Rattle.std.proofs.lemmas.List.Sums.{prefix_len-le-length}
use Rattle.c_ast.specs.Bytes.{is_blank, is_digit, is_letter, is_word_byte}
use Rattle.c_ast.specs.Pieces.{line_comment, block_comment, include_line, word, number, character, text, behind_close}
use Rattle.c_lex.specs.First.{Sized, line_len, word_len, first_mark, sized_comment, first_slash, first_include, quoted, quoted_behind, sized_character, first_character, sized_string, first_string, first_with, first_piece}
use Rattle.ib_meaning.proofs.Facts.{both_first, both_second}
use Rattle.c_lex.proofs.Runs.{choose, run_passes, close_found}
use Rattle.c_lex.proofs.Quotes.{Values, quoted_found}
use Rattle.c_lex.proofs.MarkLemmas.{StandsFirst, first_mark-stands}

-- a run that begins with a byte that passes
record Run (p : ℕ → Bool) (b : ℕ) (bs : List ℕ) : Type 0 where
  pub len : ℕ
  pub is : prefix_len p (b ∷ bs) ≡ suc len
  pub within : len ≤ length bs
  pub passes : list_all p (take len bs) ≡ true

run_of : (p : ℕ → Bool) (b : ℕ) (bs : List ℕ) → p b ≡ true → Run p b bs
run_of p b bs h = record {
  len = prefix_len p bs;
  is = rw h (omega arith);
  within = prefix_len-le-length p bs;
  passes = run_passes p bs;
}

letter_word : (b : ℕ) → is_letter b ≡ true → is_word_byte b ≡ true
letter_word b h = grind (arith, nat_tests)

digit_word : (b : ℕ) → is_digit b ≡ true → is_word_byte b ≡ true
digit_word b h = grind (arith, nat_tests)

module _ (clear : Bool) where
  word_stands : (b : ℕ) (bs : List ℕ) → is_letter b ≡ true → StandsFirst clear (b ∷ bs) (Some (word, word_len (b ∷ bs)))
  word_stands b bs h = let r = run_of is_word_byte b bs (letter_word b h) in let w = r.within in
      subst (λ n. StandsFirst clear (b ∷ bs) (Some (word, n))) (sym r.is) (omega arith, omega (arith, w), (b, take r.len bs, refl, h, r.passes))

  number_stands : (b : ℕ) (bs : List ℕ) → is_digit b ≡ true → StandsFirst clear (b ∷ bs) (Some (number, word_len (b ∷ bs)))
  number_stands b bs h = let r = run_of is_word_byte b bs (digit_word b h) in let w = r.within in
      subst (λ n. StandsFirst clear (b ∷ bs) (Some (number, n))) (sym r.is) (omega arith, omega (arith, w), (b, take r.len bs, refl, h, r.passes))

  line_stands : (cs : List ℕ) → StandsFirst clear (47 ∷ 47 ∷ cs) (Some (line_comment, line_len (47 ∷ 47 ∷ cs)))
  line_stands cs =
      let n = line_len cs in
      let e : line_len (47 ∷ 47 ∷ cs) ≡ suc (suc (line_len cs)) = omega arith in
      let w : line_len cs ≤ length cs = prefix_len-le-length (λ b. not (b == 10)) cs in
      subst (λ k. StandsFirst clear (47 ∷ 47 ∷ cs) (Some (line_comment, k))) (sym e)
      (omega arith, omega (arith, w), (take (line_len cs) cs, refl, run_passes (λ b. not (b == 10)) cs))

  comment_stands : (cs : List ℕ) (o : Option ℕ) → behind_close false cs ≡ o → StandsFirst clear (47 ∷ 42 ∷ cs) (sized_comment (47 ∷ 42 ∷ cs) o)
  comment_stands cs None e =
      (omega arith, omega arith, (cs, take-length (47 ∷ 42 ∷ cs), e))
  comment_stands cs (Some n) e =
      let c = close_found false cs n e in
      let w = c.within in
      let two : n + 2 ≡ suc (suc n) = omega arith in
      subst (λ k. StandsFirst clear (47 ∷ 42 ∷ cs) (Some (block_comment, k))) (sym two)
      (omega arith, omega (arith, w), (take n cs, refl, c.ends ∙ ap Some (sym (length-take-le n cs w))))

  slash_before : (c : ℕ) (cs : List ℕ) (s t : Bool) → (c == 47) ≡ s → (c == 42) ≡ t →
      StandsFirst clear (47 ∷ c ∷ cs) (cond s (Some (line_comment, line_len (47 ∷ c ∷ cs))) (cond t (sized_comment (47 ∷ c ∷ cs) (behind_close false cs)) (first_mark (47 ∷ c ∷ cs))))
  slash_before c cs true t e f = subst (λ x. StandsFirst clear (47 ∷ x ∷ cs) (Some (line_comment, line_len (47 ∷ x ∷ cs)))) (sym (eqb-true c 47 e)) (line_stands cs)
  slash_before c cs false true e f = subst (λ x. StandsFirst clear (47 ∷ x ∷ cs) (sized_comment (47 ∷ x ∷ cs) (behind_close false cs))) (sym (eqb-true c 42 f)) (comment_stands cs (behind_close false cs) refl)
  slash_before c cs false false e f = first_mark-stands clear (47 ∷ c ∷ cs)

  slash_stands : (bs : List ℕ) → StandsFirst clear (47 ∷ bs) (first_slash (47 ∷ bs))
  unfolding first_slash
  slash_stands [] = first_mark-stands clear (47 ∷ [])
  slash_stands (c ∷ cs) = slash_before c cs (c == 47) (c == 42) refl refl

  include_of : (cs : List ℕ) → clear ≡ true → StandsFirst clear (codes "#include" ++ cs) (Some (include_line, line_len (codes "#include" ++ cs)))
  include_of cs c =
      let e : line_len (codes "#include" ++ cs) ≡ suc (suc (suc (suc (suc (suc (suc (suc (line_len cs)))))))) = omega arith in
      let w : line_len cs ≤ length cs = prefix_len-le-length (λ b. not (b == 10)) cs in
      subst (λ k. StandsFirst clear (codes "#include" ++ cs) (Some (include_line, k))) (sym e)
      (omega arith, omega (arith, w), (take (line_len cs) cs, refl, run_passes (λ b. not (b == 10)) cs, c))

  include_stands : (bs : List ℕ) → StandsFirst clear bs (first_include clear bs)
  unfolding first_include
  include_stands bs = by_test (clear && starts_with nat_eq bs (codes "#include")) refl
    where
      by_test : (t : Bool) → (clear && starts_with nat_eq bs (codes "#include")) ≡ t → StandsFirst clear bs (cond t (Some (include_line, line_len bs)) None)
      by_test true e =
          let begins : take 8 bs ≡ codes "#include" = sym ((bytes_eq-Decides (codes "#include") (take 8 bs)).0 (both_second clear (starts_with nat_eq bs (codes "#include")) e)) in
          let whole : codes "#include" ++ drop 8 bs ≡ bs = ap (λ xs. xs ++ drop 8 bs) (sym begins) ∙ take-append-drop 8 bs in
          subst (λ xs. StandsFirst clear xs (Some (include_line, line_len xs))) whole (include_of (drop 8 bs) (both_first clear (starts_with nat_eq bs (codes "#include")) e))
      by_test false e = tt

  character_stands : (bs : List ℕ) → StandsFirst clear (39 ∷ bs) (first_character (39 ∷ bs))
  unfolding first_character quoted
  character_stands bs = by_values (quoted_behind 39 0 bs) refl
    where
      by_values : (o : Values) → quoted_behind 39 0 bs ≡ o → StandsFirst clear (39 ∷ bs) (sized_character o)
      by_values None e = tt
      by_values (Some ([], n)) e = tt
      by_values (Some (value ∷ [], n)) e =
          let found = quoted_found 39 bs (value ∷ []) n e in
          let w = found.within in
          let one : n + 1 ≡ suc n = omega arith in
          subst (λ k. StandsFirst clear (39 ∷ bs) (Some (character value, k))) (sym one) (omega arith, omega (arith, w), (take n bs, refl, found.quoted))
      by_values (Some (value ∷ other ∷ more, n)) e = tt

  string_stands : (bs : List ℕ) → StandsFirst clear (34 ∷ bs) (first_string (34 ∷ bs))
  unfolding first_string quoted
  string_stands bs = by_values (quoted_behind 34 0 bs) refl
    where
      by_values : (o : Values) → quoted_behind 34 0 bs ≡ o → StandsFirst clear (34 ∷ bs) (sized_string o)
      by_values None e = tt
      by_values (Some (values, n)) e =
          let found = quoted_found 34 bs values n e in
          let w = found.within in
          let one : n + 1 ≡ suc n = omega arith in
          subst (λ k. StandsFirst clear (34 ∷ bs) (Some (text values, k))) (sym one) (omega arith, omega (arith, w), (take n bs, refl, found.quoted))

  abbrev at_byte : ℕ → List ℕ → Sized → Type 0
  at_byte b bs o = StandsFirst clear (b ∷ bs) o

  first_stands_at : (b : ℕ) (bs : List ℕ) → StandsFirst clear (b ∷ bs) (first_with clear b (b ∷ bs))
  first_stands_at b bs =
      choose (at_byte b bs) (is_blank b) _ _ (λ h. (omega arith, omega arith, (b, refl, h))) (λ _.
      choose (at_byte b bs) (is_letter b) _ _ (λ h. word_stands b bs h) (λ _.
      choose (at_byte b bs) (is_digit b) _ _ (λ h. number_stands b bs h) (λ _.
      choose (at_byte b bs) (b == 39) _ _ (λ h. subst (λ x. at_byte x bs (first_character (x ∷ bs))) (sym (eqb-true b 39 h)) (character_stands bs)) (λ _.
      choose (at_byte b bs) (b == 34) _ _ (λ h. subst (λ x. at_byte x bs (first_string (x ∷ bs))) (sym (eqb-true b 34 h)) (string_stands bs)) (λ _.
      choose (at_byte b bs) (b == 35) _ _ (λ h. include_stands (b ∷ bs)) (λ _.
      choose (at_byte b bs) (b == 47) _ _ (λ h. subst (λ x. at_byte x bs (first_slash (x ∷ bs))) (sym (eqb-true b 47 h)) (slash_stands bs)) (λ _.
      first_mark-stands clear (b ∷ bs))))))))

  pub first_stands : (bs : List ℕ) → 0 < length bs → StandsFirst clear bs (first_piece clear bs)
  first_stands [] h = absurd (omega (arith, h))
  first_stands (b ∷ bs) h = first_stands_at b bs
