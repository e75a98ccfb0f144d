-- The first rule that is broken, found part by part.
use Rattle.std.proofs.Common.{◌≡◌, ℕ, suc, ◌+◌, ◌<◌, ◌≤◌, Bool, true, false, is_some, List, [], ◌∷◌, ◌++◌, length, take, drop, get_or, Option, Some, None, slice_get, nat_eq, nat_le, zero, refl, sym, ap, ◌∙◌, arith, append_assoc}
use Rattle.std.specs.List.{list_any}
use Rattle.std.proofs.lemmas.List.{at_drop_more, take_more}
use Rattle.std.proofs.lemmas.Bool.Decides.{nat_tests}
use Rattle.wide_core.specs.declared.code.WideOp.{WideOp}
use Rattle.wide_core.specs.declared.code.Word.{Word}
use Rattle.wide_core.specs.declared.code.WideFunc.{WideFunc}
use Rattle.wide_core.specs.declared.code.RawCode.{RawCode}
use Rattle.wide_core.specs.declared.rule.BrokenRule.{BrokenRule}
use Rattle.wide_core.specs.Valid.{Limits, Scope, broken, rules_of_op, is_last, lines_of_words, numbers_in, numbers_of, of_ops, of_word, of_words, lines_of_func, lines_of_funcs, of_func, of_funcs, broken_rules, first_func_line, image_line, is_entry, notes_line, rule}

pub none_of : (first : Option BrokenRule) → is_some first ≡ false → first ≡ None
none_of None e = refl
none_of (Some b) e = cc

-- the first of two parts that has one
pub found_here : (first : Option BrokenRule) (xs ys : List BrokenRule) → first ≡ slice_get xs 0 → is_some first ≡ true → first ≡ slice_get (xs ++ ys) 0
found_here None xs ys is e = cc
found_here (Some b) [] ys is e = cc
found_here (Some b) (x ∷ xs) ys is e = is

pub found_later : (first : Option BrokenRule) (xs ys : List BrokenRule) → first ≡ slice_get xs 0 → is_some first ≡ false → slice_get (xs ++ ys) 0 ≡ slice_get ys 0
found_later (Some b) xs ys is e = cc
found_later None [] ys is e = refl
found_later None (x ∷ xs) ys is e = cc

module _ (scope : Scope) (numbers : List ℕ) (ops : List WideOp) (i line : ℕ) (op : WideOp) (lt : i < length ops) (is : op ≡ get_or ops i op) (first : Option BrokenRule) (first_is : first ≡ slice_get (broken line (rules_of_op scope numbers (take i ops) op)) 0) where
  ops_at : of_ops scope numbers (take i ops) line (drop i ops) ≡ broken line (rules_of_op scope numbers (take i ops) op) ++ of_ops scope (numbers ++ op.number ∷ []) (take (i + 1) ops) (suc line) (drop (i + 1) ops)
  ops_at =
      at_drop_more (of_ops scope numbers (take i ops) line) ops i op lt
      ∙ ap (λ (o : WideOp). of_ops scope numbers (take i ops) line (o ∷ drop (i + 1) ops)) (sym is)
      ∙ ap (λ earlier. broken line (rules_of_op scope numbers (take i ops) op) ++ of_ops scope (numbers ++ op.number ∷ []) earlier (suc line) (drop (i + 1) ops))
      (ap (λ (o : WideOp). take i ops ++ o ∷ []) is ∙ sym (take_more ops i op lt))

  pub op_found : is_some first ≡ true → first ≡ slice_get (of_ops scope numbers (take i ops) line (drop i ops)) 0
  op_found e = found_here first _ _ first_is e ∙ ap (λ bs. slice_get bs 0) (sym ops_at)

  pub op_passed : (next : List ℕ) (below : ℕ) → is_some first ≡ false → next ≡ numbers ++ op.number ∷ [] → below ≡ suc line
      → slice_get (of_ops scope next (take (i + 1) ops) below (drop (i + 1) ops)) 0 ≡ slice_get (of_ops scope numbers (take i ops) line (drop i ops)) 0
  op_passed next below e next_is below_is =
      ap (λ ns. slice_get (of_ops scope ns (take (i + 1) ops) below (drop (i + 1) ops)) 0) next_is
      ∙ ap (λ l. slice_get (of_ops scope (numbers ++ op.number ∷ []) (take (i + 1) ops) l (drop (i + 1) ops)) 0) below_is
      ∙ sym (found_later first _ _ first_is e)
      ∙ ap (λ bs. slice_get bs 0) (sym ops_at)

  pub op_numbers : (next : List ℕ) → next ≡ numbers ++ op.number ∷ [] → next ++ numbers_of (drop (i + 1) ops) ≡ numbers ++ numbers_of (drop i ops)
  op_numbers next next_is =
      ap (λ ns. ns ++ numbers_of (drop (i + 1) ops)) next_is
      ∙ append_assoc numbers (op.number ∷ []) (numbers_of (drop (i + 1) ops))
      ∙ ap (λ (o : WideOp). numbers ++ o.number ∷ numbers_of (drop (i + 1) ops)) is
      ∙ ap (λ ns. numbers ++ ns) (sym (at_drop_more numbers_of ops i op lt))

-- the last word is the one behind which there is none
last_drop : (words : List Word) (j : ℕ) → j ≤ length words → is_last (drop j words) ≡ nat_eq j (length words)
last_drop [] zero le = refl
last_drop [] (suc j) le = absurd (omega arith)
last_drop (word ∷ words) zero le = grind (arith, nat_tests)
last_drop (word ∷ words) (suc j) le = last_drop words j (omega arith) ∙ grind (arith, nat_tests)

module _ (limits : Limits) (scope : Scope) (numbers : List ℕ) (words : List Word) (i line : ℕ) (word : Word) (ops : List WideOp) (lt : i < length words) (is : ops ≡ (get_or words i word).ops) (last : Bool) (last_is : last ≡ nat_eq (i + 1) (length words)) (first : Option BrokenRule) (first_is : first ≡ slice_get (of_word limits scope numbers line last ops) 0) where
  words_at : of_words limits scope numbers line (drop i words) ≡ of_word limits scope numbers line last ops ++ of_words limits scope (numbers ++ numbers_of ops) (line + suc (length ops)) (drop (i + 1) words)
  words_at =
      at_drop_more (of_words limits scope numbers line) words i word lt
      ∙ ap (λ os. of_word limits scope numbers line (is_last (drop (i + 1) words)) os ++ of_words limits scope (numbers ++ numbers_of os) (line + suc (length os)) (drop (i + 1) words)) (sym is)
      ∙ ap (λ b. of_word limits scope numbers line b ops ++ of_words limits scope (numbers ++ numbers_of ops) (line + suc (length ops)) (drop (i + 1) words))
      (last_drop words (i + 1) (omega arith) ∙ sym last_is)

  pub word_found : is_some first ≡ true → first ≡ slice_get (of_words limits scope numbers line (drop i words)) 0
  word_found e = found_here first _ _ first_is e ∙ ap (λ bs. slice_get bs 0) (sym words_at)

  pub word_passed : (next : List ℕ) (below : ℕ) → is_some first ≡ false → next ≡ numbers ++ numbers_of ops → below ≡ line + suc (length ops)
      → slice_get (of_words limits scope next below (drop (i + 1) words)) 0 ≡ slice_get (of_words limits scope numbers line (drop i words)) 0
  word_passed next below e next_is below_is =
      ap (λ ns. slice_get (of_words limits scope ns below (drop (i + 1) words)) 0) next_is
      ∙ ap (λ l. slice_get (of_words limits scope (numbers ++ numbers_of ops) l (drop (i + 1) words)) 0) below_is
      ∙ sym (found_later first _ _ first_is e)
      ∙ ap (λ bs. slice_get bs 0) (sym words_at)

module _ (words : List Word) (i : ℕ) (word : Word) (ops : List WideOp) (lt : i < length words) (is : ops ≡ (get_or words i word).ops) where
  pub word_numbers : (numbers next : List ℕ) → next ≡ numbers ++ numbers_of ops → next ++ numbers_in (drop (i + 1) words) ≡ numbers ++ numbers_in (drop i words)
  word_numbers numbers next next_is =
      ap (λ ns. ns ++ numbers_in (drop (i + 1) words)) next_is
      ∙ append_assoc numbers (numbers_of ops) (numbers_in (drop (i + 1) words))
      ∙ ap (λ os. numbers ++ (numbers_of os ++ numbers_in (drop (i + 1) words))) is
      ∙ ap (λ ns. numbers ++ ns) (sym (at_drop_more numbers_in words i word lt))

  -- the lines that are left
  pub word_lines : lines_of_words (drop i words) ≡ suc (length ops) + lines_of_words (drop (i + 1) words)
  word_lines =
      at_drop_more lines_of_words words i word lt ∙ ap (λ os. suc (length os) + lines_of_words (drop (i + 1) words)) (sym is)

module _ (limits : Limits) (all : List WideFunc) (names : List (List ℕ)) (numbers : List ℕ) (funcs : List WideFunc) (i line : ℕ) (func : WideFunc) (lt : i < length funcs) (is : func ≡ get_or funcs i func) (first : Option BrokenRule) (first_is : first ≡ slice_get (of_func limits all names numbers line func) 0) where
  funcs_at : of_funcs limits all names numbers line (drop i funcs) ≡ of_func limits all names numbers line func ++ of_funcs limits all (names ++ func.name ∷ []) (numbers ++ numbers_in func.words) (line + lines_of_func func) (drop (i + 1) funcs)
  funcs_at =
      at_drop_more (of_funcs limits all names numbers line) funcs i func lt
      ∙ ap (λ (f : WideFunc). of_funcs limits all names numbers line (f ∷ drop (i + 1) funcs)) (sym is)

  pub func_found : is_some first ≡ true → first ≡ slice_get (of_funcs limits all names numbers line (drop i funcs)) 0
  func_found e = found_here first _ _ first_is e ∙ ap (λ bs. slice_get bs 0) (sym funcs_at)

  pub func_passed : (next_names : List (List ℕ)) (next : List ℕ) (below : ℕ) → is_some first ≡ false → next_names ≡ names ++ func.name ∷ [] → next ≡ numbers ++ numbers_in func.words → below ≡ line + lines_of_func func
      → slice_get (of_funcs limits all next_names next below (drop (i + 1) funcs)) 0 ≡ slice_get (of_funcs limits all names numbers line (drop i funcs)) 0
  func_passed next_names next below e names_is next_is below_is =
      ap (λ ns. slice_get (of_funcs limits all ns next below (drop (i + 1) funcs)) 0) names_is
      ∙ ap (λ ns. slice_get (of_funcs limits all (names ++ func.name ∷ []) ns below (drop (i + 1) funcs)) 0) next_is
      ∙ ap (λ l. slice_get (of_funcs limits all (names ++ func.name ∷ []) (numbers ++ numbers_in func.words) l (drop (i + 1) funcs)) 0) below_is
      ∙ sym (found_later first _ _ first_is e)
      ∙ ap (λ bs. slice_get bs 0) (sym funcs_at)

pub func_lines : (funcs : List WideFunc) (i : ℕ) (func : WideFunc) → i < length funcs → func ≡ get_or funcs i func → lines_of_funcs (drop i funcs) ≡ lines_of_func func + lines_of_funcs (drop (i + 1) funcs)
func_lines funcs i func lt is =
    at_drop_more lines_of_funcs funcs i func lt ∙ ap (λ (f : WideFunc). lines_of_func f + lines_of_funcs (drop (i + 1) funcs)) (sym is)

-- of three parts
module _ (xs ys zs : List BrokenRule) (a b c : Option BrokenRule) (a_is : a ≡ slice_get xs 0) where
  pub first_of_three : is_some a ≡ true → a ≡ slice_get (xs ++ ys ++ zs) 0
  first_of_three e = found_here a (xs ++ ys) zs (found_here a xs ys a_is e) e

  module _ (no_first : is_some a ≡ false) (b_is : b ≡ slice_get ys 0) where
    both : b ≡ slice_get (xs ++ ys) 0
    both = b_is ∙ sym (found_later a xs ys a_is no_first)

    pub second_of_three : is_some b ≡ true → b ≡ slice_get (xs ++ ys ++ zs) 0
    second_of_three e = found_here b (xs ++ ys) zs both e

    pub third_of_three : is_some b ≡ false → c ≡ slice_get zs 0 → c ≡ slice_get (xs ++ ys ++ zs) 0
    third_of_three no_second c_is = c_is ∙ sym (found_later b (xs ++ ys) zs both no_second)

module _ (limits : Limits) (code : RawCode) where
  abbrev in_image : List BrokenRule
  in_image = broken image_line (rule 9 (nat_le (length code.image) 524288) ∷ [])

  abbrev in_funcs : List BrokenRule
  in_funcs = of_funcs limits code.funcs [] [] (first_func_line code) code.funcs

  abbrev in_notes : List BrokenRule
  in_notes = broken (notes_line code) (rule 8 (list_any is_entry code.funcs) ∷ [])

  module _ (a b c : Option BrokenRule) (a_is : a ≡ slice_get in_image 0) where
    pub image_broken : is_some a ≡ true → a ≡ slice_get (broken_rules limits code) 0
    unfolding broken_rules
    image_broken = first_of_three in_image in_funcs in_notes a b c a_is

    pub func_broken : is_some a ≡ false → b ≡ slice_get in_funcs 0 → is_some b ≡ true → b ≡ slice_get (broken_rules limits code) 0
    unfolding broken_rules
    func_broken = second_of_three in_image in_funcs in_notes a b c a_is

    pub notes_broken : is_some a ≡ false → b ≡ slice_get in_funcs 0 → is_some b ≡ false → c ≡ slice_get in_notes 0 → c ≡ slice_get (broken_rules limits code) 0
    unfolding broken_rules
    notes_broken = third_of_three in_image in_funcs in_notes a b c a_is
