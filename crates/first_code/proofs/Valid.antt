-- The code of a program keeps every rule of the machine with four operations in a word.
use Rattle.std.proofs.Common.{◌≡◌, ℕ, suc, ◌+◌, ◌≤◌, ◌==◌, nat_lt, nat_le, Bool, true, false, ◌||◌, List, [], ◌∷◌, ◌++◌, length, refl, ap, ◌∙◌, arith}
use Rattle.std.specs.List.{list_all, list_any}
use Rattle.std.proofs.lemmas.Bool.Decides.{nat_tests}
use Rattle.ib_meaning.specs.declared.place.Place.{Place}
use Rattle.machine_desc.specs.declared.machine.OpClass.{OpClass}
use Rattle.machine_desc.specs.declared.machine.OpClass.TheVariants.{Alu, Mul, Mem, Io, Control}
use Rattle.machine_desc.specs.Machine.{four_units}
use Rattle.wide_core.specs.declared.code.WideAct.{WideAct}
use Rattle.wide_core.specs.declared.code.WideAct.TheVariants.{Do, Spill, Reload, Check, Jump, Branch, BranchZero, Call, Return}
use Rattle.wide_core.specs.declared.code.WideFunc.{WideFunc}
use Rattle.wide_core.specs.declared.code.WideOp.{WideOp}
use Rattle.wide_core.specs.declared.code.Word.{Word}
use Rattle.wide_core.specs.Classes.{class_of}
use Rattle.wide_core.specs.Cycle.{touched}
use Rattle.wide_core.specs.Valid.{Limits, IsValid, Scope, broken, broken_rules, calls_well, fits_word, goes_within, has_good_number, is_last, is_within, limits, of_ops, of_word, of_words, rules_of_op, rules_of_word}
use Rattle.wide_core.proofs.Both.{both_first, both_second}
use Rattle.first_code.specs.Code.{main_code}
use Rattle.first_code.proofs.Shows.{op_of}
use Rattle.first_code.proofs.Straight.{ActFits, Straight, LastWord, NextWord, is_straight, some_words}

abbrev pub four : Limits
four = limits 4 32 four_units

-- what an operation of a straight word may name
abbrev scope : (slots words : ℕ) → List WideFunc → Scope
scope slots words funcs = record { regs = 32; slots = slots; words = words; funcs = funcs }

-- ---- numbers

-- the numbers before this one are other numbers than those from it on
record AreBefore (number : ℕ) (numbers : List ℕ) : Type 0 where
  other : (m : ℕ) → number ≤ m → list_any (λ n. m == n) numbers ≡ false

none_yet : AreBefore 1 []
none_yet = record { other = λ m le. refl }

greater : (m n : ℕ) → suc n ≤ m → (m == n) ≡ false
greater m n h = grind (arith, nat_tests)

any_last : (m n : ℕ) (numbers : List ℕ) → list_any (λ k. m == k) numbers ≡ false → (m == n) ≡ false → list_any (λ k. m == k) (numbers ++ n ∷ []) ≡ false
any_last m n [] none other = rw other refl
any_last m n (k ∷ ks) none other = by_one (m == k) none (any_last m n ks)
  where
    by_one : (b : Bool) → (b || list_any (λ j. m == j) ks) ≡ false → (list_any (λ j. m == j) ks ≡ false → (m == n) ≡ false → list_any (λ j. m == j) (ks ++ n ∷ []) ≡ false) → (b || list_any (λ j. m == j) (ks ++ n ∷ [])) ≡ false
    by_one true h rest = cc
    by_one false h rest = rest h other

one_more : (number : ℕ) (numbers : List ℕ) → AreBefore number numbers → AreBefore (suc number) (numbers ++ number ∷ [])
one_more number numbers before = record { other = λ m le. any_last m number numbers (before.other m (omega arith)) (greater m number le) }

-- ---- one operation

straight_goes : (words : ℕ) (act : WideAct) → is_straight act ≡ true → goes_within words act ≡ true
straight_goes words (Do act) e = refl
straight_goes words (Spill to from) e = refl
straight_goes words (Reload to from) e = refl
straight_goes words (Check from) e = refl
straight_goes words (Jump to) e = cc
straight_goes words (Branch from to) e = cc
straight_goes words (BranchZero from to) e = cc
straight_goes words (Call result func next args) e = cc
straight_goes words (Return from) e = refl

straight_calls : (funcs : List WideFunc) (act : WideAct) → is_straight act ≡ true → calls_well funcs act ≡ true
straight_calls funcs (Call result func next args) e = cc
straight_calls funcs (Do act) e = refl
straight_calls funcs (Spill to from) e = refl
straight_calls funcs (Reload to from) e = refl
straight_calls funcs (Check from) e = refl
straight_calls funcs (Jump to) e = refl
straight_calls funcs (Branch from to) e = refl
straight_calls funcs (BranchZero from to) e = refl
straight_calls funcs (Return from) e = refl

straight_number : (act : WideAct) → is_straight act ≡ true → has_good_number act ≡ true
straight_number (Do act) e = e
straight_number (Call result func next args) e = refl
straight_number (Spill to from) e = refl
straight_number (Reload to from) e = refl
straight_number (Check from) e = refl
straight_number (Jump to) e = refl
straight_number (Branch from to) e = refl
straight_number (BranchZero from to) e = refl
straight_number (Return from) e = refl

positive : (number : ℕ) → 1 ≤ number → nat_lt 0 number ≡ true
positive number h = grind (arith, nat_tests)

op_valid : (slots words : ℕ) (funcs : List WideFunc) (numbers : List ℕ) (line number : ℕ) (place : Place) (act : WideAct) → 1 ≤ number → AreBefore number numbers → ActFits slots act → broken line (rules_of_op (scope slots words funcs) numbers [] (op_of number place act)) ≡ []
op_valid slots words funcs numbers line number place act some before fits =
    let within = both_first (list_all (is_within 32 slots) (touched act)) (is_straight act) fits in
    let straight = both_second (list_all (is_within 32 slots) (touched act)) (is_straight act) fits in
    rw (within, straight_goes words act straight, straight_calls funcs act straight, positive number some, before.other number (omega arith), straight_number act straight) refl

-- ---- one word

one_fits : (op : WideOp) → fits_word four (op ∷ []) ≡ true
one_fits op = by_class (class_of op.act) refl
  where
    by_class : (class : OpClass) → class_of op.act ≡ class → fits_word four (op ∷ []) ≡ true
    by_class Alu e = rw e refl
    by_class Mul e = rw e refl
    by_class Mem e = rw e refl
    by_class Io e = rw e refl
    by_class Control e = rw e refl

two_empty : {T : Type 0} (xs ys : List T) → xs ≡ [] → ys ≡ [] → xs ++ ys ≡ []
two_empty [] ys e f = f
two_empty (x ∷ xs) ys e f = cc

not_last : (slots number : ℕ) (words : List Word) → Straight slots number words → is_last words ≡ false
not_last slots _ _ (LastWord number place from f) = refl
not_last slots _ _ (NextWord number place act rest f h) = refl

module _ (slots words : ℕ) (funcs : List WideFunc) where
  one_valid : (numbers : List ℕ) (line number : ℕ) (place : Place) (act : WideAct) → 1 ≤ number → AreBefore number numbers → ActFits slots act → of_ops (scope slots words funcs) numbers [] line (op_of number place act ∷ []) ≡ []
  one_valid numbers line number place act some before fits =
      two_empty (broken line (rules_of_op (scope slots words funcs) numbers [] (op_of number place act))) [] (op_valid slots words funcs numbers line number place act some before fits) refl

  middle_valid : (numbers : List ℕ) (line number : ℕ) (place : Place) (act : WideAct) → 1 ≤ number → AreBefore number numbers → ActFits slots act → of_word four (scope slots words funcs) numbers line false (op_of number place act ∷ []) ≡ []
  middle_valid numbers line number place act some before fits =
      two_empty (broken line (rules_of_word four false (op_of number place act ∷ []))) (of_ops (scope slots words funcs) numbers [] (suc line) (op_of number place act ∷ []))
      (rw (one_fits (op_of number place act)) refl)
      (one_valid numbers (suc line) number place act some before fits)

  last_valid : (numbers : List ℕ) (line number : ℕ) (place : Place) (from : _) → 1 ≤ number → AreBefore number numbers → ActFits slots (Return from) → of_word four (scope slots words funcs) numbers line true (op_of number place (Return from) ∷ []) ≡ []
  last_valid numbers line number place from some before fits =
      two_empty (broken line (rules_of_word four true (op_of number place (Return from) ∷ []))) (of_ops (scope slots words funcs) numbers [] (suc line) (op_of number place (Return from) ∷ []))
      refl
      (one_valid numbers (suc line) number place (Return from) some before fits)

  words_valid : (numbers : List ℕ) (line number : ℕ) (rest : List Word) → 1 ≤ number → AreBefore number numbers → Straight slots number rest → of_words four (scope slots words funcs) numbers line rest ≡ []
  words_valid numbers line _ _ some before (LastWord number place from fits) =
      two_empty (of_word four (scope slots words funcs) numbers line true (op_of number place (Return from) ∷ [])) [] (last_valid numbers line number place from some before fits) refl
  words_valid numbers line _ _ some before (NextWord number place act rest fits straight) =
      two_empty (of_word four (scope slots words funcs) numbers line (is_last rest) (op_of number place act ∷ [])) (of_words four (scope slots words funcs) (numbers ++ number ∷ []) (line + 2) rest)
      (ap (λ last. of_word four (scope slots words funcs) numbers line last (op_of number place act ∷ [])) (not_last slots (suc number) rest straight) ∙ middle_valid numbers line number place act some before fits)
      (words_valid (numbers ++ number ∷ []) (line + 2) (suc number) rest (omega arith) (one_more number numbers before) straight)

-- ---- the code

few : (a b : ℕ) → a ≤ b → nat_le a b ≡ true
few a b h = grind (arith, nat_tests)

pub main_valid : (slots : ℕ) (words : List Word) → slots ≤ 1048576 → Straight slots 1 words → IsValid four (main_code slots words)
unfolding broken_rules
main_valid slots words le straight =
    rw (few slots 1048576 le, few 1 (length words) (some_words slots 1 words straight), words_valid slots (length words) (main_code slots words).funcs [] 6 1 words (omega arith) none_yet straight) refl
