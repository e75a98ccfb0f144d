-- Each operation of the code has its home.
use Rattle.std.proofs.Common.{◌≡◌, ℕ, suc, ◌≤◌, ◌==◌, true, false, List, refl, ap, ◌∙◌, append-nil, arith}
use Rattle.std.proofs.lemmas.Bool.Decides.{nat_tests}
use Rattle.wide_core.specs.declared.code.RawCode.{RawCode}
use Rattle.wide_core.specs.declared.code.Word.{Word}
use Rattle.wide_core.specs.Parts.{home_in, home_of, ops_of_words}
use Rattle.first_code.specs.Code.{main_code}
use Rattle.first_code.proofs.Operations.{AtHome}
use Rattle.first_code.proofs.Straight.{Straight, LastWord, NextWord}

-- the homes by number are those of these words, from this number on
abbrev HomesFrom : RawCode → ℕ → List Word → Type 0
HomesFrom code number words = (m : ℕ) → number ≤ m → home_of code m ≡ home_in (ops_of_words words) m

same_number : (a : ℕ) → (a == a) ≡ true
same_number a = grind (arith, nat_tests)

less_number : (a b : ℕ) → suc a ≤ b → (a == b) ≡ false
less_number a b h = grind (arith, nat_tests)

at_home : (code : RawCode) (slots number : ℕ) (words : List Word) → Straight slots number words → HomesFrom code number words → AtHome code words
at_home code slots _ _ (LastWord number place from f) homes = ((homes number (omega arith) ∙ rw (same_number number) refl, tt), tt)
at_home code slots _ _ (NextWord number place act rest f straight) homes = (
  (homes number (omega arith) ∙ rw (same_number number) refl, tt),
  at_home code slots (suc number) rest straight (λ m le. homes m (omega arith) ∙ rw (less_number number m le) refl),
)

-- the homes of code with one function are those of its words
main_home : (slots : ℕ) (words : List Word) (number : ℕ) → home_of (main_code slots words) number ≡ home_in (ops_of_words words) number
unfolding home_of
main_home slots words number = ap (λ ops. home_in ops number) (append-nil (ops_of_words words))

pub main_at_home : (slots : ℕ) (words : List Word) → Straight slots 1 words → AtHome (main_code slots words) words
main_at_home slots words straight = at_home (main_code slots words) slots 1 words straight (λ m le. main_home slots words m)
