-- A function's name is one that code may have.
use Rattle.std.proofs.Common.{◌≡◌, ℕ, List, [], ◌∷◌, Bool, true, false, refl, sym, subst}
use Rattle.std.specs.Prelude.{◌&&◌, ◌||◌, ◌==◌, nat_le, IsTrue}
use Rattle.std.specs.List.{All, list_all}
use Rattle.std.proofs.lemmas.Bool.{eqb-true}
use Rattle.std.proofs.lemmas.List.Elements.{All-nil, All-cons}
use Rattle.c_ast.specs.Bytes as source
use Rattle.c_kept.specs.WellFormed as kept
use Rattle.tac_core.specs.Rules.{is_letter, is_digit, IsName}

and_both : (a b : Bool) → (a && b) ≡ true → (a ≡ true) × (b ≡ true)
and_both true b h = (refl, h)
and_both false b h = let z : ⊥ = cc in absurd z

or_last : (a b c d : Bool) → ((a || b) || c) ≡ true → (c ≡ true → d ≡ true) → (a || (b || d)) ≡ true
or_last true b c d h last = refl
or_last false true c d h last = refl
or_last false false c d h last = last h

letter_kept : (b : ℕ) → source.is_letter b ≡ true → is_letter b ≡ true
letter_kept b h =
    or_last (nat_le 65 b && nat_le b 90) (nat_le 97 b && nat_le b 122) (b == 95) (nat_le 95 b && nat_le b 95) h
    (λ e. subst (λ b. (nat_le 95 b && nat_le b 95) ≡ true) (sym (eqb-true b 95 e)) refl)

word_kept : (b : ℕ) → source.is_word_byte b ≡ true → IsTrue (is_letter b || is_digit b)
word_kept b h = go (source.is_letter b) (is_letter b) h (letter_kept b)
  where
    go : (l m : Bool) → (l || is_digit b) ≡ true → (l ≡ true → m ≡ true) → (m || is_digit b) ≡ true
    go l true h kept = refl
    go true false h kept = let e = kept refl in let z : ⊥ = cc in absurd z
    go false false h kept = h

words_kept : (bs : List ℕ) → list_all source.is_word_byte bs ≡ true → All (λ b. IsTrue (is_letter b || is_digit b)) bs
words_kept [] h = All-nil (λ b. IsTrue (is_letter b || is_digit b))
words_kept (b ∷ bs) h =
    let h = and_both (source.is_word_byte b) (list_all source.is_word_byte bs) h in
    All-cons (λ b. IsTrue (is_letter b || is_digit b)) b bs (word_kept b h.0) (words_kept bs h.1)

pub name_kept : (name : List ℕ) → kept.IsName name → IsName name
name_kept [] h = absurd h
name_kept (b ∷ bs) h = (letter_kept b h.0, words_kept bs h.1)
