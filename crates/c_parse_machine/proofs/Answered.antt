-- What the machine answers, in the words of the grammar.
use Rattle.std.proofs.Common.{◌≡◌, ℕ, ◌+◌, ◌<◌, List, [], ◌∷◌, ◌++◌, Ok, Err, refl, sym, ◌∙◌, ap, arith, subst, length, append_assoc, take, length-append}
use Rattle.c_ast.specs.declared.token.Token.{Token}
use Rattle.c_ast.specs.Grammar.{IsUnit, BeginsUnit}
use Rattle.c_parse_machine.specs.Machine.{items, run}
use Rattle.c_parse_machine.specs.Told.{HaveOneTree, IsWrongAt}
use Rattle.c_parse_machine.proofs.StatementLemmas.{complete}
use Rattle.c_parse_machine.proofs.SoundStates.{sound}
use Rattle.c_parse_machine.proofs.Viable.{stuck, Stuck}

take_front : (xs ys : List Token) → take (length xs) (xs ++ ys) ≡ xs
take_front [] ys = refl
take_front (x ∷ xs) ys = ap (λ l. x ∷ l) (take_front xs ys)

-- a token list has at most one tree
pub one_tree : (ts : List Token) → HaveOneTree ts
one_tree ts xs ys p q = let e : Ok xs ≡ Ok ys = sym (complete ts xs p) ∙ complete ts ys q in cc

wrong : (ts : List Token) (i n : ℕ) → i + n ≡ length ts → run ts (items []) ≡ Err n → Stuck ts (items []) n → IsWrongAt ts i
wrong ts i n size h k =
    let long : length ts ≡ length k.used + length k.rest = ap length k.split ∙ length-append k.used k.rest in
    let used : length k.used ≡ i = omega (arith, long, k.left, size) in
    let front : take i ts ≡ k.used = ap (λ j. take j ts) (sym used) ∙ ap (λ l. take (length k.used) l) k.split ∙ take_front k.used k.rest in
    record {
      no_unit = λ xs p. let e : Err n ≡ Ok xs = sym h ∙ complete ts xs p in cc;
      within = omega (arith, size);
      before = (k.ends.0, k.ends.1, subst (λ l. IsUnit (l ++ k.ends.0) k.ends.1) (sym front) (sound (k.used ++ k.ends.0) k.ends.1 k.ends.2));
      after = λ lt b. next k.rest refl lt used long b;
    }
  where
    next : (rest : List Token) → k.rest ≡ rest → i < length ts → length k.used ≡ i → length ts ≡ length k.used + length k.rest → BeginsUnit (take (i + 1) ts) → ⊥
    next [] e lt used long b = absurd (let z : length k.rest ≡ 0 = ap length e in omega (arith, z, long, used, lt))
    next (tok ∷ after) e lt used long (more, xs, p) =
        let whole_front : ts ≡ (k.used ++ tok ∷ []) ++ after = k.split ∙ ap (λ l. k.used ++ l) e ∙ sym (append_assoc k.used (tok ∷ []) after) in
        let size1 : length (k.used ++ tok ∷ []) ≡ i + 1 = length-append k.used (tok ∷ []) ∙ ap (λ j. j + 1) used in
        let front1 : take (i + 1) ts ≡ k.used ++ tok ∷ [] = ap (λ j. take j ts) (sym size1) ∙ ap (λ l. take (length (k.used ++ tok ∷ [])) l) whole_front ∙ take_front (k.used ++ tok ∷ []) after in
        let q : IsUnit ((k.used ++ tok ∷ []) ++ more) xs = subst (λ l. IsUnit (l ++ more) xs) front1 p in
        let q' : IsUnit (k.used ++ tok ∷ more) xs = subst (λ l. IsUnit l xs) (append_assoc k.used (tok ∷ []) more) q in
        k.none tok after e more xs (complete (k.used ++ tok ∷ more) xs q')

pub wrong_at : (ts : List Token) (i n : ℕ) → i + n ≡ length ts → run ts (items []) ≡ Err n → IsWrongAt ts i
wrong_at ts i n size h = wrong ts i n size h (stuck ts (items []) n h)
