-- Runs of bytes, comments and marks.
use Rattle.std.proofs.Common.{◌≡◌, ℕ, suc, ◌+◌, ◌<◌, ◌≤◌, Bool, true, false, List, [], ◌∷◌, ◌++◌, length, take, ap, refl, sym, ◌∙◌, subst, arith, cond, Option, Some, None}
use Rattle.std.specs.Prelude.{◌==◌, ◌&&◌}
use Rattle.std.specs.List.{list_all, prefix_len, find}
use Rattle.std.specs.Option.{option_map}
use Rattle.ib_meaning.proofs.Facts.{both_first, both_second}
use Rattle.c_ast.specs.Pieces.{behind_close}

pub choose : {A : Type 0} (P : A → Type 0) (b : Bool) (x y : A) → (b ≡ true → P x) → (b ≡ false → P y) → P (cond b x y)
choose P true x y f g = f refl
choose P false x y f g = g refl

-- ---- the longest front that passes

pub run_most : (p : ℕ → Bool) (bs more : List ℕ) → list_all p bs ≡ true → length bs ≤ prefix_len p (bs ++ more)
run_most p [] more h = omega arith
run_most p (b ∷ bs) more h =
    let k = run_most p bs more (both_second (p b) (list_all p bs) h) in
    rw (both_first (p b) (list_all p bs) h) (omega (arith, k))

pub run_passes : (p : ℕ → Bool) (bs : List ℕ) → list_all p (take (prefix_len p bs) bs) ≡ true
run_passes p [] = refl
run_passes p (b ∷ bs) = by_test (run_passes p bs) (p b) refl
  where
    one : (n : ℕ) → 1 + n ≡ suc n
    one n = omega arith

    by_test : list_all p (take (prefix_len p bs) bs) ≡ true → (t : Bool) → p b ≡ t → list_all p (take (cond t (1 + prefix_len p bs) 0) (b ∷ bs)) ≡ true
    by_test k true e = subst (λ n. list_all p (take n (b ∷ bs)) ≡ true) (sym (one (prefix_len p bs))) (rw e k)
    by_test k false e = refl

-- ---- the end of a comment

close_step : (star : Bool) (b : ℕ) (bs more : List ℕ) (n : ℕ) → ((k : ℕ) → behind_close (b == 42) bs ≡ Some k → behind_close (b == 42) (bs ++ more) ≡ Some k) →
    behind_close star (b ∷ bs) ≡ Some n → behind_close star (b ∷ bs ++ more) ≡ Some n
close_step star b bs more n deeper e = by_test (star && (b == 47)) e
  where
    by_rest : (o : Option ℕ) → behind_close (b == 42) bs ≡ o → option_map suc o ≡ Some n → option_map suc (behind_close (b == 42) (bs ++ more)) ≡ Some n
    by_rest None is f = cc
    by_rest (Some k) is f = ap (option_map suc) (deeper k is) ∙ f

    by_test : (t : Bool) → cond t (Some 1) (option_map suc (behind_close (b == 42) bs)) ≡ Some n → cond t (Some 1) (option_map suc (behind_close (b == 42) (bs ++ more))) ≡ Some n
    by_test true f = f
    by_test false f = by_rest (behind_close (b == 42) bs) refl f

-- what closes a comment closes it before more bytes
pub close_before : (star : Bool) (bs more : List ℕ) (n : ℕ) → behind_close star bs ≡ Some n → behind_close star (bs ++ more) ≡ Some n
close_before star [] more n e = cc
close_before star (b ∷ bs) more n e = close_step star b bs more n (λ k is. close_before (b == 42) bs more k is) e

abbrev the_number : Option ℕ → ℕ
the_number None = 0
the_number (Some n) = n

closed_some : (star : Bool) (bs : List ℕ) (n : ℕ) → behind_close star bs ≡ Some n → 0 < n
closed_some star [] n e = cc
closed_some star (b ∷ bs) n e = by_test (star && (b == 47)) e
  where
    by_rest : (o : Option ℕ) → option_map suc o ≡ Some n → 0 < n
    by_rest None h = cc
    by_rest (Some j) h = let i : suc j ≡ n = ap the_number h in omega (arith, i)

    by_test : (t : Bool) → cond t (Some 1) (option_map suc (behind_close (b == 42) bs)) ≡ Some n → 0 < n
    by_test true h = let i : 1 ≡ n = ap the_number h in omega (arith, i)
    by_test false h = by_rest (behind_close (b == 42) bs) h

open_step : (star : Bool) (b : ℕ) (bs more : List ℕ) (n : ℕ) → ((k : ℕ) → behind_close (b == 42) bs ≡ None → behind_close (b == 42) (bs ++ more) ≡ Some k → length bs < k) →
    behind_close star (b ∷ bs) ≡ None → behind_close star (b ∷ bs ++ more) ≡ Some n → suc (length bs) < n
open_step star b bs more n deeper e f = by_test (star && (b == 47)) e f
  where
    by_rest : (o q : Option ℕ) → behind_close (b == 42) bs ≡ o → behind_close (b == 42) (bs ++ more) ≡ q → option_map suc o ≡ None → option_map suc q ≡ Some n → suc (length bs) < n
    by_rest (Some k) q io iq g h = cc
    by_rest None None io iq g h = cc
    by_rest None (Some k) io iq g h = let l = deeper k io iq in let i : suc k ≡ n = ap the_number h in omega (arith, l, i)

    by_test : (t : Bool) → cond t (Some 1) (option_map suc (behind_close (b == 42) bs)) ≡ None → cond t (Some 1) (option_map suc (behind_close (b == 42) (bs ++ more))) ≡ Some n → suc (length bs) < n
    by_test true g h = cc
    by_test false g h = by_rest (behind_close (b == 42) bs) (behind_close (b == 42) (bs ++ more)) refl refl g h

-- an open beginning is shorter than the closed whole
pub open_shorter : (star : Bool) (bs more : List ℕ) (n : ℕ) → behind_close star bs ≡ None → behind_close star (bs ++ more) ≡ Some n → length bs < n
open_shorter star [] more n e f = closed_some star more n f
open_shorter star (b ∷ bs) more n e f = open_step star b bs more n (λ k io iq. open_shorter (b == 42) bs more k io iq) e f

-- a closed comment is found within the bytes, and ends there
pub record Closed (star : Bool) (bs : List ℕ) (n : ℕ) : Type 0 where
  pub within : n ≤ length bs
  pub ends : behind_close star (take n bs) ≡ Some n

closed_step : (star : Bool) (b : ℕ) (bs : List ℕ) (n : ℕ) → ((k : ℕ) → behind_close (b == 42) bs ≡ Some k → Closed (b == 42) bs k) → behind_close star (b ∷ bs) ≡ Some n → Closed star (b ∷ bs) n
closed_step star b bs n deeper e = by_test (star && (b == 47)) refl e
  where
    one_more : (k : ℕ) → (star && (b == 47)) ≡ false → Closed (b == 42) bs k → Closed star (b ∷ bs) (suc k)
    one_more k t c = record {
      within = let w = c.within in omega (arith, w);
      ends = ap (λ x. cond x (Some 1) (option_map suc (behind_close (b == 42) (take k bs)))) t ∙ ap (option_map suc) c.ends;
    }

    by_rest : (o : Option ℕ) → (star && (b == 47)) ≡ false → behind_close (b == 42) bs ≡ o → option_map suc o ≡ Some n → Closed star (b ∷ bs) n
    by_rest None t is f = cc
    by_rest (Some k) t is f = subst (λ j. Closed star (b ∷ bs) j) (ap the_number f) (one_more k t (deeper k is))

    by_test : (t : Bool) → (star && (b == 47)) ≡ t → cond t (Some 1) (option_map suc (behind_close (b == 42) bs)) ≡ Some n → Closed star (b ∷ bs) n
    by_test true t f = subst (λ j. Closed star (b ∷ bs) j) (ap the_number f)
        (record { within = omega arith; ends = ap (λ x. cond x (Some 1) (option_map suc (behind_close (b == 42) []))) t })
    by_test false t f = by_rest (behind_close (b == 42) bs) t refl f

pub close_found : (star : Bool) (bs : List ℕ) (n : ℕ) → behind_close star bs ≡ Some n → Closed star bs n
close_found star [] n e = cc
close_found star (b ∷ bs) n e = closed_step star b bs n (λ k is. close_found (b == 42) bs k is) e

-- ---- look-ups

passes_step : {X : Type 0} (p : X → Bool) (y : X) (o : Option X) (x : X) (t : Bool) → p y ≡ t → (o ≡ Some x → p x ≡ true) → cond t (Some y) o ≡ Some x → p x ≡ true
passes_step {X} p y o x true t deeper f = let same : y ≡ x = cc in subst (λ (z : X). p z ≡ true) same t
passes_step p y o x false t deeper f = deeper f

pub found_passes : {X : Type 0} (p : X → Bool) (xs : List X) (x : X) → find p xs ≡ Some x → p x ≡ true
found_passes p [] x e = cc
found_passes p (y ∷ xs) x e = passes_step p y (find p xs) x (p y) refl (found_passes p xs x) e
