-- Lists of tests, of names and of what was met so far.
use Rattle.std.proofs.Common.{◌≡◌, ℕ, Bool, true, false, not, cond, List, [], ◌∷◌, ◌++◌, map, refl, ap, ◌∙◌, Bor, bytes_eq}
use Rattle.std.specs.List.{list_all, list_any}

pub any_of_map : {A B : Type 0} (test : B → Bool) (f : A → B) (xs : List A) → list_any test (map f xs) ≡ list_any (λ x. test (f x)) xs
any_of_map test f [] = refl
any_of_map test f (x ∷ xs) = rw (any_of_map test f xs) refl

pub map_last : {A B : Type 0} (f : A → B) (xs : List A) (x : A) → map f (xs ++ x ∷ []) ≡ map f xs ++ f x ∷ []
map_last f [] x = refl
map_last f (y ∷ ys) x = ap (λ zs. f y ∷ zs) (map_last f ys x)

pub all_of_map : {A B : Type 0} (test : B → Bool) (f : A → B) (xs : List A) → list_all test (map f xs) ≡ list_all (λ x. test (f x)) xs
all_of_map test f [] = refl
all_of_map test f (x ∷ xs) = rw (all_of_map test f xs) refl

-- a name that was not there is added to the keys, and so to what they show
pub names_added : (keys new : List (Bor (List ℕ))) (name : Bor (List ℕ)) (any : Bool)
    → any ≡ list_any (λ (k : Bor (List ℕ)). bytes_eq name.now k.now) keys
    → new ≡ cond any keys (keys ++ name ∷ []) → not any ≡ true
    → map (λ k. k.now) new ≡ map (λ k. k.now) keys ++ name.now ∷ []
names_added keys new name true is new_is e = cc
names_added keys new name false is new_is e = ap (map (λ k. k.now)) new_is ∙ map_last (λ (k : Bor (List ℕ)). k.now) keys name
