-- What is numbered in the order of a source has room within the whole.
use Rattle.std.proofs.Common.{ℕ, ◌<◌, ◌≤◌, List, ◌∷◌, ◌++◌, length, arith, length-append}

module _ {A : Type 0} (all : ℕ) where
  -- behind the first of them there is room for these
  abbrev pub Room : (first these : List A) → Type 0
  Room first these = length (first ++ these) ≤ all

  pub room_first : (first xs ys : List A) → Room first (xs ++ ys) → Room first xs
  room_first first xs ys h = let a = length-append first (xs ++ ys) in let b = length-append xs ys in let d = length-append first xs in omega (arith, a, b, d, h)

  pub room_second : (first xs ys : List A) → Room first (xs ++ ys) → Room (first ++ xs) ys
  room_second first xs ys h = let a = length-append first (xs ++ ys) in let b = length-append xs ys in let d = length-append first xs in let e = length-append (first ++ xs) ys in omega (arith, a, b, d, e, h)

  pub room_one : (first : List A) (x : A) (rest : List A) → Room first (x ∷ rest) → length first < all
  room_one first x rest h = let a = length-append first (x ∷ rest) in omega (arith, a, h)
