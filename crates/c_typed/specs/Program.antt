-- A typed program as contracts see it: all that its meaning depends on.
use Rattle.std.specs.Prelude.{ℕ, suc, ◌+◌, ◌*◌, ◌/◌, List, [], ◌∷◌, length, codes, map, bytes_eq, slice_index_or, if◌then◌else◌}
use Rattle.ib_meaning.specs.declared.place.Place.{Place}
use Rattle.c_typed.specs.Tree.{Function}

pub record Program : Type 0 where
  -- those with a body
  pub functions : List Function
  -- the addresses of the globals, and of the strings that are laid out
  pub globals : List ℕ
  pub strings : List ℕ
  -- the memory's bytes from 4096 on
  pub image : List ℕ
  -- of the statements, by their numbers
  pub places : List Place

-- the number of the first name that is `main`
abbrev pub main_in : List (List ℕ) → ℕ
main_in [] = 0
main_in (name ∷ names) = if bytes_eq (codes "main") name then 0 else suc (main_in names)

abbrev pub main_of : Program → ℕ
main_of p = main_in (map (λ f. f.name) p.functions)

-- behind the globals and strings, at a multiple of 16
abbrev pub first_frame : Program → ℕ
first_frame p = 4096 + 16 * ((length p.image + 15) / 16)

abbrev pub place_of : Program → (statement : ℕ) → Place
place_of p n = slice_index_or p.places n (record { line = 1; col = 1 })
