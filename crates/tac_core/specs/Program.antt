-- A three-address program as contracts see it.
use Rattle.std.specs.Prelude.{ℕ, suc, ◌+◌, List, [], ◌∷◌, length, min, codes, map, bytes_eq, if◌then◌else◌}
use Rattle.std.specs.List.{sum_by}
use Rattle.ib_meaning.specs.declared.place.Place.{Place}
use Rattle.tac_core.specs.declared.code.Block.{Block}
use Rattle.tac_core.specs.declared.code.TacFunc.{TacFunc}

-- the memory's first bytes, the statements' places, and the functions by number
pub record Program : Type 0 where
  pub image : List ℕ
  pub places : List Place
  pub funcs : List TacFunc

-- the same program, but for its functions
abbrev pub with_funcs : Program → List TacFunc → Program
with_funcs p funcs = record { image = p.image; places = p.places; funcs = funcs }

abbrev pub main_name : List ℕ
main_name = codes "main"

abbrev pub names : Program → List (List ℕ)
names p = map (λ f. f.name) p.funcs

-- the number of the first name that is `main`
abbrev pub main_in : List (List ℕ) → ℕ
main_in [] = 0
main_in (name ∷ names) = if bytes_eq main_name name then 0 else suc (main_in names)

abbrev pub main_of : Program → ℕ
main_of p = main_in (names p)

-- the operations of a block, its end included
abbrev pub block_ops : Block → ℕ
block_ops b = length b.ops + 1

abbrev pub func_ops : TacFunc → ℕ
func_ops f = sum_by block_ops f.blocks

-- the operations of a program, ends of blocks included
abbrev pub program_ops : Program → ℕ
program_ops p = sum_by func_ops p.funcs

-- a number as 64 bits can tell it: the greatest for all beyond
abbrev pub capped : ℕ → ℕ
capped n = min n 18446744073709551615
