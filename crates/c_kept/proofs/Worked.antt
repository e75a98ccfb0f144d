-- What keeps the rules of a typed program, and what does not.
use Rattle.std.proofs.Common.{◌≡◌, [], ◌∷◌, false, true, refl, arith}
use Rattle.c_ast.specs.declared.tree.Base.TheVariants.{Char, Void}
use Rattle.c_typed.specs.declared.types.ValueType.TheVariants.{Base}
use Rattle.c_typed.specs.declared.operation.Rank.TheVariants as rank
use Rattle.c_typed.specs.declared.operation.Arithmetic.TheVariants.{Add}
use Rattle.c_typed.specs.declared.operation.Operation.TheVariants.{Integer}
use Rattle.c_typed.specs.ValueTypes.{int, long}
use Rattle.c_typed.specs.Tree.{slot, set_slot, load, expression, break, while_loop, convert, binary}
use Rattle.c_typed.specs.Program.{Program}
use Rattle.c_kept.specs.Weights.{weight}
use Rattle.c_kept.specs.Kept.{KeepsExp, KeepsStm}
use Rattle.c_kept.specs.Numbered.{NumbersStm}

apart : false ≡ true → ⊥
apart h = cc

module _ (p : Program) where
  -- x = x; where x is an int
  same_type : KeepsStm p (int ∷ []) int false (expression 0 (set_slot int 0 (slot int 0)))
  same_type = (refl, refl, refl)

  -- a char may not be given an int that is not converted
  too_wide : KeepsExp p (int ∷ Base Char ∷ []) (set_slot (Base Char) 1 (slot int 0)) → ⊥
  too_wide h = apart h.2

  cut_first : KeepsExp p (int ∷ Base Char ∷ []) (set_slot (Base Char) 1 (convert (Base Char) (slot int 0)))
  cut_first = (refl, refl, refl)

  -- `break` stands in a loop
  in_a_loop : KeepsStm p (int ∷ []) int false (while_loop 0 (slot int 0) (break 0))
  in_a_loop = (refl, refl)

  alone : KeepsStm p [] int false (break 0) → ⊥
  alone h = apart h

  -- nothing of type void is read
  no_value : KeepsExp p (long ∷ []) (load (Base Void) (slot long 0)) → ⊥
  no_value h = apart h.1

  -- x + c, where c is a char: two variables, a conversion and the sum
  four_nodes : weight (binary int (Integer Add rank.Int) (slot int 0) (convert int (slot (Base Char) 1))) ≡ 4
  four_nodes = refl

-- the number of each statement is that of a place
numbered : NumbersStm 1 (while_loop 0 (slot int 0) (break 0))
numbered = (omega arith, omega arith)

beyond : NumbersStm 1 (while_loop 0 (slot int 0) (break 1)) → ⊥
beyond h = omega (arith, h.1)
