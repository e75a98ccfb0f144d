-- The chain of reports and effects of a superblock.
use Rattle.std.specs.Prelude.{ℕ, Bool, not, List, [], ◌∷◌, if◌then◌else◌}
use Rattle.wide_core.specs.declared.code.WideOp.{WideOp}
use Rattle.wide_core.specs.Classes.{is_register}
use Rattle.sb_order.specs.Superblock.{checked}

-- the numbers of what does more than write a register: stores, inputs, outputs, control operations and checks
abbrev pub members : List WideOp → List ℕ
members [] = []
members (op ∷ ops) = if not (is_register op.act) then op.number ∷ members ops else members ops

-- those of the items with their checks; a check is absent exactly where the next member reads a carrier
abbrev pub chain : List WideOp → List ℕ
chain items = members (checked items)
