-- How many words an operation, an end and a block have.
use Rattle.std.specs.Prelude.{ℕ, ◌+◌, nat_lt, List, [], ◌∷◌, Option, Some, None, if◌then◌else◌}
use Rattle.std.specs.List.{sum_by}
use Rattle.ib_act.specs.declared.act.Act.{Act}
use Rattle.ib_act.specs.Acts.{target, first_source, second_source}
use Rattle.tac_core.specs.declared.code.TacOp.{TacOp}
use Rattle.tac_core.specs.declared.code.End.{End}
use Rattle.tac_core.specs.declared.code.End.TheVariants.{Jump, Branch, Call, Ret}
use Rattle.tac_core.specs.declared.code.Block.{Block}

module _ (low : ℕ) where
  -- one word for a register in a slot, none for another
  abbrev pub reg_size : ℕ → ℕ
  reg_size r = if nat_lt r low then 0 else 1

  abbrev pub opt_size : Option ℕ → ℕ
  opt_size None = 0
  opt_size (Some r) = reg_size r

  abbrev pub regs_size : List ℕ → ℕ
  regs_size [] = 0
  regs_size (r ∷ rs) = reg_size r + regs_size rs

  abbrev pub act_size : Act → ℕ
  act_size act = opt_size (first_source act) + opt_size (second_source act) + 1 + opt_size (target act)

  abbrev pub end_size : End → ℕ
  end_size (Jump l) = 1
  end_size (Branch r y n) = reg_size r + 2
  end_size (Call d f args l) = regs_size args + 1
  end_size (Ret r) = opt_size r + 1

  abbrev pub op_size : TacOp → ℕ
  op_size op = act_size op.act

  abbrev pub block_size : Block → ℕ
  block_size b = sum_by op_size b.ops + end_size b.«end»
