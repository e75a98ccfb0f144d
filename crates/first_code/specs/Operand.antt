-- Operands: where values are, and how they come to registers.
use Rattle.std.specs.Prelude.{ℕ, pos, neg_ℤ}
use Rattle.wide_core.specs.declared.code.WideAct.{WideAct}
use Rattle.ib_act.specs.declared.act.Act.TheVariants.{Const}
use Rattle.wide_core.specs.declared.code.WideAct.TheVariants.{Do, Reload}
use Rattle.first_form.specs.declared.program.Factor.{Factor}
use Rattle.first_form.specs.declared.program.Factor.TheVariants.{Variable, Number, Negative}
use Rattle.first_code.specs.declared.operand.Operand.{Operand}
use Rattle.first_code.specs.declared.operand.Operand.TheVariants.{InSlot, Constant}

-- where the value of a factor is: in its variable's slot, or in the code
abbrev pub operand_of : Factor → Operand
operand_of (Variable variable) = InSlot variable
operand_of (Number n) = Constant (pos n)
operand_of (Negative n) = Constant (neg_ℤ (pos n))

-- brings an operand to a register
abbrev pub load : ℕ → Operand → WideAct
load to (InSlot slot) = Reload to slot
load to (Constant z) = Do (Const to z)
