-- What the code keeps, as plain data.
use Rattle.std.proofs.Common.{Vec, Box, Global}
use Rattle.c_typed.specs.declared.expr.Expr.{Expr}
use Rattle.c_typed.specs.Tree as typed
use Rattle.c_typed.specs.Views.{expr_of, boxed_of, list_exps}
use Rattle.c_types_operators.specs.declared.designated.Designated as code_designated
use Rattle.c_types_operators.specs.declared.designated.Designated.TheVariants as d
use Rattle.c_types_operators.specs.declared.designated.Target as code_target
use Rattle.c_types_operators.specs.declared.designated.Target.TheVariants as t
use Rattle.c_types_operators.specs.Operators.{Designated, a_value, a_slot, a_cell, an_element, an_array, Target, slot, cell}

abbrev pub designated_of : code_designated.Designated → Designated
designated_of (d.Value x) = a_value (expr_of x.value)
designated_of (d.Slot ty n) = a_slot ty n
designated_of (d.Cell ty address) = a_cell ty (expr_of address.value)
designated_of (d.Element array i) = an_element array.element array.storage array.length (expr_of i.value)
designated_of (d.Array array) = an_array array.element array.storage array.length

abbrev pub target_of : code_target.Target → Target
target_of (t.Slot ty n) = slot ty n
target_of (t.Cell ty address) = cell ty (expr_of address.value)

abbrev pub exprs_of : Vec Expr Global → typed.Exps
exprs_of row = list_exps row.items

-- the last operands of `?:`
abbrev pub branches_of : Box Expr Global × Box Expr Global → typed.Exp × typed.Exp
branches_of branches = (boxed_of branches.0, boxed_of branches.1)
