-- The typed programs of the code as plain data.
use Rattle.std.proofs.Common.{Box, Global}
use Rattle.std.specs.Prelude.{List, map}
use Rattle.c_typed.specs.declared.expr.Expr.{Expr, Row_of-Expr, end_of-Expr, more_of-Expr}
use Rattle.c_typed.specs.declared.expr.Expr as e
use Rattle.c_typed.specs.declared.stmt.Part.{Part}
use Rattle.c_typed.specs.declared.stmt.Part.TheVariants as p
use Rattle.c_typed.specs.declared.stmt.Stmt.{Stmt, Row_of-Stmt, end_of-Stmt, more_of-Stmt}
use Rattle.c_typed.specs.declared.stmt.Stmt as s
use Rattle.c_typed.specs.declared.program.Function as code_function
use Rattle.c_typed.specs.declared.program.Typed as code_typed
use Rattle.c_typed.specs.Tree.{Exp, Exps, no_exp, an_exp, exps, constant, text, address, element, slot, load, convert, unary, not, binary, both, either, conditional, set_slot, store, update_slot, update, step_slot, step, call, get_byte, put_byte, put_number, comma, Maybe, missing, given, Stm, Stms, no_stm, a_stm, stms, block, empty, expression, if_then, if_else, while_loop, do_while, for_loop, break, continue, return, local, Function}

abbrev mutual
  pub expr_of : Expr → Exp
  expr_of (e.Constant ty v) = constant ty v
  expr_of (e.Text n) = text n
  expr_of (e.Address ty of) = address ty of
  expr_of (e.Element' ty array length size reach _ i) = element ty array length size reach (expr_of i)
  expr_of (e.Slot ty n) = slot ty n
  expr_of (e.Load' ty _ a) = load ty (expr_of a)
  expr_of (e.Convert' to _ a) = convert to (expr_of a)
  expr_of (e.Unary' op rank _ a) = unary op rank (expr_of a)
  expr_of (e.Not' _ a) = not (expr_of a)
  expr_of (e.Binary' ty op _ a _ b) = binary ty op (expr_of a) (expr_of b)
  expr_of (e.And' _ a _ b) = both (expr_of a) (expr_of b)
  expr_of (e.Or' _ a _ b) = either (expr_of a) (expr_of b)
  expr_of (e.Conditional' ty _ a _ b _ c) = conditional ty (expr_of a) (expr_of b) (expr_of c)
  expr_of (e.SetSlot' ty n _ a) = set_slot ty n (expr_of a)
  expr_of (e.Store' ty _ a _ b) = store ty (expr_of a) (expr_of b)
  expr_of (e.UpdateSlot' ty n within op _ a) = update_slot ty n within op (expr_of a)
  expr_of (e.Update' ty _ a within op _ b) = update ty (expr_of a) within op (expr_of b)
  expr_of (e.StepSlot ty n within op) = step_slot ty n within op
  expr_of (e.Step' ty _ a within op) = step ty (expr_of a) within op
  expr_of (e.Call' ty f _ row) = call ty f (row_exps row)
  expr_of e.GetByte = get_byte
  expr_of (e.PutByte' _ a) = put_byte (expr_of a)
  expr_of (e.PutNumber' _ a) = put_number (expr_of a)
  expr_of (e.Comma' _ row _ a) = comma (row_exps row) (expr_of a)

  pub row_exps : {m : _} → Row_of-Expr m → Exps
  row_exps end_of-Expr = no_exp
  row_exps (more_of-Expr x rest) = an_exp (expr_of x) (row_exps rest)

abbrev pub boxed_of : Box Expr Global → Exp
boxed_of x = expr_of x.value

abbrev pub list_exps : List Expr → Exps
list_exps xs = exps (map expr_of xs)

abbrev pub part_of : Part → Maybe
part_of p.Missing = missing
part_of (p.Given x) = given (expr_of x.value)

abbrev mutual
  pub stmt_of : Stmt → Stm
  stmt_of (s.Block' _ row) = block (row_stms row)
  stmt_of (s.Empty n) = empty n
  stmt_of (s.Expr n x) = expression n (expr_of x.value)
  stmt_of (s.If' n x _ a) = if_then n (expr_of x.value) (stmt_of a)
  stmt_of (s.IfElse' n x _ a _ b) = if_else n (expr_of x.value) (stmt_of a) (stmt_of b)
  stmt_of (s.While' n x _ a) = while_loop n (expr_of x.value) (stmt_of a)
  stmt_of (s.DoWhile' n _ a x) = do_while n (stmt_of a) (expr_of x.value)
  stmt_of (s.For' n start x y _ a) = for_loop n (list_exps start.items) (part_of x) (part_of y) (stmt_of a)
  stmt_of (s.Break n) = break n
  stmt_of (s.Continue n) = continue n
  stmt_of (s.Return n x) = return n (part_of x)
  stmt_of (s.Local n xs) = local n (list_exps xs.items)

  pub row_stms : {m : _} → Row_of-Stmt m → Stms
  row_stms end_of-Stmt = no_stm
  row_stms (more_of-Stmt x rest) = a_stm (stmt_of x) (row_stms rest)

abbrev pub boxed_stmt_of : Box Stmt Global → Stm
boxed_stmt_of x = stmt_of x.value

abbrev pub function_of : code_function.Function → Function
function_of f = record { name = f.name; result = f.result; params = f.params.items; slots = f.slots; frame = f.frame; body = stms (map stmt_of f.body.items) }

abbrev pub functions_of : code_typed.Typed → List Function
functions_of typed = map function_of typed.functions.items
