-- What is at hand is done: the outcome stays, and there is less to do.
use Rattle.std.proofs.Common.{◌≡◌, ℕ, suc, ◌+◌, ◌<◌, List, refl, subst, sym, arith}
use Rattle.c_typed.specs.Program.{Program}
use Rattle.c_typed.specs.Views.{expr_of, stmt_of}
use Rattle.c_eval.specs.declared.frame.Task as code
use Rattle.c_eval.specs.declared.frame.Task.TheVariants as t
use Rattle.c_eval.specs.declared.frame.Want as code_want
use Rattle.c_eval.specs.declared.frame.Want.TheVariants as w
use Rattle.c_eval.specs.Pending as p
use Rattle.c_eval.specs.Pending.{Task, Machine, Move, Goes, Faults, Ends, Stops}
use Rattle.c_eval.specs.Moves as moves
use Rattle.c_eval.specs.Views.{task_of, want_of, exit_of, turns_in}
use Rattle.c_eval.specs.Outcomes.{outcome, comes_to}
use Rattle.c_eval.specs.Running.{move_work}
use Rattle.c_eval.specs.Weights.{work, Lightens}
use Rattle.c_eval.proofs.Keeping.{eval_kept, give_kept, pass_kept_by, exec_kept, leave_kept, turn_kept, call_kept}
use Rattle.c_eval.proofs.Lightening.{eval_less, give_less, pass_less_by, exec_less, leave_less}

pub advanced_kept : (q : Program) (n b : ℕ) (left out : List ℕ) → b < n → (task : Task) (m : Machine) → outcome q n b task m left out ≡ comes_to q n b (moves.advanced q task m) left out
advanced_kept q n b left out lt (p.eval e s) m = eval_kept q n b left out lt e s m
advanced_kept q n b left out lt (p.give v) m = give_kept q n b left out lt v m
advanced_kept q n b left out lt p.pass m = pass_kept_by q n b left out lt m
advanced_kept q n b left out lt (p.exec a) m = exec_kept q n b left out lt a m
advanced_kept q n b left out lt (p.leave exit) m = leave_kept q n b left out lt exit m
advanced_kept q n b left out lt task m = refl

light : (before : ℕ) (move : Move) → Lightens before move → move_work move < suc before
light before (Goes task m) less = omega (arith, less)
light before (Faults s kind) less = omega arith
light before (Ends v) less = omega arith
light before Stops less = omega arith

advanced_light : (q : Program) (task : code.Task) (m : Machine) → Lightens (work (task_of task) m.frames) (moves.advanced q (task_of task) m)
advanced_light q (t.Eval expr number) m = eval_less q (expr_of expr.now) number m
advanced_light q (t.Give value) m = give_less q value m
advanced_light q t.Pass m = pass_less_by m
advanced_light q (t.Exec stmt) m = exec_less (stmt_of stmt.now) m
advanced_light q (t.Leave exit) m = leave_less (exit_of exit) m

pub advanced_less : (q : Program) (task : code.Task) (m : Machine) (move : Move) → move ≡ moves.advanced q (task_of task) m → move_work move < move_work (Goes (task_of task) m)
advanced_less q task m move is =
    subst (λ next. move_work next < move_work (Goes (task_of task) m)) (sym is)
    (light (work (task_of task) m.frames) (moves.advanced q (task_of task) m) (advanced_light q task m))

-- with a unit that was spent
pub unit_kept : (q : Program) (n b : ℕ) (left out : List ℕ) → b + 1 < n → (want : code_want.Want) (m : Machine) → outcome q n (suc b) (want_of want) m left out ≡ comes_to q n b (moves.unit_spent q (want_of want) m) left out
unit_kept q n b left out lt (w.Call f s) m = call_kept q n b left out lt f s m
unit_kept q n b left out lt (w.Turn stmt) m = turn_kept q n b left out (turns_in (stmt_of stmt.now)) m
