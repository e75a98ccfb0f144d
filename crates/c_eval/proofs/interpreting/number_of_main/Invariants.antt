use Rattle.std.proofs.Common.{◌≡◌, ◌+◌, drop}
use Rattle.std.specs.Prelude.{map}
use Rattle.c_typed.specs.Program.{main_in}
use Rattle.c_eval.proofs.interpreting.number_of_main.Given as goal

abbrev pub invariant-loop-i : goal.invariant-loop-i
invariant-loop-i l = main_in (map (λ f. f.name) l.functions) ≡ l.i + main_in (map (λ f. f.name) (drop l.i l.functions))
