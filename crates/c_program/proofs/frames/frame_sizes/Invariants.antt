use Rattle.std.proofs.Common.{◌≡◌, ◌++◌, map, drop}
use Rattle.c_typed.specs.Views.{function_of}
use Rattle.c_program.proofs.frames.frame_sizes.Given as goal

abbrev pub invariant-loop-function : goal.invariant-loop-function
invariant-loop-function l = l.sizes.items ++ map (λ f. f.frame) (map function_of (drop l.function-index l.functions)) ≡ map (λ f. f.frame) (map function_of l.functions)
