use Rattle.std.proofs.Common.{◌≡◌, map, find, drop}
use Rattle.c_typed.specs.Views.{function_of}
use Rattle.c_program.specs.Limits.{is_large}
use Rattle.c_program.proofs.frames.large_frame.Given as goal

abbrev pub invariant-loop-function : goal.invariant-loop-function
invariant-loop-function l = find is_large (map function_of (drop l.function-index l.functions)) ≡ find is_large (map function_of l.functions)
