use Rattle.std.proofs.Common.{rules}
use Rattle.c_eval.proofs.Mains.{main_found}
use Rattle.c_eval.proofs.interpreting.number_of_main.Goals as goal

pub returns-then-is_main : goal.returns-then-is_main
returns-then-is_main c =
    main_found c.args.functions.now c.loop-i.i c.index-functions-i.result (search rules) (search rules) (search rules)
