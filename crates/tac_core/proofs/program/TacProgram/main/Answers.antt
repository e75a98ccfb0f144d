use Rattle.std.proofs.Common.{rules}
use Rattle.tac_core.proofs.Lists.{main_found}
use Rattle.tac_core.proofs.program.TacProgram.main.Goals as goal

pub returns-then-is_named_main-clause-is : goal.returns-then-is_named_main-clause-is
returns-then-is_named_main-clause-is c =
    main_found c.args.self.now.funcs c.loop-i.i c.func-item.result (search rules) (search rules) (search rules)
