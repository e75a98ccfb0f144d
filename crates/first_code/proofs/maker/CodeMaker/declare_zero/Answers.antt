use Rattle.first_code.proofs.Progress.{makes_two}
use Rattle.first_code.proofs.Parts.{on_ok}
use Rattle.first_code.proofs.maker.CodeMaker.declare_zero.Goals as goal

pub returns : goal.returns
returns c = on_ok c.emit-2.result (makes_two c.args.self.now c.emit.new.self c.emit-2.new.self _ _ c.in_ok-emit.ensures) c.emit-2.ensures
