use Rattle.std.proofs.Common.{◌∙◌, ap, sym}
use Rattle.tac_lowered.specs.Statements.{goes_on}
use Rattle.tac_trees.proofs.Rows.{block_tree}
use Rattle.tac_bodies.proofs.going.+going.Goals as goal

pub goes_on-returns-in-Block : goal.goes_on-returns-in-Block
goes_on-returns-in-Block t c =
    c.go_on.ensures ∙ ap goes_on (sym (block_tree c.args.stmt.now c.deref.result.now c.in-Block.stmts c.in-Block.is c.deref.ensures.value))
