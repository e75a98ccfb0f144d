use Rattle.first_code.proofs.Statements.{body_room, declared_room, body_goes_on}
use Rattle.first_code.proofs.maker.CodeMaker.body.Goals as goal

pub statement-requires : goal.statement-requires
statement-requires c =
    body_room c.args.self.now c.loop-stmt.self c.args.body.now c.loop-stmt.declared c.loop-stmt.stmt-index c.stmt-item.result c.place-self.result
    c.loop-stmt.invariant c.requires.room c.loop-stmt-test.true c.stmt-item.is

pub declared_after-declared-requires : goal.declared_after-declared-requires
declared_after-declared-requires c =
    declared_room c.args.self.now c.loop-stmt.self c.args.body.now c.loop-stmt.declared c.loop-stmt.stmt-index c.stmt-item.result c.loop-stmt.invariant
    c.requires.room c.loop-stmt-test.true c.stmt-item.is

pub loop-stmt-preserved : goal.loop-stmt-preserved
loop-stmt-preserved c =
    body_goes_on c.args.self.now c.loop-stmt.self c.statement.new.self c.args.body.now c.loop-stmt.declared c.loop-stmt.stmt-index c.stmt-item.result
    c.place-self.result c.loop-stmt.invariant c.loop-stmt-test.true c.stmt-item.is c.place-self.ensures c.in_ok-statement.ensures
    c.declared_after-declared.result c.declared_after-declared.ensures
