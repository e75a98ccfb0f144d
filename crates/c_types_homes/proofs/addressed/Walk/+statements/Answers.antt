use Rattle.std.proofs.Common.{rules, ◌+◌, ◌++◌, length, map, subst, OnOk}
use Rattle.c_ast.specs.Trees.{stms}
use Rattle.c_ast.specs.TreeViews.{start_of, part_of, stmt_of}
use Rattle.c_scopes.specs.Scopes.{entered}
use Rattle.c_types_homes.specs.Addressed.{started_in, taken_head, taken_in, variables, taken_in_all, with_names, with_names_of, with_start}
use Rattle.c_types_homes.proofs.Blocks.{by_start, by_statement, block_tree, by_statements, scoped}
use Rattle.c_types_homes.specs.Walking.{Walks}
use Rattle.c_types_homes.proofs.addressed.Walk.+statements.Goals as goal

pub block-returns : goal.block-returns
block-returns t c =
    let all = stms (map stmt_of c.args.list.now) in
    scoped _ _ _ _ (with_names_of all) _ (λ k names. taken_in_all names k all) (by_statements all) c.in_ok-enter.ensures c.in_ok-stmts.ensures c.leave.ensures

pub for_loop-returns : goal.for_loop-returns
for_loop-returns t c =
    let start = start_of c.args.start.now in
    scoped _ _ _ _ (with_start start) _
    (λ k names. taken_head start (part_of c.args.test.now) (part_of c.args.next.now) k names ++ taken_in (entered (with_start start k names)) (k + length (started_in start)) (stmt_of c.args.body.now))
    (by_start start) c.in_ok-enter.ensures c.in_ok-for_parts.ensures c.leave.ensures

pub inner-returns : goal.inner-returns
inner-returns t c =
    let s = stmt_of c.args.stmt.now in
    scoped _ _ _ _ (with_names s) _ (λ k names. taken_in names k s) (by_statement s) c.in_ok-enter.ensures c.in_ok-stmt.ensures c.leave.ensures

pub stmt-returns-in-Block : goal.stmt-returns-in-Block
stmt-returns-in-Block t c =
    let old = c.args.self.now in
    subst (λ s. OnOk c.block.result (Walks old c.block.new.self (with_names s old.next old.names) (variables s) (taken_in old.names old.next s)))
    (block_tree c.args.stmt.now c.deref.result.now c.in-Block.place c.in-Block.stmts c.in-Block.is (search rules)) c.block.ensures
