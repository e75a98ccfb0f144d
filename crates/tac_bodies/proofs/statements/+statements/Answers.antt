use Rattle.std.proofs.Common.{◌≡◌, ◌∙◌, ap, sym, subst, map, take, IfOk, arith}
use Rattle.std.proofs.lemmas.List.{take_all}
use Rattle.c_typed.specs.Tree.{block, stms}
use Rattle.c_typed.specs.Views.{stmt_of}
use Rattle.c_program.specs.Checked.{program}
use Rattle.tac_lowered.specs.Statements.{low_stm, low_stms}
use Rattle.tac_code.specs.Views.{boxed_of, code_of, nested}
use Rattle.tac_trees.proofs.Rows.{block_tree}
use Rattle.tac_bodies.proofs.Blocks.{code_in, row_of_stms, member_weighs, last_weighs}
use Rattle.tac_bodies.proofs.statements.+statements.Goals as goal

pub low_stm-returns-in-Block : goal.low_stm-returns-in-Block
low_stm-returns-in-Block t c =
    let is : block (stms (map stmt_of c.deref.result.now)) ≡ stmt_of c.args.stmt.now = sym (block_tree c.args.stmt.now c.deref.result.now c.in-Block.stmts c.in-Block.is c.deref.ensures.value) in
    subst (λ b. IfOk c.low_stms.result (λ made. boxed_of made ≡ low_stm (program c.args.program.now) b c.args.free)) is c.low_stms.ensures

pub low_stms-returns-in_ok-last-in-Some : goal.low_stms-returns-in_ok-last-in-Some
low_stms-returns-in_ok-last-in-Some t c =
    let p = program c.args.program.now in
    let r = c.args.free in
    let first = c.in-Some.first.now in
    let last = c.in-Some.last.now in
    let whole : take c.loop-stmt.stmt-index first ≡ first = take_all c.loop-stmt.stmt-index first c.loop-stmt-test.false in
    let done : map code_of c.loop-stmt.made.items ≡ map (code_in p r) first = c.loop-stmt.invariant ∙ ap (λ l. map (code_in p r) l) whole in
    let all : nested (map code_of c.loop-stmt.made.items) (boxed_of c.in_ok-last-in-Some.last) ≡ low_stms p (stms (map stmt_of c.args.list.now)) r
    = ap (λ l. nested l (boxed_of c.in_ok-last-in-Some.last)) done ∙ ap (λ b. nested (map (code_in p r) first) b) c.in_ok-last-in-Some.ensures ∙ row_of_stms p r c.args.list.now last first c.in-Some.ensures in
    subst (λ x. IfOk c.row.result (λ made. boxed_of made ≡ x)) all c.row.ensures

pub low_stms-low_stm-requires : goal.low_stms-low_stm-requires
low_stms-low_stm-requires t c =
    let e1 = member_weighs c.in-Some.first.now c.loop-stmt.stmt-index c.stmt-item.result c.loop-stmt-test.true c.stmt-item.is in
    let e2 = last_weighs c.args.list.now c.in-Some.last.now c.in-Some.first.now c.in-Some.ensures in
    (omega (arith, e1, e2, c.decreases), tt)

pub low_stms-low_stm-requires-in-Some : goal.low_stms-low_stm-requires-in-Some
low_stms-low_stm-requires-in-Some t c =
    let e2 = last_weighs c.args.list.now c.in-Some.last.now c.in-Some.first.now c.in-Some.ensures in
    (omega (arith, e2, c.decreases), tt)
