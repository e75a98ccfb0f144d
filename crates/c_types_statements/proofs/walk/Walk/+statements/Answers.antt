use Rattle.std.proofs.Common.{rules, refl, sym, ap, true, ◌+◌, map, drop, subst, IfOk}
use Rattle.std.specs.Option.{option_map}
use Rattle.c_ast.specs.TreeViews as source
use Rattle.c_ast.specs.Trees as tree
use Rattle.c_typed.specs.Tree.{block as block_of}
use Rattle.c_types_operators.specs.Scopes.{inner}
use Rattle.c_types_expressions.specs.Expressions.{literals, tested_value}
use Rattle.c_types_statements.specs.Statements.{past, past_texts, past_start, literals_maybe, statement, statements, test_part, effect_part, start, with_start, with_names, if_of, if_else_of, while_of, do_of, for_of}
use Rattle.c_typed.specs.Views.{stmt_of}
use Rattle.c_types_homes.proofs.Blocks.{block_tree}
use Rattle.c_types_statements.specs.Keeping.{Types, past_all, with_names_of}
use Rattle.c_types_statements.proofs.Behind.{past_if, past_if_else, past_while, past_do, past_for, start_closes, statement_closes, statements_close}
use Rattle.c_types_statements.proofs.Left.{next_left, none_left, next_statement, next_lighter, no_more_statements}
use Rattle.c_types_statements.proofs.Typed.{makes, begins, entered, left, with_part, typed_as, scoped}
use Rattle.c_types_statements.proofs.walk.Walk.+statements.Goals as goal

pub inner-returns : goal.inner-returns
inner-returns t c =
    let s = source.stmt_of c.args.stmt.now in
    let around = c.args.context in
    typed_as refl c.in_ok-held.ensures
    (scoped (λ Γ at. with_names around.homes.now at.variable s Γ) (past s) (λ Γ at. statement around.result around.homes.now Γ at c.args.in_loop s)
    (statement_closes around.homes.now s) c.in_ok-enter.ensures c.in_ok-made.ensures c.leave.ensures)

pub block-returns : goal.block-returns
block-returns t c =
    let all = tree.stms (map source.stmt_of c.args.list.now) in
    let around = c.args.context in
    typed_as refl c.block.ensures
    (with_part (λ Γ at. Γ) (λ Γ at. past_all all at) (λ Γ at. statements around.result around.homes.now (inner Γ) at c.args.in_loop all) (makes (λ xs. block_of xs))
    (scoped (λ Γ at. with_names_of around.homes.now at.variable all Γ) (past_all all) (λ Γ at. statements around.result around.homes.now Γ at c.args.in_loop all)
    (statements_close around.homes.now all) c.in_ok-enter.ensures c.in_ok-rows.ensures c.leave.ensures))

pub stmts-loop-stmt-preserved : goal.stmts-loop-stmt-preserved
stmts-loop-stmt-preserved t c =
    let list = c.args.list.now in
    let i = c.loop-stmt.stmt-index in
    let x = source.stmt_of c.stmt-item.result in
    let rest = tree.stms (map source.stmt_of (drop (i + 1) list)) in
    let all = tree.stms (map source.stmt_of list) in
    let around = c.args.context in
    let is = ap tree.stms (next_left source.stmt_of list i c.stmt-item.result c.loop-stmt-test.true c.stmt-item.is) in record {
      so_far = next_statement around.result around.homes.now c.args.in_loop x rest all is c.loop-stmt.invariant.so_far c.in_ok-made.ensures c.in_ok-typed.ensures;
      lighter = next_lighter x rest all is c.loop-stmt.invariant.lighter;
    }

pub stmts-returns : goal.stmts-returns
stmts-returns t c =
    let around = c.args.context in
    no_more_statements around.result around.homes.now c.args.in_loop (tree.stms (map source.stmt_of c.args.list.now))
    (ap tree.stms (none_left source.stmt_of c.args.list.now c.loop-stmt.stmt-index c.loop-stmt-test.false)) c.loop-stmt.invariant.so_far

pub if_then-returns : goal.if_then-returns
if_then-returns t c =
    let x = source.expr_of c.args.test.now in
    let a = source.stmt_of c.args.body.now in
    let around = c.args.context in
    typed_as (past_if c.args.place x a c.args.self.now.at) c.if_then.ensures
    (with_part (λ Γ at. Γ) (λ Γ at. past a at) (λ Γ at. statement around.result around.homes.now (inner Γ) at c.args.in_loop a)
    (with_part (λ Γ at. Γ) (λ Γ at. past_texts (literals x) at) (λ Γ at. tested_value Γ at.texts x)
    (begins c.args.place if_of c.in_ok-number.ensures.number c.in_ok-number.ensures.noted) c.in_ok-x.ensures) c.in_ok-a.ensures)

pub if_else-returns : goal.if_else-returns
if_else-returns t c =
    let x = source.expr_of c.args.test.now in
    let a = source.stmt_of c.args.body.now in
    let b = source.stmt_of c.args.other.now in
    let around = c.args.context in
    typed_as (past_if_else c.args.place x a b c.args.self.now.at) c.if_else.ensures
    (with_part (λ Γ at. Γ) (λ Γ at. past b at) (λ Γ at. statement around.result around.homes.now (inner Γ) at c.args.in_loop b)
    (with_part (λ Γ at. Γ) (λ Γ at. past a at) (λ Γ at. statement around.result around.homes.now (inner Γ) at c.args.in_loop a)
    (with_part (λ Γ at. Γ) (λ Γ at. past_texts (literals x) at) (λ Γ at. tested_value Γ at.texts x)
    (begins c.args.place if_else_of c.in_ok-number.ensures.number c.in_ok-number.ensures.noted) c.in_ok-x.ensures) c.in_ok-a.ensures) c.in_ok-b.ensures)

pub while_loop-returns : goal.while_loop-returns
while_loop-returns t c =
    let x = source.expr_of c.args.test.now in
    let a = source.stmt_of c.args.body.now in
    let around = c.args.context in
    typed_as (past_while c.args.place x a c.args.self.now.at) c.while_loop.ensures
    (with_part (λ Γ at. Γ) (λ Γ at. past a at) (λ Γ at. statement around.result around.homes.now (inner Γ) at true a)
    (with_part (λ Γ at. Γ) (λ Γ at. past_texts (literals x) at) (λ Γ at. tested_value Γ at.texts x)
    (begins c.args.place while_of c.in_ok-number.ensures.number c.in_ok-number.ensures.noted) c.in_ok-x.ensures) c.in_ok-a.ensures)

pub do_while-returns : goal.do_while-returns
do_while-returns t c =
    let x = source.expr_of c.args.test.now in
    let a = source.stmt_of c.args.body.now in
    let around = c.args.context in
    typed_as (past_do c.args.place a x c.args.self.now.at) c.do_while.ensures
    (with_part (λ Γ at. Γ) (λ Γ at. past_texts (literals x) at) (λ Γ at. tested_value Γ at.texts x)
    (with_part (λ Γ at. Γ) (λ Γ at. past a at) (λ Γ at. statement around.result around.homes.now (inner Γ) at true a)
    (begins c.args.place do_of c.in_ok-number.ensures.number c.in_ok-number.ensures.noted) c.in_ok-a.ensures) c.in_ok-x.ensures)

pub for_loop-returns : goal.for_loop-returns
for_loop-returns t c =
    let s = source.start_of c.args.start.now in
    let x = source.part_of c.args.test.now in
    let y = source.part_of c.args.next.now in
    let a = source.stmt_of c.args.body.now in
    let around = c.args.context in
    typed_as (past_for c.args.place s x y a c.args.self.now.at) c.for_loop.ensures
    (left (with_start around.homes.now c.args.self.now.at.variable s) (start_closes around.homes.now c.args.self.now.at.variable s)
    (with_part (λ Γ at. Γ) (λ Γ at. past a at) (λ Γ at. statement around.result around.homes.now (inner Γ) at true a)
    (with_part (λ Γ at. Γ) (λ Γ at. past_texts (literals_maybe y) at) (λ Γ at. effect_part Γ at.texts y)
    (with_part (λ Γ at. Γ) (λ Γ at. past_texts (literals_maybe x) at) (λ Γ at. test_part Γ at.texts x)
    (with_part (λ Γ at. with_start around.homes.now at.variable s Γ) (λ Γ at. past_start s at) (λ Γ at. start around.homes.now Γ at.variable at.texts s)
    (entered (begins c.args.place for_of c.in_ok-number.ensures.number c.in_ok-number.ensures.noted) c.in_ok-enter.ensures)
    c.in_ok-first.ensures) c.in_ok-x.ensures) c.in_ok-y.ensures) c.in_ok-a.ensures) c.leave.ensures)

pub stmt-returns-in-Block : goal.stmt-returns-in-Block
stmt-returns-in-Block t c =
    let old = c.args.self.now in
    let around = c.args.context in
    subst (λ s. IfOk c.block.result (λ answer.
    Types old c.block.new.self (with_names around.homes.now old.at.variable s old.scope) (past s old.at)
    (statement around.result around.homes.now old.scope old.at c.args.in_loop s) (option_map stmt_of answer)))
    (block_tree c.args.stmt.now c.deref.result.now c.in-Block.place c.in-Block.stmts c.in-Block.is (search rules)) c.block.ensures

pub stmt-returns-in-Return : goal.stmt-returns-in-Return
stmt-returns-in-Return t c =
    let old = c.args.self.now in
    let around = c.args.context in
    subst (λ s. IfOk c.return_stmt.result (λ answer.
    Types old c.return_stmt.new.self (with_names around.homes.now old.at.variable (source.stmt_of s) old.scope) (past (source.stmt_of s) old.at)
    (statement around.result around.homes.now old.scope old.at c.args.in_loop (source.stmt_of s)) (option_map stmt_of answer)))
    (sym c.in-Return.is) c.return_stmt.ensures
