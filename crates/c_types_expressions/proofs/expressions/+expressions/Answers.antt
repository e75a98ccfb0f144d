use Rattle.std.proofs.Common.{rules, ◌≡◌, refl, sym, ap, ◌∙◌, subst, true, false, [], ◌++◌, IfOk}
use Rattle.std.specs.Prelude.{map, if◌then◌else◌}
use Rattle.std.specs.Option.{option_map}
use Rattle.c_typed.specs.declared.rule.Rule.TheVariants.{WrongOperands}
use Rattle.c_types_operators.specs.ScopeViews.{meant_of}
use Rattle.c_ast.specs.Trees as tree
use Rattle.c_ast.specs.TreeViews as source
use Rattle.c_typed.specs.Tree as typed
use Rattle.c_typed.specs.ValueTypes.{int, long}
use Rattle.c_typed.specs.Views.{expr_of, list_exps}
use Rattle.c_types_operators.specs.Rules.{Fine, pair}
use Rattle.c_types_operators.specs.Scopes.{found}
use Rattle.c_types_operators.specs.Operators.{is_logical, rest_of, gives_nothing, a_value}
use Rattle.c_types_expressions.specs.Expressions.{designated, value, call_in, tested_value, literals}
use Rattle.c_types_operators.specs.Judging.{Judges}
use Rattle.c_types_operators.specs.Views.{designated_of}
use Rattle.c_types_operators.proofs.JudgingLemmas.{fine, paired_when, misplaced_first}
use Rattle.c_types_expressions.proofs.ArgumentLemmas.{drop-next, next_argument}
use Rattle.c_types_expressions.proofs.ListNodes.{call_tree, comma_tree, judged_call, judged_literal}
use Rattle.c_types_expressions.proofs.expressions.+expressions.Goals as goal

pub designated-returns-in-Number : goal.designated-returns-in-Number
designated-returns-in-Number t c =
    let made = c.literal in
    let e : typed.constant (if c.in-Number.long then long else int) c.in-Number.value ≡ expr_of c.number.result = search rules in
    rw c.in-Number.is
    (subst (λ x. IfOk made.result (λ answer. Judges designated_of c.args.notes.now [] (Fine (a_value x)) answer c.args.notes.now)) (sym e) (judged_literal c.args.notes.now _ made.result made.ensures))

pub designated-returns-in-Char : goal.designated-returns-in-Char
designated-returns-in-Char t c =
    let made = c.literal-in-Char in
    rw c.in-Char.is
    (subst (λ x. IfOk made.result (λ answer. Judges designated_of c.args.notes.now [] (Fine (a_value x)) answer c.args.notes.now)) c.character.ensures (judged_literal c.args.notes.now _ made.result made.ensures))

pub designated-returns-in-Null : goal.designated-returns-in-Null
designated-returns-in-Null t c =
    let made = c.literal-in-Null in
    rw c.in-Null.is
    (subst (λ x. IfOk made.result (λ answer. Judges designated_of c.args.notes.now [] (Fine (a_value x)) answer c.args.notes.now)) c.null.ensures (judged_literal c.args.notes.now _ made.result made.ensures))

pub designated-returns-in-Eof : goal.designated-returns-in-Eof
designated-returns-in-Eof t c =
    let made = c.literal-in-Eof in
    rw c.in-Eof.is
    (subst (λ x. IfOk made.result (λ answer. Judges designated_of c.args.notes.now [] (Fine (a_value x)) answer c.args.notes.now)) c.end_of_file.ensures (judged_literal c.args.notes.now _ made.result made.ensures))

pub designated-returns-in-Call : goal.designated-returns-in-Call
designated-returns-in-Call t c =
    subst (λ e. IfOk c.called_value.result (λ answer. Judges designated_of c.args.notes.now (literals e) (designated c.args.scope.now c.args.notes.now.texts e) answer c.called_value.new.notes))
    (call_tree c.args.e.now c.deref.result.now c.in-Call.place c.in-Call.name c.in-Call.arguments c.in-Call.is (search rules)) c.called_value.ensures

pub designated-returns-in-Comma : goal.designated-returns-in-Comma
designated-returns-in-Comma t c =
    subst (λ e. IfOk c.comma.result (λ answer. Judges designated_of c.args.notes.now (literals e) (designated c.args.scope.now c.args.notes.now.texts e) answer c.comma.new.notes))
    (comma_tree c.args.e.now c.deref-in-Comma.result.now c.in-Comma.place c.in-Comma.parts c.in-Comma.is (search rules)) c.comma.ensures

pub designated-returns-in-Index : goal.designated-returns-in-Index
designated-returns-in-Index t c =
    let is : tree.index c.in-Index.place (source.expr_of c.deref-in-Index.result.now) (source.expr_of c.deref-in-Index-2.result.now) ≡ source.expr_of c.args.e.now
    = rw (c.in-Index.is, c.deref-in-Index.ensures, c.deref-in-Index-2.ensures) refl in
    subst (λ e. IfOk c.indexed.result (λ answer. Judges designated_of c.args.notes.now (literals e) (designated c.args.scope.now c.args.notes.now.texts e) answer c.indexed.new.notes)) is c.indexed.ensures

pub designated-returns-in-Binary : goal.designated-returns-in-Binary
designated-returns-in-Binary t c =
    let is : tree.binary c.in-Binary.place c.in-Binary.op (source.expr_of c.deref-in-Binary.result.now) (source.expr_of c.deref-in-Binary-2.result.now) ≡ source.expr_of c.args.e.now
    = rw (c.in-Binary.is, c.deref-in-Binary.ensures, c.deref-in-Binary-2.ensures) refl in
    subst (λ e. IfOk c.binary.result (λ answer. Judges designated_of c.args.notes.now (literals e) (designated c.args.scope.now c.args.notes.now.texts e) answer c.binary.new.notes)) is c.binary.ensures

pub designated-returns-in-Conditional : goal.designated-returns-in-Conditional
designated-returns-in-Conditional t c =
    let is : tree.conditional c.in-Conditional.place (source.expr_of c.deref-in-Conditional.result.now) (source.expr_of c.deref-in-Conditional-2.result.now) (source.expr_of c.deref-in-Conditional-3.result.now) ≡ source.expr_of c.args.e.now
    = rw (c.in-Conditional.is, c.deref-in-Conditional.ensures, c.deref-in-Conditional-2.ensures, c.deref-in-Conditional-3.ensures) refl in
    subst (λ e. IfOk c.conditional.result (λ answer. Judges designated_of c.args.notes.now (literals e) (designated c.args.scope.now c.args.notes.now.texts e) answer c.conditional.new.notes)) is c.conditional.ensures

pub designated-returns-in-Assign : goal.designated-returns-in-Assign
designated-returns-in-Assign t c =
    let is : tree.assign c.in-Assign.place c.in-Assign.op (source.expr_of c.deref-in-Assign.result.now) (source.expr_of c.deref-in-Assign-2.result.now) ≡ source.expr_of c.args.e.now
    = rw (c.in-Assign.is, c.deref-in-Assign.ensures, c.deref-in-Assign-2.ensures) refl in
    subst (λ e. IfOk c.assign.result (λ answer. Judges designated_of c.args.notes.now (literals e) (designated c.args.scope.now c.args.notes.now.texts e) answer c.assign.new.notes)) is c.assign.ensures

pub value-returns : goal.value-returns
value-returns t c = (c.in_ok-answer.ensures _).carries _ _ _ c.in_ok-what.ensures

pub tested_value-returns : goal.tested_value-returns
tested_value-returns t c = c.tested.ensures.carries _ _ _ c.in_ok-x.ensures

pub postfix-returns : goal.postfix-returns
postfix-returns t c = c.in_ok-answer.ensures.carries _ _ _ c.in_ok-what.ensures

pub unary-returns : goal.unary-returns
unary-returns t c = c.in_ok-answer.ensures.carries _ _ _ c.in_ok-what.ensures

pub cast-returns : goal.cast-returns
cast-returns t c = rw (← c.in_ok-to.ensures) (c.in_ok-answer.ensures.carries _ _ _ c.in_ok-x.ensures)

pub indexed-returns : goal.indexed-returns
indexed-returns t c =
    c.in_ok-answer.ensures.carries _ _ _ _ _ (λ texts. value c.args.scope.now texts (source.expr_of c.args.index.now))
    c.in_ok-what.ensures c.in_ok-i.ensures

pub binary-returns-then-is_logical : goal.binary-returns-then-is_logical
binary-returns-then-is_logical t c =
    let e : is_logical c.args.op ≡ true = cc in
    rw e ((c.in_ok-answer.ensures _).carries _ _ _ _ _ (λ texts. tested_value c.args.scope.now texts (source.expr_of c.args.right.now)) c.in_ok-x.ensures c.in_ok-y.ensures)

pub binary-returns : goal.binary-returns
binary-returns t c =
    let e : is_logical c.args.op ≡ false = cc in
    rw e (c.in_ok-answer-2.ensures.carries _ _ _ _ _ (λ texts. value c.args.scope.now texts (source.expr_of c.args.right.now)) c.in_ok-x-2.ensures c.in_ok-y-2.ensures)

pub assign-returns : goal.assign-returns
assign-returns t c =
    c.in_ok-answer.ensures.carries _ _ _ _ _ (λ texts. value c.args.scope.now texts (source.expr_of c.args.right.now))
    (c.in_ok-at.ensures.carries _ _ _ c.in_ok-what.ensures) c.in_ok-x.ensures

pub conditional-returns : goal.conditional-returns
conditional-returns t c =
    let Γ = c.args.scope.now in
    let d = source.expr_of c.args.«then».now in
    let e = source.expr_of c.args.other.now in
    c.in_ok-answer.ensures.carries _ _ _ _ _ (λ texts. pair (value Γ texts d) (value Γ (texts ++ literals d) e)) c.in_ok-tested.ensures
    (paired_when (λ texts. value Γ texts e) c.both-branches.ensures c.in_ok-x.ensures c.in_ok-y.ensures)

pub arguments-loop-e-init : goal.arguments-loop-e-init
arguments-loop-e-init t c = record {
  left = refl;
  judged = fine _ (ap (λ xs. Fine (list_exps xs)) (sym c.new.ensures.items)) refl;
}

pub arguments-loop-e-preserved : goal.arguments-loop-e-preserved
arguments-loop-e-preserved t c = record {
  left = c.rest_of-left.ensures ∙ ap rest_of c.loop-e.invariant.left ∙ drop-next c.loop-e.e-index c.args.wanted.now;
  judged = next_argument c.args.scope.now c.args.wanted.now c.loop-e.left.now c.args.list.now c.loop-e.e-index c.e-item.result c.loop-e-test.true c.e-item.is c.loop-e.invariant.left
      c.loop-e.invariant.judged c.in_ok-x.ensures c.in_ok-given.ensures c.in_ok-typed.ensures;
}

pub call-returns : goal.call-returns
call-returns t c =
    judged_call c.args.scope.now c.args.place c.args.name.now c.args.list.now c.wanted.result.now c.find-meant.result
    (c.find-meant.ensures ∙ ap (λ name. found name c.args.scope.now) c.list.ensures) c.wanted.ensures c.called-function.ensures c.in_ok-typed.ensures (c.in_ok-answer.ensures _)

pub called_value-returns-then-gives_nothing : goal.called_value-returns-then-gives_nothing
called_value-returns-then-gives_nothing t c =
    let means : option_map meant_of c.find-meant.result ≡ found c.args.name.now c.args.scope.now = c.find-meant.ensures ∙ ap (λ name. found name c.args.scope.now) c.list.ensures in
    let e : gives_nothing (found c.args.name.now c.args.scope.now) ≡ true = ap gives_nothing (sym means) ∙ (sym c.gives_nothing.ensures ∙ c.if-gives_nothing.true) in
    rw e (misplaced_first (λ texts. call_in c.args.scope.now texts c.args.place c.args.name.now (tree.exps (map source.expr_of c.args.list.now))) WrongOperands c.args.place c.breaks.ensures c.in_ok-unused.ensures)

pub called_value-returns : goal.called_value-returns
called_value-returns t c =
    let means : option_map meant_of c.find-meant.result ≡ found c.args.name.now c.args.scope.now = c.find-meant.ensures ∙ ap (λ name. found name c.args.scope.now) c.list.ensures in
    let e : gives_nothing (found c.args.name.now c.args.scope.now) ≡ false = ap gives_nothing (sym means) ∙ (sym c.gives_nothing.ensures ∙ c.if-gives_nothing.false) in
    rw e ((c.as_value.ensures _).carries _ _ _ c.in_ok-x.ensures)

pub comma-returns : goal.comma-returns
comma-returns t c = (c.as_value.ensures _).carries _ _ _ (c.in_ok-x.ensures.carries _ _ _ c.in_ok-typed.ensures)
