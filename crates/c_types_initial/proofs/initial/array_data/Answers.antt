use Rattle.std.proofs.Common.{◌≡◌, refl, map, ap, sym, length, nat_lt, rules}
use Rattle.std.proofs.lemmas.List.{length-map}
use Rattle.c_ast.specs.TreeViews.{expr_of}
use Rattle.c_typed.specs.declared.rule.Rule.TheVariants.{WrongInitialiser}
use Rattle.c_types_operators.specs.Rules.{Fine}
use Rattle.c_types_operators.proofs.JudgingLemmas.{fine}
use Rattle.c_types_initial.specs.Constants.{data_of}
use Rattle.c_types_initial.proofs.AlsoLemmas.{also_judged}
use Rattle.c_types_initial.proofs.initial.array_data.Goals as goal

pub returns-in-Nothing : goal.returns-in-Nothing
returns-in-Nothing c = rw c.in-Nothing.is (fine _ (ap (λ l. Fine l) (sym c.new.ensures)) refl)

pub returns-in-Value : goal.returns-in-Value
returns-in-Value c = rw c.in-Value.is c.array_given.ensures

pub returns-in_ok-held-in-List : goal.returns-in_ok-held-in-List
returns-in_ok-held-in-List c =
    let es = map expr_of c.in-List.list.items in
    let count : c.len.result ≡ length es = rw length-map (search rules) in
    rw c.in-List.is
    (also_judged (nat_lt c.args.count c.len.result) (nat_lt c.args.count (length es)) WrongInitialiser c.args.place
    (λ texts. data_of c.args.scope.now texts c.args.place c.args.ty es)
    (ap (λ n. nat_lt c.args.count n) count) c.note_if.ensures (rw c.deref.ensures.value at c.in_ok-held-in-List.ensures) c.unless-answer.ensures)
