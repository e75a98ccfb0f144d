use Rattle.std.proofs.Common.{◌∙◌, sym, ap, slice_get}
use Rattle.wide_core.proofs.Kept.{new_number}
use Rattle.wide_core.specs.Valid.{broken}
use Rattle.wide_core.proofs.rules.Scope.broken_op.Goals as goal

pub returns-clause-numbers : goal.returns-clause-numbers
returns-clause-numbers c none =
    let first = c.first_broken.ensures ∙ ap (λ rules. slice_get (broken c.args.line rules) 0) (c.rules_of_op-rules.ensures c.args.numbers.now c.in_ok-is_new.ensures.added) in
    c.in_ok-is_new.ensures.numbers (c.in_ok-is_new.ensures.added ∙ new_number c.args.self.now c.args.numbers.now c.args.earlier.now c.args.op.now c.args.line (sym first ∙ none))
