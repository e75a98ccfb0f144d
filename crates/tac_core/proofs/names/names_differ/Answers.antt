use Rattle.std.proofs.Common.{subst, ◌∙◌}
use Rattle.std.specs.List.Sorted.{IsPermutation}
use Rattle.tac_core.specs.Numbered.{unnumbered}
use Rattle.tac_core.proofs.Named.{neighbours_tell, back}
use Rattle.tac_core.proofs.names.names_differ.Goals as goal

pub returns-clause-answer : goal.returns-clause-answer
returns-clause-answer c =
    let by_name = c.sort_by_name.new.funcs in
    let moved = subst (λ numbers. IsPermutation numbers by_name) c.number.ensures c.sort_by_name.ensures.permutation in
    let told = neighbours_tell c.args.funcs.now by_name moved c.sort_by_name.ensures.sorted in
    let answer = c.rise_by_name-differ.ensures in
    (λ t. told.0 (answer.0 t), λ names. answer.1 (told.1 names))

pub returns-clause-kept : goal.returns-clause-kept
returns-clause-kept c =
    let by_name = c.sort_by_name.new.funcs in
    let moved = subst (λ numbers. IsPermutation numbers by_name) c.number.ensures c.sort_by_name.ensures.permutation in
    c.unnumber.ensures ∙ back c.args.funcs.now by_name c.sort_by_number.new.funcs c.requires.frames moved c.sort_by_number.ensures.permutation c.sort_by_number.ensures.sorted
