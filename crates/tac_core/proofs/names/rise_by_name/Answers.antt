use Rattle.std.proofs.Common.{rules, is_lt}
use Rattle.std.proofs.lemmas.List.Sorted.{answers_always}
use Rattle.tac_core.specs.Numbered.{name_cmp}
use Rattle.tac_core.proofs.Named.{rise_answer}
use Rattle.tac_core.proofs.names.rise_by_name.Goals as goal

pub returns : goal.returns
returns c = rise_answer _ _ (c.is_sorted_by.ensures.cases (λ f g. is_lt (name_cmp f g)) (answers_always _ _ _ (λ f a r g h. search rules)))
