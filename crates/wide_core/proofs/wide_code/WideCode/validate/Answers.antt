use Rattle.std.proofs.Common.{◌∙◌, sym}
use Rattle.wide_core.proofs.Kept.{none_first}
use Rattle.wide_core.proofs.wide_code.WideCode.validate.Goals as goal

pub invariant_of-result : goal.invariant_of-result
invariant_of-result g c = none_first _ (sym c.in_ok-first.ensures ∙ c.in-None.is)

pub returns-in-None-clause-valid : goal.returns-in-None-clause-valid
returns-in-None-clause-valid g c = none_first _ (sym c.in_ok-first.ensures ∙ c.in-None.is)
