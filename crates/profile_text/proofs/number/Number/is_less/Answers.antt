use Rattle.std.proofs.Common.{rules, arith, ◌∙◌}
use Rattle.profile_text.proofs.Numbers.{first_less, first_more, same_length, not_equal}
use Rattle.profile_text.proofs.number.Number.is_less.Goals as goal

pub returns-then-digits-others : goal.returns-then-digits-others
returns-then-digits-others c = first_less c.self.inside.digits.now c.other.inside.digits.now _ _ (search rules) (search rules) c.self.invariant c.other.invariant c.if-digits-others.true

pub returns-then-digits-others-2 : goal.returns-then-digits-others-2
returns-then-digits-others-2 c = c.is_less.ensures ∙ same_length c.self.inside.digits.now c.other.inside.digits.now _ _ (search rules) (search rules) c.self.invariant c.other.invariant c.if-digits-others-2.true

pub returns-else-digits-others-2 : goal.returns-else-digits-others-2
returns-else-digits-others-2 c = not_equal _ _ c.if-digits-others-2.false ∙ first_more c.self.inside.digits.now c.other.inside.digits.now _ _ (search rules) (search rules) c.self.invariant c.other.invariant (omega arith)
