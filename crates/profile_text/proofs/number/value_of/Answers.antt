use Rattle.std.proofs.Common.{rules, arith}
use Rattle.profile_text.proofs.Numbers.{too_great, all_read}
use Rattle.profile_text.proofs.number.value_of.Goals as goal

pub returns-in-None : goal.returns-in-None
returns-in-None c = too_great c.args.digits.now c.loop-digit.digit-index c.loop-digit.value 0 c.loop-digit-test.true c.loop-digit.invariant.0 (search rules)

pub returns : goal.returns
returns c = all_read c.args.digits.now c.loop-digit.digit-index c.loop-digit.value (omega arith) c.loop-digit.invariant.0 c.loop-digit.invariant.2
