use Rattle.std.proofs.Common.{sym, ◌∙◌, length, arith}
use Rattle.c_lex.proofs.Numbers.{too_large_next, more_digits, more_value, all_digits, some_digits}
use Rattle.c_lex.proofs.number.digits_value.Goals as goal

pub returns-in_err-value-clause-value : goal.returns-in_err-value-clause-value
returns-in_err-value-clause-value c =
    c.from_residual-in_err-value.ensures ∙ sym (too_large_next c.args.base c.args.digits.now c.loop-b.b-index c.loop-b.value c.in_ok-digit.digit
    (omega arith) (omega arith) c.loop-b.invariant.value c.in_ok-digit.ensures.0 c.in_err-value.ensures)

pub loop-b-preserved : goal.loop-b-preserved
loop-b-preserved c = record {
  digits = more_digits c.args.base c.args.digits.now c.loop-b.b-index c.in_ok-digit.digit (omega arith) c.in_ok-digit.ensures.0 c.in_ok-digit.ensures.1 c.loop-b.invariant.digits;
  value = c.in_ok-value.ensures.0 ∙ more_value c.args.base c.args.digits.now c.loop-b.b-index c.loop-b.value c.in_ok-digit.digit (omega arith) c.loop-b.invariant.value c.in_ok-digit.ensures.0;
  small = c.in_ok-value.ensures.1;
}

pub returns-clause-value : goal.returns-clause-value
returns-clause-value c =
    all_digits c.args.base c.args.digits.now c.loop-b.b-index c.loop-b.value (some_digits (length c.args.digits.now) (sym c.if-is_empty.ensures)) (omega arith) c.loop-b.invariant.digits c.loop-b.invariant.value c.loop-b.invariant.small
