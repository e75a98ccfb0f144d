use Rattle.std.proofs.Common.{◌∙◌, ◌+◌, sym, arith}
use Rattle.wide_core.proofs.Scans.{none_of, op_found, op_passed, op_numbers}
use Rattle.wide_core.proofs.valid.broken_ops.Goals as goal

pub returns-then-is_some-clause-first : goal.returns-then-is_some-clause-first
returns-then-is_some-clause-first c =
    op_found c.args.scope.now c.loop-i.numbers c.args.ops.now c.loop-i.i _ c.index-ops-i.result c.loop-i-test.true c.index-ops-i.is c.in_ok-first.first c.in_ok-first.ensures.first (sym c.is_some.ensures ∙ c.if-is_some.true)
    ∙ c.loop-i.invariant.first

pub loop-i-preserved : goal.loop-i-preserved
loop-i-preserved c =
    let passed = sym c.is_some.ensures ∙ c.if-is_some.false in
    let added = c.in_ok-first.ensures.numbers (none_of c.in_ok-first.first passed) in
    record {
      first = op_passed c.args.scope.now c.loop-i.numbers c.args.ops.now c.loop-i.i _ c.index-ops-i.result c.loop-i-test.true c.index-ops-i.is c.in_ok-first.first c.in_ok-first.ensures.first _ _ passed added (omega arith)
          ∙ c.loop-i.invariant.first;
      numbers = op_numbers c.args.scope.now c.loop-i.numbers c.args.ops.now c.loop-i.i (c.args.line + c.loop-i.i) c.index-ops-i.result c.loop-i-test.true c.index-ops-i.is c.in_ok-first.first c.in_ok-first.ensures.first _ added
          ∙ c.loop-i.invariant.numbers;
    }
