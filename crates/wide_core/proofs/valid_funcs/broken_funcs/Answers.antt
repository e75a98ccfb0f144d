use Rattle.std.proofs.Common.{◌∙◌, ◌+◌, sym, ap, arith}
use Rattle.wide_core.specs.Valid.{limits}
use Rattle.wide_core.proofs.Scans.{none_of, func_found, func_passed, func_lines}
use Rattle.wide_core.proofs.valid_funcs.broken_funcs.Goals as goal

pub returns-then-is_some : goal.returns-then-is_some
returns-then-is_some g c =
    func_found (limits g.M.Machine.WIDTH g.M.Machine.REGS g.M.Machine.units_of) c.args.funcs.now c.loop-func.seen.names c.loop-func.seen.numbers c.args.funcs.now c.loop-func.func-index c.loop-func.at c.func-item.result c.loop-func-test.true c.func-item.is c.in_ok-first.first c.in_ok-first.ensures.first
    (sym c.is_some.ensures ∙ c.if-is_some.true)
    ∙ c.loop-func.invariant.first

pub loop-func-preserved : goal.loop-func-preserved
loop-func-preserved g c =
    let passed = sym c.is_some.ensures ∙ c.if-is_some.false in
    let none = none_of c.in_ok-first.first passed in
    let lines = func_lines c.args.funcs.now c.loop-func.func-index c.func-item.result c.loop-func-test.true c.func-item.is in
    record {
      first = func_passed (limits g.M.Machine.WIDTH g.M.Machine.REGS g.M.Machine.units_of) c.args.funcs.now c.loop-func.seen.names c.loop-func.seen.numbers c.args.funcs.now c.loop-func.func-index c.loop-func.at c.func-item.result c.loop-func-test.true c.func-item.is c.in_ok-first.first c.in_ok-first.ensures.first
          _ _ _ passed (c.in_ok-first.ensures.names none) (c.in_ok-first.ensures.numbers none) (ap (λ n. c.loop-func.at + n) c.lines_of_func-at.ensures)
          ∙ c.loop-func.invariant.first;
      lines = omega (arith, lines, c.lines_of_func-at.ensures, c.loop-func.invariant.lines);
    }
