use Rattle.std.proofs.Common.{◌∙◌, sym, ap, refl, arith}
use Rattle.wide_core.specs.declared.code.Word.{Word}
use Rattle.wide_core.specs.Valid.{limits}
use Rattle.wide_core.proofs.Scans.{none_of, word_found, word_passed, word_numbers, word_lines}
use Rattle.wide_core.proofs.valid.broken_words.Goals as goal

pub returns-then-is_some-clause-first : goal.returns-then-is_some-clause-first
returns-then-is_some-clause-first g c =
    let ops_is = c.as_slice-ops.ensures ∙ ap (λ (w : Word). w.ops) c.index-words-i.is in
    word_found (limits g.M.Machine.WIDTH g.M.Machine.REGS g.M.Machine.units_of) c.args.scope.now c.loop-i.numbers c.args.words.now c.loop-i.i c.loop-i.at c.index-words-i.result c.as_slice-ops.result.now c.loop-i-test.true ops_is _ refl c.in_ok-first.first c.in_ok-first.ensures.first
    (sym c.is_some.ensures ∙ c.if-is_some.true)
    ∙ c.loop-i.invariant.first

pub loop-i-preserved : goal.loop-i-preserved
loop-i-preserved g c =
    let ops_is = c.as_slice-ops.ensures ∙ ap (λ (w : Word). w.ops) c.index-words-i.is in
    let passed = sym c.is_some.ensures ∙ c.if-is_some.false in
    let added = c.in_ok-first.ensures.numbers (none_of c.in_ok-first.first passed) in
    let lines = word_lines c.args.words.now c.loop-i.i c.index-words-i.result c.as_slice-ops.result.now c.loop-i-test.true ops_is in
    record {
      first = word_passed (limits g.M.Machine.WIDTH g.M.Machine.REGS g.M.Machine.units_of) c.args.scope.now c.loop-i.numbers c.args.words.now c.loop-i.i c.loop-i.at c.index-words-i.result c.as_slice-ops.result.now c.loop-i-test.true ops_is _ refl c.in_ok-first.first c.in_ok-first.ensures.first
          _ _ passed added (omega arith)
          ∙ c.loop-i.invariant.first;
      numbers = word_numbers c.args.words.now c.loop-i.i c.index-words-i.result c.as_slice-ops.result.now c.loop-i-test.true ops_is c.loop-i.numbers _ added
          ∙ c.loop-i.invariant.numbers;
      lines = omega (arith, lines, c.loop-i.invariant.lines);
    }
