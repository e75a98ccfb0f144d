use Rattle.std.proofs.Common.{◌≡◌, drop}
use Rattle.c_ast.specs.Nesting as N
use Rattle.c_nesting.specs.NestingViews.{counts_of, AreWithin}
use Rattle.c_nesting.proofs.nesting.too_deep.Given as goal

-- each token adds one at the most, so no count overflows
abbrev pub invariant-loop-i : goal.invariant-loop-i
invariant-loop-i l = record {
  same : N.too_deep l.tokens ≡ N.first_deep (drop l.i l.tokens) (N.tops l.headed (counts_of l.counts) (drop l.i l.tokens));
  within : AreWithin l.i (counts_of l.counts);
}
