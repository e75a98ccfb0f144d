use Rattle.std.proofs.Common.{◌≡◌, ◌<◌, List, ℕ, Some, length, sym, ap, ◌∙◌, subst, arith}
use Rattle.std.specs.Prelude.{slice_get}
use Rattle.tac_core.specs.declared.code.Block.{Block}
use Rattle.tail_dup.specs.Duplicated.{AreCopies}
use Rattle.tail_dup.specs.Tables.{AreBefore, AreCopyLabels}
use Rattle.tail_dup.proofs.Leads.{chosen_by}
use Rattle.tail_dup.proofs.Whole.{copies_within}
use Rattle.tail_dup.proofs.function.tables_of.Goals as goal

pub copies_of-requires : goal.copies_of-requires
copies_of-requires c k l is =
    let chosen : AreCopies c.args.func.now c.args.chains.now c.in_ok-copied.copied =
    chosen_by c.args.func.now c.args.chains.now c.as_slice-blocks.result.now c.in_ok-before.before c.as_slice.result.now c.in_ok-entered.entered c.as_slice-2.result.now c.in_ok-copied.copied
    c.requires.chained c.as_slice-blocks.ensures c.in_ok-before.ensures c.as_slice.ensures c.in_ok-entered.ensures c.as_slice-2.ensures c.in_ok-copied.ensures in
    subst (λ (z : List Block). l < length z) (sym c.as_slice-blocks.ensures)
    (copies_within c.args.func.now c.args.chains.now c.in_ok-copied.copied c.requires.chained chosen k l (subst (λ z. slice_get z k ≡ Some l) c.as_slice-3.ensures is))

pub returns : goal.returns
returns c = record {
  priors = subst (λ (z : List Block). AreBefore (length z) c.args.chains.now c.in_ok-before.before) c.as_slice-blocks.ensures c.in_ok-before.ensures;
  chosen =
      chosen_by c.args.func.now c.args.chains.now c.as_slice-blocks.result.now c.in_ok-before.before c.as_slice.result.now c.in_ok-entered.entered c.as_slice-2.result.now c.in_ok-copied.copied
      c.requires.chained c.as_slice-blocks.ensures c.in_ok-before.ensures c.as_slice.ensures c.in_ok-entered.ensures c.as_slice-2.ensures c.in_ok-copied.ensures;
  labels =
      subst (λ (z : List ℕ). AreCopyLabels (length c.args.func.now.blocks) z (length z) c.in_ok-copies.copies) c.as_slice-3.ensures
      (subst (λ (z : List Block). AreCopyLabels (length z) c.as_slice-3.result.now (length c.as_slice-3.result.now) c.in_ok-copies.copies) c.as_slice-blocks.ensures c.in_ok-copies.ensures);
}
