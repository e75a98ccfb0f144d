use Rattle.std.proofs.Common.{◌≡◌, ◌++◌, Some, subst, ap, ap₂, ◌∙◌}
use Rattle.std.specs.Prelude.{slice_get}
use Rattle.tac_core.specs.Traces.{apart}
use Rattle.tail_dup.specs.Duplicated.{labels_behind, origins_with}
use Rattle.tail_dup.proofs.Whole.{copies_within, duplicate_made}
use Rattle.tail_dup.proofs.function.duplicate_func.Goals as goal

pub rebuilt-requires : goal.rebuilt-requires
rebuilt-requires c k l is =
    let t = c.in_ok-tables.ensures in
    copies_within c.args.func.now c.args.chains.now c.in_ok-tables.tables.copied c.requires.chained t.chosen k l (subst (λ z. slice_get z k ≡ Some l) c.as_slice-3.ensures is)

pub returns : goal.returns
returns c =
    duplicate_made c.args.func.now c.in_ok-func.func c.args.chains.now c.in_ok-chains.chains c.in_ok-origins.origins
    c.in_ok-tables.tables.before c.as_slice-4.result.now c.in_ok-tables.tables.copies c.as_slice-5.result.now c.in_ok-tables.tables.copied c.as_slice-3.result.now
    c.requires.chained c.requires.targets c.in_ok-tables.ensures c.as_slice-3.ensures c.as_slice-4.ensures c.as_slice-5.ensures c.in_ok-func.ensures
    (c.in_ok-chains.ensures ∙ ap (λ z. c.args.chains.now ++ apart z) (c.as_slice.ensures ∙ c.in_ok-labels.ensures ∙ ap₂ labels_behind c.len-blocks.ensures c.len.ensures))
    (c.in_ok-origins.ensures ∙ ap₂ origins_with c.len-blocks.ensures c.as_slice-2.ensures)
