use Rattle.std.proofs.Common.{◌≡◌, sym, ap, ◌∙◌, subst}
use Rattle.tac_core.specs.Cover.{Covers, own_labels}
use Rattle.tac_core.specs.Program.{Program}
use Rattle.tac_core.proofs.Same.{covers_copy}
use Rattle.sb_form.proofs.Copied.{same_through, same_copied, ok_same}
use Rattle.sb_form.proofs.program.copy_of.Goals as goal

pub again-requires : goal.again-requires
again-requires c =
    let t : c.tac.result.now ≡ c.args.copied.now.tac = c.tac.ensures.value in
    subst (λ p. Covers c.as_slice.result.now c.in_ok-tac.tac p) t
    (covers_copy c.as_slice.result.now c.funcs.result.now c.in_ok-tac.tac c.tac.result.now c.funcs.ensures.valid c.funcs.ensures.value (c.as_slice.ensures ∙ c.in_ok-labels.ensures)
    (c.in_ok-tac.ensures ∙ c.tac-2.ensures.value ∙ sym t))

pub returns : goal.returns
returns c =
    let t : c.tac.result.now ≡ c.args.copied.now.tac = c.tac.ensures.value in
    ok_same c.again.result _ c.args.copied.now
    (same_copied c.args.copied.now c.in_ok-tac.tac _ (c.in_ok-tac.ensures ∙ c.tac-2.ensures.value)
    (same_through c.args.copied.now.origins c.as_slice.result.now c.args.copied.now.tac c.args.copied.now.from c.tac.ensures.covers
    (c.as_slice.ensures ∙ c.in_ok-labels.ensures ∙ ap own_labels (c.funcs.ensures.value ∙ ap (λ (p : Program). p.funcs) t))))
    c.again.ensures.value
