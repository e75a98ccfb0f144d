use Rattle.std.proofs.Common.{◌∙◌, sym, ap, [], None, slice_get}
use Rattle.wide_core.specs.Valid.{limits, of_funcs}
use Rattle.wide_core.proofs.Scans.{image_broken, func_broken, notes_broken}
use Rattle.wide_core.proofs.wide_code.broken_code.Goals as goal

pub returns-then-is_some : goal.returns-then-is_some
returns-then-is_some g c =
    image_broken (limits g.M.Machine.WIDTH g.M.Machine.REGS g.M.Machine.units_of) c.args.code.now c.broken_image-first.result None None c.broken_image-first.ensures (sym c.is_some.ensures ∙ c.if-is_some.true)

pub returns-then-is_some-2 : goal.returns-then-is_some-2
returns-then-is_some-2 g c =
    let code = c.args.code.now in
    let funcs_first = c.in_ok-first.ensures
    ∙ ap (λ fs. slice_get (of_funcs (limits g.M.Machine.WIDTH g.M.Machine.REGS g.M.Machine.units_of) fs [] [] c.first_func_line.result fs) 0) c.as_slice.ensures
    ∙ ap (λ line. slice_get (of_funcs (limits g.M.Machine.WIDTH g.M.Machine.REGS g.M.Machine.units_of) code.funcs [] [] line code.funcs) 0) c.first_func_line.ensures in
    func_broken (limits g.M.Machine.WIDTH g.M.Machine.REGS g.M.Machine.units_of) code c.broken_image-first.result c.in_ok-first.first None c.broken_image-first.ensures
    (sym c.is_some.ensures ∙ c.if-is_some.false) funcs_first (sym c.is_some-2.ensures ∙ c.if-is_some-2.true)

pub returns : goal.returns
returns g c =
    let code = c.args.code.now in
    let funcs_first = c.in_ok-first.ensures
    ∙ ap (λ fs. slice_get (of_funcs (limits g.M.Machine.WIDTH g.M.Machine.REGS g.M.Machine.units_of) fs [] [] c.first_func_line.result fs) 0) c.as_slice.ensures
    ∙ ap (λ line. slice_get (of_funcs (limits g.M.Machine.WIDTH g.M.Machine.REGS g.M.Machine.units_of) code.funcs [] [] line code.funcs) 0) c.first_func_line.ensures in
    notes_broken (limits g.M.Machine.WIDTH g.M.Machine.REGS g.M.Machine.units_of) code c.broken_image-first.result c.in_ok-first.first c.broken_notes.result c.broken_image-first.ensures
    (sym c.is_some.ensures ∙ c.if-is_some.false) funcs_first (sym c.is_some-2.ensures ∙ c.if-is_some-2.false) c.broken_notes.ensures
