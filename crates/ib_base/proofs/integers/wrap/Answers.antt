use Rattle.std.proofs.Common.{ap, sym, ◌∙◌}
use Rattle.ib_base.specs.Integers.{wrapped}
use Rattle.ib_base.proofs.Wrapping.{wrapped_four, wrapped_eight}
use Rattle.ib_base.proofs.integers.wrap.Goals as goal

pub returns-in-W4 : goal.returns-in-W4
returns-in-W4 c =
    wrapped_four c.args.x _ _ _ c.ranges.x (record { sfits = c.rem_euclid-in-W4.type_inv }) (record { sfits = c.cast_signed.type_inv }) (record { sfits = c.from.type_inv })
    c.rem_euclid-in-W4.ensures.value c.cast_signed.ensures c.from.ensures
    ∙ ap (λ w. wrapped w c.args.x) (sym c.in-W4.is)

pub returns-in-W8 : goal.returns-in-W8
returns-in-W8 c =
    wrapped_eight c.args.x _ _ c.ranges.x (record { sfits = c.rem_euclid-in-W8.type_inv }) (record { sfits = c.cast_signed-in-W8.type_inv })
    c.rem_euclid-in-W8.ensures.value c.cast_signed-in-W8.ensures
    ∙ ap (λ w. wrapped w c.args.x) (sym c.in-W8.is)
