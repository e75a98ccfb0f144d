use Rattle.std.proofs.Common.{refl, sym, subst, ◌∙◌}
use Rattle.wide_plain.specs.Emitted.{PassFew}
use Rattle.wide_plain.proofs.Functions.{few_made, plain_made, valid_passes}
use Rattle.wide_plain.proofs.program.plain_raw.Goals as goal

pub returns-clause-code : goal.returns-clause-code
returns-clause-code c =
    plain_made c.args.tac.now c.args.homes.low c.args.homes.low c.places.result.now c.funcs.result.now c.in_ok-image.image c.in_ok-funcs.funcs
    refl c.places.ensures c.funcs.ensures.value (c.in_ok-image.ensures ∙ c.image.ensures) c.in_ok-funcs.ensures.made

pub returns-clause-few : goal.returns-clause-few
returns-clause-few c = few_made c.args.tac.now c.args.homes.low c.funcs.result.now c.funcs.ensures.value c.in_ok-funcs.ensures.few

pub plain_funcs-requires : goal.plain_funcs-requires
plain_funcs-requires c = subst PassFew (sym c.funcs.ensures.value) (valid_passes c.args.tac.now c.funcs.ensures.valid)
