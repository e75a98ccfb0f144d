use Rattle.std.proofs.Common.{◌≡◌, ◌∙◌, w32, w64, to_z, of_z, rules}
use Rattle.std.proofs.lemmas.Int.{to_z-of_z}
use Rattle.ib_base.specs.declared.integers.Width.TheVariants.{W4}
use Rattle.ib_base.specs.Integers.{wrapped}
use Rattle.ib_run.proofs.Results.{result_fits}
use Rattle.ib_run.proofs.result.result_of.Goals as goal

pub overflow_cast-result : goal.overflow_cast-result
overflow_cast-result c = result_fits c.args.number _ (search rules)

pub returns : goal.returns
returns c =
    let x = to_z w64 (of_z w64 c.wrap.result) in
    let is : x ≡ wrapped W4 c.args.number = search rules in
    to_z-of_z w32 x (result_fits c.args.number x is) ∙ is
