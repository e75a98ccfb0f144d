use Rattle.std.proofs.Common.{◌≡◌, Err}
use Rattle.first_form.specs.declared.error.ReadErr.TheVariants.{NotFirstForm}
use Rattle.impactc_core.proofs.Forms.{refuses_form}
use Rattle.impactc_core.proofs.run.read_form.Goals as goal

pub returns-in-Err-NotFirstForm-clause-refused : goal.returns-in-Err-NotFirstForm-clause-refused
returns-in-Err-NotFirstForm-clause-refused c =
    let is : c.read.result ≡ Err NotFirstForm = cc in
    refuses_form c.args.bytes.now c.args.tokens.now c.requires.cut c.requires.typed (c.read.ensures.refused is)
