use Rattle.std.proofs.Common.{sym}
use Rattle.sb_form.proofs.Whole.{formed_none}
use Rattle.sb_form.proofs.chains.form_chain.Goals as goal

pub returns-in-None : goal.returns-in-None
returns-in-None c =
    formed_none c.args.places.now c.args.number c.args.func.now c.args.chain.now c.args.forming.now.next c.args.forming.now.all (sym c.in-None.ensures)
