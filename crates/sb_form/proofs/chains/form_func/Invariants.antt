use Rattle.tac_core.specs.Cover.{upto}
use Rattle.sb_form.specs.Growing.{GrownBy}
use Rattle.sb_formed.specs.Formed.{drafted_labels}
use Rattle.sb_form.proofs.chains.form_func.Given as goal

abbrev pub invariant-loop-label : goal.invariant-loop-label
invariant-loop-label l =
    GrownBy (drafted_labels l.places l.number l.func l.chains (upto l.label)) l.fn.forming.next l.fn.forming.all l.forming.next l.forming.all
