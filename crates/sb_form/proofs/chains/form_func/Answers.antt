use Rattle.std.proofs.Common.{◌∙◌, ap}
use Rattle.std.specs.Prelude.{slice_get}
use Rattle.tac_core.specs.Cover.{upto}
use Rattle.sb_formed.specs.Formed.{drafted_labels}
use Rattle.sb_form.specs.Heads.{chain_by, told}
use Rattle.sb_form.proofs.Growing.{by_positive}
use Rattle.sb_form.proofs.Whole.{labels_more}
use Rattle.sb_form.proofs.chains.form_func.Goals as goal

pub form_chain-requires-clause-positive : goal.form_chain-requires-clause-positive
form_chain-requires-clause-positive c =
    by_positive (drafted_labels c.args.places.now c.args.number c.args.func.now c.args.chains.now (upto c.loop-label.label)) c.args.forming.now.next c.loop-label.forming.next c.args.forming.now.all c.loop-label.forming.all c.loop-label.invariant c.requires.positive

pub loop-label-preserved : goal.loop-label-preserved
loop-label-preserved c =
    labels_more c.args.places.now c.args.number c.args.func.now c.args.chains.now c.loop-label.label c.chain_of-chain.result.now c.args.forming.now.next c.loop-label.forming.next c.form_chain.new.forming.next c.args.forming.now.all c.loop-label.forming.all c.form_chain.new.forming.all
    (c.chain_of-chain.ensures ∙ ap (λ h. chain_by c.args.chains.now (told (slice_get h c.loop-label.label))) c.as_slice.ensures ∙ c.in_ok-heads.ensures.tell c.loop-label.label)
    c.loop-label.invariant c.in_ok-form_chain.ensures
