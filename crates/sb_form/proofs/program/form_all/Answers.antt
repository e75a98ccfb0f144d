use Rattle.std.proofs.Common.{◌≡◌, ◌∙◌, Some, length, refl, sym, ap, subst}
use Rattle.std.specs.Prelude.{slice_get}
use Rattle.std.proofs.lemmas.Option.{slice_get_read}
use Rattle.tac_core.specs.Cover.{CopiedProgram, upto}
use Rattle.tac_core.specs.Program.{Program}
use Rattle.tac_core.specs.Rules.{IsValid}
use Rattle.sb_formed.specs.Formed.{chain_at, drafted, drafted_labels}
use Rattle.sb_form.specs.Growing.{GivesStraight, GrownBy, LacksBy}
use Rattle.sb_form.proofs.Growing.{by_all}
use Rattle.sb_form.proofs.Whole.{good_ops, labels_are, all_straight, funcs_less}
use Rattle.sb_form.proofs.program.form_all.Goals as goal

pub loop-i-init : goal.loop-i-init
loop-i-init c =
    subst (λ xs. LacksBy (drafted c.args.given.now.copied.tac.places 0 c.args.given.now.copied.tac.funcs c.args.given.now.traces) (drafted c.args.given.now.copied.tac.places 0 c.args.given.now.copied.tac.funcs c.args.given.now.traces) 1 xs) (sym c.new.ensures)
    (by_all (drafted c.args.given.now.copied.tac.places 0 c.args.given.now.copied.tac.funcs c.args.given.now.traces))

pub form_func-requires-clause-good : goal.form_func-requires-clause-good
form_func-requires-clause-good c =
    let tac : c.tac-tac.result.now ≡ c.args.given.now.copied.tac = c.tac-tac.ensures.value ∙ ap (λ (d : CopiedProgram). d.tac) c.copied.ensures.value in
    let funcs : c.funcs-funcs.result.now ≡ c.args.given.now.copied.tac.funcs = c.funcs-funcs.ensures.value ∙ ap (λ (p : Program). p.funcs) tac in
    let at : slice_get c.args.given.now.copied.tac.funcs c.loop-i.i ≡ Some c.index-funcs-i.result =
    subst (λ fs. slice_get fs c.loop-i.i ≡ Some c.index-funcs-i.result) funcs (slice_get_read c.funcs-funcs.result.now _ c.loop-i.i c.index-funcs-i.result refl c.loop-i-test.true c.index-funcs-i.is) in
    good_ops c.args.given.now (subst IsValid tac c.funcs-funcs.ensures.valid) c.copied.ensures.formed c.loop-i.i c.index-funcs-i.result at

pub form_func-requires-clause-labels : goal.form_func-requires-clause-labels
form_func-requires-clause-labels c =
    let tac : c.tac-tac.result.now ≡ c.args.given.now.copied.tac = c.tac-tac.ensures.value ∙ ap (λ (d : CopiedProgram). d.tac) c.copied.ensures.value in
    let funcs : c.funcs-funcs.result.now ≡ c.args.given.now.copied.tac.funcs = c.funcs-funcs.ensures.value ∙ ap (λ (p : Program). p.funcs) tac in
    let at : slice_get c.args.given.now.copied.tac.funcs c.loop-i.i ≡ Some c.index-funcs-i.result =
    subst (λ fs. slice_get fs c.loop-i.i ≡ Some c.index-funcs-i.result) funcs (slice_get_read c.funcs-funcs.result.now _ c.loop-i.i c.index-funcs-i.result refl c.loop-i-test.true c.index-funcs-i.is) in
    let there : slice_get c.args.given.now.traces c.loop-i.i ≡ Some c.in-Some.chains.now =
    ap (λ k. slice_get c.args.given.now.traces k) (sym c.in_ok-number.ensures.number) ∙ ap (λ ts. slice_get ts c.in_ok-number.number) (sym c.traces.ensures.value)
    ∙ sym c.in-Some.ensures.value in
    labels_are c.args.given.now (subst IsValid tac c.funcs-funcs.ensures.valid) c.copied.ensures.formed c.loop-i.i c.index-funcs-i.result at c.in-Some.chains.now there

pub form_func-requires-clause-straight : goal.form_func-requires-clause-straight
form_func-requires-clause-straight c l =
    let tac : c.tac-tac.result.now ≡ c.args.given.now.copied.tac = c.tac-tac.ensures.value ∙ ap (λ (d : CopiedProgram). d.tac) c.copied.ensures.value in
    let funcs : c.funcs-funcs.result.now ≡ c.args.given.now.copied.tac.funcs = c.funcs-funcs.ensures.value ∙ ap (λ (p : Program). p.funcs) tac in
    let at : slice_get c.args.given.now.copied.tac.funcs c.loop-i.i ≡ Some c.index-funcs-i.result =
    subst (λ fs. slice_get fs c.loop-i.i ≡ Some c.index-funcs-i.result) funcs (slice_get_read c.funcs-funcs.result.now _ c.loop-i.i c.index-funcs-i.result refl c.loop-i-test.true c.index-funcs-i.is) in
    let there : slice_get c.args.given.now.traces c.loop-i.i ≡ Some c.in-Some.chains.now =
    ap (λ k. slice_get c.args.given.now.traces k) (sym c.in_ok-number.ensures.number) ∙ ap (λ ts. slice_get ts c.in_ok-number.number) (sym c.traces.ensures.value)
    ∙ sym c.in-Some.ensures.value in
    let places : c.places.result.now ≡ c.args.given.now.copied.tac.places = c.places.ensures ∙ ap (λ (p : Program). p.places) tac in
    subst (λ ps. GivesStraight ps c.index-funcs-i.result (chain_at c.in-Some.chains.now l)) (sym places)
    (all_straight c.args.given.now (subst IsValid tac c.funcs-funcs.ensures.valid) c.copied.ensures.formed c.loop-i.i c.index-funcs-i.result at c.in-Some.chains.now there l)

pub loop-i-preserved : goal.loop-i-preserved
loop-i-preserved c =
    let tac : c.tac-tac.result.now ≡ c.args.given.now.copied.tac = c.tac-tac.ensures.value ∙ ap (λ (d : CopiedProgram). d.tac) c.copied.ensures.value in
    let funcs : c.funcs-funcs.result.now ≡ c.args.given.now.copied.tac.funcs = c.funcs-funcs.ensures.value ∙ ap (λ (p : Program). p.funcs) tac in
    let at : slice_get c.args.given.now.copied.tac.funcs c.loop-i.i ≡ Some c.index-funcs-i.result =
    subst (λ fs. slice_get fs c.loop-i.i ≡ Some c.index-funcs-i.result) funcs (slice_get_read c.funcs-funcs.result.now _ c.loop-i.i c.index-funcs-i.result refl c.loop-i-test.true c.index-funcs-i.is) in
    let there : slice_get c.args.given.now.traces c.loop-i.i ≡ Some c.in-Some.chains.now =
    ap (λ k. slice_get c.args.given.now.traces k) (sym c.in_ok-number.ensures.number) ∙ ap (λ ts. slice_get ts c.in_ok-number.number) (sym c.traces.ensures.value)
    ∙ sym c.in-Some.ensures.value in
    let places : c.places.result.now ≡ c.args.given.now.copied.tac.places = c.places.ensures ∙ ap (λ (p : Program). p.places) tac in
    funcs_less c.args.given.now.copied.tac.places c.args.given.now.copied.tac.funcs c.args.given.now.traces (drafted c.args.given.now.copied.tac.places 0 c.args.given.now.copied.tac.funcs c.args.given.now.traces) c.loop-i.i c.in_ok-number.number c.index-funcs-i.result c.in-Some.chains.now c.loop-i.forming.next c.form_func.new.forming.next c.loop-i.forming.all c.form_func.new.forming.all at there c.in_ok-number.ensures.number c.loop-i.invariant
    (subst (λ ps. GrownBy (drafted_labels ps c.in_ok-number.number c.index-funcs-i.result c.in-Some.chains.now (upto (length c.index-funcs-i.result.blocks))) c.loop-i.forming.next c.loop-i.forming.all c.form_func.new.forming.next c.form_func.new.forming.all) places c.in_ok-form_func.ensures)

pub returns-clause-valid : goal.returns-clause-valid
returns-clause-valid c =
    let tac : c.tac-tac.result.now ≡ c.args.given.now.copied.tac = c.tac-tac.ensures.value ∙ ap (λ (d : CopiedProgram). d.tac) c.copied.ensures.value in
    subst IsValid tac c.funcs-funcs.ensures.valid
