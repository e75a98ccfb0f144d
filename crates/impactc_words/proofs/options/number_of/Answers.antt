use Rattle.std.proofs.Common.{◌≡◌, decimal, false, true, sym, ap, ◌∙◌}
use Rattle.std.proofs.lemmas.Slice.Eq.{bytes_eq-Decides}
use Rattle.impactc_words.proofs.Numbers.{no_number, same_number}
use Rattle.impactc_words.proofs.options.number_of.Goals as goal

pub returns-else-eq-clause-none : goal.returns-else-eq-clause-none
returns-else-eq-clause-none c = λ e n small is.
    let same = same_number c.args.text.now c.parse.result c.in-Ok.number n small is c.parse.ensures.value.0 c.in-Ok.is in
    let text : c.format.result.now ≡ c.args.text.now = c.format.ensures.text ∙ ap decimal same ∙ sym is in
    let clash : false ≡ true = sym c.if-eq.false ∙ c.eq.ensures ∙ (bytes_eq-Decides c.format.result.now c.args.text.now).1 text in cc

pub returns-in-Err-clause-none : goal.returns-in-Err-clause-none
returns-in-Err-clause-none c = λ e n small is. no_number _ c.args.text.now c.in-Err.field-0 n small is c.in-Err.ensures.value.0
