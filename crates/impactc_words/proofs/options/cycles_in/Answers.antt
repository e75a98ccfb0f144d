use Rattle.std.proofs.Common.{arith}
use Rattle.impactc_words.proofs.Numbers.{same_cycles}
use Rattle.impactc_words.proofs.options.cycles_in.Goals as goal
use Rattle.impactc_words.proofs.options.cycles_in.Goals.{else-number-ge1-via-then-number-ge1+else-number-le-MOST_CYCLES, else-number-ge1-via-else-number-ge1}

pub returns-else-number-ge1-clause-none : goal.returns-else-number-ge1-clause-none
returns-else-number-ge1-clause-none c = λ e cycles is.
    let same = same_cycles c.args.text.now c.in-Some.number cycles c.in-Some.ensures.some.1 c.in-Some.ensures.some.0 is.0 is.1.1 in
    elim c.else-number-ge1.branch [
      | else-number-ge1-via-then-number-ge1+else-number-le-MOST_CYCLES w ↦ let h = w.if-number-le-MOST_CYCLES.false in omega (arith, same, h, is)
      | else-number-ge1-via-else-number-ge1 w ↦ let h = w.if-number-ge1.false in omega (arith, same, h, is)
    ]
