use Rattle.std.proofs.Common.{◌&&◌, sym, ap, ◌∙◌}
use Rattle.c_types.proofs.HeadLemmas.{judged}
use Rattle.c_types.proofs.heads.judge.Goals as goal

pub returns-then-fits : goal.returns-then-fits
returns-then-fits c = judged c.keeps-fits.ensures c.in_ok-good.ensures (ap (λ fits. fits && c.in_ok-good.good) (sym c.if-fits.true))

pub returns-else-fits : goal.returns-else-fits
returns-else-fits c =
    judged c.keeps-fits.ensures c.in_ok-good.ensures (c.if-fits.false ∙ ap (λ fits. fits && c.in_ok-good.good) (sym c.if-fits.false))
