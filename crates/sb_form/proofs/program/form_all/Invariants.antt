use Rattle.std.proofs.Common.{drop}
use Rattle.sb_form.specs.Growing.{LacksBy}
use Rattle.sb_formed.specs.Formed.{drafted}
use Rattle.sb_form.proofs.program.form_all.Given as goal

abbrev pub invariant-loop-i : goal.invariant-loop-i
invariant-loop-i l =
    LacksBy (drafted l.given.copied.tac.places l.i (drop l.i l.given.copied.tac.funcs) (drop l.i l.given.traces)) (drafted l.given.copied.tac.places 0 l.given.copied.tac.funcs l.given.traces) l.forming.next l.forming.all
