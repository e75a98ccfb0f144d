use Rattle.std.proofs.Common.{arith, subst}
use Rattle.tac_core.specs.declared.code.End.TheVariants.{Jump}
use Rattle.std.proofs.Common.{◌∷◌, []}
use Rattle.tac_lowered.specs.Items.{Close}
use Rattle.tac_emit.specs.Emitted.{Adds}
use Rattle.tac_emit.proofs.Emitting.{adds_full, adds_room}
use Rattle.tac_emit.proofs.emitter.Emitter.close_if_full.Goals as goal

pub returns-in_ok-close : goal.returns-in_ok-close
returns-in_ok-close c =
    adds_full c.args.self.now c.close.new.self c.args.stmt (let e1 = c.len.ensures in let e2 = c.if-len-gt-MOST.true in omega (arith, e1, e2))
    (subst (λ l. Adds c.args.self.now c.close.new.self (Close c.args.stmt (Jump l) ∷ [])) c.in_ok-label.ensures c.in_ok-close.ensures)

pub returns-else-len-gt-MOST : goal.returns-else-len-gt-MOST
returns-else-len-gt-MOST c = adds_room c.args.self.now c.args.stmt (let e1 = c.len.ensures in let e2 = c.if-len-gt-MOST.false in omega (arith, e1, e2))
