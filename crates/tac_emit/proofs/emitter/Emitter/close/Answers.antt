use Rattle.std.proofs.Common.{refl, ap, ◌∙◌, ◌++◌, ◌∷◌, []}
use Rattle.tac_emit.proofs.Emitting.{adds_end}
use Rattle.tac_emit.proofs.emitter.Emitter.close.Goals as goal

pub returns : goal.returns
returns c =
    adds_end c.args.self.now _ c.args.stmt c.args.end (c.in_ok-push.ensures.ok ∙ ap (λ ops. c.args.self.now.blocks ++ record { ops = ops; «end» = c.args.end; end_stmt = c.args.stmt } ∷ []) c.replace-ops.ensures.value)
    (c.replace-ops.ensures.after ∙ c.new.ensures) c.in-Ok.ensures refl
