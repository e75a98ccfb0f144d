use Rattle.std.proofs.Common.{rules, subst}
use Rattle.profile.specs.Sound.{IsHere}
use Rattle.profile.proofs.Sounds.{here_sound}
use Rattle.profile.proofs.calls.enter.Goals as goal

pub returns-clause-sound : goal.returns-clause-sound
returns-clause-sound c =
    subst (IsHere c.args.tac.now) (search rules) (here_sound c.args.tac.now c.args.func c.args.label c.args.base c.args.regs c.func_at.result.now c.block_at-block.result.now c.requires.call c.func_at.ensures.there c.block_at-block.ensures)
