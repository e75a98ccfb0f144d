use Rattle.std.proofs.Common.{subst}
use Rattle.ib_meaning.specs.Agreement.{Agrees, Within}
use Rattle.tac_core.specs.Cover.{CopiedProgram}
use Rattle.tac_core.specs.Meaning.{tac_meaning}
use Rattle.tac_core.proofs.Cover.{covers_agree, covers_within}
use Rattle.tac_core.proofs.copied.Copied.tac.Goals as goal

pub returns-clause-agrees : goal.returns-clause-agrees
returns-clause-agrees c =
    subst (λ (v : CopiedProgram). Agrees (tac_meaning v.from) (tac_meaning v.tac)) c.self.view_is (covers_agree c.self.inside.origins c.self.inside.tac c.self.inside.from c.self.invariant)

pub returns-clause-within : goal.returns-clause-within
returns-clause-within c =
    subst (λ (v : CopiedProgram). Within (λ n. n) (tac_meaning v.from) (tac_meaning v.tac)) c.self.view_is (covers_within c.self.inside.origins c.self.inside.tac c.self.inside.from c.self.invariant)
