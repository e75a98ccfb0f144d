use Rattle.std.proofs.Common.{◌≡◌, subst, sym, ap, ◌∙◌}
use Rattle.ib_meaning.specs.Agreement.{Agrees, Within}
use Rattle.ib_meaning.proofs.Agreement.{agree_trans, within_trans}
use Rattle.tac_core.specs.Cover.{Covers, CopiedProgram, all_through}
use Rattle.tac_core.specs.Meaning.{tac_meaning}
use Rattle.tac_core.proofs.Cover.{covers_agree, covers_within}
use Rattle.tac_core.proofs.Through.{covers_trans}
use Rattle.tac_core.proofs.copied.Copied.again.Goals as goal

pub invariant_of-result : goal.invariant_of-result
invariant_of-result c =
    let same : c.self.inside.tac ≡ c.args.self.now.tac = ap (λ (v : CopiedProgram). v.tac) c.self.view_is in
    subst (λ p. Covers c.in-Ok.origins c.args.tac p) (sym c.again.ensures)
    (subst (λ o. Covers o c.args.tac c.self.inside.from) (sym (c.in-Ok.ensures ∙ ap (all_through c.args.origins.now) c.as_slice.ensures))
    (covers_trans c.args.origins.now c.self.inside.origins c.args.tac c.self.inside.tac c.self.inside.from
    (subst (λ p. Covers c.args.origins.now c.args.tac p) (sym same) c.requires) c.self.invariant))

pub returns-clause-agrees : goal.returns-clause-agrees
returns-clause-agrees c =
    agree_trans
    (subst (λ (v : CopiedProgram). Agrees (tac_meaning v.from) (tac_meaning v.tac)) c.self.view_is
    (covers_agree c.self.inside.origins c.self.inside.tac c.self.inside.from c.self.invariant))
    (covers_agree c.args.origins.now c.args.tac c.args.self.now.tac c.requires)

pub returns-clause-within : goal.returns-clause-within
returns-clause-within c =
    within_trans
    (subst (λ (v : CopiedProgram). Within (λ n. n) (tac_meaning v.from) (tac_meaning v.tac)) c.self.view_is
    (covers_within c.self.inside.origins c.self.inside.tac c.self.inside.from c.self.invariant))
    (covers_within c.args.origins.now c.args.tac c.args.self.now.tac c.requires)
