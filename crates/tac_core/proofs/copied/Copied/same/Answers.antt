use Rattle.std.proofs.Common.{sym, ap, subst}
use Rattle.ib_meaning.specs.Agreement.{Agrees, Within}
use Rattle.tac_core.specs.Cover.{CopiedProgram}
use Rattle.tac_core.specs.Meaning.{tac_meaning}
use Rattle.tac_core.proofs.Cover.{covers_agree, covers_within}
use Rattle.tac_core.proofs.Same.{covers_copy}
use Rattle.tac_core.proofs.copied.Copied.same.Goals as goal

pub keep-requires : goal.keep-requires
keep-requires c =
    covers_copy c.in_ok-origins.origins c.funcs.result.now c.in_ok-copy.copy c.args.tac.now c.funcs.ensures.valid c.funcs.ensures.value c.in_ok-origins.ensures c.in_ok-copy.ensures

pub returns-clause-agrees : goal.returns-clause-agrees
returns-clause-agrees c =
    let covers = covers_copy c.in_ok-origins.origins c.funcs.result.now c.in_ok-copy.copy c.args.tac.now c.funcs.ensures.valid c.funcs.ensures.value c.in_ok-origins.ensures c.in_ok-copy.ensures in
    subst (λ p. Agrees (tac_meaning c.args.tac.now) (tac_meaning p)) (sym (ap (λ (v : CopiedProgram). v.tac) c.keep.ensures))
    (covers_agree c.in_ok-origins.origins c.in_ok-copy.copy c.args.tac.now covers)

pub returns-clause-within : goal.returns-clause-within
returns-clause-within c =
    let covers = covers_copy c.in_ok-origins.origins c.funcs.result.now c.in_ok-copy.copy c.args.tac.now c.funcs.ensures.valid c.funcs.ensures.value c.in_ok-origins.ensures c.in_ok-copy.ensures in
    subst (λ p. Within (λ n. n) (tac_meaning c.args.tac.now) (tac_meaning p)) (sym (ap (λ (v : CopiedProgram). v.tac) c.keep.ensures))
    (covers_within c.in_ok-origins.origins c.in_ok-copy.copy c.args.tac.now covers)
