use Rattle.std.proofs.Common.{sym, ap, subst, ◌∙◌}
use Rattle.ib_meaning.specs.Agreement.{Agrees, Within}
use Rattle.tac_core.specs.Program.{with_funcs}
use Rattle.tac_core.specs.Cover.{Covers, CopiedProgram}
use Rattle.tac_core.specs.Meaning.{tac_meaning}
use Rattle.tac_core.proofs.Cover.{covers_agree, covers_within}
use Rattle.tac_core.proofs.Valid.{covers_valid}
use Rattle.tac_core.proofs.copied.Copied.of.Goals as goal

pub with_funcs-requires : goal.with_funcs-requires
with_funcs-requires c valid = covers_valid c.args.origins (with_funcs c.args.from.now c.args.funcs) c.args.from.now c.requires valid

pub keep-requires : goal.keep-requires
keep-requires c = subst (λ p. Covers c.args.origins p c.args.from.now) (sym c.in-Ok.ensures) c.requires

pub returns-clause-agrees : goal.returns-clause-agrees
returns-clause-agrees c =
    subst (λ p. Agrees (tac_meaning c.args.from.now) (tac_meaning p)) (sym (ap (λ (v : CopiedProgram). v.tac) c.keep.ensures ∙ c.in-Ok.ensures))
    (covers_agree c.args.origins (with_funcs c.args.from.now c.args.funcs) c.args.from.now c.requires)

pub returns-clause-within : goal.returns-clause-within
returns-clause-within c =
    subst (λ p. Within (λ n. n) (tac_meaning c.args.from.now) (tac_meaning p)) (sym (ap (λ (v : CopiedProgram). v.tac) c.keep.ensures ∙ c.in-Ok.ensures))
    (covers_within c.args.origins (with_funcs c.args.from.now c.args.funcs) c.args.from.now c.requires)
