use Rattle.std.proofs.Common.{◌≡◌, ◌*◌, ◌∙◌, sym, subst}
use Rattle.ib_meaning.specs.Agreement.{Agrees, Within}
use Rattle.tac_core.specs.Cover.{CopiedProgram}
use Rattle.tac_core.specs.Meaning.{tac_meaning}
use Rattle.sb_core.specs.Facts.{AreSuperblocks}
use Rattle.sb_core.specs.Meaning.{superblock_meaning}
use Rattle.sb_formed.specs.Formed.{formed}
use Rattle.sb_formed.proofs.Agreeing.{formed_agrees, formed_within}
use Rattle.sb_formed.proofs.Kept.{formed_keeps}
use Rattle.sb_form.specs.Growing.{AreAllInRange}
use Rattle.sb_form.proofs.Whole.{formed_all, formed_is}
use Rattle.sb_form.proofs.program.form.Goals as goal

pub keep-requires : goal.keep-requires
keep-requires c =
    let all = formed_all c.args.given.now c.in_ok-forming.forming.next c.in_ok-forming.forming.all c.in_ok-forming.ensures.lacks in
    let copied : c.in_ok-copied.copied ≡ c.args.given.now.copied = c.in_ok-copied.ensures ∙ c.copied.ensures.value in
    subst (λ xs. AreSuperblocks c.in_ok-copied.copied.tac.funcs xs) (sym all)
    (subst (λ (d : CopiedProgram). AreSuperblocks d.tac.funcs (formed c.args.given.now).all) (sym copied)
    (formed_keeps c.args.given.now c.in_ok-forming.ensures.valid c.copied.ensures.formed (subst AreAllInRange all c.in_ok-forming.ensures.lacks.ranges)))

pub returns-clause-value : goal.returns-clause-value
returns-clause-value c =
    formed_is c.args.given.now c.in_ok-copied.copied c.in_ok-forming.forming.all c.keep.result c.keep.ensures (c.in_ok-copied.ensures ∙ c.copied.ensures.value)
    (formed_all c.args.given.now c.in_ok-forming.forming.next c.in_ok-forming.forming.all c.in_ok-forming.ensures.lacks)

pub returns-clause-agrees : goal.returns-clause-agrees
returns-clause-agrees c =
    let is =
    formed_is c.args.given.now c.in_ok-copied.copied c.in_ok-forming.forming.all c.keep.result c.keep.ensures (c.in_ok-copied.ensures ∙ c.copied.ensures.value)
    (formed_all c.args.given.now c.in_ok-forming.forming.next c.in_ok-forming.forming.all c.in_ok-forming.ensures.lacks) in
    subst (λ s. Agrees (tac_meaning c.args.given.now.copied.tac) (superblock_meaning s)) (sym is) (formed_agrees c.args.given.now c.in_ok-forming.ensures.valid c.copied.ensures.formed)

pub returns-clause-within : goal.returns-clause-within
returns-clause-within c =
    let is =
    formed_is c.args.given.now c.in_ok-copied.copied c.in_ok-forming.forming.all c.keep.result c.keep.ensures (c.in_ok-copied.ensures ∙ c.copied.ensures.value)
    (formed_all c.args.given.now c.in_ok-forming.forming.next c.in_ok-forming.forming.all c.in_ok-forming.ensures.lacks) in
    subst (λ s. Within (λ n. 2 * n) (tac_meaning c.args.given.now.copied.tac) (superblock_meaning s)) (sym is) (formed_within c.args.given.now c.in_ok-forming.ensures.valid c.copied.ensures.formed)
