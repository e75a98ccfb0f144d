use Rattle.std.proofs.Common.{◌≡◌, List, length, subst, sym, ap, ◌∙◌}
use Rattle.tac_core.specs.declared.code.TacFunc.{TacFunc}
use Rattle.tac_core.specs.Cover.{CopiedProgram, HasEachBlock, AreFew}
use Rattle.tac_core.specs.Program.{Program}
use Rattle.tac_core.specs.Traces.{AreFormed, FormedProgram}
use Rattle.tail_dup.specs.Tables.{AreParts}
use Rattle.tail_dup.proofs.Whole.{parts_cover, parts_formed, parts_whole, parts_few, parts_duplicated}
use Rattle.tail_dup.proofs.program.duplicate.Goals as goal

pub of-requires : goal.of-requires
of-requires c =
    let parts = subst (λ (z : List TacFunc). AreParts z c.args.traces.now (length z) c.in_ok-parts.parts.funcs c.in_ok-parts.parts.traces c.in_ok-parts.parts.origins) c.funcs.ensures.value c.in_ok-parts.ensures in
    parts_cover c.args.tac.now c.args.traces.now c.in_ok-parts.parts.funcs c.in_ok-parts.parts.traces c.in_ok-parts.parts.origins c.funcs.ensures.valid c.requires parts

pub keep-requires-2 : goal.keep-requires-2
keep-requires-2 c =
    let parts = subst (λ (z : List TacFunc). AreParts z c.args.traces.now (length z) c.in_ok-parts.parts.funcs c.in_ok-parts.parts.traces c.in_ok-parts.parts.origins) c.funcs.ensures.value c.in_ok-parts.ensures in
    subst (λ z. AreFormed c.in_ok-copied.copied.tac.funcs z) (sym c.keep.ensures)
    (subst (λ z. AreFormed z c.in_ok-parts.parts.traces) (sym (ap (λ (v : CopiedProgram). v.tac.funcs) c.in_ok-copied.ensures.value))
    (parts_formed c.args.tac.now c.args.traces.now c.in_ok-parts.parts.funcs c.in_ok-parts.parts.traces c.in_ok-parts.parts.origins c.funcs.ensures.valid c.requires parts))

pub returns-clause-duplicated : goal.returns-clause-duplicated
returns-clause-duplicated c =
    let parts = subst (λ (z : List TacFunc). AreParts z c.args.traces.now (length z) c.in_ok-parts.parts.funcs c.in_ok-parts.parts.traces c.in_ok-parts.parts.origins) c.funcs.ensures.value c.in_ok-parts.ensures in
    parts_duplicated c.args.tac.now.funcs c.args.traces.now c.in_ok-parts.parts.funcs c.in_ok-parts.parts.traces c.in_ok-parts.parts.origins c.keep-2.result
    (ap (λ (v : FormedProgram). v.copied.tac.funcs) c.keep-2.ensures ∙ ap (λ (v : CopiedProgram). v.tac.funcs) c.in_ok-copied.ensures.value)
    (ap (λ (v : FormedProgram). v.traces) c.keep-2.ensures ∙ c.keep.ensures)
    (ap (λ (v : FormedProgram). v.copied.origins) c.keep-2.ensures ∙ ap (λ (v : CopiedProgram). v.origins) c.in_ok-copied.ensures.value)
    parts

pub returns-clause-all : goal.returns-clause-all
returns-clause-all c =
    let parts = subst (λ (z : List TacFunc). AreParts z c.args.traces.now (length z) c.in_ok-parts.parts.funcs c.in_ok-parts.parts.traces c.in_ok-parts.parts.origins) c.funcs.ensures.value c.in_ok-parts.ensures in
    subst (λ z. HasEachBlock z c.args.tac.now)
    (sym (ap (λ (v : FormedProgram). v.copied.origins) c.keep-2.ensures ∙ ap (λ (v : CopiedProgram). v.origins) c.in_ok-copied.ensures.value))
    (parts_whole c.args.tac.now c.args.traces.now c.in_ok-parts.parts.funcs c.in_ok-parts.parts.traces c.in_ok-parts.parts.origins c.funcs.ensures.valid c.requires parts)

pub returns-clause-few : goal.returns-clause-few
returns-clause-few c =
    let parts = subst (λ (z : List TacFunc). AreParts z c.args.traces.now (length z) c.in_ok-parts.parts.funcs c.in_ok-parts.parts.traces c.in_ok-parts.parts.origins) c.funcs.ensures.value c.in_ok-parts.ensures in
    subst (λ (z : Program). AreFew 4 z c.args.tac.now)
    (sym (ap (λ (v : FormedProgram). v.copied.tac) c.keep-2.ensures ∙ ap (λ (v : CopiedProgram). v.tac) c.in_ok-copied.ensures.value))
    (parts_few c.args.tac.now c.args.traces.now c.in_ok-parts.parts.funcs c.in_ok-parts.parts.traces c.in_ok-parts.parts.origins c.funcs.ensures.valid c.requires parts)
