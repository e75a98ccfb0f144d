use Rattle.std.proofs.Common.{ap, map, ◌∙◌}
use Rattle.tac_core.specs.Cover.{CopiedProgram}
use Rattle.tac_core.specs.Traces.{apart}
use Rattle.tac_core.proofs.Apart.{copy_formed}
use Rattle.code_tests.proofs.covers.formed_apart.Goals as goal

pub keep-requires : goal.keep-requires
keep-requires c =
    copy_formed c.in_ok-copied.copied c.args.tac.now c.funcs.result.now c.in_ok-labels.labels c.in_ok-traces.traces
    (ap (λ (v : CopiedProgram). v.tac) c.in_ok-copied.ensures.value) c.funcs.ensures.value c.in_ok-labels.ensures
    (c.in_ok-traces.ensures ∙ ap (map apart) c.as_slice.ensures)
