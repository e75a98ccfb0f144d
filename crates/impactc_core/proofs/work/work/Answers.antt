use Rattle.std.proofs.Common.{List, ℕ, subst}
use Rattle.impactc_words.specs.Words.{input_of}
use Rattle.impactc_core.specs.Sources.{IsSource}
use Rattle.impactc_core.proofs.Refusing.{still_source, works_behind}
use Rattle.impactc_core.proofs.work.work.Goals as goal

pub work_on-requires : goal.work_on-requires
work_on-requires g c =
    let before = g.H.Host.world c.args.host.now in
    still_source (input_of c.args.command) c.in-Ok.bytes.items c.as_slice.result.now before (g.H.Host.world c.read_source.new.host)
    (subst (λ (file : List ℕ). IsSource file before c.in-Ok.bytes.items) c.input.ensures c.in-Ok.ensures.source)
    c.as_slice.ensures.value c.read_source.ensures.same_world

pub returns-in-Ok-clause-works : goal.returns-in-Ok-clause-works
returns-in-Ok-clause-works g c =
    works_behind c.args.command c.work_on.result (g.H.Host.world c.args.host.now) (g.H.Host.world c.read_source.new.host)
    (g.H.Host.world c.work_on.new.host) c.read_source.ensures.same_world c.work_on.ensures.works
