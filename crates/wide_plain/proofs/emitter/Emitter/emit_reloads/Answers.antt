use Rattle.std.proofs.Common.{get_or}
use Rattle.std.proofs.lemmas.List.{get_or_default}
use Rattle.plain_code.specs.Plain.{reload}
use Rattle.wide_plain.proofs.Emitted.{emits_more}
use Rattle.wide_plain.proofs.emitter.Emitter.emit_reloads.Goals as goal

pub loop-source-preserved : goal.loop-source-preserved
loop-source-preserved c =
    let all = c.args.sources.now in
    let i = c.loop-source.source-index in
    emits_more (reload c.args.homes.low c.args.home all) all i (get_or all i 0) c.args.self.now c.loop-source.self c.emit_reload.new.self
    c.loop-source-test.true (get_or_default all i 0 (get_or all i 0) c.loop-source-test.true) c.loop-source.invariant c.in_ok-emit_reload.ensures
