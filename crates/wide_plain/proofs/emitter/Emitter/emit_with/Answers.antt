use Rattle.std.proofs.Common.{[], ◌∷◌, ◌++◌, refl, ap}
use Rattle.ib_act.specs.Acts.{target}
use Rattle.wide_core.specs.Renamed.{act_moved}
use Rattle.wide_core.specs.declared.code.WideAct.TheVariants.{Do}
use Rattle.plain_code.specs.Plain.{found_in, item, left_in, reloads, spill}
use Rattle.wide_plain.proofs.Emitted.{emits_onto}
use Rattle.wide_plain.proofs.emitter.Emitter.emit_with.Goals as goal

pub returns : goal.returns
returns c =
    let low = c.args.homes.low in
    let home = c.args.home in
    let all = c.args.sources.now in
    let moved = item home (Do (act_moved (found_in low all) (left_in low) c.args.act)) ∷ [] in
    let behind = spill low home (target c.args.act) in
    let r = c.emit_spill.result in
    emits_onto r (reloads low home all all) _ (moved ++ behind) _ c.args.self.now c.emit_reloads.new.self c.emit_spill.new.self c.in_ok-emit_reloads.ensures
    (emits_onto r moved _ behind _ c.emit_reloads.new.self c.emit.new.self c.emit_spill.new.self c.in_ok-emit.ensures c.emit_spill.ensures
    (ap (λ a. item home (Do a) ∷ []) c.act_moved.ensures) (ap (spill low home) c.target.ensures))
    refl refl
