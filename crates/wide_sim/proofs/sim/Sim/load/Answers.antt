use Rattle.std.proofs.Common.{◌<◌, List, [], length, subst, sym, arith}
use Rattle.wide_core.specs.Valid.{limits}
use Rattle.wide_sim.specs.declared.frame.Suspended.{Suspended}
use Rattle.wide_sim.specs.Frames.{IsEntered}
use Rattle.wide_sim.specs.Simulation.{IsLoaded, IsSound, going_at}
use Rattle.wide_sim.proofs.Starts.{few_bytes, frame_ends, loaded, main_below, sound}
use Rattle.wide_sim.proofs.sim.Sim.load.Goals as goal

pub prove-unreachable-requires : goal.prove-unreachable-requires
prove-unreachable-requires g c =
    let below : c.number_of_main-func.result < length c.as_slice-funcs.result.now = main_below (limits g.M.Machine.WIDTH g.M.Machine.REGS g.M.Machine.units_of) c.args.code.now c.raw-raw.result.now c.raw-raw.ensures.valid c.raw-raw.ensures.code c.as_slice-funcs.result.now c.as_slice-funcs.ensures c.number_of_main-func.result c.number_of_main-func.ensures in
    let above = c.if-prove.true in
    omega arith

pub first_base-base-requires : goal.first_base-base-requires
first_base-base-requires g c = few_bytes (limits g.M.Machine.WIDTH g.M.Machine.REGS g.M.Machine.units_of) c.args.code.now c.raw-raw.result.now c.raw-raw.ensures.valid c.raw-raw.ensures.code c.as_slice-image.result.now c.as_slice-image.ensures

pub first_memory-requires : goal.first_memory-requires
first_memory-requires g c = few_bytes (limits g.M.Machine.WIDTH g.M.Machine.REGS g.M.Machine.units_of) c.args.code.now c.raw-raw.result.now c.raw-raw.ensures.valid c.raw-raw.ensures.code c.as_slice-image.result.now c.as_slice-image.ensures

pub clear-requires : goal.clear-requires
clear-requires g c = frame_ends (limits g.M.Machine.WIDTH g.M.Machine.REGS g.M.Machine.units_of) c.args.code.now c.raw-raw.result.now c.raw-raw.ensures.valid c.raw-raw.ensures.code c.as_slice-funcs.result.now c.as_slice-funcs.ensures c.number_of_main-func.result c.number_of_main-func.ensures c.index-funcs-func.result c.index-funcs-func.is c.as_slice-image.result.now c.as_slice-image.ensures c.first_base-base.result c.first_base-base.ensures

pub invariant_of-result : goal.invariant_of-result
invariant_of-result g c =
    subst (λ (cs : List Suspended). IsSound (limits g.M.Machine.WIDTH g.M.Machine.REGS g.M.Machine.units_of) c.args.code.now c.in_ok-call.call cs (length c.in_ok-plan.plan.items)) (sym c.in_ok-callers.ensures)
    (sound (limits g.M.Machine.WIDTH g.M.Machine.REGS g.M.Machine.units_of) c.args.code.now c.raw-raw.result.now c.raw-raw.ensures.valid c.raw-raw.ensures.code c.as_slice-funcs.result.now c.as_slice-funcs.ensures c.number_of_main-func.result c.number_of_main-func.ensures c.index-funcs-func.result c.index-funcs-func.is c.as_slice-image.result.now c.as_slice-image.ensures c.first_base-base.result c.first_base-base.ensures c.in_ok-call.call (subst (λ n. IsEntered n c.index-funcs-func.result c.number_of_main-func.result c.first_base-base.result [] c.in_ok-call.call) c.REGS.ensures c.in_ok-call.ensures) (length c.in_ok-plan.plan.items) (let room = c.in_ok-plan.ensures in omega arith))

pub returns : goal.returns
returns g c =
    subst (λ (cs : List Suspended). IsLoaded g.M.Machine.latency_of c.args.code.now (going_at c.args.code.now c.in_ok-call.call cs c.clear.new.self 0)) (sym c.in_ok-callers.ensures)
    (loaded (limits g.M.Machine.WIDTH g.M.Machine.REGS g.M.Machine.units_of) c.args.code.now c.raw-raw.result.now c.raw-raw.ensures.valid c.raw-raw.ensures.code c.as_slice-funcs.result.now c.as_slice-funcs.ensures c.number_of_main-func.result c.number_of_main-func.ensures c.index-funcs-func.result c.index-funcs-func.is c.as_slice-image.result.now c.as_slice-image.ensures c.first_base-base.result c.first_base-base.ensures c.in_ok-call.call (subst (λ n. IsEntered n c.index-funcs-func.result c.number_of_main-func.result c.first_base-base.result [] c.in_ok-call.call) c.REGS.ensures c.in_ok-call.ensures) (length c.in_ok-plan.plan.items) (let room = c.in_ok-plan.ensures in omega arith) g.M.Machine.latency_of c.in_ok-memory.memory c.clear.new.self c.in_ok-memory.ensures c.clear.ensures)
