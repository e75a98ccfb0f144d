-- What a step prints that broke off in an operation.
use Rattle.std.proofs.Common.{◌≡◌, List, ℕ, sym, subst, ◌∷◌}
use Rattle.ib_meaning.specs.declared.place.Place.{Place}
use Rattle.ib_meaning.specs.Agreement.{IsPrefix}
use Rattle.ib_base.specs.World.{World}
use Rattle.ib_run.specs.OverHost.{OverHost}
use Rattle.ib_run.specs.Path.{printed_of}
use Rattle.ib_run.proofs.OverHost.{over_weaken}
use Rattle.tac_core.specs.declared.code.TacOp.{TacOp}
use Rattle.tac_core.specs.Meaning.{Here, Waiting, Effect, Does, Fails, effect_of, after_act, do_next, place_of}
use Rattle.profile.specs.Running.{TakesPart, StepsPart, effect_prints}
use Rattle.profile.specs.Sound.{Running, state_of}

printed_after : (e : Effect) (place : Place) (here : Here) (rest : List TacOp) (waiting : List Waiting) (left part : List ℕ) → IsPrefix part (effect_prints e) → IsPrefix part (printed_of (after_act e place here rest waiting left))
printed_after (Does regs memory left' printed) place here rest waiting left part p = p
printed_after (Fails kind) place here rest waiting left part p = p

pub op_part : (r : Running) (op : TacOp) (rest : List TacOp) (before after : World) → r.here.ops ≡ op ∷ rest → OverHost (TakesPart (effect_of op.act r.here.base r.here.regs r.memory)) before after → OverHost (StepsPart r.program (state_of r)) before after
op_part r op rest before after is over =
    over_weaken (TakesPart (effect_of op.act r.here.base r.here.regs r.memory)) (StepsPart r.program (state_of r)) before after over
    (λ input left part h.
    subst (λ ops. IsPrefix part (printed_of (do_next ops r.program.funcs r.program.places r.here r.waiting r.memory input))) (sym is)
    (printed_after (effect_of op.act r.here.base r.here.regs r.memory input) (place_of r.program.places op.stmt) r.here rest r.waiting input part h))
