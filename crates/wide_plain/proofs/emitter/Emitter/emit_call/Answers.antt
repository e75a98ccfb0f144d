use Rattle.std.proofs.Common.{ℕ, List, [], ◌∷◌, Option, refl, ap₂}
use Rattle.wide_core.specs.declared.code.Loc.{Loc}
use Rattle.wide_core.specs.declared.code.WideAct.TheVariants.{Call}
use Rattle.plain_code.specs.Plain.{item}
use Rattle.wide_plain.proofs.Emitted.{emits_onto}
use Rattle.wide_plain.proofs.emitter.Emitter.emit_call.Goals as goal

pub returns : goal.returns
returns c =
    emits_onto c.emit.result _ _ _ _ _ _ _ c.in_ok-emit_reloads.ensures c.emit.ensures refl
    (ap₂ (λ (r : Option Loc) (xs : List ℕ). item c.args.home (Call r c.args.func c.args.next xs) ∷ []) c.result-result.ensures c.in_ok-args.ensures)
