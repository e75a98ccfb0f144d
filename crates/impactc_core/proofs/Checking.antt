-- The work of `check F`.
use Rattle.std.proofs.Common.{inl, ℕ, List, Ok, Some, refl}
use Rattle.ib_base.specs.World.{World}
use Rattle.c_typed.specs.Program.{Program}
use Rattle.impactc_words.specs.declared.words.Command.TheVariants.{Check}
use Rattle.impactc_core.specs.declared.success.Success.TheVariants.{Checked}
use Rattle.impactc_core.specs.Answers.{Works}
use Rattle.impactc_core.specs.Sources.{IsSource, HasProgram}

pub works_checked : (file content : List ℕ) (program : Program) (w : World) → IsSource file w content → HasProgram content program → Works (Some (Check file)) (Ok Checked) w w
works_checked file content program w source has = record {
  may = inl refl;
  cause = λ plain. record { content = content; program = program; source = source; typed = has; same = refl; is = refl };
}
