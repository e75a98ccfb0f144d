-- Times by which all registers and slots are ready.
use Rattle.std.specs.Prelude.{ℕ, ◌≤◌}
use Rattle.wide_core.specs.declared.code.Loc.{Loc}
use Rattle.wide_core.specs.Cycle.{Times}

pub record AreBy (times : Times) (last : ℕ) : Type 0 where
  pub by : (loc : Loc) → times loc ≤ last
