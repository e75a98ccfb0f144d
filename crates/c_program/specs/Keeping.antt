-- What a checked program keeps: code that is made of it relies on this alone.
use Rattle.std.specs.Prelude.{ℕ, ⊤}
use Rattle.c_typed.specs.Program.{Program}
use Rattle.c_kept.specs.Kept.{KeepsProgram}
use Rattle.c_kept.specs.Numbered.{KeepsNumbers}
use Rattle.c_kept.specs.Weights.{KeepsWeights}
use Rattle.c_program.specs.Limits.{Limited, within, large_globals, large_frame}

-- of a source whose tree has so many nodes
pub record Keeps (nodes : ℕ) (p : Program) : Type 0 where
  pub rules : KeepsProgram p
  pub numbers : KeepsNumbers p
  pub weights : KeepsWeights nodes p

-- where it is within the limits
abbrev pub KeepsWithin : (nodes : ℕ) → Limited → Type 0
KeepsWithin nodes (within p) = Keeps nodes p
KeepsWithin nodes (large_globals bytes) = ⊤
KeepsWithin nodes (large_frame bytes) = ⊤
