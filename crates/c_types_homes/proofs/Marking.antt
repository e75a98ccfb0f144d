-- Marks of the numbers that a list holds, and the homes that they give.
use Rattle.std.proofs.Common.{◌≡◌, ℕ, zero, suc, ◌+◌, ◌<◌, Bool, true, false, ◌||◌, ◌==◌, List, [], ◌∷◌, length, drop, refl, sym, ap, ◌∙◌, arith, slice_set}
use Rattle.std.specs.Prelude.{slice_index_or}
use Rattle.c_types_homes.specs.Homes.{holds}
