-- Functions whose frames hold their numbers too, so that a sort of them can be undone.
use Rattle.std.specs.Prelude.{◌≡◌, ℕ, zero, suc, ◌+◌, ◌*◌, ◌/◌, ◌%◌, ◌<◌, ◌≤◌, List, [], ◌∷◌, length}
use Rattle.std.specs.declared.cmp.Ordering.{Ordering}
use Rattle.std.specs.Ordering.{nat_cmp}
use Rattle.std.specs.Cmp.Lexicographic.{slice_cmp}
use Rattle.tac_core.specs.declared.code.TacFunc.{TacFunc}

-- what the rules say of a frame: some sixteens, at most 16,384 of them
pub record HasGoodFrame (f : TacFunc) : Type 0 where
  pub few : f.frame ≤ 262144
  pub aligned : f.frame % 16 ≡ 0

-- the sixteens of a frame, and a number above them
abbrev pub with_number : (frame number : ℕ) → ℕ
with_number frame number = 16385 * number + frame / 16

abbrev pub without_number : ℕ → ℕ
without_number frame = 16 * (frame % 16385)

-- each function with its number, counted from n
abbrev pub numbered : ℕ → List TacFunc → List TacFunc
numbered n [] = []
numbered n (f ∷ fs) = record f { frame = with_number f.frame n } ∷ numbered (suc n) fs

abbrev pub unnumbered : List TacFunc → List TacFunc
unnumbered [] = []
unnumbered (f ∷ fs) = record f { frame = without_number f.frame } ∷ unnumbered fs

abbrev pub name_cmp : TacFunc → TacFunc → Ordering
name_cmp f g = slice_cmp nat_cmp f.name g.name

abbrev pub frame_cmp : TacFunc → TacFunc → Ordering
frame_cmp f g = nat_cmp f.frame g.frame
