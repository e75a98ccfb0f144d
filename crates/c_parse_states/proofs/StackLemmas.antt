-- A stack with one more on top.
use Rattle.std.proofs.Common.{◌≡◌, suc, List, [], ◌∷◌, ◌++◌, refl}
use Rattle.c_parse_states.specs.declared.frames.Arm.{Arm}
use Rattle.c_parse_states.specs.declared.frames.Arm.TheVariants as arm
use Rattle.c_parse_states.specs.declared.frames.Frame.{Frame}
use Rattle.c_parse_states.specs.declared.frames.Frame.TheVariants as frame
use Rattle.c_parse_machine.specs.Machine as M
use Rattle.c_parse_states.specs.Views.{arm_of, arms_of, frame_of, frames_in, depth, outer_depth}

pub arms_snoc : (xs : List Arm) (x : Arm) (i : M.Outer) → arms_of (xs ++ x ∷ []) i ≡ arm_of x (arms_of xs i)
arms_snoc [] x i = refl
arms_snoc (y ∷ ys) x i = arms_snoc ys x (arm_of y i)

pub frames_snoc : (xs : List Frame) (x : Frame) (σ : M.Frames) → frames_in (xs ++ x ∷ []) σ ≡ frame_of x (frames_in xs σ)
frames_snoc [] x σ = refl
frames_snoc (y ∷ ys) x σ = frames_snoc ys x (frame_of y σ)

pub frame_depth : (x : Frame) (σ : M.Frames) → depth (frame_of x σ) ≡ suc (depth σ)
frame_depth frame.Parens σ = refl
frame_depth _ σ = refl

pub arm_depth : (x : Arm) (i : M.Outer) → outer_depth (arm_of x i) ≡ suc (outer_depth i)
arm_depth (arm.Do p) i = refl
arm_depth _ i = refl
