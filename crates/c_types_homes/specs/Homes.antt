-- Where the variables of a function live: in the frame where their address is taken or they are arrays, else in slots.
use Rattle.std.specs.Prelude.{ℕ, zero, suc, ◌+◌, ◌==◌, ◌||◌, Bool, true, false, List, [], ◌∷◌}
use Rattle.c_ast.specs.Trees as c
use Rattle.c_typed.specs.declared.program.Home.{Home}
use Rattle.c_typed.specs.declared.program.Home.TheVariants as h
use Rattle.c_layout.specs.declared.shape.Shape.{Shape}
use Rattle.c_layout.specs.declared.shape.Shape.TheVariants.{Scalar, Array}
use Rattle.c_layout.specs.Sizes.{aligned, element_size, bytes_of}
use Rattle.c_types_homes.specs.declared.homes.Given.{Given}
use Rattle.c_types_homes.specs.Addressed.{function_variables, function_taken}

abbrev pub is_array : Shape → Bool
is_array (Scalar ty) = false
is_array (Array ty n) = true

abbrev pub holds : List ℕ → ℕ → Bool
holds [] k = false
holds (j ∷ js) k = (j == k) || holds js k

abbrev pub home_of : (in_frame : Bool) → Shape → Given → Home
home_of true shape given = h.Frame (aligned (element_size shape) given.bytes)
home_of false shape given = h.Slot given.slots

-- what is given out behind a variable
abbrev pub behind : (in_frame : Bool) → Shape → Given → Given
behind true shape given = record given { bytes = aligned (element_size shape) given.bytes + bytes_of shape }
behind false shape given = record given { slots = suc given.slots }

-- in a function whose variables with these numbers have their address taken
module _ (addressed : List ℕ) where
  abbrev pub is_in_frame : (k : ℕ) → Shape → Bool
  is_in_frame k shape = is_array shape || holds addressed k

  -- the homes of variables from number k on, where so much was given out before
  abbrev pub homes_from : (k : ℕ) → Given → List Shape → List Home
  homes_from k given [] = []
  homes_from k given (x ∷ xs) = home_of (is_in_frame k x) x given ∷ homes_from (suc k) (behind (is_in_frame k x) x given) xs

  abbrev pub given_behind : (k : ℕ) → Given → List Shape → Given
  given_behind k given [] = given
  given_behind k given (x ∷ xs) = given_behind (suc k) (behind (is_in_frame k x) x given) xs

abbrev pub none_given : Given
none_given = record { slots = 0; bytes = 0 }

-- by the variables' numbers
abbrev pub function_homes : List c.Par → c.Stms → List Home
function_homes params body = homes_from (function_taken params body) 0 none_given (function_variables params body)

-- what is given out to a function's variables
abbrev pub function_given : List c.Par → c.Stms → Given
function_given params body = given_behind (function_taken params body) 0 none_given (function_variables params body)

-- rounded up to a multiple of 16
abbrev pub frame_size : List c.Par → c.Stms → ℕ
frame_size params body = aligned 16 (function_given params body).bytes
