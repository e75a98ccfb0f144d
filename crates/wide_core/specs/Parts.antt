-- The parts of code: its functions, its operations with their home places, and how it lies in memory.
use Rattle.std.specs.Prelude.{ℕ, suc, ◌+◌, ◌*◌, ◌/◌, Bool, ◌==◌, ◌||◌, nat_le, nat_lt, List, [], ◌∷◌, ◌++◌, Option, Some, None, codes, if◌then◌else◌, bytes_eq}
use Rattle.ib_mem.specs.Memory.{zeros, filled}
use Rattle.ib_meaning.specs.declared.place.Place.{Place}
use Rattle.wide_core.specs.declared.code.Loc.{Loc}
use Rattle.wide_core.specs.declared.code.WideOp.{WideOp}
use Rattle.wide_core.specs.declared.code.Word.{Word}
use Rattle.wide_core.specs.declared.code.WideFunc.{WideFunc}
use Rattle.wide_core.specs.declared.code.RawCode.{RawCode}

-- ---- functions by number; one that is not there has nothing

abbrev pub words_of : Option WideFunc → List Word
words_of None = []
words_of (Some func) = func.words

abbrev pub frame_of : Option WideFunc → ℕ
frame_of None = 0
frame_of (Some func) = func.frame

abbrev pub params_of : Option WideFunc → List Loc
params_of None = []
params_of (Some func) = func.params

abbrev pub slots_of : Option WideFunc → ℕ
slots_of None = 0
slots_of (Some func) = func.slots

abbrev pub is_main : WideFunc → Bool
is_main func = bytes_eq func.name (codes "main")

-- the number of the first function `main`
abbrev pub number_of_main : List WideFunc → ℕ
number_of_main [] = 0
number_of_main (func ∷ funcs) = if is_main func then 0 else suc (number_of_main funcs)

-- ---- operations

abbrev pub ops_of_words : List Word → List WideOp
ops_of_words [] = []
ops_of_words (word ∷ words) = word.ops ++ ops_of_words words

-- all operations of the code, in order
abbrev pub ops_of_funcs : List WideFunc → List WideOp
ops_of_funcs [] = []
ops_of_funcs (func ∷ funcs) = ops_of_words func.words ++ ops_of_funcs funcs

-- the home place of the first operation with the number
abbrev pub home_in : List WideOp → ℕ → Place
home_in [] number = record { line = 0; col = 0 }
home_in (op ∷ ops) number = if op.number == number then op.home else home_in ops number

unfoldable pub home_of : RawCode → ℕ → Place
home_of code number = home_in (ops_of_funcs code.funcs) number

-- ---- memory and calls

-- the image lies from byte 4096 on, in a memory of zeros
unfoldable pub first_memory : List ℕ → List ℕ
first_memory image = filled (zeros 1048576) 4096 image

-- where the first frame begins: behind the image, at a multiple of 16
abbrev pub first_base : (image : ℕ) → ℕ
first_base image = 4096 + 16 * ((image + 15) / 16)

-- how many calls there may be at once
abbrev pub most_calls : ℕ
most_calls = 4096

-- one call more would be too many, or its frame would not end within the memory
abbrev pub overflows : (waiting base frame : ℕ) → Bool
overflows waiting base frame = nat_le most_calls (suc waiting) || nat_lt 1048576 (base + frame)
