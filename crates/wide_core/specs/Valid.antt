-- The rules of valid code, and all that are broken, by lines of the code's text and in its order.
use Rattle.std.specs.Prelude.{◌≡◌, ℕ, suc, ◌+◌, ◌/◌, ◌%◌, ℤ, Bool, true, false, ◌&&◌, ◌||◌, not, ◌==◌, nat_lt, nat_le, int_le, pos, negsuc, List, [], ◌∷◌, ◌++◌, map, length, slice_get, Option, Some, None, bytes_eq, if◌then◌else◌}
use Rattle.std.specs.List.{list_all, list_any}
use Rattle.machine_desc.specs.declared.machine.OpClass.{OpClass}
use Rattle.machine_desc.specs.declared.machine.OpClass.TheVariants.{Alu, Mul, Mem, Io, Control}
use Rattle.ib_act.specs.declared.act.Act.TheVariants.{Bounds, Load, Store}
use Rattle.wide_core.specs.Classes.{class_of, ends, is_register}
use Rattle.wide_core.specs.Cycle.{touched}
use Rattle.wide_core.specs.Operation.{target}
use Rattle.wide_core.specs.Parts.{is_main}
use Rattle.wide_core.specs.Places.{same_loc}
use Rattle.wide_core.specs.declared.code.Loc.{Loc}
use Rattle.wide_core.specs.declared.code.Loc.TheVariants.{Reg, Slot}
use Rattle.wide_core.specs.declared.code.WideAct.{WideAct}
use Rattle.wide_core.specs.declared.code.WideAct.TheVariants.{Do, Jump, Branch, BranchZero, Call}
use Rattle.wide_core.specs.declared.code.WideOp.{WideOp}
use Rattle.wide_core.specs.declared.code.Word.{Word}
use Rattle.wide_core.specs.declared.code.WideFunc.{WideFunc}
use Rattle.wide_core.specs.declared.code.RawCode.{RawCode}
use Rattle.wide_core.specs.declared.rule.Rule.{Rule}
use Rattle.wide_core.specs.declared.rule.BrokenRule.{BrokenRule}

-- what a machine sets: the most and the least operations of a word, the registers, and the units of each class
pub record Limits : Type 0 where
  pub width : ℕ
  pub least : ℕ
  pub regs : ℕ
  pub units : OpClass → ℕ

abbrev pub limits : (width regs : ℕ) (units : OpClass → ℕ) → Limits
limits width regs units = record { width = width; least = 1; regs = regs; units = units }

-- of code in which a word may still be empty; a function's last one cannot, since control never goes on behind it
abbrev pub loose_limits : (width regs : ℕ) (units : OpClass → ℕ) → Limits
loose_limits width regs units = record { width = width; least = 0; regs = regs; units = units }

-- what the operations of a function may name: so many registers, slots and words, and these functions
pub record Scope : Type 0 where
  pub regs : ℕ
  pub slots : ℕ
  pub words : ℕ
  pub funcs : List WideFunc

-- of the rules of a line, those that are broken
abbrev pub broken : (line : ℕ) → List Rule → List BrokenRule
broken line [] = []
broken line (rule ∷ rules) = if rule.kept then broken line rules else (record { line = line; rule = rule.number } ∷ broken line rules)

abbrev pub rule : ℕ → Bool → Rule
rule number kept = record { number = number; kept = kept }

-- ---- operations

abbrev pub is_within : (regs slots : ℕ) → Loc → Bool
is_within regs slots (Reg r) = nat_lt r regs
is_within regs slots (Slot s) = nat_lt s slots

-- the words that it may go to, also behind a call
abbrev pub goes_within : (words : ℕ) → WideAct → Bool
goes_within words (Jump to) = nat_lt to words
goes_within words (Branch from to) = nat_lt to words
goes_within words (BranchZero from to) = nat_lt to words
goes_within words (Call result func next args) = nat_lt next words
goes_within words act = true

abbrev pub takes : Option WideFunc → (args : ℕ) → Bool
takes None args = false
takes (Some func) args = args == length func.params

-- a function that it calls is there, and has as many parameters as there are arguments
abbrev pub calls_well : List WideFunc → WideAct → Bool
calls_well funcs (Call result func next args) = takes (slice_get funcs func) (length args)
calls_well funcs act = true

abbrev pub is_offset : ℤ → Bool
is_offset offset = int_le (negsuc 1048575) offset && int_le offset (pos 1048576)

abbrev pub has_good_number : WideAct → Bool
has_good_number (Do (Load width to base offset)) = is_offset offset
has_good_number (Do (Store width base offset from)) = is_offset offset
has_good_number (Do (Bounds to from bound)) = int_le (pos 1) bound
has_good_number act = true

abbrev pub same_target : Option Loc → Option Loc → Bool
same_target (Some a) (Some b) = same_loc a b
same_target a b = false

-- an operation behind others of its word, and behind operations with these numbers
abbrev pub rules_of_op : Scope → (numbers : List ℕ) (earlier : List WideOp) → WideOp → List Rule
rules_of_op scope numbers earlier op =
    rule 1 (list_all (is_within scope.regs scope.slots) (touched op.act))
    ∷ rule 3 (not (list_any (λ (other : WideOp). same_target (target op.act) (target other.act)) earlier))
    ∷ rule 4 (goes_within scope.words op.act)
    ∷ rule 5 (calls_well scope.funcs op.act)
    ∷ rule 6 (not op.flagged || is_register op.act)
    ∷ rule 7 (nat_lt 0 op.number && not (list_any (λ number. op.number == number) numbers))
    ∷ rule 10 (has_good_number op.act)
    ∷ []

abbrev pub of_ops : Scope → (numbers : List ℕ) (earlier : List WideOp) (line : ℕ) → List WideOp → List BrokenRule
of_ops scope numbers earlier line [] = []
of_ops scope numbers earlier line (op ∷ ops) =
    broken line (rules_of_op scope numbers earlier op)
    ++ of_ops scope (numbers ++ op.number ∷ []) (earlier ++ op ∷ []) (suc line) ops

-- ---- words

abbrev pub same_class : OpClass → OpClass → Bool
same_class Alu Alu = true
same_class Mul Mul = true
same_class Mem Mem = true
same_class Io Io = true
same_class Control Control = true
same_class a b = false

-- how many operations are of the class
abbrev pub count_of : OpClass → List WideOp → ℕ
count_of class [] = 0
count_of class (op ∷ ops) = if same_class class (class_of op.act) then suc (count_of class ops) else count_of class ops

abbrev pub has_units : Limits → List WideOp → OpClass → Bool
has_units limits ops class = nat_le (count_of class ops) (limits.units class)

abbrev pub fits_word : Limits → List WideOp → Bool
fits_word limits ops =
    nat_le limits.least (length ops) && nat_le (length ops) limits.width
    && list_all (has_units limits ops) (Alu ∷ Mul ∷ Mem ∷ Io ∷ Control ∷ [])

-- control never goes on behind it
abbrev pub always_leaves : WideOp → Bool
always_leaves op = ends op.act

abbrev pub rules_of_word : Limits → (last : Bool) → List WideOp → List Rule
rules_of_word limits last ops = rule 2 (fits_word limits ops) ∷ rule 4 (not last || list_any always_leaves ops) ∷ []

abbrev pub numbers_of : List WideOp → List ℕ
numbers_of ops = map (λ (op : WideOp). op.number) ops

abbrev pub is_last : List Word → Bool
is_last [] = true
is_last (word ∷ words) = false

abbrev pub lines_of_word : Word → ℕ
lines_of_word word = suc (length word.ops)

abbrev pub of_word : Limits → Scope → (numbers : List ℕ) (line : ℕ) (last : Bool) → List WideOp → List BrokenRule
of_word limits scope numbers line last ops =
    broken line (rules_of_word limits last ops) ++ of_ops scope numbers [] (suc line) ops

abbrev pub of_words : Limits → Scope → (numbers : List ℕ) (line : ℕ) → List Word → List BrokenRule
of_words limits scope numbers line [] = []
of_words limits scope numbers line (word ∷ words) =
    of_word limits scope numbers line (is_last words) word.ops
    ++ of_words limits scope (numbers ++ numbers_of word.ops) (line + lines_of_word word) words

-- ---- functions

abbrev pub is_letter : ℕ → Bool
is_letter b = (nat_le 65 b && nat_le b 90) || ((nat_le 97 b && nat_le b 122) || b == 95)

abbrev pub is_digit : ℕ → Bool
is_digit b = nat_le 48 b && nat_le b 57

-- a letter or `_`, then letters, digits and `_`
abbrev pub is_name : List ℕ → Bool
is_name [] = false
is_name (b ∷ bs) = is_letter b && list_all (λ c. is_letter c || is_digit c) bs

-- no place stands among those before it
abbrev pub differ : (earlier : List Loc) → List Loc → Bool
differ earlier [] = true
differ earlier (loc ∷ locs) = not (list_any (same_loc loc) earlier) && differ (earlier ++ loc ∷ []) locs

abbrev pub has_good_sizes : WideFunc → Bool
has_good_sizes func =
    nat_le func.frame 262144 && (func.frame % 16 == 0) && nat_le func.slots 1048576
    && nat_le (length func.params) 8 && nat_le 1 (length func.words)

-- a function behind others with these names
abbrev pub rules_of_func : Limits → (names : List (List ℕ)) → WideFunc → List Rule
rules_of_func limits names func =
    rule 1 (list_all (is_within limits.regs func.slots) func.params)
    ∷ rule 3 (differ [] func.params)
    ∷ rule 8 (is_name func.name && not (list_any (bytes_eq func.name) names))
    ∷ rule 9 (has_good_sizes func)
    ∷ []

abbrev pub scope_of : Limits → List WideFunc → WideFunc → Scope
scope_of limits funcs func = record { regs = limits.regs; slots = func.slots; words = length func.words; funcs = funcs }

abbrev pub numbers_in : List Word → List ℕ
numbers_in [] = []
numbers_in (word ∷ words) = numbers_of word.ops ++ numbers_in words

abbrev pub lines_of_words : List Word → ℕ
lines_of_words [] = 0
lines_of_words (word ∷ words) = lines_of_word word + lines_of_words words

abbrev pub lines_of_func : WideFunc → ℕ
lines_of_func func = suc (lines_of_words func.words)

abbrev pub of_func : Limits → List WideFunc → (names : List (List ℕ)) (numbers : List ℕ) (line : ℕ) → WideFunc → List BrokenRule
of_func limits all names numbers line func =
    broken line (rules_of_func limits names func) ++ of_words limits (scope_of limits all func) numbers (suc line) func.words

abbrev pub of_funcs : Limits → List WideFunc → (names : List (List ℕ)) (numbers : List ℕ) (line : ℕ) → List WideFunc → List BrokenRule
of_funcs limits all names numbers line [] = []
of_funcs limits all names numbers line (func ∷ funcs) =
    of_func limits all names numbers line func
    ++ of_funcs limits all (names ++ func.name ∷ []) (numbers ++ numbers_in func.words) (line + lines_of_func func) funcs

-- ---- code

-- the line of the image's length: the third; behind it stand the image's bytes, 32 in a line, and the number of functions
abbrev pub image_line : ℕ
image_line = 3

abbrev pub lines_of_image : List ℕ → ℕ
lines_of_image image = (length image + 31) / 32

abbrev pub first_func_line : RawCode → ℕ
first_func_line code = lines_of_image code.image + 5

abbrev pub lines_of_funcs : List WideFunc → ℕ
lines_of_funcs [] = 0
lines_of_funcs (func ∷ funcs) = lines_of_func func + lines_of_funcs funcs

-- the line behind the functions
abbrev pub notes_line : RawCode → ℕ
notes_line code = first_func_line code + lines_of_funcs code.funcs

-- the lines of the text without notes: its last one follows
abbrev pub text_lines : RawCode → ℕ
text_lines code = suc (notes_line code)

abbrev pub is_empty : List Loc → Bool
is_empty [] = true
is_empty (loc ∷ locs) = false

-- the function that a run begins with
abbrev pub is_entry : WideFunc → Bool
is_entry func = is_main func && is_empty func.params

-- all rules that are broken, in the order of the text
unfoldable pub broken_rules : Limits → RawCode → List BrokenRule
broken_rules limits code =
    broken image_line (rule 9 (nat_le (length code.image) 524288) ∷ [])
    ++ of_funcs limits code.funcs [] [] (first_func_line code) code.funcs
    ++ broken (notes_line code) (rule 8 (list_any is_entry code.funcs) ∷ [])

-- code of which no rule is broken
abbrev pub IsValid : Limits → RawCode → Type 0
IsValid limits code = broken_rules limits code ≡ []
