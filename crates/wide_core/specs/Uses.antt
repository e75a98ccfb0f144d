-- Which registers an operation reads and writes.
use Rattle.std.specs.Prelude.{ℕ, Bool, true, false, ◌||◌, ◌==◌, List, [], ◌∷◌, ◌++◌, Option, Some, None}
use Rattle.ib_act.specs.Acts.{first_source, second_source, target as act_target}
use Rattle.wide_core.specs.declared.code.Loc.{Loc}
use Rattle.wide_core.specs.declared.code.Loc.TheVariants.{Reg, Slot}
use Rattle.wide_core.specs.declared.code.WideAct.{WideAct}
use Rattle.wide_core.specs.declared.code.WideAct.TheVariants.{Do, Spill, Reload, Check, Jump, Branch, BranchZero, Call, Return}

abbrev pub opt_list : Option ℕ → List ℕ
opt_list None = []
opt_list (Some r) = r ∷ []

abbrev pub reads : WideAct → List ℕ
reads (Do act) = opt_list (first_source act) ++ opt_list (second_source act)
reads (Spill n a) = a ∷ []
reads (Reload d n) = []
reads (Check a) = a ∷ []
reads (Jump w) = []
reads (Branch a w) = a ∷ []
reads (BranchZero a w) = a ∷ []
reads (Call result func next args) = args
reads (Return a) = opt_list a

-- the register that it writes at once; a call's result comes later
abbrev pub writes_now : WideAct → Option ℕ
writes_now (Do act) = act_target act
writes_now (Reload d n) = Some d
writes_now act = None

-- neither a spill nor a reload; a call's result goes to a register
abbrev pub is_item : WideAct → Bool
is_item (Spill n a) = false
is_item (Reload d n) = false
is_item (Call (Some (Slot n)) func next args) = false
is_item act = true

abbrev pub in_list : ℕ → List ℕ → Bool
in_list r [] = false
in_list r (x ∷ xs) = (r == x) || in_list r xs

-- the register of a call's result, where it has one
abbrev pub result_of : Option Loc → Option ℕ
result_of (Some (Reg d)) = Some d
result_of place = None

-- the register that it defines, a call's destination too
abbrev pub written : WideAct → Option ℕ
written (Call result func next args) = result_of result
written act = writes_now act

abbrev pub is_target : Option ℕ → ℕ → Bool
is_target None r = false
is_target (Some d) r = r == d

abbrev pub is_result : Option Loc → ℕ → Bool
is_result None r = false
is_result (Some (Reg d)) r = r == d
is_result (Some (Slot n)) r = false
