-- The chains of small superblocks.
use Rattle.std.proofs.Common.{◌≡◌, ℕ, Bool, true, false, List, [], ◌∷◌, Some, pos, refl}
use Rattle.ib_meaning.specs.declared.place.Place.{Place}
use Rattle.ib_base.specs.declared.integers.Width.TheVariants.{W4}
use Rattle.ib_act.specs.declared.act.Act.{Act}
use Rattle.ib_act.specs.declared.act.Size.TheVariants.{Four}
use Rattle.ib_act.specs.declared.act.Act.TheVariants.{Add, Const, Div, Load, Mov, PutNumber, Store}
use Rattle.wide_core.specs.declared.code.WideAct.{WideAct}
use Rattle.wide_core.specs.declared.code.WideAct.TheVariants.{Do, Branch, Return}
use Rattle.wide_core.specs.declared.code.WideOp.{WideOp}
use Rattle.sb_core.specs.Chain.{chain}

abbrev here : Place
here = record { line = 1; col = 1 }

abbrev op : ℕ → Bool → WideAct → WideOp
op number flagged act = record { number = number; home = here; flagged = flagged; act = act }

abbrev summed : Act → List WideOp
summed add =
    op 1 true (Do (Load W4 2 0 (pos 0))) ∷ op 3 true (Do (Div Four 3 0 1)) ∷ op 5 true (Do add)
    ∷ op 6 false (Do (PutNumber 4))
    ∷ op 7 false (Return (Some 0))
    ∷ []

-- the print reads a carrier of both
both_carried : chain (summed (Add Four 4 2 3)) ≡ 6 ∷ 7 ∷ []
both_carried = refl

-- nothing reads what the load gives
load_checked : chain (summed (Add Four 4 3 3)) ≡ 2 ∷ 6 ∷ 7 ∷ []
load_checked = refl

-- the store reads what the load gives, through a copy; the copy is then overwritten
through_a_copy : chain (op 1 true (Do (Load W4 2 0 (pos 0))) ∷ op 3 true (Do (Mov 3 2)) ∷ op 4 false (Do (Store W4 0 (pos 0) 3)) ∷ op 5 true (Do (Const 3 (pos 0))) ∷ op 6 false (Return (Some 3)) ∷ []) ≡ 4 ∷ 6 ∷ []
through_a_copy = refl

-- what the load gives is overwritten before the store reads the register
overwritten : chain (op 1 true (Do (Load W4 2 0 (pos 0))) ∷ op 3 true (Do (Const 2 (pos 0))) ∷ op 4 false (Do (Store W4 0 (pos 0) 2)) ∷ op 5 false (Return (Some 2)) ∷ []) ≡ 2 ∷ 4 ∷ 5 ∷ []
overwritten = refl

-- the check of the second load stands between the first load and the print, and reads the second alone
check_between : chain (op 1 true (Do (Load W4 2 0 (pos 0))) ∷ op 3 true (Do (Load W4 3 0 (pos 4))) ∷ op 5 false (Do (PutNumber 2)) ∷ op 6 false (Return (Some 0)) ∷ []) ≡ 2 ∷ 4 ∷ 5 ∷ 6 ∷ []
check_between = refl

-- a branch that reads what the load gives stands in for its check
branch_reads : chain (op 1 true (Do (Load W4 2 0 (pos 0))) ∷ op 3 false (Branch 2 5) ∷ op 4 false (Return (Some 0)) ∷ []) ≡ 3 ∷ 4 ∷ []
branch_reads = refl
