-- Plain code has one operation in each word, and a program of few operations needs few slots.
use Rattle.std.proofs.Common.{ℕ, false, suc, ◌+◌, ◌-◌, ◌≤◌, List, [], ◌∷◌, length, refl, arith}
use Rattle.std.specs.List.{All}
use Rattle.ib_meaning.specs.declared.place.Place.{Place}
use Rattle.tac_core.specs.declared.code.TacFunc.{TacFunc}
use Rattle.tac_core.specs.Program.{Program, program_ops}
use Rattle.plain_code.specs.Plain.{Item, func_items, numbered, funcs_from, plain, HasFewSlots}
use Rattle.plain_code.specs.Single.{AreSingle, ArePlain, IsPlain}

numbered_single : (n : ℕ) (xs : List Item) → AreSingle (numbered n xs)
numbered_single n [] = tt
numbered_single n (x ∷ xs) =
    (record { op = record { number = n; home = x.home; flagged = false; act = x.act }; alone = refl; unflagged = refl }, numbered_single (suc n) xs)

funcs_plain : (low : ℕ) (places : List Place) (n : ℕ) (fs : List TacFunc) → ArePlain (funcs_from low places n fs)
funcs_plain low places n [] = tt
funcs_plain low places n (f ∷ fs) =
    (numbered_single n (func_items low places f), funcs_plain low places (n + length (func_items low places f)) fs)

pub plain_is_plain : (regs : ℕ) (p : Program) → IsPlain (plain regs p)
unfolding plain
plain_is_plain regs p = record { funcs = funcs_plain (regs - 8) p.places 1 p.funcs }

-- a lowered program keeps both
pub few_slots : (regs : ℕ) (p : Program) → All (λ (f : TacFunc). f.regs ≤ 8 + program_ops p) p.funcs → program_ops p ≤ 200000 → HasFewSlots regs p
few_slots regs p few small k d lt = let h = few k d lt in omega arith
