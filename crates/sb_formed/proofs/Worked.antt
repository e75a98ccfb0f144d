-- The superblocks of small chains.
use Rattle.std.proofs.Common.{◌≡◌, ℕ, Bool, true, false, List, [], ◌∷◌, Option, Some, None, pos, refl}
use Rattle.ib_meaning.specs.declared.place.Place.{Place}
use Rattle.ib_base.specs.declared.integers.Width.TheVariants.{W4}
use Rattle.ib_act.specs.declared.act.Act.{Act}
use Rattle.ib_act.specs.declared.act.Size.TheVariants.{Four}
use Rattle.ib_act.specs.declared.act.Act.TheVariants.{Add, Const, Div, Load, PutNumber}
use Rattle.wide_core.specs.declared.code.WideAct.{WideAct}
use Rattle.wide_core.specs.declared.code.WideAct.TheVariants.{Do, Check, Jump, Branch, BranchZero, Return}
use Rattle.wide_core.specs.declared.code.WideOp.{WideOp}
use Rattle.tac_core.specs.declared.code.TacOp.{TacOp}
use Rattle.tac_core.specs.declared.code.End.{End}
use Rattle.tac_core.specs.declared.code.End.TheVariants.{Jump as Jumps, Branch as Branches, Ret}
use Rattle.tac_core.specs.declared.code.Block.{Block}
use Rattle.tac_core.specs.declared.code.TacFunc.{TacFunc}
use Rattle.tac_core.specs.Program.{Program, main_name}
use Rattle.tac_core.specs.Traces.{Labels, FormedProgram}
use Rattle.sb_order.specs.Superblock.{checked}
use Rattle.sb_core.specs.Program.{SuperblockCode}
use Rattle.sb_formed.specs.Formed.{formed}

abbrev here : Place
here = record { line = 1; col = 1 }

abbrev main_of : List Block → TacFunc
main_of blocks = record { name = main_name; params = []; regs = 5; frame = 0; blocks = blocks }

abbrev program : List Block → Program
program blocks = record { image = []; places = here ∷ []; funcs = main_of blocks ∷ [] }

abbrev in_chains : List Block → List Labels → FormedProgram
in_chains blocks chains = record { copied = record { tac = program blocks; from = program blocks; origins = [] }; traces = chains ∷ [] }

abbrev block : List Act → End → Block
block acts end' = record { ops = of acts; «end» = end'; end_stmt = 0 }
  where
    of : List Act → List TacOp
    of [] = []
    of (act ∷ acts) = record { stmt = 0; act = act } ∷ of acts

abbrev op : ℕ → Bool → WideAct → WideOp
op number flagged act = record { number = number; home = here; flagged = flagged; act = act }

abbrev superblock : ℕ → List WideOp → SuperblockCode
superblock head items = record { func = 0; head = head; items = items }

-- ---- one block: the number behind each trapping operation is free

abbrev summed : Act → List Block
summed add = block (Load W4 2 0 (pos 0) ∷ Div Four 3 0 1 ∷ add ∷ PutNumber 4 ∷ []) (Ret (Some 0)) ∷ []

abbrev summed_items : Act → List WideOp
summed_items add =
    op 1 true (Do (Load W4 2 0 (pos 0))) ∷ op 3 true (Do (Div Four 3 0 1)) ∷ op 5 true (Do add)
    ∷ op 6 false (Do (PutNumber 4))
    ∷ op 7 false (Return (Some 0))
    ∷ []

both_used : (formed (in_chains (summed (Add Four 4 2 3)) ((0 ∷ []) ∷ []))).all ≡ superblock 0 (summed_items (Add Four 4 2 3)) ∷ []
unfolding formed
both_used = refl

one_used : (formed (in_chains (summed (Add Four 4 3 3)) ((0 ∷ []) ∷ []))).all ≡ superblock 0 (summed_items (Add Four 4 3 3)) ∷ []
unfolding formed
one_used = refl

-- where nothing reads what the load gives, its check has the free number behind it
one_checked : checked (summed_items (Add Four 4 3 3)) ≡ op 1 true (Do (Load W4 2 0 (pos 0))) ∷ op 2 false (Check 2) ∷ op 3 true (Do (Div Four 3 0 1)) ∷ op 5 true (Do (Add Four 4 3 3)) ∷ op 6 false (Do (PutNumber 4)) ∷ op 7 false (Return (Some 0)) ∷ []
one_checked = refl

-- ---- ends of blocks, inside a chain and at its end

abbrev branching : List Block
branching =
    block [] (Branches 0 1 2) ∷ block (Const 1 (pos 7) ∷ []) (Jumps 3) ∷ block [] (Branches 1 4 5) ∷ block [] (Branches 1 4 6)
    ∷ block [] (Ret None)
    ∷ block [] (Jumps 4)
    ∷ block [] (Ret (Some 1))
    ∷ []

-- the chain 0 1 3 6: a branch whose yes target follows goes elsewhere if the register is 0, a jump along the chain gives no
-- item, and a branch whose no target follows goes if it is not 0
ends_written : (formed (in_chains branching ((0 ∷ 1 ∷ 3 ∷ 6 ∷ []) ∷ (2 ∷ []) ∷ (4 ∷ []) ∷ (5 ∷ []) ∷ []))).all ≡ superblock 0 (op 1 false (BranchZero 0 2) ∷ op 2 true (Do (Const 1 (pos 7))) ∷ op 3 false (Branch 1 4) ∷ op 4 false (Return (Some 1)) ∷ []) ∷ superblock 2 (op 5 false (Branch 1 4) ∷ op 6 false (Jump 5) ∷ []) ∷ superblock 4 (op 7 false (Return None) ∷ []) ∷ superblock 5 (op 8 false (Jump 4) ∷ []) ∷ []
unfolding formed
ends_written = refl

-- chains may stand in any order: superblocks stand by rising head
by_head : (formed (in_chains branching ((5 ∷ []) ∷ (4 ∷ []) ∷ (0 ∷ 1 ∷ 3 ∷ 6 ∷ []) ∷ (2 ∷ []) ∷ []))).all ≡ (formed (in_chains branching ((0 ∷ 1 ∷ 3 ∷ 6 ∷ []) ∷ (2 ∷ []) ∷ (4 ∷ []) ∷ (5 ∷ []) ∷ []))).all
unfolding formed
by_head = refl
