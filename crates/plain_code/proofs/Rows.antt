-- Worked rows: what plain code looks like, and what it prints.
use Rattle.std.proofs.Common.{◌≡◌, ℕ, List, [], ◌∷◌, ◌++◌, Some, None, pos, true, false, codes, refl, ap, ◌∙◌, append-nil}
use Rattle.std.specs.Fmt.{signed_decimal}
use Rattle.ib_meaning.specs.declared.place.Place.{Place}
use Rattle.ib_meaning.specs.Agreement.{Meaning, Over, Returned}
use Rattle.ib_meaning.specs.Machine.{means}
use Rattle.ib_base.specs.declared.integers.Width.TheVariants.{W4}
use Rattle.ib_base.specs.Integers.{wrapped}
use Rattle.ib_act.specs.declared.act.Act.{Act}
use Rattle.ib_act.specs.declared.act.Size.TheVariants.{Four}
use Rattle.ib_act.specs.declared.act.Act.TheVariants.{Const, Mov, Add, Store, PutNumber}
use Rattle.machine_desc.specs.Machine.{four_latency}
use Rattle.tac_core.specs.declared.code.TacOp.{TacOp}
use Rattle.tac_core.specs.declared.code.End.{End}
use Rattle.tac_core.specs.declared.code.End.TheVariants.{Jump as Leads, Branch as Parts, Call as Calls, Ret}
use Rattle.tac_core.specs.declared.code.Block.{Block}
use Rattle.tac_core.specs.Program.{Program}
use Rattle.wide_core.specs.declared.code.Loc.TheVariants.{Reg, Slot}
use Rattle.wide_core.specs.declared.code.WideAct.{WideAct}
use Rattle.wide_core.specs.declared.code.WideAct.TheVariants.{Do, Spill, Reload, Jump, Branch, Call, Return}
use Rattle.wide_core.specs.declared.code.Word.{Word}
use Rattle.wide_core.specs.declared.code.WideFunc.{WideFunc}
use Rattle.wide_core.specs.declared.code.RawCode.{RawCode}
use Rattle.wide_core.specs.Operation.{effect_on}
use Rattle.wide_core.specs.Word.{after_word}
use Rattle.wide_core.specs.Meaning.{Wide, cycle_by, entered}
use Rattle.plain_code.specs.Plain.{item, spread, plain}

abbrev first : Place
first = record { line = 1; col = 1 }

abbrev second : Place
second = record { line = 2; col = 3 }

-- ---- one operation, on a machine with 16 registers: those below 8 are given out

-- registers below 8 stay
in_registers : spread 8 (λ l. l) first (Do (Add Four 2 0 1)) ≡ item first (Do (Add Four 2 0 1)) ∷ []
in_registers = refl

-- register 9 lives in slot 1, register 11 in slot 3, register 8 in slot 0
in_slots : spread 8 (λ l. l) first (Do (Add Four 9 8 11)) ≡ item first (Reload 8 0) ∷ item first (Reload 9 3) ∷ item first (Do (Add Four 8 8 9)) ∷ item first (Spill 1 8) ∷ []
in_slots = refl

-- a source is carried by the register of its place among the sources
second_in_slot : spread 8 (λ l. l) first (Do (Store W4 3 (pos 0) 10)) ≡ item first (Reload 9 2) ∷ item first (Do (Store W4 3 (pos 0) 9)) ∷ []
second_in_slot = refl

-- a call's result goes to a slot at once, its arguments come from registers; its target is the label's word
call_from_slots : spread 8 (λ l. 40) second (Call (Some (Reg 12)) 1 2 (9 ∷ 0 ∷ 8 ∷ [])) ≡ item second (Reload 8 1) ∷ item second (Reload 10 0) ∷ item second (Call (Some (Slot 4)) 1 40 (8 ∷ 0 ∷ 10 ∷ [])) ∷ []
call_from_slots = refl

-- ---- a program

abbrev op : ℕ → Act → TacOp
op stmt act = record { stmt = stmt; act = act }

abbrev block : List TacOp → End → Block
block ops e = record { ops = ops; «end» = e; end_stmt = 1 }

-- `main` hands 21 to a call, prints what comes back where it is not 0, and returns 0; what comes back is in register 9
abbrev handing : Program
handing = record {
  image = [];
  places = first ∷ second ∷ [];
  funcs =
      record {
        name = codes "main";
        params = [];
        regs = 10;
        frame = 0;
        blocks =
            block (op 0 (Const 8 (pos 21)) ∷ []) (Calls (Some 9) 1 (8 ∷ []) 1)
            ∷ block [] (Parts 9 2 3)
            ∷ block (op 1 (PutNumber 9) ∷ []) (Leads 3)
            ∷ block [] (Ret None)
            ∷ [];
      }
      ∷ record {
        name = codes "same";
        params = 0 ∷ [];
        regs = 2;
        frame = 0;
        blocks = block (op 1 (Mov 1 0) ∷ []) (Ret (Some 1)) ∷ [];
      }
      ∷ [];
}

abbrev word : ℕ → Place → WideAct → Word
word number home act = record { ops = record { number = number; home = home; flagged = false; act = act } ∷ [] }

abbrev handing_code : RawCode
handing_code = record {
  image = [];
  funcs =
      record {
        name = codes "main";
        params = [];
        frame = 0;
        slots = 2;
        words =
            word 1 first (Do (Const 8 (pos 21)))
            ∷ word 2 first (Spill 0 8)
            ∷ word 3 second (Reload 8 0)
            ∷ word 4 second (Call (Some (Slot 1)) 1 4 (8 ∷ []))
            ∷ word 5 second (Reload 8 1)
            ∷ word 6 second (Branch 8 7)
            ∷ word 7 second (Jump 10)
            ∷ word 8 second (Reload 8 1)
            ∷ word 9 second (Do (PutNumber 8))
            ∷ word 10 second (Jump 10)
            ∷ word 11 second (Return None)
            ∷ [];
      }
      ∷ record {
        name = codes "same";
        params = Reg 0 ∷ [];
        frame = 0;
        slots = 0;
        words = word 12 second (Do (Mov 1 0)) ∷ word 13 second (Return (Some 1)) ∷ [];
      }
      ∷ [];
}

plain_handing : plain 16 handing ≡ handing_code
unfolding plain
plain_handing = refl

-- on a machine with more registers nothing is spilled: `main` has 7 words
abbrev words_of_first : List WideFunc → List Word
words_of_first [] = []
words_of_first (f ∷ fs) = f.words

unspilled : words_of_first (plain 32 handing).funcs ≡ word 1 first (Do (Const 8 (pos 21))) ∷ word 2 second (Call (Some (Reg 9)) 1 2 (8 ∷ [])) ∷ word 3 second (Branch 9 4) ∷ word 4 second (Jump 6) ∷ word 5 second (Do (PutNumber 9)) ∷ word 6 second (Jump 6) ∷ word 7 second (Return None) ∷ []
unfolding plain
unspilled = refl

-- ---- what it does, from any memory

abbrev start : List ℕ → Wide
start memory = record {
  word = record { call = entered handing_code 0 4096 []; waiting = []; memory = memory };
  ready = record { top = λ loc. 0; waiting = [] };
  now = 0;
}

abbrev meaning : List ℕ → Meaning
meaning memory = means (cycle_by true four_latency handing_code) (start memory)

-- it has printed 21 when it ends; reloads and spills are ready after two cycles
prints : (memory : List ℕ) → meaning memory [] 20 ≡ Over (Returned (wrapped W4 (pos 0))) (signed_decimal (pos 21)) []
unfolding after_word effect_on
prints memory =
    ap (λ text. Over (Returned (wrapped W4 (pos 0))) text []) (append-nil (signed_decimal (pos 21) ++ []) ∙ append-nil (signed_decimal (pos 21)))
