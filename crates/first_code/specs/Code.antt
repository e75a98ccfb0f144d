-- The code of a program of the first form: one operation per word, none of them flagged. A variable has the slot of its
-- number, and the value of each operator a slot of its own behind those.
use Rattle.std.specs.Prelude.{ℕ, suc, ◌+◌, pos, false, List, [], ◌∷◌, ◌++◌, length, Some, None, codes}
use Rattle.ib_meaning.specs.declared.place.Place.{Place}
use Rattle.ib_act.specs.declared.act.Size.TheVariants.{Four}
use Rattle.ib_act.specs.declared.act.Act.TheVariants.{Const, Add, Sub, Mul, Div, PutNumber}
use Rattle.wide_core.specs.declared.code.WideAct.{WideAct}
use Rattle.wide_core.specs.declared.code.WideAct.TheVariants.{Do, Spill, Return}
use Rattle.wide_core.specs.declared.code.Word.{Word}
use Rattle.wide_core.specs.declared.code.RawCode.{RawCode}
use Rattle.first_form.specs.declared.program.Addend.{Addend}
use Rattle.first_form.specs.declared.program.Multiplier.{Multiplier}
use Rattle.first_form.specs.declared.program.Program.{Program}
use Rattle.first_form.specs.declared.program.Stmt.{Stmt}
use Rattle.first_form.specs.declared.program.Stmt.TheVariants.{Declare, Assign, Print, Return as Give}
use Rattle.first_form.specs.declared.program.Sum.{Sum}
use Rattle.first_form.specs.declared.program.SumOp.{SumOp}
use Rattle.first_form.specs.declared.program.SumOp.TheVariants.{Plus, Minus}
use Rattle.first_form.specs.declared.program.Term.{Term}
use Rattle.first_form.specs.declared.program.TermOp.{TermOp}
use Rattle.first_form.specs.declared.program.TermOp.TheVariants.{Times, Over}
use Rattle.first_form.specs.Places.{place_of}
use Rattle.first_code.specs.declared.operand.Operand.{Operand}
use Rattle.first_code.specs.declared.operand.Operand.TheVariants.{InSlot}
use Rattle.first_code.specs.Operand.{operand_of, load}

-- an operator on the registers 0 and 1, with its value in register 0
abbrev pub add_act : SumOp → WideAct
add_act Plus = Do (Add Four 0 0 1)
add_act Minus = Do (Sub Four 0 0 1)

abbrev pub scale_act : TermOp → WideAct
scale_act Times = Do (Mul Four 0 0 1)
scale_act Over = Do (Div Four 0 0 1)

-- an operator on two operands, whose value goes to a slot
abbrev pub operation : WideAct → Operand → Operand → ℕ → List WideAct
operation act a b slot = load 0 a ∷ load 1 b ∷ act ∷ Spill slot 0 ∷ []

abbrev pub multiplication : Operand → ℕ → Multiplier → List WideAct
multiplication x slot m = operation (scale_act m.op) x (operand_of m.factor) slot

-- what follows an operand in a product; each operator takes the next slot
abbrev pub product_code : Operand → ℕ → List Multiplier → List WideAct
product_code x slot [] = []
product_code x slot (m ∷ ms) = multiplication x slot m ++ product_code (InSlot slot) (suc slot) ms

-- where its value is
abbrev pub product_operand : Operand → ℕ → List Multiplier → Operand
product_operand x slot [] = x
product_operand x slot (m ∷ ms) = product_operand (InSlot slot) (suc slot) ms

-- the next free slot behind it
abbrev pub product_slot : ℕ → List Multiplier → ℕ
product_slot slot [] = slot
product_slot slot (m ∷ ms) = product_slot (suc slot) ms

abbrev pub term_code : ℕ → Term → List WideAct
term_code slot term = product_code (operand_of term.first) slot term.rest

abbrev pub term_operand : ℕ → Term → Operand
term_operand slot term = product_operand (operand_of term.first) slot term.rest

abbrev pub term_slot : ℕ → Term → ℕ
term_slot slot term = product_slot slot term.rest

abbrev pub addition : Operand → ℕ → Addend → List WideAct
addition x slot a = term_code slot a.term ++ operation (add_act a.op) x (term_operand slot a.term) (term_slot slot a.term)

-- what follows an operand in a sum
abbrev pub total_code : Operand → ℕ → List Addend → List WideAct
total_code x slot [] = []
total_code x slot (a ∷ rest) = addition x slot a ++ total_code (InSlot (term_slot slot a.term)) (suc (term_slot slot a.term)) rest

abbrev pub total_operand : Operand → ℕ → List Addend → Operand
total_operand x slot [] = x
total_operand x slot (a ∷ rest) = total_operand (InSlot (term_slot slot a.term)) (suc (term_slot slot a.term)) rest

abbrev pub total_slot : ℕ → List Addend → ℕ
total_slot slot [] = slot
total_slot slot (a ∷ rest) = total_slot (suc (term_slot slot a.term)) rest

abbrev pub sum_code : ℕ → Sum → List WideAct
sum_code slot sum = term_code slot sum.first ++ total_code (term_operand slot sum.first) (term_slot slot sum.first) sum.rest

abbrev pub sum_operand : ℕ → Sum → Operand
sum_operand slot sum = total_operand (term_operand slot sum.first) (term_slot slot sum.first) sum.rest

abbrev pub sum_slot : ℕ → Sum → ℕ
sum_slot slot sum = total_slot (term_slot slot sum.first) sum.rest

-- a sum whose value comes to register 0, and an operation on it
abbrev pub sum_into : ℕ → Sum → WideAct → List WideAct
sum_into slot sum act = sum_code slot sum ++ (load 0 (sum_operand slot sum) ∷ act ∷ [])

-- a variable gets 0
abbrev pub zero_code : ℕ → List WideAct
zero_code variable = Do (Const 0 (pos 0)) ∷ Spill variable 0 ∷ []

-- a statement, where so many variables are declared and this is the next free slot
abbrev pub stmt_code : ℕ → ℕ → Stmt → List WideAct
stmt_code declared slot (Declare place None) = zero_code declared
stmt_code declared slot (Declare place (Some sum)) = sum_into slot sum (Spill declared 0)
stmt_code declared slot (Assign place variable sum) = sum_into slot sum (Spill variable 0)
stmt_code declared slot (Print place sum) = sum_into slot sum (Do (PutNumber 0))
stmt_code declared slot (Give place sum) = sum_into slot sum (Return (Some 0))

abbrev pub stmt_slot : ℕ → Stmt → ℕ
stmt_slot slot (Declare place None) = slot
stmt_slot slot (Declare place (Some sum)) = sum_slot slot sum
stmt_slot slot (Assign place variable sum) = sum_slot slot sum
stmt_slot slot (Print place sum) = sum_slot slot sum
stmt_slot slot (Give place sum) = sum_slot slot sum

-- how many variables are declared behind a statement
abbrev pub declared_after : ℕ → Stmt → ℕ
declared_after declared (Declare place value) = suc declared
declared_after declared stmt = declared

-- an operation by itself in a word, with its number and its statement's place
abbrev pub word_of : ℕ → Place → WideAct → Word
word_of number place act = record { ops = record { number = number; home = place; flagged = false; act = act } ∷ [] }

-- operations in words of their own, with numbers that rise from this one
abbrev pub words_of : ℕ → Place → List WideAct → List Word
words_of number place [] = []
words_of number place (act ∷ acts) = word_of number place act ∷ words_of (suc number) place acts

-- statements, and behind them the return of 0, which no statement has asked for
abbrev pub body_words : ℕ → ℕ → ℕ → List Stmt → List Word
body_words number declared slot [] = word_of number (record { line = 1; col = 1 }) (Return None) ∷ []
body_words number declared slot (stmt ∷ rest) =
    words_of number (place_of stmt) (stmt_code declared slot stmt)
    ++ body_words (number + length (stmt_code declared slot stmt)) (declared_after declared stmt) (stmt_slot slot stmt) rest

-- how many slots the body needs
abbrev pub body_slot : ℕ → List Stmt → ℕ
body_slot slot [] = slot
body_slot slot (stmt ∷ rest) = body_slot (stmt_slot slot stmt) rest

-- code of one function `main`, with so many slots and these words
abbrev pub main_code : ℕ → List Word → RawCode
main_code slots words = record {
  image = [];
  funcs = record { name = codes "main"; params = []; frame = 0; slots = slots; words = words } ∷ [];
}

abbrev pub code_of : Program → RawCode
code_of program = main_code (body_slot (length program.names) program.body) (body_words 1 0 (length program.names) program.body)
