-- What a program of the first form means: all values are `int`, and sums and products wrap to 32 bits.
use Rattle.std.specs.Prelude.{ℕ, suc, ℤ, pos, ◌+ℤ◌, ◌-ℤ◌, ◌*ℤ◌, neg_ℤ, ◌==◌, if◌then◌else◌, List, [], ◌∷◌, ◌++◌, Option, Some, None, Result, Ok, Err}
use Rattle.std.specs.Fmt.{signed_decimal}
use Rattle.ib_base.specs.declared.integers.Width.TheVariants.{W4}
use Rattle.ib_base.specs.Integers.{wrapped, quotient}
use Rattle.ib_meaning.specs.declared.fault.FaultKind.{FaultKind}
use Rattle.ib_meaning.specs.declared.place.Place.{Place}
use Rattle.ib_meaning.specs.Agreement.{Report, Over, Returned, Faulted, Meaning}
use Rattle.first_form.specs.declared.program.Addend.{Addend}
use Rattle.first_form.specs.declared.program.Factor.{Factor}
use Rattle.first_form.specs.declared.program.Factor.TheVariants.{Variable, Number, Negative}
use Rattle.first_form.specs.declared.program.Multiplier.{Multiplier}
use Rattle.first_form.specs.declared.program.Program.{Program}
use Rattle.first_form.specs.declared.program.Stmt.{Stmt}
use Rattle.first_form.specs.declared.program.Stmt.TheVariants.{Declare, Assign, Print, Return}
use Rattle.first_form.specs.declared.program.Sum.{Sum}
use Rattle.first_form.specs.declared.program.SumOp.{SumOp}
use Rattle.first_form.specs.declared.program.SumOp.TheVariants.{Plus, Minus}
use Rattle.first_form.specs.declared.program.Term.{Term}
use Rattle.first_form.specs.declared.program.TermOp.{TermOp}
use Rattle.first_form.specs.declared.program.TermOp.TheVariants.{Times, Over as Divide}

-- the value of each variable
abbrev pub Environment : Type 0
Environment = ℕ → ℤ

-- the same, but for one variable
abbrev pub assigned : ℕ → ℤ → Environment → Environment
assigned variable z env other = if other == variable then z else env other

-- a value that is used, or the fault in its place
abbrev pub with_value : Result ℤ FaultKind → (ℤ → Result ℤ FaultKind) → Result ℤ FaultKind
with_value (Ok z) go = go z
with_value (Err kind) go = Err kind

abbrev pub added_by : SumOp → ℤ → ℤ → Result ℤ FaultKind
added_by Plus a b = Ok (wrapped W4 (a +ℤ b))
added_by Minus a b = Ok (wrapped W4 (a -ℤ b))

abbrev pub scaled_by : TermOp → ℤ → ℤ → Result ℤ FaultKind
scaled_by Times a b = Ok (wrapped W4 (a *ℤ b))
scaled_by Divide a b = quotient W4 a b

abbrev pub factor_value : Environment → Factor → ℤ
factor_value env (Variable variable) = env variable
factor_value env (Number n) = pos n
factor_value env (Negative n) = neg_ℤ (pos n)

-- a number with the multipliers behind it, from left to right
abbrev pub product : Environment → ℤ → List Multiplier → Result ℤ FaultKind
product env z [] = Ok z
product env z (m ∷ ms) = with_value (scaled_by m.op z (factor_value env m.factor)) (λ y. product env y ms)

abbrev pub term_value : Environment → Term → Result ℤ FaultKind
term_value env term = product env (factor_value env term.first) term.rest

-- a number with the addends behind it, from left to right
abbrev pub total : Environment → ℤ → List Addend → Result ℤ FaultKind
total env z [] = Ok z
total env z (a ∷ as') = with_value (term_value env a.term) (λ y. with_value (added_by a.op z y) (λ x. total env x as'))

abbrev pub sum_value : Environment → Sum → Result ℤ FaultKind
sum_value env sum = with_value (term_value env sum.first) (λ z. total env z sum.rest)

-- a declaration without a sum gives 0
abbrev pub initial_value : Environment → Option Sum → Result ℤ FaultKind
initial_value env None = Ok (pos 0)
initial_value env (Some sum) = sum_value env sum

-- a statement that has its value, or the fault that belongs to it
abbrev pub done_with : Place → Result ℤ FaultKind → (out left : List ℕ) → (ℤ → Report) → Report
done_with place (Ok z) out left go = go z
done_with place (Err kind) out left go = Over (Faulted place kind) out left

-- statements one after the other, where so many variables are declared
abbrev pub run_body : List Stmt → ℕ → Environment → (out left : List ℕ) → Report
run_body [] declared env out left = Over (Returned (pos 0)) out left
run_body (Declare place value ∷ rest) declared env out left =
    done_with place (initial_value env value) out left (λ z. run_body rest (suc declared) (assigned declared z env) out left)
run_body (Assign place variable value ∷ rest) declared env out left =
    done_with place (sum_value env value) out left (λ z. run_body rest declared (assigned variable z env) out left)
run_body (Print place value ∷ rest) declared env out left =
    done_with place (sum_value env value) out left (λ z. run_body rest declared env (out ++ signed_decimal z) left)
run_body (Return place value ∷ rest) declared env out left =
    done_with place (sum_value env value) out left (λ z. Over (Returned z) out left)

-- No loop and no call spends the budget, so each budget shows the whole run.
abbrev pub source_meaning : Program → Meaning
source_meaning program input budget = run_body program.body 0 (λ variable. pos 0) [] input
