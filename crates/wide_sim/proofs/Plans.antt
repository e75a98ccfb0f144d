-- What an operation plans, by the kind of operation.
use Rattle.std.proofs.Common.{◌≡◌, ℕ, zero, suc, ◌<◌, Bool, true, false, pos, List, [], ◌∷◌, length, map, nat_lt, Option, Some, None, Result, Ok, Err, ℤ, refl, sym, ap, ◌∙◌, arith, slice_index_or}
use Rattle.std.specs.List.{list_all}
use Rattle.ib_meaning.specs.declared.fault.FaultKind.{FaultKind}
use Rattle.ib_meaning.specs.declared.fault.FaultKind.TheVariants.{StackOverflow}
use Rattle.std.specs.Prelude.{if◌then◌else◌}
use Rattle.wide_core.specs.declared.code.Loc.{Loc}
use Rattle.wide_core.specs.declared.code.Loc.TheVariants.{Reg}
use Rattle.wide_core.specs.declared.code.Tagged.{Tagged}
use Rattle.wide_core.specs.declared.code.Tagged.TheVariants.{Clear, Mark}
use Rattle.wide_core.specs.declared.code.WideAct.{WideAct}
use Rattle.wide_core.specs.declared.code.WideAct.TheVariants.{Jump, Call, Return}
use Rattle.wide_core.specs.declared.tags.Done.{Done}
use Rattle.wide_core.specs.declared.tags.Done.TheVariants.{Value, Marked, Report}
use Rattle.wide_core.specs.Tagged.{number_of, first_mark, least_mark, evaluated}
use Rattle.wide_sim.specs.Planned.{shown_call}
use Rattle.wide_core.specs.declared.code.WideOp.{WideOp}
use Rattle.wide_core.specs.Operation.{Around, Effect, Go, Into, To, sources, reg_if, value_of, effect_by, effect_on, by_rule, shown}
use Rattle.wide_core.specs.Valid.{is_within}
use Rattle.wide_core.specs.Word.{effect}
use Rattle.wide_core.proofs.Both.{both_first, both_second}

-- an argument is among the registers
pub arg_within : (regs slots : ℕ) (args : List ℕ) (i : ℕ) → i < length args → list_all (is_within regs slots) (map (λ r. Reg r) args) ≡ true → nat_lt (slice_index_or args i 0) regs ≡ true
arg_within regs slots [] i lt h = absurd (omega arith)
arg_within regs slots (a ∷ args) zero lt h = both_first (nat_lt a regs) _ h
arg_within regs slots (a ∷ args) (suc i) lt h = arg_within regs slots args i (omega arith) (both_second (nat_lt a regs) _ h)

-- the effect of an operation that does this
pub effect_at : (around : Around) (places : Loc → Tagged) (op : WideOp) (act : WideAct) → op.act ≡ act → effect_by act op around (map places (sources act)) ≡ effect around places op
unfolding effect_on
effect_at around places op act is = ap (λ a. effect_by a op around (map places (sources a))) (sym is)

-- without a source nothing is marked
pub jump_goes : (around : Around) (op : WideOp) (to : ℕ) (flagged : Bool) → op.flagged ≡ flagged → Go (To to) ≡ by_rule (Jump to) op around []
jump_goes around op to true is = ap (λ b. shown (Jump to) [] (evaluated b op.number (Clear (pos 0)) (Ok (pos 0)))) (sym is)
jump_goes around op to false is = ap (λ b. shown (Jump to) [] (evaluated b op.number (Clear (pos 0)) (Ok (pos 0)))) (sym is)

pub return_value : (around : Around) (places : Loc → Tagged) (op : WideOp) (from : Option ℕ) → by_rule (Return from) op around (value_of (map places (reg_if from)) ∷ []) ≡ by_rule (Return from) op around (map places (reg_if from))
return_value around places op None = refl
return_value around places op (Some r) = refl

-- the least of marks counts by itself
mark_alone : (flagged : Bool) (number : ℕ) (mark : Tagged) (own : Result ℤ FaultKind) → evaluated flagged number (first_mark mark (Clear (pos 0))) own ≡ evaluated flagged number mark own
mark_alone true number (Clear x) (Ok v) = refl
mark_alone true number (Clear x) (Err k) = refl
mark_alone true number (Mark n k) own = refl
mark_alone false number (Clear x) (Ok v) = refl
mark_alone false number (Clear x) (Err k) = refl
mark_alone false number (Mark n k) own = refl

numbers_are : (places : Loc → Tagged) (args : List ℕ) → map (λ r. number_of (places (Reg r))) args ≡ map number_of (map places (map (λ r. Reg r) args))
numbers_are places [] = refl
numbers_are places (a ∷ args) = ap (λ ns. number_of (places (Reg a)) ∷ ns) (numbers_are places args)

shown_is : (result : Option Loc) (func next : ℕ) (args : List ℕ) (numbers : List ℤ) (done : Done) → shown_call result (Go (Into func next result numbers)) done ≡ shown (Call result func next args) numbers done
shown_is result func next args numbers (Value z) = refl
shown_is result func next args numbers (Marked n k) = refl
shown_is result func next args numbers (Report n k) = refl

pub call_effect : (around : Around) (places : Loc → Tagged) (op : WideOp) (result : Option Loc) (func next : ℕ) (args : List ℕ) (own : Result ℤ FaultKind)
    → shown_call result (Go (Into func next result (map (λ r. number_of (places (Reg r))) args))) (evaluated op.flagged op.number (least_mark (least_mark (map places (map (λ r. Reg r) args)) ∷ [])) own)
    ≡ shown (Call result func next args) (map number_of (map places (map (λ r. Reg r) args))) (evaluated op.flagged op.number (least_mark (map places (map (λ r. Reg r) args))) own)
call_effect around places op result func next args own =
    ap (λ done. shown_call result (Go (Into func next result (map (λ r. number_of (places (Reg r))) args))) done) (mark_alone op.flagged op.number (least_mark (map places (map (λ r. Reg r) args))) own)
    ∙ ap (λ ns. shown_call result (Go (Into func next result ns)) (evaluated op.flagged op.number (least_mark (map places (map (λ r. Reg r) args))) own)) (numbers_are places args)
    ∙ shown_is result func next args (map number_of (map places (map (λ r. Reg r) args))) (evaluated op.flagged op.number (least_mark (map places (map (λ r. Reg r) args))) own)

module _ (around : Around) (places : Loc → Tagged) (op : WideOp) (result : Option Loc) (func next : ℕ) where
  abbrev going : List ℕ → Effect
  going args = Go (Into func next result (map (λ r. number_of (places (Reg r))) args))

  abbrev own_value : Result ℤ FaultKind
  own_value = if around.room func then Ok (pos 0) else Err StackOverflow

  abbrev ruled : Tagged → Result ℤ FaultKind → Done
  ruled mark own = evaluated op.flagged op.number (least_mark (mark ∷ [])) own

  pub call_plans : (args passed : List ℕ) (mark : Tagged) (own : Result ℤ FaultKind) (done : Done) → passed ≡ args → mark ≡ least_mark (map places (map (λ r. Reg r) passed)) → own ≡ own_value → done ≡ ruled mark own
      → op.act ≡ Call result func next args → shown_call result (going passed) done ≡ effect around places op
  call_plans args passed mark own done passed_is mark_is own_is done_is is =
      ap (λ d. shown_call result (going passed) d) done_is
      ∙ ap (λ o. shown_call result (going passed) (ruled mark o)) own_is
      ∙ ap (λ m. shown_call result (going passed) (ruled m own_value)) mark_is
      ∙ ap (λ rs. shown_call result (going rs) (ruled (least_mark (map places (map (λ r. Reg r) rs))) own_value)) passed_is
      ∙ call_effect around places op result func next args own_value
      ∙ effect_at around places op (Call result func next args) is
