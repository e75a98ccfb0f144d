-- A code maker that makes its operations in parts.
use Rattle.std.proofs.Common.{◌≡◌, ℕ, ◌+◌, List, [], ◌∷◌, Result, Ok, Err, OnOk, sym, ◌∙◌, subst, arith}
use Rattle.wide_core.specs.declared.code.WideAct.{WideAct}
use Rattle.first_form.specs.declared.program.Addend.{Addend}
use Rattle.first_form.specs.declared.program.Sum.{Sum}
use Rattle.first_code.specs.declared.maker.CodeMaker.{CodeMaker}
use Rattle.first_code.specs.declared.operand.Operand.{Operand}
use Rattle.first_code.specs.Operand.{load}
use Rattle.first_code.specs.Code.{add_act, operation, term_code, term_operand, term_slot, addition, total_code, total_slot, sum_code, sum_operand, sum_slot, sum_into}
use Rattle.first_code.specs.Made.{Makes, HasRoom}
use Rattle.first_code.proofs.Progress.{makes_both, room_first, room_second}
use Rattle.first_code.proofs.Sums.{total_slot_grows}

pub on_ok : {A E P Q : Type 0} (result : Result A E) → (P → Q) → OnOk result P → OnOk result Q
on_ok (Ok value) go h = go h
on_ok (Err error) go h = tt

module _ (old mid : CodeMaker) (value term : Operand) (act : WideAct) (a : Addend) (is_act : act ≡ add_act a.op) (is_term : term ≡ term_operand old.slot a.term) (makes : Makes old mid (term_code old.slot a.term) (term_slot old.slot a.term)) where
  abbrev OperatorCode : List WideAct
  OperatorCode = operation (add_act a.op) value (term_operand old.slot a.term) (term_slot old.slot a.term)

  pub add_room : HasRoom old (addition value old.slot a) (term_slot old.slot a.term + 1) → HasRoom mid (operation act value term mid.slot) (mid.slot + 1)
  add_room room =
      let after : HasRoom mid OperatorCode (term_slot old.slot a.term + 1) = room_second old mid (term_code old.slot a.term) OperatorCode (term_slot old.slot a.term) (term_slot old.slot a.term + 1) room makes in
      rw (is_act, is_term) (subst (λ (n : ℕ). HasRoom mid (operation (add_act a.op) value (term_operand old.slot a.term) n) (n + 1)) (sym makes.next) after)

  pub add_makes : (new : CodeMaker) → Makes mid new (operation act value term mid.slot) (mid.slot + 1) → Makes old new (addition value old.slot a) (term_slot old.slot a.term + 1)
  add_makes new after =
      let made : Makes mid new OperatorCode (term_slot old.slot a.term + 1) = subst (λ (n : ℕ). Makes mid new (operation (add_act a.op) value (term_operand old.slot a.term) n) (n + 1)) makes.next (rw (is_act, is_term) at after) in
      makes_both old mid new (term_code old.slot a.term) OperatorCode (term_slot old.slot a.term) (term_slot old.slot a.term + 1) makes made

pub sum_room : (old : CodeMaker) (sum : Sum) → HasRoom old (sum_code old.slot sum) (sum_slot old.slot sum) → HasRoom old (term_code old.slot sum.first) (term_slot old.slot sum.first)
sum_room old sum room =
    room_first old (term_code old.slot sum.first) (total_code (term_operand old.slot sum.first) (term_slot old.slot sum.first) sum.rest) (term_slot old.slot sum.first) (sum_slot old.slot sum) room
    (total_slot_grows (term_slot old.slot sum.first) sum.rest)

module _ (old mid : CodeMaker) (sum : Sum) (first : Operand) (rest : List Addend) (is_first : first ≡ term_operand old.slot sum.first) (is_rest : rest ≡ sum.rest) (makes : Makes old mid (term_code old.slot sum.first) (term_slot old.slot sum.first)) where
  abbrev RestCode : List WideAct
  RestCode = total_code (term_operand old.slot sum.first) (term_slot old.slot sum.first) sum.rest

  pub rest_room : HasRoom old (sum_code old.slot sum) (sum_slot old.slot sum) → HasRoom mid (total_code first mid.slot rest) (total_slot mid.slot rest)
  rest_room room =
      let after : HasRoom mid RestCode (sum_slot old.slot sum) = room_second old mid (term_code old.slot sum.first) RestCode (term_slot old.slot sum.first) (sum_slot old.slot sum) room makes in
      rw (is_first, is_rest) (subst (λ (n : ℕ). HasRoom mid (total_code (term_operand old.slot sum.first) n sum.rest) (total_slot n sum.rest)) (sym makes.next) after)

  pub rest_makes : (new : CodeMaker) → Makes mid new (total_code first mid.slot rest) (total_slot mid.slot rest) → Makes old new (sum_code old.slot sum) (sum_slot old.slot sum)
  rest_makes new after =
      let made : Makes mid new RestCode (sum_slot old.slot sum) = subst (λ (n : ℕ). Makes mid new (total_code (term_operand old.slot sum.first) n sum.rest) (total_slot n sum.rest)) makes.next (rw (is_first, is_rest) at after) in
      makes_both old mid new (term_code old.slot sum.first) RestCode (term_slot old.slot sum.first) (sum_slot old.slot sum) makes made

module _ (old mid : CodeMaker) (sum : Sum) (act : WideAct) (value : Operand) (is_value : value ≡ sum_operand old.slot sum) (makes : Makes old mid (sum_code old.slot sum) (sum_slot old.slot sum)) where
  abbrev Code : List WideAct
  Code = sum_code old.slot sum

  abbrev Uses : List WideAct
  Uses = load 0 (sum_operand old.slot sum) ∷ act ∷ []

  uses_room : HasRoom old (sum_into old.slot sum act) (sum_slot old.slot sum) → HasRoom mid Uses mid.slot
  uses_room room = subst (HasRoom mid Uses) (sym makes.next) (room_second old mid Code Uses (sum_slot old.slot sum) (sum_slot old.slot sum) room makes)

  pub load_room : (load_act : WideAct) → load_act ≡ load 0 value → HasRoom old (sum_into old.slot sum act) (sum_slot old.slot sum) → HasRoom mid (load_act ∷ []) mid.slot
  load_room load_act is room =
      rw (is, is_value) (room_first mid (load 0 (sum_operand old.slot sum) ∷ []) (act ∷ []) mid.slot mid.slot (uses_room room) (omega arith))

  module _ (loaded : CodeMaker) (load_act : WideAct) (is : load_act ≡ load 0 value) (loads : Makes mid loaded (load_act ∷ []) mid.slot) where
    loads_sum : Makes mid loaded (load 0 (sum_operand old.slot sum) ∷ []) mid.slot
    loads_sum = rw (is, is_value) at loads

    pub use_room : HasRoom old (sum_into old.slot sum act) (sum_slot old.slot sum) → HasRoom loaded (act ∷ []) loaded.slot
    use_room room =
        subst (HasRoom loaded (act ∷ [])) (sym loads.next) (room_second mid loaded (load 0 (sum_operand old.slot sum) ∷ []) (act ∷ []) mid.slot mid.slot (uses_room room) loads_sum)

    pub use_makes : (new : CodeMaker) → Makes loaded new (act ∷ []) loaded.slot → Makes old new (sum_into old.slot sum act) (sum_slot old.slot sum)
    use_makes new last =
        let both : Makes mid new Uses (sum_slot old.slot sum) = makes_both mid loaded new (load 0 (sum_operand old.slot sum) ∷ []) (act ∷ []) mid.slot (sum_slot old.slot sum) loads_sum (subst (Makes loaded new (act ∷ [])) (loads.next ∙ makes.next) last) in
        makes_both old mid new Code Uses (sum_slot old.slot sum) (sum_slot old.slot sum) makes both
