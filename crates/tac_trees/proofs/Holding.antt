-- Operands with a slot of their own, and those without.
use Rattle.std.proofs.Common.{refl, Bool, true, false}
use Rattle.c_typed.specs.Tree as t
use Rattle.c_typed.specs.Tree.{Exp}
use Rattle.tac_trees.specs.Operands.{own_slot, Held}

pub held_so : (is_kept : Bool) (e : Exp) → Held (own_slot is_kept e) is_kept e
held_so false e = λ code r. (refl, refl, refl)
held_so true (t.constant ty v) = λ code r. (refl, refl, refl)
held_so true (t.text k) = λ code r. (refl, refl, refl)
held_so true (t.address ty of) = λ code r. (refl, refl, refl)
held_so true (t.element ty array length size reach a) = λ code r. (refl, refl, refl)
held_so true (t.slot ty k) = λ code r. (refl, refl, refl)
held_so true (t.load ty a) = λ code r. (refl, refl, refl)
held_so true (t.convert ty a) = λ code r. (refl, refl, refl)
held_so true (t.unary op rank a) = λ code r. (refl, refl, refl)
held_so true (t.not a) = λ code r. (refl, refl, refl)
held_so true (t.binary ty op a b) = λ code r. (refl, refl, refl)
held_so true (t.both a b) = λ code r. (refl, refl, refl)
held_so true (t.either a b) = λ code r. (refl, refl, refl)
held_so true (t.conditional ty a b c) = λ code r. (refl, refl, refl)
held_so true (t.set_slot ty k a) = λ code r. (refl, refl, refl)
held_so true (t.store ty a b) = λ code r. (refl, refl, refl)
held_so true (t.update_slot ty k within op a) = λ code r. (refl, refl, refl)
held_so true (t.update ty a within op b) = λ code r. (refl, refl, refl)
held_so true (t.step_slot ty k within op) = λ code r. (refl, refl, refl)
held_so true (t.step ty a within op) = λ code r. (refl, refl, refl)
held_so true (t.call ty f all) = λ code r. (refl, refl, refl)
held_so true t.get_byte = λ code r. (refl, refl, refl)
held_so true (t.put_byte a) = λ code r. (refl, refl, refl)
held_so true (t.put_number a) = λ code r. (refl, refl, refl)
held_so true (t.comma all a) = λ code r. (refl, refl, refl)
