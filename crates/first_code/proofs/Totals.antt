-- A code maker in the middle of a sum.
use Rattle.std.proofs.Common.{◌≡◌, ℕ, suc, ◌+◌, ◌<◌, ◌≤◌, List, [], ◌∷◌, length, drop, get_or, refl, sym, ap, ◌∙◌, subst, arith, add-one, drop-cons}
use Rattle.std.proofs.Math.ListN.{drop_of_length-le}
use Rattle.first_form.specs.declared.program.Addend.{Addend}
use Rattle.first_code.specs.declared.maker.CodeMaker.{CodeMaker}
use Rattle.first_code.specs.declared.operand.Operand.{Operand}
use Rattle.first_code.specs.declared.operand.Operand.TheVariants.{InSlot}
use Rattle.first_code.specs.Code.{addition, term_slot, total_code, total_operand, total_slot}
use Rattle.first_code.specs.Made.{Makes, HasRoom}
use Rattle.first_code.proofs.Progress.{IsMaking, making_all, making_room, making_on, making_over}
use Rattle.first_code.proofs.Sums.{total_slot_grows}

-- an operand and the addends that are left come to what the first operand and all of them do
pub record IsInTotal (start now : CodeMaker) (first : Operand) (all : List Addend) (x : Operand) (left : List Addend) : Type 0 where
  pub making : IsMaking start now (total_code first start.slot all) (total_slot start.slot all) (total_code x now.slot left) (total_slot now.slot left)
  pub operand : total_operand x now.slot left ≡ total_operand first start.slot all

pub total_begins : (start : CodeMaker) (first : Operand) (all : List Addend) → IsInTotal start start first all first all
total_begins start first all = record { making = making_all start _ _; operand = refl }

from_here : (all : List Addend) (i : ℕ) (d : Addend) → i < length all → drop i all ≡ get_or all i d ∷ drop (i + 1) all
from_here all i d h = rw add-one (drop-cons all i d h)

pub total_room : (start now : CodeMaker) (first x : Operand) (all : List Addend) (i : ℕ) (a : Addend) → IsInTotal start now first all x (drop i all) → HasRoom start (total_code first start.slot all) (total_slot start.slot all) → i < length all → a ≡ get_or all i a → HasRoom now (addition x now.slot a) (term_slot now.slot a.term + 1)
total_room start now first x all i a inside room h is =
    let left : List Addend = drop (i + 1) all in
    let here : IsInTotal start now first all x (a ∷ left) = subst (IsInTotal start now first all x) (from_here all i a h ∙ ap (λ (b : Addend). b ∷ left) (sym is)) inside in
    let grows = total_slot_grows (suc (term_slot now.slot a.term)) left in
    making_room start now (total_code first start.slot all) (addition x now.slot a) (total_code (InSlot (term_slot now.slot a.term)) (suc (term_slot now.slot a.term)) left) (total_slot start.slot all) (term_slot now.slot a.term + 1) (total_slot now.slot (a ∷ left)) here.making room (omega arith)

pub total_goes_on : (start now new : CodeMaker) (first x y : Operand) (all : List Addend) (i : ℕ) (a : Addend) → IsInTotal start now first all x (drop i all) → Makes now new (addition x now.slot a) (term_slot now.slot a.term + 1) → i < length all → a ≡ get_or all i a → y ≡ InSlot (term_slot now.slot a.term) → IsInTotal start new first all y (drop (i + 1) all)
total_goes_on start now new first x y all i a inside makes h is value =
    let left : List Addend = drop (i + 1) all in
    let here : IsInTotal start now first all x (a ∷ left) = subst (IsInTotal start now first all x) (from_here all i a h ∙ ap (λ (b : Addend). b ∷ left) (sym is)) inside in
    let next : new.slot ≡ suc (term_slot now.slot a.term) = makes.next ∙ add-one (term_slot now.slot a.term) in
    let operand : Operand = InSlot (term_slot now.slot a.term) in
    subst (λ (z : Operand). IsInTotal start new first all z left) (sym value) (record {
      making = subst (λ (n : ℕ). IsMaking start new (total_code first start.slot all) (total_slot start.slot all) (total_code operand n left) (total_slot n left)) (sym next)
          (making_on start now new (total_code first start.slot all) (addition x now.slot a) (total_code operand (suc (term_slot now.slot a.term)) left) (total_slot start.slot all) (term_slot now.slot a.term + 1) (total_slot now.slot (a ∷ left)) (total_slot (suc (term_slot now.slot a.term)) left) here.making makes refl);
      operand = ap (λ (n : ℕ). total_operand operand n left) next ∙ here.operand;
    })

pub total_ends : (start now : CodeMaker) (first x : Operand) (all : List Addend) (i : ℕ) → IsInTotal start now first all x (drop i all) → length all ≤ i → Makes start now (total_code first start.slot all) (total_slot start.slot all) × (x ≡ total_operand first start.slot all)
total_ends start now first x all i inside h =
    let here : IsInTotal start now first all x [] = subst (IsInTotal start now first all x) (drop_of_length-le all h) inside in
    (making_over start now (total_code first start.slot all) (total_slot start.slot all) here.making, here.operand)
