-- A code maker in the middle of a product.
use Rattle.std.proofs.Common.{◌≡◌, ℕ, suc, ◌+◌, ◌<◌, ◌≤◌, List, [], ◌∷◌, length, drop, get_or, refl, sym, ap, ◌∙◌, subst, arith, add-one, drop-cons}
use Rattle.std.proofs.Math.ListN.{drop_of_length-le}
use Rattle.first_form.specs.declared.program.Multiplier.{Multiplier}
use Rattle.first_code.specs.declared.maker.CodeMaker.{CodeMaker}
use Rattle.first_code.specs.declared.operand.Operand.{Operand}
use Rattle.first_code.specs.declared.operand.Operand.TheVariants.{InSlot}
use Rattle.first_code.specs.Code.{multiplication, product_code, product_operand, product_slot}
use Rattle.first_code.specs.Made.{Makes, HasRoom}
use Rattle.first_code.proofs.Progress.{IsMaking, making_all, making_room, making_on, making_over}
use Rattle.first_code.proofs.Sums.{product_slot_grows}

-- an operand and the multipliers that are left come to what the first operand and all of them do
pub record IsInProduct (start now : CodeMaker) (first : Operand) (all : List Multiplier) (x : Operand) (left : List Multiplier) : Type 0 where
  pub making : IsMaking start now (product_code first start.slot all) (product_slot start.slot all) (product_code x now.slot left) (product_slot now.slot left)
  pub operand : product_operand x now.slot left ≡ product_operand first start.slot all

pub product_begins : (start : CodeMaker) (first : Operand) (all : List Multiplier) → IsInProduct start start first all first all
product_begins start first all = record { making = making_all start _ _; operand = refl }

from_here : (all : List Multiplier) (i : ℕ) (d : Multiplier) → i < length all → drop i all ≡ get_or all i d ∷ drop (i + 1) all
from_here all i d h = rw add-one (drop-cons all i d h)

pub product_room : (start now : CodeMaker) (first x : Operand) (all : List Multiplier) (i : ℕ) (d : Multiplier) → IsInProduct start now first all x (drop i all) → HasRoom start (product_code first start.slot all) (product_slot start.slot all) → i < length all → HasRoom now (multiplication x now.slot (get_or all i d)) (now.slot + 1)
product_room start now first x all i d inside room h =
    let m : Multiplier = get_or all i d in
    let left : List Multiplier = drop (i + 1) all in
    let here : IsInProduct start now first all x (m ∷ left) = subst (IsInProduct start now first all x) (from_here all i d h) inside in
    let grows = product_slot_grows (suc now.slot) left in
    making_room start now (product_code first start.slot all) (multiplication x now.slot m) (product_code (InSlot now.slot) (suc now.slot) left) (product_slot start.slot all) (now.slot + 1) (product_slot now.slot (m ∷ left)) here.making room (omega arith)

pub product_goes_on : (start now new : CodeMaker) (first x y : Operand) (all : List Multiplier) (i : ℕ) (d : Multiplier) → IsInProduct start now first all x (drop i all) → Makes now new (multiplication x now.slot (get_or all i d)) (now.slot + 1) → i < length all → y ≡ InSlot now.slot → IsInProduct start new first all y (drop (i + 1) all)
product_goes_on start now new first x y all i d inside makes h value =
    let m : Multiplier = get_or all i d in
    let left : List Multiplier = drop (i + 1) all in
    let here : IsInProduct start now first all x (m ∷ left) = subst (IsInProduct start now first all x) (from_here all i d h) inside in
    let next : new.slot ≡ suc now.slot = makes.next ∙ add-one now.slot in
    subst (λ (operand : Operand). IsInProduct start new first all operand left) (sym value) (record {
      making = subst (λ (n : ℕ). IsMaking start new (product_code first start.slot all) (product_slot start.slot all) (product_code (InSlot now.slot) n left) (product_slot n left)) (sym next)
          (making_on start now new (product_code first start.slot all) (multiplication x now.slot m) (product_code (InSlot now.slot) (suc now.slot) left) (product_slot start.slot all) (now.slot + 1) (product_slot now.slot (m ∷ left)) (product_slot (suc now.slot) left) here.making makes refl);
      operand = ap (λ (n : ℕ). product_operand (InSlot now.slot) n left) next ∙ here.operand;
    })

pub product_ends : (start now : CodeMaker) (first x : Operand) (all : List Multiplier) (i : ℕ) → IsInProduct start now first all x (drop i all) → length all ≤ i → Makes start now (product_code first start.slot all) (product_slot start.slot all) × (x ≡ product_operand first start.slot all)
product_ends start now first x all i inside h =
    let here : IsInProduct start now first all x [] = subst (IsInProduct start now first all x) (drop_of_length-le all h) inside in
    (making_over start now (product_code first start.slot all) (product_slot start.slot all) here.making, here.operand)
