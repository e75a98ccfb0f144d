-- A code maker in the middle of the statements.
use Rattle.std.proofs.Common.{◌≡◌, ℕ, suc, ◌+◌, ◌<◌, ◌≤◌, List, [], ◌∷◌, ◌++◌, length, drop, get_or, refl, sym, ap, ◌∙◌, subst, arith, add-one, drop-cons, append_assoc, length-append, Some, None}
use Rattle.std.proofs.Math.ListN.{drop_of_length-le}
use Rattle.ib_meaning.specs.declared.place.Place.{Place}
use Rattle.wide_core.specs.declared.code.WideAct.{WideAct}
use Rattle.wide_core.specs.declared.code.WideAct.TheVariants.{Return}
use Rattle.wide_core.specs.declared.code.Word.{Word}
use Rattle.first_form.specs.declared.program.Stmt.{Stmt}
use Rattle.first_form.specs.declared.program.Stmt.TheVariants.{Declare, Assign, Print, Return as Give}
use Rattle.first_form.specs.Places.{place_of}
use Rattle.first_code.specs.declared.maker.CodeMaker.{CodeMaker}
use Rattle.first_code.specs.Code.{stmt_code, stmt_slot, declared_after, words_of, body_words, body_slot}
use Rattle.first_code.specs.Made.{Makes, HasRoom, MakesBody, HasBodyRoom, DeclaresFew}
use Rattle.first_code.proofs.Progress.{length-words_of}
use Rattle.first_code.proofs.Bodies.{sum_slot_grows}

abbrev at_place : CodeMaker → Place → CodeMaker
at_place maker place = record { words = maker.words; slot = maker.slot; place = place }

-- the words so far, and behind them those of statements that are left
abbrev with_body : CodeMaker → ℕ → List Stmt → List Word
with_body maker declared left = maker.words ++ body_words (suc (length maker.words)) declared maker.slot left

-- some statements are made, and some are left, where so many variables are declared
pub record IsInBody (start now : CodeMaker) (all : List Stmt) (declared : ℕ) (left : List Stmt) : Type 0 where
  pub words : with_body now declared left ≡ with_body start 0 all
  pub slots : body_slot now.slot left ≡ body_slot start.slot all
  pub few : DeclaresFew start.slot declared left

pub body_begins : (start : CodeMaker) (all : List Stmt) → DeclaresFew start.slot 0 all → IsInBody start start all 0 all
body_begins start all few = record { words = refl; slots = refl; few = few }

from_here : (all : List Stmt) (i : ℕ) (d : Stmt) → i < length all → drop i all ≡ get_or all i d ∷ drop (i + 1) all
from_here all i d h = rw add-one (drop-cons all i d h)

here : (start now : CodeMaker) (all : List Stmt) (declared i : ℕ) (stmt : Stmt) → IsInBody start now all declared (drop i all) → i < length all → stmt ≡ get_or all i stmt → IsInBody start now all declared (stmt ∷ drop (i + 1) all)
here start now all declared i stmt inside h is =
    subst (IsInBody start now all declared) (from_here all i stmt h ∙ ap (λ (s : Stmt). s ∷ drop (i + 1) all) (sym is)) inside

pub stmt_slot_grows : (slot : ℕ) (stmt : Stmt) → slot ≤ stmt_slot slot stmt
stmt_slot_grows slot (Declare place None) = omega arith
stmt_slot_grows slot (Declare place (Some sum)) = sum_slot_grows slot sum
stmt_slot_grows slot (Assign place variable sum) = sum_slot_grows slot sum
stmt_slot_grows slot (Print place sum) = sum_slot_grows slot sum
stmt_slot_grows slot (Give place sum) = sum_slot_grows slot sum

pub body_slot_grows : (slot : ℕ) (body : List Stmt) → slot ≤ body_slot slot body
body_slot_grows slot [] = omega arith
body_slot_grows slot (stmt ∷ rest) = let g = stmt_slot_grows slot stmt in let h = body_slot_grows (stmt_slot slot stmt) rest in omega arith

length_body : (start now : CodeMaker) (all left : List Stmt) (declared : ℕ) → IsInBody start now all declared left → length now.words + length (body_words (suc (length now.words)) declared now.slot left) ≡ length start.words + length (body_words (suc (length start.words)) 0 start.slot all)
length_body start now all left declared inside =
    sym (length-append now.words (body_words (suc (length now.words)) declared now.slot left))
    ∙ ap (length {A = Word}) inside.words
    ∙ length-append start.words (body_words (suc (length start.words)) 0 start.slot all)

pub length_stmt : (number declared slot : ℕ) (stmt : Stmt) (rest : List Stmt) → length (body_words number declared slot (stmt ∷ rest)) ≡ length (stmt_code declared slot stmt) + length (body_words (number + length (stmt_code declared slot stmt)) (declared_after declared stmt) (stmt_slot slot stmt) rest)
length_stmt number declared slot stmt rest =
    length-append (words_of number (place_of stmt) (stmt_code declared slot stmt)) (body_words (number + length (stmt_code declared slot stmt)) (declared_after declared stmt) (stmt_slot slot stmt) rest)
    ∙ ap (λ (n : ℕ). n + length (body_words (number + length (stmt_code declared slot stmt)) (declared_after declared stmt) (stmt_slot slot stmt) rest)) (length-words_of number (place_of stmt) (stmt_code declared slot stmt))

pub body_room : (start now : CodeMaker) (all : List Stmt) (declared i : ℕ) (stmt : Stmt) (place : Place) → IsInBody start now all declared (drop i all) → HasBodyRoom start all → i < length all → stmt ≡ get_or all i stmt → HasRoom (at_place now place) (stmt_code declared now.slot stmt) (stmt_slot now.slot stmt)
body_room start now all declared i stmt place inside room h is =
    let at = here start now all declared i stmt inside h is in
    let rest : List Stmt = drop (i + 1) all in
    let lengths = length_body start now all (stmt ∷ rest) declared at in
    let parts = length_stmt (suc (length now.words)) declared now.slot stmt rest in
    let grows = body_slot_grows (stmt_slot now.slot stmt) rest in
    let same = at.slots in
    let numbers = room.numbers in
    let slots = room.slots in
    record { numbers = omega arith; slots = omega arith }

pub few_now : (most declared : ℕ) (body : List Stmt) → DeclaresFew most declared body → declared ≤ most
few_now most declared [] few = few
few_now most declared (Declare place value ∷ rest) few = let h = few_now most (suc declared) rest few in omega arith
few_now most declared (Assign place variable value ∷ rest) few = few_now most declared rest few
few_now most declared (Print place value ∷ rest) few = few_now most declared rest few
few_now most declared (Give place value ∷ rest) few = few_now most declared rest few

pub declared_room : (start now : CodeMaker) (all : List Stmt) (declared i : ℕ) (stmt : Stmt) → IsInBody start now all declared (drop i all) → HasBodyRoom start all → i < length all → stmt ≡ get_or all i stmt → declared_after declared stmt ≤ 4294967295
declared_room start now all declared i stmt inside room h is =
    let at = here start now all declared i stmt inside h is in
    let few = few_now start.slot (declared_after declared stmt) (drop (i + 1) all) at.few in
    let grows = body_slot_grows start.slot all in
    let slots = room.slots in omega arith

pub body_goes_on : (start now new : CodeMaker) (all : List Stmt) (declared i : ℕ) (stmt : Stmt) (place : Place) → IsInBody start now all declared (drop i all) → i < length all → stmt ≡ get_or all i stmt → place ≡ place_of stmt → Makes (at_place now place) new (stmt_code declared now.slot stmt) (stmt_slot now.slot stmt) → (after : ℕ) → after ≡ declared_after declared stmt → IsInBody start new all after (drop (i + 1) all)
body_goes_on start now new all declared i stmt place inside h is is_place makes after is_after =
    let at = here start now all declared i stmt inside h is in
    let rest : List Stmt = drop (i + 1) all in
    let code : List WideAct = stmt_code declared now.slot stmt in
    let n : ℕ = suc (length now.words) in
    let declared' : ℕ = declared_after declared stmt in
    let slot' : ℕ = stmt_slot now.slot stmt in
    let made : List Word = words_of n (place_of stmt) code in
    let is_made : new.words ≡ now.words ++ made = makes.words ∙ ap (λ (p : Place). now.words ++ words_of n p code) is_place in
    let len : length new.words ≡ length now.words + length code = ap (length {A = Word}) is_made ∙ length-append now.words made ∙ ap (λ (k : ℕ). length now.words + k) (length-words_of n (place_of stmt) code) in
    let number : suc (length new.words) ≡ n + length code = omega arith in
    subst (λ (d : ℕ). IsInBody start new all d rest) (sym is_after) (record {
      words = ap (λ (k : ℕ). new.words ++ body_words (suc (length new.words)) declared' k rest) makes.next
          ∙ ap (λ (k : ℕ). new.words ++ body_words k declared' slot' rest) number
          ∙ ap (λ (ws : List Word). ws ++ body_words (n + length code) declared' slot' rest) is_made
          ∙ append_assoc now.words made (body_words (n + length code) declared' slot' rest)
          ∙ at.words;
      slots = ap (λ (k : ℕ). body_slot k rest) makes.next ∙ at.slots;
      few = at.few;
    })

ended : (start now : CodeMaker) (all : List Stmt) (declared i : ℕ) → IsInBody start now all declared (drop i all) → length all ≤ i → IsInBody start now all declared []
ended start now all declared i inside h = subst (IsInBody start now all declared) (drop_of_length-le all h) inside

pub end_room : (start now : CodeMaker) (all : List Stmt) (declared i : ℕ) (place : Place) → IsInBody start now all declared (drop i all) → HasBodyRoom start all → length all ≤ i → HasRoom (at_place now place) (Return None ∷ []) now.slot
end_room start now all declared i place inside room h =
    let at = ended start now all declared i inside h in
    let lengths = length_body start now all [] declared at in
    let same = at.slots in
    let numbers = room.numbers in
    let slots = room.slots in
    record { numbers = omega arith; slots = omega arith }

pub body_ends : (start now new : CodeMaker) (all : List Stmt) (declared i : ℕ) → IsInBody start now all declared (drop i all) → length all ≤ i → Makes (at_place now (record { line = 1; col = 1 })) new (Return None ∷ []) now.slot → MakesBody start new all
body_ends start now new all declared i inside h makes =
    let at = ended start now all declared i inside h in
    record { words = makes.words ∙ at.words; next = makes.next ∙ at.slots }
