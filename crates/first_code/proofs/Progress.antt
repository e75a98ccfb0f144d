-- A code maker in the middle of its work.
use Rattle.std.proofs.Common.{◌≡◌, ℕ, suc, ◌+◌, ◌≤◌, List, [], ◌∷◌, ◌++◌, length, refl, sym, ap, ◌∙◌, subst, arith, length-append, append_assoc, append-nil}
use Rattle.ib_meaning.specs.declared.place.Place.{Place}
use Rattle.wide_core.specs.declared.code.WideAct.{WideAct}
use Rattle.wide_core.specs.declared.code.Word.{Word}
use Rattle.first_code.specs.declared.maker.CodeMaker.{CodeMaker}
use Rattle.first_code.specs.Code.{word_of, words_of}
use Rattle.first_code.specs.Made.{Makes, HasRoom}

pub words_of-append : (number : ℕ) (place : Place) (xs ys : List WideAct) → words_of number place (xs ++ ys) ≡ words_of number place xs ++ words_of (number + length xs) place ys
words_of-append number place [] ys = let same : number ≡ number + 0 = omega arith in ap (λ (n : ℕ). words_of n place ys) same
words_of-append number place (x ∷ xs) ys =
    let same : suc number + length xs ≡ number + suc (length xs) = omega arith in
    ap (λ (ws : List Word). word_of number place x ∷ ws) (words_of-append (suc number) place xs ys ∙ ap (λ (n : ℕ). words_of (suc number) place xs ++ words_of n place ys) same)

pub length-words_of : (number : ℕ) (place : Place) (acts : List WideAct) → length (words_of number place acts) ≡ length acts
length-words_of number place [] = refl
length-words_of number place (act ∷ acts) = ap (λ (n : ℕ). suc n) (length-words_of (suc number) place acts)

-- the words so far, and behind them those of operations that are still to be made
abbrev with_words : CodeMaker → List WideAct → List Word
with_words maker acts = maker.words ++ words_of (suc (length maker.words)) maker.place acts

-- Some operations are made and some are left; once these are made too, all of them are.
pub record IsMaking (start now : CodeMaker) (acts : List WideAct) (slot : ℕ) (left : List WideAct) (left_slot : ℕ) : Type 0 where
  pub words : with_words now left ≡ with_words start acts
  pub slots : left_slot ≡ slot
  pub same_place : now.place ≡ start.place

pub making_all : (start : CodeMaker) (acts : List WideAct) (slot : ℕ) → IsMaking start start acts slot acts slot
making_all start acts slot = record { words = refl; slots = refl; same_place = refl }

length_with : (maker : CodeMaker) (acts : List WideAct) → length (with_words maker acts) ≡ length maker.words + length acts
length_with maker acts =
    length-append maker.words (words_of (suc (length maker.words)) maker.place acts)
    ∙ ap (λ (n : ℕ). length maker.words + n) (length-words_of (suc (length maker.words)) maker.place acts)

-- what is left has room, and so has its beginning
pub making_room : (start now : CodeMaker) (acts first more : List WideAct) (slot first_slot left_slot : ℕ) → IsMaking start now acts slot (first ++ more) left_slot → HasRoom start acts slot → first_slot ≤ left_slot → HasRoom now first first_slot
making_room start now acts first more slot first_slot left_slot making room le =
    let lengths = sym (length_with now (first ++ more)) ∙ ap (length {A = Word}) making.words ∙ length_with start acts in
    let parts = length-append first more in
    let numbers = room.numbers in
    let slots = room.slots in
    let same = making.slots in
    record { numbers = omega arith; slots = omega arith }

with_more : (now new : CodeMaker) (first more : List WideAct) (slot : ℕ) → Makes now new first slot → with_words new more ≡ with_words now (first ++ more)
with_more now new first more slot makes =
    let n : ℕ = suc (length now.words) in
    let made : List Word = words_of n now.place first in
    let len : length new.words ≡ length now.words + length first = ap (length {A = Word}) makes.words ∙ length_with now first in
    let number : suc (length new.words) ≡ n + length first = omega arith in
    ap (λ (ws : List Word). ws ++ words_of (suc (length new.words)) new.place more) makes.words
    ∙ ap (λ (m : ℕ). (now.words ++ made) ++ words_of m new.place more) number
    ∙ ap (λ (p : Place). (now.words ++ made) ++ words_of (n + length first) p more) makes.same_place
    ∙ append_assoc now.words made (words_of (n + length first) now.place more)
    ∙ ap (λ (ws : List Word). now.words ++ ws) (sym (words_of-append n now.place first more))

-- a beginning of what is left is made
pub making_on : (start now new : CodeMaker) (acts first more : List WideAct) (slot first_slot left_slot more_slot : ℕ) → IsMaking start now acts slot (first ++ more) left_slot → Makes now new first first_slot → more_slot ≡ left_slot → IsMaking start new acts slot more more_slot
making_on start now new acts first more slot first_slot left_slot more_slot making makes same = record {
  words = with_more now new first more first_slot makes ∙ making.words;
  slots = same ∙ making.slots;
  same_place = makes.same_place ∙ making.same_place;
}

-- nothing is left
pub making_over : (start now : CodeMaker) (acts : List WideAct) (slot : ℕ) → IsMaking start now acts slot [] now.slot → Makes start now acts slot
making_over start now acts slot making = record {
  words = sym (append-nil now.words) ∙ making.words;
  next = making.slots;
  same_place = making.same_place;
}

-- operations in two parts
pub makes_both : (old mid new : CodeMaker) (first second : List WideAct) (slot last : ℕ) → Makes old mid first slot → Makes mid new second last → Makes old new (first ++ second) last
makes_both old mid new first second slot last one two = record {
  words = two.words ∙ with_more old mid first second slot one;
  next = two.next;
  same_place = two.same_place ∙ one.same_place;
}

pub room_first : (old : CodeMaker) (first second : List WideAct) (slot last : ℕ) → HasRoom old (first ++ second) last → slot ≤ last → HasRoom old first slot
room_first old first second slot last room le = making_room old old (first ++ second) first second last slot last (making_all old (first ++ second) last) room le

pub room_second : (old mid : CodeMaker) (first second : List WideAct) (slot last : ℕ) → HasRoom old (first ++ second) last → Makes old mid first slot → HasRoom mid second last
room_second old mid first second slot last room makes =
    let len = ap (length {A = Word}) makes.words ∙ length_with old first in
    let parts = length-append first second in
    let numbers = room.numbers in record { numbers = omega arith; slots = room.slots }

pub makes_two : (old mid new : CodeMaker) (a b : WideAct) → Makes old mid (a ∷ []) old.slot → Makes mid new (b ∷ []) mid.slot → Makes old new (a ∷ b ∷ []) old.slot
makes_two old mid new a b one two =
    makes_both old mid new (a ∷ []) (b ∷ []) old.slot old.slot one (subst (Makes mid new (b ∷ [])) one.next two)
