-- Every expression of a typed program is lowered.
use Rattle.std.proofs.Common.{◌≡◌, ℕ, ◌<◌, ◌≤◌, ℤ, pos, List, length, Bool, true, false, refl, sym, subst, arith, Option, Some, None, w64}
use Rattle.std.specs.Prelude.{slice_get, slice_index_or, nat_lt, MatchOption}
use Rattle.std.specs.List.{All}
use Rattle.std.proofs.lemmas.Bool.{ltb-true, ltb-false}
use Rattle.std.proofs.lemmas.Int.{ints, int_wrap_fits}
use Rattle.std.proofs.lemmas.Option.{slice_get_within, get_or_from_slice_get}
use Rattle.std.proofs.lemmas.List.{get_or_past}
use Rattle.ib_base.specs.declared.integers.Width.{Width}
use Rattle.ib_base.specs.declared.integers.Width.TheVariants.{W1, W4, W8}
use Rattle.c_typed.specs.declared.types.ValueType.{ValueType}
use Rattle.c_typed.specs.Tree as t
use Rattle.c_typed.specs.Tree.{Exp, Exps, Function}
use Rattle.c_typed.specs.Values.{width_of}
use Rattle.tac_lowered.specs.Operators.{narrows}
use Rattle.tac_lowered.specs.Expressions.{at, is_quiet, width_in}
use Rattle.c_kept.specs.Kept.{fits_in, told, HasSlot, Fill, KeepsExp, KeepsExps, KeepsProgram}
use Rattle.tac_lowered.proofs.Relation.{Spot, Lies, many, kind_of}
use Rattle.tac_lowered.proofs.Constructs.{Lowers}
use Rattle.tac_lowered.proofs.Statements.{no_loss, told_in}
use Rattle.tac_lowered.proofs.Values.{constant_lowers, text_lowers, slot_lowers, load_lowers, convert_lowers, set_slot_lowers}
use Rattle.tac_lowered.proofs.Signs.{not_lowers, unary_lowers, put_number_lowers}
use Rattle.tac_lowered.proofs.Operations.{binary_lowers, conditional_lowers}
use Rattle.tac_lowered.proofs.Choosing.{both_lowers, either_lowers, address_lowers}
use Rattle.tac_lowered.proofs.Storing.{store_lowers}
use Rattle.tac_lowered.proofs.Assigning.{update_slot_lowers, step_slot_lowers}
use Rattle.tac_lowered.proofs.Updating.{update_lowers, step_lowers}
use Rattle.tac_lowered.proofs.Elements.{element_lowers}
use Rattle.tac_lowered.proofs.Bytes.{get_byte_lowers, put_byte_lowers}
use Rattle.tac_lowered.proofs.Passing.{AllLower, call_lowers, comma_lowers}
use Rattle.tac_lowered.proofs.Lying.{operated_lies}
use Rattle.tac_lowered.proofs.Widths.{wider, one_lies}

narrows_on : (a b c : Width) → narrows a b ≡ false → narrows b c ≡ false → narrows a c ≡ false
narrows_on W1 b c h h2 = refl
narrows_on W4 W1 c h h2 = let no : ⊥ = cc in absurd no
narrows_on W4 W4 c h h2 = h2
narrows_on W4 W8 W1 h h2 = h2
narrows_on W4 W8 W4 h h2 = refl
narrows_on W4 W8 W8 h h2 = refl
narrows_on W8 W1 c h h2 = let no : ⊥ = cc in absurd no
narrows_on W8 W4 c h h2 = let no : ⊥ = cc in absurd no
narrows_on W8 W8 c h h2 = h2

-- addresses below the memory's end
address_lies : (n : ℕ) → n < 1048576 → Lies W8 (pos n)
address_lies n lt = int_wrap_fits w64 (pos n) (omega (arith, ints, lt))

all_addresses : (xs : List ℕ) → All (λ address. address < 1048576) xs → (k : ℕ) → Lies W8 (pos (slice_index_or xs k 0))
all_addresses xs all k = go (nat_lt k (length xs)) refl
  where
    go : (b : Bool) → nat_lt k (length xs) ≡ b → Lies W8 (pos (slice_index_or xs k 0))
    go true h = address_lies (slice_index_or xs k 0) (all k 0 (ltb-true k (length xs) h))
    go false h = subst (λ n. Lies W8 (pos n)) (sym (get_or_past xs k 0 (ltb-false k (length xs) h))) (address_lies 0 (omega arith))

module _ (C : Spot) (sound : KeepsProgram C.p) where
  slot_there : (j : ℕ) (ty : ValueType) → HasSlot C.p C.kinds j ty → j < many C
  slot_there j ty h = slice_get_within C.kinds j ty h

  slot_kind : (j : ℕ) (ty : ValueType) → HasSlot C.p C.kinds j ty → kind_of C j ≡ ty
  slot_kind j ty h = get_or_from_slice_get C.kinds j ty _ h

  -- an operand's register is not behind the first that is free
  at_most : (b : Bool) (a : Exp) → KeepsExp C.p C.kinds a → (r : ℕ) → C.free ≤ r → at b a r ≤ r
  at_most true (t.slot ty j) h r le = let lt = slot_there j ty h in let e1 = C.enough in omega (arith, lt, e1)
  at_most true a h r le = omega arith
  at_most false a h r le = omega arith

  -- a value lies in the type that its node tells
  lies_told : (a : Exp) → KeepsExp C.p C.kinds a → (x : ℤ) → Lies (width_in a) x → Lies (told a) x
  lies_told a h x l = wider (width_in a) (told a) x (told_in C.p C.kinds a h) l

  whole : (a : Exp) (w : Width) → KeepsExp C.p C.kinds a → fits_in (told a) w ≡ true → narrows (width_in a) w ≡ false
  whole a w h fit = narrows_on (width_in a) (told a) w (told_in C.p C.kinds a h) (no_loss (told a) w fit)

  call_in : (ty : ValueType) (g : ℕ) (all : Exps) (o : Option Function) → slice_get C.p.functions g ≡ o → MatchOption o ⊥ (λ G. (ty ≡ G.result) × Fill C.p C.kinds all G.params) → AllLower C all → KeepsExps C.p C.kinds all → Lowers C (t.call ty g all)
  call_in ty g all None e h lower keeps = absurd h
  call_in ty g all (Some G) e h lower keeps = call_lowers C ty g G all e h.0 lower keeps h.1

  mutual
    pub lowers : (a : Exp) → KeepsExp C.p C.kinds a → Lowers C a
    lowers (t.constant ty v) h = constant_lowers C ty v h
    lowers (t.text j) h = text_lowers C j (all_addresses C.p.strings sound.strings j)
    lowers (t.address ty of) h = address_lowers C ty of (λ j. all_addresses C.p.globals sound.globals j)
    lowers (t.element ty array count size reach a) h = element_lowers C ty array count size reach a (lowers a h.0)
    lowers (t.slot ty j) h = slot_lowers C ty j (slot_there j ty h) (slot_kind j ty h)
    lowers (t.load ty a) h = load_lowers C ty a h.1 (lowers a h.0)
    lowers (t.convert ty a) h = convert_lowers C ty a (lowers a h)
    lowers (t.unary o rank a) h = unary_lowers C o rank a (lowers a h)
    lowers (t.not a) h = not_lowers C a (lowers a h)
    lowers (t.binary ty o a b) h =
        binary_lowers C ty o a b (lowers a h.0) (lowers b h.1) (λ r le. at_most (is_quiet b) a h.0 r le) (λ r le. at_most true b h.1 r le)
        (λ x y z lx ly ez. operated_lies o (told a) (told b) x y z h.2 (lies_told a h.0 x lx) (lies_told b h.1 y ly) ez)
    lowers (t.both a b) h = both_lowers C a b (lowers a h.0) (lowers b h.1)
    lowers (t.either a b) h = either_lowers C a b (lowers a h.0) (lowers b h.1)
    lowers (t.conditional ty a b c) h = conditional_lowers C ty a b c (lowers a h.0) (lowers b h.1) (lowers c h.2) (whole b (width_of ty) h.1 h.3) (whole c (width_of ty) h.2 h.4)
    lowers (t.set_slot ty j a) h = set_slot_lowers C ty j a (slot_there j ty h.0) (slot_kind j ty h.0) (whole a (width_of ty) h.1 h.2) (lowers a h.1)
    lowers (t.store ty a b) h = store_lowers C ty a b h.2 (whole b (width_of ty) h.1 h.3) (lowers a h.0) (lowers b h.1)
    lowers (t.update_slot ty j within o a) h =
        update_slot_lowers C ty within j o a (slot_there j ty h.0) (slot_kind j ty h.0) (lowers a h.1) (λ r le. at_most true a h.1 r le)
        (λ x y z lx ly ez. operated_lies o (width_of within) (told a) x y z h.2 lx (lies_told a h.1 y ly) ez)
    lowers (t.update ty a within o b) h =
        update_lowers C ty within o a b h.2 (lowers a h.0) (lowers b h.1) (λ r le. at_most true b h.1 r le)
        (λ x y z lx ly ez. operated_lies o (width_of within) (told b) x y z h.3 lx (lies_told b h.1 y ly) ez)
    lowers (t.step_slot ty j within o) h =
        step_slot_lowers C ty within j o (slot_there j ty h.0) (slot_kind j ty h.0) (λ x z lx ez. operated_lies o (width_of within) W4 x (pos 1) z h.1 lx (one_lies W4) ez)
    lowers (t.step ty a within o) h =
        step_lowers C ty within o a h.1 (lowers a h.0) (λ x z lx ez. operated_lies o (width_of within) W4 x (pos 1) z h.2 lx (one_lies W4) ez)
    lowers (t.call ty g all) h = call_in ty g all (slice_get C.p.functions g) refl h.1 (all_lower all h.0) h.0
    lowers t.get_byte h = get_byte_lowers C
    lowers (t.put_byte a) h = put_byte_lowers C a (lowers a h)
    lowers (t.put_number a) h = put_number_lowers C a (lowers a h)
    lowers (t.comma all a) h = comma_lowers C all a (all_lower all h.0) (lowers a h.1)

    pub all_lower : (all : Exps) → KeepsExps C.p C.kinds all → AllLower C all
    all_lower t.no_exp h = tt
    all_lower (t.an_exp a rest) h = (lowers a h.0, all_lower rest h.1)
