-- What an expression that breaks no rule means keeps its rules.
use Rattle.std.proofs.Common.{◌≡◌, ℕ, ◌<◌, Bool, true, false, cond, ℤ, pos, negsuc, List, [], ◌++◌, length, refl, arith}
use Rattle.std.specs.Int.{int_wrap, w32}
use Rattle.std.proofs.lemmas.Int.{int_wrap_fits, fits_signed_from_abs}
use Rattle.ib_base.specs.declared.integers.Width.TheVariants.{W4}
use Rattle.ib_base.specs.Integers.{wrapped}
use Rattle.c_ast.specs.Trees as c
use Rattle.c_typed.specs.declared.types.ValueType.{ValueType}
use Rattle.c_typed.specs.declared.types.ValueType.TheVariants as v
use Rattle.c_typed.specs.Program.{Program}
use Rattle.c_typed.specs.Tree as t
use Rattle.c_typed.specs.ValueTypes.{int, long, written}
use Rattle.c_layout.specs.Layout.{Texts}
use Rattle.c_types_operators.specs.Rules.{Judged, both, pair, Fine}
use Rattle.c_types_operators.specs.Scopes.{Scope, found}
use Rattle.c_types_operators.specs.Operators.{binary_value, conditional_value, is_logical, logical_value, within, assignment, index_value, argument_number, called, wanted, valued, placed, condition, passed, rest_of, comma_value, called_with, listed, stored_as}
use Rattle.c_types_expressions.specs.Expressions.{literals, literals_of, designated, arguments, value, tested_value, stored_value, effect_of, effects, effect}
use Rattle.c_kept.specs.Kept.{KeepsExp, KeepsExps}
use Rattle.c_kept.specs.WellFormed.{IsNumber, FormedExp, FormedExps}
use Rattle.c_types_kept.proofs.Judgements.{by_test, Gives, fine, after, of_both}
use Rattle.c_types_kept.proofs.Operators.{IsValue, Suits, KeepsMeaning, AreArguments, used_kept, valued_kept, value_as_kept, condition_kept, stored_kept, binary_kept, conditional_kept, logical_kept, postfix_kept, unary_of_kept, cast_of_kept, place_kept, assignment_kept, index_kept, passed_kept, called_kept, call_kept, called_value_kept, comma_value_kept, comma_value_keeps}
use Rattle.c_types_kept.proofs.Scopes.{KeepsScope, found_kept}
use Rattle.c_types_kept.proofs.Room.{Room, room_first, room_second, room_one}

pub byte_lies : (n : ℕ) → n < 256 → wrapped W4 (pos n) ≡ pos n
byte_lies n h = let small : n < 2147483648 = omega (arith, h) in int_wrap_fits w32 (pos n) (fits_signed_from_abs w32 (pos n) small)

module _ (p : Program) (kinds : List ValueType) where
  abbrev strings : ℕ
  strings = length p.strings

  number_kept : (z : ℤ) (is_long : Bool) → IsNumber z is_long → IsValue p kinds (t.constant (cond is_long long int) z)
  number_kept z true h = record { keeps = h; wide = refl; firm = refl }
  number_kept z false h = record { keeps = h; wide = refl; firm = refl }

  null_kept : IsValue p kinds (t.constant v.Null (pos 0))
  unfolding int_wrap
  null_kept = record { keeps = refl; wide = refl; firm = refl }

  eof_kept : IsValue p kinds (t.constant int (negsuc 0))
  unfolding int_wrap
  eof_kept = record { keeps = refl; wide = refl; firm = refl }

  keeping : (j : Judged t.Exp) → Gives (IsValue p kinds) j → Gives (KeepsExp p kinds) j
  keeping j h = record { by = λ x is. (h.by x is).keeps }

  pair_kept : (j k : Judged t.Exp) → Gives (IsValue p kinds) j → Gives (IsValue p kinds) k → Gives (λ yz. IsValue p kinds yz.0 × IsValue p kinds yz.1) (pair j k)
  pair_kept j k g h = of_both j k (λ a b. Fine (a, b)) g h (λ a b x y. fine (x, y))

  mutual
    pub exp_kept : (Γ : Scope) (n : Texts) (e : c.Exp) → KeepsScope p kinds Γ → FormedExp e → Room strings n (literals e) → Gives (KeepsMeaning p kinds) (designated Γ n e)
    exp_kept Γ n (c.name q x) g h r = used_kept p kinds q (found x Γ) (found_kept p kinds x Γ g)
    exp_kept Γ n (c.number q z is_long) g h r = fine (number_kept z is_long h)
    exp_kept Γ n (c.character q z) g h r = fine (record { keeps = byte_lies z h; wide = refl; firm = refl })
    exp_kept Γ n (c.string q bytes) g h r = fine (record { keeps = room_one strings n bytes [] r; wide = refl; firm = refl })
    exp_kept Γ n (c.null q) g h r = fine null_kept
    exp_kept Γ n (c.eof q) g h r = fine eof_kept
    exp_kept Γ n (c.call q x xs) g h r =
        called_value_kept p kinds q (found x Γ) (both (called q (argument_number xs) (found x Γ)) (arguments Γ n (wanted (found x Γ)) xs) called_with)
        (of_both (called q (argument_number xs) (found x Γ)) (arguments Γ n (wanted (found x Γ)) xs) called_with (called_kept p kinds q (argument_number xs) (found x Γ) (found_kept p kinds x Γ g)) (exps_kept Γ n (wanted (found x Γ)) xs g h r)
        (λ f ys k l. fine (call_kept p kinds (found x Γ) (argument_number xs) f ys k l)))
    exp_kept Γ n (c.index q a i) g h r =
        of_both (designated Γ n a) (valued (designated Γ (n ++ literals a) i)) (index_value q) (exp_kept Γ n a g h.0 (room_first strings n (literals a) (literals i) r))
        (valued_kept p kinds (designated Γ (n ++ literals a) i) (exp_kept Γ (n ++ literals a) i g h.1 (room_second strings n (literals a) (literals i) r)))
        (λ d y k l. index_kept p kinds q d y k l)
    exp_kept Γ n (c.postfix q op a) g h r = postfix_kept p kinds q op a (designated Γ n a) (exp_kept Γ n a g h r)
    exp_kept Γ n (c.unary q op a) g h r = unary_of_kept p kinds q op a (designated Γ n a) (exp_kept Γ n a g h r)
    exp_kept Γ n (c.cast q ty a) g h r = cast_of_kept p kinds q (written ty) (valued (designated Γ n a)) (valued_kept p kinds (designated Γ n a) (exp_kept Γ n a g h r))
    exp_kept Γ n (c.binary q op d e) g h r =
        let left = exp_kept Γ n d g h.0 (room_first strings n (literals d) (literals e) r) in
        let right = exp_kept Γ (n ++ literals d) e g h.1 (room_second strings n (literals d) (literals e) r) in
        by_test (Gives (KeepsMeaning p kinds)) (is_logical op) _ _
        (λ _. of_both (condition d (designated Γ n d)) (condition e (designated Γ (n ++ literals d) e)) (logical_value op) (condition_kept p kinds d (designated Γ n d) left) (condition_kept p kinds e (designated Γ (n ++ literals d) e) right) (λ x y k l. logical_kept p kinds op x y k l))
        (λ _. of_both (valued (designated Γ n d)) (valued (designated Γ (n ++ literals d) e)) (binary_value q op d e) (valued_kept p kinds (designated Γ n d) left) (valued_kept p kinds (designated Γ (n ++ literals d) e) right) (λ x y k l. binary_kept p kinds q op d e x y k l))
    exp_kept Γ n (c.conditional q b d e) g h r =
        let after_test = room_second strings n (literals b) (literals d ++ literals e) r in
        let first = exp_kept Γ n b g h.0 (room_first strings n (literals b) (literals d ++ literals e) r) in
        let second = exp_kept Γ (n ++ literals b) d g h.1 (room_first strings (n ++ literals b) (literals d) (literals e) after_test) in
        let third = exp_kept Γ (n ++ literals b ++ literals d) e g h.2 (room_second strings (n ++ literals b) (literals d) (literals e) after_test) in
        of_both (condition b (designated Γ n b)) (pair (valued (designated Γ (n ++ literals b) d)) (valued (designated Γ (n ++ literals b ++ literals d) e))) (conditional_value q d e)
        (condition_kept p kinds b (designated Γ n b) first)
        (pair_kept (valued (designated Γ (n ++ literals b) d)) (valued (designated Γ (n ++ literals b ++ literals d) e)) (valued_kept p kinds (designated Γ (n ++ literals b) d) second) (valued_kept p kinds (designated Γ (n ++ literals b ++ literals d) e) third))
        (λ x yz k l. conditional_kept p kinds q d e x yz k l.0 l.1)
    exp_kept Γ n (c.assign q op d e) g h r =
        of_both (placed d (designated Γ n d)) (valued (designated Γ (n ++ literals d) e)) (assignment q (within op) e)
        (place_kept p kinds d (designated Γ n d) (exp_kept Γ n d g h.0 (room_first strings n (literals d) (literals e) r)))
        (valued_kept p kinds (designated Γ (n ++ literals d) e) (exp_kept Γ (n ++ literals d) e g h.1 (room_second strings n (literals d) (literals e) r)))
        (λ target x k l. assignment_kept p kinds q (within op) e target x k l)
    exp_kept Γ n (c.comma q xs) g h r =
        value_as_kept p kinds (comma_value q (arguments Γ n [] xs)) (comma_value_kept p kinds q (argument_number xs) (arguments Γ n [] xs) (exps_kept Γ n [] xs g h r))

    pub exps_kept : (Γ : Scope) (n : Texts) (types : List ValueType) (xs : c.Exps) → KeepsScope p kinds Γ → FormedExps xs → Room strings n (literals_of xs) → Gives (AreArguments p kinds types (argument_number xs)) (arguments Γ n types xs)
    exps_kept Γ n types c.no_exp g h r = fine tt
    exps_kept Γ n types (c.an_exp x xs) g h r =
        of_both (passed types x (designated Γ n x)) (arguments Γ (n ++ literals x) (rest_of types) xs) listed
        (passed_kept p kinds types x (designated Γ n x) (exp_kept Γ n x g h.0 (room_first strings n (literals x) (literals_of xs) r)))
        (exps_kept Γ (n ++ literals x) (rest_of types) xs g h.1 (room_second strings n (literals x) (literals_of xs) r))
        (λ y ys k l. fine (k, l))

  -- ---- values, conditions and what is stored

  pub value_kept : (Γ : Scope) (n : Texts) (e : c.Exp) → KeepsScope p kinds Γ → FormedExp e → Room strings n (literals e) → Gives (IsValue p kinds) (value Γ n e)
  value_kept Γ n e g h r = valued_kept p kinds (designated Γ n e) (exp_kept Γ n e g h r)

  pub tested_kept : (Γ : Scope) (n : Texts) (e : c.Exp) → KeepsScope p kinds Γ → FormedExp e → Room strings n (literals e) → Gives (KeepsExp p kinds) (tested_value Γ n e)
  tested_kept Γ n e g h r = keeping (tested_value Γ n e) (condition_kept p kinds e (designated Γ n e) (exp_kept Γ n e g h r))

  pub stored_value_kept : (Γ : Scope) (n : Texts) (ty : ValueType) (e : c.Exp) → KeepsScope p kinds Γ → FormedExp e → Room strings n (literals e) → Gives (Suits p kinds ty) (stored_value Γ n ty e)
  stored_value_kept Γ n ty e g h r = after (value Γ n e) (stored_as ty e) (value_kept Γ n e g h r) (stored_kept p kinds ty e)

  -- ---- effects

  effect_of_kept : (Γ : Scope) (n : Texts) (e : c.Exp) → KeepsScope p kinds Γ → FormedExp e → Room strings n (literals e) → Gives (KeepsExp p kinds) (effect_of Γ n e)
  effect_of_kept Γ n (c.call q x xs) g h r =
      of_both (called q (argument_number xs) (found x Γ)) (arguments Γ n (wanted (found x Γ)) xs) called_with (called_kept p kinds q (argument_number xs) (found x Γ) (found_kept p kinds x Γ g)) (exps_kept Γ n (wanted (found x Γ)) xs g h r)
      (λ f ys k l. fine (call_kept p kinds (found x Γ) (argument_number xs) f ys k l).keeps)
  effect_of_kept Γ n e g h r = keeping (value Γ n e) (value_kept Γ n e g h r)

  effects_kept : (Γ : Scope) (n : Texts) (xs : c.Exps) → KeepsScope p kinds Γ → FormedExps xs → Room strings n (literals_of xs) → Gives (KeepsExps p kinds) (effects Γ n xs)
  effects_kept Γ n c.no_exp g h r = fine tt
  effects_kept Γ n (c.an_exp x xs) g h r =
      of_both (effect_of Γ n x) (effects Γ (n ++ literals x) xs) listed (effect_of_kept Γ n x g h.0 (room_first strings n (literals x) (literals_of xs) r)) (effects_kept Γ (n ++ literals x) xs g h.1 (room_second strings n (literals x) (literals_of xs) r))
      (λ y ys k l. fine (k, l))

  pub effect_kept : (Γ : Scope) (n : Texts) (e : c.Exp) → KeepsScope p kinds Γ → FormedExp e → Room strings n (literals e) → Gives (KeepsExp p kinds) (effect Γ n e)
  effect_kept Γ n (c.comma q xs) g h r = comma_value_keeps p kinds q (effects Γ n xs) (effects_kept Γ n xs g h r)
  effect_kept Γ n e g h r = effect_of_kept Γ n e g h r
