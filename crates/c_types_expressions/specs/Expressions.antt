-- What expressions mean by their types, and which rules they break.
use Rattle.std.specs.Prelude.{ℕ, pos, negsuc, List, [], ◌∷◌, ◌++◌, length, if◌then◌else◌}
use Rattle.ib_meaning.specs.declared.place.Place.{Place}
use Rattle.c_ast.specs.Trees as c
use Rattle.c_typed.specs.declared.types.ValueType.{ValueType}
use Rattle.c_typed.specs.declared.types.ValueType.TheVariants as v
use Rattle.c_typed.specs.Tree as t
use Rattle.c_typed.specs.Tree.{Exp, Exps}
use Rattle.c_typed.specs.ValueTypes.{int, long, written}
use Rattle.c_types_operators.specs.Rules.{Judged, Fine, both, pair, ◌>>=◌}
use Rattle.c_layout.specs.Layout.{Texts}
use Rattle.c_types_operators.specs.Scopes.{Scope, found}
use Rattle.c_types_operators.specs.Operators.{Designated, used, stored_as, binary_value, conditional_value, is_logical, logical_value, within, assignment, index_value, argument_number, called, wanted, called_value, valued, placed, condition, passed, rest_of, value_as, cast_of, comma_value, postfix_of, unary_of, called_with, listed, a_value}

-- the string literals of an expression, in order
abbrev mutual
  pub literals : c.Exp → Texts
  literals (c.string p bytes) = bytes ∷ []
  literals (c.call p x xs) = literals_of xs
  literals (c.index p a i) = literals a ++ literals i
  literals (c.postfix p op a) = literals a
  literals (c.unary p op a) = literals a
  literals (c.cast p ty a) = literals a
  literals (c.binary p op x y) = literals x ++ literals y
  literals (c.conditional p x y z) = literals x ++ (literals y ++ literals z)
  literals (c.assign p op x y) = literals x ++ literals y
  literals (c.comma p xs) = literals_of xs
  literals x = []

  pub literals_of : c.Exps → Texts
  literals_of c.no_exp = []
  literals_of (c.an_exp x xs) = literals x ++ literals_of xs

-- What an expression is, in a scope, with these string literals before it.
abbrev mutual
  pub designated : Scope → Texts → c.Exp → Judged Designated
  designated Γ n (c.name p x) = used p (found x Γ)
  designated Γ n (c.number p v l) = Fine (a_value (t.constant (if l then long else int) v))
  designated Γ n (c.character p v) = Fine (a_value (t.constant int (pos v)))
  designated Γ n (c.string p bytes) = Fine (a_value (t.text (length n)))
  designated Γ n (c.null p) = Fine (a_value (t.constant v.Null (pos 0)))
  designated Γ n (c.eof p) = Fine (a_value (t.constant int (negsuc 0)))
  designated Γ n (c.call p x xs) = called_value p (found x Γ) (both (called p (argument_number xs) (found x Γ)) (arguments Γ n (wanted (found x Γ)) xs) called_with)
  designated Γ n (c.index p a i) = both (designated Γ n a) (valued (designated Γ (n ++ literals a) i)) (index_value p)
  designated Γ n (c.postfix p op a) = postfix_of p op a (designated Γ n a)
  designated Γ n (c.unary p op a) = unary_of p op a (designated Γ n a)
  designated Γ n (c.cast p ty a) = cast_of p (written ty) (valued (designated Γ n a))
  designated Γ n (c.binary p op d e) =
      if is_logical op
      then both (condition d (designated Γ n d)) (condition e (designated Γ (n ++ literals d) e)) (logical_value op)
      else both (valued (designated Γ n d)) (valued (designated Γ (n ++ literals d) e)) (binary_value p op d e)
  designated Γ n (c.conditional p c d e) =
      both (condition c (designated Γ n c))
      (pair (valued (designated Γ (n ++ literals c) d)) (valued (designated Γ (n ++ literals c ++ literals d) e)))
      (conditional_value p d e)
  designated Γ n (c.assign p op d e) =
      both (placed d (designated Γ n d)) (valued (designated Γ (n ++ literals d) e)) (assignment p (within op) e)
  designated Γ n (c.comma p xs) = value_as (comma_value p (arguments Γ n [] xs))

  -- as arguments for parameters of these types; there may be more
  pub arguments : Scope → Texts → List ValueType → c.Exps → Judged Exps
  arguments Γ n wanted c.no_exp = Fine t.no_exp
  arguments Γ n wanted (c.an_exp x xs) =
      both (passed wanted x (designated Γ n x)) (arguments Γ (n ++ literals x) (rest_of wanted) xs) listed

-- the values of expressions
abbrev pub values : Scope → Texts → c.Exps → Judged Exps
values Γ n xs = arguments Γ n [] xs

-- the value of a whole expression
abbrev pub value : Scope → Texts → c.Exp → Judged Exp
value Γ n e = valued (designated Γ n e)

abbrev pub tested_value : Scope → Texts → c.Exp → Judged Exp
tested_value Γ n e = condition e (designated Γ n e)

-- assigned, returned, or the first value of a variable
abbrev pub stored_value : Scope → Texts → ValueType → c.Exp → Judged Exp
stored_value Γ n ty e = value Γ n e >>= stored_as ty e

-- a call, for what it does, which may give nothing
abbrev pub call_in : Scope → Texts → Place → List ℕ → c.Exps → Judged Exp
call_in Γ n p x xs = both (called p (argument_number xs) (found x Γ)) (arguments Γ n (wanted (found x Γ)) xs) called_with

-- an expression that stands for what it does, and is no comma expression
abbrev pub effect_of : Scope → Texts → c.Exp → Judged Exp
effect_of Γ n (c.call p x xs) = call_in Γ n p x xs
effect_of Γ n e = value Γ n e

abbrev pub effects : Scope → Texts → c.Exps → Judged Exps
effects Γ n c.no_exp = Fine t.no_exp
effects Γ n (c.an_exp x xs) = both (effect_of Γ n x) (effects Γ (n ++ literals x) xs) listed

-- an expression statement, or the first or last part of a `for`
abbrev pub effect : Scope → Texts → c.Exp → Judged Exp
effect Γ n (c.comma p xs) = comma_value p (effects Γ n xs)
effect Γ n e = effect_of Γ n e
