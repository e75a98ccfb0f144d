-- Which trees a source spells, and which not.
use Rattle.std.proofs.Common.{◌≡◌, pos, [], false, true, refl, arith}
use Rattle.std.specs.Prelude.{codes}
use Rattle.std.specs.Int.{int_wrap}
use Rattle.ib_meaning.specs.declared.place.Place.{Place}
use Rattle.c_ast.specs.declared.tree.Base.TheVariants.{Int}
use Rattle.c_ast.specs.declared.tree_unit.Length.TheVariants.{Missing}
use Rattle.c_ast.specs.Trees as c
use Rattle.c_typed.specs.ValueTypes.{int}
use Rattle.c_typed.specs.Tree as t
use Rattle.c_kept.specs.WellFormed.{IsName, FormedExp, FormedDecl}
use Rattle.c_kept.specs.Numbered.{NumbersStm}

place : Place
place = record { line = 1; col = 1 }

apart : false ≡ true → ⊥
apart h = cc

-- 2147483647 is an `int`, 2147483648 is none
widest : FormedExp (c.number place (pos 2147483647) false)
unfolding int_wrap
widest = refl

too_wide : FormedExp (c.number place (pos 2147483648) false) → ⊥
unfolding int_wrap
too_wide h = cc

as_long : FormedExp (c.number place (pos 2147483648) true)
unfolding int_wrap
as_long = refl

-- `_x1` is a name, `1x` and nothing are none
a_name : IsName (codes "_x1")
a_name = (refl, refl)

digit_first : IsName (codes "1x") → ⊥
digit_first h = apart h.0

nothing : IsName [] → ⊥
nothing h = h

-- int x[] = {};
no_elements : FormedDecl (c.declarator place (c.plain Int) (codes "x") Missing (c.elements [])) → ⊥
no_elements h = let le = h.0 in omega (arith, le)

-- the second of two statements has the second place
second : NumbersStm 2 (t.if_then 0 (t.constant int (pos 1)) (t.empty 1))
second = (omega arith, omega arith)

past_all : NumbersStm 1 (t.empty 1) → ⊥
past_all h = omega (arith, h)
