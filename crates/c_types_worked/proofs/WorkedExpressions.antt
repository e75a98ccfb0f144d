-- What small expressions mean.
use Prim.Native.String.{String}
use Rattle.std.specs.Prelude.{◌≡◌, refl, pos, true, [], ◌∷◌, codes}
use Rattle.c_ast.specs.declared.tree.AssignOp.TheVariants as w
use Rattle.c_ast.specs.declared.tree.Base.TheVariants.{Void, Char, Int}
use Rattle.c_ast.specs.declared.tree.BinaryOp.TheVariants as b
use Rattle.c_ast.specs.declared.tree.PostfixOp.TheVariants as f
use Rattle.c_ast.specs.declared.tree.UnaryOp.TheVariants as u
use Rattle.c_ast.specs.Trees as c
use Rattle.c_typed.specs.declared.types.ValueType.{ValueType}
use Rattle.c_typed.specs.declared.types.ValueType.TheVariants as v
use Rattle.c_typed.specs.declared.expr.Storage.TheVariants.{Frame}
use Rattle.c_typed.specs.declared.expr.Reach.TheVariants.{ToEnd}
use Rattle.c_typed.specs.declared.operation.Arithmetic.TheVariants as a
use Rattle.c_typed.specs.declared.operation.Comparison.TheVariants as m
use Rattle.c_typed.specs.declared.operation.Operation.TheVariants as o
use Rattle.c_typed.specs.declared.operation.Rank.TheVariants as r
use Rattle.c_typed.specs.Tree as t
use Rattle.c_typed.specs.ValueTypes.{int, long}
use Rattle.c_scopes.specs.Scopes.{Named}
use Rattle.c_layout.specs.declared.shape.Shape.{Shape}
use Rattle.c_layout.specs.declared.shape.Shape.TheVariants.{Scalar, Array}
use Rattle.c_typed.specs.declared.rule.Rule.TheVariants.{NotAssignable, WrongOperands}
use Rattle.c_types_operators.specs.declared.scope.Callee.TheVariants.{Body}
use Rattle.c_types_operators.specs.declared.scope.Lives.{Lives}
use Rattle.c_types_operators.specs.declared.scope.Lives.TheVariants.{InSlot, InMemory}
use Rattle.c_types_operators.specs.declared.scope.Variable.{Variable}
use Rattle.c_types_operators.specs.Rules.{Fine, breaks}
use Rattle.c_types_operators.specs.Scopes.{Scope}
use Rattle.c_types_expressions.specs.Expressions.{value, effect}
use Rattle.c_types_worked.proofs.Small.{at, name, number, text, call, unary, binary, set}

-- ---- names

abbrev variable : String → Shape → Lives → Named Variable
variable x shape lives = record { name = codes x; meant = record { shape = shape; lives = lives } }

abbrev char : ValueType
char = v.Base Char

abbrev to_int : ValueType
to_int = v.Pointer Int 1

-- int x; int *p; char c; int a[3]; void v(long);
abbrev names : Scope
names = record {
  scopes = record {
    innermost =
        variable "x" (Scalar int) (InSlot 0)
        ∷ variable "p" (Scalar to_int) (InSlot 1)
        ∷ variable "c" (Scalar char) (InSlot 2)
        ∷ variable "a" (Array int 3) (InMemory (Frame 8)) ∷ [];
    around = [];
  };
  functions = record { name = codes "v"; meant = record { signature = record { result = v.Base Void; params = long ∷ [] }; callee = Body 4 } } ∷ [];
}

abbrev x : t.Exp
x = t.slot int 0

abbrev p : t.Exp
p = t.slot to_int 1

abbrev c_as_int : t.Exp
c_as_int = t.convert int (t.slot char 2)

-- ---- operators and conversions

-- c+x
promoted : value names [] (binary 2 b.Add (name 1 "c") (name 3 "x")) ≡ Fine (t.binary int (o.Integer a.Add r.Int) c_as_int x)
promoted = refl

-- x*1L
to_the_longer : value names [] (binary 2 b.Mul (name 1 "x") (c.number (at 3) (pos 1) true)) ≡ Fine (t.binary long (o.Integer a.Mul r.Long) (t.convert long x) (t.constant long (pos 1)))
to_the_longer = refl

-- c<<1L
left_type_of_a_shift : value names [] (binary 2 b.ShiftLeft (name 1 "c") (c.number (at 4) (pos 1) true)) ≡ Fine (t.binary int (o.Integer a.ShiftLeft r.Int) c_as_int (t.constant long (pos 1)))
left_type_of_a_shift = refl

-- p+x
by_elements : value names [] (binary 2 b.Add (name 1 "p") (name 3 "x")) ≡ Fine (t.binary to_int (o.Advance 4) p x)
by_elements = refl

-- p-a
elements_between : value names [] (binary 2 b.Sub (name 1 "p") (name 3 "a")) ≡ Fine (t.binary long (o.Distance 4) p (t.address to_int (Frame 8)))
elements_between = refl

-- p==0
null_of_its_type : value names [] (binary 2 b.Equal (name 1 "p") (number 4 0)) ≡ Fine (t.binary int (o.Compare m.Equal) p (t.convert to_int (t.constant int (pos 0))))
null_of_its_type = refl

-- &a[3]
end_of_array : value names [] (unary 1 u.AddressOf (c.index (at 3) (name 2 "a") (number 4 3))) ≡ Fine (t.element to_int (Frame 8) 3 4 ToEnd (t.constant int (pos 3)))
end_of_array = refl

-- c=x
converted_to_store : value names [] (set 2 (name 1 "c") (name 3 "x")) ≡ Fine (t.set_slot char 2 (t.convert char x))
converted_to_store = refl

-- c+=1L
within_the_longer : value names [] (c.assign (at 2) w.Add (name 1 "c") (c.number (at 4) (pos 1) true)) ≡ Fine (t.update_slot char 2 long (o.Integer a.Add r.Long) (t.constant long (pos 1)))
within_the_longer = refl

-- p++
old_value : value names [] (c.postfix (at 2) f.Increment (name 1 "p")) ≡ Fine (t.step_slot to_int 1 to_int (o.Advance 4))
old_value = refl

-- v(x)
argument_converted : effect names [] (call 1 "v" (name 3 "x" ∷ [])) ≡ Fine (t.call (v.Base Void) 4 (t.an_exp (t.convert long x) t.no_exp))
argument_converted = refl

-- "a"=="b", behind another string
strings_by_their_numbers : value names (codes "s" ∷ []) (binary 4 b.Equal (text 1 "a") (text 6 "b")) ≡ Fine (t.binary int (o.Compare m.Equal) (t.text 1) (t.text 2))
strings_by_their_numbers = refl

-- ---- broken rules

-- v(x)
no_value : value names [] (call 1 "v" (name 3 "x" ∷ [])) ≡ breaks WrongOperands (at 1)
no_value = refl

-- x=p
other_type : value names [] (set 2 (name 1 "x") (name 3 "p")) ≡ breaks NotAssignable (at 3)
other_type = refl

-- x+(p+p)
operand_without_type : value names [] (binary 2 b.Add (name 1 "x") (binary 5 b.Add (name 4 "p") (name 6 "p"))) ≡ breaks WrongOperands (at 5)
operand_without_type = refl
