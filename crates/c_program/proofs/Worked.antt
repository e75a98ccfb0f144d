-- What the definitions say of small trees and of sizes at the limits.
use Rattle.std.specs.Prelude.{◌≡◌, ℕ, List, [], ◌∷◌, ◌++◌, codes, pos, false}
use Rattle.std.proofs.Common.{refl}
use Rattle.ib_meaning.specs.declared.place.Place.{Place}
use Rattle.ib_mem.specs.Memory.{zeros}
use Rattle.c_ast.specs.declared.tree.Base.TheVariants as b
use Rattle.c_ast.specs.declared.tree.BinaryOp.TheVariants.{Add}
use Rattle.c_ast.specs.declared.tree_unit.Length.TheVariants as l
use Rattle.c_ast.specs.Trees as c
use Rattle.c_typed.specs.declared.types.ValueType.TheVariants.{Base}
use Rattle.c_typed.specs.Tree as t
use Rattle.c_layout.specs.declared.shape.Shape.TheVariants.{Array}
use Rattle.c_layout.specs.declared.data.Datum.TheVariants.{Number}
use Rattle.c_layout.specs.declared.data.GlobalData.{GlobalData}
use Rattle.c_program.specs.Limits.{limited, within, large_globals, large_frame}
use Rattle.c_program.specs.Nodes.{nodes_unit}

abbrev p : Place
p = record { line = 1; col = 1 }

-- `a = 1 + 2`
abbrev sum : c.Decl
sum = c.declarator p (c.plain b.Int) (codes "a") l.Scalar (c.value (c.binary p Add (c.number p (pos 1) false) (c.number p (pos 2) false)))

-- `f(1, 2)`
abbrev called : c.Exp
called = c.call p (codes "f") (c.exps (c.number p (pos 1) false ∷ c.number p (pos 2) false ∷ []))

-- `int a = 1 + 2; int main(int) { for (int a = 1 + 2; f(1, 2); ) { } }`
nodes_of_a_file :
    nodes_unit (c.variables (sum ∷ [])
    ∷ c.function p (c.plain b.Int) (codes "main") (c.param p (c.plain b.Int) c.unnamed l.Scalar ∷ [])
    (c.for_loop p (c.start_local (sum ∷ [])) (c.given called) c.missing (c.block p c.no_stm) ∷ []) ∷ []) ≡ 17
nodes_of_a_file = refl

-- `int a[m] = {258};`
abbrev numbers : ℕ → GlobalData
numbers m = record { shape = Array (Base b.Int) m; held = Number (pos 258) ∷ [] }

-- a function whose frame has this size
abbrev framed_by : ℕ → t.Function
framed_by frame = record { name = codes "f"; result = Base b.Int; params = []; slots = 0; frame = frame; body = t.no_stm }

-- beside the string literal "hi"
frames_at_the_limit :
    limited (framed_by 32 ∷ framed_by 262144 ∷ []) (numbers 4 ∷ []) (codes "hi" ∷ []) (p ∷ []) ≡
    within (record {
      functions = framed_by 32 ∷ framed_by 262144 ∷ [];
      globals = 4096 ∷ [];
      strings = 4112 ∷ [];
      image = 2 ∷ 1 ∷ 0 ∷ 0 ∷ 0 ∷ 0 ∷ 0 ∷ 0 ∷ 0 ∷ 0 ∷ 0 ∷ 0 ∷ 0 ∷ 0 ∷ 0 ∷ 0 ∷ 104 ∷ 105 ∷ 0 ∷ [];
      places = p ∷ [];
    })
unfolding zeros
frames_at_the_limit = refl

globals_before_frames : limited (framed_by 262160 ∷ framed_by 16 ∷ []) (numbers 131072 ∷ []) (codes "hi" ∷ []) (p ∷ []) ≡ large_globals 524291
globals_before_frames = refl

first_large_frame : limited (framed_by 16 ∷ framed_by 262160 ∷ []) (numbers 1 ∷ []) (codes "hi" ∷ []) (p ∷ []) ≡ large_frame 262160
first_large_frame = refl
