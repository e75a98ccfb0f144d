use Rattle.std.proofs.Common.{refl, map}
use Rattle.c_ast.specs.Trees.{stms}
use Rattle.c_ast.specs.TreeViews.{type_of, param_of, stmt_of, decl_of}
use Rattle.c_types_functions.specs.Functions.{head_of}
use Rattle.c_types_statements.proofs.Typed.{makes, with_part, typed_as}
use Rattle.c_types.specs.Making.{past_body, past_globals}
use Rattle.c_types_units.specs.Units.{one_function, only_globals, function, globals, with_globals}
use Rattle.c_types.proofs.items.item.Goals as goal

pub returns-in_ok-made-in-Function : goal.returns-in_ok-made-in-Function
returns-in_ok-made-in-Function c =
    let h = c.in-Function.head in
    let all = stms (map stmt_of c.in-Function.body.items) in
    rw c.in-Function.is
    (typed_as refl c.function_piece-piece.ensures
    (with_part (λ Γ at. Γ) (λ Γ at. past_body all at) (λ Γ at. function Γ at (head_of h.place (type_of h.result) h.name (map param_of h.params.items)) all)
    (makes one_function) (rw c.deref.ensures.value at c.in_ok-made-in-Function.ensures)))

pub returns-in_ok-made-in-Variables : goal.returns-in_ok-made-in-Variables
returns-in_ok-made-in-Variables c =
    let ds = map decl_of c.in-Variables.list.items in
    rw c.in-Variables.is
    (typed_as refl c.globals_piece-piece.ensures
    (with_part (λ Γ at. with_globals at.variable ds Γ) (λ Γ at. past_globals ds at) (λ Γ at. globals Γ at.variable at.texts ds)
    (makes only_globals) (rw c.deref-in-Variables.ensures.value at c.in_ok-made-in-Variables.ensures)))
