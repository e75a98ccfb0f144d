use Rattle.std.proofs.Common.{map, take}
use Rattle.c_ast.specs.TreeViews as source
use Rattle.c_types_expressions.specs.Expressions.{effects}
use Rattle.c_types_expressions.proofs.ArgumentLemmas.{Found}
use Rattle.c_types_expressions.proofs.whole.effects.Given as goal

abbrev pub invariant-loop-e : goal.invariant-loop-e
invariant-loop-e l = Found (effects l.fn.scope l.fn.notes.texts) l.fn.notes (map source.expr_of (take l.e-index l.list)) l.typed l.notes
