-- What the code keeps of heads, as plain data.
use Rattle.std.specs.Prelude.{map}
use Rattle.c_ast.specs.TreeViews.{param_of}
use Rattle.c_types_functions.specs.declared.heads.Head as code_head
use Rattle.c_types_functions.specs.Functions.{Head}

abbrev pub plain_head : code_head.Head → Head
plain_head h = record { place = h.place; result = h.result; name = h.name.now; params = map param_of h.params.now }
