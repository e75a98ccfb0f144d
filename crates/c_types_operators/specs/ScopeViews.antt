-- What the code keeps of functions, as plain data.
use Rattle.std.specs.Prelude.{map}
use Rattle.c_types_operators.specs.declared.scope.Function as code_function
use Rattle.c_types_operators.specs.declared.scope.Meant as code_meant
use Rattle.c_types_operators.specs.declared.scope.Meant.TheVariants as m
use Rattle.c_types_operators.specs.Scopes.{Function, Meant, variable, function}
use Rattle.c_scopes.specs.Scopes.{Scope}

abbrev pub function_of : code_function.Function → Function
function_of f = record { signature = record { result = f.result; params = f.params.now }; callee = f.callee }

abbrev pub meant_of : code_meant.Meant → Meant
meant_of (m.Variable v) = variable v
meant_of (m.Function f) = function (function_of f)

abbrev pub functions_of : Scope code_function.Function → Scope Function
functions_of table = map (λ entry. record { name = entry.name; meant = function_of entry.meant }) table
