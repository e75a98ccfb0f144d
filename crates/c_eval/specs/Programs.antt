-- What a run is given, as contracts see it.
use Rattle.std.specs.Prelude.{map}
use Rattle.c_typed.specs.Program.{Program}
use Rattle.c_typed.specs.Views.{function_of}
use Rattle.c_eval.specs.declared.source.Source.{Source}

abbrev pub program_of : Source → Program
program_of s = record { functions = map function_of s.functions.now; globals = s.globals.now; strings = s.strings.now; image = s.image.now; places = s.places.now }
