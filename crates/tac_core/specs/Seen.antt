-- The program that contracts see behind what has no bytes.
use Rattle.tac_core.specs.declared.origin.Seen.{Seen, First, Again'}
use Rattle.tac_core.specs.Program.{Program}

abbrev pub seen_program : Seen → Program
seen_program (First program) = program.value
seen_program (Again' marker earlier seen) = seen_program seen
