-- What a call that may refuse or run out of memory says of an optional answer.
use Rattle.std.specs.Prelude.{◌≡◌, Option, Some, None, Result, Ok, Err}
use Rattle.first_form.specs.declared.error.ReadErr.{ReadErr}
use Rattle.first_form.specs.declared.error.ReadErr.TheVariants.{NotFirstForm, NoMemory}

abbrev pub Gives : {A : Type 0} → Option A → Result A ReadErr → Type 0
Gives answer (Ok value) = answer ≡ Some value
Gives answer (Err NotFirstForm) = answer ≡ None
Gives answer (Err NoMemory) = Unit {0}
