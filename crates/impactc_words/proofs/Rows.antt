-- What some words give.
use Rattle.std.proofs.Common.{◌≡◌, [], ◌∷◌, Some, None, refl}
use Rattle.std.specs.Prelude.{codes}
use Rattle.impactc_words.specs.Words.{Give, Parts, only_file}
use Rattle.impactc_words.specs.Reading.{parts_in}
use Rattle.impactc_words.proofs.Spelled.{gives}

limited : Parts
limited = record { file = Some (codes "F"); profile = None; machine = Some (codes "eight"); cycles = Some (codes "5"); to = None }

-- options stand before and behind the file, in one word or in two
in_order : Give (codes "F" ∷ codes "--machine" ∷ codes "eight" ∷ codes "--cycles" ∷ codes "5" ∷ []) limited
unfolding limited
in_order = gives _ limited refl

out_of_order : Give (codes "--cycles=5" ∷ codes "F" ∷ codes "--machine=eight" ∷ []) limited
unfolding limited
out_of_order = gives _ limited refl

-- a value may hold the sign behind which values stand
value_with_sign : parts_in (codes "a=b" ∷ []) ≡ Some (only_file (codes "a=b"))
value_with_sign = refl

value_of_sign : Give (codes "--to==" ∷ []) (record { file = None; profile = None; machine = None; cycles = None; to = Some (codes "=") })
value_of_sign = gives _ _ refl

-- an option twice, a second file, an option without a value, one that is none
given_twice : parts_in (codes "--cycles" ∷ codes "5" ∷ codes "--cycles=5" ∷ []) ≡ None
given_twice = refl

two_files : parts_in (codes "F" ∷ codes "G" ∷ []) ≡ None
two_files = refl

without_value : parts_in (codes "F" ∷ codes "--to" ∷ []) ≡ None
without_value = refl

empty_value : parts_in (codes "F" ∷ codes "--to=" ∷ []) ≡ None
empty_value = refl

option_as_value : parts_in (codes "--to" ∷ codes "--to" ∷ []) ≡ None
option_as_value = refl

unknown_option : parts_in (codes "F" ∷ codes "--fast" ∷ []) ≡ None
unknown_option = refl
