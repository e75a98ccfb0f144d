-- How words are read, one after the other.
use Rattle.std.specs.Prelude.{ℕ, Bool, not, is_some, ◌&&◌, List, [], ◌∷◌, Option, Some, None, ◌==◌, codes, bytes_eq, if◌then◌else◌, nat_lt, length}
use Rattle.std.specs.List.{position_or_len, before_first, after_first}
use Rattle.std.specs.Option.{option_map, option_and_then}
use Rattle.impactc_words.specs.declared.part.Part.{Part}
use Rattle.impactc_words.specs.declared.part.Part.TheVariants.{File, Profile, Machine, Cycles, To}
use Rattle.impactc_words.specs.Words.{Parts, is_value, given}

-- the option of this name
abbrev pub part_named : List ℕ → Option Part
part_named name =
    if bytes_eq name (codes "--profile") then Some Profile
    else (if bytes_eq name (codes "--machine") then Some Machine
    else (if bytes_eq name (codes "--cycles") then Some Cycles
    else (if bytes_eq name (codes "--to") then Some To
    else None)))

abbrev pub with_part : Part → List ℕ → Parts → Parts
with_part File text parts = record parts { file = Some text }
with_part Profile text parts = record parts { profile = Some text }
with_part Machine text parts = record parts { machine = Some text }
with_part Cycles text parts = record parts { cycles = Some text }
with_part To text parts = record parts { to = Some text }

abbrev pub no_parts : Parts
no_parts = record { file = None; profile = None; machine = None; cycles = None; to = None }

-- the parts that were read, and the option whose value is the next word
pub record Progress : Type 0 where
  pub parts : Parts
  pub waits : Option Part

-- the same with a text for a part that had none
abbrev pub added : Part → List ℕ → Parts → Option Parts
added part text parts = if is_value text && not (is_some (given parts part)) then Some (with_part part text parts) else None

-- behind a text for a part
abbrev pub behind_text : Parts → Part → List ℕ → Option Progress
behind_text parts part text = option_map (λ more. record { parts = more; waits = None }) (added part text parts)

abbrev pub is_equals : ℕ → Bool
is_equals byte = byte == 61

-- behind an option's word
abbrev pub behind_option : Parts → List ℕ → Option Progress
behind_option parts word =
    if nat_lt (position_or_len is_equals word) (length word)
    then option_and_then (λ part. behind_text parts part (after_first is_equals word)) (part_named (before_first is_equals word))
    else option_map (λ part. record { parts = parts; waits = Some part }) (part_named word)

abbrev pub behind_word : Progress → List ℕ → Option Progress
behind_word progress word = by_wait progress.waits
  where
    by_wait : Option Part → Option Progress
    by_wait (Some part) = behind_text progress.parts part word
    by_wait None = if is_value word then behind_text progress.parts File word else behind_option progress.parts word

abbrev pub behind_words : Progress → List (List ℕ) → Option Progress
behind_words progress [] = Some progress
behind_words progress (word ∷ words) = option_and_then (λ next. behind_words next words) (behind_word progress word)

-- the parts that words give
abbrev pub parts_at : Progress → Option Parts
parts_at progress = by_wait progress.waits
  where
    by_wait : Option Part → Option Parts
    by_wait None = Some progress.parts
    by_wait (Some part) = None

abbrev pub parts_in : List (List ℕ) → Option Parts
parts_in words = option_and_then parts_at (behind_words (record { parts = no_parts; waits = None }) words)
