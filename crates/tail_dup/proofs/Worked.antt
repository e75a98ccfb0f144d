-- A diamond and a loop that is entered in its middle, worked out.
use Rattle.std.proofs.Common.{◌≡◌, ℕ, Bool, true, false, List, [], ◌∷◌, Option, Some, None, refl}
use Rattle.std.specs.Prelude.{◌==◌}
use Rattle.tac_core.specs.declared.code.End.{End}
use Rattle.tac_core.specs.declared.code.End.TheVariants.{Jump, Branch}
use Rattle.tac_core.specs.Traces.{Labels}
use Rattle.tail_dup.specs.Duplicated.{tails, chains_with, origins_with}
use Rattle.tail_dup.specs.Tables.{led_end, marked_end}

-- 0 branches to 1 and 2, which both jump to 3; the chains are 0 1 3 and 2, and the jump from 2 enters from aside
abbrev diamond : List Labels
diamond = (0 ∷ 1 ∷ 3 ∷ []) ∷ (2 ∷ []) ∷ []

abbrev diamond_priors : List (Option ℕ)
diamond_priors = None ∷ Some 0 ∷ None ∷ Some 1 ∷ []

abbrev unmarked : List Bool
unmarked = false ∷ false ∷ false ∷ false ∷ []

from_1_marks_none : marked_end diamond_priors 1 unmarked (Jump 3) ≡ unmarked
from_1_marks_none = refl

from_2_marks_3 : marked_end diamond_priors 2 unmarked (Jump 3) ≡ false ∷ false ∷ false ∷ true ∷ []
from_2_marks_3 = refl

block_3_is_copied : tails (λ m. m == 3) diamond ≡ 3 ∷ []
block_3_is_copied = refl

chains_are : chains_with diamond 4 (3 ∷ []) ≡ (0 ∷ 1 ∷ 3 ∷ []) ∷ (2 ∷ []) ∷ (4 ∷ []) ∷ []
chains_are = refl

origins_are : origins_with 4 (3 ∷ []) ≡ 0 ∷ 1 ∷ 2 ∷ 3 ∷ 3 ∷ []
origins_are = refl

abbrev diamond_copies : List (Option ℕ)
diamond_copies = None ∷ None ∷ None ∷ Some 4 ∷ []

jump_from_2_leads_to_the_copy : led_end diamond_priors diamond_copies (Some 2) (Jump 3) ≡ Jump 4
jump_from_2_leads_to_the_copy = refl

jump_from_1_stays : led_end diamond_priors diamond_copies (Some 1) (Jump 3) ≡ Jump 3
jump_from_1_stays = refl

-- each block a chain by itself: nothing is copied
nothing_is_copied : tails (λ m. false) ((0 ∷ []) ∷ (1 ∷ []) ∷ (2 ∷ []) ∷ (3 ∷ []) ∷ []) ≡ []
nothing_is_copied = refl

-- the chain 1 2 3 is a loop that 0 enters at 2: 2 and 3 are copied, the copy of 2 goes on to the copy of 3, and that back to
-- the chain's first block
abbrev loop_priors : List (Option ℕ)
loop_priors = None ∷ None ∷ Some 1 ∷ Some 2 ∷ []

abbrev loop_copies : List (Option ℕ)
loop_copies = None ∷ None ∷ Some 4 ∷ Some 5 ∷ []

loop_is_copied_from_2 : tails (λ m. m == 2) ((0 ∷ []) ∷ (1 ∷ 2 ∷ 3 ∷ []) ∷ []) ≡ 2 ∷ 3 ∷ []
loop_is_copied_from_2 = refl

entry_leads_to_the_copy : led_end loop_priors loop_copies (Some 0) (Jump 2) ≡ Jump 4
entry_leads_to_the_copy = refl

copy_goes_on_in_copies : led_end loop_priors loop_copies None (Jump 3) ≡ Jump 5
copy_goes_on_in_copies = refl

copy_leads_back_to_the_first : led_end loop_priors loop_copies None (Branch 0 1 2) ≡ Branch 0 1 4
copy_leads_back_to_the_first = refl
