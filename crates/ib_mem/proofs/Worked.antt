-- What accesses read and write, worked.
use Rattle.std.specs.Prelude.{◌≡◌, refl, pos, negsuc, true, false, [], ◌∷◌}
use Rattle.ib_mem.specs.Memory.{can_access, number_of, bytes_of, filled, cleared, zeros}

-- ---- which accesses are taken

eight_at_the_first_byte : can_access (pos 4096) 8 ≡ true
eight_at_the_first_byte = refl

one_below_the_first_byte : can_access (pos 4095) 1 ≡ false
one_below_the_first_byte = refl

four_at_a_multiple_of_two : can_access (pos 4098) 4 ≡ false
four_at_a_multiple_of_two = refl

four_at_the_end : can_access (pos 1048572) 4 ≡ true
four_at_the_end = refl

one_past_the_end : can_access (pos 1048576) 1 ≡ false
one_past_the_end = refl

one_at_the_largest_address : can_access (pos 9223372036854775807) 1 ≡ false
one_at_the_largest_address = refl

eight_at_a_negative_address : can_access (negsuc 4095) 8 ≡ false
eight_at_a_negative_address = refl

-- ---- numbers, the lowest byte first

-- 0x1122334455667788
all_eight : bytes_of 8 1234605616436508552 ≡ 136 ∷ 119 ∷ 102 ∷ 85 ∷ 68 ∷ 51 ∷ 34 ∷ 17 ∷ []
all_eight = refl

-- 0x55667788
lowest_four : number_of (136 ∷ 119 ∷ 102 ∷ 85 ∷ []) ≡ 1432778632
lowest_four = refl

-- of 0x1ff
lowest_one : bytes_of 1 511 ≡ 255 ∷ []
lowest_one = refl

-- ---- writes change their bytes alone

one_byte : filled (1 ∷ 2 ∷ 3 ∷ 4 ∷ []) 1 (9 ∷ []) ≡ 1 ∷ 9 ∷ 3 ∷ 4 ∷ []
one_byte = refl

two_bytes_cleared : cleared (1 ∷ 2 ∷ 3 ∷ 4 ∷ []) 2 2 ≡ 1 ∷ 2 ∷ 0 ∷ 0 ∷ []
unfolding zeros
two_bytes_cleared = refl
