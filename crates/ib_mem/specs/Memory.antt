-- The memory of a program: which accesses it takes, and what they read and write.
use Prim.Native.Nat.{zero}
use Rattle.std.specs.Prelude.{◌≡◌, ℕ, ◌+◌, ◌*◌, ◌/◌, ◌%◌, suc, nat_le, ◌==◌, ◌&&◌, Bool, false, if◌then◌else◌, ℤ, pos, negsuc, ◌⊎◌, List, [], ◌∷◌, ◌++◌, length, take, drop, replicate, Option, Some, None}

-- the widths of accesses, in bytes
abbrev pub IsAccessWidth : ℕ → Type 0
IsAccessWidth width = (width ≡ 1) ⊎ ((width ≡ 4) ⊎ (width ≡ 8))

-- so many zero bytes
unfoldable pub zeros : ℕ → List ℕ
zeros count = replicate count 0

-- the access is aligned and lies wholly between the bytes 4096 and 2 ^ 20
abbrev pub can_access : ℤ → ℕ → Bool
can_access (pos at) width = nat_le 4096 at && (nat_le (at + width) 1048576 && (at % width == 0))
can_access (negsuc n) width = false

-- the number that bytes spell, the lowest first
abbrev pub number_of : List ℕ → ℕ
number_of [] = 0
number_of (lowest ∷ higher) = lowest + 256 * number_of higher

-- the lowest bytes of a number, as many as wanted, the lowest first
abbrev pub bytes_of : ℕ → ℕ → List ℕ
bytes_of zero number = []
bytes_of (suc count) number = (number % 256) ∷ bytes_of count (number / 256)

-- the memory with other bytes from a place on
abbrev pub filled : List ℕ → ℕ → List ℕ → List ℕ
filled memory at bytes = take at memory ++ bytes ++ drop (at + length bytes) memory

-- the memory with zero bytes from a place on
abbrev pub cleared : List ℕ → ℕ → ℕ → List ℕ
cleared memory at count = filled memory at (zeros count)

-- what an access reads, or `None` where it faults
abbrev pub loaded : List ℕ → ℤ → ℕ → Option ℕ
loaded memory (pos at) width = if can_access (pos at) width then Some (number_of (take width (drop at memory))) else None
loaded memory (negsuc n) width = None

-- the memory after an access wrote a number, or `None` where it faults
abbrev pub stored : List ℕ → ℤ → ℕ → ℕ → Option (List ℕ)
stored memory (pos at) width number = if can_access (pos at) width then Some (filled memory at (bytes_of width number)) else None
stored memory (negsuc n) width number = None
