-- A set of numbers, as words of 64 bits.
use Rattle.std.specs.Prelude.{◌≡◌, ℕ, ◌/◌, ◌%◌, ◌-◌, List, slice_index}
use Rattle.std.specs.Int.{bit_at}
use Rattle.std.specs.List.{sum_by}

-- bit k of word i stands for the number 64 * i + k
unfoldable pub Has : List ℕ → ℕ → Type 0
Has words n = bit_at (slice_index words (n / 64)) (n % 64) ≡ 1

abbrev pub IsEmpty : List ℕ → Type 0
IsEmpty words = (n : ℕ) → Has words n → ⊥

-- how far the words are from holding every bit
unfoldable pub room : List ℕ → ℕ
room words = sum_by (λ w. 18446744073709551615 - w) words
