-- Bytes that are padded up to a size.
use Rattle.std.proofs.Common.{◌≡◌, ℕ, zero, suc, ◌+◌, ◌-◌, ◌/◌, ◌%◌, ◌≤◌, ◌==◌, false, List, [], ◌∷◌, ◌++◌, length, take, drop, replicate, refl, sym, ap, ap₂, ◌∙◌, arith, append_assoc, append-nil, length-drop, take-add, take_at, drop_at, true≢false}
use Rattle.ib_mem.specs.Memory.{zeros, bytes_of}
use Rattle.c_layout.specs.Layout.{padded}

-- a list that was cut or filled up to a length
pub resized : (first size : ℕ) (old new : List ℕ) → first ≤ length old → new ≡ take (first + size) old ++ replicate (first + size - length old) 0 → new ≡ take first old ++ padded size (drop first old)
unfolding zeros
resized first size old new within is =
    let left = length-drop first old in
    let same : first + size - length old ≡ size - length (drop first old) = omega arith in
    is ∙ ap₂ (λ x y. x ++ y) (take-add first size old) (ap (λ n. replicate n 0) same)
    ∙ append_assoc (take first old) (take size (drop first old)) (replicate (size - length (drop first old)) 0)

pub padded_behind : (size : ℕ) (old bytes more new : List ℕ) → more ≡ old ++ bytes → new ≡ take (length old) more ++ padded size (drop (length old) more) → new ≡ old ++ padded size bytes
padded_behind size old bytes more new appended is =
    is ∙ ap (λ m. take (length old) m ++ padded size (drop (length old) m)) appended
    ∙ ap₂ (λ x y. x ++ padded size y) (take_at old bytes (length old) refl) (drop_at old bytes (length old) refl)

pub none_padded : (size : ℕ) → padded size [] ≡ zeros size
none_padded zero = refl
none_padded (suc n) = let whole : suc n - 0 ≡ suc n = omega arith in ap zeros whole

pub zeros_behind : (size : ℕ) (old new : List ℕ) → new ≡ take (length old) old ++ padded size (drop (length old) old) → new ≡ old ++ zeros size
zeros_behind size old new is = padded_behind size old [] old new (sym (append-nil old)) is ∙ ap (λ z. old ++ z) (none_padded size)

pub number_put : (count number byte : ℕ) (old mid new : List ℕ) → (count == 0) ≡ false → byte ≡ number % 256 → mid ≡ old ++ (byte ∷ []) → new ≡ mid ++ bytes_of (count - 1) (number / 256) → new ≡ old ++ bytes_of count number
number_put zero number byte old mid new some is pushed rest = absurd (true≢false some)
number_put (suc n) number byte old mid new some is pushed rest =
    let fewer : suc n - 1 ≡ n = omega arith in
    rest ∙ ap₂ (λ m k. m ++ bytes_of k (number / 256)) pushed fewer
    ∙ append_assoc old (byte ∷ []) (bytes_of n (number / 256)) ∙ ap (λ b. old ++ (b ∷ bytes_of n (number / 256))) is
