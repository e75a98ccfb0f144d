-- Lists of bytes: what of a memory is written, and how large a number few bytes spell.
use Prim.Native.Nat.{zero}
use Rattle.std.proofs.Common.{◌≡◌, ℕ, suc, ◌+◌, ◌-◌, ◌/◌, ◌%◌, ◌^◌, ◌<◌, ◌≤◌, List, [], ◌∷◌, ◌++◌, length, take, drop, set, get_or, replicate, ap, sym, refl, ◌∙◌, lit<, arith, append_assoc}
use Rattle.std.proofs.Math.Nat.{pow-suc}
use Rattle.std.proofs.lemmas.List.{length-replicate, take_all, take_more_set, length-set}
use Rattle.ib_mem.specs.Memory.{zeros, number_of, bytes_of}

pub length-zeros : (count : ℕ) → length (zeros count) ≡ count
unfolding zeros
length-zeros count = length-replicate count 0

pub zeros_are : (count : ℕ) → replicate count 0 ≡ zeros count
unfolding zeros
zeros_are count = refl

pos_pow : (count : ℕ) → 0 < 256 ^ count
pos_pow zero = lit< tt
pos_pow (suc count) = omega (arith, pow-suc 256 count, pos_pow count)

small_of : (bytes : List ℕ) (count : ℕ) → ((i : ℕ) → get_or bytes i 0 < 256) → length bytes ≤ count → number_of bytes < 256 ^ count
small_of [] count small fits = pos_pow count
small_of (lowest ∷ higher) zero small fits = absurd (omega arith)
small_of (lowest ∷ higher) (suc count) small fits =
    omega (arith, small 0, pow-suc 256 count, small_of higher count (λ i. small (suc i)) (omega arith))

-- all but the lowest byte of eight
pub higher_small : (bytes : List ℕ) → ((i : ℕ) → get_or bytes i 0 < 256) → 1 ≤ length bytes → length bytes ≤ 8 → number_of (take (length bytes - 1) (drop 1 bytes)) < 72057594037927936
higher_small [] small some fits = absurd (omega arith)
higher_small (lowest ∷ higher) small some fits =
    rw (take_all (length (lowest ∷ higher) - 1) higher (omega arith)) (small_of higher 7 (λ i. small (suc i)) (omega arith))

-- a byte of a number is written, and the rest is still to write
pub written : (bytes : List ℕ) (i left number : ℕ) → i < length bytes
    → take i bytes ++ bytes_of (length bytes - i) left ≡ bytes_of (length bytes) number
    → take (i + 1) (set bytes i (left % 256)) ++ bytes_of (length (set bytes i (left % 256)) - (i + 1)) (left / 256) ≡ bytes_of (length (set bytes i (left % 256))) number
written bytes i left number within so_far =
    let byte = left % 256 in
    let same : length (set bytes i byte) ≡ length bytes = length-set bytes i byte in
    let fewer = length (set bytes i byte) - (i + 1) in
    let one_more : suc fewer ≡ length bytes - i = omega arith in
    ap (λ xs. xs ++ bytes_of fewer (left / 256)) (take_more_set bytes i byte within)
    ∙ append_assoc (take i bytes) (byte ∷ []) (bytes_of fewer (left / 256))
    ∙ ap (λ n. take i bytes ++ bytes_of n left) one_more
    ∙ so_far ∙ ap (λ n. bytes_of n number) (sym same)
