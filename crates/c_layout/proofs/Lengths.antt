-- What is laid out lies one thing behind the other, and has the length of its place.
use Rattle.std.proofs.Common.{◌≡◌, ℕ, zero, suc, ◌+◌, ◌-◌, ◌≤◌, ◌<◌, List, [], ◌∷◌, ◌++◌, length, take, ap, arith, le_refl, zero-lt-suc, mod-lt, div-add-mod', length-append, length-take-le, take_all, ⊎_elim}
use Rattle.std.proofs.lemmas.Bool.{cases_lt}
use lib.ListN.{length-replicate}
use Rattle.c_layout.specs.declared.data.GlobalData.{GlobalData}
use Rattle.ib_mem.specs.Memory.{zeros}
use Rattle.c_layout.specs.Sizes.{aligned, bytes_of, element_size}
use Rattle.c_layout.specs.Layout.{Texts, first_address, start_of, behind, behind_texts, padded, data_bytes, global_bytes, globals_bytes, texts_bytes, texts_behind, image, image_size}

pub at_aligned : (size n : ℕ) → n ≤ aligned size n
at_aligned zero n = le_refl n
at_aligned (suc m) n =
    let whole = div-add-mod' (n + m) (suc m) in
    let less = mod-lt (n + m) (zero-lt-suc m) in
    omega arith

pub start_behind : (size at start : ℕ) → start ≡ aligned size at → at ≤ start
start_behind size at start is = let forward = at_aligned size at in omega arith

pub at_behind : (at : ℕ) (gs : List GlobalData) → at ≤ behind at gs
at_behind at [] = le_refl at
at_behind at (g ∷ gs) =
    let here = at_aligned (element_size g.shape) at in
    let later = at_behind (start_of at g.shape + bytes_of g.shape) gs in
    omega arith

pub at_behind_texts : (at : ℕ) (xs : Texts) → at ≤ behind_texts at xs
at_behind_texts at [] = le_refl at
at_behind_texts at (x ∷ xs) = let later = at_behind_texts (at + length x + 1) xs in omega arith

-- what is laid out lies behind the first address
pub past_first : (gs : List GlobalData) (xs : Texts) (stop : ℕ) → stop ≡ behind_texts (behind first_address gs) xs → first_address ≤ stop
past_first gs xs stop is =
    let globals = at_behind first_address gs in
    let texts = at_behind_texts (behind first_address gs) xs in
    omega arith

length_zeros : (n : ℕ) → length (zeros n) ≡ n
unfolding zeros
length_zeros n = length-replicate n 0

pub length_padded : (n : ℕ) (xs : List ℕ) → length (padded n xs) ≡ n
length_padded n xs =
    let both = length-append (take n xs) (zeros (n - length xs)) in
    let rest = length_zeros (n - length xs) in
    ⊎_elim (λ (short : length xs < n). let front = ap length (take_all n xs (omega arith)) in omega arith)
    (λ (long : n ≤ length xs). let front = length-take-le n xs long in omega arith)
    (cases_lt (length xs) n)

pub length_globals : (strings : List ℕ) (at : ℕ) (gs : List GlobalData) → at + length (globals_bytes strings at gs) ≡ behind at gs
length_globals strings at [] = omega arith
length_globals strings at (g ∷ gs) =
    let start = start_of at g.shape in
    let next = start + bytes_of g.shape in
    let forward = at_aligned (element_size g.shape) at in
    let gap = length_zeros (start - at) in
    let here = length_padded (bytes_of g.shape) (data_bytes strings (element_size g.shape) g.held) in
    let later = length_globals strings next gs in
    let outer = length-append (zeros (start - at)) (global_bytes strings g ++ globals_bytes strings next gs) in
    let inner = length-append (global_bytes strings g) (globals_bytes strings next gs) in
    omega arith

pub length_texts : (at : ℕ) (xs : Texts) → at + length (texts_bytes xs) ≡ behind_texts at xs
length_texts at [] = omega arith
length_texts at (x ∷ xs) =
    let here = length-append x (0 ∷ texts_bytes xs) in
    let later = length_texts (at + length x + 1) xs in
    omega arith

pub length_image : (globals : List GlobalData) (texts : Texts) → length (image globals texts) ≡ image_size globals texts
length_image globals texts =
    let strings = texts_behind globals texts in
    let both = length-append (globals_bytes strings first_address globals) (texts_bytes texts) in
    let front = length_globals strings first_address globals in
    let rest = length_texts (behind first_address globals) texts in
    omega arith
