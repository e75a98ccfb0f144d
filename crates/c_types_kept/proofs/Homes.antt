-- Where the variables of a function live: each has a place of its own.
use Rattle.std.proofs.Common.{◌≡◌, ℕ, zero, suc, ◌+◌, ◌/◌, ◌%◌, ◌<◌, ◌≤◌, true, false, cond, List, [], ◌∷◌, ◌++◌, length, map, refl, sym, ap, ◌∙◌, subst, arith, Some, append_assoc, length-append, le_refl}
use Rattle.std.specs.Prelude.{slice_get}
use Rattle.std.specs.List.{All, AllPairs}
use Rattle.std.proofs.lemmas.List.Elements.{All-nil, All-cons}
use Rattle.std.proofs.lemmas.List.Kept.{AllPairs-cons}
use Rattle.std.proofs.Math.Nat.{mul-mod_left}
use Rattle.c_ast.specs.Trees as c
use Rattle.c_typed.specs.declared.types.ValueType.{ValueType}
use Rattle.c_typed.specs.declared.program.Home.{Home}
use Rattle.c_typed.specs.declared.program.Home.TheVariants as h
use Rattle.c_layout.specs.declared.shape.Shape.{Shape}
use Rattle.c_layout.specs.declared.shape.Shape.TheVariants.{Scalar, Array}
use Rattle.c_layout.specs.Sizes.{aligned, element_size, bytes_of}
use Rattle.c_layout.proofs.Lengths.{at_aligned}
use Rattle.c_types_homes.specs.declared.homes.Given.{Given}
use Rattle.c_types_homes.specs.Addressed.{param_shape}
use Rattle.c_types_homes.specs.Declarators.{param_type}
use Rattle.c_types_homes.specs.Homes.{home_of, behind, is_in_frame, homes_from, given_behind}
use Rattle.c_types_statements.specs.Statements.{home_at}
use Rattle.c_types_units.specs.Units.{params_typed}
use Rattle.c_kept.specs.Kept.{HasHome, HaveHomes, slots_of}
use Rattle.c_types_kept.proofs.Judgements.{by_cases}
use Rattle.c_types_kept.proofs.Types.{IsFirm, firm_value, some_size}

abbrev pub element_type : Shape → ValueType
element_type (Scalar ty) = ty
element_type (Array ty n) = ty

some_element : (shape : Shape) → 1 ≤ element_size shape
some_element (Scalar ty) = some_size ty
some_element (Array ty n) = some_size ty

pub aligned_is : (size n : ℕ) → 1 ≤ size → aligned size n % size ≡ 0
aligned_is zero n h = let z : ⊥ = omega (arith, h) in absurd z
aligned_is (suc m) n h = mul-mod_left ((n + m) / suc m) (suc m)

pub get_middle : {A : Type 0} (xs : List A) (y : A) (ys : List A) → slice_get (xs ++ (y ∷ ys)) (length xs) ≡ Some y
get_middle [] y ys = refl
get_middle (x ∷ xs) y ys = get_middle xs y ys

abbrev pub AreFirm : List c.Par → Type 0
AreFirm [] = Unit {0}
AreFirm (x ∷ xs) = IsFirm (param_type x) × AreFirm xs

-- ---- homes that fit variables

-- in a function whose slots have these types, and whose frame has so many bytes
module _ (kinds : List ValueType) (frame : ℕ) where
  abbrev pub HomeFits : Home → Shape → Type 0
  HomeFits (h.Slot k) shape = slice_get kinds k ≡ Some (element_type shape)
  HomeFits (h.Frame offset) shape = (offset % element_size shape ≡ 0) × (offset + bytes_of shape ≤ frame)

  -- the homes from number k on fit these variables
  abbrev pub HomesFit : List Home → (k : ℕ) → List Shape → Type 0
  HomesFit homes k [] = Unit {0}
  HomesFit homes k (x ∷ xs) = HomeFits (home_at homes k) x × HomesFit homes (suc k) xs

  pub first_fit : (homes : List Home) (k : ℕ) (xs ys : List Shape) → HomesFit homes k (xs ++ ys) → HomesFit homes k xs
  first_fit homes k [] ys f = tt
  first_fit homes k (x ∷ xs) ys f = (f.0, first_fit homes (suc k) xs ys f.1)

  pub second_fit : (homes : List Home) (k : ℕ) (xs ys : List Shape) → HomesFit homes k (xs ++ ys) → HomesFit homes (k + length xs) ys
  second_fit homes k [] ys f = let e : k ≡ k + 0 = omega arith in subst (λ z. HomesFit homes z ys) e f
  second_fit homes k (x ∷ xs) ys f =
      let e : suc k + length xs ≡ k + length (x ∷ xs) = omega arith in
      subst (λ z. HomesFit homes z ys) e (second_fit homes (suc k) xs ys f.1)

  one_more : (first : Home) (homes : List Home) (k : ℕ) (xs : List Shape) → HomesFit homes k xs → HomesFit (first ∷ homes) (suc k) xs
  one_more first homes k [] f = tt
  one_more first homes k (x ∷ xs) f = (f.0, one_more first homes (suc k) xs f.1)

  -- ---- the homes of parameters

  has_home : (ty : ValueType) (home : Home) → HomeFits home (Scalar ty) → HasHome kinds frame ty home
  has_home ty (h.Slot k) f = f
  has_home ty (h.Frame offset) f = f

  pub have_homes : (homes : List Home) (k : ℕ) (xs : List c.Par) → HomesFit homes k (map param_shape xs) → AreFirm xs → HaveHomes kinds frame (params_typed homes k xs)
  have_homes homes k [] f g = tt
  have_homes homes k (x ∷ xs) f g = (has_home (param_type x) (home_at homes k) f.0, firm_value (param_type x) g.0, have_homes homes (suc k) xs f.1 g.1)

-- ---- what is given out

module _ (taken : List ℕ) where
  -- the types of the variables that have a slot, from number k on
  abbrev pub slot_types : (k : ℕ) → List Shape → List ValueType
  slot_types k [] = []
  slot_types k (x ∷ xs) = cond (is_in_frame taken k x) (slot_types (suc k) xs) (element_type x ∷ slot_types (suc k) xs)

  pub slots_counted : (k : ℕ) (given : Given) (xs : List Shape) → (given_behind taken k given xs).slots ≡ given.slots + length (slot_types k xs)
  slots_counted k given [] = omega arith
  slots_counted k given (x ∷ xs) =
      let later = slots_counted (suc k) (behind false x given) xs in
      by_cases (λ b. (given_behind taken (suc k) (behind b x given) xs).slots ≡ given.slots + length (cond b (slot_types (suc k) xs) (element_type x ∷ slot_types (suc k) xs)))
      (slots_counted (suc k) (behind true x given) xs) (omega (arith, later)) (is_in_frame taken k x)

  bytes_grow : (k : ℕ) (given : Given) (xs : List Shape) → given.bytes ≤ (given_behind taken k given xs).bytes
  bytes_grow k given [] = le_refl given.bytes
  bytes_grow k given (x ∷ xs) =
      let later = bytes_grow (suc k) (behind true x given) xs in
      let here = at_aligned (element_size x) given.bytes in
      by_cases (λ b. given.bytes ≤ (given_behind taken (suc k) (behind b x given) xs).bytes)
      (omega (arith, later, here)) (bytes_grow (suc k) (behind false x given) xs) (is_in_frame taken k x)

  module _ (kinds : List ValueType) (frame : ℕ) where
    -- What is given out to variables fits them, where the slots given out before have the first types.
    pub given_fit : (k : ℕ) (given : Given) (xs : List Shape) (first : List ValueType) → kinds ≡ first ++ slot_types k xs → length first ≡ given.slots → (given_behind taken k given xs).bytes ≤ frame → HomesFit kinds frame (homes_from taken k given xs) 0 xs
    given_fit k given [] first whole many room = tt
    given_fit k given (x ∷ xs) first whole many room =
        by_cases (λ b. kinds ≡ first ++ cond b (slot_types (suc k) xs) (element_type x ∷ slot_types (suc k) xs) → (given_behind taken (suc k) (behind b x given) xs).bytes ≤ frame
        → HomesFit kinds frame (home_of b x given ∷ homes_from taken (suc k) (behind b x given) xs) 0 (x ∷ xs))
        (λ e r.
        let grown = bytes_grow (suc k) (behind true x given) xs in (
          (aligned_is (element_size x) given.bytes (some_element x), omega (arith, grown, r)),
          one_more kinds frame (home_of true x given) (homes_from taken (suc k) (behind true x given) xs) 0 xs (given_fit (suc k) (behind true x given) xs first e many r),
        ))
        (λ e r.
        let long = length-append first (element_type x ∷ []) in (
          in_slot first (element_type x) (slot_types (suc k) xs) given.slots e many,
          one_more kinds frame (home_of false x given) (homes_from taken (suc k) (behind false x given) xs) 0 xs
              (given_fit (suc k) (behind false x given) xs (first ++ (element_type x ∷ [])) (e ∙ sym (append_assoc first (element_type x ∷ []) (slot_types (suc k) xs))) (omega (arith, long, many)) r),
        ))
        (is_in_frame taken k x) whole room
      where
        in_slot : (first : List ValueType) (ty : ValueType) (rest : List ValueType) (k : ℕ) → kinds ≡ first ++ (ty ∷ rest) → length first ≡ k → slice_get kinds k ≡ Some ty
        in_slot first ty rest k e many = ap (λ z. slice_get z k) e ∙ ap (λ z. slice_get (first ++ (ty ∷ rest)) z) (sym many) ∙ get_middle first ty rest

  -- ---- no two parameters have one slot

  abbrev Rises : (least : ℕ) → List ℕ → Type 0
  Rises least [] = Unit {0}
  Rises least (k ∷ ks) = (least ≤ k) × Rises (suc k) ks

  params_one_more : (first : Home) (homes : List Home) (k : ℕ) (xs : List c.Par) → params_typed (first ∷ homes) (suc k) xs ≡ params_typed homes k xs
  params_one_more first homes k [] = refl
  params_one_more first homes k (x ∷ xs) = ap (λ rest. record { ty = param_type x; home = home_at homes k } ∷ rest) (params_one_more first homes (suc k) xs)

  slots_rise : (k : ℕ) (given : Given) (xs : List c.Par) (rest : List Shape) → Rises given.slots (slots_of (params_typed (homes_from taken k given (map param_shape xs ++ rest)) 0 xs))
  slots_rise k given [] rest = tt
  slots_rise k given (x ∷ xs) rest =
      by_cases (λ b. Rises given.slots (slots_of (params_typed (home_of b (param_shape x) given ∷ homes_from taken (suc k) (behind b (param_shape x) given) (map param_shape xs ++ rest)) 0 (x ∷ xs))))
      (subst (λ qs. Rises given.slots (slots_of qs)) (sym (params_one_more (home_of true (param_shape x) given) (homes_from taken (suc k) (behind true (param_shape x) given) (map param_shape xs ++ rest)) 0 xs)) (slots_rise (suc k) (behind true (param_shape x) given) xs rest)) (
        le_refl given.slots,
        subst (λ qs. Rises (suc given.slots) (slots_of qs)) (sym (params_one_more (home_of false (param_shape x) given) (homes_from taken (suc k) (behind false (param_shape x) given) (map param_shape xs ++ rest)) 0 xs)) (slots_rise (suc k) (behind false (param_shape x) given) xs rest),
      )
      (is_in_frame taken k (param_shape x))

  all_above : (j least : ℕ) (ks : List ℕ) → j < least → Rises least ks → All (λ k. j ≡ k → ⊥) ks
  all_above j least [] lt h = All-nil (λ k. j ≡ k → ⊥)
  all_above j least (k ∷ ks) lt h =
      let le = h.0 in
      All-cons (λ k. j ≡ k → ⊥) k ks (λ e. let z : ⊥ = omega (arith, e, lt, le) in z) (all_above j (suc k) ks (omega (arith, lt, le)) h.1)

  rising_differ : (least : ℕ) (ks : List ℕ) → Rises least ks → AllPairs (λ j k. j ≡ k → ⊥) ks
  rising_differ least [] h = λ i j d lt lt2. let z : ⊥ = omega (arith, lt, lt2) in absurd z
  rising_differ least (k ∷ ks) h = AllPairs-cons (λ j k. j ≡ k → ⊥) k ks (all_above k (suc k) ks (le_refl (suc k)) h.1) (rising_differ (suc k) ks h.1)

  pub slots_apart : (given : Given) (xs : List c.Par) (rest : List Shape) → AllPairs (λ j k. j ≡ k → ⊥) (slots_of (params_typed (homes_from taken 0 given (map param_shape xs ++ rest)) 0 xs))
  slots_apart given xs rest = rising_differ given.slots (slots_of (params_typed (homes_from taken 0 given (map param_shape xs ++ rest)) 0 xs)) (slots_rise 0 given xs rest)
