-- Plain code of a valid program keeps the rules on every machine, unless a function needs too many slots.
use Rattle.std.proofs.Common.{◌≡◌, ◌≢◌, ℕ, zero, suc, ◌+◌, ◌-◌, ◌%◌, ◌<◌, ◌≤◌, ◌==◌, ◌||◌, ◌&&◌, nat_le, Bool, true, false, IsTrue, List, [], ◌∷◌, ◌++◌, length, map, slice_get, slice_index_or, Option, Some, None, bytes_eq, codes, refl, sym, ap, ap₂, ◌∙◌, subst, arith}
use Rattle.std.specs.Prelude.{MatchOption}
use Rattle.std.specs.List.{All, AllPairs, list_all, list_any}
use Rattle.std.specs.Option.{option_map}
use Rattle.std.proofs.lemmas.List.{length-map}
use Rattle.std.proofs.lemmas.List.Elements.{All-head, All-tail}
use Rattle.std.proofs.lemmas.Option.{slice_get-get_or}
use Rattle.std.proofs.lemmas.Slice.Eq.{bytes_eq-Decides}
use Rattle.std.proofs.lemmas.Bool.Decides.{nat_tests}
use Rattle.ib_meaning.specs.declared.place.Place.{Place}
use Rattle.ib_meaning.proofs.Facts.{both}
use Rattle.machine_desc.specs.declared.machine.OpClass.{OpClass}
use Rattle.machine_desc.specs.declared.machine.OpClass.TheVariants.{Alu}
use Rattle.machine_desc.specs.Machine.{IsTable}
use Rattle.tac_core.specs.declared.code.Block.{Block}
use Rattle.tac_core.specs.declared.code.TacFunc.{TacFunc}
use Rattle.tac_core.specs.Program.{Program}
use Rattle.tac_core.specs.Rules.{Takes, IsGoodFunc, IsName, IsMain, IsValid, is_letter as tac_is_letter, is_digit as tac_is_digit}
use Rattle.tac_core.proofs.Lists.{All-get}
use Rattle.wide_core.specs.declared.code.Loc.{Loc}
use Rattle.wide_core.specs.declared.code.WideFunc.{WideFunc}
use Rattle.wide_core.specs.declared.code.RawCode.{RawCode}
use Rattle.wide_core.specs.Parts.{is_main}
use Rattle.wide_core.specs.Places.{same_loc}
use Rattle.wide_core.specs.Valid.{IsValid as IsValidCode, limits, is_within, takes, is_letter, is_digit, is_name, differ, has_good_sizes, scope_of, numbers_in, lines_of_func, of_func, of_funcs, first_func_line, is_entry, broken_rules}
use Rattle.plain_code.specs.Plain.{place, all_items, func_items, start, numbered, func_from, funcs_from, plain, HasFewSlots}
use Rattle.plain_code.proofs.Numbers.{func_at}
use Rattle.plain_code.proofs.Places.{place_differs}
use Rattle.plain_code.proofs.OneEach.{AllBelow, NoneBelow, below_more, below_behind, numbers_below, length-numbered, EndsWell, ends_long, one_each_kept}
use Rattle.plain_code.proofs.Good.{below, place_within, blocks_good, blocks_well, start_within}

-- ---- names and lists

differs : (q r : ℕ) → q ≢ r → (q == r) ≡ false
differs q r h = by (q == r) refl
  where
    by : (b : Bool) → (q == r) ≡ b → (q == r) ≡ false
    by true e = absurd (h (grind (arith, nat_tests)))
    by false e = e

other_name : (xs ys : List ℕ) → xs ≢ ys → bytes_eq xs ys ≡ false
other_name xs ys h = by (bytes_eq xs ys) refl
  where
    by : (b : Bool) → bytes_eq xs ys ≡ b → bytes_eq xs ys ≡ false
    by true e = absurd (h ((bytes_eq-Decides xs ys).0 e))
    by false e = e

all_pass : {A : Type 0} (p : A → Bool) (q : A → Bool) (xs : List A) → ((x : A) → q x ≡ true → p x ≡ true) → All (λ x. IsTrue (q x)) xs → list_all p xs ≡ true
all_pass p q [] h all = refl
all_pass p q (x ∷ xs) h all = both _ _ (h x (All-head (λ y. IsTrue (q y)) x xs all)) (all_pass p q xs h (All-tail (λ y. IsTrue (q y)) x xs all))

same_letter : (b : ℕ) → tac_is_letter b ≡ is_letter b
same_letter b =
    let e : (nat_le 95 b && nat_le b 95) ≡ (b == 95) = grind (arith, nat_tests) in
    ap (λ z. (nat_le 65 b && nat_le b 90) || ((nat_le 97 b && nat_le b 122) || z)) e

name_kept : (name : List ℕ) → IsName name → is_name name ≡ true
name_kept [] h = absurd h
name_kept (b ∷ bs) h =
    both _ _ (sym (same_letter b) ∙ h.0)
    (all_pass (λ c. is_letter c || is_digit c) (λ c. tac_is_letter c || tac_is_digit c) bs (λ c e. ap (λ z. z || is_digit c) (sym (same_letter c)) ∙ e) h.1)

none_more : {B : Type 0} (p : B → Bool) (seen : List B) (x : B) → list_any p seen ≡ false → p x ≡ false → list_any p (seen ++ x ∷ []) ≡ false
none_more p [] x e f = rw f refl
none_more p (y ∷ ys) x e f = by (p y) e (λ g. none_more p ys x g f)
  where
    by : (b : Bool) → (b || list_any p ys) ≡ false → (list_any p ys ≡ false → list_any p (ys ++ x ∷ []) ≡ false) → (b || list_any p (ys ++ x ∷ [])) ≡ false
    by true g more = cc
    by false g more = more g

-- each is new among those before it
module _ {A B : Type 0} (key : A → B) (same : B → B → Bool) where
  pub data Fresh : List A → List B → Type 0 where
    NoneFresh : (seen : List B) → Fresh [] seen
    OneFresh : (x : A) (xs : List A) (seen : List B) → list_any (same (key x)) seen ≡ false → Fresh xs (seen ++ key x ∷ []) → Fresh (x ∷ xs) seen

  fresh : (R : A → A → Type 0) → ((x y : A) → R x y → same (key y) (key x) ≡ false) → (xs : List A) (seen : List B) → All (λ x. list_any (same (key x)) seen ≡ false) xs → AllPairs R xs → Fresh xs seen
  fresh R apart [] seen each pairs = NoneFresh seen
  fresh R apart (x ∷ xs) seen each pairs =
      OneFresh x xs seen (All-head (λ y. list_any (same (key y)) seen ≡ false) x xs each)
      (fresh R apart xs (seen ++ key x ∷ [])
      (λ k d lt. none_more (same (key (slice_index_or xs k d))) seen (key x) (All-tail (λ y. list_any (same (key y)) seen ≡ false) x xs each k d lt) (apart x (slice_index_or xs k d) (pairs 0 (suc k) d (omega arith) (omega arith))))
      (λ i j d lt within. pairs (suc i) (suc j) d (omega arith) (omega arith)))

params_differ : (low : ℕ) (params : List ℕ) (seen : List Loc) → Fresh (place low) same_loc params seen → differ seen (map (place low) params) ≡ true
params_differ low [] seen (NoneFresh s) = refl
params_differ low (r ∷ rs) seen (OneFresh q qs s new more) = rw new (params_differ low rs (seen ++ place low r ∷ []) more)

module _ (width regs : ℕ) (units latency : OpClass → ℕ) (table : IsTable width regs units latency) (p : Program) (valid : IsValid p) (few : HasFewSlots regs p) where
  abbrev low : ℕ
  low = regs - 8

  abbrev places : List Place
  places = p.places

  abbrev funcs : List WideFunc
  funcs = funcs_from low places 1 p.funcs

  enough : 8 ≤ regs
  enough = let h = table.least_regs in omega arith

  -- ---- calls

  called_in : (n : ℕ) (o : Option TacFunc) (k : ℕ) → MatchOption o ⊥ (λ f. k ≡ length f.params) → takes (option_map (func_from low places n) o) k ≡ true
  called_in n None k h = absurd h
  called_in n (Some f) k h =
      let e : length (map (place low) f.params) ≡ length f.params = length-map f.params (place low) in grind (arith, nat_tests)

  called : (g k : ℕ) → Takes p.funcs g k → takes (slice_get funcs g) k ≡ true
  called g k h = ap (λ o. takes o k) (func_at low places 1 p.funcs g) ∙ called_in _ (slice_get p.funcs g) k h

  args_few : (o : Option TacFunc) (g k : ℕ) → slice_get p.funcs g ≡ o → MatchOption o ⊥ (λ f. k ≡ length f.params) → k ≤ 8
  args_few None g k is h = absurd h
  args_few (Some f) g k is h =
      let good = All-get (IsGoodFunc (length places) p.funcs) p.funcs g f valid.each is in
      let eight = good.few in
      subst (λ n. n ≤ 8) (sym h) eight

  -- ---- functions

  func_within : (params : List ℕ) (count : ℕ) → All (λ r. r < count) params → list_all (is_within regs (count - low)) (map (place low) params) ≡ true
  func_within [] count all = refl
  func_within (r ∷ rs) count all =
      both _ _ (place_within regs count enough 0 [] r (All-head (λ q. q < count) r rs all)) (func_within rs count (All-tail (λ q. q < count) r rs all))

  well : (bs : List Block) (at : ℕ → ℕ) → 0 < length bs → EndsWell (all_items low places at bs)
  well [] at some = absurd (omega arith)
  well (b ∷ bs) at some = blocks_well low places at b bs

  sizes_good : (n : ℕ) (f : TacFunc) → f.regs - low ≤ 1048576 → IsGoodFunc (length places) p.funcs f → has_good_sizes (func_from low places n f) ≡ true
  sizes_good n f slots good =
      let frame = good.frame in
      let aligned = good.aligned in
      let eight = good.few in
      let long = length-map f.params (place low) in
      let words = length-numbered n (func_items low places f) in
      let some = ends_long (func_items low places f) (well f.blocks (start low places f.blocks) good.entry) in
      let a : nat_le f.frame 262144 ≡ true = grind (arith, nat_tests) in
      let b : (f.frame % 16 == 0) ≡ true = rw aligned refl in
      let c : nat_le (f.regs - low) 1048576 ≡ true = grind (arith, nat_tests) in
      let d : nat_le (length (map (place low) f.params)) 8 ≡ true = grind (arith, nat_tests) in
      let e : nat_le 1 (length (numbered n (func_items low places f))) ≡ true = grind (arith, nat_tests) in
      rw (a, b, c, d, e) refl

  func_kept : (n line : ℕ) (f : TacFunc) (names : List (List ℕ)) (numbers : List ℕ) → 1 ≤ n → AllBelow n numbers → list_any (bytes_eq f.name) names ≡ false → f.regs - low ≤ 1048576 → IsGoodFunc (length places) p.funcs f → of_func (limits width regs units) funcs names numbers line (func_from low places n f) ≡ []
  func_kept n line f names numbers one numbers_are new slots good =
      let at = start low places f.blocks in
      let items = func_items low places f in
      let words = length (numbered n items) in
      let long = length-numbered n items in
      let distinct = fresh (place low) same_loc (λ a b. a ≢ b) (λ a b h. place_differs low b a (differs b a (λ e. h (sym e)))) f.params [] (λ k d lt. refl) good.distinct in
      let goods = blocks_good regs f.regs enough words funcs at (length f.blocks) p.funcs
      (λ l lt. let h = start_within low places at f.blocks l lt in below (at l) words (omega arith))
      called (λ g k h. args_few (slice_get p.funcs g) g k refl h) places f.blocks good.blocks in
      rw (func_within f.params f.regs good.params, params_differ low f.params [] distinct, name_kept f.name good.named, new, sizes_good n f slots good)
      (one_each_kept width regs units (let h = table.some_unit in let w = table.units_fit in let a = h Alu in let b = w Alu in omega arith) table.some_unit
      (scope_of (limits width regs units) funcs (func_from low places n f)) n (suc line) items numbers one numbers_are goods (well f.blocks at good.entry))

  funcs_kept : (n line : ℕ) (fs : List TacFunc) (names : List (List ℕ)) (numbers : List ℕ) → 1 ≤ n → AllBelow n numbers → Fresh (λ (f : TacFunc). f.name) bytes_eq fs names → All (λ (f : TacFunc). f.regs - low ≤ 1048576) fs → All (IsGoodFunc (length places) p.funcs) fs → of_funcs (limits width regs units) funcs names numbers line (funcs_from low places n fs) ≡ []
  funcs_kept n line [] names numbers one numbers_are new slots good = refl
  funcs_kept n line (f ∷ fs) names numbers one numbers_are (OneFresh g gs seen new more) slots good =
      let items = func_items low places f in
      ap₂ (λ a b. a ++ b)
      (func_kept n line f names numbers one numbers_are new (All-head (λ (f : TacFunc). f.regs - low ≤ 1048576) f fs slots) (All-head (IsGoodFunc (length places) p.funcs) f fs good))
      (funcs_kept (n + length items) (line + lines_of_func (func_from low places n f)) fs (names ++ f.name ∷ []) (numbers ++ numbers_in (numbered n items)) (omega arith)
      (below_behind (n + length items) numbers (numbers_in (numbered n items)) (below_more n (n + length items) numbers (omega arith) numbers_are) (numbers_below n items))
      more (All-tail (λ (f : TacFunc). f.regs - low ≤ 1048576) f fs slots) (All-tail (IsGoodFunc (length places) p.funcs) f fs good))

  -- ---- `main`

  entry_there : (n : ℕ) (fs : List TacFunc) (i : ℕ) (f : TacFunc) → slice_get fs i ≡ Some f → IsMain f → list_any is_entry (funcs_from low places n fs) ≡ true
  entry_there n [] i f e main = cc
  entry_there n (g ∷ fs) zero f e main =
      let same : g ≡ f = cc in
      let named : is_main (func_from low places n g) ≡ true = subst (λ name. bytes_eq name (codes "main") ≡ true) (sym (ap (λ (h : TacFunc). h.name) same ∙ main.0)) refl in
      let bare : g.params ≡ [] = ap (λ (h : TacFunc). h.params) same ∙ main.1 in
      rw (named, bare) refl
  entry_there n (g ∷ fs) (suc i) f e main = or_true (is_entry (func_from low places n g)) _ (entry_there (n + length (func_items low places g)) fs i f e main)
    where
      or_true : (a b : Bool) → b ≡ true → (a || b) ≡ true
      or_true true b h = refl
      or_true false b h = h

  pub plain_valid : IsValidCode (limits width regs units) (plain regs p)
  unfolding plain broken_rules
  plain_valid =
      let small = valid.small in
      let image : nat_le (length p.image) 524288 ≡ true = grind (arith, nat_tests) in
      let main = valid.main in
      let there : slice_get p.funcs main.0 ≡ Some main.1 = slice_get-get_or p.funcs main.0 main.1 main.2 ∙ ap Some main.3 in
      let code : RawCode = record { image = p.image; funcs = funcs } in
      let names = fresh (λ (f : TacFunc). f.name) bytes_eq (λ f g. f.name ≢ g.name) (λ f g h. other_name g.name f.name (λ e. h (sym e))) p.funcs [] (λ k d lt. refl) valid.differ in
      rw (image, entry_there 1 p.funcs main.0 main.1 there main.4)
      (rw (funcs_kept 1 (first_func_line code) p.funcs [] [] (omega arith) NoneBelow names few valid.each) refl)
