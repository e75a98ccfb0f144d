-- Words with one operation each, whose numbers rise, break no rule where each operation is good.
use Rattle.std.proofs.Common.{◌≡◌, ℕ, suc, ◌+◌, ◌<◌, ◌≤◌, ◌==◌, nat_lt, nat_le, Bool, true, false, List, [], ◌∷◌, ◌++◌, length, if◌then◌else◌, refl, sym, ap, ap₂, ◌∙◌, subst, arith, append_assoc, append-nil, length-append}
use Rattle.std.specs.List.{list_all, list_any}
use Rattle.std.proofs.lemmas.Bool.Decides.{nat_tests}
use Rattle.machine_desc.specs.declared.machine.OpClass.{OpClass}
use Rattle.machine_desc.specs.declared.machine.OpClass.TheVariants.{Alu, Mul, Mem, Io, Control}
use Rattle.wide_core.specs.declared.code.WideAct.{WideAct}
use Rattle.wide_core.specs.declared.code.WideOp.{WideOp}
use Rattle.wide_core.specs.Classes.{class_of, ends}
use Rattle.wide_core.specs.Cycle.{touched}
use Rattle.wide_core.specs.Valid.{limits, Scope, is_within, goes_within, calls_well, has_good_number, of_ops, same_class, has_units, fits_word, numbers_in, is_last, lines_of_word, of_word, of_words}
use Rattle.plain_code.specs.Plain.{Item, numbered}

-- ---- numbers that are below a number

pub data AllBelow (n : ℕ) : List ℕ → Type 0 where
  NoneBelow : AllBelow n []
  MoreBelow : (x : ℕ) (xs : List ℕ) → x < n → AllBelow n xs → AllBelow n (x ∷ xs)

pub below_more : (n m : ℕ) (xs : List ℕ) → n ≤ m → AllBelow n xs → AllBelow m xs
below_more n m [] le NoneBelow = NoneBelow
below_more n m (x ∷ xs) le (MoreBelow y ys lt h) = MoreBelow x xs (omega arith) (below_more n m xs le h)

pub below_behind : (n : ℕ) (xs ys : List ℕ) → AllBelow n xs → AllBelow n ys → AllBelow n (xs ++ ys)
below_behind n [] ys NoneBelow h = h
below_behind n (x ∷ xs) ys (MoreBelow z zs lt g) h = MoreBelow x (xs ++ ys) lt (below_behind n xs ys g h)

new_number : (n : ℕ) (xs : List ℕ) → AllBelow n xs → list_any (λ number. n == number) xs ≡ false
new_number n [] NoneBelow = refl
new_number n (x ∷ xs) (MoreBelow y ys lt h) =
    let e : (n == x) ≡ false = grind (arith, nat_tests) in rw e (new_number n xs h)

pub numbers_below : (n : ℕ) (xs : List Item) → AllBelow (n + length xs) (numbers_in (numbered n xs))
numbers_below n [] = NoneBelow
numbers_below n (x ∷ xs) =
    let e : suc n + length xs ≡ n + suc (length xs) = omega arith in
    MoreBelow n (numbers_in (numbered (suc n) xs)) (omega arith) (subst (λ m. AllBelow m (numbers_in (numbered (suc n) xs))) e (numbers_below (suc n) xs))

pub length-numbered : (n : ℕ) (xs : List Item) → length (numbered n xs) ≡ length xs
length-numbered n [] = refl
length-numbered n (x ∷ xs) = ap suc (length-numbered (suc n) xs)

-- ---- lists that end with a jump, a call or a return

pub record EndsWell (xs : List Item) : Type 0 where
  pub front : List Item
  pub last : Item
  pub is : xs ≡ front ++ last ∷ []
  pub leaves : ends last.act ≡ true

pub ends_behind : (xs ys : List Item) → EndsWell ys → EndsWell (xs ++ ys)
ends_behind xs ys h = record {
  front = xs ++ h.front;
  last = h.last;
  is = ap (λ z. xs ++ z) h.is ∙ sym (append_assoc xs h.front (h.last ∷ []));
  leaves = h.leaves;
}

pub ends_before_none : (xs : List Item) → EndsWell xs → EndsWell (xs ++ [])
ends_before_none xs h = subst EndsWell (sym (append-nil xs)) h

pub ends_one : (xs : List Item) (x : Item) → ends x.act ≡ true → EndsWell (xs ++ x ∷ [])
ends_one xs x e = record { front = xs; last = x; is = refl; leaves = e }

pub ends_long : (xs : List Item) → EndsWell xs → 1 ≤ length xs
ends_long xs h = subst (λ n. 1 ≤ n) (sym (ap length h.is ∙ length-append h.front (h.last ∷ []))) (omega arith)

-- behind each operation but the last stands another
abbrev Leaves : List Item → Type 0
Leaves [] = Unit {0}
Leaves (x ∷ xs) = (xs ≡ [] → ends x.act ≡ true) × Leaves xs

leaves_of : (front : List Item) (last : Item) → ends last.act ≡ true → Leaves (front ++ last ∷ [])
leaves_of [] last e = (λ none. e, tt)
leaves_of (x ∷ []) last e = (λ none. cc, leaves_of [] last e)
leaves_of (x ∷ y ∷ front) last e = (λ none. cc, leaves_of (y ∷ front) last e)

-- ---- good operations

pub record IsGood (scope : Scope) (act : WideAct) : Type 0 where
  pub within : list_all (is_within scope.regs scope.slots) (touched act) ≡ true
  pub goes : goes_within scope.words act ≡ true
  pub calls : calls_well scope.funcs act ≡ true
  pub number : has_good_number act ≡ true

pub data AllGood (scope : Scope) : List Item → Type 0 where
  NoneGood : AllGood scope []
  MoreGood : (x : Item) (xs : List Item) → IsGood scope x.act → AllGood scope xs → AllGood scope (x ∷ xs)

pub good_behind : (scope : Scope) (xs ys : List Item) → AllGood scope xs → AllGood scope ys → AllGood scope (xs ++ ys)
good_behind scope [] ys NoneGood h = h
good_behind scope (x ∷ xs) ys (MoreGood z zs g gs) h = MoreGood x (xs ++ ys) g (good_behind scope xs ys gs h)

module _ (width regs : ℕ) (units : OpClass → ℕ) (wide : 1 ≤ width) (some_unit : (class : OpClass) → 1 ≤ units class) (scope : Scope) where
  abbrev op : ℕ → Item → WideOp
  op n x = record { number = n; home = x.home; flagged = false; act = x.act }

  has_unit : (x : WideOp) (class : OpClass) → has_units (limits width regs units) (x ∷ []) class ≡ true
  has_unit x class = by (same_class class (class_of x.act))
    where
      by : (b : Bool) → nat_le (if b then 1 else 0) (units class) ≡ true
      by true = let h = some_unit class in grind (arith, nat_tests)
      by false = grind (arith, nat_tests)

  fits_one : (x : WideOp) → fits_word (limits width regs units) (x ∷ []) ≡ true
  fits_one x =
      let w : nat_le 1 width ≡ true = grind (arith, nat_tests) in
      rw (w, has_unit x Alu, has_unit x Mul, has_unit x Mem, has_unit x Io, has_unit x Control) refl

  op_kept : (n line : ℕ) (x : Item) (numbers : List ℕ) → 1 ≤ n → AllBelow n numbers → IsGood scope x.act → of_ops scope numbers [] line (op n x ∷ []) ≡ []
  op_kept n line x numbers one below good =
      let positive : nat_lt 0 n ≡ true = grind (arith, nat_tests) in
      rw (good.within, good.goes, good.calls, good.number, positive, new_number n numbers below) refl

  word_kept : (n line : ℕ) (last : Bool) (x : Item) (numbers : List ℕ) → 1 ≤ n → AllBelow n numbers → IsGood scope x.act → (last ≡ true → ends x.act ≡ true) → of_word (limits width regs units) scope numbers line last (op n x ∷ []) ≡ []
  word_kept n line true x numbers one below good leaves =
      rw (fits_one (op n x), leaves refl) (op_kept n (suc line) x numbers one below good)
  word_kept n line false x numbers one below good leaves = rw (fits_one (op n x)) (op_kept n (suc line) x numbers one below good)

  words_kept : (n line : ℕ) (xs : List Item) (numbers : List ℕ) → 1 ≤ n → AllBelow n numbers → AllGood scope xs → Leaves xs → of_words (limits width regs units) scope numbers line (numbered n xs) ≡ []
  words_kept n line [] numbers one below NoneGood leaves = refl
  words_kept n line (x ∷ xs) numbers one below (MoreGood y ys good goods) leaves =
      ap₂ (λ a b. a ++ b)
      (word_kept n line (is_last (numbered (suc n) xs)) x numbers one below good (λ e. leaves.0 (none_left xs e)))
      (words_kept (suc n) (line + lines_of_word (record { ops = op n x ∷ [] })) xs (numbers ++ n ∷ []) (omega arith)
      (below_behind (suc n) numbers (n ∷ []) (below_more n (suc n) numbers (omega arith) below) (MoreBelow n [] (omega arith) NoneBelow)) goods leaves.1)
    where
      none_left : (zs : List Item) → is_last (numbered (suc n) zs) ≡ true → zs ≡ []
      none_left [] e = refl
      none_left (z ∷ zs) e = cc

  pub one_each_kept : (n line : ℕ) (xs : List Item) (numbers : List ℕ) → 1 ≤ n → AllBelow n numbers → AllGood scope xs → EndsWell xs → of_words (limits width regs units) scope numbers line (numbered n xs) ≡ []
  one_each_kept n line xs numbers one below good well =
      words_kept n line xs numbers one below good (subst Leaves (sym well.is) (leaves_of well.front well.last well.leaves))
