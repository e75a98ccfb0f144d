-- What is kept where no rule is broken.
use Rattle.std.proofs.Common.{Some, ◌≡◌, ℕ, zero, suc, nat_lt, get_or, Bool, true, false, not, cond, ◌&&◌, ◌==◌, List, [], ◌∷◌, ◌++◌, None, refl, slice_get, ◌||◌, ◌+◌, nat_le, length, drop, subst}
use Rattle.std.specs.List.{list_all, list_any}
use Rattle.wide_core.specs.declared.code.WideOp.{WideOp}
use Rattle.wide_core.specs.declared.code.Word.{Word}
use Rattle.wide_core.specs.declared.code.WideFunc.{WideFunc}
use Rattle.wide_core.specs.declared.code.RawCode.{RawCode}
use Rattle.wide_core.specs.Classes.{is_register}
use Rattle.wide_core.specs.Cycle.{touched}
use Rattle.wide_core.specs.declared.rule.Rule.{Rule}
use Rattle.wide_core.specs.declared.rule.BrokenRule.{BrokenRule}
use Rattle.wide_core.specs.Valid.{Limits, Scope, IsValid, always_leaves, broken, broken_rules, calls_well, first_func_line, fits_word, goes_within, has_good_sizes, image_line, is_entry, is_last, is_within, lines_of_func, lines_of_word, notes_line, numbers_in, numbers_of, of_func, of_funcs, of_ops, of_word, of_words, rule, rules_of_func, rules_of_op, rules_of_word, scope_of}
use Rattle.wide_core.proofs.Both.{both, both_first, both_second}

pub none_first : {T : Type 0} (xs : List T) → slice_get xs 0 ≡ None → xs ≡ []
none_first [] e = refl
none_first (x ∷ xs) e = cc

pub no_left : {T : Type 0} (xs ys : List T) → xs ++ ys ≡ [] → xs ≡ []
no_left [] ys e = refl
no_left (x ∷ xs) ys e = cc

pub no_right : {T : Type 0} (xs ys : List T) → xs ++ ys ≡ [] → ys ≡ []
no_right [] ys e = e
no_right (x ∷ xs) ys e = cc

-- where none of a line's rules is broken, all are kept
pub all_kept : (line : ℕ) (rules : List Rule) → broken line rules ≡ [] → list_all (λ (rule : Rule). rule.kept) rules ≡ true
all_kept line [] e = refl
all_kept line (rule ∷ rules) e = by_one rule.kept (all_kept line rules) e
  where
    by_one : (b : Bool) → (broken line rules ≡ [] → list_all (λ (r : Rule). r.kept) rules ≡ true) → cond b (broken line rules) (record { line = line; rule = rule.number } ∷ broken line rules) ≡ [] → (b && list_all (λ (r : Rule). r.kept) rules) ≡ true
    by_one true rest h = rest h
    by_one false rest h = cc

pub kept_at : (rules : List Rule) (i : ℕ) → list_all (λ (rule : Rule). rule.kept) rules ≡ true → (get_or rules i (rule 0 true)).kept ≡ true
kept_at [] i h = refl
kept_at (r ∷ rs) zero h = both_first r.kept _ h
kept_at (r ∷ rs) (suc i) h = kept_at rs i (both_second r.kept _ h)

pub new_number : (scope : Scope) (numbers : List ℕ) (earlier : List WideOp) (op : WideOp) (line : ℕ) → slice_get (broken line (rules_of_op scope numbers earlier op)) 0 ≡ None → not (list_any (λ number. op.number == number) numbers) ≡ true
new_number scope numbers earlier op line e =
    both_second (nat_lt 0 op.number) _ (kept_at (rules_of_op scope numbers earlier op) 5 (all_kept line (rules_of_op scope numbers earlier op) (none_first _ e)))

-- ---- what the machine needs of an operation, a word and a function

-- an operation names what is there, and is flagged only where it may be
abbrev pub op_kept : Scope → WideOp → Bool
op_kept scope op =
    list_all (is_within scope.regs scope.slots) (touched op.act) && goes_within scope.words op.act && calls_well scope.funcs op.act && (not op.flagged || is_register op.act)

one_kept : (scope : Scope) (numbers : List ℕ) (earlier : List WideOp) (line : ℕ) (op : WideOp) → broken line (rules_of_op scope numbers earlier op) ≡ [] → op_kept scope op ≡ true
one_kept scope numbers earlier line op none =
    let all = all_kept line (rules_of_op scope numbers earlier op) none in
    both _ _ (both _ _ (both _ _ (kept_at (rules_of_op scope numbers earlier op) 0 all) (kept_at (rules_of_op scope numbers earlier op) 2 all)) (kept_at (rules_of_op scope numbers earlier op) 3 all)) (kept_at (rules_of_op scope numbers earlier op) 4 all)

ops_kept : (scope : Scope) (numbers : List ℕ) (earlier : List WideOp) (line : ℕ) (ops : List WideOp) → of_ops scope numbers earlier line ops ≡ [] → list_all (op_kept scope) ops ≡ true
ops_kept scope numbers earlier line [] none = refl
ops_kept scope numbers earlier line (op ∷ ops) none =
    let here = broken line (rules_of_op scope numbers earlier op) in
    let rest = of_ops scope (numbers ++ op.number ∷ []) (earlier ++ op ∷ []) (suc line) ops in
    both (op_kept scope op) _ (one_kept scope numbers earlier line op (no_left here rest none)) (ops_kept scope (numbers ++ op.number ∷ []) (earlier ++ op ∷ []) (suc line) ops (no_right here rest none))

-- a word: so many operations, each kept, and control never goes on behind the last word
pub record WordKept (limits : Limits) (scope : Scope) (last : Bool) (ops : List WideOp) : Type 0 where
  pub few : fits_word limits ops ≡ true
  pub ops_are : list_all (op_kept scope) ops ≡ true
  pub leaves : last ≡ true → list_any always_leaves ops ≡ true

word_kept : (limits : Limits) (scope : Scope) (numbers : List ℕ) (line : ℕ) (last : Bool) (ops : List WideOp) → of_word limits scope numbers line last ops ≡ [] → WordKept limits scope last ops
word_kept limits scope numbers line last ops none =
    let rules = rules_of_word limits last ops in
    let all = all_kept line rules (no_left (broken line rules) (of_ops scope numbers [] (suc line) ops) none) in
    record {
      few = kept_at rules 0 all;
      ops_are = ops_kept scope numbers [] (suc line) ops (no_right (broken line rules) (of_ops scope numbers [] (suc line) ops) none);
      leaves = λ is. last_leaves last (list_any always_leaves ops) is (kept_at rules 1 all);
    }
  where
    last_leaves : (l any : Bool) → l ≡ true → (not l || any) ≡ true → any ≡ true
    last_leaves true any is h = h
    last_leaves false any is h = cc

words_kept : (limits : Limits) (scope : Scope) (numbers : List ℕ) (line : ℕ) (words : List Word) → of_words limits scope numbers line words ≡ [] → (k : ℕ) (word : Word) → slice_get words k ≡ Some word → WordKept limits scope (is_last (drop (suc k) words)) word.ops
words_kept limits scope numbers line [] none k word at = cc
words_kept limits scope numbers line (w ∷ words) none zero word at =
    let same : w ≡ word = cc in
    subst (λ (x : Word). WordKept limits scope (is_last words) x.ops) same
    (word_kept limits scope numbers line (is_last words) w.ops (no_left (of_word limits scope numbers line (is_last words) w.ops) (of_words limits scope (numbers ++ numbers_of w.ops) (line + lines_of_word w) words) none))
words_kept limits scope numbers line (w ∷ words) none (suc k) word at =
    words_kept limits scope (numbers ++ numbers_of w.ops) (line + lines_of_word w) words (no_right (of_word limits scope numbers line (is_last words) w.ops) (of_words limits scope (numbers ++ numbers_of w.ops) (line + lines_of_word w) words) none) k word at

-- a function: its parameters are its own places, its sizes are good, and so are its words
pub record FuncKept (limits : Limits) (all : List WideFunc) (func : WideFunc) : Type 0 where
  pub params : list_all (is_within limits.regs func.slots) func.params ≡ true
  pub sizes : has_good_sizes func ≡ true
  pub words_are : (k : ℕ) (word : Word) → slice_get func.words k ≡ Some word → WordKept limits (scope_of limits all func) (is_last (drop (suc k) func.words)) word.ops

one_func : (limits : Limits) (all : List WideFunc) (names : List (List ℕ)) (numbers : List ℕ) (line : ℕ) (func : WideFunc) → of_func limits all names numbers line func ≡ [] → FuncKept limits all func
one_func limits all names numbers line func none =
    let rules = rules_of_func limits names func in
    let words = of_words limits (scope_of limits all func) numbers (suc line) func.words in
    let kept = all_kept line rules (no_left (broken line rules) words none) in
    record {
      params = kept_at rules 0 kept;
      sizes = kept_at rules 3 kept;
      words_are = words_kept limits (scope_of limits all func) numbers (suc line) func.words (no_right (broken line rules) words none);
    }

funcs_kept : (limits : Limits) (all : List WideFunc) (names : List (List ℕ)) (numbers : List ℕ) (line : ℕ) (funcs : List WideFunc) → of_funcs limits all names numbers line funcs ≡ [] → (f : ℕ) (func : WideFunc) → slice_get funcs f ≡ Some func → FuncKept limits all func
funcs_kept limits all names numbers line [] none f func at = cc
funcs_kept limits all names numbers line (g ∷ funcs) none zero func at =
    let same : g ≡ func = cc in
    subst (λ (x : WideFunc). FuncKept limits all x) same
    (one_func limits all names numbers line g (no_left (of_func limits all names numbers line g) (of_funcs limits all (names ++ g.name ∷ []) (numbers ++ numbers_in g.words) (line + lines_of_func g) funcs) none))
funcs_kept limits all names numbers line (g ∷ funcs) none (suc f) func at =
    funcs_kept limits all (names ++ g.name ∷ []) (numbers ++ numbers_in g.words) (line + lines_of_func g) funcs (no_right (of_func limits all names numbers line g) (of_funcs limits all (names ++ g.name ∷ []) (numbers ++ numbers_in g.words) (line + lines_of_func g) funcs) none) f func at

abbrev in_image : RawCode → List BrokenRule
in_image code = broken image_line (rule 9 (nat_le (length code.image) 524288) ∷ [])

abbrev in_funcs : Limits → RawCode → List BrokenRule
in_funcs limits code = of_funcs limits code.funcs [] [] (first_func_line code) code.funcs

abbrev in_notes : RawCode → List BrokenRule
in_notes code = broken (notes_line code) (rule 8 (list_any is_entry code.funcs) ∷ [])

module _ (limits : Limits) (code : RawCode) (valid : IsValid limits code) where
  parts_of : in_image code ++ in_funcs limits code ++ in_notes code ≡ []
  unfolding broken_rules
  parts_of = valid

  pub func_kept : (f : ℕ) (func : WideFunc) → slice_get code.funcs f ≡ Some func → FuncKept limits code.funcs func
  func_kept = funcs_kept limits code.funcs [] [] (first_func_line code) code.funcs (no_right (in_image code) (in_funcs limits code) (no_left (in_image code ++ in_funcs limits code) (in_notes code) parts_of))

  pub image_kept : nat_le (length code.image) 524288 ≡ true
  image_kept =
      kept_at (rule 9 (nat_le (length code.image) 524288) ∷ []) 0
      (all_kept image_line (rule 9 (nat_le (length code.image) 524288) ∷ []) (no_left (in_image code) (in_funcs limits code) (no_left (in_image code ++ in_funcs limits code) (in_notes code) parts_of)))

  pub entry_kept : list_any is_entry code.funcs ≡ true
  entry_kept =
      kept_at (rule 8 (list_any is_entry code.funcs) ∷ []) 0
      (all_kept (notes_line code) (rule 8 (list_any is_entry code.funcs) ∷ []) (no_right (in_image code ++ in_funcs limits code) (in_notes code) parts_of))
