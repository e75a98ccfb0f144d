-- Names in scopes within scopes: what each definition says of them, worked.
use Rattle.std.proofs.Common.{◌≡◌, refl, ℕ, List, None, Some, true, false}
use Rattle.std.specs.Prelude.{codes}
use Rattle.c_scopes.specs.Scopes.{Scopes, outermost, entered, left, found, is_own, declared}

abbrev a : List ℕ
a = codes "a"

abbrev b : List ℕ
b = codes "b"

abbrev c : List ℕ
c = codes "c"

-- `a` means 1 and `b` means 2 outside; `b` means 3 within
abbrev outside : Scopes ℕ
outside = declared b 2 (declared a 1 outermost)

abbrev within : Scopes ℕ
within = declared b 3 (entered outside)

innermost_meaning_counts : found b within ≡ Some 3
innermost_meaning_counts = refl

outer_meaning_is_seen : found a within ≡ Some 1
outer_meaning_is_seen = refl

declared_nowhere : found c within ≡ None
declared_nowhere = refl

first_declaration_stays : found b (declared b 4 within) ≡ Some 3
first_declaration_stays = refl

outer_names_may_be_declared_again : is_own a within ≡ false
outer_names_may_be_declared_again = refl

own_names_may_not : is_own b within ≡ true
own_names_may_not = refl

closed_scope_is_forgotten : left within ≡ outside
closed_scope_is_forgotten = refl

outermost_stays_open : left outside ≡ outermost
outermost_stays_open = refl
