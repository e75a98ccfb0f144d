-- Rows of code, seen as lists.
use Rattle.std.proofs.Common.{◌≡◌, ℕ, suc, ◌+◌, ◌*◌, ◌<◌, List, [], ◌∷◌, map, ap, sym, ◌∙◌, refl, rules, arith, Vec, Box, Global, Bool, true, false}
use Rattle.std.specs.Prelude.{◌&&◌}
use Rattle.std.specs.List.{list_all}
use Rattle.tac_code.specs.declared.code.Code.{Code, Row, Row_of-Code, end_of-Code, more_of-Code, items-the_row-Code, the_lemmas}
use Rattle.tac_lowered.specs.Code as plain
use Rattle.tac_lowered.specs.Code.{◌⨾◌}
use Rattle.tac_lowered.specs.Expressions.{is_empty}
use Rattle.tac_code.specs.Views.{code_of, row_code, nested}
use Rattle.tac_code.specs.Parts.{parts, row_parts, list_parts}

pub row_items : (m : _) (row : Row_of-Code m) (last : plain.Code) → row_code row last ≡ nested (map code_of (items-the_row-Code m row)) last
row_items m end_of-Code last = refl
row_items m (more_of-Code {n = k} x rest) last = ap (λ b. code_of x ⨾ b) (row_items k rest last)

pub row_counted : (m : _) (row : Row_of-Code m) → row_parts row ≡ list_parts (items-the_row-Code m row)
row_counted m end_of-Code = refl
row_counted m (more_of-Code {n = k} x rest) = ap (λ n. parts x + n) (row_counted k rest)

-- what a row is, and how many parts it has
pub view_row : (first : Vec Code Global) (last : Box Code Global) → code_of (Row first last) ≡ nested (map code_of first.items) (code_of last.value)
view_row first last = search (rules, the_lemmas, row_items)

pub parts_row : (first : Vec Code Global) (last : Box Code Global) → parts (Row first last) ≡ suc (list_parts first.items + parts last.value)
parts_row first last = search (rules, the_lemmas, row_counted)

pub nested_empty : (all : List Code) (last : plain.Code) → is_empty (nested (map code_of all) last) ≡ (list_all is_empty (map code_of all) && is_empty last)
nested_empty [] last = refl
nested_empty (a ∷ rest) last =
    if_empty (is_empty (code_of a)) (is_empty (nested (map code_of rest) last)) (list_all is_empty (map code_of rest)) (is_empty last) (nested_empty rest last)
  where
    if_empty : (b x y z : Bool) → x ≡ (y && z) → (b && x) ≡ ((b && y) && z)
    if_empty true x y z e = e
    if_empty false x y z e = refl

pub row_empty : (code : Code) (list : List Code) (a : Code) (first : Vec Code Global) (last : Box Code Global) → code ≡ Row first last → list ≡ first.items → a ≡ last.value →
    is_empty (code_of code) ≡ (list_all is_empty (map code_of list) && is_empty (code_of a))
row_empty code list a first last is same at =
    ap (λ c. is_empty (code_of c)) is ∙ ap is_empty (view_row first last) ∙ nested_empty first.items (code_of last.value)
    ∙ ap (λ l. list_all is_empty (map code_of l) && is_empty (code_of last.value)) (sym same) ∙ ap (λ c. list_all is_empty (map code_of list) && is_empty (code_of c)) (sym at)

-- a walk over a row goes on to less
pub first_fewer : (code : Code) (list : List Code) (first : Vec Code Global) (last : Box Code Global) → code ≡ Row first last → list ≡ first.items → 2 * list_parts list + 1 < 2 * parts code
first_fewer code list first last is same =
    let e1 : parts code ≡ suc (list_parts first.items + parts last.value) = ap parts is ∙ parts_row first last in
    let e2 : list_parts list ≡ list_parts first.items = ap list_parts same in
    omega (arith, e1, e2)

pub last_fewer : (code a : Code) (first : Vec Code Global) (last : Box Code Global) → code ≡ Row first last → a ≡ last.value → 2 * parts a < 2 * parts code
last_fewer code a first last is at =
    let e1 : parts code ≡ suc (list_parts first.items + parts last.value) = ap parts is ∙ parts_row first last in
    let e2 : parts a ≡ parts last.value = ap parts at in
    omega (arith, e1, e2)
