-- How deep the tokens nest, counted from the tokens alone, whether or not they are phrases.
use Rattle.std.specs.Prelude.{ℕ, ◌+◌, ◌-◌, Bool, true, false, List, [], ◌∷◌, Option, Some, None, if◌then◌else◌, nat_lt}
use Rattle.ib_meaning.specs.declared.place.Place.{Place}
use Rattle.c_ast.specs.declared.mark.Mark.{Mark}
use Rattle.c_ast.specs.declared.mark.Mark.TheVariants as m
use Rattle.c_ast.specs.declared.keyword.Keyword.{Keyword}
use Rattle.c_ast.specs.declared.keyword.Keyword.TheVariants as k
use Rattle.c_ast.specs.declared.token.Tok.{Tok}
use Rattle.c_ast.specs.declared.token.Tok.TheVariants as t
use Rattle.c_ast.specs.declared.token.Token.{Token}

-- the greatest nesting that is taken
abbrev pub most_nesting : ℕ
most_nesting = 200

-- A count, what `;` takes it back to, what `,` takes it back to, its open `do`s,
-- and whether a `(` directly after a name, `if`, `while` or `for` pushed it.
pub data Count : Type 0 where
  counted : (count base floor dos : ℕ) (headed : Bool) → Count

abbrev pub count_of : Count → ℕ
count_of (counted count base floor dos headed) = count

abbrev pub added : Count → Count
added (counted count base floor dos headed) = counted (count + 1) base floor dos headed

abbrev pub to_base : Count → Count
to_base (counted count base floor dos headed) = counted base base base dos headed

abbrev pub to_floor : Count → Count
to_floor (counted count base floor dos headed) = counted floor base floor dos headed

-- what `if`, `while` and `for` do, and `do`
abbrev pub headed_by : Count → Count
headed_by (counted count base floor dos headed) = counted (count + 1) base (count + 1) dos headed

abbrev pub opened_do : Count → Count
opened_do (counted count base floor dos headed) = counted (count + 1) base (count + 1) (dos + 1) headed

abbrev pub closed_do : Count → Count
closed_do (counted count base floor dos headed) = counted count base floor (dos - 1) headed

abbrev pub has_do : Count → Bool
has_do (counted count base floor dos headed) = nat_lt 0 dos

abbrev pub is_headed : Count → Bool
is_headed (counted count base floor dos headed) = headed

-- the count that is pushed on this one
abbrev pub pushed : Bool → Count → Count
pushed headed (counted count base floor dos _) = counted (count + 1) (count + 1) (count + 1) 0 headed

pub record Counts : Type 0 where
  pub top : Count
  pub below : List Count

-- what may follow a statement's end
pub data Next : Type 0 where
  an_else : Next
  a_while : Next
  another : Next

abbrev pub next_kind : Tok → Next
next_kind (t.Word k.Else) = an_else
next_kind (t.Word k.While) = a_while
next_kind _ = another

abbrev pub next_of : List Token → Next
next_of [] = another
next_of (token ∷ rest) = next_kind token.kind

-- what `;` does
abbrev pub ended : Next → Count → Count
ended an_else c = c
ended a_while c = if has_do c then closed_do c else to_base c
ended another c = to_base c

abbrev pub push : Bool → Counts → Counts
push headed c = record { top = pushed headed c.top; below = c.top ∷ c.below }

abbrev pub pop : (Count → Count → Count) → Counts → Counts
pop change c = elim (c.below) [ [] ↦ c | new ∷ rest ↦ record { top = change c.top new; below = rest } ]

abbrev pub with_top : (Count → Count) → Counts → Counts
with_top change c = record { top = change c.top; below = c.below }

-- `headed`: a name, `if`, `while` or `for` stands directly before
abbrev pub after_mark : Mark → Bool → Next → Counts → Counts
after_mark m.LeftParen headed next c = push headed c
after_mark m.LeftBracket headed next c = push false c
after_mark m.LeftBrace headed next c = push false c
after_mark m.Question headed next c = push false c
after_mark m.RightBracket headed next c = pop (λ old new. added new) c
after_mark m.Colon headed next c = pop (λ old new. added new) c
after_mark m.RightParen headed next c = pop (λ old new. if is_headed old then new else added new) c
after_mark m.RightBrace headed next c = pop (λ old new. ended next new) c
after_mark m.Semicolon headed next c = with_top (ended next) c
after_mark m.Comma headed next c = with_top to_floor c
after_mark _ headed next c = with_top added c

abbrev pub after_word : Keyword → Counts → Counts
after_word k.If c = with_top headed_by c
after_word k.While c = with_top headed_by c
after_word k.For c = with_top headed_by c
after_word k.Do c = with_top opened_do c
after_word _ c = c

abbrev pub after_kind : Tok → Bool → Next → Counts → Counts
after_kind (t.Mark mark) headed next c = after_mark mark headed next c
after_kind (t.Word word) headed next c = after_word word c
after_kind _ headed next c = c

-- whether a `(` directly behind the token opens the parentheses of a call, a function or a statement's head
abbrev pub heads : Tok → Bool
heads (t.Name n) = true
heads (t.Word k.If) = true
heads (t.Word k.While) = true
heads (t.Word k.For) = true
heads _ = false

-- the count on top after each token
abbrev pub tops : Bool → Counts → List Token → List ℕ
tops headed c [] = []
tops headed c (token ∷ rest) =
    let after = after_kind token.kind headed (next_of rest) c in
    count_of after.top ∷ tops (heads token.kind) after rest

abbrev pub at_start : Counts
at_start = record { top = counted 0 0 0 0 false; below = [] }

abbrev pub nestings : List Token → List ℕ
nestings tokens = tops false at_start tokens

-- the place of the first token with a count above the limit
abbrev pub first_deep : List Token → List ℕ → Option Place
first_deep (token ∷ rest) (n ∷ ns) = if nat_lt most_nesting n then Some token.place else first_deep rest ns
first_deep _ _ = None

abbrev pub too_deep : List Token → Option Place
too_deep tokens = first_deep tokens (nestings tokens)
