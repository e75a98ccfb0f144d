-- The counts of the code as plain data.
use Rattle.std.specs.Prelude.{ℕ, ◌≤◌, List, [], ◌∷◌, Bool, true, false, if◌then◌else◌}
use Rattle.c_nesting.specs.declared.nesting.Count.{Count}
use Rattle.c_nesting.specs.declared.nesting.Below.{Below}
use Rattle.c_nesting.specs.declared.nesting.Below as b
use Rattle.c_nesting.specs.declared.nesting.Counts.{Counts}
use Rattle.c_nesting.specs.declared.nesting.Next.{Next}
use Rattle.c_nesting.specs.declared.nesting.Next.TheVariants as n
use Rattle.c_ast.specs.Nesting as N

abbrev pub count_of : Count → N.Count
count_of c = N.counted c.count c.base c.floor c.dos c.headed

abbrev pub below_of : Below → List N.Count
below_of b.Bottom = []
below_of (b.Over' c _ rest) = count_of c ∷ below_of rest

abbrev pub counts_of : Counts → N.Counts
counts_of c = record { top = count_of c.top; below = below_of c.below }

abbrev pub next_in : Next → N.Next
next_in n.Else = N.an_else
next_in n.While = N.a_while
next_in n.Another = N.another

-- what `]` and `:` do, and what `)` does
abbrev pub popped : Bool → N.Counts → N.Counts
popped true c = N.pop (λ old new. N.added new) c
popped false c = N.pop (λ old new. if N.is_headed old then new else N.added new) c

-- a count and its open `do`s, none of them above n
abbrev pub IsWithin : ℕ → N.Count → Type 0
IsWithin n (N.counted count base floor dos headed) = (count ≤ n) × ((base ≤ n) × ((floor ≤ n) × (dos ≤ n)))

abbrev pub AllWithin : ℕ → List N.Count → Type 0
AllWithin n [] = Unit
AllWithin n (c ∷ cs) = IsWithin n c × AllWithin n cs

pub record AreWithin (n : ℕ) (c : N.Counts) : Type 0 where
  pub top : IsWithin n c.top
  pub below : AllWithin n c.below

-- the greatest number that, with one more, is still a `usize`
abbrev pub most_grown : ℕ
most_grown = 18446744073709551614
