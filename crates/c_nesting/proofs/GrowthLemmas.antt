-- With one token the counts grow by no more than one.
use Rattle.std.proofs.Common.{ℕ, ◌+◌, ◌≤◌, List, [], ◌∷◌, Bool, true, false, arith}
use Rattle.std.specs.Prelude.{if◌then◌else◌}
use Rattle.c_ast.specs.declared.mark.Mark.{Mark}
use Rattle.c_ast.specs.declared.mark.Mark.TheVariants as m
use Rattle.c_ast.specs.declared.keyword.Keyword.{Keyword}
use Rattle.c_ast.specs.declared.keyword.Keyword.TheVariants as k
use Rattle.c_ast.specs.declared.token.Tok.{Tok}
use Rattle.c_ast.specs.declared.token.Tok.TheVariants as t
use Rattle.c_ast.specs.Nesting as N
use Rattle.c_nesting.specs.NestingViews.{IsWithin, AllWithin, AreWithin}

wider : (n m : ℕ) (c : N.Count) → n ≤ m → IsWithin n c → IsWithin m c
wider n m (N.counted count base floor dos headed) le h = (omega (arith, le, h), (omega (arith, le, h), (omega (arith, le, h), omega (arith, le, h))))

all_wider : (n m : ℕ) (cs : List N.Count) → n ≤ m → AllWithin n cs → AllWithin m cs
all_wider n m [] le h = tt
all_wider n m (c ∷ cs) le h = (wider n m c le h.0, all_wider n m cs le h.1)

pub are_wider : (n m : ℕ) (c : N.Counts) → n ≤ m → AreWithin n c → AreWithin m c
are_wider n m c le h = record { top = wider n m c.top le h.top; below = all_wider n m c.below le h.below }

more : (n : ℕ) (c : N.Count) → IsWithin n c → IsWithin (n + 1) c
more n c h = wider n (n + 1) c (omega arith) h

added : (n : ℕ) (c : N.Count) → IsWithin n c → IsWithin (n + 1) (N.added c)
added n (N.counted count base floor dos headed) h = (omega (arith, h), (omega (arith, h), (omega (arith, h), omega (arith, h))))

to_base : (n : ℕ) (c : N.Count) → IsWithin n c → IsWithin (n + 1) (N.to_base c)
to_base n (N.counted count base floor dos headed) h = (omega (arith, h), (omega (arith, h), (omega (arith, h), omega (arith, h))))

to_floor : (n : ℕ) (c : N.Count) → IsWithin n c → IsWithin (n + 1) (N.to_floor c)
to_floor n (N.counted count base floor dos headed) h = (omega (arith, h), (omega (arith, h), (omega (arith, h), omega (arith, h))))

headed_by : (n : ℕ) (c : N.Count) → IsWithin n c → IsWithin (n + 1) (N.headed_by c)
headed_by n (N.counted count base floor dos headed) h = (omega (arith, h), (omega (arith, h), (omega (arith, h), omega (arith, h))))

opened_do : (n : ℕ) (c : N.Count) → IsWithin n c → IsWithin (n + 1) (N.opened_do c)
opened_do n (N.counted count base floor dos headed) h = (omega (arith, h), (omega (arith, h), (omega (arith, h), omega (arith, h))))

closed_do : (n : ℕ) (c : N.Count) → IsWithin n c → IsWithin (n + 1) (N.closed_do c)
closed_do n (N.counted count base floor dos headed) h = (omega (arith, h), (omega (arith, h), (omega (arith, h), omega (arith, h))))

ended : (n : ℕ) (next : N.Next) (c : N.Count) → IsWithin n c → IsWithin (n + 1) (N.ended next c)
ended n N.an_else c h = more n c h
ended n N.another c h = to_base n c h
ended n N.a_while c h = by_dos (N.has_do c)
  where
    by_dos : (b : Bool) → IsWithin (n + 1) (if b then N.closed_do c else N.to_base c)
    by_dos true = closed_do n c h
    by_dos false = to_base n c h

pushed : (n : ℕ) (headed : Bool) (c : N.Count) → IsWithin n c → IsWithin (n + 1) (N.pushed headed c)
pushed n headed (N.counted count base floor dos was) h = (omega (arith, h), (omega (arith, h), (omega (arith, h), omega arith)))

push : (n : ℕ) (headed : Bool) (c : N.Counts) → AreWithin n c → AreWithin (n + 1) (N.push headed c)
push n headed c h =
    record { top = pushed n headed c.top h.top; below = (more n c.top h.top, all_wider n (n + 1) c.below (omega arith) h.below) }

changed : (n : ℕ) (change : N.Count → N.Count) (c : N.Counts) → AreWithin n c → IsWithin (n + 1) (change c.top) → AreWithin (n + 1) (N.with_top change c)
changed n change c h top = record { top = top; below = all_wider n (n + 1) c.below (omega arith) h.below }

pop : (n : ℕ) (change : N.Count → N.Count → N.Count) (c : N.Counts) → ((old new : N.Count) → IsWithin n new → IsWithin (n + 1) (change old new)) →
    AreWithin n c → AreWithin (n + 1) (N.pop change c)
pop n change c grows h = popped c.top c.below h.top h.below
  where
    popped : (top : N.Count) (below : List N.Count) → IsWithin n top → AllWithin n below → AreWithin (n + 1) (N.pop change (record { top = top; below = below }))
    popped top [] t all = record { top = more n top t; below = tt }
    popped top (new ∷ rest) t all = record { top = grows top new all.0; below = all_wider n (n + 1) rest (omega arith) all.1 }

added_if : (n : ℕ) (old new : N.Count) → IsWithin n new → IsWithin (n + 1) (if N.is_headed old then new else N.added new)
added_if n (N.counted count base floor dos true) new h = more n new h
added_if n (N.counted count base floor dos false) new h = added n new h

after_mark : (n : ℕ) (mark : Mark) (headed : Bool) (next : N.Next) (c : N.Counts) → AreWithin n c → AreWithin (n + 1) (N.after_mark mark headed next c)
after_mark n m.LeftParen headed next c h = push n headed c h
after_mark n m.LeftBracket headed next c h = push n false c h
after_mark n m.LeftBrace headed next c h = push n false c h
after_mark n m.Question headed next c h = push n false c h
after_mark n m.RightBracket headed next c h = pop n (λ old new. N.added new) c (λ old new w. added n new w) h
after_mark n m.Colon headed next c h = pop n (λ old new. N.added new) c (λ old new w. added n new w) h
after_mark n m.RightParen headed next c h = pop n (λ old new. if N.is_headed old then new else N.added new) c (added_if n) h
after_mark n m.RightBrace headed next c h = pop n (λ old new. N.ended next new) c (λ old new w. ended n next new w) h
after_mark n m.Semicolon headed next c h = changed n (N.ended next) c h (ended n next c.top h.top)
after_mark n m.Comma headed next c h = changed n N.to_floor c h (to_floor n c.top h.top)
after_mark n _ headed next c h = changed n N.added c h (added n c.top h.top)

after_word : (n : ℕ) (word : Keyword) (c : N.Counts) → AreWithin n c → AreWithin (n + 1) (N.after_word word c)
after_word n k.If c h = changed n N.headed_by c h (headed_by n c.top h.top)
after_word n k.While c h = changed n N.headed_by c h (headed_by n c.top h.top)
after_word n k.For c h = changed n N.headed_by c h (headed_by n c.top h.top)
after_word n k.Do c h = changed n N.opened_do c h (opened_do n c.top h.top)
after_word n _ c h = are_wider n (n + 1) c (omega arith) h

pub after_kind : (n : ℕ) (kind : Tok) (headed : Bool) (next : N.Next) (c : N.Counts) → AreWithin n c → AreWithin (n + 1) (N.after_kind kind headed next c)
after_kind n (t.Mark mark) headed next c h = after_mark n mark headed next c h
after_kind n (t.Word word) headed next c h = after_word n word c h
after_kind n _ headed next c h = are_wider n (n + 1) c (omega arith) h
