-- The function that a run begins with.
use Rattle.std.proofs.Common.{◌≡◌, ℕ, zero, suc, ◌+◌, ◌<◌, List, [], ◌∷◌, length, drop, get_or, true, map, slice_get, refl, ap, ◌∙◌, arith}
use Rattle.std.specs.Prelude.{codes, bytes_eq}
use Rattle.c_typed.specs.declared.program.Function.{Function}
use Rattle.c_typed.specs.Program.{main_in}
use Rattle.c_typed.specs.Views.{function_of}
use Rattle.c_eval.specs.declared.source.Source.{Source}
use Rattle.c_eval.specs.Moves as moves
use Rattle.c_eval.specs.Pending.{Machine, Move}
use Rattle.c_eval.specs.Programs.{program_of}

abbrev names : List Function → List (List ℕ)
names functions = map (λ f. f.name) functions

first_is : (functions : List Function) (i : ℕ) (d : Function) → i < length functions → bytes_eq (codes "main") (get_or functions i d).name ≡ true → main_in (names (drop i functions)) ≡ 0
first_is [] i d lt is = absurd (omega arith)
first_is (f ∷ functions) zero d lt is = rw is refl
first_is (f ∷ functions) (suc i) d lt is = first_is functions i d (omega arith) is

pub main_found : (functions : List Function) (i : ℕ) (d : Function) → i < length functions → bytes_eq (codes "main") (get_or functions i d).name ≡ true → main_in (names functions) ≡ i + main_in (names (drop i functions)) → i ≡ main_in (names functions)
main_found functions i d lt is none = let first = first_is functions i d lt is in omega (arith, none, first)

same_names : (functions : List Function) → names functions ≡ map (λ f. f.name) (map function_of functions)
same_names [] = refl
same_names (f ∷ functions) = ap (λ rest. f.name ∷ rest) (same_names functions)

pub started_so : (source : Source) (main : ℕ) (m : Machine) (move : Move) → main ≡ main_in (names source.functions.now) → m ≡ moves.before_main (program_of source) → move ≡ moves.begun_at (slice_get (map function_of source.functions.now) main) m → move ≡ moves.started (program_of source)
started_so source main m move is before moved =
    moved
    ∙ ap (moves.begun_at (slice_get (map function_of source.functions.now) main)) before
    ∙ ap (λ n. moves.begun_at (slice_get (map function_of source.functions.now) n) (moves.before_main (program_of source))) (is ∙ ap main_in (same_names source.functions.now))
