-- Lists that grow at their end.
use Rattle.std.proofs.Common.{◌≡◌, refl, sym, ap, Option, Some, None}
use Rattle.c_typed.specs.Tree as t
use Rattle.c_typed.specs.Tree.{Exp, Exps, Stms}
use Rattle.c_types_operators.specs.Operators.{and_then}
use Rattle.c_types_statements.specs.Statements.{given_before, before}
use Rattle.c_types_statements.specs.Keeping.{and_given, and_statement, ◌<?>◌}

-- one list behind another
abbrev pub and_all : Exps → Exps → Exps
and_all t.no_exp ys = ys
and_all (t.an_exp x xs) ys = t.an_exp x (and_all xs ys)

abbrev pub and_rest : Stms → Stms → Stms
and_rest t.no_stm ys = ys
and_rest (t.a_stm x xs) ys = t.a_stm x (and_rest xs ys)

then-all : (xs : Exps) (x : Exp) (ys : Exps) → and_all (and_then xs x) ys ≡ and_all xs (t.an_exp x ys)
then-all t.no_exp x ys = refl
then-all (t.an_exp y xs) x ys = ap (λ l. t.an_exp y l) (then-all xs x ys)

given-all : (xs : Exps) (x : t.Maybe) (ys : Exps) → and_all (and_given xs x) ys ≡ and_all xs (given_before x ys)
given-all xs t.missing ys = refl
given-all xs (t.given x) ys = then-all xs x ys

statement-rest : (xs : Stms) (x : t.Stm) (ys : Stms) → and_rest (and_statement xs x) ys ≡ and_rest xs (before x ys)
statement-rest t.no_stm x ys = refl
statement-rest (t.a_stm y xs) x ys = ap (λ l. t.a_stm y l) (statement-rest xs x ys)

pub and_all_none : (xs : Exps) → and_all xs t.no_exp ≡ xs
and_all_none t.no_exp = refl
and_all_none (t.an_exp x xs) = ap (λ l. t.an_exp x l) (and_all_none xs)

pub and_rest_none : (xs : Stms) → and_rest xs t.no_stm ≡ xs
and_rest_none t.no_stm = refl
and_rest_none (t.a_stm x xs) = ap (λ l. t.a_stm x l) (and_rest_none xs)

pub given_step : (xs : Option Exps) (x : Option t.Maybe) (o : Option Exps) → (Some and_all <?> (Some and_given <?> xs <?> x) <?> o) ≡ (Some and_all <?> xs <?> (Some given_before <?> x <?> o))
given_step None x o = refl
given_step (Some xs) None o = refl
given_step (Some xs) (Some x) None = refl
given_step (Some xs) (Some x) (Some ys) = ap Some (given-all xs x ys)

pub statement_step : (xs : Option Stms) (x : Option t.Stm) (o : Option Stms) → (Some and_rest <?> (Some and_statement <?> xs <?> x) <?> o) ≡ (Some and_rest <?> xs <?> (Some before <?> x <?> o))
statement_step None x o = refl
statement_step (Some xs) None o = refl
statement_step (Some xs) (Some x) None = refl
statement_step (Some xs) (Some x) (Some ys) = ap Some (statement-rest xs x ys)

pub all_of : (xs : Option Exps) → xs ≡ (Some and_all <?> xs <?> Some t.no_exp)
all_of None = refl
all_of (Some xs) = ap Some (sym (and_all_none xs))

pub rest_of : (xs : Option Stms) → xs ≡ (Some and_rest <?> xs <?> Some t.no_stm)
rest_of None = refl
rest_of (Some xs) = ap Some (sym (and_rest_none xs))
