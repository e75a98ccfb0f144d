-- Numbers in decimal.
use Rattle.std.proofs.Common.{◌≡◌, ℕ, ◌<◌, ◌≤◌, ◌^◌, List, Result, Ok, Err, sym, ◌∙◌, arith}
use Rattle.std.specs.Prelude.{decimal}
use Rattle.std.specs.Str.Parse.{ParsesUnsigned}
use Rattle.std.proofs.lemmas.Fmt.{decimal_injective, parse-decimal}

abbrev Read : Type 0 → Type 0
Read E = Result ℕ E

abbrev read_as : (E : Type 0) → ℕ → Read E
read_as E n = Ok n

abbrev unread : (E : Type 0) → E → Read E
unread E error = Err error

ok_same : (E : Type 0) (read n : ℕ) → read_as E read ≡ read_as E n → read ≡ n
ok_same E read n e = cc

err_not : (E : Type 0) (error : E) (n : ℕ) → unread E error ≡ read_as E n → ⊥
err_not E error n e = cc

-- a text that is read as a number is no other number, and one that is not is none
pub same_number : {E : Type 0} (text : List ℕ) (result : Read E) (read n : ℕ) → n < 2 ^ 64 → text ≡ decimal n → ParsesUnsigned 64 10 text result → result ≡ read_as E read → read ≡ n
same_number {E} text result read n small is parses e = ok_same E read n (sym e ∙ parse-decimal 64 n text result small small is parses)

pub no_number : (E : Type 0) (text : List ℕ) (error : E) (n : ℕ) → n < 2 ^ 64 → text ≡ decimal n → ParsesUnsigned 64 10 text (Err error) → ⊥
no_number E text error n small is parses = err_not E error n (parse-decimal 64 n text (Err error) small small is parses)

pub same_cycles : (text : List ℕ) (number cycles : ℕ) → number < 2 ^ 64 → text ≡ decimal number → text ≡ decimal cycles → cycles ≤ 1000000000000 → number ≡ cycles
same_cycles text number cycles small is other few = decimal_injective number cycles small (omega (arith, few)) (sym is ∙ other)
