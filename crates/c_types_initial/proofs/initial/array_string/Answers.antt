use Rattle.std.proofs.Common.{◌≡◌, refl, ap, sym, true, length, nat_le, arith}
use Rattle.std.proofs.lemmas.Bool.Decides.{nat_tests}
use Rattle.c_types_operators.specs.Rules.{Fine}
use Rattle.c_types_operators.proofs.JudgingLemmas.{fine}
use Rattle.c_types_initial.specs.Constants.{is_char}
use Rattle.c_types_initial.proofs.initial.array_string.Goals as goal

pub returns-then-bytes-count : goal.returns-then-bytes-count
returns-then-bytes-count c =
    let chars : is_char c.args.ty ≡ true = cc in
    let fits : nat_le (length c.args.bytes.now) c.args.count ≡ true = grind (arith, nat_tests) in
    fine _ (rw (chars, fits) (ap (λ l. Fine l) (sym c.in_ok-held.ensures))) refl
