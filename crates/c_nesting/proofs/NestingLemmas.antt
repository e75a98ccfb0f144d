-- One token of the nesting count.
use Rattle.std.proofs.Common.{◌≡◌, ℕ, ◌+◌, ◌<◌, ◌≤◌, List, ◌∷◌, length, drop, get_or, Some, Bool, false, refl, sym, ◌∙◌, ap, arith, inl, inr}
use Rattle.std.specs.Prelude.{Option, nat_lt, if◌then◌else◌}
use Rattle.std.proofs.lemmas.Bool.{le-leb}
use Rattle.std.proofs.lemmas.Bool.Decides.{leb_tells}
use Rattle.std.proofs.lemmas.List.{at_drop_more}
use Rattle.ib_meaning.specs.declared.place.Place.{Place}
use Rattle.c_ast.specs.declared.token.Token.{Token}
use Rattle.c_ast.specs.Nesting as N

abbrev from : Bool → N.Counts → List Token → Option Place
from headed c ts = N.first_deep ts (N.tops headed c ts)

one_token : (ts : List Token) (i : ℕ) (tok : Token) (headed : Bool) (c after : N.Counts) → i < length ts → tok ≡ get_or ts i tok →
    after ≡ N.after_kind tok.kind headed (N.next_of (drop (i + 1) ts)) c →
    from headed c (drop i ts) ≡ (if nat_lt 200 (N.count_of after.top) then Some tok.place else from (N.heads tok.kind) after (drop (i + 1) ts))
one_token ts i tok headed c after lt e h =
    at_drop_more (from headed c) ts i tok lt ∙ ap (λ t. from headed c (t ∷ drop (i + 1) ts)) (sym e)
    ∙ ap (λ (a : N.Counts). if nat_lt 200 (N.count_of a.top) then Some tok.place else from (N.heads tok.kind) a (drop (i + 1) ts)) (sym h)

pub goes_on : (ts : List Token) (i : ℕ) (tok : Token) (headed : Bool) (c after : N.Counts) → i < length ts → tok ≡ get_or ts i tok →
    after ≡ N.after_kind tok.kind headed (N.next_of (drop (i + 1) ts)) c → N.count_of after.top ≤ 200 →
    N.first_deep (drop i ts) (N.tops headed c (drop i ts)) ≡ N.first_deep (drop (i + 1) ts) (N.tops (N.heads tok.kind) after (drop (i + 1) ts))
goes_on ts i tok headed c after lt e h low = one_token ts i tok headed c after lt e h ∙ rw below refl
  where
    below : nat_lt 200 (N.count_of after.top) ≡ false
    below = elim (leb_tells 201 (N.count_of after.top)) [ inl p ↦ absurd (omega (arith, p.1, low)) | inr p ↦ p.0 ]

pub passes : (ts : List Token) (i : ℕ) (tok : Token) (headed : Bool) (c after : N.Counts) → i < length ts → tok ≡ get_or ts i tok →
    after ≡ N.after_kind tok.kind headed (N.next_of (drop (i + 1) ts)) c → 200 < N.count_of after.top →
    N.first_deep (drop i ts) (N.tops headed c (drop i ts)) ≡ Some tok.place
passes ts i tok headed c after lt e h high = one_token ts i tok headed c after lt e h ∙ rw (le-leb 201 (N.count_of after.top) high) refl
