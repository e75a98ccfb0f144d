-- A source is cut in one way.
use Rattle.std.proofs.Common.{◌≡◌, ℕ, zero, suc, ◌<◌, ◌≤◌, List, [], ◌∷◌, length, drop, ap, refl, sym, ◌∙◌, arith, length-drop}
use Rattle.c_ast.specs.declared.token.Token.{Token}
use Rattle.c_ast.specs.Cut.{Front, start, past, Ending, token_at, IsCut}
use Rattle.c_lex.specs.declared.found.Found.{Found}
use Rattle.c_lex.specs.declared.found.Found.TheVariants as found
use Rattle.c_lex.specs.First.{found_first}
use Rattle.c_lex.proofs.Cutting.{Onward, Within, within, invert, invert_over}

same_found : (front : Front) (ts us : List Token) (e d : Ending) →
    ((n : ℕ) → 1 ≤ n → n ≤ length front.left → (xs ys : List Token) → IsCut (past front n) xs e → IsCut (past front n) ys d → (xs ≡ ys) × (e ≡ d)) →
    (f : Found) → Within (length front.left) f → Onward f front ts e → Onward f front us d → (ts ≡ us) × (e ≡ d)
same_found front ts us e d deeper (found.Gap n) w a b = deeper n w.0 w.1 ts us a b
same_found front ts us e d deeper (found.Token tok n) w (xs, is, a) (ys, also, b) =
    let same = deeper n w.0 w.1 xs ys a b in
    (is ∙ ap (λ (more : List Token). token_at front tok n ∷ more) same.0 ∙ sym also, same.1)
same_found front ts us e d deeper (found.Fault kind) w a b = (a.0 ∙ sym b.0, a.1 ∙ sym b.1)

-- the bound is above the number of bytes that are left
same_at : (bound : ℕ) (front : Front) (left : List ℕ) → front.left ≡ left → length left < bound → (ts us : List Token) (e d : Ending) → IsCut front ts e → IsCut front us d → (ts ≡ us) × (e ≡ d)
same_at zero front left is h ts us e d a b = absurd (omega (arith, h))
same_at (suc bound) front [] is h ts us e d a b =
    let x = invert_over front ts e is a in
    let y = invert_over front us d is b in
    (x.0 ∙ sym y.0, x.1 ∙ sym y.1)
same_at (suc bound) front (b ∷ bs) is h ts us e d x y =
    let size : length front.left ≡ suc (length bs) = ap (length {A = ℕ}) is in
    same_found front ts us e d
    (λ n some fits xs ys. same_at bound (past front n) (drop n front.left) refl (omega (arith, length-drop n front.left, some, fits, size, h)) xs ys e d)
    (found_first front.clear front.left) (within front.clear front.left (omega (arith, size)))
    (invert front ts e (omega (arith, size)) x) (invert front us d (omega (arith, size)) y)

pub unique : (source : List ℕ) (ts us : List Token) (e d : Ending) → IsCut (start source) ts e → IsCut (start source) us d → (ts ≡ us) × (e ≡ d)
unique source ts us e d a b = same_at (suc (length source)) (start source) source refl (omega arith) ts us e d a b
