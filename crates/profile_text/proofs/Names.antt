-- The test of names is the one of three-address programs.
use Rattle.std.proofs.Common.{◌≡◌, ℕ, Bool, List, [], ◌∷◌, refl}
use Rattle.std.specs.Prelude.{◌||◌, IsTrue}
use Rattle.std.specs.Bool.{Decides}
use Rattle.std.specs.List.{list_all}
use Rattle.std.proofs.lemmas.Bool.Decides.{Decides-and, Decides-by_and, same_from_decides}
use Rattle.tac_core.specs.Rules.{is_letter, is_digit, IsName}
use Rattle.profile_text.specs.Lines.{is_name}

pub name_decided : (bs : List ℕ) → Decides (is_name bs) (IsName bs)
name_decided [] = (λ e. absurd (cc), λ h. absurd h)
name_decided (b ∷ bs) =
    Decides-and (is_letter b) (list_all (λ c. is_letter c || is_digit c) bs) (λ h. h, λ h. h)
    (Decides-by_and (λ c. is_letter c || is_digit c) (λ c. IsTrue (is_letter c || is_digit c)) (list_all (λ c. is_letter c || is_digit c)) (λ c. (λ h. h, λ h. h)) refl (λ _ _. refl) bs)

pub name_tested : (bs : List ℕ) (r : Bool) → Decides r (IsName bs) → r ≡ is_name bs
name_tested bs r h = same_from_decides r (is_name bs) h (name_decided bs)
