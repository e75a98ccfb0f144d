-- What the limits say of a program's parts.
use Rattle.std.proofs.Common.{◌≡◌, ℕ, Bool, ◌≤◌, ◌<◌, ◌++◌, List, [], ◌∷◌, length, map, cond, Some, None, find, All, ap, sym, ◌∙◌, subst, arith, ⊎_elim, lt-ltb, le-ltb}
use Rattle.std.proofs.lemmas.Bool.{cases_lt}
use Rattle.std.proofs.lemmas.Option.{none-some}
use Rattle.std.proofs.lemmas.List.Elements.{All-nil, All-cons}
use Rattle.c_typed.specs.Tree as t
use Rattle.c_typed.specs.Views.{function_of}
use Rattle.c_typed.specs.declared.program.Function.{Function}
use Rattle.c_layout.specs.declared.data.GlobalData.{GlobalData}
use Rattle.c_layout.specs.Layout.{Texts, first_address, globals_bytes, image, image_size, texts_behind, texts_bytes}
use Rattle.c_layout.proofs.Lengths.{length_image}
use Rattle.c_program.specs.Limits.{frame_limit, globals_limit, is_large}

pub image_within : (globals : List GlobalData) (texts : Texts) (strings bytes : List ℕ) → strings ≡ texts_behind globals texts → bytes ≡ globals_bytes strings first_address globals ++ texts_bytes texts → image_size globals texts ≤ globals_limit → length bytes ≤ globals_limit
image_within globals texts strings bytes found put small =
    let whole : bytes ≡ image globals texts = put ∙ ap (λ s. globals_bytes s first_address globals ++ texts_bytes texts) found in
    let same = ap length whole ∙ length_image globals texts in
    omega arith

abbrev NonePasses : t.Function → List t.Function → Bool → Type 0
NonePasses f fs passes = cond passes (Some f) (find is_large fs) ≡ None

pub frames_within : (fs : List Function) → find is_large (map function_of fs) ≡ None → All (λ f. f.frame ≤ frame_limit) fs
frames_within [] none = All-nil (λ f. f.frame ≤ frame_limit)
frames_within (f ∷ fs) none =
    let none_passes = NonePasses (function_of f) (map function_of fs) in
    ⊎_elim (λ (large : frame_limit < f.frame). absurd (none-some (function_of f) (sym (subst none_passes (lt-ltb frame_limit f.frame large) none))))
    (λ (small : f.frame ≤ frame_limit). All-cons (λ f. f.frame ≤ frame_limit) f fs small (frames_within fs (subst none_passes (le-ltb frame_limit f.frame small) none)))
    (cases_lt frame_limit f.frame)
