use Rattle.std.proofs.Common.{◌≡◌, sym, ◌∙◌, ap, not, bytes_eq, ◌++◌, ◌∷◌, [], map, Bool, true, false, refl, cond, List, ℕ, Bor}
use Rattle.std.specs.List.{list_any}
use Rattle.first_form.proofs.Lists.{list_any-map, map-snoc}
use Rattle.first_form.proofs.names.Names.add.Goals as goal

-- a name is added to the keys, and so to what they show
added_names : (keys : List (Bor (List ℕ))) (name : Bor (List ℕ)) →
    map (λ k. k.now) (cond (list_any (λ (k : Bor (List ℕ)). bytes_eq name.now k.now) keys) keys (keys ++ name ∷ []))
    ≡ cond (list_any (bytes_eq name.now) (map (λ k. k.now) keys)) (map (λ k. k.now) keys) (map (λ k. k.now) keys ++ name.now ∷ [])
added_names keys name = rw (list_any-map (bytes_eq name.now) (λ (k : Bor (List ℕ)). k.now) keys) (by_test (list_any (λ (k : Bor (List ℕ)). bytes_eq name.now k.now) keys))
  where
    by_test : (b : Bool) → map (λ (k : Bor (List ℕ)). k.now) (cond b keys (keys ++ name ∷ [])) ≡ cond b (map (λ (k : Bor (List ℕ)). k.now) keys) (map (λ (k : Bor (List ℕ)). k.now) keys ++ name.now ∷ [])
    by_test true = refl
    by_test false = map-snoc (λ (k : Bor (List ℕ)). k.now) keys name

pub returns-clause-added : goal.returns-clause-added
returns-clause-added c = rw (← c.self.view_is) (c.in_ok-added.ensures.added ∙ ap not (sym (list_any-map (bytes_eq c.args.name.now) (λ k. k.now) c.self.inside.names.keys)))

pub returns-clause-names : goal.returns-clause-names
returns-clause-names c = rw (← c.self.view_is) (ap (map (λ k. k.now)) c.in_ok-added.ensures.keys ∙ added_names c.self.inside.names.keys c.args.name)
