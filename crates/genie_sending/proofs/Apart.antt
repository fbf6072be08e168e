-- No two handles of a configuration are one.
use Rattle.std.proofs.lemmas.List.Kept.{AllPairs-cons}
use Rattle.std.proofs.Common.{◌≡◌, ◌≢◌, ℕ, arith, zero, suc, List, [], ◌∷◌, ◌++◌, refl, sym, ap, subst, ◌∙◌, ⊎_elim, inl, inr, map, get_or}
use Rattle.std.specs.Prelude.{Option, Some, None, AllPairs, flat_map}
use Rattle.genie_base.specs.declared.config.DeviceConfig.{DeviceConfig}
use Rattle.genie_base.specs.Lemmas.Places.{same_or}
use Rattle.genie_model.specs.Lemmas.Lists.{Has, has_at, has_left, has_right, pairs_head, pairs_right, pairs_tail}
use Rattle.genie_model.specs.Tables.{entry}
use Rattle.genie_kernel.specs.Handles.{handles_of, listed}
use Rattle.genie_kernel.specs.Told.{input_at, output_at}

abbrev AreApart : List ℕ → Type 0
AreApart hs = AllPairs (λ (a b : ℕ). a ≢ b) hs

cross : (xs ys : List ℕ) → AreApart (xs ++ ys) → (h : ℕ) → Has h xs → Has h ys → ⊥
cross [] ys a h i j = absurd i
cross (x ∷ xs) ys a h (inl e) j = pairs_head (λ (y z : ℕ). y ≢ z) x (xs ++ ys) a h (has_right h xs ys j) e
cross (x ∷ xs) ys a h (inr i) j = cross xs ys (pairs_tail (λ (y z : ℕ). y ≢ z) x (xs ++ ys) a) h i j

in_one : (h : ℕ) (cs : List (Option DeviceConfig)) (i : ℕ) → Has h (handles_of (entry cs i)) → Has h (flat_map handles_of cs)
in_one h [] i x = x
in_one h (c ∷ cs) zero x = has_left h (handles_of c) (flat_map handles_of cs) x
in_one h (c ∷ cs) (suc i) x = has_right h (handles_of c) (flat_map handles_of cs) (in_one h cs i x)

only_once : (h : ℕ) (cs : List (Option DeviceConfig)) (i j : ℕ) → i ≢ j → AreApart (flat_map handles_of cs) → Has h (handles_of (entry cs i)) → Has h (handles_of (entry cs j)) → ⊥
only_once h [] i j ne a x y = absurd x
only_once h (c ∷ cs) zero zero ne a x y = ne refl
only_once h (c ∷ cs) zero (suc j) ne a x y = cross (handles_of c) (flat_map handles_of cs) a h x (in_one h cs j y)
only_once h (c ∷ cs) (suc i) zero ne a x y = cross (handles_of c) (flat_map handles_of cs) a h y (in_one h cs i x)
only_once h (c ∷ cs) (suc i) (suc j) ne a x y = only_once h cs i j (λ e. ne (ap suc e)) (pairs_right (λ (y z : ℕ). y ≢ z) (handles_of c) (flat_map handles_of cs) a) x y

listed_has : (h : ℕ) (o : Option ℕ) → o ≡ Some h → Has h (listed o)
listed_has h None e = absurd (cc)
listed_has h (Some a) e = inl (cc)

has_output : (h : ℕ) (c : Option DeviceConfig) → output_at c ≡ Some h → Has h (handles_of c)
has_output h None e = absurd (cc)
has_output h (Some c) e = has_right h (listed c.input) (listed c.output) (listed_has h c.output e)

has_input : (h : ℕ) (c : Option DeviceConfig) → input_at c ≡ Some h → Has h (handles_of c)
has_input h None e = absurd (cc)
has_input h (Some c) e = has_left h (listed c.input) (listed c.output) (listed_has h c.input e)

one_device : (h : ℕ) (c : Option DeviceConfig) → AreApart (handles_of c) → input_at c ≡ Some h → output_at c ≡ Some h → ⊥
one_device h None a e f = absurd (cc)
one_device h (Some c) a e f = cross (listed c.input) (listed c.output) a h (listed_has h c.input e) (listed_has h c.output f)

first_part : (xs ys : List ℕ) → AreApart (xs ++ ys) → AreApart xs
first_part [] ys a = λ i j d l m. absurd (omega arith)
first_part (x ∷ xs) ys a = AllPairs-cons (λ (y z : ℕ). y ≢ z) x xs
    (λ k d l. pairs_head (λ (y z : ℕ). y ≢ z) x (xs ++ ys) a (get_or xs k d) (has_left (get_or xs k d) xs ys (has_at xs k d l)))
    (first_part xs ys (pairs_tail (λ (y z : ℕ). y ≢ z) x (xs ++ ys) a))

apart_at : (cs : List (Option DeviceConfig)) (i : ℕ) → AreApart (flat_map handles_of cs) → AreApart (handles_of (entry cs i))
apart_at [] i a = a
apart_at (c ∷ cs) zero a = first_part (handles_of c) (flat_map handles_of cs) a
apart_at (c ∷ cs) (suc i) a = apart_at cs i (pairs_right (λ (y z : ℕ). y ≢ z) (handles_of c) (flat_map handles_of cs) a)

mapped : (f : Option DeviceConfig → Option ℕ) → f None ≡ None → (cs : List (Option DeviceConfig)) (i : ℕ) → get_or (map f cs) i None ≡ f (entry cs i)
mapped f e [] i = sym e
mapped f e (c ∷ cs) zero = refl
mapped f e (c ∷ cs) (suc i) = mapped f e cs i

module _ (cs : List (Option DeviceConfig)) (a : AreApart (flat_map handles_of cs)) (d h : ℕ) (is : output_at (entry cs d) ≡ Some h) where
  pub output_here : get_or (map output_at cs) d None ≡ Some h
  output_here = mapped output_at refl cs d ∙ is

  -- it is the output of no other device, and no device's input
  pub outputs_differ : (j : ℕ) → j ≢ d → get_or (map output_at cs) j None ≢ Some h
  outputs_differ j ne e = only_once h cs j d ne a (has_output h (entry cs j) (sym (mapped output_at refl cs j) ∙ e)) (has_output h (entry cs d) is)

  pub inputs_differ : (j : ℕ) → get_or (map input_at cs) j None ≢ Some h
  inputs_differ j e =
      let there : input_at (entry cs j) ≡ Some h = sym (mapped input_at refl cs j) ∙ e in
      ⊎_elim
      (λ (same : j ≡ d). one_device h (entry cs d) (apart_at cs d a) (subst (λ i. input_at (entry cs i) ≡ Some h) same there) is)
      (λ (ne : j ≢ d). only_once h cs j d ne a (has_input h (entry cs j) there) (has_output h (entry cs d) is))
      (same_or j d)

  pub no_input : input_at (entry cs d) ≢ Some h
  no_input e = one_device h (entry cs d) (apart_at cs d a) e is
