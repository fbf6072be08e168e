-- Nothing is left of orphans after a step but what pending weak transfers name and cover.
use Rattle.std.proofs.Common.{◌≡◌, ℕ, Bool, List, [], ◌∷◌, map, filter, refl, ap, ap₂}
use Rattle.std.specs.List.{list_any}
use Rattle.std.proofs.lemmas.Bool.{cond_both}
use Rattle.genie_orderly.specs.Steps.{Stays}
use Rattle.genie_orderly.specs.Orderly.{OrphansAreTidy}
use Rattle.genie_model.specs.Pending.{covers}
use Rattle.genie_model.specs.Space.{cut, is_named, tidy}
use Rattle.genie_model.specs.State.{State, Orphan, Transfer}
use Rattle.genie_model.specs.Step.{perform}
use Rattle.genie_model.specs.Lemmas.Steps.{step_so}

filter_twice : {X : Type 0} (p : X → Bool) (xs : List X) → filter p (filter p xs) ≡ filter p xs
filter_twice p [] = refl
filter_twice p (x ∷ xs) = cond_both (p x) (x ∷ filter p xs) (filter p xs) (λ l. filter p l ≡ l) (λ t. rw t (ap (λ l. x ∷ l) (filter_twice p xs))) (λ _. filter_twice p xs)

cut_twice : (transfers : List Transfer) (o : Orphan) → cut transfers (cut transfers o) ≡ cut transfers o
cut_twice transfers o = ap (λ l. record o { bytes = l }) (filter_twice (λ (e : ℕ × ℕ). list_any (covers o.number e.0) transfers) o.bytes)

tidied_twice : (transfers : List Transfer) (orphans : List Orphan) → map (cut transfers) (filter (is_named transfers) (map (cut transfers) (filter (is_named transfers) orphans))) ≡ map (cut transfers) (filter (is_named transfers) orphans)
tidied_twice transfers [] = refl
tidied_twice transfers (o ∷ orphans) = cond_both (is_named transfers o) (o ∷ filter (is_named transfers) orphans) (filter (is_named transfers) orphans)
    (λ l. map (cut transfers) (filter (is_named transfers) (map (cut transfers) l)) ≡ map (cut transfers) l)
    (λ t. rw t (ap₂ ◌∷◌ (cut_twice transfers o) (tidied_twice transfers orphans))) (λ _. tidied_twice transfers orphans)

pub tidy_twice : (s : State) → tidy (tidy s) ≡ tidy s
tidy_twice s = ap (λ l. record s { orphans = l }) (tidied_twice s.transfers s.orphans)

pub orphans_tidy : Stays OrphansAreTidy
orphans_tidy s e m whole o = step_so OrphansAreTidy s o.tidied (λ f. tidy_twice (perform s f).0) e m
