-- The region that an access reaches.
use Rattle.std.proofs.Common.{◌≡◌, ℕ, suc, Bool, true, false, List, [], ◌∷◌, Some, arith, sym, ◌∙◌, subst, ⊎_elim}
use Rattle.std.specs.Prelude.{find, All}
use Rattle.std.proofs.lemmas.Bool.{cases_Bool, cond-true, cond-false}
use Rattle.genie_base.specs.Regions.{is_reached, reach}
use Rattle.genie_object.specs.declared.objects.Entry.{Entry}
use Rattle.genie_region.specs.declared.region.Region.{Region}
use Rattle.genie_region.specs.Layouts.{extent}
use Rattle.genie_space.specs.Translations.{IsBacked}

-- what holds of each element holds of the one that a search finds, which passes its test
found : {X : Type 0} (P : X → Type 0) (p : X → Bool) (xs : List X) (x : X) → All P xs → find p xs ≡ Some x → P x × (p x ≡ true)
found P p [] x h e = absurd (cc)
found P p (y ∷ ys) x h e = ⊎_elim
    (λ (yes : p y ≡ true). let same : Some y ≡ Some x = sym (cond-true (p y) (Some y) (find p ys) yes) ∙ e in let is : y ≡ x = cc in subst (λ z. P z × (p z ≡ true)) is (h 0 y (omega arith), yes))
    (λ (no : p y ≡ false). found P p ys x (λ k d l. h (suc k) d (omega arith)) (sym (cond-false (p y) (Some y) (find p ys) no) ∙ e))
    (cases_Bool (p y))

-- the region that an access reaches has its object
pub reached_backed : (objects : List (List Entry)) (page addr len : ℕ) (regions : List Region) (r : Region) → All (IsBacked objects) regions → reach extent page addr len regions ≡ Some r → IsBacked objects r × (is_reached page addr len (extent r) ≡ true)
reached_backed objects page addr len regions r h e = found (IsBacked objects) (λ q. is_reached page addr len (extent q)) regions r h e
