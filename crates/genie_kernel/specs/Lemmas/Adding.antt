-- One region more among those of all processes.
use Rattle.std.proofs.Common.{◌≡◌, ℕ, ◌+◌, zero, suc, false, cond, List, [], ◌∷◌, ◌++◌, refl, sym, ap, subst, ◌∙◌, map, set, append_assoc}
use Rattle.std.specs.Prelude.{Option, Some, find, nat_le}
use Rattle.std.specs.List.{insert}
use Rattle.std.specs.List.Sorted.{IsPermutation}
use Rattle.std.proofs.lemmas.Bool.{cond_both}
use Rattle.std.proofs.lemmas.List.Sorted.{IsPermutation-insert, IsPermutation-append_comm, IsPermutation-append_left, IsPermutation-append_right, IsPermutation-trans}
use Rattle.std.specs.Option.{option_or}
use Rattle.std.proofs.lemmas.List.Folds.{find-append}
use Rattle.genie_base.specs.Regions.{add_in_order}
use Rattle.genie_region.specs.declared.region.Region.{Region}
use Rattle.genie_region.specs.Layouts.{extent}
use Rattle.genie_model.specs.Regions.{extent_of}
use Rattle.genie_model.specs.Tables.{entry}
use Rattle.genie_kernel.specs.Regions.{has_id}
use Rattle.genie_kernel.specs.Regions.{region_view, regions_of, owned_regions}

-- the view has the region at the same place
pub added_view : (s : ℕ → ℕ → List ℕ) (r : Region) (rs : List Region) → map (region_view s) (add_in_order extent r rs) ≡ add_in_order extent_of (region_view s r) (map (region_view s) rs)
added_view s r [] = refl
added_view s r (x ∷ rs) = cond_both (nat_le (x.start + x.pages) r.start) (x ∷ add_in_order extent r rs) (r ∷ x ∷ rs)
    (λ l. map (region_view s) l ≡ cond (nat_le (x.start + x.pages) r.start) (region_view s x ∷ add_in_order extent_of (region_view s r) (map (region_view s) rs)) (region_view s r ∷ region_view s x ∷ map (region_view s) rs))
    (λ t. rw t (ap (λ l. region_view s x ∷ l) (added_view s r rs)))
    (λ f. rw f refl)

record IsInserted (r : Region) (rs new : List Region) : Type 0 where
  at : ℕ
  is : new ≡ insert rs at r

inserted : (r : Region) (rs : List Region) → IsInserted r rs (add_in_order extent r rs)
inserted r [] = record { at = 0; is = refl }
inserted r (x ∷ rs) = cond_both (nat_le (x.start + x.pages) r.start) (x ∷ add_in_order extent r rs) (r ∷ x ∷ rs) (IsInserted r (x ∷ rs))
    (λ t. let later = inserted r rs in record { at = suc later.at; is = ap (λ l. x ∷ l) later.is })
    (λ f. record { at = 0; is = refl })

pub added_permutes : (r : Region) (rs : List Region) → IsPermutation (r ∷ rs) (add_in_order extent r rs)
added_permutes r rs = let i = inserted r rs in subst (IsPermutation (r ∷ rs)) (sym i.is) (IsPermutation-insert rs i.at r)

-- the regions of all processes are one more
pub owned_added : (r : Region) (rs : List Region) (ps : List (Option (List Region))) (p : ℕ) → entry ps p ≡ Some rs → IsPermutation (r ∷ owned_regions ps) (owned_regions (set ps p (Some (add_in_order extent r rs))))
owned_added r rs [] p e = absurd (cc)
owned_added r rs (y ∷ ps) zero e = subst (λ (z : List Region). IsPermutation (r ∷ (z ++ owned_regions ps)) (add_in_order extent r rs ++ owned_regions ps)) (sym (ap regions_of e)) (IsPermutation-append_left (owned_regions ps) (r ∷ rs) (add_in_order extent r rs) (added_permutes r rs))
owned_added r rs (y ∷ ps) (suc p) e =
    let ys : List Region = regions_of y in
    let front : IsPermutation ((r ∷ ys) ++ owned_regions ps) ((ys ++ r ∷ []) ++ owned_regions ps) = IsPermutation-append_left (owned_regions ps) (r ∷ ys) (ys ++ r ∷ []) (IsPermutation-append_comm (r ∷ []) ys) in
    let moved : IsPermutation (r ∷ (ys ++ owned_regions ps)) (ys ++ (r ∷ owned_regions ps)) = subst (IsPermutation (r ∷ (ys ++ owned_regions ps))) (append_assoc ys (r ∷ []) (owned_regions ps)) front in
    IsPermutation-trans (r ∷ (ys ++ owned_regions ps)) (ys ++ (r ∷ owned_regions ps)) (ys ++ owned_regions (set ps p (Some (add_in_order extent r rs)))) moved (IsPermutation-append_right ys (r ∷ owned_regions ps) (owned_regions (set ps p (Some (add_in_order extent r rs)))) (owned_added r rs ps p e))

-- what is found by another number is as before
pub found_added : (k : ℕ) (r : Region) (rs : List Region) → has_id k r ≡ false → find (has_id k) (add_in_order extent r rs) ≡ find (has_id k) rs
found_added k r [] e = rw e refl
found_added k r (x ∷ rs) e = cond_both (nat_le (x.start + x.pages) r.start) (x ∷ add_in_order extent r rs) (r ∷ x ∷ rs) (λ l. find (has_id k) l ≡ find (has_id k) (x ∷ rs))
    (λ t. ap (cond (has_id k x) (Some x)) (found_added k r rs e))
    (λ f. rw e refl)

pub found_owned : (k : ℕ) (r : Region) (rs : List Region) (ps : List (Option (List Region))) (p : ℕ) → has_id k r ≡ false → entry ps p ≡ Some rs → find (has_id k) (owned_regions (set ps p (Some (add_in_order extent r rs)))) ≡ find (has_id k) (owned_regions ps)
found_owned k r rs [] p h e = absurd (cc)
found_owned k r rs (y ∷ ps) zero h e = find-append (has_id k) (add_in_order extent r rs) (owned_regions ps) ∙ ap (λ o. option_or o (find (has_id k) (owned_regions ps))) (found_added k r rs h) ∙ sym (ap (λ (z : Option (List Region)). find (has_id k) (regions_of z ++ owned_regions ps)) e ∙ find-append (has_id k) rs (owned_regions ps))
found_owned k r rs (y ∷ ps) (suc p) h e = find-append (has_id k) (regions_of y) (owned_regions (set ps p (Some (add_in_order extent r rs)))) ∙ ap (option_or (find (has_id k) (regions_of y))) (found_owned k r rs ps p h e) ∙ sym (find-append (has_id k) (regions_of y) (owned_regions ps))
