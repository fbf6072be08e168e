-- One region of one process, changed in its place.
use Rattle.std.proofs.Common.{◌≡◌, ◌≢◌, ℕ, zero, suc, Bool, true, false, List, [], ◌∷◌, refl, ap, ap₂, arith, ◌∙◌, map, set}
use Rattle.std.specs.Prelude.{Option, Some, None, if◌then◌else◌}
use Rattle.std.specs.List.{list_any}
use Rattle.std.proofs.lemmas.Bool.{or_parts}
use Rattle.genie_region.specs.declared.region.Region.{Region}
use Rattle.genie_model.specs.Regions.{changed, changed_in, change_process}
use Rattle.genie_model.specs.State as flat
use Rattle.genie_model.specs.Tables.{entry}
use Rattle.genie_kernel.specs.Regions.{has_id}
use Rattle.genie_kernel.specs.Regions.{process_view, processes_view, region_view, regions_of, with_changed}

module _ (s : ℕ → ℕ → List ℕ) (n : ℕ) (f : flat.Region → flat.Region) where
  unchanged : (rs : List Region) → list_any (has_id n) rs ≡ false → map (changed n f) (map (region_view s) rs) ≡ map (region_view s) rs
  unchanged [] e = refl
  unchanged (r ∷ rs) e = let both = or_parts (has_id n r) (list_any (has_id n) rs) e in ap₂ ◌∷◌ (ap (λ b. if b then f (region_view s r) else region_view s r) both.0) (unchanged rs both.1)

  process_unchanged : (p : Option (List Region)) (q : List ℕ) → list_any (has_id n) (regions_of p) ≡ false → change_process (changed_in n f) (process_view s p q) ≡ process_view s p q
  process_unchanged None q e = refl
  process_unchanged (Some rs) q e = ap (λ (l : List flat.Region). Some (record { queue = q; regions = l })) (unchanged rs e)

  all_unchanged : (ps : List (Option (List Region))) (qs : List (List ℕ)) → ((i : ℕ) → list_any (has_id n) (regions_of (entry ps i)) ≡ false) → map (change_process (changed_in n f)) (processes_view s ps qs) ≡ processes_view s ps qs
  all_unchanged [] qs h = refl
  all_unchanged (p ∷ ps) [] h = ap₂ ◌∷◌ (process_unchanged p [] (h 0)) (all_unchanged ps [] (λ i. h (suc i)))
  all_unchanged (p ∷ ps) (q ∷ qs) h = ap₂ ◌∷◌ (process_unchanged p q (h 0)) (all_unchanged ps qs (λ i. h (suc i)))

  module _ (g : Region → Region) (same : (r : Region) → f (region_view s r) ≡ region_view s (g r)) where
    changed_one : (r : Region) (b : Bool) → (if b then f (region_view s r) else region_view s r) ≡ region_view s (if b then g r else r)
    changed_one r true = same r
    changed_one r false = refl

    changed_here : (rs : List Region) → map (changed n f) (map (region_view s) rs) ≡ map (region_view s) (with_changed n g rs)
    changed_here [] = refl
    changed_here (r ∷ rs) = ap₂ ◌∷◌ (changed_one r (has_id n r)) (changed_here rs)

    process_changed : (p : Option (List Region)) (q : List ℕ) (rs : List Region) → p ≡ Some rs → change_process (changed_in n f) (process_view s p q) ≡ process_view s (Some (with_changed n g rs)) q
    process_changed p q rs e = ap (λ z. change_process (changed_in n f) (process_view s z q)) e ∙ ap (λ (l : List flat.Region). Some (record { queue = q; regions = l })) (changed_here rs)

    -- where no other process has the number
    pub changed_view : (ps : List (Option (List Region))) (qs : List (List ℕ)) (p : ℕ) (rs : List Region) → entry ps p ≡ Some rs → ((i : ℕ) → i ≢ p → list_any (has_id n) (regions_of (entry ps i)) ≡ false) → map (change_process (changed_in n f)) (processes_view s ps qs) ≡ processes_view s (set ps p (Some (with_changed n g rs))) qs
    changed_view [] qs p rs e h = absurd (cc)
    changed_view (y ∷ ps) [] zero rs e h = ap₂ ◌∷◌ (process_changed y [] rs e) (all_unchanged ps [] (λ i. h (suc i) (omega arith)))
    changed_view (y ∷ ps) (q ∷ qs) zero rs e h = ap₂ ◌∷◌ (process_changed y q rs e) (all_unchanged ps qs (λ i. h (suc i) (omega arith)))
    changed_view (y ∷ ps) [] (suc p) rs e h = ap₂ ◌∷◌ (process_unchanged y [] (h 0 (omega arith))) (changed_view ps [] p rs e (λ i ne. h (suc i) (omega (arith, ne))))
    changed_view (y ∷ ps) (q ∷ qs) (suc p) rs e h = ap₂ ◌∷◌ (process_unchanged y q (h 0 (omega arith))) (changed_view ps qs p rs e (λ i ne. h (suc i) (omega (arith, ne))))
