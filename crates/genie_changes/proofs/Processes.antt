-- The regions of all processes where those of one are others.
use Rattle.std.proofs.Common.{◌≡◌, ℕ, ◌+◌, ◌≤◌, zero, suc, Bool, true, false, cond, List, [], ◌∷◌, ◌++◌, refl, sym, ap, subst, arith, ◌∙◌, length, filter, set}
use Rattle.std.specs.Prelude.{Option, Some, None, All, find, sum_by, nat_le, if◌then◌else◌, ◌==◌}
use Rattle.std.specs.Option.{option_map, option_or}
use Rattle.std.proofs.lemmas.Bool.{cond_both}
use Rattle.std.proofs.lemmas.List.Folds.{find-append}
use Rattle.std.proofs.lemmas.List.Sums.{sum_by-append, sum_by-cons}
use Rattle.genie_region.specs.declared.region.Region.{Region}
use Rattle.genie_model.specs.Tables.{entry}
use Rattle.genie_kernel.specs.Regions.{owned_regions, regions_of, with_changed}
use Rattle.genie_changes.specs.Regions.{with_added}
use Rattle.genie_changes.proofs.Lists.{all_cons}

pub all_append : {X : Type 0} (P : X → Type 0) (xs ys : List X) → All P xs → All P ys → All P (xs ++ ys)
all_append P [] ys a b = b
all_append P (x ∷ xs) ys a b = all_cons P x (xs ++ ys) (a zero x (omega arith)) (all_append P xs ys (λ k d l. a (suc k) d (omega (arith, l))) b)

pub all_front : {X : Type 0} (P : X → Type 0) (xs ys : List X) → All P (xs ++ ys) → All P xs
all_front P [] ys a = λ k d l. absurd (omega (arith, l))
all_front P (x ∷ xs) ys a = all_cons P x xs (a zero x (omega arith)) (all_front P xs ys (λ k d l. a (suc k) d (omega (arith, l))))

pub all_back : {X : Type 0} (P : X → Type 0) (xs ys : List X) → All P (xs ++ ys) → All P ys
all_back P [] ys a = a
all_back P (x ∷ xs) ys a = all_back P xs ys (λ k d l. a (suc k) d (omega (arith, l)))

map_or : {Y : Type 0} (v : Region → Y) (o r : Option Region) → option_map v (option_or o r) ≡ option_or (option_map v o) (option_map v r)
map_or v None r = refl
map_or v (Some x) r = refl

module _ (rs ns : List Region) where
  -- what is so of all of them, and of the others
  pub all_set : (P : Region → Type 0) (ps : List (Option (List Region))) (p : ℕ) → entry ps p ≡ Some rs → (All P rs → All P ns) → All P (owned_regions ps) → All P (owned_regions (set ps p (Some ns)))
  all_set P [] p e f a = absurd (cc)
  all_set P (y ∷ ps) zero e f a = let mine : All P rs = subst (λ (z : Option (List Region)). All P (regions_of z)) e (all_front P (regions_of y) (owned_regions ps) a) in all_append P ns (owned_regions ps) (f mine) (all_back P (regions_of y) (owned_regions ps) a)
  all_set P (y ∷ ps) (suc p) e f a = all_append P (regions_of y) (owned_regions (set ps p (Some ns))) (all_front P (regions_of y) (owned_regions ps) a) (all_set P ps p e f (all_back P (regions_of y) (owned_regions ps) a))

  -- a sum over all of them
  pub sum_set : (f : Region → ℕ) (ps : List (Option (List Region))) (p : ℕ) → entry ps p ≡ Some rs → sum_by f (owned_regions (set ps p (Some ns))) + sum_by f rs ≡ sum_by f (owned_regions ps) + sum_by f ns
  sum_set f [] p e = absurd (cc)
  sum_set f (y ∷ ps) zero e = let mine : sum_by f (regions_of y) ≡ sum_by f rs = ap (λ (z : Option (List Region)). sum_by f (regions_of z)) e in omega (arith, sum_by-append f ns (owned_regions ps), sum_by-append f (regions_of y) (owned_regions ps), mine)
  sum_set f (y ∷ ps) (suc p) e = omega (arith, sum_by-append f (regions_of y) (owned_regions (set ps p (Some ns))), sum_by-append f (regions_of y) (owned_regions ps), sum_set f ps p e)

  -- what a search finds of each, where it finds as much among the others
  pub found_set : {Y : Type 0} (v : Region → Y) (q : Region → Bool) (ps : List (Option (List Region))) (p : ℕ) → entry ps p ≡ Some rs → option_map v (find q ns) ≡ option_map v (find q rs) → option_map v (find q (owned_regions (set ps p (Some ns)))) ≡ option_map v (find q (owned_regions ps))
  found_set v q [] p e h = absurd (cc)
  found_set v q (y ∷ ps) zero e h =
      ap (option_map v) (find-append q ns (owned_regions ps)) ∙ map_or v (find q ns) (find q (owned_regions ps)) ∙ ap (λ o. option_or o (option_map v (find q (owned_regions ps)))) h
      ∙ sym (ap (λ (z : Option (List Region)). option_map v (find q (regions_of z ++ owned_regions ps))) e ∙ ap (option_map v) (find-append q rs (owned_regions ps)) ∙ map_or v (find q rs) (find q (owned_regions ps)))
  found_set v q (y ∷ ps) (suc p) e h =
      let later = found_set v q ps p e h in
      ap (option_map v) (find-append q (regions_of y) (owned_regions (set ps p (Some ns))))
      ∙ (elim (find q (regions_of y)) as (λ o. option_map v (option_or o (find q (owned_regions (set ps p (Some ns))))) ≡ option_map v (option_or o (find q (owned_regions ps)))) [ None ↦ later | Some x ↦ refl ])
      ∙ sym (ap (option_map v) (find-append q (regions_of y) (owned_regions ps)))

  -- of another process the regions are as before
  pub regions_set : (P : List Region → Type 0) (ps : List (Option (List Region))) (p j : ℕ) → entry ps p ≡ Some rs → (j ≡ p → P rs → P ns) → P (regions_of (entry ps j)) → P (regions_of (entry (set ps p (Some ns)) j))
  regions_set P [] p j e f h = h
  regions_set P (y ∷ ps) zero zero e f h = f refl (subst (λ (z : Option (List Region)). P (regions_of z)) e h)
  regions_set P (y ∷ ps) zero (suc j) e f h = h
  regions_set P (y ∷ ps) (suc p) zero e f h = h
  regions_set P (y ∷ ps) (suc p) (suc j) e f h = regions_set P ps p j e (λ same. f (ap (λ n. suc n) same)) h

pub all_added : (P : Region → Type 0) (r : Region) (rs : List Region) → P r → All P rs → All P (with_added r rs)
all_added P r [] h a = all_cons P r [] h a
all_added P r (x ∷ rs) h a = cond_both (nat_le (x.start + x.pages) r.start) (x ∷ with_added r rs) (r ∷ x ∷ rs) (All P)
    (λ t. all_cons P x (with_added r rs) (a zero x (omega arith)) (all_added P r rs h (λ k d l. a (suc k) d (omega (arith, l)))))
    (λ t. all_cons P r (x ∷ rs) h a)

pub sum_added : (f : Region → ℕ) (r : Region) (rs : List Region) → sum_by f (with_added r rs) ≡ f r + sum_by f rs
sum_added f r [] = sum_by-cons f r []
sum_added f r (x ∷ rs) = cond_both (nat_le (x.start + x.pages) r.start) (x ∷ with_added r rs) (r ∷ x ∷ rs) (λ l. sum_by f l ≡ f r + sum_by f (x ∷ rs))
    (λ t. omega (arith, sum_by-cons f x (with_added r rs), sum_by-cons f x rs, sum_added f r rs))
    (λ t. sum_by-cons f r (x ∷ rs))

pub length_added : (r : Region) (rs : List Region) → length (with_added r rs) ≡ length rs + 1
length_added r [] = refl
length_added r (x ∷ rs) = cond_both (nat_le (x.start + x.pages) r.start) (x ∷ with_added r rs) (r ∷ x ∷ rs) (λ l. length l ≡ length (x ∷ rs) + 1)
    (λ t. let later = length_added r rs in omega (arith, later))
    (λ t. omega arith)

pub found_added : (q : Region → Bool) (r : Region) (rs : List Region) → q r ≡ false → find q (with_added r rs) ≡ find q rs
found_added q r [] e = ap (λ b. cond b (Some r) None) e
found_added q r (x ∷ rs) e = cond_both (nat_le (x.start + x.pages) r.start) (x ∷ with_added r rs) (r ∷ x ∷ rs) (λ l. find q l ≡ find q (x ∷ rs))
    (λ t. ap (cond (q x) (Some x)) (found_added q r rs e))
    (λ t. ap (λ b. cond b (Some r) (find q (x ∷ rs))) e)

pub length_fewer : (q : Region → Bool) (rs : List Region) → length (filter q rs) ≤ length rs
length_fewer q [] = omega arith
length_fewer q (x ∷ rs) = let later = length_fewer q rs in elim (q x) as (λ b. length (cond b (x ∷ filter q rs) (filter q rs)) ≤ suc (length rs)) [ true ↦ omega (arith, later) | false ↦ omega (arith, later) ]

pub all_filtered : (P : Region → Type 0) (q : Region → Bool) (rs : List Region) → All P rs → All P (filter q rs)
all_filtered P q [] a = a
all_filtered P q (x ∷ rs) a =
    let later : All P (filter q rs) = all_filtered P q rs (λ k d l. a (suc k) d (omega (arith, l))) in
    elim (q x) as (λ b. All P (cond b (x ∷ filter q rs) (filter q rs))) [ true ↦ all_cons P x (filter q rs) (a zero x (omega arith)) later | false ↦ later ]

module _ (n : ℕ) (g : Region → Region) where
  pub length_changed : (rs : List Region) → length (with_changed n g rs) ≡ length rs
  length_changed [] = refl
  length_changed (x ∷ rs) = ap (λ m. suc m) (length_changed rs)

  pub all_turned : (P Q : Region → Type 0) → ((r : Region) → P r → Q r → P (g r)) → (rs : List Region) → All P rs → All Q rs → All P (with_changed n g rs)
  all_turned P Q f [] a b = a
  all_turned P Q f (x ∷ rs) a b =
      let here : P x = a zero x (omega arith) in
      all_cons P (if x.id.0 == n then g x else x) (with_changed n g rs)
      (elim (x.id.0 == n) as (λ c. P (if c then g x else x)) [ true ↦ f x here (b zero x (omega arith)) | false ↦ here ])
      (all_turned P Q f rs (λ k d l. a (suc k) d (omega (arith, l))) (λ k d l. b (suc k) d (omega (arith, l))))

  pub sum_turned : (f : Region → ℕ) → ((r : Region) → f (g r) ≡ f r) → (rs : List Region) → sum_by f (with_changed n g rs) ≡ sum_by f rs
  sum_turned f same [] = refl
  sum_turned f same (x ∷ rs) =
      let here : f (if x.id.0 == n then g x else x) ≡ f x = elim (x.id.0 == n) as (λ c. f (if c then g x else x) ≡ f x) [ true ↦ same x | false ↦ refl ] in
      omega (arith, sum_by-cons f x rs, sum_by-cons f (if x.id.0 == n then g x else x) (with_changed n g rs), here, sum_turned f same rs)

  pub found_turned : {Y : Type 0} (v : Region → Y) (q : Region → Bool) → ((r : Region) → q (g r) ≡ q r) → ((r : Region) → v (g r) ≡ v r) → (rs : List Region) → option_map v (find q (with_changed n g rs)) ≡ option_map v (find q rs)
  found_turned v q same kept [] = refl
  found_turned v q same kept (x ∷ rs) = elim (x.id.0 == n) as (λ c. option_map v (cond (q (if c then g x else x)) (Some (if c then g x else x)) (find q (with_changed n g rs))) ≡ option_map v (cond (q x) (Some x) (find q rs))) [
    | true ↦ ap (λ b. option_map v (cond b (Some (g x)) (find q (with_changed n g rs)))) (same x) ∙ (elim (q x) as (λ b. option_map v (cond b (Some (g x)) (find q (with_changed n g rs))) ≡ option_map v (cond b (Some x) (find q rs))) [ true ↦ ap (λ y. Some y) (kept x) | false ↦ found_turned v q same kept rs ])
    | false ↦ (elim (q x) as (λ b. option_map v (cond b (Some x) (find q (with_changed n g rs))) ≡ option_map v (cond b (Some x) (find q rs))) [ true ↦ refl | false ↦ found_turned v q same kept rs ])
  ]
