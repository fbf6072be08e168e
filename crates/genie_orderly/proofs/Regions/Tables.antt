-- What is so of the regions of each process, where the table of processes changes.
use Rattle.std.proofs.Common.{◌≡◌, ℕ, zero, suc, Bool, true, false, ◌==◌, List, [], ◌∷◌, ◌++◌, map, filter, get_or, All, AllPairs, ⊎_elim, inl, inr, refl, sym, ap, subst, arith}
use Rattle.std.specs.Prelude.{Option, Some, None, slice_set, ◌≢◌}
use Rattle.std.proofs.lemmas.Bool.{cond_both}
use Rattle.std.proofs.lemmas.List.{map-append}
use Rattle.std.proofs.lemmas.List.Elements.{All-nil, All-cons, All-head, All-tail, All-map, All-weaker}
use Rattle.std.proofs.lemmas.List.Kept.{AllPairs-cons}
use Rattle.genie_model.specs.State.{Region, Process}
use Rattle.genie_model.specs.Tables.{entry}
use Rattle.genie_model.specs.Regions.{regions_of, change_process, changed}
use Rattle.genie_model.specs.Lemmas.Lists.{Has, has_at, has_left, has_right, has_either, has_map, pairs_head, pairs_tail, pairs_right, entry_map, entry_set}
use Rattle.genie_orderly.specs.Lemmas.FoundRegions.{all_of, numbers_in, Differ}

-- what is so of the regions of each process
abbrev pub Regs : (ℕ → Region → Type 0) → List (Option Process) → Type 0
Regs F ps = (p : ℕ) → All (F p) (regions_of (entry ps p))

pub regs_map : (F G : ℕ → Region → Type 0) (g : Process → Process) (ps : List (Option Process)) → ((p : ℕ) (x : Process) → All (F p) x.regions → All (G p) (g x).regions) → Regs F ps → Regs G (map (change_process g) ps)
regs_map F G g ps so h p = subst (λ (o : Option Process). All (G p) (regions_of o)) (sym (entry_map (change_process g) refl ps p)) (each (entry ps p) (h p))
  where
    each : (o : Option Process) → All (F p) (regions_of o) → All (G p) (regions_of (change_process g o))
    each None a = All-nil (G p)
    each (Some x) a = so p x a

pub regs_set : (F : ℕ → Region → Type 0) (ps : List (Option Process)) (q : ℕ) (new : Option Process) → All (F q) (regions_of new) → Regs F ps → Regs F (slice_set ps q new)
regs_set F ps q new here h p = entry_set (λ (o : Option Process). All (F p) (regions_of o)) ps q p new (h p) (λ same. subst (λ i. All (F i) (regions_of new)) (sym same) here)

pub regs_weaker : (F G : ℕ → Region → Type 0) (ps : List (Option Process)) → ((p : ℕ) (r : Region) → F p r → G p r) → Regs F ps → Regs G ps
regs_weaker F G ps so h p = All-weaker (F p) (G p) (λ r. so p r) (regions_of (entry ps p)) (h p)

-- one region is changed, which keeps its number
pub all_changed : (P Q : Region → Type 0) (k : ℕ) (f : Region → Region) → ((r : Region) → (r.number == k) ≡ true → P r → Q (f r)) → ((r : Region) → (r.number == k) ≡ false → P r → Q r) → (rs : List Region) → All P rs → All Q (map (changed k f) rs)
all_changed P Q k f here beside rs h = All-map Q (changed k f) rs (All-weaker P (λ r. Q (changed k f r)) (λ r p. cond_both (r.number == k) (f r) r Q (λ y. here r y p) (λ n. beside r n p)) rs h)

pub pairs_left : {X : Type 0} (R : X → X → Type 0) (xs ys : List X) → AllPairs R (xs ++ ys) → AllPairs R xs
pairs_left R [] ys h = λ i j d l m. absurd (omega arith)
pairs_left R (x ∷ xs) ys h = AllPairs-cons R x xs (λ i d lt. pairs_head R x (xs ++ ys) h (get_or xs i d) (has_left (get_or xs i d) xs ys (has_at xs i d lt))) (pairs_left R xs ys (pairs_tail R x (xs ++ ys) h))

-- what is kept by a test is so, and passes it
pub all_kept : {X : Type 0} (P Q : X → Type 0) (keep : X → Bool) → ((x : X) → keep x ≡ true → P x → Q x) → (xs : List X) → All P xs → All Q (filter keep xs)
all_kept P Q keep so [] h = All-nil Q
all_kept P Q keep so (x ∷ xs) h =
    let rest = all_kept P Q keep so xs (All-tail P x xs h) in
    cond_both (keep x) (x ∷ filter keep xs) (filter keep xs) (All Q) (λ y. All-cons Q x (filter keep xs) (so x y (All-head P x xs h)) rest) (λ _. rest)

-- a region of all processes is one of some process
pub place_of_region : (ps : List (Option Process)) (r : Region) → Has r (all_of ps) → (p : ℕ) × Has r (regions_of (entry ps p))
place_of_region [] r h = absurd h
place_of_region (x ∷ ps) r h = ⊎_elim (λ here. (zero, here)) (λ later. let at = place_of_region ps r later in (suc at.0, at.1)) (has_either r (regions_of x) (all_of ps) h)

pairs_cross : {X : Type 0} (R : X → X → Type 0) (xs ys : List X) → AllPairs R (xs ++ ys) → (x y : X) → Has x xs → Has y ys → R x y
pairs_cross R [] ys h x y a b = absurd a
pairs_cross R (z ∷ xs) ys h x y (inl e) b = subst (λ w. R w y) e (pairs_head R z (xs ++ ys) h y (has_right y xs ys b))
pairs_cross R (z ∷ xs) ys h x y (inr a) b = pairs_cross R xs ys (pairs_tail R z (xs ++ ys) h) x y a b

has_all_at : (ps : List (Option Process)) (p : ℕ) (r : Region) → Has r (regions_of (entry ps p)) → Has r (all_of ps)
has_all_at [] p r h = absurd h
has_all_at (x ∷ ps) zero r h = has_left r (regions_of x) (all_of ps) h
has_all_at (x ∷ ps) (suc p) r h = has_right r (regions_of x) (all_of ps) (has_all_at ps p r h)

apart : (o : Option Process) (ps : List (Option Process)) → Differ (numbers_in (all_of (o ∷ ps))) → (r x : Region) → Has r (regions_of o) → Has x (all_of ps) → r.number ≡ x.number → ⊥
apart o ps h r x a b e = pairs_cross (λ (m n : ℕ). m ≢ n) (numbers_in (regions_of o)) (numbers_in (all_of ps)) (subst Differ (map-append (λ (y : Region). y.number) (regions_of o) (all_of ps)) h) r.number x.number (has_map (λ (y : Region). y.number) r (regions_of o) a) (has_map (λ (y : Region). y.number) x (all_of ps) b) e

pub later_differ : (o : Option Process) (ps : List (Option Process)) → Differ (numbers_in (all_of (o ∷ ps))) → Differ (numbers_in (all_of ps))
later_differ o ps h = pairs_right (λ (m n : ℕ). m ≢ n) (numbers_in (regions_of o)) (numbers_in (all_of ps)) (subst Differ (map-append (λ (y : Region). y.number) (regions_of o) (all_of ps)) h)

-- regions of one number are of one process
pub same_place : (ps : List (Option Process)) → Differ (numbers_in (all_of ps)) → (p q : ℕ) (r x : Region) → Has r (regions_of (entry ps p)) → Has x (regions_of (entry ps q)) → r.number ≡ x.number → p ≡ q
same_place [] h p q r x a b e = absurd a
same_place (o ∷ ps) h zero zero r x a b e = refl
same_place (o ∷ ps) h zero (suc q) r x a b e = absurd (apart o ps h r x a (has_all_at ps q x b) e)
same_place (o ∷ ps) h (suc p) zero r x a b e = absurd (apart o ps h x r b (has_all_at ps p r a) (sym e))
same_place (o ∷ ps) h (suc p) (suc q) r x a b e = ap suc (same_place ps (later_differ o ps h) p q r x a b e)
