-- The table of processes after a change of one.
use Rattle.std.proofs.Common.{◌≡◌, ℕ, ◌+◌, suc, zero, true, false, List, [], ◌∷◌, ◌++◌, Option, Some, None, refl, get_or, set, map, ap, ⊎_elim, sym, ◌∙◌}
use Rattle.std.specs.Prelude.{is_some, replicate, unwrap_or}
use Rattle.std.proofs.lemmas.Bool.{both_ways, cases_Bool, cond-false, cond-true}
use Rattle.std.proofs.lemmas.List.{map-append, map-set, replicate-append-replicate}
use Rattle.genie_region.specs.declared.region.Region.{Region}
use Rattle.genie_space.specs.declared.space.Space.{Space}
use Rattle.genie_space.specs.Processes.{process_of}
use Rattle.genie_space.specs.Spaces.{AddressSpaces, set_process}

-- one process written
pub put : (page : ℕ) (spaces : List Space) (s : AddressSpaces) (i : ℕ) (v : Space) (p : Option (List Region)) → record { page = page; processes = map process_of spaces } ≡ s → process_of v ≡ p → record { page = page; processes = map process_of (set spaces i v) } ≡ set_process s i p
put page spaces s i v p is e = ap (λ (ps : List (Option (List Region))). record { page = page; processes = ps }) (map-set process_of spaces i v ∙ ap (set (map process_of spaces) i) e) ∙ ap (λ (t : AddressSpaces). set_process t i p) is

is_process : (s : Space) → is_some (process_of s) ≡ true → s.alive ≡ true
is_process s e = ⊎_elim (λ t. t) (λ f. absurd (both_ways (is_some (process_of s)) (ap is_some (cond-false s.alive (Some s.regions) None f)) e)) (cases_Bool s.alive)

pub alive_at : (spaces : List Space) (i : ℕ) (d : Space) → is_some (get_or (map process_of spaces) i None) ≡ true → (get_or spaces i d).alive ≡ true
alive_at [] i d e = absurd (both_ways false refl e)
alive_at (x ∷ xs) zero d e = is_process x e
alive_at (x ∷ xs) (suc i) d e = alive_at xs i d e

process_at : (spaces : List Space) (i : ℕ) (d : Space) → is_some (get_or (map process_of spaces) i None) ≡ true → get_or (map process_of spaces) i None ≡ process_of (get_or spaces i d)
process_at [] i d e = absurd (both_ways false refl e)
process_at (x ∷ xs) zero d e = refl
process_at (x ∷ xs) (suc i) d e = process_at xs i d e

-- the regions of a process that is alive
pub regions_at : (spaces : List Space) (i : ℕ) (d : Space) → is_some (get_or (map process_of spaces) i None) ≡ true → (get_or spaces i d).regions ≡ unwrap_or (get_or (map process_of spaces) i None) []
regions_at spaces i d e = sym (ap (λ (p : Option (List Region)). unwrap_or p []) (process_at spaces i d e ∙ cond-true (get_or spaces i d).alive (Some (get_or spaces i d).regions) None (alive_at spaces i d e)))

pub one_more : (spaces : List Space) (n : ℕ) (v : Space) → map process_of spaces ≡ replicate n None → process_of v ≡ None → map process_of (spaces ++ v ∷ []) ≡ replicate (n + 1) None
one_more spaces n v h e = map-append process_of spaces (v ∷ []) ∙ (λ i. h i ++ e i ∷ []) ∙ replicate-append-replicate n 1 None
