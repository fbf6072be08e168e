-- A byte in a place where others are stored is the new one for that place, or stays.
use Rattle.std.proofs.Common.{◌≡◌, ℕ, zero, suc, ◌+◌, ◌-◌, ◌<◌, true, false, ◌&&◌, ◌⊎◌, inl, inr, ⊎_elim, List, [], ◌∷◌, length, map, get_or, All, AllPairs, refl, sym, ap, subst, ◌∙◌, eqb-true, eq-eqb, true≢false, arith}
use Rattle.std.specs.Prelude.{Option, Some, None, slice_index, nat_le, nat_lt, ◌==◌}
use Rattle.std.specs.Option.{option_map}
use Rattle.std.proofs.lemmas.Bool.{cases_Bool, cases_lt}
use Rattle.std.proofs.lemmas.Bool.Decides.{nat_tests}
use Rattle.std.proofs.lemmas.List.Elements.{All-tail, All-map}
use Rattle.genie_base.specs.Bytes.{overlaid, part}
use Rattle.genie_model.specs.State.{State, Region, Orphan}
use Rattle.genie_orderly.specs.Orderly.{OrphanPlacesRise}
use Rattle.genie_model.specs.Regions.{is_orphan, region_numbered, orphan_numbered, is_within_range, bytes_within, orphan_part, region_part, bytes_of, changed, with_bytes, stored_at, stored_in_orphan, put}
use Rattle.genie_laws.proofs.Inputs.OtherBytes.{IsOutside, put_beside}
use Rattle.genie_orderly.specs.Lemmas.ChangedRegions.{place_found, put_orphan, put_in_place}
use Rattle.genie_orderly.specs.Lemmas.FoundRegions.{number_has}
use Rattle.genie_model.specs.Lemmas.Lists.{all_has, find_has, pairs_tail}
use Rattle.genie_orderly.specs.Lemmas.ChangedRegions.{place_stored}

part_one : (i : ℕ) (bytes : List ℕ) → i < length bytes → part i 1 bytes ≡ slice_index bytes i ∷ []
part_one i [] lt = absurd (omega arith)
part_one zero (b ∷ bytes) lt = refl
part_one (suc i) (b ∷ bytes) lt = part_one i bytes (omega arith)

-- a byte stays, or is this one
abbrev Either : List ℕ → List ℕ → List ℕ → Type 0
Either old one now = (now ≡ old) ⊎ (now ≡ one)

part_inside : (x i y : ℕ) (new old : List ℕ) → x + i ≡ y → i < length new → Either (part y 1 old) (part i 1 new) (part y 1 (overlaid x new old))
part_inside x i y new [] e lt = inl refl
part_inside zero zero zero (b ∷ new) (o ∷ old) e lt = inr refl
part_inside zero (suc i) (suc y) (b ∷ new) (o ∷ old) e lt = part_inside zero i y new old (omega arith) (omega arith)
part_inside (suc x) i (suc y) new (o ∷ old) e lt = part_inside x i y new old (omega arith) lt
part_inside x i y new (o ∷ old) e lt = absurd (omega arith)

not_yet : (y place : ℕ) → y < place → (nat_le y place && nat_lt place (y + 1)) ≡ false
not_yet y place low = grind (arith, nat_tests)

here : (y place : ℕ) → (nat_le y place && nat_lt place (y + 1)) ≡ true → place ≡ y
here y place t = grind (arith, nat_tests)

among : (x n i y place : ℕ) → place ≡ y → x + i ≡ y → i < n → (nat_le x place && nat_lt place (x + n)) ≡ true
among x n i y place is e lt = grind (arith, nat_tests)

later_none : (y : ℕ) (es : List (ℕ × ℕ)) → All (λ (e : ℕ × ℕ). y < e.0) es → bytes_within y 1 es ≡ []
later_none y [] h = refl
later_none y (e ∷ es) h = let none = not_yet y e.0 (h zero e (omega arith)) in rw none (later_none y es (All-tail (λ (e : ℕ × ℕ). y < e.0) e es h))

abbrev Below : ℕ × ℕ → ℕ × ℕ → Type 0
Below a b = a.0 < b.0

-- these bytes are stored from place x on, and byte i of them in place y
module _ (x i y : ℕ) (new : List ℕ) (place : x + i ≡ y) (within : i < length new) where
  places_inside : (es : List (ℕ × ℕ)) → AllPairs Below es → Either (bytes_within y 1 es) (part i 1 new) (bytes_within y 1 (map (stored_at x new) es))
  places_inside [] rise = inl refl
  places_inside (e ∷ es) rise = ⊎_elim
      (λ (t : is_within_range y 1 e ≡ true).
      let is = here y e.0 t in
      let stored : is_within_range x (length new) e ≡ true = among x (length new) i y e.0 is place within in
      let none : bytes_within y 1 (map (stored_at x new) es) ≡ [] = later_none y (map (stored_at x new) es) (All-map (λ (f : ℕ × ℕ). y < f.0) (stored_at x new) es (λ k d lt. omega (arith, is, rise zero (suc k) d (omega arith) (omega arith), place_stored x new (get_or es k d)))) in
      let index : e.0 - x ≡ i = omega (arith, is, place) in
      rw (stored, t, none) (inr (rw index (sym (part_one i new within)))))
      (λ (f : is_within_range y 1 e ≡ false).
      let not : is_within_range y 1 (stored_at x new e) ≡ false = ap (λ n. nat_le y n && nat_lt n (y + 1)) (place_stored x new e) ∙ f in
      rw (f, not) (places_inside es (pairs_tail Below e es rise)))
      (cases_Bool (is_within_range y 1 e))

  orphan_inside : (k : ℕ) (found : Option Orphan) → ((o : Orphan) → found ≡ Some o → ((o.number == k) ≡ true) × AllPairs Below o.bytes) → Either (orphan_part y 1 found) (part i 1 new) (orphan_part y 1 (option_map (stored_in_orphan k x new) found))
  orphan_inside k None is = inl refl
  orphan_inside k (Some o) is = let h = is o refl in let number = h.0 in rw number (places_inside o.bytes h.1)

  region_inside : (k : ℕ) (found : Option Region) (old now : List ℕ) → ((r : Region) → found ≡ Some r → (r.number == k) ≡ true) → Either old (part i 1 new) now → Either (region_part y 1 found old) (part i 1 new) (region_part y 1 (option_map (changed k (with_bytes x new)) found) now)
  region_inside k None old now is h = h
  region_inside k (Some r) old now is h = let number = is r refl in rw number (part_inside x i y new r.bytes place within)

  put_inside : (s : State) (k : ℕ) → OrphanPlacesRise s → Either (bytes_of s k y 1) (part i 1 new) (bytes_of (put s k x new) k y 1)
  put_inside s k order =
      rw (place_found s (put s k x new) k (with_bytes x new) (put_in_place s k x new) k, put_orphan s k x new k) (region_inside k (region_numbered s k) _ _ (λ r e. (number_has s k r e).1)
      (orphan_inside k (orphan_numbered s k) (λ o e. let has = find_has (is_orphan k) s.orphans o e in (has.1, all_has (λ (p : Orphan). AllPairs Below p.bytes) s.orphans order o has.0))))

-- the byte at place y of j is one of those that were stored from place x of k on
pub record IsNew (k x : ℕ) (new : List ℕ) (j y : ℕ) (now : List ℕ) : Type 0 where
  pub same : j ≡ k
  pub index : ℕ
  pub place : x + index ≡ y
  pub within : index < length new
  pub byte : now ≡ part index 1 new

-- other bytes stay
pub put_gives : (s : State) (k x j y : ℕ) (new : List ℕ) → OrphanPlacesRise s → (bytes_of (put s k x new) j y 1 ≡ bytes_of s j y 1) ⊎ IsNew k x new j y (bytes_of (put s k x new) j y 1)
put_gives s k x j y new order =
    let Given : ℕ → Type 0 = λ n. (bytes_of (put s k x new) n y 1 ≡ bytes_of s n y 1) ⊎ IsNew k x new n y (bytes_of (put s k x new) n y 1) in
    let beside : (j ≡ k → IsOutside x (length new) y) → Given j = λ out. inl (put_beside k x j y new out s) in
    ⊎_elim (λ low. beside (λ _. inl low))
    (λ from. ⊎_elim
    (λ under. ⊎_elim (λ t. subst Given (eqb-true k j t) (⊎_elim inl (λ byte. inr (record { same = refl; index = y - x; place = omega arith; within = omega arith; byte = byte }))
    (put_inside x (y - x) y new (omega arith) (omega arith) s k order)))
    (λ f. beside (λ same. absurd (true≢false (sym (eq-eqb k j (sym same)) ∙ f)))) (cases_Bool (k == j)))
    (λ high. beside (λ _. inr high))
    (cases_lt y (x + length new)))
    (cases_lt y x)
