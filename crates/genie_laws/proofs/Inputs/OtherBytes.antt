-- Bytes beside those that are stored stay, and so do all bytes of orphans of which nothing is to be cut.
use Rattle.std.proofs.Common.{◌≡◌, ℕ, zero, suc, ◌+◌, ◌<◌, ◌≤◌, Bool, true, false, ◌&&◌, ◌⊎◌, inl, inr, ⊎_elim, List, [], ◌∷◌, length, map, filter, All, refl, sym, ap, ap₂, subst, ◌∙◌, eqb-true, arith, ◌++◌}
use Rattle.std.specs.Prelude.{Option, Some, None, slice_index, nat_le, nat_lt, ◌-◌, ◌==◌}
use Rattle.std.specs.Option.{option_map}
use Rattle.std.specs.List.{list_any}
use Rattle.std.proofs.lemmas.Bool.{cond_both}
use Rattle.std.proofs.lemmas.Bool.Decides.{nat_tests}
use Rattle.std.proofs.lemmas.List.Elements.{All-head, All-tail, All-map, All-weaker, filter_passes}
use Rattle.genie_base.specs.Bytes.{overlaid, part}
use Rattle.genie_model.specs.State.{State, Region, Orphan, Transfer}
use Rattle.genie_model.specs.Pending.{covers}
use Rattle.genie_model.specs.Regions.{is_orphan, region_numbered, orphan_numbered, is_within_range, byte_within, bytes_within, orphan_part, region_part, bytes_of, changed, with_bytes, stored_at, stored_in_orphan, put}
use Rattle.genie_model.specs.Space.{cut, is_named, tidy}
use Rattle.genie_orderly.specs.Lemmas.ChangedRegions.{place_found, put_orphan, put_in_place}
use Rattle.genie_orderly.specs.Lemmas.FoundRegions.{number_has}
use Rattle.genie_model.specs.Lemmas.Lists.{find_has}
use Rattle.genie_orderly.specs.Lemmas.ChangedRegions.{place_stored}

-- place y is none of the n from place x on
abbrev pub IsOutside : ℕ → ℕ → ℕ → Type 0
IsOutside x n y = (y < x) ⊎ (x + n ≤ y)

part_beside : (x y : ℕ) (new old : List ℕ) → IsOutside x (length new) y → part y 1 (overlaid x new old) ≡ part y 1 old
part_beside x y new [] out = refl
part_beside (suc x) zero new (o ∷ old) out = refl
part_beside (suc x) (suc y) new (o ∷ old) out = part_beside x y new old (⊎_elim (λ low. inl (omega arith)) (λ high. inr (omega arith)) out)
part_beside zero y [] (o ∷ old) out = refl
part_beside zero zero (b ∷ new) (o ∷ old) out = ⊎_elim (λ low. absurd (omega arith)) (λ high. absurd (omega arith)) out
part_beside zero (suc y) (b ∷ new) (o ∷ old) out = part_beside zero y new old (⊎_elim (λ low. absurd (omega arith)) (λ high. inr (omega arith)) out)

not_here : (x n y place : ℕ) → IsOutside x n y → (nat_le x place && nat_lt place (x + n)) ≡ true → (nat_le y place && nat_lt place (y + 1)) ≡ false
not_here x n y place (inl low) t = grind (arith, nat_tests)
not_here x n y place (inr high) t = grind (arith, nat_tests)

stored_beside : (x y : ℕ) (new : List ℕ) → IsOutside x (length new) y → (e : ℕ × ℕ) → byte_within y 1 (stored_at x new e) ≡ byte_within y 1 e
stored_beside x y new out e = cond_both (is_within_range x (length new) e) (e.0, slice_index new (e.0 - x)) e (λ (d : ℕ × ℕ). byte_within y 1 d ≡ byte_within y 1 e)
    (λ t. rw (not_here x (length new) y e.0 out t) refl) (λ _. refl)

mapped_beside : (y : ℕ) (f : ℕ × ℕ → ℕ × ℕ) → ((e : ℕ × ℕ) → byte_within y 1 (f e) ≡ byte_within y 1 e) → (es : List (ℕ × ℕ)) → bytes_within y 1 (map f es) ≡ bytes_within y 1 es
mapped_beside y f same [] = refl
mapped_beside y f same (e ∷ es) = ap₂ ◌++◌ (same e) (mapped_beside y f same es)

-- region or orphan k has other bytes from place x on, but none at place y where it is j
module _ (k x j y : ℕ) (new : List ℕ) (out : j ≡ k → IsOutside x (length new) y) where
  orphan_beside : (found : Option Orphan) → ((o : Orphan) → found ≡ Some o → (o.number == j) ≡ true) → orphan_part y 1 (option_map (stored_in_orphan k x new) found) ≡ orphan_part y 1 found
  orphan_beside None is = refl
  orphan_beside (Some o) is = cond_both (o.number == k) (record o { bytes = map (stored_at x new) o.bytes }) o (λ (q : Orphan). bytes_within y 1 q.bytes ≡ bytes_within y 1 o.bytes)
      (λ t. mapped_beside y (stored_at x new) (stored_beside x y new (out (sym (eqb-true o.number j (is o refl)) ∙ eqb-true o.number k t))) o.bytes) (λ _. refl)

  region_beside : (found : Option Region) (a b : List ℕ) → ((r : Region) → found ≡ Some r → (r.number == j) ≡ true) → a ≡ b → region_part y 1 (option_map (changed k (with_bytes x new)) found) a ≡ region_part y 1 found b
  region_beside None a b is e = e
  region_beside (Some r) a b is e = cond_both (r.number == k) (with_bytes x new r) r (λ (q : Region). part y 1 q.bytes ≡ part y 1 r.bytes)
      (λ t. part_beside x y new r.bytes (out (sym (eqb-true r.number j (is r refl)) ∙ eqb-true r.number k t))) (λ _. refl)

  pub put_beside : (s : State) → bytes_of (put s k x new) j y 1 ≡ bytes_of s j y 1
  put_beside s =
      ap₂ (λ r o. region_part y 1 r (orphan_part y 1 o)) (place_found s (put s k x new) k (with_bytes x new) (put_in_place s k x new) j) (put_orphan s k x new j)
      ∙ region_beside (region_numbered s j) _ _ (λ r e. (number_has s j r e).1) (orphan_beside (orphan_numbered s j) (λ o e. (find_has (is_orphan j) s.orphans o e).1))

-- pending weak transfers name the orphan and cover its places
abbrev pub IsNeat : List Transfer → Orphan → Type 0
IsNeat transfers o = (is_named transfers o ≡ true) × All (λ (e : ℕ × ℕ). list_any (covers o.number e.0) transfers ≡ true) o.bytes

pub neat_from_tidy : (s : State) → tidy s ≡ s → All (IsNeat s.transfers) s.orphans
neat_from_tidy s e = subst (All (IsNeat s.transfers)) (ap (λ (u : State). u.orphans) e)
    (All-map (IsNeat s.transfers) (cut s.transfers) (filter (is_named s.transfers) s.orphans)
    (All-weaker (λ o. is_named s.transfers o ≡ true) (λ o. IsNeat s.transfers (cut s.transfers o)) (λ o named. (named, filter_passes (λ (e : ℕ × ℕ). list_any (covers o.number e.0) s.transfers) o.bytes)) (filter (is_named s.transfers) s.orphans) (filter_passes (is_named s.transfers) s.orphans)))

filter_none : {X : Type 0} (p : X → Bool) (xs : List X) → All (λ x. p x ≡ true) xs → filter p xs ≡ xs
filter_none p [] h = refl
filter_none p (x ∷ xs) h = let first : p x ≡ true = All-head (λ y. p y ≡ true) x xs h in rw first (ap (λ l. x ∷ l) (filter_none p xs (All-tail (λ y. p y ≡ true) x xs h)))

neat_stays : (transfers : List Transfer) (orphans : List Orphan) → All (IsNeat transfers) orphans → map (cut transfers) (filter (is_named transfers) orphans) ≡ orphans
neat_stays transfers [] h = refl
neat_stays transfers (o ∷ orphans) h =
    let first = All-head (IsNeat transfers) o orphans h in
    let named : is_named transfers o ≡ true = first.0 in
    rw named (ap₂ ◌∷◌ (ap (λ l. record o { bytes = l }) (filter_none (λ (e : ℕ × ℕ). list_any (covers o.number e.0) transfers) o.bytes first.1)) (neat_stays transfers orphans (All-tail (IsNeat transfers) o orphans h)))

pub tidy_neat : (s : State) → All (IsNeat s.transfers) s.orphans → tidy s ≡ s
tidy_neat s h = ap (λ l. record s { orphans = l }) (neat_stays s.transfers s.orphans h)

-- other bytes in the same places
pub neat_stored : (transfers : List Transfer) (k x : ℕ) (new : List ℕ) (orphans : List Orphan) → All (IsNeat transfers) orphans → All (IsNeat transfers) (map (stored_in_orphan k x new) orphans)
neat_stored transfers k x new orphans h = All-map (IsNeat transfers) (stored_in_orphan k x new) orphans
    (All-weaker (IsNeat transfers) (λ o. IsNeat transfers (stored_in_orphan k x new o))
    (λ o neat. cond_both (o.number == k) (record o { bytes = map (stored_at x new) o.bytes }) o (IsNeat transfers)
    (λ _. let Covered : ℕ × ℕ → Type 0 = λ e. list_any (covers o.number e.0) transfers ≡ true in
    (neat.0, All-map Covered (stored_at x new) o.bytes (All-weaker Covered (λ e. Covered (stored_at x new e)) (λ e c. rw (place_stored x new e) c) o.bytes neat.1)))
    (λ _. neat)) orphans h)
