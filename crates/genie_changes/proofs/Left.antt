-- The orphans once transfers are pending no more.
use Rattle.std.proofs.Common.{◌≡◌, ℕ, ◌<◌, Bool, true, false, not, cond, List, [], ◌∷◌, ◌++◌, refl, sym, ap, ap₂, arith, rules, ◌∙◌, map, filter}
use Rattle.std.specs.Prelude.{Option, Some, None, find, flat_map, ◌&&◌, ◌||◌}
use Rattle.std.specs.List.{list_any}
use Rattle.std.proofs.lemmas.List.Elements.{filter-append}
use Rattle.genie_device.specs.Device.{DeviceView}
use Rattle.genie_region.specs.declared.region.Region.{Region}
use Rattle.genie_model.specs.Pending as pending
use Rattle.genie_model.specs.Space.{cut, is_named}
use Rattle.genie_model.specs.Tables.{without}
use Rattle.genie_model.specs.Lemmas.Lists.{has_any, find_has, none_found}
use Rattle.genie_model.specs.State as flat
use Rattle.genie_input.specs.Pools.{PoolState}
use Rattle.genie_kernel.specs.declared.transfer.Transfer.{Transfer}
use Rattle.genie_kernel.specs.Calls.{first_waiting, names_weakly}
use Rattle.genie_kernel.specs.Held.{PageOf}
use Rattle.genie_kernel.specs.Orphans.{covers, is_orphan, is_owned, orphan_byte, byte_under, orphan_view, orphans_view, all_places, all_numbers}
use Rattle.genie_kernel.specs.Transfers.{transfer_view, transfers_view}
use Rattle.genie_kernel.specs.Lemmas.Tidying.{any_map}
use Rattle.genie_changes.specs.Orphans.{OrphansLie}
use Rattle.genie_changes.specs.Places.{byte_at, LiesInFrames}
use Rattle.genie_changes.proofs.Places.{byte_of_page}

-- the byte at a place that is covered, and none elsewhere
abbrev pub shown : Bool → ℕ → ℕ → List (ℕ × ℕ)
shown true x b = (x, b) ∷ []
shown false x b = []

found_any : {X : Type 0} (q : X → Bool) (xs : List X) (x : X) → find q xs ≡ Some x → list_any q xs ≡ true
found_any q xs x e = let h = find_has q xs x e in has_any q x xs h.0 h.1

-- an orphan's byte doesn't hang on which transfer covers it
pub orphan_shows : (page : ℕ) (s : ℕ → List ℕ) (frame_of : PageOf → ℕ) (ts : List Transfer) (k x : ℕ) → 0 < page → ((t : Transfer) → find (covers k x) ts ≡ Some t → LiesInFrames page s frame_of t) → orphan_byte s ts k x ≡ shown (list_any (covers k x) ts) x (byte_at page s frame_of k x)
orphan_shows page s frame_of ts k x some lie = elim (find (covers k x) ts) as (λ o. find (covers k x) ts ≡ o → byte_under s x o ≡ shown (list_any (covers k x) ts) x (byte_at page s frame_of k x)) [
  | None ↦ λ e. sym (ap (λ b. shown b x (byte_at page s frame_of k x)) (none_found (covers k x) ts e))
  | Some t ↦ λ e. byte_of_page page s frame_of k x t some (lie t e) ((find_has (covers k x) ts t e).1) ∙ sym (ap (λ b. shown b x (byte_at page s frame_of k x)) (found_any (covers k x) ts t e))
] refl

-- what passes in the list without some is in the list
any_left : {X : Type 0} (p q : X → Bool) (xs : List X) → list_any q (without p xs) ≡ true → list_any q xs ≡ true
any_left p q [] e = e
any_left p q (x ∷ xs) e = elim (p x) as (λ b. list_any q (cond b xs (x ∷ without p xs)) ≡ true → (q x || list_any q xs) ≡ true) [
  | true ↦ λ h. grind (arith, rules, h)
  | false ↦ λ h. elim (q x) as (λ b. (b || list_any q (without p xs)) ≡ true → (b || list_any q xs) ≡ true) [ true ↦ λ i. refl | false ↦ λ i. any_left p q xs i ] h
] e

shown_left : (less more : Bool) (test : ℕ × ℕ → Bool) (x b : ℕ) → test (x, b) ≡ less → (less ≡ true → more ≡ true) → filter test (shown more x b) ≡ shown less x b
shown_left true true test x b e h = ap (λ c. cond c ((x, b) ∷ []) []) e
shown_left true false test x b e h = let never = h refl in absurd (cc)
shown_left false true test x b e h = ap (λ c. cond c ((x, b) ∷ []) []) e
shown_left false false test x b e h = refl

places_left : (s : ℕ → List ℕ) (ts us : List Transfer) (k : ℕ) (test : ℕ × ℕ → Bool) → ((x : ℕ) → filter test (orphan_byte s ts k x) ≡ orphan_byte s us k x) → (xs : List ℕ) → filter test (flat_map (orphan_byte s ts k) xs) ≡ flat_map (orphan_byte s us k) xs
places_left s ts us k test same [] = refl
places_left s ts us k test same (x ∷ xs) = filter-append test (orphan_byte s ts k x) (flat_map (orphan_byte s ts k) xs) ∙ ap₂ ◌++◌ (same x) (places_left s ts us k test same xs)

covered_place : (s : ℕ → List ℕ) (ts : List Transfer) (k x : ℕ) (test : ℕ × ℕ → Bool) → ((y b : ℕ) → test (y, b) ≡ list_any (covers k y) ts) → filter test (orphan_byte s ts k x) ≡ orphan_byte s ts k x
covered_place s ts k x test same = elim (find (covers k x) ts) as (λ t. find (covers k x) ts ≡ t → filter test (byte_under s x t) ≡ byte_under s x t) [
  | None ↦ λ e. refl
  | Some t ↦ λ e. ap (λ b. cond b (byte_under s x (Some t)) []) (same x _ ∙ found_any (covers k x) ts t e)
] refl

-- bytes that are covered stay
pub covered_stays : (old new : ℕ → List ℕ) (ts : List Transfer) (k : ℕ) (test : ℕ × ℕ → Bool) → ((y b : ℕ) → test (y, b) ≡ list_any (covers k y) ts) → ((x : ℕ) → orphan_byte new ts k x ≡ orphan_byte old ts k x) → (xs : List ℕ) → filter test (flat_map (orphan_byte old ts k) xs) ≡ flat_map (orphan_byte new ts k) xs
covered_stays old new ts k test same stay [] = refl
covered_stays old new ts k test same stay (x ∷ xs) = filter-append test (orphan_byte old ts k x) (flat_map (orphan_byte old ts k) xs) ∙ ap₂ ◌++◌ (covered_place old ts k x test same ∙ sym (stay x)) (covered_stays old new ts k test same stay xs)

orphan_left : (list owned : Bool) (less : Bool) → (less ≡ true → list ≡ true) → (less && not owned) ≡ true → (list && not owned) ≡ true
orphan_left list owned true h e = ap (λ b. b && not owned) (h refl) ∙ e
orphan_left list owned false h e = absurd (cc)

and_left : (a b : Bool) → (a && b) ≡ true → a ≡ true
and_left true b e = refl
and_left false b e = absurd (cc)

both_false : (less owned : Bool) (list : Bool) → (less && not owned) ≡ false → (list && not owned) ≡ true → less ≡ false
both_false less true true e h = absurd (cc)
both_false less true false e h = absurd (cc)
both_false true false list e h = absurd (cc)
both_false false false list e h = refl

module _ (page : ℕ) (s : ℕ → List ℕ) (devices : List (Option DeviceView)) (pools : List (Option PoolState)) (frame_of : PageOf → ℕ) (p : Transfer → Bool) (rs : List Region) (ts : List Transfer) (some : 0 < page) (lie : OrphansLie page s frame_of rs ts) (lie_left : OrphansLie page s frame_of rs (without p ts)) where
  abbrev us : List Transfer
  us = without p ts

  abbrev views : List flat.Transfer
  views = transfers_view s devices pools us

  cut_left : (k : ℕ) → is_orphan rs ts k ≡ true → is_orphan rs us k ≡ true → cut views (orphan_view page s ts k) ≡ orphan_view page s us k
  cut_left k was is =
      let test : ℕ × ℕ → Bool = λ e. list_any (pending.covers k e.0) views in
      ap (λ bytes. record { number = k; bytes = bytes }) (places_left s ts us k test (λ x.
      ap (filter test) (orphan_shows page s frame_of ts k x some (λ t e. lie k x t was e))
      ∙ shown_left (list_any (covers k x) us) (list_any (covers k x) ts) test x (byte_at page s frame_of k x) (any_map (pending.covers k x) (transfer_view s devices pools (first_waiting us)) us) (any_left p (covers k x) ts)
      ∙ sym (orphan_shows page s frame_of us k x some (λ t e. lie_left k x t is e))) (all_places page))

  named_left : (k : ℕ) → is_named views (orphan_view page s ts k) ≡ list_any (names_weakly k) us
  named_left k = any_map (pending.names_weakly k) (transfer_view s devices pools (first_waiting us)) us

  numbers_left : (ks : List ℕ) → map (orphan_view page s us) (filter (is_orphan rs us) ks) ≡ map (cut views) (filter (is_named views) (map (orphan_view page s ts) (filter (is_orphan rs ts) ks)))
  numbers_left [] = refl
  numbers_left (k ∷ ks) =
      let rest = numbers_left ks in
      let old = filter (is_orphan rs ts) ks in
      let new = filter (is_orphan rs us) ks in
      elim (is_orphan rs us k) as (λ b. is_orphan rs us k ≡ b → map (orphan_view page s us) (cond b (k ∷ new) new) ≡ map (cut views) (filter (is_named views) (map (orphan_view page s ts) (cond (is_orphan rs ts k) (k ∷ old) old)))) [
        | true ↦ λ is.
            let was : is_orphan rs ts k ≡ true = orphan_left (list_any (names_weakly k) ts) (is_owned rs k) (list_any (names_weakly k) us) (any_left p (names_weakly k) ts) is in
            let named : is_named views (orphan_view page s ts k) ≡ true = named_left k ∙ and_left (list_any (names_weakly k) us) (not (is_owned rs k)) is in
            ap₂ ◌∷◌ (sym (cut_left k was is)) rest
            ∙ sym (ap (λ b. map (cut views) (filter (is_named views) (map (orphan_view page s ts) (cond b (k ∷ old) old)))) was
            ∙ ap (λ b. map (cut views) (cond b (orphan_view page s ts k ∷ filter (is_named views) (map (orphan_view page s ts) old)) (filter (is_named views) (map (orphan_view page s ts) old)))) named)
        | false ↦ λ gone.
            elim (is_orphan rs ts k) as (λ c. is_orphan rs ts k ≡ c → map (orphan_view page s us) new ≡ map (cut views) (filter (is_named views) (map (orphan_view page s ts) (cond c (k ∷ old) old)))) [
              | true ↦ λ was.
                  let unnamed : is_named views (orphan_view page s ts k) ≡ false = named_left k ∙ both_false (list_any (names_weakly k) us) (is_owned rs k) (list_any (names_weakly k) ts) gone was in
                  rest ∙ sym (ap (λ b. map (cut views) (cond b (orphan_view page s ts k ∷ filter (is_named views) (map (orphan_view page s ts) old)) (filter (is_named views) (map (orphan_view page s ts) old)))) unnamed)
              | false ↦ λ was. rest
            ] refl
      ] refl

  pub orphans_shrink : orphans_view page s rs us ≡ map (cut views) (filter (is_named views) (orphans_view page s rs ts))
  orphans_shrink = numbers_left all_numbers
