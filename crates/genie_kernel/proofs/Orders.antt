-- Transfers in order, over a slab.
use Rattle.std.proofs.Common.{◌≡◌, ◌≢◌, ℕ, ◌<◌, ◌≤◌, ◌+◌, zero, suc, true, false, List, [], ◌∷◌, ◌++◌, refl, arith, ap, length, map, set, get_or, sym, ◌∙◌, length-append, ⊎_elim}
use Rattle.std.specs.Prelude.{Some, None, unwrap_or, is_some}
use Rattle.std.proofs.lemmas.List.{map-append}
use Rattle.std.proofs.lemmas.List.Quantifiers.{all_pairs_push, all_pairs_remove}
use Rattle.std.proofs.lemmas.List.Edits.{get_or-remove_below, get_or-remove_above, length-remove}
use Rattle.std.proofs.lemmas.Bool.{cases_lt}
use Rattle.std.specs.List.{remove}
use Rattle.genie_base.specs.Lemmas.Places.{any_default}
use Rattle.genie_kernel.specs.Lemmas.Searching.{map_removed}
use Rattle.std.proofs.lemmas.List.Elements.{All-push}
use Rattle.slab.specs.Slab.{Slab, get, slab_len, Updates, with_value}
use Rattle.slab.proofs.SlabLemmas.{Updates-with_value}
use Rattle.genie_kernel.specs.declared.transfer.Transfer.{Transfer}
use Rattle.genie_kernel.specs.Order.{transfer_at, transfers_of, no_transfer, IsOrder}

map_same : {X Y : Type 0} (f g : X → Y) (d : X) (xs : List X) → ((k : ℕ) → k < length xs → f (get_or xs k d) ≡ g (get_or xs k d)) → map f xs ≡ map g xs
map_same f g d [] h = refl
map_same f g d (x ∷ xs) h = λ i. h 0 (omega arith) i ∷ map_same f g d xs (λ k l. h (suc k) (omega arith)) i

module _ (old new : Slab Transfer) (order : List ℕ) (room key : ℕ) (t : Transfer) (s : IsOrder old order room) (vacant : get old key ≡ None) (u : Updates old new key (Some t)) where
  -- a vacant key is no key of the order
  apart : (k d : ℕ) → k < length order → get_or order k d ≢ key
  apart k d l e = let w : false ≡ true = sym (ap is_some (ap (get old) e ∙ vacant)) ∙ s.occupied k d l in cc

  pub transfers_pushed : transfers_of new (order ++ key ∷ []) ≡ transfers_of old order ++ t ∷ []
  transfers_pushed =
      let kept : map (transfer_at new) order ≡ map (transfer_at old) order = map_same (transfer_at new) (transfer_at old) 0 order (λ k l. ap (λ o. unwrap_or o no_transfer) (u.others (get_or order k 0) (apart k 0 l))) in
      map-append (transfer_at new) order (key ∷ []) ∙ (λ i. kept i ++ unwrap_or (u.changed i) no_transfer ∷ [])

  pub order_pushed : (more : ℕ) → room ≤ more → length order < 64 → slab_len new ≡ slab_len old + 1 → new.capacity ≡ old.capacity → IsOrder new (order ++ key ∷ []) more
  order_pushed more grown few longer capacity = record {
    occupied = All-push (λ (j : ℕ). is_some (get new j) ≡ true) order key (λ k d l. ap is_some (u.others (get_or order k d) (apart k d l)) ∙ s.occupied k d l) (ap is_some u.changed);
    apart = all_pairs_push (λ (a b : ℕ). a ≢ b) order key s.apart (λ k d l. apart k d l);
    len = let had = s.len in omega (arith, longer, had, length-append order (key ∷ []));
    most = omega (arith, few, length-append order (key ∷ []));
    slots_room = let had = s.slots_room in omega (arith, had, capacity);
    order_room = let had = s.order_room in omega (arith, had, grown);
  }

-- one key less
module _ (old new : Slab Transfer) (order : List ℕ) (room at : ℕ) (s : IsOrder old order room) (there : at < length order) (u : Updates old new (get_or order at 0) None) where
  abbrev left : List ℕ
  left = remove order at

  -- each key that is left is another one of those before
  kept_key : (k d : ℕ) → k < length left → (get_or left k d ≢ get_or order at 0) × (is_some (get old (get_or left k d)) ≡ true)
  kept_key k d l =
      let long = length-remove order at there in
      let same : get_or order at d ≡ get_or order at 0 = any_default order at d 0 there in
      ⊎_elim
      (λ below.
      let is = get_or-remove_below order at d k below there in
      (λ e. s.apart k at d below there (sym is ∙ e ∙ sym same), ap (λ key. is_some (get old key)) is ∙ s.occupied k d (omega arith)))
      (λ above.
      let is = get_or-remove_above order at d k above there in
      (λ e. s.apart at (k + 1) d (omega arith) (omega arith) (same ∙ sym e ∙ is), ap (λ key. is_some (get old key)) is ∙ s.occupied (k + 1) d (omega arith)))
      (cases_lt k at)

  still : (k d : ℕ) → k < length left → get new (get_or left k d) ≡ get old (get_or left k d)
  still k d l = u.others (get_or left k d) (kept_key k d l).0

  pub transfers_removed : transfers_of new left ≡ remove (transfers_of old order) at
  transfers_removed = map_same (transfer_at new) (transfer_at old) 0 left (λ k l. ap (λ o. unwrap_or o no_transfer) (still k 0 l)) ∙ map_removed (transfer_at old) order at there

  pub order_removed : (more : ℕ) → room ≤ more → slab_len new + 1 ≡ slab_len old → new.capacity ≡ old.capacity → IsOrder new left more
  order_removed more grown shorter capacity =
      let long = length-remove order at there in
      record {
        occupied = λ k d l. ap is_some (still k d l) ∙ (kept_key k d l).1;
        apart = all_pairs_remove (λ (a b : ℕ). a ≢ b) order at there s.apart;
        len = let had = s.len in omega (arith, long, had, shorter);
        most = let had = s.most in omega (arith, long, had);
        slots_room = let had = s.slots_room in omega (arith, had, capacity);
        order_room = let had = s.order_room in omega (arith, had, grown);
      }

map_set : {X Y : Type 0} (f g : X → Y) (d : X) (xs : List X) (i : ℕ) (y : Y) → i < length xs → g (get_or xs i d) ≡ y → ((j : ℕ) → j < length xs → j ≢ i → g (get_or xs j d) ≡ f (get_or xs j d)) → map g xs ≡ set (map f xs) i y
map_set f g d [] i y l here others = absurd (omega arith)
map_set f g d (x ∷ xs) zero y l here others = λ i. here i ∷ map_same g f d xs (λ k m. others (suc k) (omega arith) (λ e. absurd (omega (arith, e)))) i
map_set f g d (x ∷ xs) (suc n) y l here others = λ i. others 0 (omega arith) (λ e. absurd (omega (arith, e))) i ∷ map_set f g d xs n y (omega arith) here (λ j m ne. others (suc j) (omega arith) (λ e. ne (omega (arith, e)))) i

-- two places of the order have different keys
keys_differ : (slots : Slab Transfer) (order : List ℕ) (room i j : ℕ) → IsOrder slots order room → i < length order → j < length order → j ≢ i → get_or order j 0 ≢ get_or order i 0
keys_differ slots order room i j s li lj ne e = ⊎_elim
    (λ (low : j < i). s.apart j i 0 low li e)
    (λ high. s.apart i j 0 (omega (arith, high, ne)) lj (sym e))
    (cases_lt j i)

pub transfers_changed : (slots : Slab Transfer) (order : List ℕ) (room i : ℕ) (t : Transfer) → IsOrder slots order room → i < length order → transfers_of (with_value slots (get_or order i 0) t) order ≡ set (transfers_of slots order) i t
transfers_changed slots order room i t s l =
    let u : Updates slots (with_value slots (get_or order i 0) t) (get_or order i 0) (Some t) = Updates-with_value slots (get_or order i 0) t (s.occupied i 0 l) in
    map_set (transfer_at slots) (transfer_at (with_value slots (get_or order i 0) t)) 0 order i t l
    (ap (λ o. unwrap_or o no_transfer) u.changed)
    (λ j m ne. ap (λ o. unwrap_or o no_transfer) (u.others (get_or order j 0) (keys_differ slots order room i j s l m ne)))
