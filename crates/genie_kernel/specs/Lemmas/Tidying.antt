-- The orphans of the view are tidy: nothing is there but what weak transfers name and cover.
use Rattle.std.proofs.Common.{◌≡◌, ℕ, List, [], ◌∷◌, ◌++◌, Bool, true, false, cond, map, filter, refl, ap, ap₂, arith, rules, ◌∙◌}
use Rattle.std.specs.Prelude.{Option, Some, None, find, flat_map, ◌||◌}
use Rattle.std.specs.List.{list_any}
use Rattle.std.proofs.lemmas.List.Elements.{filter-append}
use Rattle.genie_device.specs.Device.{DeviceView}
use Rattle.genie_region.specs.declared.region.Region.{Region}
use Rattle.genie_model.specs.Pending as pending
use Rattle.genie_model.specs.Space.{cut, is_named, tidy}
use Rattle.genie_kernel.specs.declared.kernel.Kernel.{Kernel}
use Rattle.genie_input.specs.Pools.{PoolState}
use Rattle.genie_kernel.specs.declared.transfer.Transfer.{Transfer}
use Rattle.genie_kernel.specs.Calls.{first_waiting}
use Rattle.genie_kernel.specs.Orphans.{covers, is_orphan, orphan_byte, byte_under, orphan_view, orphans_view, all_places, all_numbers}
use Rattle.genie_kernel.specs.Regions.{owned_regions}
use Rattle.genie_kernel.specs.Transfers.{transfer_view, transfers_view}
use Rattle.genie_kernel.specs.View.{Bytes, state_of}

pub any_map : {X Y : Type 0} (q : Y → Bool) (f : X → Y) (xs : List X) → list_any q (map f xs) ≡ list_any (λ x. q (f x)) xs
any_map q f [] = refl
any_map q f (x ∷ xs) = ap (λ b. q (f x) || b) (any_map q f xs)

-- what a search finds passes
found_any : {X : Type 0} (q : X → Bool) (xs : List X) (x : X) → find q xs ≡ Some x → list_any q xs ≡ true
found_any q [] x e = absurd (cc)
found_any q (y ∷ ys) x e = elim (q y) as (λ b. cond b (Some y) (find q ys) ≡ Some x → (b || list_any q ys) ≡ true) [ true ↦ λ h. refl | false ↦ λ h. found_any q ys x h ] e

covered_place : (s : ℕ → List ℕ) (ts : List Transfer) (k x : ℕ) (test : ℕ × ℕ → Bool) → ((b : ℕ) → test (x, b) ≡ list_any (covers k x) ts) → filter test (orphan_byte s ts k x) ≡ orphan_byte s ts k x
covered_place s ts k x test same = elim (find (covers k x) ts) as (λ t. find (covers k x) ts ≡ t → filter test (byte_under s x t) ≡ byte_under s x t) [
  | None ↦ λ e. refl
  | Some t ↦ λ e. ap (λ b. cond b (byte_under s x (Some t)) []) (same _ ∙ found_any (covers k x) ts t e)
] refl

covered_places : (s : ℕ → List ℕ) (ts : List Transfer) (k : ℕ) (test : ℕ × ℕ → Bool) → ((x b : ℕ) → test (x, b) ≡ list_any (covers k x) ts) → (xs : List ℕ) → filter test (flat_map (orphan_byte s ts k) xs) ≡ flat_map (orphan_byte s ts k) xs
covered_places s ts k test same [] = refl
covered_places s ts k test same (x ∷ xs) = filter-append test (orphan_byte s ts k x) (flat_map (orphan_byte s ts k) xs) ∙ ap₂ ◌++◌ (covered_place s ts k x test (same x)) (covered_places s ts k test same xs)

cut_view : (page : ℕ) (s : ℕ → List ℕ) (devices : List (Option DeviceView)) (pools : List (Option PoolState)) (ts : List Transfer) (k : ℕ) → cut (transfers_view s devices pools ts) (orphan_view page s ts k) ≡ orphan_view page s ts k
cut_view page s devices pools ts k =
    let same : (x b : ℕ) → list_any (pending.covers k x) (transfers_view s devices pools ts) ≡ list_any (covers k x) ts = λ x b. any_map (pending.covers k x) (transfer_view s devices pools (first_waiting ts)) ts in
    ap (λ bytes. record { number = k; bytes = bytes }) (covered_places s ts k (λ (e : ℕ × ℕ). list_any (pending.covers k e.0) (transfers_view s devices pools ts)) same (all_places page))

tidy_numbers : (page : ℕ) (s : ℕ → List ℕ) (devices : List (Option DeviceView)) (pools : List (Option PoolState)) (rs : List Region) (ts : List Transfer) (ks : List ℕ)
    → map (cut (transfers_view s devices pools ts)) (filter (is_named (transfers_view s devices pools ts)) (map (orphan_view page s ts) (filter (is_orphan rs ts) ks))) ≡ map (orphan_view page s ts) (filter (is_orphan rs ts) ks)
tidy_numbers page s devices pools rs ts [] = refl
tidy_numbers page s devices pools rs ts (k ∷ ks) =
    let T = transfers_view s devices pools ts in
    elim (is_orphan rs ts k) as (λ b. is_orphan rs ts k ≡ b → map (cut T) (filter (is_named T) (map (orphan_view page s ts) (cond b (k ∷ filter (is_orphan rs ts) ks) (filter (is_orphan rs ts) ks)))) ≡ map (orphan_view page s ts) (cond b (k ∷ filter (is_orphan rs ts) ks) (filter (is_orphan rs ts) ks))) [
      | true ↦ λ e.
          let named : is_named T (orphan_view page s ts k) ≡ true = any_map (pending.names_weakly k) (transfer_view s devices pools (first_waiting ts)) ts ∙ grind (arith, rules, e) in
          ap (λ b. map (cut T) (cond b (orphan_view page s ts k ∷ filter (is_named T) (map (orphan_view page s ts) (filter (is_orphan rs ts) ks))) (filter (is_named T) (map (orphan_view page s ts) (filter (is_orphan rs ts) ks))))) named
          ∙ ap₂ ◌∷◌ (cut_view page s devices pools ts k) (tidy_numbers page s devices pools rs ts ks)
      | false ↦ λ e. tidy_numbers page s devices pools rs ts ks
    ] refl

-- so is the whole state
pub tidy_orphans : (page : ℕ) (s : ℕ → List ℕ) (devices : List (Option DeviceView)) (pools : List (Option PoolState)) (rs : List Region) (ts : List Transfer)
    → map (cut (transfers_view s devices pools ts)) (filter (is_named (transfers_view s devices pools ts)) (orphans_view page s rs ts)) ≡ orphans_view page s rs ts
tidy_orphans page s devices pools rs ts = tidy_numbers page s devices pools rs ts all_numbers

pub tidy_view : (k : Kernel) (b : Bytes) → tidy (state_of k b) ≡ state_of k b
tidy_view k b = ap (λ os. record (state_of k b) { orphans = os }) (tidy_orphans k.config.page b.seen.kept_bytes k.devices k.pools (owned_regions k.spaces.processes) k.transfers)
