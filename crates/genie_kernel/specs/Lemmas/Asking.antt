-- What is asked of the flat state is asked of the kernel's own tables.
use Rattle.std.proofs.Common.{◌≡◌, ℕ, ◌-◌, Bool, true, false, not, List, [], ◌∷◌, refl, ap, ap₂, ◌∙◌, map, length, get_or}
use Rattle.std.specs.Prelude.{Option, Some, None, find, sum_by, is_some, ◌&&◌, ◌||◌, if◌then◌else◌}
use Rattle.std.specs.List.{list_any, range_with_len}
use Rattle.std.specs.Option.{option_map}
use Rattle.std.proofs.lemmas.List.{length-map}
use Rattle.genie_base.specs.Regions.{is_free, is_apart, is_reached, place, reach}
use Rattle.genie_region.specs.declared.region.Region.{Region}
use Rattle.genie_region.specs.Layouts.{extent, starts_at}
use Rattle.genie_refusal.specs.Found.{found}
use Rattle.genie_model.specs.Inputs as inputs
use Rattle.genie_model.specs.Pending as pending
use Rattle.genie_model.specs.Refusing.{accessible_pages, is_weak_input_into as model_into}
use Rattle.genie_model.specs.Regions as model
use Rattle.genie_model.specs.Space.{region_from}
use Rattle.genie_model.specs.State as flat
use Rattle.genie_model.specs.Tables.{entry}
use Rattle.genie_kernel.specs.declared.kernel.Kernel.{Kernel}
use Rattle.genie_kernel.specs.declared.transfer.Transfer.{Transfer}
use Rattle.genie_kernel.specs.Asked.{found_as, counted_pages, pages_in, cost_of, is_reusable}
use Rattle.genie_kernel.specs.Calls.{first_waiting, has_number, is_weak_input_into}
use Rattle.genie_kernel.specs.Regions.{regions_of, region_view, process_view}
use Rattle.genie_kernel.specs.Transfers.{transfer_view}
use Rattle.genie_kernel.specs.View.{Bytes, state_of}
use Rattle.genie_kernel.specs.Lemmas.Blind.{sum_map, all_map, pages_all}
use Rattle.genie_kernel.specs.Lemmas.Processes.{alive_view, regions_view, region_from_view, find_map, process_entry}
use Rattle.genie_kernel.specs.Lemmas.Tidying.{any_map}

map_map : {X Y Z : Type 0} (f : Y → Z) (v : X → Y) (g : X → Z) → ((x : X) → f (v x) ≡ g x) → (o : Option X) → option_map f (option_map v o) ≡ option_map g o
map_map f v g h None = refl
map_map f v g h (Some x) = ap Some (h x)

found_some : {X : Type 0} (p : X → Bool) (xs : List X) → is_some (find p xs) ≡ list_any p xs
found_some p [] = refl
found_some p (x ∷ xs) = elim (p x) as (λ b. is_some (if b then Some x else find p xs) ≡ (b || list_any p xs)) [ true ↦ refl | false ↦ found_some p xs ]

any_same : {X : Type 0} (p q : X → Bool) (xs : List X) → ((x : X) → p x ≡ q x) → list_any p xs ≡ list_any q xs
any_same p q [] h = refl
any_same p q (x ∷ xs) h = ap₂ ◌||◌ (h x) (any_same p q xs h)

pub no_region : (p : Option (List Region)) → is_some p ≡ false → regions_of p ≡ []
no_region None e = refl
no_region (Some rs) e = absurd (cc)

module _ (k : Kernel) (b : Bytes) where
  abbrev s : flat.State
  s = state_of k b

  abbrev v : Region → flat.Region
  v = region_view b.seen.entry_bytes

  abbrev tv : Transfer → flat.Transfer
  tv = transfer_view b.seen.kept_bytes k.devices k.pools (first_waiting k.transfers)

  abbrev rs : ℕ → List Region
  rs p = regions_of (entry k.spaces.processes p)

  pub ask_regions : (p : ℕ) → model.regions_at s p ≡ map v (rs p)
  ask_regions p = regions_view b.seen.entry_bytes k.spaces.processes k.queues p

  pub ask_alive : (p : ℕ) → model.is_alive s p ≡ is_some (entry k.spaces.processes p)
  ask_alive p = alive_view b.seen.entry_bytes k.spaces.processes k.queues p

  pub ask_count : (p : ℕ) → length (model.regions_at s p) ≡ length (rs p)
  ask_count p = ap length (ask_regions p) ∙ length-map (rs p) v

  pub ask_free : (p g n : ℕ) → is_free model.extent_of g n (model.regions_at s p) ≡ is_free extent g n (rs p)
  ask_free p g n = ap (is_free model.extent_of g n) (ask_regions p) ∙ all_map (λ r. is_apart g n (model.extent_of r)) v (rs p)

  pub ask_place : (p n : ℕ) → model.place_of s p n ≡ place extent n (rs p)
  ask_place p n = λ i. find (λ start. ask_free p start n i) (range_with_len 512 (513 - n))

  pub ask_reach : (p a n : ℕ) → option_map found (model.reach_of s p a n) ≡ option_map found_as (reach extent k.config.page a n (rs p))
  ask_reach p a n =
      let q : flat.Region → Bool = λ r. is_reached k.config.page a n (model.extent_of r) in
      ap (λ l. option_map found (find q l)) (ask_regions p) ∙ ap (option_map found) (find_map q v (rs p)) ∙ map_map found v found_as (λ r. refl) (reach extent k.config.page a n (rs p))

  pub ask_start : (p g : ℕ) → option_map found (region_from s p g) ≡ option_map found_as (find (starts_at g) (rs p))
  ask_start p g = ap (option_map found) (region_from_view k b p g) ∙ map_map found v found_as (λ r. refl) (find (starts_at g) (rs p))

  pub ask_accessible : (p : ℕ) → sum_by accessible_pages (model.regions_at s p) ≡ sum_by (counted_pages true) (rs p)
  ask_accessible p = ap (sum_by accessible_pages) (ask_regions p) ∙ sum_map accessible_pages v (rs p)

  pub ask_committed : model.committed s ≡ sum_by pages_in k.spaces.processes
  ask_committed = pages_all b.seen.entry_bytes k.spaces.processes k.queues

  pub ask_pending : length s.transfers ≡ length k.transfers
  ask_pending = length-map k.transfers tv

  pub ask_wired : pending.wired s ≡ sum_by (cost_of k.config.page) k.transfers
  ask_wired = sum_map (pending.cost_of k.config.page) tv k.transfers

  pub ask_phase : (n : ℕ) → option_map (λ (t : flat.Transfer). t.phase) (pending.pending s n) ≡ option_map (λ (t : Transfer). t.phase) (find (has_number n) k.transfers)
  ask_phase n = ap (option_map (λ (t : flat.Transfer). t.phase)) (find_map (pending.is_numbered n) tv k.transfers) ∙ map_map (λ (t : flat.Transfer). t.phase) tv (λ (t : Transfer). t.phase) (λ t. refl) (find (has_number n) k.transfers)

  pub ask_weak : (n : ℕ) → list_any (model_into n) s.transfers ≡ list_any (is_weak_input_into n) k.transfers
  ask_weak n = any_map (model_into n) tv k.transfers

  ask_one : (p n j : ℕ) → inputs.is_reusable s p n j ≡ is_reusable (rs p) k.transfers n j
  ask_one p n j = ap₂ (λ x y. x && not y) (ap (list_any (inputs.has_pages j n)) (ask_regions p) ∙ any_map (inputs.has_pages j n) v (rs p)) (any_map (pending.names j) tv k.transfers)

  queue_at : (p : Option (List Region)) (q : List ℕ) → is_some p ≡ true → model.queue_of (process_view b.seen.entry_bytes p q) ≡ q
  queue_at None q e = absurd (cc)
  queue_at (Some regions) q e = refl

  no_queue : (p : Option (List Region)) (q : List ℕ) → is_some p ≡ false → model.queue_of (process_view b.seen.entry_bytes p q) ≡ []
  no_queue None q e = refl
  no_queue (Some regions) q e = absurd (cc)

  pub ask_reusable : (p n : ℕ) → is_some (entry k.spaces.processes p) ≡ true → is_some (inputs.reusable s p n) ≡ list_any (is_reusable (rs p) k.transfers n) (get_or k.queues p [])
  ask_reusable p n alive =
      let queue : model.queue_of (entry s.processes p) ≡ get_or k.queues p [] = ap model.queue_of (process_entry b.seen.entry_bytes k.spaces.processes k.queues p) ∙ queue_at (entry k.spaces.processes p) (get_or k.queues p []) alive in
      found_some (inputs.is_reusable s p n) (model.queue_of (entry s.processes p)) ∙ ap (list_any (inputs.is_reusable s p n)) queue ∙ any_same (inputs.is_reusable s p n) (is_reusable (rs p) k.transfers n) (get_or k.queues p []) (ask_one p n)

  pub ask_none : (p n : ℕ) → is_some (entry k.spaces.processes p) ≡ false → is_some (inputs.reusable s p n) ≡ false
  ask_none p n dead = ap (λ q. is_some (find (inputs.is_reusable s p n) q)) (ap model.queue_of (process_entry b.seen.entry_bytes k.spaces.processes k.queues p) ∙ no_queue (entry k.spaces.processes p) (get_or k.queues p []) dead)
