-- No cause of refusal looks at bytes.
use Rattle.std.proofs.Common.{◌≡◌, ℕ, ◌+◌, ◌-◌, Bool, true, false, not, List, [], ◌∷◌, ◌++◌, refl, sym, ap, ap₂, ◌∙◌, map, length, get_or}
use Rattle.std.specs.Prelude.{Option, Some, None, find, sum_by, nat_le, nat_lt, is_some, option_and_then, ◌&&◌, ◌||◌, if◌then◌else◌}
use Rattle.std.specs.List.{list_any, list_all, range_with_len}
use Rattle.std.specs.Option.{option_map}
use Rattle.std.proofs.lemmas.List.{length-map}
use Rattle.std.proofs.lemmas.List.Sums.{sum_by-cons}
use Rattle.genie_base.specs.Counts.{span, cost}
use Rattle.genie_base.specs.Regions.{is_free, is_apart, is_reached}
use Rattle.genie_base.specs.Transfers.{class_of, is_strong, is_system}
use Rattle.genie_base.specs.declared.event.Event.{Event}
use Rattle.genie_base.specs.declared.event.Event.TheVariants.{Spawn, Fork, Exit, Map, Alloc, Unmap, Protect, Read, Write, Output, Input, Send, Recv, Finish, Cancel, Pageout}
use Rattle.genie_base.specs.declared.refusal.Refusal.TheVariants as cause
use Rattle.genie_base.specs.declared.semantics.Class.{Class}
use Rattle.genie_base.specs.declared.semantics.Class.TheVariants.{Copy, Share, Move, WeakMove}
use Rattle.genie_base.specs.declared.semantics.Direction.TheVariants.{Outward, Inward}
use Rattle.genie_region.specs.declared.region.Region.{Region}
use Rattle.genie_model.specs.Inputs.{has_pages, reusable, pages_for, address_or_zero}
use Rattle.genie_model.specs.Pending as pending
use Rattle.genie_model.specs.Refusing.{refuse, first_cause, causes, is_within, has_output, has_input, most_of, may_move, must_stay_writable, accessible_pages, is_finished, may_cancel, must_make, frames_to_wire, call_causes, new_region_causes, app_causes, sys_causes, buffer_causes}
use Rattle.genie_model.specs.Regions as model
use Rattle.genie_model.specs.Space.{region_from, starts_at}
use Rattle.genie_model.specs.State as flat
use Rattle.genie_model.specs.Tables.{entry}
use Rattle.genie_kernel.specs.declared.kernel.Kernel.{Kernel}
use Rattle.genie_kernel.specs.declared.transfer.Transfer.{Transfer}
use Rattle.genie_kernel.specs.Calls.{first_waiting}
use Rattle.genie_kernel.specs.Regions.{process_view, processes_view, region_view, regions_of}
use Rattle.genie_kernel.specs.Transfers.{transfer_view}
use Rattle.genie_kernel.specs.View.{Bytes, state_of, outline, no_bytes}
use Rattle.genie_kernel.specs.Lemmas.Processes.{process_entry, regions_in, alive_view, regions_view, find_map, region_from_view, must_stay_view}
use Rattle.genie_kernel.specs.Lemmas.Tidying.{any_map}

pub all_map : {X Y : Type 0} (q : Y → Bool) (f : X → Y) (xs : List X) → list_all q (map f xs) ≡ list_all (λ x. q (f x)) xs
all_map q f [] = refl
all_map q f (x ∷ xs) = ap (λ b. q (f x) && b) (all_map q f xs)

pub sum_map : {X Y : Type 0} (g : Y → ℕ) (f : X → Y) (xs : List X) → sum_by g (map f xs) ≡ sum_by (λ x. g (f x)) xs
sum_map g f [] = refl
sum_map g f (x ∷ xs) = sum_by-cons g (f x) (map f xs) ∙ ap (λ n. g (f x) + n) (sum_map g f xs) ∙ sym (sum_by-cons (λ y. g (f y)) x xs)

abbrev pages_in : Option (List Region) → ℕ
pages_in p = sum_by (λ (r : Region). r.pages) (regions_of p)

pages_one : (s : ℕ → ℕ → List ℕ) (p : Option (List Region)) (q : List ℕ) → model.region_pages (process_view s p q) ≡ pages_in p
pages_one s p q = ap (sum_by (λ (r : flat.Region). r.pages)) (regions_in s p q) ∙ sum_map (λ (r : flat.Region). r.pages) (region_view s) (regions_of p)

pub pages_all : (s : ℕ → ℕ → List ℕ) (ps : List (Option (List Region))) (qs : List (List ℕ)) → sum_by model.region_pages (processes_view s ps qs) ≡ sum_by pages_in ps
pages_all s [] qs = refl
pages_all s (p ∷ ps) [] = sum_by-cons model.region_pages (process_view s p []) (processes_view s ps []) ∙ ap₂ ◌+◌ (pages_one s p []) (pages_all s ps []) ∙ sym (sum_by-cons pages_in p ps)
pages_all s (p ∷ ps) (q ∷ qs) = sum_by-cons model.region_pages (process_view s p q) (processes_view s ps qs) ∙ ap₂ ◌+◌ (pages_one s p q) (pages_all s ps qs) ∙ sym (sum_by-cons pages_in p ps)

queue_same : (s t : ℕ → ℕ → List ℕ) (p : Option (List Region)) (q : List ℕ) → model.queue_of (process_view s p q) ≡ model.queue_of (process_view t p q)
queue_same s t None q = refl
queue_same s t (Some rs) q = refl

option_same : {X Y Z : Type 0} (f : Option Y → Z) (v w : X → Y) → f None ≡ f None → ((x : X) → f (Some (v x)) ≡ f (Some (w x))) → (o : Option X) → f (option_map v o) ≡ f (option_map w o)
option_same f v w n h None = n
option_same f v w n h (Some x) = h x

either_some : {X : Type 0} (writable : Bool) (x y : X) → is_some (if writable then Some x else None) ≡ is_some (if writable then Some y else None)
either_some true x y = refl
either_some false x y = refl

module _ (k : Kernel) (b c : Bytes) where
  abbrev s : flat.State
  s = state_of k b

  abbrev t : flat.State
  t = state_of k c

  abbrev v : Region → flat.Region
  v = region_view b.seen.entry_bytes

  abbrev w : Region → flat.Region
  w = region_view c.seen.entry_bytes

  abbrev tv : Transfer → flat.Transfer
  tv = transfer_view b.seen.kept_bytes k.devices k.pools (first_waiting k.transfers)

  abbrev tw : Transfer → flat.Transfer
  tw = transfer_view c.seen.kept_bytes k.devices k.pools (first_waiting k.transfers)

  abbrev rs : ℕ → List Region
  rs p = regions_of (entry k.spaces.processes p)

  alive : (p : ℕ) → model.is_alive s p ≡ model.is_alive t p
  alive p = alive_view b.seen.entry_bytes k.spaces.processes k.queues p ∙ sym (alive_view c.seen.entry_bytes k.spaces.processes k.queues p)

  -- what is asked of the regions of a process, one by one or of the first that passes
  asked : {Z : Type 0} (f : List flat.Region → Z) → (p : ℕ) → f (map v (rs p)) ≡ f (map w (rs p)) → f (model.regions_at s p) ≡ f (model.regions_at t p)
  asked f p h = ap f (regions_view b.seen.entry_bytes k.spaces.processes k.queues p) ∙ h ∙ sym (ap f (regions_view c.seen.entry_bytes k.spaces.processes k.queues p))

  count : (p : ℕ) → length (model.regions_at s p) ≡ length (model.regions_at t p)
  count p = asked length p (length-map (rs p) v ∙ sym (length-map (rs p) w))

  free : (p g n : ℕ) → is_free model.extent_of g n (model.regions_at s p) ≡ is_free model.extent_of g n (model.regions_at t p)
  free p g n = asked (is_free model.extent_of g n) p (all_map (λ r. is_apart g n (model.extent_of r)) v (rs p) ∙ sym (all_map (λ r. is_apart g n (model.extent_of r)) w (rs p)))

  forked : (p : ℕ) → sum_by accessible_pages (model.regions_at s p) ≡ sum_by accessible_pages (model.regions_at t p)
  forked p = asked (sum_by accessible_pages) p (sum_map accessible_pages v (rs p) ∙ sym (sum_map accessible_pages w (rs p)))

  placed : (p n : ℕ) → model.place_of s p n ≡ model.place_of t p n
  placed p n = λ i. find (λ start. free p start n i) (range_with_len 512 (513 - n))

  reached : {Z : Type 0} (f : Option flat.Region → Z) → ((r : Region) → f (Some (v r)) ≡ f (Some (w r))) → (p a n : ℕ) → f (model.reach_of s p a n) ≡ f (model.reach_of t p a n)
  reached f h p a n =
      let q : flat.Region → Bool = λ r. is_reached k.config.page a n (model.extent_of r) in
      asked (λ l. f (find q l)) p (ap f (find_map q v (rs p)) ∙ option_same f v w refl h (find (λ r. q (v r)) (rs p)) ∙ sym (ap f (find_map q w (rs p))))

  started : {Z : Type 0} (f : Option flat.Region → Z) → ((r : Region) → f (Some (v r)) ≡ f (Some (w r))) → (p g : ℕ) → f (region_from s p g) ≡ f (region_from t p g)
  started f h p g = asked (λ l. f (find (starts_at g) l)) p (ap f (find_map (starts_at g) v (rs p)) ∙ option_same f v w refl h (find (λ r. starts_at g (v r)) (rs p)) ∙ sym (ap f (find_map (starts_at g) w (rs p))))

  stays : (p g : ℕ) → must_stay_writable s (region_from s p g) ≡ must_stay_writable t (region_from t p g)
  stays p g = ap (must_stay_writable s) (region_from_view k b p g) ∙ must_stay_view k b _ ∙ sym (ap (must_stay_writable t) (region_from_view k c p g) ∙ must_stay_view k c _)

  pages : model.committed s ≡ model.committed t
  pages = pages_all b.seen.entry_bytes k.spaces.processes k.queues ∙ sym (pages_all c.seen.entry_bytes k.spaces.processes k.queues)

  wires : pending.wired s ≡ pending.wired t
  wires = sum_map (pending.cost_of k.config.page) tv k.transfers ∙ sym (sum_map (pending.cost_of k.config.page) tw k.transfers)

  transfers : length s.transfers ≡ length t.transfers
  transfers = length-map k.transfers tv ∙ sym (length-map k.transfers tw)

  pends : (f : Option flat.Transfer → Bool) → ((x : Transfer) → f (Some (tv x)) ≡ f (Some (tw x))) → (n : ℕ) → f (pending.pending s n) ≡ f (pending.pending t n)
  pends f h n = ap f (find_map (pending.is_numbered n) tv k.transfers) ∙ option_same f tv tw refl h (find (λ x. pending.is_numbered n (tv x)) k.transfers) ∙ sym (ap f (find_map (pending.is_numbered n) tw k.transfers))

  named : (n : ℕ) → list_any (pending.names n) s.transfers ≡ list_any (pending.names n) t.transfers
  named n = any_map (pending.names n) tv k.transfers ∙ sym (any_map (pending.names n) tw k.transfers)

  sized : (p n j : ℕ) → list_any (has_pages j n) (model.regions_at s p) ≡ list_any (has_pages j n) (model.regions_at t p)
  sized p n j = asked (list_any (has_pages j n)) p (any_map (has_pages j n) v (rs p) ∙ sym (any_map (has_pages j n) w (rs p)))

  queued : (p : ℕ) → model.queue_of (entry s.processes p) ≡ model.queue_of (entry t.processes p)
  queued p = ap model.queue_of (process_entry b.seen.entry_bytes k.spaces.processes k.queues p) ∙ queue_same b.seen.entry_bytes c.seen.entry_bytes (entry k.spaces.processes p) (get_or k.queues p []) ∙ sym (ap model.queue_of (process_entry c.seen.entry_bytes k.spaces.processes k.queues p))

  reuses : (p n : ℕ) → reusable s p n ≡ reusable t p n
  reuses p n = λ i. find (λ j. sized p n j i && not (named j i)) (queued p i)

  makes : (p : ℕ) (class : Class) (n : ℕ) → must_make s p class n ≡ must_make t p class n
  makes p Copy n = refl
  makes p Share n = refl
  makes p Move n = refl
  makes p WeakMove n = ap (λ o. not (is_some o)) (reuses p (pages_for s n))

  calls : (frames : ℕ) → call_causes s frames ≡ call_causes t frames
  calls frames = λ i. (nat_le 64 (transfers i), cause.Transfers) ∷ (nat_lt (frames_to_wire s) (wires i + frames), cause.Frames) ∷ []

  regions : (p n : ℕ) → new_region_causes s p n ≡ new_region_causes t p n
  regions p n = λ i. (nat_le 32 (count p i), cause.Regions) ∷ (not (is_some (placed p n i)), cause.Space) ∷ (nat_lt k.config.slots (pages i + n), cause.Backing) ∷ []

  writes : (p a n : ℕ) → is_some (model.write_reach_of s p a n) ≡ is_some (model.write_reach_of t p a n)
  writes p a n = reached (λ o. is_some (option_and_then (λ (r : flat.Region). if r.writable then Some r else None) o)) (λ r. either_some r.writable (v r) (w r)) p a n

  apps : (p most a n : ℕ) → app_causes s p most a n ≡ app_causes t p most a n
  apps p most a n = λ i. (not (nat_le n most && reached is_some (λ r. refl) p a n i), cause.Range) ∷ (not (writes p a n i), cause.Denied) ∷ []

  systems : (p : ℕ) (class : Class) (most n : ℕ) → sys_causes s p class most n ≡ sys_causes t p class most n
  systems p class most n = λ i. (not (is_within 1 most n), cause.Range) ∷ (if makes p class n i then regions p (pages_for s n) i else [])

  buffers : (p : ℕ) (class : Class) (most a n : ℕ) → buffer_causes s p class most a n ≡ buffer_causes t p class most a n
  buffers p class most a n = λ i. if is_system class then systems p class most n i else apps p most a n i

  blind : (e : Event) → causes s e ≡ causes t e
  blind (Spawn p) = λ i. (nat_lt 15 p, cause.Proc) ∷ (alive p i, cause.Exists) ∷ []
  blind (Fork p q) = λ i. (not (alive p i) || nat_lt 15 q, cause.Proc) ∷ (alive q i, cause.Exists) ∷ (nat_lt k.config.slots (pages i + forked p i), cause.Backing) ∷ []
  blind (Exit p) = λ i. (not (alive p i), cause.Proc) ∷ []
  blind (Map p g n) = λ i. (not (alive p i), cause.Proc) ∷ (not (is_within 1 64 n), cause.Range) ∷ (nat_lt 512 (g + n) || not (free p g n i), cause.Region) ∷ (nat_le 32 (count p i), cause.Regions) ∷ (nat_lt k.config.slots (pages i + n), cause.Backing) ∷ []
  blind (Alloc p n) = λ i. (not (alive p i), cause.Proc) ∷ (not (is_within 1 64 n), cause.Range) ∷ regions p n i
  blind (Unmap p g) = λ i. (not (alive p i), cause.Proc) ∷ (not (started is_some (λ r. refl) p g i), cause.Region) ∷ []
  blind (Protect p g writable) = λ i. (not (alive p i), cause.Proc) ∷ (not (started is_some (λ r. refl) p g i), cause.Region) ∷ (not writable && stays p g i, cause.State) ∷ []
  blind (Read p a n) = λ i. (not (alive p i), cause.Proc) ∷ (not (is_within 1 k.config.page n && reached is_some (λ r. refl) p a n i), cause.Range) ∷ []
  blind (Write p a bytes) = λ i. (not (alive p i), cause.Proc) ∷ (not (is_within 1 k.config.page (length bytes) && reached is_some (λ r. refl) p a (length bytes) i), cause.Range) ∷ (not (writes p a (length bytes) i), cause.Denied) ∷ []
  blind (Output p sem d port flow a n) = λ i. (not (alive p i), cause.Proc)
      ∷ (not (has_output (entry s.config.devices d)), cause.Dev)
      ∷ (not (nat_le n (most_of k.config.page (entry s.config.devices d)) && reached is_some (λ r. refl) p a n i), cause.Range)
      ∷ (is_system (class_of sem) && not (is_strong (class_of sem)) && not (writes p a n i), cause.Denied)
      ∷ (is_system (class_of sem) && not (reached may_move (λ r. refl) p a n i), cause.State)
      ∷ calls (cost (class_of sem) Outward (span k.config.page a n)) i
  blind (Input p sem d port flow addr n) = λ i. ((not (alive p i), cause.Proc) ∷ (not (has_input (entry s.config.devices d)), cause.Dev) ∷ buffers p (class_of sem) (most_of k.config.page (entry s.config.devices d)) (address_or_zero addr) n i)
      ++ calls (cost (class_of sem) Inward (span k.config.page (address_or_zero addr) n)) i
  blind (Send d n) = refl
  blind (Recv d n) = refl
  blind (Finish n) = λ i. (not (pends is_finished (λ x. refl) n i), cause.State) ∷ []
  blind (Cancel n) = λ i. (not (pends may_cancel (λ x. refl) n i), cause.State) ∷ []
  blind (Pageout n) = refl

-- so an event is refused or not by the outline alone
pub refuses_alike : (k : Kernel) (b : Bytes) (e : Event) → refuse (state_of k b) e ≡ refuse (outline k) e
refuses_alike k b e = ap first_cause (blind k b (no_bytes k.config.page) e)
