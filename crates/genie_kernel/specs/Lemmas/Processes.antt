-- The processes of the view.
use Rattle.std.proofs.Common.{◌≡◌, ℕ, ◌<◌, zero, suc, List, [], ◌∷◌, ◌++◌, refl, sym, ap, arith, ◌∙◌, length, map, get_or, set}
use Rattle.std.specs.Prelude.{Option, Some, None, Bool, true, false, not, cond, find, is_some, ◌||◌}
use Rattle.std.specs.List.{list_any}
use Rattle.std.specs.Option.{option_map}
use Rattle.genie_region.specs.declared.region.Region.{Region}
use Rattle.genie_region.specs.Layouts.{starts_at}
use Rattle.genie_model.specs.Refusing.{is_live, must_stay_writable, is_weak_input_into as model_into}
use Rattle.genie_model.specs.Regions as model
use Rattle.genie_model.specs.Space.{region_from, starts_at as model_starts_at}
use Rattle.genie_kernel.specs.declared.kernel.Kernel.{Kernel}
use Rattle.genie_kernel.specs.Calls.{is_weak_input_into, must_stay, first_waiting}
use Rattle.genie_kernel.specs.Transfers.{transfer_view, transfers_view}
use Rattle.genie_kernel.specs.View.{Bytes, state_of}
use Rattle.genie_kernel.specs.Lemmas.Tidying.{any_map}
use Rattle.genie_model.specs.Tables.{entry}
use Rattle.genie_kernel.specs.Regions.{process_view, processes_view, region_view, regions_of, owned_regions}

-- a process and its queue changed at one place
pub processes_set : (s : ℕ → ℕ → List ℕ) (ps : List (Option (List Region))) (qs : List (List ℕ)) (p : ℕ) (x : Option (List Region)) (q : List ℕ) → p < length qs → processes_view s (set ps p x) (set qs p q) ≡ set (processes_view s ps qs) p (process_view s x q)
processes_set s ps [] p x q l = absurd (omega arith)
processes_set s [] (z ∷ qs) p x q l = refl
processes_set s (y ∷ ps) (z ∷ qs) zero x q l = refl
processes_set s (y ∷ ps) (z ∷ qs) (suc p) x q l = ap (λ vs. process_view s y z ∷ vs) (processes_set s ps qs p x q (omega arith))

-- a process at its place
pub process_entry : (s : ℕ → ℕ → List ℕ) (ps : List (Option (List Region))) (qs : List (List ℕ)) (p : ℕ) → entry (processes_view s ps qs) p ≡ process_view s (entry ps p) (get_or qs p [])
process_entry s [] qs p = refl
process_entry s (y ∷ ps) [] zero = refl
process_entry s (y ∷ ps) [] (suc p) = process_entry s ps [] p
process_entry s (y ∷ ps) (z ∷ qs) zero = refl
process_entry s (y ∷ ps) (z ∷ qs) (suc p) = process_entry s ps qs p

pub regions_in : (s : ℕ → ℕ → List ℕ) (p : Option (List Region)) (q : List ℕ) → model.regions_of (process_view s p q) ≡ map (region_view s) (regions_of p)
regions_in s None q = refl
regions_in s (Some rs) q = refl

is_alive_in : (s : ℕ → ℕ → List ℕ) (p : Option (List Region)) (q : List ℕ) → is_some (process_view s p q) ≡ is_some p
is_alive_in s None q = refl
is_alive_in s (Some rs) q = refl

-- the view has the processes that the spaces have
pub alive_view : (s : ℕ → ℕ → List ℕ) (ps : List (Option (List Region))) (qs : List (List ℕ)) (p : ℕ) → is_some (entry (processes_view s ps qs) p) ≡ is_some (entry ps p)
alive_view s ps qs p = ap is_some (process_entry s ps qs p) ∙ is_alive_in s (entry ps p) (get_or qs p [])

-- and of each the regions
pub regions_view : (s : ℕ → ℕ → List ℕ) (ps : List (Option (List Region))) (qs : List (List ℕ)) (p : ℕ) → model.regions_of (entry (processes_view s ps qs) p) ≡ map (region_view s) (regions_of (entry ps p))
regions_view s ps qs p = ap model.regions_of (process_entry s ps qs p) ∙ regions_in s (entry ps p) (get_or qs p [])

pub find_map : {X Y : Type 0} (q : Y → Bool) (f : X → Y) (xs : List X) → find q (map f xs) ≡ option_map f (find (λ x. q (f x)) xs)
find_map q f [] = refl
find_map q f (x ∷ xs) = elim (q (f x)) as (λ b. cond b (Some (f x)) (find q (map f xs)) ≡ option_map f (cond b (Some x) (find (λ y. q (f y)) xs))) [ true ↦ refl | false ↦ find_map q f xs ]

pub region_from_view : (k : Kernel) (b : Bytes) (p g : ℕ) → region_from (state_of k b) p g ≡ option_map (region_view b.seen.entry_bytes) (find (starts_at g) (regions_of (entry k.spaces.processes p)))
region_from_view k b p g = ap (find (model_starts_at g)) (regions_view b.seen.entry_bytes k.spaces.processes k.queues p) ∙ find_map (model_starts_at g) (region_view b.seen.entry_bytes) (regions_of (entry k.spaces.processes p))

pub is_some_map : {X Y : Type 0} (f : X → Y) (o : Option X) → is_some (option_map f o) ≡ is_some o
is_some_map f None = refl
is_some_map f (Some x) = refl

weak_inputs : (s : ℕ → List ℕ) (k : Kernel) (n : ℕ) → list_any (model_into n) (transfers_view s k.devices k.pools k.transfers) ≡ list_any (is_weak_input_into n) k.transfers
weak_inputs s k n = any_map (model_into n) (transfer_view s k.devices k.pools (first_waiting k.transfers)) k.transfers

pub must_stay_view : (k : Kernel) (b : Bytes) (r : Option Region) → must_stay_writable (state_of k b) (option_map (region_view b.seen.entry_bytes) r) ≡ must_stay k.transfers r
must_stay_view k b None = refl
must_stay_view k b (Some r) = ap (λ x. not (is_live r.state) || x) (weak_inputs b.seen.kept_bytes k r.id.0)

-- a process without regions where there was none has none
pub owned_spawned : (ps : List (Option (List Region))) (p : ℕ) → entry ps p ≡ None → owned_regions (set ps p (Some [])) ≡ owned_regions ps
owned_spawned [] p e = refl
owned_spawned (y ∷ ps) zero e = sym (ap (λ (z : Option (List Region)). regions_of z ++ owned_regions ps) e)
owned_spawned (y ∷ ps) (suc p) e = ap (λ rs. regions_of y ++ rs) (owned_spawned ps p e)

pub regions_spawned : (ps : List (Option (List Region))) (p n : ℕ) → entry ps p ≡ None → regions_of (entry (set ps p (Some [])) n) ≡ regions_of (entry ps n)
regions_spawned [] p n e = refl
regions_spawned (y ∷ ps) zero zero e = sym (ap regions_of e)
regions_spawned (y ∷ ps) zero (suc n) e = refl
regions_spawned (y ∷ ps) (suc p) zero e = refl
regions_spawned (y ∷ ps) (suc p) (suc n) e = regions_spawned ps p n e

-- a process changed, whose queue stays
pub processes_kept : (s : ℕ → ℕ → List ℕ) (ps : List (Option (List Region))) (qs : List (List ℕ)) (p : ℕ) (x : Option (List Region)) → processes_view s (set ps p x) qs ≡ set (processes_view s ps qs) p (process_view s x (get_or qs p []))
processes_kept s [] qs p x = refl
processes_kept s (y ∷ ps) [] zero x = refl
processes_kept s (y ∷ ps) [] (suc p) x = ap (λ vs. process_view s y [] ∷ vs) (processes_kept s ps [] p x)
processes_kept s (y ∷ ps) (z ∷ qs) zero x = refl
processes_kept s (y ∷ ps) (z ∷ qs) (suc p) x = ap (λ vs. process_view s y z ∷ vs) (processes_kept s ps qs p x)
