-- The processes and their regions, as the flat machine has them.
use Rattle.std.specs.Prelude.{ℕ, List, [], ◌∷◌, map, flat_map, ◌==◌, if◌then◌else◌, Option, None, Some, unwrap_or, Bool}
use Rattle.std.specs.List.{range_with_len}
use Rattle.genie_region.specs.declared.region.Region.{Region}
use Rattle.genie_model.specs.State as flat

abbrev pub regions_of : Option (List Region) → List Region
regions_of p = unwrap_or p []

-- the regions of all processes
abbrev pub owned_regions : List (Option (List Region)) → List Region
owned_regions processes = flat_map regions_of processes

abbrev pub has_id : ℕ → Region → Bool
has_id k r = r.id.0 == k

-- the bytes of the n entries of an object
abbrev pub object_bytes : (ℕ → ℕ → List ℕ) → ℕ → ℕ → List ℕ
object_bytes s o n = flat_map (s o) (range_with_len 0 n)

abbrev pub region_view : (ℕ → ℕ → List ℕ) → Region → flat.Region
region_view s r = record {
  number = r.id.0;
  start = r.start;
  pages = r.pages;
  area = r.area;
  state = r.state;
  writable = r.writable;
  bytes = object_bytes s r.object.0 r.pages;
}

-- a live process with its weak queue
abbrev pub process_view : (ℕ → ℕ → List ℕ) → Option (List Region) → List ℕ → Option flat.Process
process_view s None queue = None
process_view s (Some regions) queue = Some (record { queue = queue; regions = map (region_view s) regions })

-- the processes, each with the queue at its place
abbrev pub processes_view : (ℕ → ℕ → List ℕ) → List (Option (List Region)) → List (List ℕ) → List (Option flat.Process)
processes_view s [] queues = []
processes_view s (p ∷ ps) [] = process_view s p [] ∷ processes_view s ps []
processes_view s (p ∷ ps) (q ∷ qs) = process_view s p q ∷ processes_view s ps qs

-- the regions with a change of the one of this number
abbrev pub with_changed : ℕ → (Region → Region) → List Region → List Region
with_changed n g rs = map (λ (r : Region). if r.id.0 == n then g r else r) rs
