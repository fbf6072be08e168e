-- What the events do to a kernel's tables.
use Rattle.std.specs.Prelude.{ℕ, Bool, List, [], Some, slice_set}
use Rattle.genie_object.specs.declared.objects.Entry.{Entry}
use Rattle.genie_region.specs.declared.region.Region.{Region}
use Rattle.genie_region.specs.Layouts.{with_region}
use Rattle.genie_space.specs.Spaces.{regions_of, set_process, set_regions}
use Rattle.genie_kernel.specs.declared.kernel.Kernel.{Kernel}

-- a process more, with no region and an empty queue
abbrev pub spawned : Kernel → ℕ → Kernel
spawned k p = record k { spaces = set_process k.spaces p (Some []); queues = slice_set k.queues p [] }

-- the same region, read-write or read-only
abbrev pub with_mode : Bool → Region → Region
with_mode writable r = record r { writable = writable }

-- a region of process p, read-write or read-only
abbrev pub moded : Kernel → ℕ → Region → Bool → Kernel
moded k p r writable = record k { spaces = set_regions k.spaces p (with_region r.id (with_mode writable) (regions_of p k.spaces)) }

-- other entries
abbrev pub with_objects : Kernel → List (List Entry) → Kernel
with_objects k objects = record k { memory = record (k.memory) { objects = objects } }
