-- Where an address of a process leads.
use Rattle.std.specs.Prelude.{◌≡◌, ℕ, ◌-◌, ◌/◌, List, length, Option, Some, None}
use Rattle.genie_object.specs.declared.objects.Entry.{Entry}
use Rattle.genie_object.specs.declared.objects.EntryRef.{EntryRef}
use Rattle.genie_object.specs.Objects.{object_at, entry_at}
use Rattle.genie_region.specs.declared.region.Region.{Region}
use Rattle.genie_space.specs.declared.translation.Translation.{Translation}
use Rattle.genie_space.specs.declared.translation.Translation.TheVariants.{Nowhere, At}

-- the region's object has an entry for each page of the region
abbrev pub IsBacked : List (List Entry) → Region → Type 0
IsBacked objects r = length (object_at objects r.object.0) ≡ r.pages

-- the entry of the page of this address in the region's object
abbrev pub entry_of : ℕ → ℕ → Region → EntryRef
entry_of page addr r = record { object = r.object; index = addr / page - r.start }

-- an entry of a region's object, with its permissions
abbrev pub at_entry : List (List Entry) → Region → EntryRef → Translation
at_entry objects r e = At r.id e (entry_at objects e.object.0 e.index).readable (entry_at objects e.object.0 e.index).writable

-- where an address leads that reaches this region
abbrev pub led_to : List (List Entry) → ℕ → ℕ → Region → Translation
led_to objects page addr r = at_entry objects r (entry_of page addr r)

-- where an address leads: to its page in the region that it reaches, or nowhere where it reaches none
abbrev pub translation : List (List Entry) → ℕ → ℕ → Option Region → Translation
translation objects page addr None = Nowhere
translation objects page addr (Some r) = led_to objects page addr r
