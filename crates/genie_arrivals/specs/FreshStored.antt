-- Bytes that lie in a device's memory are stored in a range, through fresh frames.
use Rattle.std.specs.Prelude.{◌≡◌, ◌≢◌, ℕ, ◌+◌, ◌/◌, ◌^◌, ◌<◌, ◌≤◌, List, [], length, count_by, find, Option, Some}
use Rattle.genie_base.specs.Bytes.{overlaid}
use Rattle.genie_base.specs.Counts.{span}
use Rattle.genie_frame.specs.FrameTable.{is_free}
use Rattle.genie_finish.specs.Besides.{KeepsBesides}
use Rattle.genie_finish.specs.Ranges.{CanStoreRange}
use Rattle.genie_object.specs.declared.memory.Memory.{Memory}
use Rattle.genie_object.specs.Costs.{AreBelow}
use Rattle.genie_object.specs.Memory.{seen}
use Rattle.genie_object.specs.Objects.{object_at}
use Rattle.genie_object.specs.Pages.{is_there}
use Rattle.genie_object.specs.Sound.{IsSound}
use Rattle.genie_object.specs.Touching.{Touches, is_in_range}
use Rattle.genie_object.specs.declared.objects.Range.{Range}
use Rattle.genie_plan.specs.Landings.{entries_bytes}
use Rattle.genie_kernel.specs.declared.kernel.Kernel.{Kernel}
use Rattle.genie_kernel.specs.declared.transfer.Transfer.{Transfer}
use Rattle.genie_kernel.specs.Calls.{has_number}
use Rattle.genie_kernel.specs.Rising.{MetersRise}
use Rattle.genie_arrivals.specs.Outboard.{waiting_bytes}

-- the bytes stand at place off of the object, and nothing else of what is seen has changed
pub record ShowsBytes (old new : Memory) (o off : ℕ) (bytes : List ℕ) (slots : ℕ → List ℕ) : Type 0 where
  pub range : (pages : ℕ) → off / old.frames.page + span old.frames.page off (length bytes) ≤ pages → entries_bytes (seen new slots) o 0 pages ≡ overlaid off bytes (entries_bytes (seen old slots) o 0 pages)
  pub objects : (a b : ℕ) → a ≢ o → (seen new slots).entry_bytes a b ≡ (seen old slots).entry_bytes a b
  pub others : (f : ℕ) → (seen new slots).kept_bytes f ≡ (seen old slots).kept_bytes f

-- no loan and no frame of the system is more or less than before, and the meters rise by so much at most
pub record StoresBytes (old new : Memory) (o off : ℕ) (bytes : List ℕ) : Type 0 where
  pub sound : IsSound new
  pub shows : (slots : ℕ → List ℕ) → ((s : ℕ) → length (slots s) ≡ old.frames.page) → ShowsBytes old new o off bytes slots
  pub keeps : KeepsBesides [] old new
  pub touches : Touches (is_in_range o (off / old.frames.page) (span old.frames.page off (length bytes))) old new
  pub rises : MetersRise (2 ^ 34) old.frames new.frames

-- so many bytes may be stored so: there is a free frame for each page of the range
pub record CanStoreBytes (m : Memory) (o off len few : ℕ) : Type 0 where
  pub sound : IsSound m
  pub fits : off + len < 2 ^ 32
  pub within : off / m.frames.page + span m.frames.page off len ≤ length (object_at m.objects o)
  pub most : span m.frames.page off len ≤ 65
  pub free : span m.frames.page off len ≤ count_by is_free m.frames.owners
  pub can : CanStoreRange m o off len few
  pub room : count_by is_there m.pages.pages + span m.frames.page off len ≤ m.pages.most
  pub meters : AreBelow (2 ^ 63 + 2 ^ 22) m.frames.meters
  pub taken : m.frames.meters.taken + 65 < 2 ^ 63 + 2 ^ 22

-- what is stored of input n stands in the range, and nothing else of the kernel has changed
pub record StoresPending (n : ℕ) (range : Range) (old new : Kernel) : Type 0 where
  pub transfer : Transfer
  pub found : find (has_number n) old.transfers ≡ Some transfer
  pub size : range.len ≡ length (waiting_bytes old.devices transfer)
  pub stores : StoresBytes old.memory new.memory range.object.0 range.off (waiting_bytes old.devices transfer)
  pub only : new ≡ record old { memory = new.memory }

-- this is its process, if it has one
abbrev pub OwnerIs : Option ℕ → Transfer → Type 0
OwnerIs owner t = owner ≡ t.owner
