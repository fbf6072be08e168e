-- A move input whose bytes lie in outboard memory goes to the object of its region.
use Rattle.std.specs.Prelude.{◌≡◌, ℕ, false, List, length, find, Some}
use Rattle.genie_object.specs.declared.memory.Memory.{Memory}
use Rattle.genie_object.specs.declared.objects.Range.{Range}
use Rattle.genie_object.specs.Objects.{entry_at}
use Rattle.genie_kernel.specs.declared.kernel.Kernel.{Kernel}
use Rattle.genie_kernel.specs.declared.transfer.Transfer.{Transfer}
use Rattle.genie_kernel.specs.Calls.{has_number}
use Rattle.genie_arrivals.specs.Clearing.{ClearsObject}
use Rattle.genie_arrivals.specs.FreshStored.{CanStoreBytes, StoresBytes}
use Rattle.genie_arrivals.specs.Outboard.{waiting_bytes}

-- the object was emptied, the bytes were stored in it, and no entry of it permits writing
pub record FillsBytes (old new : Memory) (o off : ℕ) (bytes : List ℕ) : Type 0 where
  pub clear : Memory
  pub clears : ClearsObject old clear o
  pub stores : StoresBytes clear new o off bytes
  pub shut : (i : ℕ) → (entry_at new.objects o i).writable ≡ false

-- bytes may be stored in the range's object once it was emptied
abbrev pub CanFill : Memory → Range → Type 0
CanFill old range = (m : Memory) → ClearsObject old m range.object.0 → CanStoreBytes m range.object.0 range.off range.len 0

-- the range's object was filled with what is stored of input n, and nothing else of the kernel has changed
pub record FillsPending (n : ℕ) (range : Range) (old new : Kernel) : Type 0 where
  pub transfer : Transfer
  pub found : find (has_number n) old.transfers ≡ Some transfer
  pub size : range.len ≡ length (waiting_bytes old.devices transfer)
  pub fills : FillsBytes old.memory new.memory range.object.0 range.off (waiting_bytes old.devices transfer)
  pub only : new ≡ record old { memory = new.memory }
