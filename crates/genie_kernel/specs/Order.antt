-- The pending transfers in order, over a slab.
use Rattle.std.specs.Prelude.{◌≡◌, ◌≢◌, ℕ, ◌≤◌, true, List, length, map, None, is_some, unwrap_or, All}
use Rattle.std.specs.List.{AllPairs}
use Rattle.slab.specs.Slab.{Slab, get, slab_len}
use Rattle.genie_base.specs.declared.semantics.Semantics.TheVariants.{Copy}
use Rattle.genie_base.specs.declared.semantics.Direction.TheVariants.{Outward}
use Rattle.genie_base.specs.declared.reply.Note.TheVariants.{Whole}
use Rattle.genie_model.specs.declared.phase.Phase.TheVariants.{Queued}
use Rattle.genie_kernel.specs.declared.transfer.Loans.TheVariants.{Nothing}
use Rattle.genie_kernel.specs.declared.transfer.Transfer.{Transfer}

abbrev pub no_transfer : Transfer
no_transfer = record { id = record { 0 = 0 }; owner = None; sem = Copy; dir = Outward; dev = 0; port = 0; flow = None; addr = 0; region = None; offset = 0; len = 0; phase = Queued; loans = Nothing; buffer = None; stored = 0; note = Whole }

abbrev pub transfer_at : Slab Transfer → ℕ → Transfer
transfer_at slots key = unwrap_or (get slots key) no_transfer

abbrev pub transfers_of : Slab Transfer → List ℕ → List Transfer
transfers_of slots order = map (transfer_at slots) order

-- each key of the order has a transfer, and another one; no other key has one, and there is room for 64
pub record IsOrder (slots : Slab Transfer) (order : List ℕ) (room : ℕ) : Type 0 where
  pub occupied : All (λ (key : ℕ). is_some (get slots key) ≡ true) order
  pub apart : AllPairs (λ (a b : ℕ). a ≢ b) order
  pub len : slab_len slots ≡ length order
  pub most : length order ≤ 64
  pub slots_room : 64 ≤ slots.capacity
  pub order_room : 64 ≤ room
