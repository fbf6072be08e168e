-- What a send step promises of the host, and asks of what the store tells.
use Rattle.std.specs.Prelude.{◌≡◌, ℕ, ◌<◌, List, length, IfSome}
use Rattle.genie_base.specs.declared.config.Config.{Config}
use Rattle.genie_device.specs.Device.{handle_of}
use Rattle.genie_store.specs.StoreView.{StoreView}
use Rattle.genie_model.specs.Tables.{entry}
use Rattle.genie_kernel.specs.Told.{output_at}

-- the handle of the output of device d
abbrev pub output_of : Config → ℕ → ℕ
output_of c d = handle_of (output_at (entry c.devices d))

-- each slot has a page of bytes, where the store tells them
abbrev pub HasPages : StoreView → Type 0
HasPages v = IfSome v.slots (λ (slots : ℕ → List ℕ). (s : ℕ) → s < v.count → length (slots s) ≡ v.page)
