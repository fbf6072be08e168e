-- What a receive step does to one device of a kernel.
use Rattle.std.specs.Prelude.{ℕ, ◌==◌, List, Some, slice_set, if◌then◌else◌}
use Rattle.genie_device.specs.Device.{DeviceView}
use Rattle.genie_kernel.specs.declared.kernel.Kernel.{Kernel}
use Rattle.genie_kernel.specs.View.{Bytes}

-- another state of device d
abbrev pub with_device : Kernel → ℕ → DeviceView → Kernel
with_device k d v = record k { devices = slice_set k.devices d (Some v) }

-- so much left of the input of device d
abbrev pub with_rest : ℕ → List ℕ → Bytes → Bytes
with_rest d rest b = record b { rests = λ j. if j == d then rest else b.rests j }
