-- The end of a run: its kernel gives every loan back.
use Rattle.std.specs.Prelude.{◌≡◌, Option, None, Some}
use Rattle.genie_kernel.specs.declared.kernel.Kernel.{Kernel}
use Rattle.genie_calls.specs.Closing.{IsClosed, KeepsRest}

-- the kernel, where there is one, is closed and stays there
abbrev pub Closes : Option Kernel → Option Kernel → Type 0
Closes None new = new ≡ None
Closes (Some old) None = ⊥
Closes (Some old) (Some new) = IsClosed new × KeepsRest old new
