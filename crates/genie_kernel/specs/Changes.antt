-- What an event changes of a pending transfer.
use Rattle.std.specs.Prelude.{None}
use Rattle.genie_kernel.specs.declared.transfer.Change.{Change}
use Rattle.genie_kernel.specs.declared.transfer.Change.TheVariants.{Progress, Ownerless}
use Rattle.genie_kernel.specs.declared.transfer.Transfer.{Transfer}

abbrev pub changed_by : Change → Transfer → Transfer
changed_by (Progress phase buffer stored note) t = record t { phase = phase; buffer = buffer; stored = stored; note = note }
changed_by (Ownerless region) t = record t { owner = None; region = region }
