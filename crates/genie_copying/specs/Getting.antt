-- How many pages lie in the range that an event names: it gets no more of them from the store.
use Rattle.std.specs.Prelude.{ℕ, length, Option, Some, None}
use Rattle.genie_base.specs.declared.event.Event.{Event}
use Rattle.genie_base.specs.declared.event.Event.TheVariants as event
use Rattle.genie_base.specs.declared.semantics.Semantics.{Semantics}
use Rattle.genie_base.specs.declared.semantics.Semantics.TheVariants as semantics
use Rattle.genie_model.specs.Inputs.{pages_for, address_or_zero}
use Rattle.genie_kernel.specs.declared.kernel.Kernel.{Kernel}
use Rattle.genie_kernel.specs.View.{outline}
use Rattle.genie_copying.specs.Ranges.{Pages, pages_reached}

abbrev pub number_of : Option Pages → ℕ
number_of None = 0
number_of (Some r) = r.count

-- an input of n bytes: a shared range, or all pages of a weak move's region; the other calls name none before their end
abbrev pub input_pages : Kernel → Semantics → ℕ → Option ℕ → ℕ → ℕ
input_pages k semantics.Copy p addr n = 0
input_pages k semantics.EmulatedCopy p addr n = 0
input_pages k semantics.Move p addr n = 0
input_pages k semantics.EmulatedMove p addr n = 0
input_pages k semantics.Share p addr n = number_of (pages_reached k p (address_or_zero addr) n)
input_pages k semantics.EmulatedShare p addr n = number_of (pages_reached k p (address_or_zero addr) n)
input_pages k semantics.WeakMove p addr n = pages_for (outline k) n
input_pages k semantics.EmulatedWeakMove p addr n = pages_for (outline k) n

-- the pages of a read, a write, an output or an input, and none where no region is reached; other events name no range
abbrev pub pages_most : Kernel → Event → ℕ
pages_most k (event.Read p a n) = number_of (pages_reached k p a n)
pages_most k (event.Write p a bytes) = number_of (pages_reached k p a (length bytes))
pages_most k (event.Output p sem d port flow a n) = number_of (pages_reached k p a n)
pages_most k (event.Input p sem d port flow a n) = input_pages k sem p a n
pages_most k (event.Finish id) = 0
pages_most k (event.Fork p child) = 0
pages_most k (event.Spawn p) = 0
pages_most k (event.Exit p) = 0
pages_most k (event.Map p start pages) = 0
pages_most k (event.Alloc p pages) = 0
pages_most k (event.Unmap p start) = 0
pages_most k (event.Protect p start writable) = 0
pages_most k (event.Send d n) = 0
pages_most k (event.Recv d n) = 0
pages_most k (event.Cancel id) = 0
pages_most k (event.Pageout n) = 0
