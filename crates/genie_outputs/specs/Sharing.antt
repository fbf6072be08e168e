-- Weak loans of an output call, and its wires.
use Rattle.std.specs.Prelude.{◌≡◌, ℕ, Bool, true, false, List}
use Rattle.genie_frame.specs.FrameTable.{FrameTable}
use Rattle.genie_store.specs.StoreView.{StoreView}
use Rattle.genie_object.specs.declared.memory.Memory.{Memory}
use Rattle.genie_object.specs.Memory.{seen_with}
use Rattle.genie_object.specs.Sound.{IsSized}
use Rattle.genie_plan.specs.declared.plan.OutPlan.{OutPlan}
use Rattle.genie_plan.specs.Wiring.{Wired}
use Rattle.genie_region.specs.declared.region.Region.{Region}
use Rattle.genie_kernel.specs.declared.kernel.Kernel.{Kernel}
use Rattle.genie_changes.specs.Beginning.{Begins}
use Rattle.genie_outputs.specs.declared.call.Call.{Call}
use Rattle.genie_outputs.specs.Calls.{transfer_of}

-- these frames are wired once more, unless the call is emulated
abbrev pub WiredUnless : Bool → List ℕ → FrameTable → FrameTable → Type 0
WiredUnless true frames old new = new ≡ old
WiredUnless false frames old new = Wired frames old new

-- loans are out for the call, and nothing else has changed that is seen
pub record IsShared (k : Kernel) (m : Memory) (c : Call) (r : Region) (plan : OutPlan) (v w : StoreView) : Type 0 where
  pub begins : Begins k m (transfer_of k c r plan)
  pub sized : IsSized m w
  pub shows : seen_with m w ≡ seen_with k.memory v
