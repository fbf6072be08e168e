-- What `make` does: a made script is replayed over made streams, and its replies are summed up.
use Rattle.std.specs.Prelude.{◌≡◌, ◌⊎◌, ℕ, List, codes, Option, None, Some}
use Rattle.std.specs.Io.KnownBytes.{Appends}
use Rattle.genie_base.specs.Causes.{Rose}
use Rattle.genie_gen.specs.GenView.{fresh, host_of, summary_of}
use Rattle.genie_gen.specs.Rounds.{script_text}
use Rattle.genie_host.specs.Host.{HostView}
use Rattle.genie_store.specs.StoreView.{StoreView}
use Rattle.genie_kernel.specs.declared.kernel.Kernel.{Kernel}
use Rattle.genie_replay.specs.Write.{AppendsFront}
use Rattle.genie_replay.specs.declared.status.Status.{Status}
use Rattle.genie_replay.specs.declared.status.Status.TheVariants.{Done, HostFault, NoMemory}
use Rattle.genie_playing.specs.declared.costs.Listing.TheVariants.{Replies}
use Rattle.genie_running.specs.Outcome.{OutcomeOf}
use Rattle.genie_commands.specs.Summaries.{summary_text}

-- A run over the made script and streams, which were told and not yet opened, ended so and replied with this text.
pub record MadeRun (seed rounds : ℕ) (text : List ℕ) (status : Status) (kernel : Option Kernel) (v w : StoreView) : Type 0 where
  pub after : HostView
  pub ran : OutcomeOf Replies (codes "made") (Some (script_text seed rounds)) status kernel (host_of (fresh seed rounds)) after v w
  pub replied : (after.handle 0).bytes ≡ Some text

-- that run was done, and the summary of its replies was written
pub record Made (seed rounds : ℕ) (kernel : Option Kernel) (old new : HostView) (v w : StoreView) : Type 0 where
  pub text : List ℕ
  pub run : MadeRun seed rounds text Done kernel v w
  pub written : Appends (old.handle 0).bytes (new.handle 0).bytes (summary_text (summary_of text))

-- that run was done, and a front of the summary was written
pub record MadeInPart (seed rounds : ℕ) (kernel : Option Kernel) (old new : HostView) (v w : StoreView) : Type 0 where
  pub text : List ℕ
  pub run : MadeRun seed rounds text Done kernel v w
  pub written : AppendsFront (old.handle 0).bytes (new.handle 0).bytes (summary_text (summary_of text))

-- that run came to no event, and nothing was written
pub record Unmade (seed rounds : ℕ) (status : Status) (kernel : Option Kernel) (old new : HostView) (v w : StoreView) : Type 0 where
  pub text : List ℕ
  pub run : MadeRun seed rounds text status kernel v w
  pub none : kernel ≡ None
  pub same : new ≡ old

-- Nothing else comes: made scripts are whole, so that no line of one ends its run, and nothing fails on the host of one.
abbrev pub MakesOf : ℕ → ℕ → Status → Option Kernel → HostView → HostView → StoreView → StoreView → Type 0
MakesOf seed rounds Done kernel old new v w = Made seed rounds kernel old new v w
MakesOf seed rounds HostFault kernel old new v w = MadeInPart seed rounds kernel old new v w ⊎ Unmade seed rounds HostFault kernel old new v w
MakesOf seed rounds NoMemory kernel old new v w = Unmade seed rounds NoMemory kernel old new v w
MakesOf seed rounds status kernel old new v w = ⊥

-- the count of the replies' handle rose, or that of the store, which isn't sized
abbrev pub HasMakeCause : HostView → HostView → StoreView → StoreView → Type 0
HasMakeCause old new v w = Rose (old.handle 0).faults (new.handle 0).faults ⊎ (Rose v.faults w.faults × (w.count ≡ 0))
