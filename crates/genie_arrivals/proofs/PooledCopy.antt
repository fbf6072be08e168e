-- A kernel is good where bytes are copied to the pages of a range, which stay where they are.
use Rattle.std.proofs.Common.{◌≡◌, ℕ, List, sym, subst}
use Rattle.genie_frame.specs.declared.frame.Meters.{Meters}
use Rattle.genie_finish.specs.Copies.{CopiesRange}
use Rattle.genie_hiding.specs.Hidden.{objects_of}
use Rattle.genie_object.specs.declared.memory.Memory.{Memory}
use Rattle.genie_object.specs.Sound.{FitsHidden, IsSound}
use Rattle.genie_region.specs.declared.region.Region.{Region}
use Rattle.std.specs.Prelude.{Option, Some, None}
use Rattle.genie_kernel.specs.declared.kernel.Kernel.{Kernel}
use Rattle.genie_kernel.specs.declared.transfer.Transfer.{Transfer}
use Rattle.genie_kernel.specs.Good.{IsGood}
use Rattle.genie_kernel.specs.Held.{AreHeldPages, IsInFrame}
use Rattle.genie_kernel.specs.Regions.{owned_regions}

-- the memory with other bytes in its frames, and other meters
abbrev pub with_copied : Memory → List (List ℕ) → Meters → ℕ → Memory
with_copied m bytes meters landed = record m { frames = record (m.frames) { bytes = bytes; meters = meters; landed = landed } }

still_in : (m : Memory) (bytes : List (List ℕ)) (meters : Meters) (landed : ℕ) (r : Option Region) (i f : ℕ) → IsInFrame m r i f → IsInFrame (with_copied m bytes meters landed) r i f
still_in m bytes meters landed None i f h = h
still_in m bytes meters landed (Some r) i f h = h

still_held : (page : ℕ) (m : Memory) (bytes : List (List ℕ)) (meters : Meters) (landed : ℕ) (regions : List Region) (transfers : List Transfer) → AreHeldPages page m regions transfers → AreHeldPages page (with_copied m bytes meters landed) regions transfers
still_held page m bytes meters landed regions transfers h = record {
  page_in = h.page_in;
  frame_of = h.frame_of;
  each = λ n d l. let x = h.each n d l in record { pages = x.pages; frames = x.frames; held = λ j within. still_in m bytes meters landed _ _ _ (x.held j within) };
}

still_fits : (m : Memory) (bytes : List (List ℕ)) (meters : Meters) (landed : ℕ) (objects : List ℕ) → FitsHidden m objects → FitsHidden (with_copied m bytes meters landed) objects
still_fits m bytes meters landed objects h = record {
  cached = λ n l. let x = h.cached n l in record { there = x.there; own = x.own; frame = x.frame; in_frame = x.in_frame; unheld = x.unheld };
  apart = h.apart;
}

with_good : (k : Kernel) (bytes : List (List ℕ)) (meters : Meters) (landed : ℕ) → IsGood k → IsSound (with_copied k.memory bytes meters landed) → IsGood (record k { memory = with_copied k.memory bytes meters landed })
with_good k bytes meters landed g sound = record {
  fits = g.fits;
  sized = record { page = g.sized.page; frames = g.sized.frames; slots = g.sized.slots; pages = g.sized.pages };
  spaced = g.spaced;
  equipped = g.equipped;
  orderly = g.orderly;
  sound = sound;
  cached = still_fits k.memory bytes meters landed (objects_of k.hidden) g.cached;
  few = g.few;
  backed = g.backed;
  guarded = g.guarded;
  counted = g.counted;
  owners = g.owners;
  held = still_held k.config.page k.memory bytes meters landed (owned_regions k.spaces.processes) k.transfers g.held;
  planned = g.planned;
  fitting = g.fitting;
  posted = g.posted;
  sending = g.sending;
  receiving = g.receiving;
  arrived = g.arrived;
}

pub copied_good : (k : Kernel) (m : Memory) (o off len first : ℕ) (frames : List ℕ) → IsGood k → CopiesRange k.memory m o off len first frames → IsGood (record k { memory = m })
copied_good k m o off len first frames g c =
    let same : m ≡ with_copied k.memory m.frames.bytes m.frames.meters m.frames.landed = λ i. record {
      frames = record { page = c.page i; owners = c.owners i; counts = c.counts i; bytes = m.frames.bytes; meters = m.frames.meters; landed = m.frames.landed };
      pages = c.pages i;
      objects = c.objects i;
      slots = c.slots i;
    } in
    subst (λ (x : Memory). IsGood (record k { memory = x })) (sym same) (with_good k m.frames.bytes m.frames.meters m.frames.landed g (subst IsSound same c.sound))
