-- Frames that are wired, and unwired.
use Rattle.std.specs.Prelude.{◌≡◌, ℕ, ◌+◌, ◌-◌, ◌^◌, ◌<◌, true, ⊤, List, [], ◌∷◌, length}
use Rattle.genie_frame.specs.FrameTable.{FrameTable, counts_at, set_counts, is_held}
use Rattle.genie_frame.specs.Frames.{one_wire_more, one_wire_less}
use Rattle.genie_object.specs.declared.memory.Memory.{Memory}
use Rattle.genie_object.specs.Memory.{seen}
use Rattle.genie_object.specs.Sound.{IsSound}
use Rattle.genie_object.specs.Touching.{KeepsLoans}
use Rattle.genie_plan.specs.Plans.{times}

-- the frames with a wire more on one of them, or one less
abbrev pub wired : FrameTable → ℕ → FrameTable
wired t f = set_counts t f (one_wire_more (counts_at t f))

abbrev pub unwired : FrameTable → ℕ → FrameTable
unwired t f = set_counts t f (one_wire_less (counts_at t f))

-- the same for each of these frames
abbrev pub all_wired : FrameTable → List ℕ → FrameTable
all_wired t [] = t
all_wired t (f ∷ frames) = all_wired (wired t f) frames

abbrev pub all_unwired : FrameTable → List ℕ → FrameTable
all_unwired t [] = t
all_unwired t (f ∷ frames) = all_unwired (unwired t f) frames

-- each of them is there and has room for its wire, or has a wire, when its turn comes
abbrev pub CanWire : FrameTable → List ℕ → Type 0
CanWire t [] = ⊤
CanWire t (f ∷ frames) = (f < length t.owners) × ((counts_at t f).wires < 2 ^ 32 - 1) × CanWire (wired t f) frames

abbrev pub CanUnwire : FrameTable → List ℕ → Type 0
CanUnwire t [] = ⊤
CanUnwire t (f ∷ frames) = (f < length t.owners) × (0 < (counts_at t f).wires) × CanUnwire (unwired t f) frames

-- only counts of wires differ
pub record OnlyWires (old new : FrameTable) : Type 0 where
  pub page : new.page ≡ old.page
  pub owners : new.owners ≡ old.owners
  pub number : length new.counts ≡ length old.counts
  pub bytes : new.bytes ≡ old.bytes
  pub meters : new.meters ≡ old.meters
  pub landed : new.landed ≡ old.landed

-- each of these frames is wired once more, and nothing else has changed
pub record Wired (frames : List ℕ) (old new : FrameTable) : Type 0 where
  pub only : OnlyWires old new
  pub counts : (f : ℕ) → counts_at new f ≡ record (counts_at old f) { wires = (counts_at old f).wires + times frames f }

-- each of these frames is wired once less, and nothing else has changed
pub record Unwired (frames : List ℕ) (old new : FrameTable) : Type 0 where
  pub only : OnlyWires old new
  pub counts : (f : ℕ) → counts_at new f ≡ record (counts_at old f) { wires = (counts_at old f).wires - times frames f }

-- what a memory keeps whose frames differ in counts of wires alone: it is sound, shows what it showed, and each loan lasts
pub record KeepsAll (old new : Memory) : Type 0 where
  pub sound : IsSound new
  pub is_seen : (slots : ℕ → List ℕ) → seen new slots ≡ seen old slots
  pub loans : KeepsLoans old new

-- frames that devices hold may be wired
abbrev pub WiresKeep : Type 0
WiresKeep = (m : Memory) (t : FrameTable) (frames : List ℕ) → IsSound m → Wired frames m.frames t → ((f : ℕ) → 0 < times frames f → is_held (counts_at m.frames f) ≡ true) → KeepsAll m (record m { frames = t })

abbrev pub UnwiresKeep : Type 0
UnwiresKeep = (m : Memory) (t : FrameTable) (frames : List ℕ) → IsSound m → Unwired frames m.frames t → KeepsAll m (record m { frames = t })
