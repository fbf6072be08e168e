-- Which frames are marked.
use Rattle.std.specs.Prelude.{◌≡◌, ℕ, ◌<◌, ◌⊎◌, Bool, true, false, List, Option, Some, None, slice_index_or, slice_set}
use Rattle.genie_object.specs.declared.memory.Memory.{Memory}
use Rattle.genie_object.specs.Memory.{entry_frame}

-- the marks with one frame more marked
abbrev pub marked : Option ℕ → List Bool → List Bool
marked None marks = marks
marked (Some f) marks = slice_set marks f true

abbrev pub is_marked : List Bool → ℕ → Bool
is_marked marks f = slice_index_or marks f false

-- an entry of the object names the page in the frame
pub record IsFrameOf (m : Memory) (o f : ℕ) : Type 0 where
  pub index : ℕ
  pub frame : entry_frame m o index ≡ Some f

-- the frames that have the pages of the object's first n entries are marked besides
pub record MarksObject (m : Memory) (o n : ℕ) (old new : List Bool) : Type 0 where
  pub kept : (f : ℕ) → is_marked old f ≡ true → is_marked new f ≡ true
  pub all : (i f : ℕ) → i < n → entry_frame m o i ≡ Some f → is_marked new f ≡ true
  pub only : (f : ℕ) → is_marked new f ≡ true → (is_marked old f ≡ true) ⊎ IsFrameOf m o f
