-- What is left once a page was lent.
use Rattle.std.specs.Prelude.{◌≡◌, ℕ, List, ⊤}
use Rattle.std.specs.Borrow.{Lends, MutBor, Fml, Array, u8 as byte, follows_so}
use mathlib.Core.Option.{none}
use Rattle.genie_base.specs.Lending.{left_by_slice}
use Rattle.genie_frame.specs.FrameTable.{FrameTable, set_bytes, bytes_at}
use Rattle.genie_frame.specs.Frames.{more_gets, more_puts}
use Rattle.genie_frame.specs.contracts.frames.Frames.{the_row as frames_row}

-- the frames end with the last bytes behind the reference in frame f, and one page more was got
abbrev pub LendsPage : MutBor FrameTable → ℕ → MutBor (List ℕ) → Fml
LendsPage s f r = Lends frames_row (Array byte 0) s r (λ new. more_gets (set_bytes s.now f (left_by_slice (bytes_at s.now f) new)))

-- the frames end with one page more put, and else as they were
abbrev pub ShowsPage : MutBor FrameTable → Fml
ShowsPage s = follows_so frames_row frames_row s.ghost_name none (λ _ _. ⊤) (λ last. last ≡ more_puts s.now)
