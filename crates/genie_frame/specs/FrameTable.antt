-- What contracts see of the page frames: a list for each thing that a frame has.
use Rattle.std.specs.Prelude.{◌≡◌, ℕ, ◌≤◌, Bool, true, false, IsTrue, ◌||◌, List, [], length, All, replicate, slice_set, slice_index_or, nat_lt, ◌⊎◌}
use Rattle.genie_base.specs.Counts.{is_page_size}
use Rattle.genie_frame.specs.declared.frame.Owner.{Owner}
use Rattle.genie_frame.specs.declared.frame.Owner.TheVariants.{Free, Page, System, Pool, Nobody}
use Rattle.genie_frame.specs.declared.frame.Counts.{Counts}
use Rattle.genie_frame.specs.declared.frame.Meters.{Meters}

-- the page size, then the owner, the counts and the bytes of each frame, and what was counted since boot
pub record FrameTable : Type 0 where
  pub page : ℕ
  pub owners : List Owner
  pub counts : List Counts
  pub bytes : List (List ℕ)
  pub meters : Meters
  pub landed : ℕ

abbrev pub is_free : Owner → Bool
is_free Free = true
is_free (Page p) = false
is_free (System t) = false
is_free (Pool d) = false
is_free Nobody = false

abbrev pub is_nobody : Owner → Bool
is_nobody Free = false
is_nobody (Page p) = false
is_nobody (System t) = false
is_nobody (Pool d) = false
is_nobody Nobody = true

abbrev pub is_page : Owner → Bool
is_page Free = false
is_page (Page p) = true
is_page (System t) = false
is_page (Pool d) = false
is_page Nobody = false

-- a frame of the system itself: one of a transfer's own buffer, or of a device's pool
abbrev pub is_system : Owner → Bool
is_system Free = false
is_system (Page p) = false
is_system (System t) = true
is_system (Pool d) = true
is_system Nobody = false

-- somebody has the frame
abbrev pub is_owned : Owner → Bool
is_owned Free = false
is_owned (Page p) = true
is_owned (System t) = true
is_owned (Pool d) = true
is_owned Nobody = false

-- a loan is out
abbrev pub is_lent : Counts → Bool
is_lent c = nat_lt 0 c.strong || nat_lt 0 c.weak || nat_lt 0 c.input

-- a loan is out through which a device reads or writes the page as it is at that moment, so that the page may not move
abbrev pub is_held : Counts → Bool
is_held c = nat_lt 0 c.weak || nat_lt 0 c.input

abbrev pub no_counts : Counts
no_counts = record { strong = 0; weak = 0; input = 0; wires = 0 }

abbrev pub no_meters : Meters
no_meters = record { read = 0; written = 0; copied = 0; zeroed = 0; puts = 0; gets = 0; taken = 0 }

-- n free frames of zeros
abbrev pub free_frames : ℕ → ℕ → FrameTable
free_frames n page = record {
  page = page;
  owners = replicate n Free;
  counts = replicate n no_counts;
  bytes = replicate n (replicate page 0);
  meters = no_meters;
  landed = 0;
}

-- what a frame has; one that isn't there is free, has no loan and no bytes
abbrev pub owner_at : FrameTable → ℕ → Owner
owner_at t f = slice_index_or t.owners f Free

abbrev pub counts_at : FrameTable → ℕ → Counts
counts_at t f = slice_index_or t.counts f no_counts

abbrev pub bytes_at : FrameTable → ℕ → List ℕ
bytes_at t f = slice_index_or t.bytes f []

-- the frames with one of them changed
abbrev pub set_owner : FrameTable → ℕ → Owner → FrameTable
set_owner t f owner = record t { owners = slice_set t.owners f owner }

abbrev pub set_counts : FrameTable → ℕ → Counts → FrameTable
set_counts t f new = record t { counts = slice_set t.counts f new }

abbrev pub set_bytes : FrameTable → ℕ → List ℕ → FrameTable
set_bytes t f new = record t { bytes = slice_set t.bytes f new }

-- each list has a place for each frame, each frame has the bytes of a page, and the sizes are in their bounds
pub record IsShaped (page : ℕ) (owners : List Owner) (counts : List Counts) (bytes : List (List ℕ)) : Type 0 where
  pub size : IsTrue (is_page_size page)
  pub some : 1 ≤ length owners
  pub most : length owners ≤ 4096
  pub counted : length counts ≡ length owners
  pub filled : length bytes ≡ length owners
  pub paged : All (λ b. length b ≡ page) bytes

-- a free frame has no loan, and one of nobody has one
pub record Agree (owner : Owner) (counts : Counts) : Type 0 where
  pub free : owner ≡ Free → is_lent counts ≡ false
  pub nobody : owner ≡ Nobody → is_lent counts ≡ true

abbrev pub AreLoansOwned : List Owner → List Counts → Type 0
AreLoansOwned owners counts = (f : ℕ) → Agree (slice_index_or owners f Free) (slice_index_or counts f no_counts)

-- a frame that carries a loan before and after isn't freed, and gets no owner but nobody
abbrev pub AreLentKept : List Owner → List Counts → List Owner → List Counts → Type 0
AreLentKept owners counts new left = (f : ℕ) → is_lent (slice_index_or counts f no_counts) ≡ true → is_lent (slice_index_or left f no_counts) ≡ true → (slice_index_or new f Free ≡ slice_index_or owners f Free) ⊎ (slice_index_or new f Free ≡ Nobody)

abbrev pub KeepsLent : FrameTable → FrameTable → Type 0
KeepsLent old new = AreLentKept old.owners old.counts new.owners new.counts
