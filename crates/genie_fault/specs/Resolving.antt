-- What a frame is loaded with.
use Rattle.std.specs.Prelude.{◌≡◌, ℕ, ◌+◌, ◌<◌, ◌≤◌, true, false, Some, None, count_by, List, length, Result, OnOk, OnErr, IfSome}
use Rattle.genie_frame.specs.FrameTable.{FrameTable, bytes_at, counts_at, owner_at, set_bytes, is_free, is_lent}
use Rattle.genie_frame.specs.declared.frame.Owner.TheVariants.{Free, System}
use Rattle.genie_frame.specs.declared.frame.FrameId.{FrameId}
use Rattle.genie_frame.specs.FrameTable.{set_owner}
use Rattle.genie_store.specs.StoreView.{StoreView}
use Rattle.genie_object.specs.declared.pages.Place.{Place}
use Rattle.genie_object.specs.declared.pages.Place.TheVariants.{Frame, Slot}
use Rattle.genie_object.specs.Steps.{metered, filled, renamed}
use Rattle.genie_object.specs.Pages.{page_at, no_page, is_there}
use Rattle.genie_object.specs.Costs.{place_of, CostsNoMore}
use Rattle.genie_object.specs.Memory.{place_bytes, seen_with, entry_frame}
use Rattle.genie_object.specs.Objects.{entry_at, object_at}
use Rattle.genie_object.specs.Sound.{IsSound, strong_at}
use Rattle.genie_object.specs.declared.pages.PageId.{PageId}
use Rattle.genie_object.specs.Keeping.{IsReady}
use Rattle.genie_object.specs.Touching.{KeepsLoans, Touches, is_entry}
use Rattle.genie_base.specs.Causes.{HasCause}
use Rattle.genie_object.specs.declared.memory.Memory.{Memory}

-- frame f has the bytes of the place; after a fault it has its own
pub record Loads {T E : Type 0} (old new : FrameTable) (f : ℕ) (place : Place) (v : StoreView) (result : Result T E) : Type 0 where
  pub frames : new ≡ record (set_bytes old f (bytes_at new f)) { meters = new.meters }
  pub full : length (bytes_at new f) ≡ old.page
  pub bytes : OnOk result (IfSome v.slots (λ slots. bytes_at new f ≡ place_bytes old slots place))
  pub left : OnErr result (bytes_at new f ≡ bytes_at old f)

-- a frame of the system has the bytes of the place
abbrev pub loaded : Memory → ℕ → List ℕ → Memory
loaded m g bytes = record m { frames = set_bytes (set_owner m.frames g (System 0)) g bytes }

-- frame g, which was free, was loaded with the bytes of the place
pub record IsLoaded (old new : Memory) (v : StoreView) (place : Place) (g : ℕ) : Type 0 where
  pub there : g < length old.frames.owners
  pub was_free : owner_at old.frames g ≡ Free
  pub arrived : new ≡ metered (loaded old g (bytes_at new.frames g)) new.frames.meters
  pub full : length (bytes_at new.frames g) ≡ old.frames.page
  pub bytes : IfSome v.slots (λ slots. bytes_at new.frames g ≡ place_bytes old.frames slots place)

-- a frame that is there, or a slot that is taken
pub record IsKnown (m : Memory) (place : Place) : Type 0 where
  pub frame : (f : FrameId) → place ≡ Frame f → f.0 < length m.frames.owners
  pub slot : (s : ℕ) → place ≡ Slot s → s < length m.slots

-- page p is in frame g, which was free, with the bytes that it had
pub record IsBrought (old new : Memory) (v : StoreView) (p : ℕ) (g : FrameId) : Type 0 where
  pub there : g.0 < length old.frames.owners
  pub was_free : owner_at old.frames g.0 ≡ Free
  pub arrived : new ≡ metered (filled old p g (bytes_at new.frames g.0)) new.frames.meters
  pub full : length (bytes_at new.frames g.0) ≡ old.frames.page
  pub bytes : IfSome v.slots (λ slots. bytes_at new.frames g.0 ≡ place_bytes old.frames slots (page_at old.pages.pages p).place)

-- entry i of object o names a new page in frame g, which was free, with the bytes that the entry had
pub record IsParted (old new : Memory) (v : StoreView) (o i : ℕ) (g : FrameId) : Type 0 where
  pub number : ℕ
  pub room : number < length old.pages.pages
  pub spare : page_at old.pages.pages number ≡ no_page
  pub there : g.0 < length old.frames.owners
  pub was_free : owner_at old.frames g.0 ≡ Free
  pub arrived : new ≡ metered (filled (renamed old o i number) number g (bytes_at new.frames g.0)) new.frames.meters
  pub full : length (bytes_at new.frames g.0) ≡ old.frames.page
  pub bytes : IfSome v.slots (λ slots. bytes_at new.frames g.0 ≡ place_bytes old.frames slots (place_of old o i))

-- the store was read, and holds what it held
pub record IsRead {T E : Type 0} (old new : StoreView) (result : Result T E) : Type 0 where
  pub count : new.count ≡ old.count
  pub page : new.page ≡ old.page
  pub slots : new.slots ≡ old.slots
  pub cause : HasCause old.faults new.faults result

-- what a call that has brought page p of entry i of object o into frame f, which was free, leaves of the memory
pub record IsIn (old new : Memory) (v : StoreView) (o i : ℕ) (p : PageId) (f : FrameId) : Type 0 where
  pub sound : IsSound new
  pub seen : seen_with new v ≡ seen_with old v
  pub keeps : KeepsLoans old new
  pub touches : Touches (is_entry o i) old new
  pub there : i < length (object_at new.objects o)
  pub is_page : (entry_at new.objects o i).page ≡ Some p
  pub is_place : (page_at new.pages.pages p.0).place ≡ Frame f
  pub unlent : strong_at new.frames.counts f.0 ≡ 0
  pub counts : new.frames.counts ≡ old.frames.counts
  pub landed : new.frames.landed ≡ old.frames.landed
  pub free : count_by is_free old.frames.owners ≤ count_by is_free new.frames.owners + 1
  pub pages : count_by is_there new.pages.pages ≤ count_by is_there old.pages.pages + 1
  pub costs : CostsNoMore old new

-- what a call that has resolved entry i of object o to frame f leaves of the memory
pub record IsResolved (old new : Memory) (v : StoreView) (o i : ℕ) (f : FrameId) : Type 0 where
  pub sound : IsSound new
  pub seen : seen_with new v ≡ seen_with old v
  pub keeps : KeepsLoans old new
  pub touches : Touches (is_entry o i) old new
  pub is_framed : entry_frame new o i ≡ Some f.0
  pub readable : (entry_at new.objects o i).readable ≡ true
  pub counts : new.frames.counts ≡ old.frames.counts
  pub landed : new.frames.landed ≡ old.frames.landed
  pub free : count_by is_free old.frames.owners ≤ count_by is_free new.frames.owners + 1
  pub pages : count_by is_there new.pages.pages ≤ count_by is_there old.pages.pages + 1
  pub costs : CostsNoMore old new

-- a page that was in no frame came into one without a loan, a page in a frame stayed there and left all frames as they
-- were, and no frame that somebody had changed its owner
pub record BringsIn (old : Memory) (new : FrameTable) (o i f : ℕ) : Type 0 where
  pub fresh : entry_frame old o i ≡ None → is_lent (counts_at old.frames f) ≡ false
  pub stays : (g : ℕ) → entry_frame old o i ≡ Some g → (f ≡ g) × (new ≡ old.frames)
  pub owners : (g : ℕ) → is_free (owner_at old.frames g) ≡ false → owner_at new g ≡ owner_at old.frames g

-- what a call that has resolved an entry for reading leaves
pub record IsReadIn (old new : Memory) (v : StoreView) (o i : ℕ) (f : FrameId) : Type 0 where
  pub resolved : IsResolved old new v o i f
  pub brings : BringsIn old new.frames o i f.0

-- the same for a call that makes the entry's page private
pub record IsWritten (old new : Memory) (v : StoreView) (o i : ℕ) (f : FrameId) : Type 0 where
  pub resolved : IsResolved old new v o i f
  pub ready : IsReady new o i f
  pub writable : (entry_at new.objects o i).writable ≡ true
