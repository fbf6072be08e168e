-- A buffer in the frames of an object's pages, in place of the object.
use Rattle.std.specs.Prelude.{◌≡◌, ℕ, ◌+◌, ◌<◌, ◌≤◌, true, false, Option, Some, None, length}
use Rattle.genie_frame.specs.declared.frame.Owner.TheVariants.{Free, System}
use Rattle.genie_frame.specs.FrameTable.{owner_at, counts_at, is_lent, set_counts, set_owner}
use Rattle.genie_frame.specs.Frames.{one_input_more}
use Rattle.genie_object.specs.declared.memory.Memory.{Memory}
use Rattle.genie_object.specs.declared.pages.Place.TheVariants.{Frame}
use Rattle.genie_object.specs.Leaving.{emptied_entry, Removes}
use Rattle.genie_object.specs.Memory.{entry_frame}
use Rattle.genie_object.specs.Objects.{entry_at, set_entry, no_entry}
use Rattle.genie_object.specs.Pages.{page_at, set_page, no_page}
use Rattle.genie_plan.specs.Buffers.{taken_lent}
use Rattle.genie_plan.specs.Plans.{times}
use Rattle.genie_kernel.specs.declared.transfer.Loans.{Loans}
use Rattle.genie_kernel.specs.Loans.{frames_of}
use Rattle.genie_inputs.specs.declared.claim.Unlent.{Unlent}
use Rattle.genie_inputs.specs.Buffers.{LendsBuffer, with_taken}

-- the entry's page is in a frame on which no loan is out
pub record IsUnlent (m : Memory) (o i : ℕ) (u : Unlent) : Type 0 where
  pub is_page : (entry_at m.objects o i).page ≡ Some u.page
  pub is_place : (page_at m.pages.pages u.page.0).place ≡ Frame u.frame
  pub unlent : is_lent (counts_at m.frames u.frame.0) ≡ false

-- what is found of an entry's page: where it is in such a frame, or that it isn't
abbrev pub FindsUnlent : Memory → ℕ → ℕ → Option Unlent → Type 0
FindsUnlent m o i (Some u) = IsUnlent m o i u
FindsUnlent m o i None = (f : ℕ) → entry_frame m o i ≡ Some f → is_lent (counts_at m.frames f) ≡ true

-- the entry names no page, whose frame is transfer n's and is lent for input
abbrev pub claimed : Memory → ℕ → ℕ → Unlent → ℕ → Memory
claimed m o i u n = record m {
  frames = set_counts (set_owner m.frames u.frame.0 (System n)) u.frame.0 (one_input_more (counts_at m.frames u.frame.0));
  pages = set_page m.pages u.page.0 no_page;
  objects = set_entry m.objects o i no_entry;
}

-- the entry is emptied, and frame f, which is free then, is transfer n's and is lent for input; it is the one that the
-- entry's page had, where no loan was out on that
pub record LendsEntry (n o i : ℕ) (old new : Memory) (f : ℕ) : Type 0 where
  pub there : f < length old.frames.owners
  pub was_free : owner_at (emptied_entry old o i).frames f ≡ Free
  pub frames : (count : ℕ) → with_taken new.frames (count + 1) ≡ taken_lent (with_taken (emptied_entry old o i).frames count) f (System n)
  pub rest : new ≡ record (emptied_entry old o i) { frames = new.frames }
  pub same : (g : ℕ) → entry_frame old o i ≡ Some g → is_lent (counts_at old.frames g) ≡ false → f ≡ g
  pub meter : new.frames.meters.taken ≤ old.frames.meters.taken + 1
  pub low : old.frames.meters.taken ≤ new.frames.meters.taken

-- the object goes, and the buffer is lent as if from the free frames that are left then; each frame of its pages that
-- carried no loan is one of the buffer's
pub record LendsObject (n len o : ℕ) (old new : Memory) (loans : Loans) : Type 0 where
  pub gone : Memory
  pub removes : Removes o old gone
  pub buffer : LendsBuffer n 0 len true gone new loans
  pub same : (i f : ℕ) → entry_frame old o i ≡ Some f → is_lent (counts_at old.frames f) ≡ false → 0 < times (frames_of loans) f
