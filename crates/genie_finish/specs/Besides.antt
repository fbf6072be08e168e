-- What a call that ends loans keeps of everything else.
use Rattle.std.specs.Prelude.{◌≡◌, ℕ, true, List, length, Some, ◌⊎◌}
use Rattle.genie_frame.specs.declared.frame.Owner.TheVariants.{Nobody}
use Rattle.genie_frame.specs.FrameTable.{owner_at, counts_at, is_held, is_lent, is_page}
use Rattle.genie_object.specs.declared.memory.Memory.{Memory}
use Rattle.genie_object.specs.Objects.{object_at}
use Rattle.genie_object.specs.Memory.{entry_frame}
use Rattle.genie_object.specs.Touching.{system_owner}
use Rattle.genie_plan.specs.Plans.{times}

-- besides these frames: no count has changed, a lent frame has its owner, or its page has left it to nobody, and the
-- system's frames have theirs; an entry whose page a device holds keeps that page, and the page its frame
pub record KeepsBesides (frames : List ℕ) (old new : Memory) : Type 0 where
  pub entry_held : (o i f : ℕ) → entry_frame old o i ≡ Some f → is_held (counts_at old.frames f) ≡ true → entry_frame new o i ≡ Some f
  pub counts : (f : ℕ) → times frames f ≡ 0 → counts_at new.frames f ≡ counts_at old.frames f
  pub lent : (f : ℕ) → times frames f ≡ 0 → is_lent (counts_at old.frames f) ≡ true → (owner_at new.frames f ≡ owner_at old.frames f) ⊎ ((is_page (owner_at old.frames f) ≡ true) × (owner_at new.frames f ≡ Nobody))
  pub systems : (f : ℕ) → times frames f ≡ 0 → system_owner (owner_at new.frames f) ≡ system_owner (owner_at old.frames f)
  pub entries : (o : ℕ) → length (object_at new.objects o) ≡ length (object_at old.objects o)
  pub number : length new.frames.owners ≡ length old.frames.owners
  pub page : new.frames.page ≡ old.frames.page
  pub slots : length new.slots ≡ length old.slots
  pub most : new.pages.most ≡ old.pages.most
