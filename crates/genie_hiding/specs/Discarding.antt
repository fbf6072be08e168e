-- What is left once the hidden regions of a process were dropped.
use Rattle.std.specs.Prelude.{◌≡◌, ℕ, ◌≤◌, ◌==◌, ◌&&◌, Bool, true, false, List, [], length, count_by, nat_lt}
use Rattle.genie_frame.specs.FrameTable.{owner_at, counts_at, is_lent}
use Rattle.genie_object.specs.declared.memory.Memory.{Memory}
use Rattle.genie_object.specs.Pages.{is_there}
use Rattle.genie_object.specs.Objects.{object_at, entry_at}
use Rattle.genie_object.specs.Costs.{place_of}
use Rattle.genie_object.specs.Memory.{seen}
use Rattle.genie_object.specs.Sound.{IsSound}
use Rattle.genie_object.specs.Touching.{Touches, Lasts, system_owner}
use Rattle.genie_hiding.specs.declared.hidden.Hidden.{Hidden}
use Rattle.genie_hiding.specs.Hidden.{is_of, object_of}

abbrev pub has_object : ℕ → ℕ → Hidden → Bool
has_object pid o h = is_of pid h && (object_of h == o)

-- the object is that of one of the process's hidden regions
abbrev pub is_object_of : ℕ → List Hidden → ℕ → Bool
is_object_of pid kept o = nat_lt 0 (count_by (has_object pid o) kept)

-- what a call that takes these objects away leaves: every other entry is as it was, has its page where it was, and shows
-- what it showed
pub record Discards (objects : ℕ → Bool) (old new : Memory) : Type 0 where
  pub sound : IsSound new
  pub gone : (o : ℕ) → objects o ≡ true → object_at new.objects o ≡ []
  pub entries : (slots : ℕ → List ℕ) (o i : ℕ) → objects o ≡ false → (seen new slots).entry_bytes o i ≡ (seen old slots).entry_bytes o i
  pub others : (o i : ℕ) → objects o ≡ false → entry_at new.objects o i ≡ entry_at old.objects o i
  pub places : (o i : ℕ) → objects o ≡ false → place_of new o i ≡ place_of old o i
  pub touches : Touches (λ o i. objects o) old new
  pub lent : (f : ℕ) → is_lent (counts_at old.frames f) ≡ true → Lasts old.frames new.frames f
  pub systems : (f : ℕ) → system_owner (owner_at new.frames f) ≡ system_owner (owner_at old.frames f)
  pub sizes : (o : ℕ) → objects o ≡ false → length (object_at new.objects o) ≡ length (object_at old.objects o)
  pub frames : new.frames ≡ record (old.frames) { owners = new.frames.owners }
  pub number : length new.frames.owners ≡ length old.frames.owners
  pub slots : length new.slots ≡ length old.slots
  pub fewer : count_by is_there new.pages.pages ≤ count_by is_there old.pages.pages
  pub most : new.pages.most ≡ old.pages.most
