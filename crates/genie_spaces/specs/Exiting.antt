-- What the end of a process has done so far.
use Rattle.std.specs.Prelude.{◌≡◌, ◌⊎◌, ℕ, ◌<◌, Bool, true, ◌&&◌, List, All}
use Rattle.genie_frame.specs.declared.frame.Owner.{Owner}
use Rattle.genie_frame.specs.declared.frame.Owner.TheVariants.{Nobody}
use Rattle.genie_frame.specs.FrameTable.{owner_at}
use Rattle.genie_space.specs.Spaces.{is_alive}
use Rattle.genie_model.specs.Lemmas.Lists.{Has}
use Rattle.genie_model.specs.Pending.{is_just, is_posted}
use Rattle.genie_model.specs.Space.{exit, tidy}
use Rattle.genie_model.specs.State.{State}
use Rattle.genie_model.specs.Tables.{entry}
use Rattle.genie_changes.specs.Paged.{HavePages}
use Rattle.genie_changes.specs.Settled.{IsSettled}
use Rattle.genie_kernel.specs.declared.kernel.Kernel.{Kernel}
use Rattle.genie_kernel.specs.declared.transfer.Transfer.{Transfer}
use Rattle.genie_kernel.specs.Counted.{pool_on}
use Rattle.genie_kernel.specs.Loans.{has_frame}
use Rattle.genie_kernel.specs.Steps.{bytes_over}
use Rattle.genie_kernel.specs.View.{no_bytes, state_of}

-- a posted input of process p
abbrev pub is_posted_by : ℕ → Transfer → Bool
is_posted_by p t = is_just t.owner p && is_posted t.phase

-- transfer n is a posted input of process p
pub record IsPostedAt (p n : ℕ) (transfers : List Transfer) : Type 0 where
  pub transfer : Transfer
  pub there : Has transfer transfers
  pub posted : is_posted_by p transfer ≡ true
  pub number : transfer.id.0 ≡ n

-- the state once process p has ended
abbrev pub ended : ℕ → State → State
ended p s = tidy (exit s p).0

-- the transfer was one of these, with the same loans
pub record WasAmong (transfers : List Transfer) (u : Transfer) : Type 0 where
  pub was : Transfer
  pub there : Has was transfers
  pub number : was.id.0 ≡ u.id.0
  pub loans : was.loans ≡ u.loans

-- the frame has the owner that it had, or is nobody's
abbrev pub StaysOwned : Owner → Owner → Type 0
StaysOwned before after = (after ≡ before) ⊎ (after ≡ Nobody)

-- some of what ends with process p has ended, so that the state at its end is the same; what is true between two changes is
-- so still, and no frame of a transfer or a pool gets another owner
pub record Exits (p : ℕ) (old new : Kernel) : Type 0 where
  pub settled : IsSettled new
  pub alive : is_alive p old.spaces ≡ true → is_alive p new.spaces ≡ true
  pub config : new.config ≡ old.config
  pub numbers : new.next ≡ old.next
  pub pools : new.pools ≡ old.pools
  pub hidden : new.hidden ≡ old.hidden
  pub meters : new.memory.frames.meters ≡ old.memory.frames.meters
  pub landed : new.memory.frames.landed ≡ old.memory.frames.landed
  pub among : All (WasAmong old.transfers) new.transfers
  pub lent : All (λ (u : Transfer). (f : ℕ) → has_frame f u ≡ true → StaysOwned (owner_at old.memory.frames f) (owner_at new.memory.frames f)) new.transfers
  pub pooled : (d f : ℕ) → 0 < pool_on f (entry old.pools d) → StaysOwned (owner_at old.memory.frames f) (owner_at new.memory.frames f)
  pub told : (slots rests sents : ℕ → List ℕ) → HavePages old.memory slots → ended p (state_of new (bytes_over new.memory slots rests sents)) ≡ ended p (state_of old (bytes_over old.memory slots rests sents))
  pub outlined : ended p (state_of new (no_bytes old.config.page)) ≡ ended p (state_of old (no_bytes old.config.page))
