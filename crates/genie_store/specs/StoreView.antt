-- What contracts see of a backing store.
use Rattle.std.specs.Prelude.{◌≡◌, ℕ, ◌≤◌, ◌==◌, Bool, List, Option, Result, OnOk, OnErr, IfErr, IfSome, is_some, nat_lt, if◌then◌else◌}
use Rattle.std.specs.Option.{option_map}
use Rattle.genie_base.specs.Causes.{Rose, HasCause}
use Rattle.genie_store.specs.declared.store.StoreRefused.{StoreRefused}
use Rattle.genie_store.specs.declared.store.StoreRefused.TheVariants.{Failed}

pub record StoreView : Type 0 where
  -- how many slots there are: none before the store is sized
  pub count : ℕ
  -- how many bytes a slot has
  pub page : ℕ
  -- the bytes of each slot, where the store tells them
  pub slots : Option (ℕ → List ℕ)
  -- how many calls failed
  pub faults : ℕ

abbrev pub is_sized : StoreView → Bool
is_sized v = nat_lt 0 v.count

abbrev pub set_slot : (ℕ → List ℕ) → ℕ → List ℕ → ℕ → List ℕ
set_slot slots s new r = if r == s then new else slots r

-- the store has slots of any content from then on; after a refusal it is as before, but for the count
pub record Sizes {T : Type 0} (old new : StoreView) (pages size : ℕ) (result : Result T StoreRefused) : Type 0 where
  pub count : OnOk result (new.count ≡ pages)
  pub page : OnOk result (new.page ≡ size)
  pub told : is_some new.slots ≡ is_some old.slots
  pub left : OnErr result (new ≡ record old { faults = new.faults })
  pub later : old.faults ≤ new.faults
  pub failed : IfErr result (λ e. e ≡ Failed → Rose old.faults new.faults)
  pub kept : OnOk result (new.faults ≡ old.faults)

-- slot s has the bytes from then on, and every other one its own; after a fault each has its own
pub record Puts {T E : Type 0} (old new : StoreView) (s : ℕ) (from : List ℕ) (result : Result T E) : Type 0 where
  pub count : new.count ≡ old.count
  pub page : new.page ≡ old.page
  pub stored : OnOk result (new.slots ≡ option_map (λ slots. set_slot slots s from) old.slots)
  pub left : OnErr result (new.slots ≡ old.slots)
  pub cause : HasCause old.faults new.faults result

-- the bytes of slot s are in the buffer; after a fault it is as before; all slots stay
pub record Gets {T E : Type 0} (old new : StoreView) (s : ℕ) (before after : List ℕ) (result : Result T E) : Type 0 where
  pub count : new.count ≡ old.count
  pub page : new.page ≡ old.page
  pub slots : new.slots ≡ old.slots
  pub got : OnOk result (IfSome old.slots (λ slots. after ≡ slots s))
  pub left : OnErr result (after ≡ before)
  pub cause : HasCause old.faults new.faults result
