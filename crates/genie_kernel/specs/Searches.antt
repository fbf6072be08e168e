-- What is searched for among the pending transfers.
use Rattle.std.specs.Prelude.{◌≡◌, ℕ, ◌<◌, Bool, true, false, List, length, slice_index_or}
use Rattle.genie_kernel.specs.declared.search.Search.{Search}
use Rattle.genie_kernel.specs.declared.search.Search.TheVariants.{Number, Waiting, Receiving, Naming, WeakInput}
use Rattle.genie_kernel.specs.declared.transfer.Transfer.{Transfer}
use Rattle.genie_kernel.specs.Calls.{has_number, waits_for, receives_from, is_named, is_weak_input_into}

abbrev pub names : ℕ → Transfer → Bool
names region t = is_named t.region region

abbrev pub passes : Search → Transfer → Bool
passes (Number id) t = has_number id t
passes (Waiting dev) t = waits_for dev t
passes (Receiving dev) t = receives_from dev t
passes (Naming region) t = names region t
passes (WeakInput region) t = is_weak_input_into region t

-- the element at place i passes, and none before it
pub record IsFirst {X : Type 0} (p : X → Bool) (xs : List X) (i : ℕ) : Type 0 where
  pub there : i < length xs
  pub passing : (d : X) → p (slice_index_or xs i d) ≡ true
  pub before : (j : ℕ) (d : X) → j < i → p (slice_index_or xs j d) ≡ false
