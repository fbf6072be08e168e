-- The sizes of the plain machine's tables.
use Rattle.std.specs.Prelude.{◌≡◌, ℕ, ◌≤◌, List, length, Option}
use Rattle.genie_model.specs.State.{Process, Transfer}

-- the page size is the configuration's, there are 16 places for processes, and at most 64 transfers are pending
pub record HasShape (size config_size : ℕ) (processes : List (Option Process)) (transfers : List Transfer) : Type 0 where
  pub page_size : size ≡ config_size
  pub places : length processes ≡ 16
  pub pending : length transfers ≤ 64
