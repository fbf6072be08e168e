-- How far the meters of the frames rise, and the count of bytes that devices have landed.
use Rattle.std.specs.Prelude.{ℕ, ◌+◌, ◌≤◌}
use Rattle.genie_frame.specs.declared.frame.Meters.{Meters}
use Rattle.genie_frame.specs.FrameTable.{FrameTable}
use Rattle.genie_object.specs.Costs.{AreBelow}

-- no meter fell
pub record NoneFell (old new : Meters) : Type 0 where
  pub read : old.read ≤ new.read
  pub written : old.written ≤ new.written
  pub copied : old.copied ≤ new.copied
  pub zeroed : old.zeroed ≤ new.zeroed
  pub puts : old.puts ≤ new.puts
  pub gets : old.gets ≤ new.gets
  pub taken : old.taken ≤ new.taken

-- no meter fell, and what lay below a bound lies below one that is k higher; at most k bytes more have landed
pub record MetersRise (k : ℕ) (old new : FrameTable) : Type 0 where
  pub low : NoneFell old.meters new.meters
  pub meters : (n : ℕ) → AreBelow n old.meters → AreBelow (n + k) new.meters
  pub landed : new.landed ≤ old.landed + k
