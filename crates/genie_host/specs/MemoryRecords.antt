-- What the files, failures and sinks of a host in memory are seen as.
use Rattle.std.specs.Prelude.{ℕ, List}

-- a readable name with its bytes
pub record FileView : Type 0 where
  pub name : List ℕ
  pub bytes : List ℕ

-- a failure to come, at this place of the file of this name
pub record FailView : Type 0 where
  pub name : List ℕ
  pub at : ℕ

-- a writable name that wasn't opened yet, and how many bytes it has room for
pub record SinkView : Type 0 where
  pub name : List ℕ
  pub room : ℕ

-- a writing handle: what was written, and how many of its calls failed
pub record WriterView : Type 0 where
  pub name : List ℕ
  pub room : ℕ
  pub bytes : List ℕ
  pub faults : ℕ
