-- What a store that wears out is seen as.
use Rattle.std.specs.Prelude.{ℕ}
use Rattle.genie_store.specs.MemoryView.{memory_view}
use Rattle.genie_store.specs.StoreView.{StoreView}
use Rattle.genie_embed.specs.declared.worn.WornStore.{WornStore}

-- the store below, with a count of faults of its own
abbrev pub worn_view : WornStore → StoreView
worn_view s = record (memory_view s.memory) { faults = s.faults }

-- how many puts it still takes
abbrev pub puts_left : WornStore → ℕ
puts_left s = s.left
