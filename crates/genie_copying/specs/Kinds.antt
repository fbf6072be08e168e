-- The kinds of pages, as an event finds them. Entry i of object o is a page of the region that has the object.
use Rattle.std.specs.Prelude.{ℕ, suc, zero, ◌+◌, ◌||◌, Bool, false, Some, None, nat_lt, if◌then◌else◌}
use Rattle.genie_frame.specs.FrameTable.{counts_at, is_held}
use Rattle.genie_object.specs.declared.memory.Memory.{Memory}
use Rattle.genie_object.specs.Costs.{is_untouched}
use Rattle.genie_object.specs.Memory.{entry_frame}
use Rattle.genie_object.specs.Objects.{entry_at}
use Rattle.genie_object.specs.Pages.{page_at}

-- a page is untouched where its entry is empty or its place is nowhere: `is_untouched`
-- it is shared where more than one entry names it
abbrev pub is_shared : Memory → ℕ → ℕ → Bool
is_shared m o i = elim (entry_at m.objects o i).page [ None ↦ false | Some p ↦ nat_lt 1 (page_at m.pages.pages p.0).shares ]

-- it is strongly lent where its frame has a strong loan
abbrev pub is_strongly_lent : Memory → ℕ → ℕ → Bool
is_strongly_lent m o i = elim (entry_frame m o i) [ None ↦ false | Some f ↦ nat_lt 0 (counts_at m.frames f).strong ]

-- and weakly held where its frame has a weak loan of an output, or a loan of an input
abbrev pub is_weakly_held : Memory → ℕ → ℕ → Bool
is_weakly_held m o i = elim (entry_frame m o i) [ None ↦ false | Some f ↦ is_held (counts_at m.frames f) ]

-- it can't be written in place: it is untouched, shared or strongly lent
abbrev pub is_fixed : Memory → ℕ → ℕ → Bool
is_fixed m o i = is_untouched m o i || is_shared m o i || is_strongly_lent m o i

-- it can't be lent strongly in place: it is untouched or weakly held
abbrev pub is_unlendable : Memory → ℕ → ℕ → Bool
is_unlendable m o i = is_untouched m o i || is_weakly_held m o i

-- how many of the n pages from the first one on are of a kind, each counted once
abbrev pub count_pages : (ℕ → Bool) → ℕ → ℕ → ℕ
count_pages kind first zero = 0
count_pages kind first (suc n) = count_pages kind first n + (if kind (first + n) then 1 else 0)
