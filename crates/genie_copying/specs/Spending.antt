-- What a call of a memory copies, and what it leaves of the kinds of pages.
use Rattle.std.specs.Prelude.{◌≡◌, ◌≤◌, ℕ, ◌+◌, false, List}
use Rattle.genie_hiding.specs.Hidden.{is_among}
use Rattle.genie_object.specs.declared.memory.Memory.{Memory}
use Rattle.genie_object.specs.Costs.{work, is_untouched, must_copy}
use Rattle.genie_copying.specs.Kinds.{is_unlendable, is_weakly_held}

-- the bytes read, written, copied and zeroed together rose by no more
abbrev pub CopiesAtMost : ℕ → Memory → Memory → Type 0
CopiesAtMost bytes old new = work new.frames.meters ≤ work old.frames.meters + bytes

-- pages have the size that they had, and outside hidden regions none has become untouched, and none that could be written in
-- place, or lent strongly, no longer can
pub record NoDearer (hidden : List ℕ) (old new : Memory) : Type 0 where
  pub page : new.frames.page ≡ old.frames.page
  pub reads : (o i : ℕ) → is_among o hidden ≡ false → is_untouched old o i ≡ false → is_untouched new o i ≡ false
  pub writes : (o i : ℕ) → is_among o hidden ≡ false → must_copy old o i ≡ false → must_copy new o i ≡ false
  pub sends : (o i : ℕ) → is_among o hidden ≡ false → is_unlendable old o i ≡ false → is_unlendable new o i ≡ false

-- outside hidden regions no page has become weakly held
abbrev pub StayUnheld : List ℕ → Memory → Memory → Type 0
StayUnheld hidden old new = (o i : ℕ) → is_among o hidden ≡ false → is_weakly_held old o i ≡ false → is_weakly_held new o i ≡ false
