-- What the semantics of a call says of its buffer.
use Rattle.std.specs.Prelude.{Bool, true, false}
use Rattle.genie_base.specs.declared.semantics.Semantics.{Semantics}
use Rattle.genie_base.specs.declared.semantics.Semantics.TheVariants as semantics
use Rattle.genie_base.specs.declared.semantics.Class.{Class}
use Rattle.genie_base.specs.declared.semantics.Class.TheVariants.{Copy, Share, Move, WeakMove}

-- the class forgets whether a call is emulated
abbrev pub class_of : Semantics → Class
class_of semantics.Copy = Copy
class_of semantics.EmulatedCopy = Copy
class_of semantics.Share = Share
class_of semantics.EmulatedShare = Share
class_of semantics.Move = Move
class_of semantics.EmulatedMove = Move
class_of semantics.WeakMove = WeakMove
class_of semantics.EmulatedWeakMove = WeakMove

-- writes after a strong output don't change what is sent, and a strong input is never seen in part
abbrev pub is_strong : Class → Bool
is_strong Copy = true
is_strong Share = false
is_strong Move = true
is_strong WeakMove = false

-- the system, and not the application, allocates the buffer
abbrev pub is_system : Class → Bool
is_system Copy = false
is_system Share = false
is_system Move = true
is_system WeakMove = true

abbrev pub is_emulated : Semantics → Bool
is_emulated semantics.Copy = false
is_emulated semantics.EmulatedCopy = true
is_emulated semantics.Share = false
is_emulated semantics.EmulatedShare = true
is_emulated semantics.Move = false
is_emulated semantics.EmulatedMove = true
is_emulated semantics.WeakMove = false
is_emulated semantics.EmulatedWeakMove = true
