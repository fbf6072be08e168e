-- The word of each refusal.
use Rattle.std.specs.Prelude.{ℕ, List, codes}
use Rattle.genie_base.specs.declared.refusal.Refusal.{Refusal}
use Rattle.genie_base.specs.declared.refusal.Refusal.TheVariants.{Proc, Exists, Dev, Range, Region, Denied, State, Regions, Space, Backing, Transfers, Frames}

abbrev pub word_of : Refusal → List ℕ
word_of Proc = codes "proc"
word_of Exists = codes "exists"
word_of Dev = codes "dev"
word_of Range = codes "range"
word_of Region = codes "region"
word_of Denied = codes "denied"
word_of State = codes "state"
word_of Regions = codes "regions"
word_of Space = codes "space"
word_of Backing = codes "backing"
word_of Transfers = codes "transfers"
word_of Frames = codes "frames"
