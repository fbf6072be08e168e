-- Steps that change nothing but one handle, one after another.
use Rattle.std.proofs.Common.{ℕ, refl, ◌∙◌}
use Rattle.genie_host.specs.Host.{HostView, OnlyHandle}

pub only_refl : (handle : ℕ) (v : HostView) → OnlyHandle handle v v
only_refl handle v = record { names = refl; others = λ k apart. refl; mode = refl; opened = refl; tried = refl; refusals = refl }

pub only_trans : (handle : ℕ) (u v w : HostView) → OnlyHandle handle u v → OnlyHandle handle v w → OnlyHandle handle u w
only_trans handle u v w a b = record {
  names = b.names ∙ a.names;
  others = λ k apart. b.others k apart ∙ a.others k apart;
  mode = b.mode ∙ a.mode;
  opened = b.opened ∙ a.opened;
  tried = b.tried ∙ a.tried;
  refusals = b.refusals ∙ a.refusals;
}
