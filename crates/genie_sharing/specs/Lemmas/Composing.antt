-- One copy after another.
use Rattle.std.proofs.Common.{◌≡◌, ℕ, Bool, true, false, List, refl, ap, ◌∙◌}
use Rattle.std.specs.Prelude.{Option, Some, None}
use Rattle.std.specs.Option.{option_map}
use Rattle.genie_store.specs.StoreView.{StoreView}
use Rattle.genie_object.specs.declared.memory.Memory.{Memory}
use Rattle.genie_object.specs.Memory.{Seen}
use Rattle.genie_object.specs.Objects.{entry_at}
use Rattle.genie_object.specs.Touching.{KeepsLoans}
use Rattle.genie_object.specs.Sound.{IsSound, IsSized, FitsHidden}
use Rattle.genie_object.specs.Lemmas.Touching.{keeps_all, keeps_on}
use Rattle.genie_hiding.specs.Hidden.{is_among, seen_outside}
use Rattle.genie_sharing.specs.Copying.{Copies, see_from}

pub from_own : (o : Option Seen) → o ≡ option_map (see_from (λ a b. a)) o
from_own None = refl
from_own (Some s) = refl

pub from_on : (f g : ℕ → ℕ → ℕ) (o : Option Seen) → option_map (see_from g) (option_map (see_from f) o) ≡ option_map (see_from (λ a b. f (g a b) b)) o
from_on f g None = refl
from_on f g (Some s) = refl

-- a call that leaves what is seen as it was copies nothing
abbrev pub copies_same : (hidden : List ℕ) (spoken : ℕ → ℕ → Bool) (a b : Memory) (v w : StoreView) → IsSound b → IsSized b w → FitsHidden b hidden → seen_outside hidden b w ≡ seen_outside hidden a v → KeepsLoans a b → b.frames.counts ≡ a.frames.counts → b.frames.landed ≡ a.frames.landed
    → ((o i : ℕ) → is_among o hidden ≡ false → (entry_at b.objects o i).writable ≡ true → (entry_at a.objects o i).writable ≡ true)
    → ((o i : ℕ) → is_among o hidden ≡ false → (entry_at b.objects o i).page ≡ (entry_at a.objects o i).page) → Copies hidden spoken a b v w
copies_same hidden spoken a b v w sound sized fits seen keeps counts landed narrow pages = record {
  source = λ o i. o;
  own = λ o i e. refl;
  sound = sound;
  sized = sized;
  fits = fits;
  seen = seen ∙ from_own (seen_outside hidden a v);
  keeps = keeps;
  counts = counts;
  landed = landed;
  narrow = narrow;
  pages = λ o i h e. pages o i h;
}

abbrev pub copies_none : (hidden : List ℕ) (spoken : ℕ → ℕ → Bool) (m : Memory) (v : StoreView) → IsSound m → IsSized m v → FitsHidden m hidden → Copies hidden spoken m m v v
copies_none hidden spoken m v sound sized fits = record {
  source = λ a b. a;
  own = λ a b e. refl;
  sound = sound;
  sized = sized;
  fits = fits;
  seen = from_own (seen_outside hidden m v);
  keeps = keeps_all m;
  counts = refl;
  landed = refl;
  narrow = λ a b h e. e;
  pages = λ a b h e. refl;
}

abbrev pub copies_on : (hidden : List ℕ) (spoken : ℕ → ℕ → Bool) (a b c : Memory) (u v w : StoreView) → Copies hidden spoken a b u v → Copies hidden spoken b c v w → Copies hidden spoken a c u w
copies_on hidden spoken a b c u v w x y = record {
  source = λ o i. x.source (y.source o i) i;
  own = λ o i e. ap (λ n. x.source n i) (y.own o i e) ∙ x.own o i e;
  sound = y.sound;
  sized = y.sized;
  fits = y.fits;
  seen = y.seen ∙ ap (option_map (see_from y.source)) x.seen ∙ from_on x.source y.source (seen_outside hidden a u);
  keeps = keeps_on a b c x.keeps y.keeps;
  counts = y.counts ∙ x.counts;
  landed = y.landed ∙ x.landed;
  narrow = λ o i h e. x.narrow o i h (y.narrow o i h e);
  pages = λ o i h e. y.pages o i h e ∙ x.pages o i h e;
}

abbrev pub copies_more : (hidden : List ℕ) (few many : ℕ → ℕ → Bool) (a b : Memory) (v w : StoreView) → ((o i : ℕ) → many o i ≡ false → few o i ≡ false) → Copies hidden few a b v w → Copies hidden many a b v w
copies_more hidden few many a b v w wider x = record {
  source = x.source;
  own = λ o i e. x.own o i (wider o i e);
  sound = x.sound;
  sized = x.sized;
  fits = x.fits;
  seen = x.seen;
  keeps = x.keeps;
  counts = x.counts;
  landed = x.landed;
  narrow = x.narrow;
  pages = λ o i h e. x.pages o i h (wider o i e);
}
