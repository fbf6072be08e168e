-- A page of a case that is wired.
use Rattle.std.proofs.Common.{◌≡◌, ℕ, ◌<◌, List, [], ◌∷◌, length, true, zero, suc, get_or, arith, ap, sym, ◌∙◌, subst}
use Rattle.genie_frame.specs.FrameTable.{counts_at, is_held}
use Rattle.genie_store.specs.StoreView.{StoreView}
use Rattle.genie_object.specs.declared.memory.Memory.{Memory}
use Rattle.genie_plan.specs.Plans.{times}
use Rattle.genie_plan.specs.Wiring.{wired, WiresKeep}
use Rattle.genie_plan.specs.Lemmas.Landings.{times_some}
use Rattle.genie_plan.specs.Lemmas.Wiring.{wired_all}
use Rattle.genie_cases.specs.Benches.{IsWell}

only_one : (f g : ℕ) → 0 < times (f ∷ []) g → g ≡ f
only_one f g h = let s = times_some (f ∷ []) g h in at s.0 s.1 s.2
  where
    at : (k : ℕ) → k < 1 → get_or (f ∷ []) k 0 ≡ g → g ≡ f
    at zero l e = sym e
    at (suc k) l e = absurd (omega (arith, l))

pub wired_well : (m : Memory) (v : StoreView) (o entries pages most f : ℕ) → WiresKeep → IsWell m v o entries pages most → f < length m.frames.owners → is_held (counts_at m.frames f) ≡ true → IsWell (record m { frames = wired m.frames f }) v o entries pages most
wired_well m v o entries pages most f keep w l held = record {
  sound = (keep m (wired m.frames f) (f ∷ []) w.sound (wired_all m.frames (f ∷ []) w.sound.shaped.counted (λ g h. subst (λ n. n < length m.frames.owners) (sym (only_one f g h)) l)) (λ g h. ap (λ n. is_held (counts_at m.frames n)) (only_one f g h) ∙ held)).sound;
  sized = record { count = w.sized.count; page = w.sized.page };
  page = w.page;
  size = w.size;
  few = w.few;
  room = w.room;
}
