-- What a call that has resolved an entry leaves, and one that the store has failed.
use Rattle.std.proofs.Common.{◌≡◌, ℕ, Bool, refl, arith, ap, sym, ◌∙◌, subst}
use Rattle.std.specs.Prelude.{Result}
use Rattle.std.specs.Option.{option_map}
use Rattle.genie_frame.specs.declared.frame.FrameId.{FrameId}
use Rattle.genie_store.specs.StoreView.{StoreView}
use Rattle.genie_object.specs.declared.memory.Memory.{Memory}
use Rattle.genie_object.specs.Memory.{seen}
use Rattle.genie_object.specs.Sound.{IsSound, IsSized}
use Rattle.genie_object.specs.Steps.{metered}
use Rattle.genie_object.specs.Touching.{is_entry}
use Rattle.genie_object.specs.Calls.{OnlyMoves, TakesAtMost}
use Rattle.genie_object.specs.Lemmas.Touching.{keeps_all, keeps_metered, sound_metered, touches_metered, touches_none}
use Rattle.genie_fault.specs.Resolving.{IsRead, IsResolved}

pub moves_resolved : {T E : Type 0} (old new : Memory) (v w : StoreView) (o i : ℕ) (f : FrameId) (r : Result T E) → IsSized old v → IsRead v w r → IsResolved old new v o i f → OnlyMoves (is_entry o i) old new v w
moves_resolved old new v w o i f r z read x = record {
  sound = x.sound;
  sized = record { count = read.count ∙ z.count ∙ sym x.keeps.slots; page = read.page ∙ z.page ∙ sym x.keeps.page };
  seen = ap (option_map (seen new)) read.slots ∙ x.seen;
  keeps = x.keeps;
  touches = x.touches;
  counts = x.counts;
  landed = x.landed;
  costs = x.costs;
}

pub takes_resolved : (old new : Memory) (v : StoreView) (o i : ℕ) (f : FrameId) → IsResolved old new v o i f → TakesAtMost 1 1 old new
takes_resolved old new v o i f x = record { free = x.free; added = x.pages }

pub moves_failed : {T E : Type 0} (old new : Memory) (v w : StoreView) (spoken : ℕ → ℕ → Bool) (r : Result T E) → IsSound old → IsSized old v → IsRead v w r → new ≡ metered old new.frames.meters → OnlyMoves spoken old new v w
moves_failed old new v w spoken r s z read e = subst (λ n. OnlyMoves spoken old n v w) (sym e) (record {
  sound = sound_metered old new.frames.meters s;
  sized = record { count = read.count ∙ z.count; page = read.page ∙ z.page };
  seen = ap (option_map (seen old)) read.slots;
  keeps = keeps_metered old old new.frames.meters (keeps_all old);
  touches = touches_metered spoken old old new.frames.meters (touches_none spoken old);
  counts = refl;
  landed = refl;
  costs = record { read = λ a b h. h; write = λ a b h. h };
})

pub takes_failed : (old new : Memory) → new ≡ metered old new.frames.meters → TakesAtMost 1 1 old new
takes_failed old new e = subst (TakesAtMost 1 1 old) (sym e) (record { free = omega arith; added = omega arith })
