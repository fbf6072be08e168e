-- The frame of an entry's page is there, and the page has it.
use Rattle.std.proofs.Common.{◌≡◌, ℕ, zero, suc, ◌<◌, true, false, List, [], ◌∷◌, length, ap, arith, get_or}
use Rattle.std.specs.Prelude.{Some}
use Rattle.genie_frame.specs.declared.frame.FrameId.{FrameId}
use Rattle.genie_frame.specs.declared.frame.Owner.{Owner}
use Rattle.genie_frame.specs.declared.frame.Owner.TheVariants.{Free, Page}
use Rattle.genie_frame.specs.FrameTable.{owner_at, is_owned}
use Rattle.genie_object.specs.declared.memory.Memory.{Memory}
use Rattle.genie_object.specs.Memory.{entry_frame}
use Rattle.genie_object.specs.Sound.{IsSound}
use Rattle.genie_object.specs.Keeping.{IsReady}
use Rattle.genie_plan.specs.Lemmas.Landings.{page_in}
use Rattle.genie_tcow.proofs.PageFrames.{page_owner}

pub in_owners : (owners : List Owner) (g : ℕ) → is_owned (get_or owners g Free) ≡ true → g < length owners
in_owners [] g e = let bad : false ≡ true = e in cc
in_owners (w ∷ owners) zero e = omega arith
in_owners (w ∷ owners) (suc g) e = let l : g < length owners = in_owners owners g e in omega arith

module _ (m : Memory) (o i f : ℕ) (s : IsSound m) (e : entry_frame m o i ≡ Some f) where
  pub framed_owned : is_owned (owner_at m.frames f) ≡ true
  framed_owned = ap is_owned (page_owner m o i f (page_in m o i f e) s)

  pub framed_there : f < length m.frames.owners
  framed_there = in_owners m.frames.owners f framed_owned

module _ (m : Memory) (o i : ℕ) (f : FrameId) (s : IsSound m) (r : IsReady m o i f) where
  pub ready_owner : owner_at m.frames f.0 ≡ Page r.number.0
  ready_owner = s.placed.in_frame r.number.0 f r.is_place

  pub ready_there : f.0 < length m.frames.owners
  ready_there = in_owners m.frames.owners f.0 (ap is_owned ready_owner)
