-- What changes nothing but processes and orphans.
use Rattle.std.proofs.Common.{◌≡◌, ℕ, Bool, List, [], ◌∷◌, refl, ap}
use Rattle.std.specs.Prelude.{Option, Some, None}
use Rattle.genie_base.specs.declared.semantics.Class.{Class}
use Rattle.genie_base.specs.declared.semantics.Class.TheVariants.{Copy, WeakMove}
use Rattle.genie_base.specs.declared.region.RegionState.TheVariants.{Live}
use Rattle.genie_model.specs.Regions.{change_region, with_state, put}
use Rattle.genie_model.specs.State.{State, Region, Transfer}
use Rattle.genie_model.specs.Space.{remove_found, protect_found, add_copies, add_region, copy_of, stored}
use Rattle.genie_model.specs.Outputs.{give_up}
use Rattle.genie_model.specs.Inputs.{with_buffer, weak_buffer, reusable, pages_for}
use Rattle.genie_model.specs.Ending.{filled, finish_for}
use Rattle.genie_model.specs.Lemmas.Ends.{finish_for_keeps}

-- only processes and orphans differ
abbrev pub SameBut : State → State → Type 0
SameBut u t = t ≡ record u { processes = t.processes; orphans = t.orphans }

pub copies_like : (s : State) (q : ℕ) (regions : List Region) → SameBut s (add_copies s q regions)
copies_like s q [] = refl
copies_like s q (r ∷ regions) = copies_like (add_region s q (copy_of s r)) q regions

pub remove_like : (s : State) (o : Option Region) → SameBut s (remove_found s o)
remove_like s None = refl
remove_like s (Some r) = refl

pub protect_like : (s : State) (o : Option Region) (writable : Bool) → SameBut s (protect_found s o writable)
protect_like s None writable = refl
protect_like s (Some r) writable = refl

pub stored_like : (s : State) (o : Option Region) (a : ℕ) (bytes : List ℕ) → SameBut s (stored s o a bytes)
stored_like s None a bytes = refl
stored_like s (Some r) a bytes = refl

pub given_up_like : (s : State) (class : Class) (o : Option Region) → SameBut s (give_up s class o)
given_up_like s class None = refl
given_up_like s Copy (Some r) = refl
given_up_like s class (Some r) = refl

weak_like : (s : State) (p n : ℕ) (o : Option ℕ) → SameBut s (weak_buffer s p n o)
weak_like s p n None = refl
weak_like s p n (Some k) = refl

pub buffer_like : (s : State) (p : ℕ) (class : Class) (n : ℕ) → SameBut s (with_buffer s p class n)
buffer_like s p WeakMove n = weak_like s p n (reusable s p (pages_for s n))
buffer_like s p class n = refl

pub finish_for_like : (s : State) (t : Transfer) (o : Option ℕ) → SameBut s (finish_for s t o).0
finish_for_like s t o = finish_for_keeps (SameBut s) (λ u k x new e. ap (λ (v : State). put v k x new) e) (λ u k new e. ap (λ (v : State). change_region v k (filled new)) e) (λ u k e. ap (λ (v : State). change_region v k (with_state Live)) e) s t o refl
