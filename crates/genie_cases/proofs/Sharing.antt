-- A page that an empty entry comes to share.
use Rattle.std.proofs.Common.{◌≡◌, ℕ, ◌<◌, ◌≤◌, Bool, true, false, length, arith, rules, ap, sym, ◌∙◌, refl}
use Rattle.std.specs.Prelude.{Some, None}
use Rattle.genie_base.specs.Lemmas.Places.{num, count_by-set}
use Rattle.genie_frame.specs.declared.frame.FrameId.{FrameId}
use Rattle.genie_frame.specs.FrameTable.{counts_at, owner_at, is_held}
use Rattle.genie_store.specs.StoreView.{StoreView}
use Rattle.genie_object.specs.declared.memory.Memory.{Memory}
use Rattle.genie_object.specs.declared.pages.PageId.{PageId}
use Rattle.genie_object.specs.declared.pages.Place.TheVariants.{Frame}
use Rattle.genie_object.specs.Pages.{page_at, no_page, one_holder_more, is_there}
use Rattle.genie_object.specs.Objects.{entry_at, object_at}
use Rattle.genie_object.specs.Sound.{IsSound}
use Rattle.genie_object.specs.Steps.{forbidden, shared, CanShare}
use Rattle.genie_object.specs.Touching.{system_owner}
use Rattle.genie_object.specs.Lemmas.Lookup.{page_known}
use Rattle.genie_object.specs.Lemmas.Naming.{named_shared}
use Rattle.genie_object.specs.Lemmas.Forbidden.{narrows, unwritable_now, sound_forbidden, keeps_forbidden, others_unwritable}
use Rattle.genie_object.specs.Lemmas.Shared.{sound_shared, keeps_shared}
use Rattle.genie_cases.specs.Benches.{IsIdle, IsWell, OnlyShares}

-- a page of which one entry names no more than reading may be shared by an empty one
pub can_share : (m : Memory) (o i a j : ℕ) (p : PageId) → IsSound m → IsIdle m → i < length (object_at m.objects o) → j < length (object_at m.objects a) → (entry_at m.objects o i).page ≡ Some p → (entry_at m.objects a j).page ≡ None → CanShare (forbidden m o i) a j p.0
can_share m o i a j p s x li lj is empty = record {
  sound = sound_forbidden m o i li s;
  there = omega (arith, lj, (keeps_forbidden m o i li).entries a);
  empty = (narrows m o i li a j).page ∙ empty;
  some = named_shared m.pages.pages m.objects o i p s.shared is;
  unheld = λ f at. ap is_held (x.unlent f.0);
  unwritable = others_unwritable (forbidden m o i) o i p (sound_forbidden m o i li s) ((narrows m o i li o i).page ∙ is) (unwritable_now m o i li);
}

one_at_most : (b : Bool) → num b ≤ 1
one_at_most true = omega arith
one_at_most false = omega arith

pub only_shares : (m : Memory) (o i a j p : ℕ) → i < length (object_at m.objects o) → CanShare (forbidden m o i) a j p → OnlyShares m (shared (forbidden m o i) a j p)
only_shares m o i a j p li can =
    let sums = count_by-set is_there m.pages.pages p (one_holder_more (page_at m.pages.pages p)) no_page (page_known m p can.some) in
    let was : num (is_there (page_at m.pages.pages p)) ≡ 1 = (let t : is_there (page_at m.pages.pages p) ≡ true = grind (arith, rules, can.some) in ap num t) in
    record {
      sound = sound_shared (forbidden m o i) a j p can;
      frames = refl;
      slots = refl;
      most = refl;
      pages = omega (arith, sums, was, one_at_most (is_there (one_holder_more (page_at m.pages.pages p))));
      sizes = λ b. (keeps_shared (forbidden m o i) a j p can).entries b ∙ (keeps_forbidden m o i li).entries b;
    }

-- nothing was shared
pub none_shared : (m : Memory) → IsSound m → OnlyShares m m
none_shared m s = record { sound = s; frames = refl; slots = refl; most = refl; pages = omega arith; sizes = λ o. refl }

pub shared_well : (old new : Memory) (v : StoreView) (o entries pages most : ℕ) → OnlyShares old new → IsWell old v o entries pages most → IsWell new v o entries pages most
shared_well old new v o entries pages most y x = record {
  sound = y.sound;
  sized = record { count = x.sized.count ∙ sym (ap length y.slots); page = x.sized.page ∙ sym (ap (λ t. t.page) y.frames) };
  page = ap (λ t. t.page) y.frames ∙ x.page;
  size = y.sizes o ∙ x.size;
  few = omega (arith, y.pages, x.few);
  room = y.most ∙ x.room;
}

pub shared_idle : (old new : Memory) → OnlyShares old new → IsIdle old → IsIdle new
shared_idle old new y x = record {
  unlent = λ f. ap (λ t. counts_at t f) y.frames ∙ x.unlent f;
  systems = λ f. ap (λ t. system_owner (owner_at t f)) y.frames ∙ x.systems f;
}
