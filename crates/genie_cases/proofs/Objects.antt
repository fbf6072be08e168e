-- A memory with one object more.
use Rattle.std.proofs.Common.{◌≡◌, ◌≢◌, ℕ, ◌+◌, ◌<◌, ◌≤◌, Bool, true, false, List, [], ◌∷◌, zero, suc, length, set, arith, ap, sym, ◌∙◌}
use Rattle.std.specs.Prelude.{not, count_by, replicate}
use Rattle.std.proofs.lemmas.List.{get_or-set_other}
use Rattle.std.proofs.lemmas.List.Sums.{sum_by-cons}
use Rattle.genie_base.specs.Lemmas.Places.{num}
use Rattle.genie_object.specs.declared.objects.Entry.{Entry}
use Rattle.genie_object.specs.Objects.{is_absent, object_at}
use Rattle.genie_object.specs.Pages.{is_there}
use Rattle.genie_object.specs.Sound.{IsSound}
use Rattle.genie_object.specs.Touching.{system_owner}
use Rattle.genie_object.specs.declared.memory.Memory.{Memory}
use Rattle.genie_store.specs.StoreView.{StoreView}
use Rattle.genie_frame.specs.FrameTable.{counts_at, owner_at}
use Rattle.genie_cases.specs.Benches.{IsIdle, IsWell}

one_at_most : (b : Bool) → num b ≤ 1
one_at_most true = omega arith
one_at_most false = omega arith

one_more : {X : Type 0} (q : X → Bool) (xs : List X) (i : ℕ) (y : X) → count_by q (set xs i y) ≤ count_by q xs + 1
one_more q [] i y = omega arith
one_more q (x ∷ xs) zero y = omega (arith, sum_by-cons (λ z. num (q z)) y xs, sum_by-cons (λ z. num (q z)) x xs, one_at_most (q y))
one_more q (x ∷ xs) (suc i) y = omega (arith, sum_by-cons (λ z. num (q z)) x (set xs i y), sum_by-cons (λ z. num (q z)) x xs, one_more q xs i y)

-- the first one leaves room for others
pub first_object : (old new : List (List Entry)) (o : ℕ) (entries : List Entry) → old ≡ replicate 512 [] → new ≡ set old o entries → count_by (λ e. not (is_absent e)) new < 512
first_object old new o entries none made =
    let q : List Entry → Bool = λ e. not (is_absent e) in
    let was : count_by q old ≡ 0 = ap (count_by q) none in
    omega (arith, ap (count_by q) made, one_more q old o entries, was)

-- the case's own object stays as it was
pub other_well : (m n : Memory) (v : StoreView) (o p entries pages most : ℕ) (made : List Entry) → IsWell m v o entries pages most → 1 ≤ entries → object_at m.objects p ≡ [] → n ≡ record m { objects = set m.objects p made } → IsSound n → IsWell n v o entries pages most
other_well m n v o p entries pages most made w some was is s = record {
  sound = s;
  sized = record { count = w.sized.count ∙ sym (ap (λ (x : Memory). length x.slots) is); page = w.sized.page ∙ sym (ap (λ (x : Memory). x.frames.page) is) };
  page = ap (λ (x : Memory). x.frames.page) is ∙ w.page;
  size = ap (λ (x : Memory). length (object_at x.objects o)) is ∙ ap length (get_or-set_other m.objects p o made [] other) ∙ w.size;
  few = omega (arith, ap (λ (x : Memory). count_by is_there x.pages.pages) is, w.few);
  room = ap (λ (x : Memory). x.pages.most) is ∙ w.room;
}
  where
    other : o ≢ p
    other e = absurd (omega (arith, some, w.size, ap (λ q. length (object_at m.objects q)) e, ap length was))

pub other_idle : (m n : Memory) (p : ℕ) (made : List Entry) → n ≡ record m { objects = set m.objects p made } → IsIdle m → IsIdle n
other_idle m n p made is x = record {
  unlent = λ f. ap (λ (y : Memory). counts_at y.frames f) is ∙ x.unlent f;
  systems = λ f. ap (λ (y : Memory). system_owner (owner_at y.frames f)) is ∙ x.systems f;
}
