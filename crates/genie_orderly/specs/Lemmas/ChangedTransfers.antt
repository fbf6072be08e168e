-- What a change of the first transfer that passes a test leaves of all.
use Rattle.std.proofs.Common.{◌≡◌, ℕ, ◌<◌, Bool, true, false, List, [], ◌∷◌, All, AllPairs, arith, ne_eqb, eqb-true}
use Rattle.std.specs.Prelude.{◌==◌}
use Rattle.std.proofs.lemmas.Bool.{cond_both}
use Rattle.std.proofs.lemmas.List.Elements.{All-cons, All-head, All-tail}
use Rattle.genie_model.specs.State.{Transfer}
use Rattle.genie_model.specs.Tables.{change}
use Rattle.genie_model.specs.Pending.{is_numbered}
use Rattle.genie_model.specs.Lemmas.Lists.{pairs_all, pairs_tail}

-- transfers in the order of their numbers: the one of this number is changed, and no other one
pub all_numbered : (k : ℕ) (f : Transfer → Transfer) (P Q : Transfer → Type 0) → ((t : Transfer) → (t.number == k) ≡ true → P t → Q (f t)) → ((t : Transfer) → (t.number == k) ≡ false → P t → Q t)
    → (ts : List Transfer) → AllPairs (λ (t u : Transfer). t.number < u.number) ts → All P ts → All Q (change (is_numbered k) f ts)
all_numbered k f P Q here beside [] order h = λ i d lt. absurd (omega arith)
all_numbered k f P Q here beside (t ∷ ts) order h =
    let Less : Transfer → Transfer → Type 0 = λ u w. u.number < w.number in
    let first = All-head P t ts h in
    let rest = All-tail P t ts h in
    let later = pairs_all Less t ts order in
    cond_both (t.number == k) (f t ∷ ts) (t ∷ change (is_numbered k) f ts) (All Q)
    (λ y. All-cons Q (f t) ts (here t y first) (λ i d lt. beside _ (ne_eqb _ k (λ same. let less = later i d lt in omega (arith, less, same, eqb-true t.number k y))) (rest i d lt)))
    (λ n. All-cons Q t (change (is_numbered k) f ts) (beside t n first) (all_numbered k f P Q here beside ts (pairs_tail Less t ts order) rest))

module _ {X : Type 0} where
  -- what passes the test is changed so
  pub all_passing : (P : X → Type 0) (p : X → Bool) (f : X → X) → ((x : X) → p x ≡ true → P x → P (f x)) → (xs : List X) → All P xs → All P (change p f xs)
  all_passing P p f h [] a = a
  all_passing P p f h (x ∷ xs) a = cond_both (p x) (f x ∷ xs) (x ∷ change p f xs) (All P) (λ y. All-cons P (f x) xs (h x y (All-head P x xs a)) (All-tail P x xs a)) (λ _. All-cons P x (change p f xs) (All-head P x xs a) (all_passing P p f h xs (All-tail P x xs a)))
